-- What is said of two dumps, by what is said of each.
use Rattle.std.proofs.Common.{◌≡◌, ◌∙◌, ◌⊎◌, ◌+◌, ℕ, suc, List, Result, refl, inl, inr, arith, ap, subst, length}
use Rattle.primitives.specs.declared.prim.Prim_.{Prim_}
use Rattle.fw_rule.specs.declared.rule.Dump.{Dump}
use Rattle.fw_rule.specs.declared.side.Side.{Side}
use Rattle.region_queries.specs.declared.answers.Cover.{Cover}
use Rattle.region_queries.specs.Covers.{IsRight}
use Rattle.region_queries.specs.Refusals.{IsClosed, IsRefused, IsShown, OfBoth}
use Rattle.region_queries.specs.Search.{IsTooLarge}
use Rattle.simple_filter.specs.declared.refusal.Kind.{Kind}
use Rattle.fffuu_run.specs.Covers.{Closes, CoversParts, IsDivided, RefusesCovers, RefusesParts, cover_text, moved}
use Rattle.fffuu_run.specs.Filters.{IsClosingOver}
use Rattle.fffuu_run.specs.Questions.{AsksChain, Comes, HasNoChain, IsToldAs}
use Rattle.fffuu_run.specs.declared.status.Status.{Status}
use Rattle.fffuu_run.specs.declared.status.Status.TheVariants as status
use Rattle.dump_read.specs.declared.fault.ReadFault.{ReadFault}
use Rattle.fffuu_run.specs.inner.Readings.{HoldsOfTexts, IsReadOf}
use Rattle.fffuu_run.specs.inner.Pairs.{HasLineAfter, HasLinesAfter, HasNoLine, IsIn, IsLine, IsOut}
use Rattle.simple_filter.specs.declared.refusal.Refusal.{Refusal}
use Rattle.fffuu_run.proofs.Closings.{closing_comes, closing_within}
use Rattle.fffuu_run.proofs.LineBounds.{told_after}

module _ {W : ℕ} (side : Side) (dump : Dump (Prim_ W)) (chain : ℕ) where
  -- a refusal that is told, or else this status
  pub or_out : (other : Status) (refusal : Refusal) → Comes dump chain (IsClosingOver dump chain side) refusal → (s : Status)
      → (s ≡ status.Memory) ⊎ IsToldAs dump refusal s → (s ≡ status.Memory) ⊎ (IsOut side dump chain s ⊎ (IsIn side dump chain × (s ≡ other)))
  or_out other refusal comes s (inl memory) = inl memory
  or_out other refusal comes s (inr told) = inr (inl (refusal, comes, told))

module _ {W : ℕ} (side : Side) (dump : Dump (Prim_ W)) (chain : ℕ) where
  -- a chain that isn't closed, for another cause than memory
  refused_comes : (refusal : Refusal) → IsRefused dump chain side refusal → Comes dump chain (IsClosingOver dump chain side) refusal
  refused_comes Refusal.Memory r = tt
  refused_comes (Refusal.Unsupported line name) r = closing_comes dump chain side (Refusal.Unsupported line name) r
  refused_comes (Refusal.Loop c) r = closing_comes dump chain side (Refusal.Loop c) r
  refused_comes (Refusal.Limit k) r = closing_comes dump chain side (Refusal.Limit k) r

  closed_in : IsClosed dump chain side → IsIn side dump chain
  closed_in closed = closing_within dump chain side closed.0 closed.1

module _ {W : ℕ} (a : Dump (Prim_ W)) (a_chain : ℕ) (b : Dump (Prim_ W)) (b_chain : ℕ) where
  pub line_is : (text_of : ℕ → List ℕ) (answer : Cover) (written : List ℕ) → IsRight a a_chain b b_chain answer → IsShown a a_chain b b_chain answer
      → written ≡ cover_text text_of answer → IsLine text_of a a_chain b b_chain written
  line_is text_of answer written right shown is = record {
    first_in = closed_in Side.Upper a a_chain shown.first_closed;
    second_in = closed_in Side.Lower b b_chain shown.second_closed;
    text = record { answer = answer; right = right; shown = shown; written_is = is };
  }

  module _ (before : ℕ) where
    pub first_out : (refusal : Refusal) → IsRefused a a_chain Side.Upper refusal → (s : Status) → (s ≡ status.Memory) ⊎ IsToldAs a refusal s
        → HasNoLine a a_chain b b_chain before s
    first_out refusal refused s (inl memory) = inl memory
    first_out refusal refused s (inr told) = inr (inl (refusal, refused_comes Side.Upper a a_chain refusal refused, told))

    pub second_out : (refusal : Refusal) → IsClosed a a_chain Side.Upper × IsRefused b b_chain Side.Lower refusal → (own : Status)
        → (own ≡ status.Memory) ⊎ IsToldAs b refusal own → (s : Status) → s ≡ moved before own → HasNoLine a a_chain b b_chain before s
    second_out refusal (closed, refused) own (inl memory) s is = inl (is ∙ ap (moved before) memory)
    second_out refusal (closed, refused) own (inr told) s is =
        inr (inr (closed_in Side.Upper a a_chain closed, inl (own, (refusal, refused_comes Side.Lower b b_chain refusal refused, told), is)))

    pub second_after : (refusal : Refusal) → IsRefused b b_chain Side.Lower refusal → HasLinesAfter before b → (own : Status)
        → (own ≡ status.Memory) ⊎ IsToldAs b refusal own → HasLineAfter before own
    second_after refusal refused lines own told =
        told_after b b_chain (IsClosingOver b b_chain Side.Lower) before lines refusal (refused_comes Side.Lower b b_chain refusal refused) own told

    pub regions_out : OfBoth a a_chain b b_chain IsTooLarge → HasNoLine a a_chain b b_chain before (status.Limit Kind.Regions)
    regions_out large = inr (inr (closed_in Side.Upper a a_chain large.first_closed, inr (closed_in Side.Lower b b_chain large.second_closed, (refl, large))))

  -- what is said of two dumps is said of the parts that they were read from
  module _ (Reads : List ℕ → ℕ → Type 0) (text_of : ℕ → List ℕ) (name first second : List ℕ) (asks : AsksChain W Reads name first a a_chain) where
    closes : (side : Side) (IsSo : Dump (Prim_ W) → ℕ → Type 0) → IsIn side a a_chain → IsSo a a_chain → Closes W Reads text_of name side first IsSo
    closes side IsSo within so = record { dump = a; chain = a_chain; asked = asks; within = within; answered = so }

    -- no chain is asked about in the second part
    pub second_missing : (before : ℕ) (own : Status) → (own ≡ status.Memory) ⊎ HasNoChain W Reads name second own → (s : Status)
        → (s ≡ status.Memory) ⊎ (IsOut Side.Upper a a_chain s ⊎ (IsIn Side.Upper a a_chain × (s ≡ moved before own)))
        → (s ≡ status.Memory) ⊎ RefusesParts W Reads text_of name before first second s
    second_missing before own missing s (inl memory) = inl memory
    second_missing before own missing s (inr (inl out)) = inr (inl (inr (a, a_chain, asks, out)))
    second_missing before own (inl memory) s (inr (inr (within, is))) = inl (is ∙ ap (moved before) memory)
    second_missing before own (inr none) s (inr (inr (within, is))) = inr (inr (closes Side.Upper _ within (inl (own, inl none, is))))

    module _ (other : AsksChain W Reads name second b b_chain) where
      closes_second : (IsSo : Dump (Prim_ W) → ℕ → Type 0) → IsIn Side.Lower b b_chain → IsSo b b_chain → Closes W Reads text_of name Side.Lower second IsSo
      closes_second IsSo within so = record { dump = b; chain = b_chain; asked = other; within = within; answered = so }

      pub parts_line : (written : List ℕ) → IsLine text_of a a_chain b b_chain written → CoversParts W Reads text_of name first second written
      parts_line written line = closes Side.Upper _ line.first_in (closes_second _ line.second_in line.text)

      pub parts_none : (before : ℕ) (s : Status) → HasNoLine a a_chain b b_chain before s → (s ≡ status.Memory) ⊎ RefusesParts W Reads text_of name before first second s
      parts_none before s (inl memory) = inl memory
      parts_none before s (inr (inl out)) = inr (inl (inr (a, a_chain, asks, out)))
      parts_none before s (inr (inr (within, inl (own, out, is)))) =
          inr (inr (closes Side.Upper _ within (inl (own, inr (b, b_chain, other, out), is))))
      parts_none before s (inr (inr (within, inr (also, (is, large))))) =
          inr (inr (closes Side.Upper _ within (inr (closes_second _ also (is, large)))))

-- what is missing in each text of which this was read is missing in this one
pub missing_of : {W : ℕ} (Reads : List ℕ → ℕ → Type 0) (name text : List ℕ) (read : Result (Dump (Prim_ W)) ReadFault) → IsReadOf W Reads text read → (s : Status)
    → (s ≡ status.Memory) ⊎ HoldsOfTexts W Reads read (λ t. HasNoChain W Reads name t s) → (s ≡ status.Memory) ⊎ HasNoChain W Reads name text s
missing_of Reads name text read was s (inl memory) = inl memory
missing_of Reads name text read was s (inr none) = inr (none text was)

-- why a divided text has no line
pub divided_none : (W : ℕ) (Reads : List ℕ → ℕ → Type 0) (text_of : ℕ → List ℕ) (name text : List ℕ) (lines : List (List ℕ)) (first second : List ℕ) (before : ℕ)
    → IsDivided text lines first second → before ≡ length lines + 1 → (s : Status) → (s ≡ status.Memory) ⊎ RefusesParts W Reads text_of name before first second s
    → (s ≡ status.Memory) ⊎ RefusesCovers W Reads text_of name text s
divided_none W Reads text_of name text lines first second before divides is s (inl memory) = inl memory
divided_none W Reads text_of name text lines first second before divides is s (inr refused) =
    let same : before ≡ suc (length lines) = omega (arith, is) in
    inr (inr (lines, first, second, (divides, subst (λ (n : ℕ). RefusesParts W Reads text_of name n first second s) same refused)))
