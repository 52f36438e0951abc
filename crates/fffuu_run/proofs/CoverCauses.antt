-- A comparison has one cause of refusal at most, and none where it has an answer.
use Rattle.std.proofs.Common.{◌≡◌, ◌∙◌, ℕ, suc, List, Some, inl, inr, ap, subst, sym, length}
use Rattle.primitives.specs.declared.prim.Prim_.{Prim_}
use Rattle.fw_rule.specs.declared.rule.Dump.{Dump}
use Rattle.fw_rule.specs.declared.rule.Verdict.{Verdict}
use Rattle.fw_rule.specs.declared.side.Side.{Side}
use Rattle.fw_rule.specs.Walk.{policy_of}
use Rattle.dump_grammar.specs.Lines.{Text}
use Rattle.region_cut.specs.Search.{with_policy}
use Rattle.region_queries.specs.declared.answers.Cover.{Cover}
use Rattle.region_queries.specs.Refusals.{IsShown, OfBoth, simple_rules}
use Rattle.region_queries.specs.Search.{IsTooLarge, flipped}
use Rattle.fffuu_run.specs.Covers.{Closes, Covers, CoversParts, RefusesCovers, RefusesPart, RefusesParts, moved}
use Rattle.fffuu_run.specs.Filters.{IsClosingOver}
use Rattle.fffuu_run.specs.Questions.{AsksChain, asked_chain}
use Rattle.fffuu_run.specs.declared.status.Status.{Status}
use Rattle.fffuu_run.specs.declared.status.Status.TheVariants as status
use Rattle.fffuu_run.proofs.Division.{SameParts, one_division}
use Rattle.fffuu_run.proofs.Options.{one_some}
use Rattle.fffuu_run.proofs.Settled.{IsRefusal, IsSettled, ReadingLaws, no_question, one_question, question_refusal}

-- a cause that is told of the second part is one
moved_refusal : (before : ℕ) (own : Status) → IsRefusal own → IsRefusal (moved before own)
moved_refusal before status.Ok r = r
moved_refusal before status.Usage r = r
moved_refusal before status.ReadFault r = r
moved_refusal before status.WriteFault r = r
moved_refusal before status.InputTooLong r = r
moved_refusal before status.NoDivider r = tt
moved_refusal before (status.Malformed n) r = tt
moved_refusal before status.NoFilter r = tt
moved_refusal before (status.UndefinedChain n) r = tt
moved_refusal before status.NoChain r = tt
moved_refusal before (status.Unsupported n name) r = tt
moved_refusal before (status.CallLoop name) r = tt
moved_refusal before (status.Limit kind) r = tt
moved_refusal before status.Memory r = r

-- a search that ends doesn't come to too many regions
module _ {W : ℕ} (a : Dump (Prim_ W)) (a_chain : ℕ) (b : Dump (Prim_ W)) (b_chain : ℕ) where
  not_large : (answer : Cover) → IsShown a a_chain b b_chain answer → OfBoth a a_chain b b_chain IsTooLarge → ⊥
  not_large answer shown large =
      let firsts = one_some (policy_of a a_chain) large.first_policy shown.first_policy large.first_has shown.first_has in
      let seconds = one_some (policy_of b b_chain) large.second_policy shown.second_policy large.second_has shown.second_has in
      shown.so.1 (subst (λ (v : Verdict). IsTooLarge (flipped (simple_rules b b_chain Side.Lower) shown.second_policy) (with_policy (simple_rules a a_chain Side.Upper) v)) firsts
      (subst (λ (v : Verdict). IsTooLarge (flipped (simple_rules b b_chain Side.Lower) v) (with_policy (simple_rules a a_chain Side.Upper) large.first_policy)) seconds large.so))

module _ {W : ℕ} {Reads : List ℕ → ℕ → Type 0} (laws : ReadingLaws W Reads) (text_of : ℕ → List ℕ) (name : List ℕ) where
  -- a part asks for one chain of one dump
  module _ (part : Text) (dump dump' : Dump (Prim_ W)) (chain chain' : ℕ) (a : AsksChain W Reads name part dump chain) (b : AsksChain W Reads name part dump' chain') where
    same_dump : dump' ≡ dump
    same_dump = laws.one_dump part dump' dump b.0 a.0

    same_chain : chain' ≡ chain
    same_chain = one_some (asked_chain name dump) chain' chain (subst (λ (d : Dump (Prim_ W)). asked_chain name d ≡ Some chain') same_dump b.1) a.1

    same_asked : (Is : Dump (Prim_ W) → ℕ → Type 0) → Is dump' chain' → Is dump chain
    same_asked Is is = subst (λ (c : ℕ). Is dump c) same_chain (subst (λ (d : Dump (Prim_ W)). Is d chain') same_dump is)

  module _ (side : Side) (part : Text) where
    one_part : (s t : Status) → RefusesPart W Reads text_of name side part s → RefusesPart W Reads text_of name side part t → s ≡ t
    one_part = one_question laws name part (λ dump chain. IsClosingOver dump chain side)

    no_part : (IsSo : Dump (Prim_ W) → ℕ → Type 0) → Closes W Reads text_of name side part IsSo → (s : Status)
        → RefusesPart W Reads text_of name side part s → ⊥
    no_part = no_question laws name part (λ dump chain. IsClosingOver dump chain side)

    part_refusal : (s : Status) → RefusesPart W Reads text_of name side part s → IsRefusal s
    part_refusal = question_refusal laws name part (λ dump chain. IsClosingOver dump chain side)

  module _ (before : ℕ) (first second : Text) where
    one_cover : (s t : Status) → RefusesParts W Reads text_of name before first second s → RefusesParts W Reads text_of name before first second t → s ≡ t
    one_cover s t (inl p) (inl q) = one_part Side.Upper first s t p q
    one_cover s t (inl p) (inr b) = absurd (no_part Side.Upper first _ b s p)
    one_cover s t (inr a) (inl q) = absurd (no_part Side.Upper first _ a t q)
    one_cover s t (inr a) (inr b) = elim a.answered [
      | inl p ↦ elim b.answered [
        | inl q ↦ p.2 ∙ ap (moved before) (one_part Side.Lower second p.0 q.0 p.1 q.1) ∙ sym q.2
        | inr y ↦ absurd (no_part Side.Lower second _ y p.0 p.1)
      ]
      | inr x ↦ elim b.answered [
        | inl q ↦ absurd (no_part Side.Lower second _ x q.0 q.1)
        | inr y ↦ x.answered.0 ∙ sym y.answered.0
      ]
    ]

    no_cover : (written : List ℕ) (s : Status) → CoversParts W Reads text_of name first second written → RefusesParts W Reads text_of name before first second s → ⊥
    no_cover written s c (inl p) = no_part Side.Upper first _ c s p
    no_cover written s c (inr a) = elim a.answered [
      | inl p ↦ no_part Side.Lower second _ c.answered p.0 p.1
      | inr y ↦
          let inner = c.answered in
          let firsts = same_asked first c.dump a.dump c.chain a.chain c.asked a.asked (λ d k. OfBoth d k y.dump y.chain IsTooLarge) y.answered.1 in
          let both = same_asked second inner.dump y.dump inner.chain y.chain inner.asked y.asked (λ d k. OfBoth c.dump c.chain d k IsTooLarge) firsts in
          not_large c.dump c.chain inner.dump inner.chain inner.answered.answer inner.answered.shown both
    ]

    cover_refusal : (s : Status) → RefusesParts W Reads text_of name before first second s → IsRefusal s
    cover_refusal s (inl p) = part_refusal Side.Upper first s p
    cover_refusal s (inr a) = elim a.answered [
      | inl p ↦ subst IsRefusal (sym p.2) (moved_refusal before p.0 (part_refusal Side.Lower second p.0 p.1))
      | inr y ↦ subst IsRefusal (sym y.answered.0) tt
    ]

  module _ (text : Text) where
    -- what is said of one division is said of another
    same_refused : (lines lines' : List Text) (first first' second second' : Text) (s : Status) → SameParts lines lines' first first' second second'
        → RefusesParts W Reads text_of name (suc (length lines')) first' second' s → RefusesParts W Reads text_of name (suc (length lines)) first second s
    same_refused lines lines' first first' second second' s same r =
        subst (λ (ls : List Text). RefusesParts W Reads text_of name (suc (length ls)) first second s) (sym same.lines_are)
        (subst (λ (t : Text). RefusesParts W Reads text_of name (suc (length lines')) t second s) (sym same.first_is)
        (subst (λ (t : Text). RefusesParts W Reads text_of name (suc (length lines')) first' t s) (sym same.second_is) r))

    one : (s t : Status) → RefusesCovers W Reads text_of name text s → RefusesCovers W Reads text_of name text t → s ≡ t
    one s t (inl (is, none)) (inl (is', none')) = is ∙ sym is'
    one s t (inl (is, none)) (inr (lines, first, second, (divides, r))) = absurd (none lines first second divides)
    one s t (inr (lines, first, second, (divides, r))) (inl (is, none)) = absurd (none lines first second divides)
    one s t (inr (lines, first, second, (divides, r))) (inr (lines', first', second', (divides', r'))) =
        one_cover (suc (length lines)) first second s t r
        (same_refused lines lines' first first' second second' t (one_division text lines lines' first first' second second' divides divides') r')

    none_with : (written : List ℕ) (s : Status) → Covers W Reads text_of name text written → RefusesCovers W Reads text_of name text s → ⊥
    none_with written s (lines, first, second, (divides, c)) (inl (is, none)) = none lines first second divides
    none_with written s (lines, first, second, (divides, c)) (inr (lines', first', second', (divides', r))) =
        no_cover (suc (length lines)) first second written s c
        (same_refused lines lines' first first' second second' s (one_division text lines lines' first first' second second' divides divides') r)

    cause : (s : Status) → RefusesCovers W Reads text_of name text s → IsRefusal s
    cause s (inl (is, none)) = subst IsRefusal (sym is) tt
    cause s (inr (lines, first, second, (divides, r))) = cover_refusal (suc (length lines)) first second s r

    pub cover_settled : IsSettled (λ s. RefusesCovers W Reads text_of name text s) (λ written. Covers W Reads text_of name text written)
    cover_settled = record { one = one; none = none_with; cause = cause }
