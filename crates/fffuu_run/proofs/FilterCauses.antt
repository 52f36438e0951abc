-- When a filter and a summary of both filters are refused.
use Rattle.std.proofs.Common.{◌≡◌, ◌∙◌, ◌⊎◌, ◌<◌, ◌≤◌, ℕ, List, refl, inl, inr, ap, arith, subst, sym}
use Rattle.primitives.specs.declared.prim.Prim_.{Prim_}
use Rattle.fw_rule.specs.declared.rule.Dump.{Dump}
use Rattle.fw_rule.specs.declared.rule.Verdict.{Verdict}
use Rattle.fw_rule.specs.declared.side.Side.{Side}
use Rattle.box_norm.specs.declared.cube.SimpleRule.{SimpleRule}
use Rattle.chain_graph.specs.Refusals.{IsChecked}
use Rattle.limits.specs.declared.TheConstants.{MOST_LINES}
use Rattle.simple_filter.specs.Closed.{IsSmall, RefusesClosed}
use Rattle.simple_filter.specs.declared.refusal.Kind.{Kind}
use Rattle.simple_filter.specs.declared.refusal.Kind.TheVariants as kind
use Rattle.simple_filter.specs.declared.refusal.Refusal.{Refusal}
use Rattle.dump_print.specs.Printed.{count_lines, printed}
use Rattle.fffuu_run.specs.Filters.{IsClosingOver, IsFilterOver, IsPrintedFilter, simple_rules}
use Rattle.fffuu_run.specs.Headline.{IsChain, IsFilterOf}
use Rattle.fffuu_run.specs.Loads.{IsLoadOver}
use Rattle.fffuu_run.specs.Questions.{Comes, IsWithin, order_of}
use Rattle.fffuu_run.proofs.Closings.{closing_comes, closing_front, closing_within}
use Rattle.fffuu_run.proofs.Limits.{comes_too, last_comes, within_too}

module _ {W : ℕ} (text_of : ℕ → List ℕ) (name : List ℕ) (dump : Dump (Prim_ W)) (chain : ℕ) where
  abbrev lines : Side → ℕ
  lines side = count_lines text_of W name (simple_rules dump chain side)

  abbrev IsSideOver : Side → Kind → Type 0
  IsSideOver side = IsFilterOver text_of side name dump chain

  module _ (side : Side) where
    lines_to : (k : Kind) → IsClosingOver dump chain side k → IsSideOver side k
    lines_to kind.Lines over = absurd over
    lines_to k over = over

    lines_parted : (k : Kind) → IsSideOver side k → (k ≡ kind.Lines) ⊎ IsClosingOver dump chain side k
    lines_parted kind.Lines over = inl refl
    lines_parted k over = inr over

    -- what keeps the chain from being closed keeps its filter from being printed
    pub closed_refused : (a : Refusal) → RefusesClosed dump chain side a → Comes dump chain (IsSideOver side) a
    closed_refused a p = comes_too dump chain (IsClosingOver dump chain side) (IsSideOver side) kind.Lines lines_to (closing_front dump chain side) lines_parted a
        (closing_comes dump chain side a p)

    -- so does the number of its lines
    lines_refused : IsChecked dump chain → IsSmall dump chain side → MOST_LINES < lines side
        → Comes dump chain (IsSideOver side) (Refusal.Limit kind.Lines)
    lines_refused calls small many =
        last_comes dump chain (IsClosingOver dump chain side) (IsSideOver side) kind.Lines lines_to (closing_front dump chain side) lines_parted
        (closing_within dump chain side calls small) many

    filter_within : IsChecked dump chain → IsSmall dump chain side → lines side ≤ MOST_LINES → IsWithin dump chain (IsSideOver side)
    filter_within calls small few =
        within_too dump chain (IsClosingOver dump chain side) (IsSideOver side) kind.Lines lines_to (closing_front dump chain side) lines_parted
        (closing_within dump chain side calls small) (λ many. omega (arith, few, many))

    -- the rules of the closed chain are printed on few lines, or on too many
    module _ (rules : List (SimpleRule W)) (rules_are : rules ≡ simple_rules dump chain side) (calls : IsChecked dump chain) (small : IsSmall dump chain side) where
      pub few_lines : count_lines text_of W name rules ≤ MOST_LINES → IsWithin dump chain (IsSideOver side)
      few_lines few = filter_within calls small (subst (λ (rs : List (SimpleRule W)). count_lines text_of W name rs ≤ MOST_LINES) rules_are few)

      pub many_lines : MOST_LINES < count_lines text_of W name rules → Comes dump chain (IsSideOver side) (Refusal.Limit kind.Lines)
      many_lines many = lines_refused calls small (subst (λ (rs : List (SimpleRule W)). MOST_LINES < count_lines text_of W name rs) rules_are many)

  -- Of a load: both sides.
  abbrev IsSumOver : Kind → Type 0
  IsSumOver = IsLoadOver text_of name dump chain

  pub both_within : IsWithin dump chain (IsSideOver Side.Upper) → IsWithin dump chain (IsSideOver Side.Lower) → IsWithin dump chain IsSumOver
  both_within upper lower = record { settled = upper.settled; within = kept }
    where
      kept : (k : Kind) → IsSumOver k → ⊥
      kept k (Side.Upper, over) = upper.within k over
      kept k (Side.Lower, over) = lower.within k over

  -- what refuses a side for no limit
  pub other_refused : (side : Side) (a : Refusal) → ((k : Kind) → a ≡ Refusal.Limit k → ⊥) → Comes dump chain (IsSideOver side) a
      → Comes dump chain IsSumOver a
  other_refused side (Refusal.Limit k) other p = absurd (other k refl)
  other_refused side (Refusal.Unsupported line n) other p = p
  other_refused side (Refusal.Loop c) other p = p
  other_refused side Refusal.Memory other p = tt

  -- a limit that a side passes, where none before it is passed on either side
  side_refused : (side : Side) (k : Kind) → Comes dump chain (IsSideOver side) (Refusal.Limit k)
      → ((other : Side) (e : Kind) → order_of e < order_of k → IsSideOver other e → ⊥) → Comes dump chain IsSumOver (Refusal.Limit k)
  side_refused side k (none, no_loop, over, first) before =
      (none, no_loop, (side, over), λ e less passed. before passed.0 e less passed.1)

  pub upper_refused : (k : Kind) → Comes dump chain (IsSideOver Side.Upper) (Refusal.Limit k) → IsWithin dump chain (IsSideOver Side.Lower)
      → Comes dump chain IsSumOver (Refusal.Limit k)
  upper_refused k p lower = side_refused Side.Upper k p before
    where
      before : (other : Side) (e : Kind) → order_of e < order_of k → IsSideOver other e → ⊥
      before Side.Upper e less over = p.3 e less over
      before Side.Lower e less over = lower.within e over

  pub lower_refused : (k : Kind) → IsWithin dump chain (IsSideOver Side.Upper) → Comes dump chain (IsSideOver Side.Lower) (Refusal.Limit k)
      → Comes dump chain IsSumOver (Refusal.Limit k)
  lower_refused k upper p = side_refused Side.Lower k p before
    where
      before : (other : Side) (e : Kind) → order_of e < order_of k → IsSideOver other e → ⊥
      before Side.Upper e less over = upper.within e over
      before Side.Lower e less over = p.3 e less over

  pub both_refused : (k l m : Kind) → Comes dump chain (IsSideOver Side.Upper) (Refusal.Limit k) → Comes dump chain (IsSideOver Side.Lower) (Refusal.Limit l)
      → (m ≡ k) ⊎ (m ≡ l) → order_of m ≤ order_of k → order_of m ≤ order_of l → Comes dump chain IsSumOver (Refusal.Limit m)
  both_refused k l m p q is low low' = elim is [
    | inl same ↦ side_refused Side.Upper m (subst (λ (x : Kind). Comes dump chain (IsSideOver Side.Upper) (Refusal.Limit x)) (sym same) p) before
    | inr same ↦ side_refused Side.Lower m (subst (λ (x : Kind). Comes dump chain (IsSideOver Side.Lower) (Refusal.Limit x)) (sym same) q) before
  ]
    where
      before : (other : Side) (e : Kind) → order_of e < order_of m → IsSideOver other e → ⊥
      before Side.Upper e less over = p.3 e (omega (arith, less, low)) over
      before Side.Lower e less over = q.3 e (omega (arith, less, low')) over

-- what is written is a filter of the chain where the text of its rules is one
pub is_printed : {W : ℕ} (Reads : List ℕ → ℕ → Type 0) (text_of : ℕ → List ℕ) (side : Side) (name : List ℕ) (dump : Dump (Prim_ W)) (chain : ℕ)
    (policy : Verdict) (rules : List (SimpleRule W)) → rules ≡ simple_rules dump chain side → IsChain dump chain name policy
    → IsFilterOf W Reads side dump chain name policy (printed text_of W name policy rules)
    → (written : List ℕ) → written ≡ printed text_of W name policy rules → IsPrintedFilter W Reads text_of side name dump chain written
is_printed {W} Reads text_of side name dump chain policy rules rules_are chain_is means written is = record {
  policy = policy;
  chain_is = chain_is;
  written_is = is ∙ ap (printed text_of W name policy) rules_are;
  means = subst (IsFilterOf W Reads side dump chain name policy) (sym is) means;
}
