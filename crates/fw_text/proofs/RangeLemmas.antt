-- The ranges behind the first one.
use Rattle.std.proofs.Common.{ℕ, ◌+◌, ◌-◌, ◌^◌, ◌≤◌, ◌≡◌, ◌++◌, List, [], ◌∷◌, append_assoc, ap, arith, codes, drop, get_or, length, subst, sym, take, ◌∙◌}
use Rattle.std.specs.List.{AllByRecursion, flat_map}
use Rattle.std.proofs.lemmas.List.{take_rest}
use Rattle.interval_set.specs.declared.set.Range.{Range}
use Rattle.interval_set.specs.Numbers.{Ascends}
use Rattle.primitives.specs.Ranges.{IsRange}
use Rattle.primitives.proofs.RangeLemmas.{ranges_of}
use Rattle.fw_text.specs.Ranges.{range_text, ranges_text}

module _ (text_of : ℕ → List ℕ) (w : ℕ) where
  -- what is still to be appended, and that these are ranges
  pub record IsLeft (old text : List ℕ) (ranges left : List Range) : Type 0 where
    pub whole : text ++ flat_map (λ (r : Range). codes "," ++ range_text text_of r) left ≡ old ++ ranges_text text_of ranges
    pub are_ranges : AllByRecursion (IsRange w) left

  pub first_appended : (old text : List ℕ) (ranges : List Range) (d : Range) → 1 ≤ length ranges → Ascends (2 ^ w - 1) 0 ranges →
      text ≡ old ++ range_text text_of (get_or ranges 0 d) → IsLeft old text ranges (take (length ranges - 1) (drop 1 ranges))
  first_appended old text [] d some a e = absurd (omega (arith, some))
  first_appended old text (r ∷ rs) d some a e =
      let more : List Range → List ℕ = λ xs. flat_map (λ (x : Range). codes "," ++ range_text text_of x) xs in
      let left : IsLeft old text (r ∷ rs) rs = record {
        whole = ap (λ (xs : List ℕ). xs ++ more rs) e ∙ append_assoc old (range_text text_of r) (more rs);
        are_ranges = ranges_of w (r.hi + 2) rs a.3;
      } in
      subst (IsLeft old text (r ∷ rs)) (sym (take_rest (r ∷ rs) 1)) left
