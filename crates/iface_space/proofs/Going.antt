-- Going through the chains of a dump beside their ranks.
use Rattle.std.proofs.Common.{ℕ, suc, ◌+◌, ◌<◌, ◌≤◌, ◌≡◌, List, [], drop, length, get_or, add-one, drop-cons, arith, sym, ap, ap₂, ◌∙◌}
use Rattle.std.specs.Prelude.{Option, None, if◌then◌else◌}
use Rattle.std.specs.List.{flat_map, fold, zip}
use Rattle.std.specs.Option.{is_some}
use Rattle.std.proofs.lemmas.List.Sums.{fold-append}
use Rattle.std.proofs.Math.ListN.{drop_of_length-le}
use Rattle.fw_rule.specs.declared.rule.Chain.{Chain}
use Rattle.name_set.specs.declared.pattern.Pattern.{Pattern}
use Rattle.primitives.specs.declared.prim.Prim_.{Prim_}
use Rattle.iface_space.specs.declared.tested.Direction.{Direction}
use Rattle.iface_space.specs.Tested.{tested_in, tested_ranked}
use Rattle.iface_space.specs.inner.Adding.{with_new}

module _ {W : ℕ} (direction : Direction) (chains : List (Chain (Prim_ W))) (ranks : List (Option ℕ)) where
  -- what is left after the first `i`
  abbrev left : ℕ → List Pattern
  left i = flat_map (tested_ranked direction) (zip (drop i chains) (drop i ranks))

  pub one_more : (i : ℕ) (d : Chain (Prim_ W)) (found next : List Pattern) → i < length chains → length ranks ≡ length chains →
      next ≡ fold with_new found (if is_some (get_or ranks i None) then tested_in direction (get_or chains i d).rules else []) →
      fold with_new next (left (i + 1)) ≡ fold with_new found (left i)
  one_more i d found next l long e =
      let h : i < length ranks = omega arith in
      let here = tested_ranked direction (get_or chains i d, get_or ranks i None) in
      ap (λ (n : ℕ). fold with_new next (left n)) (add-one i)
      ∙ ap (λ (xs : List Pattern). fold with_new xs (left (suc i))) e
      ∙ sym (fold-append with_new found here (left (suc i)))
      ∙ ap₂ (λ (xs : List (Chain (Prim_ W))) (ys : List (Option ℕ)). fold with_new found (flat_map (tested_ranked direction) (zip xs ys)))
      (sym (drop-cons chains i d l)) (sym (drop-cons ranks i None h))

  -- past the last chain nothing is left
  pub all_gone : (i : ℕ) (found : List Pattern) → length chains ≤ i → fold with_new found (left i) ≡ found
  all_gone i found l = ap (λ (xs : List (Chain (Prim_ W))). fold with_new found (flat_map (tested_ranked direction) (zip xs (drop i ranks)))) (drop_of_length-le chains l)
