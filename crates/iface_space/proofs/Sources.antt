-- The addresses behind interfaces of some names.
use Rattle.std.proofs.Common.{ℕ, ◌+◌, ◌-◌, ◌^◌, ◌<◌, ◌≤◌, ◌≡◌, ◌&&◌, ◌||◌, Bool, true, false, List, take, length, get_or, arith, sym, ap, ◌∙◌}
use Rattle.std.proofs.lemmas.List.{take_all}
use Rattle.std.proofs.lemmas.List.Folds.{list_any_more}
use Rattle.interval_set.specs.declared.set.Range.{Range}
use Rattle.interval_set.specs.Numbers.{has, IsSet, IsWidth}
use Rattle.interval_set.specs.Spelling.{set_or}
use Rattle.interval_set.proofs.Spelling.{where_ascends, spelled}
use Rattle.iface_space.specs.declared.zones.Zone.{Zone}
use Rattle.iface_space.specs.Zones.{is_behind, sources_of}

-- what both of two sets have, is a set
pub or_set : (w : ℕ) (rs a b : List Range) → IsWidth w → rs ≡ set_or w a b → IsSet w rs
unfolding set_or
or_set w rs a b h e = rw e (h, where_ascends (λ n. has a n || has b n) (2 ^ w) (2 ^ w - 1) (omega arith))

module _ {W : ℕ} (zones : List (Zone W)) (named : List ℕ → Bool) where
  -- a set of the addresses behind those of the first `i` zones whose name passes
  pub record FoundTo (i : ℕ) (found : List Range) : Type 0 where
    pub numbers : (n : ℕ) → has found n ≡ is_behind (take i zones) named n
    pub set : IsSet W found

  step_is : (i : ℕ) (found : List Range) (z : Zone W) (n : ℕ) → FoundTo i found → i < length zones → z ≡ get_or zones i z →
      (has found n || (named z.name && has z.inside n)) ≡ is_behind (take (i + 1) zones) named n
  step_is i found z n f l e =
      ap (λ (b : Bool). b || (named z.name && has z.inside n)) (f.numbers n)
      ∙ ap (λ (x : Zone W). is_behind (take i zones) named n || (named x.name && has x.inside n)) e
      ∙ sym (list_any_more (λ (x : Zone W). named x.name && has x.inside n) zones i z l)

  -- one zone more whose name passes
  pub found_more : (i : ℕ) (found next : List Range) (z : Zone W) → FoundTo i found → i < length zones → z ≡ get_or zones i z →
      named z.name ≡ true → ((n : ℕ) → has next n ≡ (has found n || has z.inside n)) → next ≡ set_or W found z.inside → FoundTo (i + 1) next
  found_more i found next z f l e t either spelt = record {
    numbers = λ n. let s = step_is i found z n f l e in let k = either n in grind (arith, s, k, t);
    set = or_set W next found z.inside f.set.0 spelt;
  }

  -- one zone more whose name doesn't pass
  pub found_same : (i : ℕ) (found : List Range) (z : Zone W) → FoundTo i found → i < length zones → z ≡ get_or zones i z →
      named z.name ≡ false → FoundTo (i + 1) found
  found_same i found z f l e t = record {
    numbers = λ n. let s = step_is i found z n f l e in grind (arith, s, t);
    set = f.set;
  }

  pub found_all : (i : ℕ) (found : List Range) → FoundTo i found → length zones ≤ i → found ≡ sources_of zones named
  found_all i found f l = spelled W found (is_behind zones named) f.set
      (λ k h. f.numbers k ∙ ap (λ (zs : List (Zone W)). is_behind zs named k) (take_all i zones l))
