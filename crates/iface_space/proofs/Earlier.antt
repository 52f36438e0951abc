-- Zones and those before them.
use Rattle.std.proofs.Common.{ℕ, ◌+◌, ◌<◌, ◌≤◌, ◌≡◌, ◌↔◌, ◌&&◌, ◌||◌, Bool, true, false, List, [], take, length, get_or, arith, rules, sym, ap, ◌∙◌}
use Rattle.std.specs.Prelude.{Option, Some, None, IsNone, IfSome, slice_get}
use Rattle.std.specs.List.{list_any}
use Rattle.std.specs.Option.{is_some}
use Rattle.std.proofs.lemmas.Option.{slice_get_within, slice_get-get_or, get_or_from_slice_get}
use Rattle.std.proofs.lemmas.List.Folds.{list_any_more}
use borrow.Author.Count.{below_more}
use Rattle.interval_set.specs.declared.set.Range.{Range}
use Rattle.interval_set.specs.Numbers.{has, IsLeast}
use Rattle.iface_space.specs.declared.zones.Zone.{Zone}
use Rattle.iface_space.proofs.Passing.{passes_at, passes_from}
use Rattle.iface_space.specs.Zones.{HasEarlierName, HasEarlierAddress, NamesDiffer, AreApart}

-- nothing of the kind before `n`
abbrev pub NoneBefore : (ℕ → Type 0) → ℕ → Type 0
NoneBefore Is n = (k : ℕ) → k < n → Is k → ⊥

module _ {W : ℕ} (zones : List (Zone W)) where
  -- no zone before `i` has the name of the zone `at`
  pub record NoneNamed (at i : ℕ) : Type 0 where
    pub none : (k : ℕ) (a b : Zone W) → k < i → slice_get zones k ≡ Some a → slice_get zones at ≡ Some b → a.name ≡ b.name → ⊥

  -- these are the addresses of the zones before `at`, and none of these zones has an earlier one's address
  pub record SeenTo (at : ℕ) (seen : List Range) : Type 0 where
    pub covers : (n : ℕ) → has seen n ≡ list_any (λ (z : Zone W). has z.inside n) (take at zones)
    pub apart : NoneBefore (HasEarlierAddress zones) at

  pub names_differ : (n : ℕ) → length zones ≤ n → NoneBefore (HasEarlierName zones) n → NamesDiffer zones
  names_differ n e none at h = none at (omega (arith, e, slice_get_within zones at h.2 h.3.2)) h

  pub are_apart : (n : ℕ) → length zones ≤ n → NoneBefore (HasEarlierAddress zones) n → AreApart zones
  are_apart n e none at h = none at (omega (arith, e, slice_get_within zones at h.2 h.3.2)) h

  -- an address of the zone `at` that an earlier one has
  pub overlaps : (at : ℕ) (seen common : List Range) (d : Zone W) (o : Option ℕ) → SeenTo at seen → at < length zones →
      ((n : ℕ) → has common n ≡ (has seen n && has (get_or zones at d).inside n)) → IfSome o (IsLeast common) → true ≡ is_some o →
      HasEarlierAddress zones at
  overlaps at seen common d None s l both least some = absurd (grind arith)
  overlaps at seen common d (Some n) s l both least some =
      let b = both n in
      let c = least.0 in
      let in_seen : has seen n ≡ true = grind (arith, b, c) in
      let in_here : has (get_or zones at d).inside n ≡ true = grind (arith, b, c) in
      let w = passes_at (λ (x : Zone W). has x.inside n) zones at (sym (s.covers n) ∙ in_seen) in
      (w.place, w.item, get_or zones at d, (w.before, w.at, slice_get-get_or zones at d l), (n, w.passes, in_here))

  none_here : (at : ℕ) (seen common : List Range) (d : Zone W) → SeenTo at seen →
      ((n : ℕ) → has common n ≡ (has seen n && has (get_or zones at d).inside n)) → common ≡ [] → HasEarlierAddress zones at → ⊥
  none_here at seen common d s both none h =
      let n = h.4.0 in
      let same : get_or zones at d ≡ h.2 = get_or_from_slice_get zones at h.2 d h.3.2 in
      let seen_has : has seen n ≡ true = s.covers n ∙ passes_from (λ (x : Zone W). has x.inside n) zones at h.0 h.1 h.3.0 h.3.1 h.4.1 in
      let here_has : has (get_or zones at d).inside n ≡ true = ap (λ (x : Zone W). has x.inside n) same ∙ h.4.2 in
      let b = both n in
      let empty : has common n ≡ false = ap (λ (rs : List Range). has rs n) none in
      grind (arith, b, seen_has, here_has, empty)

  -- one zone more, which has nothing in common with those seen
  pub seen_more : (at : ℕ) (seen common next : List Range) (d : Zone W) → SeenTo at seen → at < length zones →
      ((n : ℕ) → has common n ≡ (has seen n && has (get_or zones at d).inside n)) → common ≡ [] →
      ((n : ℕ) → has next n ≡ (has seen n || has (get_or zones at d).inside n)) → SeenTo (at + 1) next
  seen_more at seen common next d s l both none either = record {
    covers = λ n. either n ∙ ap (λ (b : Bool). b || has (get_or zones at d).inside n) (s.covers n)
        ∙ sym (list_any_more (λ (y : Zone W). has y.inside n) zones at d l);
    apart = below_more (λ k. HasEarlierAddress zones k → ⊥) at s.apart (none_here at seen common d s both none);
  }

-- where there is no least number the ranges are none
pub without_least : (o : Option ℕ) (rs : List Range) → (IsNone o ↔ (rs ≡ [])) → false ≡ is_some o → rs ≡ []
without_least None rs f h = f.0 (search rules)
without_least (Some n) rs f h = absurd (grind arith)
