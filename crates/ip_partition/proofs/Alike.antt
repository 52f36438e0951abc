-- Atoms that lie in the same ones of some sets.
use Rattle.std.proofs.Common.{ℕ, ◌+◌, ◌<◌, ◌≡◌, ◌↔◌, List, [], ◌∷◌, ◌++◌, ◌||◌, sym, ◌∙◌, ap, subst, arith, length, get_or, take}
use Rattle.std.proofs.lemmas.List.{take_more}
use Rattle.interval_set.specs.declared.set.Range.{Range}
use Rattle.interval_set.specs.Numbers.{has, is_within}
use Rattle.interval_set.proofs.Lists.{has-snoc, zero_range}
use Rattle.ip_partition.specs.inner.Atoms.{AreLasts, AreLeaders, SplitBy}
use Rattle.ip_partition.specs.Groups.{LieAlike}

-- one range more
pub has_more : (rs : List Range) (i n : ℕ) → i < length rs → has (take (i + 1) rs) n ≡ (has (take i rs) n || is_within (get_or rs i zero_range) n)
has_more rs i n h = ap (λ xs. has xs n) (take_more rs i zero_range h) ∙ has-snoc (take i rs) (get_or rs i zero_range) n

alike_snoc : (sets : List (List Range)) (set : List Range) (a b : ℕ) → LieAlike (sets ++ set ∷ []) a b ↔ (LieAlike sets a b × (has set a ≡ has set b))
alike_snoc [] set a b = (λ h. (tt, h.0), λ h. (h.1, tt))
alike_snoc (s ∷ ss) set a b =
    let ih = alike_snoc ss set a b in (
      λ h. let r = ih.0 h.1 in ((h.0, r.0), r.1),
      λ h. (h.0.0, ih.1 (h.0.1, h.1)),
    )

-- the numbering after some of the sets
pub record AlikeTo (starts : List ℕ) (sets : List (List Range)) (leaders lasts : List ℕ) : Type 0 where
  pub count : length leaders ≡ length starts
  pub leading : AreLeaders leaders
  pub last : AreLasts leaders lasts
  pub same : (i j : ℕ) → i < length starts → j < length starts → (get_or leaders i 0 ≡ get_or leaders j 0) ↔ LieAlike sets (get_or starts i 0) (get_or starts j 0)

pub one_set_more : (starts : List ℕ) (sets : List (List Range)) (i : ℕ) (d set : List Range) (leaders lasts next nexts : List ℕ) → i < length sets → set ≡ get_or sets i d →
    AlikeTo starts (take i sets) leaders lasts → AreLeaders next → AreLasts next nexts → SplitBy (λ k. has set (get_or starts k 0)) leaders next →
    AlikeTo starts (take (i + 1) sets) next nexts
one_set_more starts sets i d set leaders lasts next nexts h e t a b s =
    let is : take (i + 1) sets ≡ take i sets ++ set ∷ [] = take_more sets i d h ∙ ap (λ x. take i sets ++ x ∷ []) (sym e) in
    let P : List (List Range) → Type 0 = λ done. (j k : ℕ) → j < length starts → k < length starts →
    (get_or next j 0 ≡ get_or next k 0) ↔ LieAlike done (get_or starts j 0) (get_or starts k 0) in
    record {
      count = s.count ∙ t.count;
      leading = a;
      last = b;
      same = subst P (sym is) (λ j k m l.
          let w = alike_snoc (take i sets) set (get_or starts j 0) (get_or starts k 0) in
          let u = s.same j k (omega (arith, m, t.count)) (omega (arith, l, t.count)) in
          let v = t.same j k m l in (
            λ f. let p = u.0 f in w.1 (v.0 p.0, p.1),
            λ f. let p = w.0 f in u.1 (v.1 p.0, p.1),
          ));
    }
