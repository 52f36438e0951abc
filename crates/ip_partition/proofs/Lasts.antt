-- The last atom of each class.
use Rattle.std.proofs.Common.{ℕ, ◌+◌, ◌<◌, ◌≤◌, ◌≡◌, ◌≢◌, inl, inr, List, refl, ◌∙◌, ap, arith, length, get_or, get_or-set_other, get_or-set_same}
use Rattle.std.proofs.Math.ListN.{length-set, set}
use Rattle.std.proofs.lemmas.Bool.{cases_order}
use Rattle.ip_partition.specs.inner.Atoms.{AreLasts, AreLeaders}
use Rattle.ip_partition.proofs.Dividing.{below_next}

-- the atoms up to `i` are no later than the last one noted of their class
pub record LastsTo (leaders lasts : List ℕ) (i : ℕ) : Type 0 where
  pub count : length lasts ≡ length leaders
  pub within : (k : ℕ) → k < length leaders → get_or lasts k 0 < length leaders
  pub later : (k : ℕ) → k < i → k ≤ get_or lasts (get_or leaders k 0) 0

pub all_last : (leaders lasts : List ℕ) (i : ℕ) → length leaders ≤ i → LastsTo leaders lasts i → AreLasts leaders lasts
all_last leaders lasts i h l = record { count = l.count; within = l.within; later = λ k m. l.later k (omega (arith, m, h)) }

set_at : (xs : List ℕ) (i k v : ℕ) → i < length xs → k ≡ i → get_or (set xs i v) k 0 ≡ v
set_at xs i k v h e = ap (λ j. get_or (set xs i v) j 0) e ∙ rw get_or-set_same refl

set_off : (xs : List ℕ) (i k v : ℕ) → k ≢ i → get_or (set xs i v) k 0 ≡ get_or xs k 0
set_off xs i k v h = rw get_or-set_other refl

pub last_noted : (leaders lasts next : List ℕ) (i : ℕ) → AreLeaders leaders → i < length leaders → LastsTo leaders lasts i → next ≡ set lasts (get_or leaders i 0) i → LastsTo leaders next (i + 1)
last_noted leaders lasts next i a h l e =
    let lead : ℕ = get_or leaders i 0 in
    let early = a.earlier i h in
    let room : lead < length lasts = omega (arith, early, h, l.count) in
    let here : (k : ℕ) → k ≡ lead → get_or next k 0 ≡ i = λ k f. ap (λ xs. get_or xs k 0) e ∙ set_at lasts lead k i room f in
    let there : (k : ℕ) → k ≢ lead → get_or next k 0 ≡ get_or lasts k 0 = λ k f. ap (λ xs. get_or xs k 0) e ∙ set_off lasts lead k i f in
    record {
      count = ap length e ∙ length-set lasts lead i ∙ l.count;
      within = λ k m. elim (cases_order k lead) [
        | inl f ↦ omega (arith, here k f, h)
        | inr o ↦ omega (arith, there k (elim o [ inl x ↦ omega (arith, x) | inr x ↦ omega (arith, x) ]), l.within k m)
      ];
      later = below_next (λ k. k ≤ get_or next (get_or leaders k 0) 0) i
          (λ k m. elim (cases_order (get_or leaders k 0) lead) [
            | inl f ↦ omega (arith, here (get_or leaders k 0) f, m)
            | inr o ↦ omega (arith, there (get_or leaders k 0) (elim o [ inl x ↦ omega (arith, x) | inr x ↦ omega (arith, x) ]), l.later k m)
          ])
          (omega (arith, here lead refl));
    }
