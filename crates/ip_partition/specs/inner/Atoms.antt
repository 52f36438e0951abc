-- Classes of atoms. An atom is known by its place among those that ascend, and a class by its first atom, which leads it.
use Rattle.std.specs.Prelude.{ℕ, ◌+◌, ◌^◌, ◌<◌, ◌≤◌, ◌≡◌, ◌≢◌, ◌⊎◌, ◌↔◌, List, Bool, ◌&&◌, true, false, length, nat_le, nat_lt, slice_index_or}
use Rattle.interval_set.specs.declared.set.Range.{Range}
use Rattle.interval_set.specs.Numbers.{has}

-- whether the atom is in the run from one atom on and below another
abbrev pub is_in : ℕ → ℕ → ℕ → Bool
is_in first end atom = nat_le first atom && nat_lt atom end

-- each atom has a leader, which is no later atom and leads itself
pub record AreLeaders (leaders : List ℕ) : Type 0 where
  pub earlier : (k : ℕ) → k < length leaders → slice_index_or leaders k 0 ≤ k
  pub own : (k : ℕ) → k < length leaders → slice_index_or leaders (slice_index_or leaders k 0) 0 ≡ slice_index_or leaders k 0

-- no atom of a class comes after the one that stands at the class's leader
pub record AreLasts (leaders lasts : List ℕ) : Type 0 where
  pub count : length lasts ≡ length leaders
  pub within : (k : ℕ) → k < length leaders → slice_index_or lasts k 0 < length leaders
  pub later : (k : ℕ) → k < length leaders → k ≤ slice_index_or lasts (slice_index_or leaders k 0) 0

-- two atoms have one leader exactly where they had one before and both pass the test or neither does
pub record SplitBy (test : ℕ → Bool) (leaders next : List ℕ) : Type 0 where
  pub count : length next ≡ length leaders
  pub same : (i j : ℕ) → i < length leaders → j < length leaders →
      (slice_index_or next i 0 ≡ slice_index_or next j 0) ↔ ((slice_index_or leaders i 0 ≡ slice_index_or leaders j 0) × (test i ≡ test j))

-- the atom that is noted for the other side of a class, before and after a turn at this atom
abbrev pub IsNoted : ℕ → ℕ → ℕ → Type 0
IsNoted before after atom = ((before ≡ 0) × (after ≡ atom)) ⊎ ((0 < before) × (after ≡ before))

-- nothing is noted but at the leader of this atom
pub record Noted (leaders others noted : List ℕ) (atom : ℕ) : Type 0 where
  pub room : length noted ≡ length leaders
  pub elsewhere : (c : ℕ) → c ≢ slice_index_or leaders atom 0 → slice_index_or noted c 0 ≡ slice_index_or others c 0
  pub here : IsNoted (slice_index_or others (slice_index_or leaders atom 0) 0) (slice_index_or noted (slice_index_or leaders atom 0) 0) atom

-- an atom keeps the leader that is on its side, or has the one that is noted
abbrev pub IsNewLeader : List ℕ → List Bool → List ℕ → List ℕ → ℕ → ℕ → Type 0
IsNewLeader leaders inside others noted atom leader =
    ((slice_index_or inside atom false ≡ slice_index_or inside (slice_index_or leaders atom 0) false) × (leader ≡ slice_index_or leaders atom 0) × (noted ≡ others))
    ⊎ ((slice_index_or inside atom false ≢ slice_index_or inside (slice_index_or leaders atom 0) false) × (leader ≡ slice_index_or noted (slice_index_or leaders atom 0) 0) × Noted leaders others noted atom)

-- the number is in the atom of this place, where the atoms begin at these numbers
abbrev pub InAtom : ℕ → List ℕ → ℕ → ℕ → Type 0
InAtom w starts atom n = (slice_index_or starts atom (2 ^ w) ≤ n) × (n < slice_index_or starts (atom + 1) (2 ^ w))

-- the set has the numbers of the atoms that have this leader
abbrev pub IsClass : ℕ → List ℕ → List ℕ → ℕ → List Range → Type 0
IsClass w starts leaders leader set = (n : ℕ) → (has set n ≡ true) ↔ ((k : ℕ) × (k < length starts) × (slice_index_or leaders k 0 ≡ leader) × InAtom w starts k n)
