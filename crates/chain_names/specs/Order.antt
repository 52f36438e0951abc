-- The names of a set, in the order of declaration.
use Rattle.std.specs.Prelude.{ℕ, List, map}
use Rattle.std.specs.declared.vec.Vec.{Vec}
use Rattle.indexmap.specs.IndexSet.{IndexSet}

-- the keys as bytes, in order
abbrev pub declared : {A S : Type 0} → IndexSet (Vec ℕ A) S → List (List ℕ)
declared s = map (λ k. k.items) s.keys
