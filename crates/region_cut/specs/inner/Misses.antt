-- Cubes that have nothing in common in one dimension, as their sets and patterns tell.
use Rattle.std.specs.Prelude.{ℕ, ◌≡◌, Bool, true, false, ◌&&◌, ◌||◌, if◌then◌else◌}
use Rattle.interval_set.specs.Numbers.{has}
use Rattle.name_set.specs.declared.set.NameSet.{NameSet}
use Rattle.name_set.specs.Names.{narrower, some_covers}
use Rattle.name_set.specs.Patterns.{have_common}
use Rattle.primitives.specs.Holds.{has_bit}
use Rattle.box_norm.specs.declared.cube.Cube.{Cube}

-- the bases have no name in common, or an exclusion of one of the sets covers what they have
abbrev pub names_miss : NameSet → NameSet → Bool
names_miss a b = if have_common a.base b.base
    then some_covers a.excluded (narrower a.base b.base) || some_covers b.excluded (narrower a.base b.base)
    else true

-- no number passes both tests
abbrev pub NoneOfBoth : (ℕ → Bool) → (ℕ → Bool) → Type 0
NoneOfBoth f g = (n : ℕ) → (f n && g n) ≡ false

-- the cubes have nothing in common in this dimension or in that
pub data Misses {W : ℕ} (a b : Cube W) : Type 0 where
  InNames : names_miss a.in_name b.in_name ≡ true → Misses a b
  OutNames : names_miss a.out_name b.out_name ≡ true → Misses a b
  Sources : NoneOfBoth (has a.src) (has b.src) → Misses a b
  Destinations : NoneOfBoth (has a.dst) (has b.dst) → Misses a b
  Protocols : NoneOfBoth (has a.proto) (has b.proto) → Misses a b
  SourcePorts : NoneOfBoth (has a.sport) (has b.sport) → Misses a b
  DestinationPorts : NoneOfBoth (has a.dport) (has b.dport) → Misses a b
  Flags : NoneOfBoth (has_bit a.flags) (has_bit b.flags) → Misses a b
  States : NoneOfBoth (has_bit a.state) (has_bit b.state) → Misses a b
  Types : NoneOfBoth (has a.icmp) (has b.icmp) → Misses a b
