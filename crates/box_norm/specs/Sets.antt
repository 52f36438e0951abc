-- What the lists of ranges in a cube are.
use Rattle.std.specs.Prelude.{ℕ}
use Rattle.interval_set.specs.Numbers.{IsSet}
use Rattle.box_norm.specs.declared.cube.Cube.{Cube}

-- each is that of a set
pub record HasSets {W : ℕ} (cube : Cube W) : Type 0 where
  pub source : IsSet W cube.src
  pub destination : IsSet W cube.dst
  pub protocols : IsSet 8 cube.proto
  pub sports : IsSet 16 cube.sport
  pub dports : IsSet 16 cube.dport
  pub types : IsSet 8 cube.icmp
