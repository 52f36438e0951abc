-- How the lists of a set of ports are read back.
use Rattle.std.specs.Prelude.{◌≡◌, List}
use Rattle.std.specs.List.{AllByRecursion, flat_map}
use Rattle.interval_set.specs.declared.set.Range.{Range}
use Rattle.dump_grammar.specs.Arguments.{IsPortList}
use Rattle.dump_print.specs.Ports.{chunks, port_list}

-- each list is one that may be written and is read as its ranges, and the lists together are the set
pub record CoverPorts (rs : List Range) : Type 0 where
  pub read : AllByRecursion (λ chunk. IsPortList (port_list chunk) chunk) (chunks rs)
  pub whole : flat_map (λ chunk. chunk) (chunks rs) ≡ rs
