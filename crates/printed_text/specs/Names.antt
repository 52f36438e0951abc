-- Names of interfaces that lines can say.
use Rattle.std.specs.Prelude.{ℕ}
use Rattle.std.specs.List.{AllByRecursion}
use Rattle.name_set.specs.declared.set.NameSet.{NameSet}
use Rattle.box_norm.specs.declared.cube.Cube.{Cube}
use Rattle.dump_grammar.specs.Printable.{IsPrintable}

-- each pattern of the set can stand in a line
pub record ArePrintableNames (names : NameSet) : Type 0 where
  pub base : IsPrintable names.base
  pub excluded : AllByRecursion IsPrintable names.excluded

-- so can those of both interfaces
pub record HasPrintableNames {W : ℕ} (cube : Cube W) : Type 0 where
  pub in_name : ArePrintableNames cube.in_name
  pub out_name : ArePrintableNames cube.out_name
