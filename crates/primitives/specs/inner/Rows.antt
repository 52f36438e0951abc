-- The rows of the code's tables.
use Rattle.std.specs.Prelude.{Bool, List, nat_lt}
use Rattle.std.specs.List.{list_all}
use Rattle.primitives.specs.Tables.{Named}
use Rattle.primitives.specs.declared.tables.Word.{Word}

abbrev pub named : Word → Named
named word = record { name = word.name.now; number = word.number }

-- each number is the place of a bit of a byte
abbrev pub are_places : List Named → Bool
are_places names = list_all (λ (word : Named). nat_lt word.number 8) names
