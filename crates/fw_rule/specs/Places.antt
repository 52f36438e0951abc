-- Places of literals, and what a meaning of the unknown ones is.
use Rattle.std.specs.Prelude.{Bool, ◌&&◌, ◌==◌, List}
use Rattle.std.specs.Cmp.Lexicographic.{pointwise}
use Rattle.fw_rule.specs.declared.rule.Step.{Step}
use Rattle.fw_rule.specs.declared.rule.Place.{Place}

-- a path is a list of steps, a rule of a chain each: the calls and gotos over which a chain is reached, the outermost first; at a literal it ends with the literal's own rule
abbrev pub Path : Type 0
Path = List Step

-- a meaning is a list of places: the unknown literals that hold. A place is the path that ends with a rule, and a literal's number in it from 0
abbrev pub Meaning : Type 0
Meaning = List Place

-- whether two steps are one
abbrev pub same_step : Step → Step → Bool
same_step s t = (s.chain == t.chain) && (s.rule == t.rule)

-- whether two places are one: the same steps in the same order, and the same number
abbrev pub same_place : Place → Place → Bool
same_place a b = pointwise same_step a.steps b.steps && (a.lit == b.lit)
