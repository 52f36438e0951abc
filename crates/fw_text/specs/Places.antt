-- How a place of a literal is written.
use Rattle.std.specs.Prelude.{ℕ, ◌+◌, List, [], ◌∷◌, ◌++◌, codes, decimal, option_map, slice_get, unwrap_or}
use Rattle.fw_rule.specs.declared.rule.Chain.{Chain}
use Rattle.fw_rule.specs.declared.rule.Dump.{Dump}
use Rattle.fw_rule.specs.declared.rule.Place.{Place}
use Rattle.fw_rule.specs.declared.rule.Step.{Step}
use Rattle.fw_text.specs.Names.{shown_name}

module _ {P : Type 0} (dump : Dump P) where
  -- the name of the chain of this number, empty where there is no such chain
  abbrev pub name_at : ℕ → List ℕ
  name_at chain = unwrap_or (option_map (λ (here : Chain P). here.name) (slice_get dump.chains chain)) []

  -- the shown name of the chain, and the rule's number in it from 1
  abbrev pub step_text : Step → List ℕ
  step_text step = shown_name (name_at step.chain) ++ codes " " ++ decimal (step.rule + 1)

  -- the steps, with ` > ` between each two
  abbrev pub steps_text : List Step → List ℕ
  steps_text [] = []
  steps_text (step ∷ []) = step_text step
  steps_text (step ∷ next ∷ steps) = step_text step ++ codes " > " ++ steps_text (next ∷ steps)

  -- the steps, and the literal's number in its rule from 1
  unfoldable pub place_text : Place → List ℕ
  place_text place = steps_text place.steps ++ codes " literal " ++ decimal (place.lit + 1)
