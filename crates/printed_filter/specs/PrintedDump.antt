-- The dump that a printed text is.
use Rattle.std.specs.Prelude.{ℕ, ◌+◌, ◌++◌, ◌∷◌, [], List, length, Bool, Option, Some, None, map, if◌then◌else◌}
use Rattle.std.specs.List.{flat_map}
use Rattle.primitives.specs.declared.prim.Prim_.{Prim_}
use Rattle.fw_rule.specs.declared.rule.Action.{Action}
use Rattle.fw_rule.specs.declared.rule.Verdict.{Verdict}
use Rattle.fw_rule.specs.declared.rule.Lit.{Lit}
use Rattle.fw_rule.specs.declared.rule.Rule.{Rule}
use Rattle.fw_rule.specs.declared.rule.Chain.{Chain}
use Rattle.fw_rule.specs.declared.rule.Dump.{Dump}
use Rattle.box_norm.specs.declared.cube.Cube.{Cube}
use Rattle.box_norm.specs.declared.cube.SimpleRule.{SimpleRule}
use Rattle.dump_grammar.specs.Lines.{Text}
use Rattle.dump_print.specs.CubeLines.{choices_of}
use Rattle.dump_print.specs.Helpers.{HelpedRule, helped_from, helper_name, returned_patterns, returned_protocols, returned_types}
use Rattle.dump_print.specs.Numbers.{protocols_of}
use Rattle.dump_print.specs.declared.numbers.Numbers.{Numbers}
use Rattle.printed_filter.specs.Literals.{line_literals, protocol_literals, type_literals, yes}

-- a rule without the number of its line
pub record Said (W : ℕ) : Type 0 where
  pub literals : List (Lit (Prim_ W))
  pub action : Action

-- a helper chain: its number, and its rules
pub record Helper (W : ℕ) : Type 0 where
  pub number : ℕ
  pub rules : List (Said W)

abbrev pub verdict_action : Bool → Action
verdict_action accept = if accept then Action.Accept else Action.Drop

-- the chain of helper n is the chain of that number: the asked chain is the chain 0
abbrev pub action_to : Bool → Option ℕ → Action
action_to accept None = verdict_action accept
action_to accept (Some n) = Action.Call n

module _ {W : ℕ} where
  abbrev pub back_where : List (Lit (Prim_ W)) → Said W
  back_where literals = record { literals = literals; action = Action.Back }

  -- where the test holds
  abbrev pub back_if : Prim_ W → Said W
  back_if x = back_where (yes x ∷ [])

  -- where a message is of this type, if the protocols are one whose messages have types
  abbrev pub type_back : Numbers → ℕ → Said W
  type_back protocols n = back_where (protocol_literals protocols ++ type_literals protocols (Numbers.Only n))

  -- the rules by which what the cube excludes goes back to the asked chain
  abbrev pub returns_of : Cube W → List (Said W)
  returns_of cube =
      map (λ pattern. back_if (Prim_.InName pattern)) (returned_patterns cube.in_name)
      ++ (map (λ pattern. back_if (Prim_.OutName pattern)) (returned_patterns cube.out_name)
      ++ (map (λ n. back_if (Prim_.Proto n)) (returned_protocols cube.proto)
      ++ map (λ n. type_back (protocols_of cube.proto) n) (returned_types cube.icmp)))

  -- the rules of a helper chain
  abbrev pub helper_rules : SimpleRule W → List (Said W)
  helper_rules rule = returns_of rule.cube ++ record { literals = []; action = verdict_action rule.accept } ∷ []

  -- the rules of a simple rule in the asked chain
  abbrev pub asked_rules : HelpedRule W → List (Said W)
  asked_rules helped = map
      (λ line. record { literals = line_literals helped.rule.cube line; action = action_to helped.rule.accept helped.helper })
      (choices_of helped.rule.cube)

  -- rules on lines one after another, from this one on
  abbrev pub placed_from : ℕ → List (Said W) → List (Rule (Prim_ W))
  placed_from n [] = []
  placed_from n (said ∷ rest) = record { lits = said.literals; action = said.action; line = n } ∷ placed_from (n + 1) rest

  -- the helper chain of a rule, where it has one
  abbrev pub helper_of : SimpleRule W → Option ℕ → List (Helper W)
  helper_of rule None = []
  helper_of rule (Some n) = record { number = n; rules = helper_rules rule } ∷ []

  -- the helper chains, in order
  abbrev pub helpers_of : List (HelpedRule W) → List (Helper W)
  helpers_of rules = flat_map (λ helped. helper_of helped.rule helped.helper) rules

  -- these helper chains, the rules of the first from this line on
  abbrev pub helper_chains_from : ℕ → List (Helper W) → List (Chain (Prim_ W))
  helper_chains_from n [] = []
  helper_chains_from n (helper ∷ rest) =
      record { name = helper_name helper.number; policy = None; rules = placed_from n helper.rules }
      ∷ helper_chains_from (n + length helper.rules) rest

  -- the asked chain, whose rules follow the lines of the table, of the chain and of the helper chains
  abbrev pub dump_of_helped : Text → Verdict → List (HelpedRule W) → Dump (Prim_ W)
  dump_of_helped chain policy rules = record {
    chains = record { name = chain; policy = Some policy; rules = placed_from (3 + length (helpers_of rules)) (flat_map asked_rules rules) }
        ∷ helper_chains_from (3 + length (helpers_of rules) + length (flat_map asked_rules rules)) (helpers_of rules);
  }

  abbrev pub printed_dump : Text → Verdict → List (SimpleRule W) → Dump (Prim_ W)
  printed_dump chain policy rules = dump_of_helped chain policy (helped_from 1 rules)
