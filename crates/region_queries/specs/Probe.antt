-- The probe of a visit: a dump that accepts what triggers the visit.
use Rattle.std.specs.Prelude.{ℕ, ◌+◌, ◌-◌, ◌==◌, List, [], ◌∷◌, ◌++◌, Option, None, Some, length, map, get_or, nat_lt, if◌then◌else◌}
use Rattle.fw_rule.specs.declared.rule.Verdict.TheVariants.{Drop}
use Rattle.fw_rule.specs.declared.rule.Action.{Action}
use Rattle.fw_rule.specs.declared.rule.Rule.{Rule}
use Rattle.fw_rule.specs.declared.rule.Chain.{Chain}
use Rattle.fw_rule.specs.declared.rule.Dump.{Dump}
use Rattle.fw_rule.specs.declared.rule.Step.{Step}
use Rattle.fw_rule.specs.declared.rule.Place.{Place}
use Rattle.fw_rule.specs.Walk.{Path}

-- Drop in place of Accept
abbrev pub barred : Action → Action
barred Action.Accept = Action.Drop
barred Action.Drop = Action.Drop
barred Action.Pass = Action.Pass
barred Action.Back = Action.Back
barred (Action.Call chain) = Action.Call chain
barred (Action.Goto chain) = Action.Goto chain
barred (Action.Other name) = Action.Other name

-- in place of the action of a step's own rule: its call or goto leads to the next copy, and in the last copy it is Accept
abbrev pub own_action : Option ℕ → Action → Action
own_action None action = Action.Accept
own_action (Some copy) (Action.Call chain) = Action.Call copy
own_action (Some copy) (Action.Goto chain) = Action.Goto copy
own_action (Some copy) action = barred action

-- the number of the copy for the first of these steps, if there is one
abbrev pub next_copy : ℕ → Path → Option ℕ
next_copy n [] = None
next_copy n (s ∷ steps) = Some n

module _ {P : Type 0} where
  -- the rule with another action
  abbrev pub with_action : (Action → Action) → Rule P → Rule P
  with_action f rule = record { lits = rule.lits; action = f rule.action; line = rule.line }

  -- the chain with Drop in place of each Accept
  abbrev pub barred_chain : Chain P → Chain P
  barred_chain here = record { name = here.name; policy = here.policy; rules = map (with_action barred) here.rules }

  -- the rules of a copy, the first with the number `n`: the step's own rule is `own`, and the next copy is this
  abbrev pub copied_rules : ℕ → Option ℕ → ℕ → List (Rule P) → List (Rule P)
  copied_rules own next n [] = []
  copied_rules own next n (rule ∷ rules) =
      with_action (if n == own then own_action next else barred) rule ∷ copied_rules own next (n + 1) rules

  -- the copy for a step, of the policy Drop
  abbrev pub copy_of : List (Chain P) → Step → Option ℕ → Chain P
  copy_of chains s next =
      let here = get_or chains s.chain (record { name = []; policy = None; rules = [] }) in
      record { name = here.name; policy = Some Drop; rules = copied_rules s.rule next 0 here.rules }

  -- a copy for each step, the first with the number `n`
  abbrev pub copies_of : List (Chain P) → ℕ → Path → List (Chain P)
  copies_of chains n [] = []
  copies_of chains n (s ∷ steps) = copy_of chains s (next_copy (n + 1) steps) ∷ copies_of chains (n + 1) steps

  module _ (dump : Dump P) where
    -- the number of the first copy: the chain that the probe is asked of
    abbrev pub entry_of : ℕ
    entry_of = length dump.chains

    -- the probe: the dump's chains, barred, and behind them a copy for each step of the visit
    abbrev pub probe_of : Path → Dump P
    probe_of visit = record { chains = map barred_chain dump.chains ++ copies_of dump.chains entry_of visit }

    module _ (visit : Path) where
      -- the dump's own number of a chain of the probe: a copy's is that of the chain that it copies
      abbrev pub own_chain : ℕ → ℕ
      own_chain c = if nat_lt c entry_of then c else get_or (map (λ (s : Step). s.chain) visit) (c - entry_of) c

      -- the same for a step, and for a place
      abbrev pub own_step : Step → Step
      own_step s = record { chain = own_chain s.chain; rule = s.rule }

      abbrev pub own_place : Place → Place
      own_place place = record { steps = map own_step place.steps; lit = place.lit }
