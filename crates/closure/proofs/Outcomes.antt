-- What a chain comes to: of one walk, and the best of all walks.
use Rattle.std.proofs.Common.{ℕ, zero, suc, ◌+◌, Bool, true, false, not, ◌&&◌, if◌then◌else◌, List, [], ◌∷◌, Option, None, Some}
use Rattle.match_expr.specs.Meaning.{eval_of}
use Rattle.fw_rule.specs.declared.rule.Verdict.{Verdict}
use Rattle.fw_rule.specs.declared.rule.Verdict.TheVariants.{Accept, Drop}
use Rattle.fw_rule.specs.declared.rule.Lit.{Lit}
use Rattle.fw_rule.specs.declared.rule.Rule.{Rule}
use Rattle.fw_rule.specs.declared.rule.Dump.{Dump}
use Rattle.fw_rule.specs.declared.rule.Step.{Step}
use Rattle.fw_rule.specs.declared.side.Side.{Side}
use Rattle.fw_rule.specs.Matching.{known_of, doubt_in}
use Rattle.std.specs.List.{list_any}
use Rattle.fw_rule.specs.Walk.{Meaning, same_place}
use Rattle.closure.specs.Rewriting.{rules_of}
use Rattle.rewriting.specs.Table.{kind}
use Rattle.rewriting.specs.declared.kinds.ActionKind.{ActionKind}
use Rattle.rewriting.specs.declared.kinds.ActionKind.TheVariants.{GoodVerdict, BadVerdict, GoOn, GoBack, CallTo, GoTo}

-- a verdict that the side wants, the chain's end, or the other verdict
pub data Outcome : Type 0 where
  Good : Outcome
  Ends : Outcome
  Bad : Outcome

-- the better of an end and another outcome
abbrev pub or_end : Outcome → Outcome
or_end Good = Good
or_end Ends = Ends
or_end Bad = Ends

-- after a call that is made for sure
abbrev pub then_rest : Outcome → Outcome → Outcome
then_rest Good rest = Good
then_rest Ends rest = rest
then_rest Bad rest = Bad

-- after a call that may be made or not
abbrev pub or_rest : Outcome → Outcome → Outcome
or_rest Good rest = Good
or_rest Ends rest = rest
or_rest Bad rest = rest

-- the better of what a goto's chain comes to and what the rest does
abbrev pub better : Outcome → Outcome → Outcome
better Good rest = Good
better Ends rest = or_end rest
better Bad rest = rest

-- the chain that a call or a goto names
abbrev pub target_in : ActionKind → Option ℕ
target_in GoodVerdict = None
target_in BadVerdict = None
target_in GoOn = None
target_in GoBack = None
target_in (CallTo c) = Some c
target_in (GoTo c) = Some c

-- the best that a rule whose known literals hold can come to, with the rest behind it
abbrev pub best_row : (ℕ → Outcome) → Outcome → Bool → ActionKind → Outcome
best_row callee rest d GoodVerdict = Good
best_row callee rest false BadVerdict = Bad
best_row callee rest true BadVerdict = rest
best_row callee rest d GoOn = rest
best_row callee rest false GoBack = Ends
best_row callee rest true GoBack = or_end rest
best_row callee rest false (CallTo c) = then_rest (callee c) rest
best_row callee rest true (CallTo c) = or_rest (callee c) rest
best_row callee rest false (GoTo c) = callee c
best_row callee rest true (GoTo c) = better (callee c) rest

module _ {P : Type 0} (side : Side) (h : P → Bool) where
  -- the best that a list of rules can come to, where `callee` has the best of chains
  abbrev pub best_rules : (ℕ → Outcome) → List (Rule P) → Outcome
  best_rules callee [] = Ends
  best_rules callee (rule ∷ rules) =
      if eval_of h (known_of rule) then best_row callee (best_rules callee rules) (doubt_in rule.lits) (kind side rule.action) else best_rules callee rules

  -- the best that a chain can come to
  abbrev pub best : Dump P → ℕ → ℕ → Outcome
  best dump zero c = Ends
  best dump (suc depth) c = best_rules (best dump depth) (rules_of dump c)

-- the truth of unknown literals, by the path from here and the literal's number
abbrev pub Truth : Type 0
Truth = List Step → ℕ → Bool

-- the same truth, seen from below a call or a goto
abbrev pub under : Step → Truth → Truth
under s t = λ (steps : List Step) (l : ℕ). t (s ∷ steps) l

-- the step at the rule of this number
abbrev pub step_of : ℕ → ℕ → Step
step_of c n = record { chain = c; rule = n }

module _ {P : Type 0} (h : P → Bool) where
  -- whether a literal holds at the path and number
  abbrev pub lit_holds : Truth → List Step → ℕ → Lit P → Bool
  lit_holds t steps l (Lit.Known neg e) = if neg then not (eval_of h e) else eval_of h e
  lit_holds t steps l (Lit.Unknown text) = t steps l

  -- whether the literals hold, the first of them with the number `l`
  abbrev pub lits_hold : Truth → List Step → ℕ → List (Lit P) → Bool
  lits_hold t steps l [] = true
  lits_hold t steps l (lit ∷ lits) = lit_holds t steps l lit && lits_hold t steps (l + 1) lits

module _ {P : Type 0} (side : Side) (h : P → Bool) where
  -- what the walk comes to from rule `n` of chain `c` on
  abbrev pub walked_rules : (ℕ → Truth → Outcome) → ℕ → ℕ → Truth → List (Rule P) → Outcome
  walked_rules callee c n t [] = Ends
  walked_rules callee c n t (rule ∷ rules) =
      if lits_hold h t (step_of c n ∷ []) 0 rule.lits
      then best_row (λ k. callee k (under (step_of c n) t)) (walked_rules callee c (n + 1) t rules) false (kind side rule.action)
      else walked_rules callee c (n + 1) t rules

  -- what the walk of a chain comes to
  abbrev pub walked : Dump P → ℕ → ℕ → Truth → Outcome
  walked dump zero c t = Ends
  walked dump (suc depth) c t = walked_rules (walked dump depth) c 0 t (rules_of dump c)

-- the verdict that an outcome is, if it is one
abbrev pub verdict_of : Side → Outcome → Option Verdict
verdict_of Side.Upper Good = Some Accept
verdict_of Side.Upper Bad = Some Drop
verdict_of Side.Lower Good = Some Drop
verdict_of Side.Lower Bad = Some Accept
verdict_of side Ends = None

-- the truth that a meaning gives, in the asked chain
abbrev pub truth_of : Meaning → Truth
truth_of m steps l = list_any (same_place (record { steps = steps; lit = l })) m

-- whether the one is as good as the other
abbrev pub AsGood : Outcome → Outcome → Type 0
AsGood Good o = Unit {0}
AsGood Ends Good = ⊥
AsGood Ends Ends = Unit {0}
AsGood Ends Bad = Unit {0}
AsGood Bad Good = ⊥
AsGood Bad Ends = ⊥
AsGood Bad Bad = Unit {0}
