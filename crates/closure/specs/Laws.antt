-- What is proved of flat lists and walks.
use Rattle.std.specs.Prelude.{ℕ, ◌≡◌, ◌↔◌, Bool, true, false, List, [], Option, None, Some, unwrap_or}
use Rattle.match_expr.specs.FirstMatch.{first_match}
use Rattle.match_expr.specs.declared.expr.FlatRule.{FlatRule}
use Rattle.fw_rule.specs.declared.rule.Verdict.{Verdict}
use Rattle.fw_rule.specs.declared.rule.Verdict.TheVariants.{Accept, Drop}
use Rattle.fw_rule.specs.declared.rule.Dump.{Dump}
use Rattle.fw_rule.specs.Walk.{Meaning, Walks, IsBest, is_accept}
use Rattle.fw_rule.specs.declared.side.Side.{Side}

-- the verdict that a side wants
abbrev pub wanted : Side → Verdict
wanted Side.Upper = Accept
wanted Side.Lower = Drop

-- what a flat rule says, as a verdict: None where no rule holds
abbrev pub told : Option Bool → Option Verdict
told (Some true) = Some Accept
told (Some false) = Some Drop
told None = None

-- read by first match, the list says of each packet the best outcome that a walk from the chain's first rule on can have
abbrev pub SaysBest : {P Packet : Type 0} → (P → Packet → Bool) → Side → Dump P → ℕ → List (FlatRule P) → Type 0
SaysBest {P} {Packet} holds side dump chain rules =
    (p : Packet) → IsBest holds dump p (wanted side) chain 0 [] (told (first_match (λ x. holds x p) rules))

-- with the policy at its end, the list accepts exactly what the walk accepts, under each meaning
abbrev pub ClosesToEachWalk : {P Packet : Type 0} → (P → Packet → Bool) → Dump P → ℕ → Verdict → List (FlatRule P) → Type 0
ClosesToEachWalk {P} {Packet} holds dump chain policy rules = (p : Packet) (m : Meaning) →
    (unwrap_or (first_match (λ x. holds x p) rules) (is_accept policy) ≡ true) ↔ Walks holds dump p m chain Accept
