-- When a rule matches, and what of it is known.
use Rattle.std.specs.Prelude.{ℕ, ◌+◌, Bool, true, false, not, ◌&&◌, if◌then◌else◌, List, [], ◌∷◌, Option, None, Some, Contains, IsTrue}
use Rattle.std.specs.List.{list_any, filter_map}
use Rattle.match_expr.specs.Meaning.{eval_of}
use Rattle.match_expr.specs.declared.expr.Expr.{Expr}
use Rattle.match_expr.specs.declared.expr.Expr.TheVariants.{All, Not}
use Rattle.fw_rule.specs.declared.rule.Lit.{Lit}
use Rattle.fw_rule.specs.declared.rule.Rule.{Rule}
use Rattle.fw_rule.specs.declared.rule.Place.{Place}
use Rattle.fw_rule.specs.Places.{Path, Meaning, same_place}

module _ {P Packet : Type 0} (holds : P → Packet → Bool) where
  -- whether a known literal holds: its expression does, or doesn't where it is negated
  abbrev pub known_holds : Packet → Bool → Expr P → Bool
  known_holds p neg expr = if neg then not (eval_of (λ x. holds x p) expr) else eval_of (λ x. holds x p) expr

  -- whether a literal holds at its place: an unknown one does where the meaning has the place
  abbrev pub literal_holds : Packet → Meaning → Place → Lit P → Bool
  literal_holds p m place (Lit.Known neg expr) = known_holds p neg expr
  literal_holds p m place (Lit.Unknown text) = list_any (same_place place) m

  -- whether the literals hold, the first of them with the number `l`
  abbrev pub literals_hold : Packet → Meaning → Path → ℕ → List (Lit P) → Bool
  literals_hold p m path l [] = true
  literals_hold p m path l (lit ∷ lits) = literal_holds p m (record { steps = path; lit = l }) lit && literals_hold p m path (l + 1) lits

  -- a rule matches at the path that ends with it where all its literals hold, which count from 0
  abbrev pub matches : Packet → Meaning → Path → Rule P → Bool
  matches p m path rule = literals_hold p m path 0 rule.lits

module _ {P : Type 0} where
  -- whether a literal is unknown
  abbrev pub is_unknown : Lit P → Bool
  is_unknown (Lit.Known neg expr) = false
  is_unknown (Lit.Unknown text) = true

  -- whether some literal is unknown: a rule is doubtful where one of its literals is
  abbrev pub doubt_in : List (Lit P) → Bool
  doubt_in lits = list_any is_unknown lits

  -- what a known literal says, as an expression: a negated one is a Not
  abbrev pub known_part : Lit P → Option (Expr P)
  known_part (Lit.Known neg expr) = Some (if neg then Not expr else expr)
  known_part (Lit.Unknown text) = None

  -- the known literals, in order
  abbrev pub known_in : List (Lit P) → List (Expr P)
  known_in lits = filter_map known_part lits

  -- the known part of a rule: all its known literals hold
  abbrev pub known_of : Rule P → Expr P
  known_of rule = All (known_in rule.lits)

  -- each known literal of the rule holds
  abbrev pub EachKnownHolds : {Packet : Type 0} → (P → Packet → Bool) → Packet → Rule P → Type 0
  EachKnownHolds holds p rule = (neg : Bool) (expr : Expr P) → Contains rule.lits (Lit.Known neg expr) → IsTrue (known_holds holds p neg expr)
