-- What is seen of the rules of chains, for a packet and a wanted verdict.
use Rattle.std.specs.Prelude.{ℕ, ◌+◌, ◌≡◌, Bool, List, length, Option, Some, slice_get}
use Rattle.match_expr.specs.Meaning.{eval_of}
use Rattle.fw_rule.specs.declared.rule.Verdict.{Verdict}
use Rattle.fw_rule.specs.declared.rule.Rule.{Rule}
use Rattle.fw_rule.specs.declared.rule.Chain.{Chain}
use Rattle.fw_rule.specs.declared.rule.Dump.{Dump}
use Rattle.fw_rule.specs.Walk.{Calls, known_of, doubt_in}
use Rattle.explain.specs.declared.views.Sight.{Sight}
use Rattle.explain.specs.declared.views.View.{View}
use Rattle.explain.specs.inner.Reaching.{match_of, ReachIs}

-- the table has this view of the chain
abbrev pub Has : List (Option View) → ℕ → View → Type 0
Has views c view = slice_get views c ≡ Some (Some view)

module _ {P Packet : Type 0} (holds : P → Packet → Bool) (dump : Dump P) (p : Packet) (v : Verdict) where
  -- how the rule `next` of the chain matches, and what is reached behind it
  abbrev pub IsSight : ℕ → ℕ → Sight → Type 0
  IsSight c next sight = (here : Chain P) (rule : Rule P) → slice_get dump.chains c ≡ Some here → slice_get here.rules next ≡ Some rule →
      (sight.matching ≡ match_of (eval_of (λ x. holds x p) (known_of rule)) (doubt_in rule.lits)) × ReachIs holds dump p v c (next + 1) sight.behind

  -- a sight of each rule of the chain, and what is reached from its first rule
  pub record IsView (c : ℕ) (view : View) : Type 0 where
    pub sights : (n : ℕ) (sight : Sight) → slice_get view.sights n ≡ Some sight → IsSight c n sight
    pub start : ReachIs holds dump p v c 0 view.start

  -- the views of the table are right
  abbrev pub AreRight : List (Option View) → Type 0
  AreRight views = (c : ℕ) (view : View) → Has views c view → IsView c view

-- a view has a sight for each rule of its chain, and with a chain the table has those that the chain calls or goes to
pub record Covers {P : Type 0} (dump : Dump P) (views : List (Option View)) : Type 0 where
  pub long : length views ≡ length dump.chains
  pub sights : (c : ℕ) (view : View) (here : Chain P) → Has views c view → slice_get dump.chains c ≡ Some here → length view.sights ≡ length here.rules
  pub below : (c : ℕ) (view : View) → Has views c view → (k : ℕ) → Calls dump c k → (other : View) × Has views k other

-- the table has still each chain that it had
abbrev pub Keeps : List (Option View) → List (Option View) → Type 0
Keeps views views' = (c : ℕ) (view : View) → Has views c view → (other : View) × Has views' c other
