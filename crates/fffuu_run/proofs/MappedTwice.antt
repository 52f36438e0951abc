-- A mapping of literals after another is one mapping, and two mappings whose literals hold alike leave what is accepted.
use Rattle.std.proofs.Common.{◌≡◌, ◌∙◌, ◌+◌, ◌&&◌, ◌↔◌, ℕ, zero, suc, Bool, List, Contains, [], ◌∷◌, Option, None, Some, refl, sym, ap, ap₂, subst, map, slice_get}
use Rattle.std.specs.Option.{option_and_then, option_map}
use Rattle.std.specs.List.{AllByRecursion}
use Rattle.std.proofs.lemmas.Option.{same_Some}
use Rattle.fw_rule.specs.declared.rule.Lit.{Lit}
use Rattle.fw_rule.specs.declared.rule.Rule.{Rule}
use Rattle.fw_rule.specs.declared.rule.Chain.{Chain}
use Rattle.fw_rule.specs.declared.rule.Dump.{Dump}
use Rattle.fw_rule.specs.declared.rule.Place.{Place}
use Rattle.fw_rule.specs.declared.side.Side.{Side}
use Rattle.fw_rule.specs.Answers.{IsAccepted}
use Rattle.fw_rule.specs.Walk.{Path, Meaning, RuleOf, literal_holds, literals_hold, matches, mapped_by, mapped_chain, mapped_rule}
use Rattle.fw_laws.specs.Shape.{MatchAlike, rule_at}
use Rattle.fw_laws.proofs.Alike.{same_may, same_must}
use Rattle.fw_laws.proofs.Mapping.{rule_at-mapped, shape_stays}
use Rattle.primitives.specs.Holds.{holds_of}
use Rattle.primitives.specs.declared.prim.Packet.{Packet}
use Rattle.primitives.specs.declared.prim.Prim_.{Prim_}
use Rattle.fffuu_run.proofs.DumpLemmas.{contains_here, contains_there}
use Rattle.fffuu_run.specs.inner.Plain.{HasPlainLiterals, IsPlainLiteral}

map_twice : {X : Type 0} (f g h : X → X) → ((x : X) → f (g x) ≡ h x) → (xs : List X) → map f (map g xs) ≡ map h xs
map_twice f g h same [] = refl
map_twice f g h same (x ∷ xs) = ap₂ (λ (y : _) (ys : List _). y ∷ ys) (same x) (map_twice f g h same xs)

module _ {P : Type 0} (f g h : Lit P → Lit P) (same : (lit : Lit P) → f (g lit) ≡ h lit) where
  rule_twice : (rule : Rule P) → mapped_rule f (mapped_rule g rule) ≡ mapped_rule h rule
  rule_twice rule = ap (λ (ls : List (Lit P)). record { lits = ls; action = rule.action; line = rule.line }) (map_twice f g h same rule.lits)

  chain_twice : (here : Chain P) → mapped_chain f (mapped_chain g here) ≡ mapped_chain h here
  chain_twice here = ap (λ (rs : List (Rule P)). record { name = here.name; policy = here.policy; rules = rs })
      (map_twice (mapped_rule f) (mapped_rule g) (mapped_rule h) rule_twice here.rules)

  pub mapped_twice : (dump : Dump P) → mapped_by f (mapped_by g dump) ≡ mapped_by h dump
  mapped_twice dump = ap (λ (cs : List (Chain P)). record { chains = cs }) (map_twice (mapped_chain f) (mapped_chain g) (mapped_chain h) chain_twice dump.chains)

contains_at : {X : Type 0} (xs : List X) (n : ℕ) (x : X) → slice_get xs n ≡ Some x → Contains xs x
contains_at [] n x at = absurd (cc)
contains_at (y ∷ xs) zero x at = let same : y ≡ x = cc in subst (Contains (y ∷ xs)) same (contains_here y xs)
contains_at (y ∷ xs) (suc n) x at = contains_there y xs x (contains_at xs n x at)

-- the rule at a place is one of its chain
module _ {P : Type 0} (dump : Dump P) (c n : ℕ) (rule : Rule P) where
  in_chain : (o : Option (Chain P)) → slice_get dump.chains c ≡ o → option_and_then (λ (here : Chain P). slice_get here.rules n) o ≡ Some rule → RuleOf dump c rule
  in_chain None is at = absurd (cc)
  in_chain (Some here) is at = (here, is, contains_at here.rules n rule at)

  rule_of_place : rule_at dump c n ≡ Some rule → RuleOf dump c rule
  rule_of_place at = in_chain (slice_get dump.chains c) refl at

module _ {W : ℕ} (f g : Lit (Prim_ W) → Lit (Prim_ W)) (p : Packet)
    (same : (m : Meaning) (place : Place) (lit : Lit (Prim_ W)) → IsPlainLiteral lit → literal_holds holds_of p m place (f lit) ≡ literal_holds holds_of p m place (g lit)) where
  literals_same : (m : Meaning) (path : Path) (l : ℕ) (lits : List (Lit (Prim_ W))) → AllByRecursion IsPlainLiteral lits →
      literals_hold holds_of p m path l (map f lits) ≡ literals_hold holds_of p m path l (map g lits)
  literals_same m path l [] plain = refl
  literals_same m path l (lit ∷ lits) plain =
      ap₂ (λ (a b : Bool). a && b) (same m (record { steps = path; lit = l }) lit plain.0) (literals_same m path (l + 1) lits plain.1)

  module _ (dump : Dump (Prim_ W)) (plain : HasPlainLiterals dump) where
    rule_same : (m : Meaning) (path : Path) (c n : ℕ) (o : Option (Rule (Prim_ W))) (a b : Rule (Prim_ W)) → rule_at dump c n ≡ o →
        option_map (mapped_rule f) o ≡ Some a → option_map (mapped_rule g) o ≡ Some b → matches holds_of p m path a ≡ matches holds_of p m path b
    rule_same m path c n None a b at e h = absurd (cc)
    rule_same m path c n (Some r) a b at e h =
        let x : mapped_rule f r ≡ a = same_Some _ _ e in
        let y : mapped_rule g r ≡ b = same_Some _ _ h in
        let lits = plain c r (rule_of_place dump c n r at) in
        ap (λ (rule : Rule (Prim_ W)). matches holds_of p m path rule) (sym x) ∙ literals_same m path 0 r.lits lits
        ∙ ap (λ (rule : Rule (Prim_ W)). matches holds_of p m path rule) y

    match_alike : (m : Meaning) → MatchAlike holds_of (mapped_by f dump) (mapped_by g dump) p m
    match_alike m c n path a b e h =
        rule_same m path c n (rule_at dump c n) a b refl (sym (rule_at-mapped f dump c n) ∙ e) (sym (rule_at-mapped g dump c n) ∙ h)

    -- what is accepted in the one is accepted in the other
    pub accepted_same : (side : Side) (chain : ℕ) → IsAccepted holds_of side (mapped_by f dump) chain p ↔ IsAccepted holds_of side (mapped_by g dump) chain p
    accepted_same Side.Upper chain = same_may holds_of (mapped_by f dump) (mapped_by g dump) p (sym (shape_stays dump f) ∙ shape_stays dump g) match_alike chain
    accepted_same Side.Lower chain = same_must holds_of (mapped_by f dump) (mapped_by g dump) p (sym (shape_stays dump f) ∙ shape_stays dump g) match_alike chain
