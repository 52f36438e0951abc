-- A mapping of literals keeps all else.
use Rattle.std.specs.Prelude.{ℕ, ◌<◌, ◌^◌, ◌≡◌, List, [], ◌∷◌, Option, None, Some, map, slice_get, refl}
use Rattle.std.proofs.Common.{subst, sym, ap, ap₂, ◌∙◌}
use Rattle.std.specs.Option.{option_and_then, option_map}
use Rattle.std.proofs.lemmas.Option.{slice_get-map}
use Rattle.std.proofs.lemmas.List.{length-map}
use Rattle.std.proofs.lemmas.List.Elements.{All-map, All-weaker}
use Rattle.fw_rule.specs.declared.rule.Lit.{Lit}
use Rattle.fw_rule.specs.declared.rule.Rule.{Rule}
use Rattle.fw_rule.specs.declared.rule.Chain.{Chain}
use Rattle.fw_rule.specs.declared.rule.Dump.{Dump}
use Rattle.fw_rule.specs.Walk.{ChainHasRoom, RuleHasRoom, mapped_rule, mapped_chain, mapped_by}
use Rattle.fw_rule.proofs.Unchanged.{unchanged}
use Rattle.fw_laws.specs.Shape.{shape_of, rule_at}
use Rattle.fw_laws.specs.Mapped.{SameStays, ShapeStays, SettledStays, RoomStays, CallsStay, PoliciesStay}
use Rattle.fw_laws.proofs.Alike.{same_policy}
use Rattle.fw_laws.proofs.Settle.{settled_there, calls_there}

module _ {P : Type 0} (image : Lit P → Lit P) where
  same_actions : (rules : List (Rule P)) → map (λ (rule : Rule P). rule.action) rules
      ≡ map (λ (rule : Rule P). rule.action) (map (mapped_rule image) rules)
  same_actions [] = refl
  same_actions (rule ∷ rules) = ap (λ (xs : List _). rule.action ∷ xs) (same_actions rules)

  same_shapes : (chains : List (Chain P)) → map shape_of chains ≡ map shape_of (map (mapped_chain image) chains)
  same_shapes [] = refl
  same_shapes (here ∷ chains) = ap₂ (λ (a : _) (xs : List _). record { policy = here.policy; actions = a } ∷ xs)
      (same_actions here.rules) (same_shapes chains)

  by_chain : (n : ℕ) (o : Option (Chain P)) →
      option_and_then (λ (x : Chain P). slice_get x.rules n) (option_map (mapped_chain image) o)
      ≡ option_map (mapped_rule image) (option_and_then (λ (x : Chain P). slice_get x.rules n) o)
  by_chain n None = refl
  by_chain n (Some here) = slice_get-map (mapped_rule image) here.rules n

  -- a rule of the mapped dump is the image of the one with its number
  pub rule_at-mapped : (dump : Dump P) (c n : ℕ) → rule_at (mapped_by image dump) c n
      ≡ option_map (mapped_rule image) (rule_at dump c n)
  rule_at-mapped dump c n =
      ap (option_and_then (λ (x : Chain P). slice_get x.rules n)) (slice_get-map (mapped_chain image) dump.chains c)
      ∙ by_chain n (slice_get dump.chains c)

  rule_room : (rule : Rule P) → RuleHasRoom rule → RuleHasRoom (mapped_rule image rule)
  rule_room rule h = subst (λ (n : ℕ). n < 2 ^ 32) (sym (length-map rule.lits image)) h

  chain_room : (here : Chain P) → ChainHasRoom here → ChainHasRoom (mapped_chain image here)
  chain_room here h = (
    subst (λ (n : ℕ). n < 2 ^ 32) (sym (length-map here.rules (mapped_rule image))) h.0,
    All-map RuleHasRoom (mapped_rule image) here.rules
        (All-weaker RuleHasRoom (λ rule. RuleHasRoom (mapped_rule image rule)) rule_room here.rules h.1),
  )

module _ {P : Type 0} (dump : Dump P) where
  pub same_stays : SameStays dump
  same_stays image same = unchanged image same dump

  pub shape_stays : ShapeStays dump
  shape_stays image = same_shapes image dump.chains

  pub room_stays : RoomStays dump
  room_stays image h = (
    subst (λ (n : ℕ). n < 2 ^ 32) (sym (length-map dump.chains (mapped_chain image))) h.0,
    All-map ChainHasRoom (mapped_chain image) dump.chains
        (All-weaker ChainHasRoom (λ here. ChainHasRoom (mapped_chain image here)) (chain_room image) dump.chains h.1),
  )

  pub calls_stay : CallsStay dump
  calls_stay image = (
    length-map dump.chains (mapped_chain image),
    λ a b. (
      calls_there dump (mapped_by image dump) (shape_stays image) a b,
      calls_there (mapped_by image dump) dump (sym (shape_stays image)) a b,
    ),
  )

  pub settled_stays : SettledStays dump
  settled_stays image chain = (
    settled_there dump (mapped_by image dump) (shape_stays image) chain,
    settled_there (mapped_by image dump) dump (sym (shape_stays image)) chain,
  )

  pub policies_stay : PoliciesStay dump
  policies_stay image chain = sym (same_policy dump (mapped_by image dump) (shape_stays image) chain)
