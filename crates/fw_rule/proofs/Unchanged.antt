-- A mapping that changes no literal changes no dump.
use Rattle.std.specs.Prelude.{◌≡◌, List, [], ◌∷◌, map, refl}
use Rattle.std.proofs.Common.{ap₂}
use Rattle.fw_rule.specs.declared.rule.Lit.{Lit}
use Rattle.fw_rule.specs.declared.rule.Rule.{Rule}
use Rattle.fw_rule.specs.declared.rule.Chain.{Chain}
use Rattle.fw_rule.specs.declared.rule.Dump.{Dump}
use Rattle.fw_rule.specs.Mapping.{mapped_rule, mapped_chain, mapped_by}

module _ {P : Type 0} (image : Lit P → Lit P) (same : (lit : Lit P) → image lit ≡ lit) where
  same_literals : (lits : List (Lit P)) → map image lits ≡ lits
  same_literals [] = refl
  same_literals (lit ∷ lits) = ap₂ (λ (x : Lit P) (xs : List (Lit P)). x ∷ xs) (same lit) (same_literals lits)

  same_rules : (rules : List (Rule P)) → map (mapped_rule image) rules ≡ rules
  same_rules [] = refl
  same_rules (rule ∷ rules) =
      λ i. record { lits = same_literals rule.lits i; action = rule.action; line = rule.line } ∷ same_rules rules i

  same_chains : (chains : List (Chain P)) → map (mapped_chain image) chains ≡ chains
  same_chains [] = refl
  same_chains (here ∷ chains) =
      λ i. record { name = here.name; policy = here.policy; rules = same_rules here.rules i } ∷ same_chains chains i

  pub unchanged : (dump : Dump P) → mapped_by image dump ≡ dump
  unchanged dump = λ i. record { chains = same_chains dump.chains i }
