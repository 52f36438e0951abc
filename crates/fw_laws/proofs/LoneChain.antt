-- A chain without rules is settled.
use Rattle.std.specs.Prelude.{ℕ, zero, suc, ◌≡◌, List, [], ◌∷◌, None, Some, slice_get}
use Rattle.std.specs.Option.{option_and_then}
use Rattle.std.proofs.Common.{ap, arith}
use Rattle.fw_rule.specs.declared.rule.Verdict.TheVariants.{Accept}
use Rattle.fw_rule.specs.declared.rule.Rule.{Rule}
use Rattle.fw_rule.specs.declared.rule.Chain.{Chain}
use Rattle.fw_rule.specs.declared.rule.Dump.{Dump}
use Rattle.fw_rule.specs.Walk.{RuleOf, Settled}

-- the dump has one chain, which accepts by its policy and has no rules
abbrev IsLone : {P : Type 0} → Dump P → Type 0
IsLone dump = dump.chains ≡ record { name = []; policy = Some Accept; rules = [] } ∷ []

module _ {P : Type 0} (dump : Dump P) (is : IsLone dump) where
  no_rules : (c : ℕ) (here : Chain P) → slice_get dump.chains c ≡ Some here → here.rules ≡ []
  no_rules zero here e =
      let q : slice_get dump.chains 0 ≡ Some (record { name = []; policy = Some Accept; rules = [] }) = ap (λ (xs : List (Chain P)). slice_get xs 0) is in
      let same : here ≡ record { name = []; policy = Some Accept; rules = [] } = cc in ap (λ (x : Chain P). x.rules) same
  no_rules (suc c) here e =
      let q : slice_get dump.chains (suc c) ≡ None = ap (λ (xs : List (Chain P)). slice_get xs (suc c)) is in cc

  empty : (c : ℕ) (rule : Rule P) → RuleOf dump c rule → ⊥
  empty c rule h = let e = no_rules c h.0 h.1 in let n = h.2.1 in omega (arith, rw e at n)

  pub lone_settled : Settled dump 0
  lone_settled = record {
    policy = (Accept, ap (λ (xs : List (Chain P)). option_and_then (λ (here : Chain P). here.policy) (slice_get xs 0)) is);
    named = λ a b r q. absurd (empty a q.0 q.1);
    known_targets = λ a rule name r h e. empty a rule h;
    no_loop = λ a b r q l. empty a q.0 q.1;
  }
