-- Two dumps of one shape are settled alike.
use Rattle.std.specs.Prelude.{ℕ, ◌<◌, ◌≡◌, Option, None, Some, length, slice_get, refl}
use Rattle.std.proofs.Common.{sym, ap, ◌∙◌, subst}
use Rattle.std.specs.Option.{option_map}
use Rattle.std.proofs.lemmas.List.{length-map}
use Rattle.std.proofs.lemmas.Option.{slice_get-get_or}
use Rattle.fw_rule.specs.declared.rule.Rule.{Rule}
use Rattle.fw_rule.specs.declared.rule.Chain.{Chain}
use Rattle.fw_rule.specs.declared.rule.Dump.{Dump}
use Rattle.fw_rule.specs.Walk.{target_of, RuleOf, Calls, Reaches, Here, Over, Settled}
use Rattle.fw_rule.proofs.Ends.{contains_at}
use Rattle.fw_laws.specs.Shape.{shape_of, SameShape}
use Rattle.fw_laws.proofs.Alike.{same_policy, chain_shapes, rule_actions}

module _ {A B C : Type 0} where
  -- what stands under the same image
  pub under_image : (f : A → C) (g : B → C) (a : A) (b : Option B) → Some (f a) ≡ option_map g b → (x : B) × (b ≡ Some x) × (f a ≡ g x)
  under_image f g a None e = cc
  under_image f g a (Some x) e = (x, refl, cc)

module _ {P : Type 0} (one other : Dump P) (shape : SameShape one other) where
  pub chain_there : (c : ℕ) (here : Chain P) → slice_get one.chains c ≡ Some here → (there : Chain P) × (slice_get other.chains c ≡ Some there) × (shape_of here ≡ shape_of there)
  chain_there c here e = under_image shape_of shape_of here (slice_get other.chains c) (sym (ap (option_map shape_of) e) ∙ chain_shapes one other shape c)

  -- a rule of the same action stands in the same chain
  pub rule_there : (c : ℕ) (rule : Rule P) → RuleOf one c rule → (x : Rule P) × RuleOf other c x × (rule.action ≡ x.action)
  rule_there c rule h =
      let t = chain_there c h.0 h.1 in
      let e : slice_get h.0.rules h.2.0 ≡ Some rule = slice_get-get_or h.0.rules h.2.0 rule h.2.1 ∙ ap (λ (r : Rule P). Some r) h.2.2 in
      let x = under_image (λ (r : Rule P). r.action) (λ (r : Rule P). r.action) rule (slice_get t.0.rules h.2.0)
      (sym (ap (option_map (λ (r : Rule P). r.action)) e) ∙ rule_actions h.0 t.0 t.2 h.2.0) in
      (x.0, (t.0, t.1, contains_at t.0.rules h.2.0 x.0 x.1), x.2)

  pub calls_there : (a b : ℕ) → Calls one a b → Calls other a b
  calls_there a b q = let x = rule_there a q.0 q.1 in (x.0, x.1, sym (ap target_of x.2) ∙ q.2)

  pub reaches_there : (a b : ℕ) → Reaches one a b → Reaches other a b
  reaches_there a b Here = Here
  reaches_there a b (Over {b = k} q r) = Over (calls_there a k q) (reaches_there k b r)

module _ {P : Type 0} (one other : Dump P) (shape : SameShape one other) where
  back_shape : SameShape other one
  back_shape = sym shape

  as_many : length one.chains ≡ length other.chains
  as_many = sym (length-map one.chains shape_of) ∙ ap length shape ∙ length-map other.chains shape_of

  pub settled_there : (c : ℕ) → Settled one c → Settled other c
  settled_there c s =
      record {
        policy = (s.policy.0, sym (same_policy one other shape c) ∙ s.policy.1);
        named = λ a b r q. subst (λ (n : ℕ). b < n) as_many (s.named a b (reaches_there other one back_shape c a r) (calls_there other one back_shape a b q));
        known_targets = λ a rule name r h e. let x = rule_there other one back_shape a rule h in
            s.known_targets a x.0 name (reaches_there other one back_shape c a r) x.1 (sym x.2 ∙ e);
        no_loop = λ a b r q l. s.no_loop a b (reaches_there other one back_shape c a r) (calls_there other one back_shape a b q) (reaches_there other one back_shape b a l);
      }
