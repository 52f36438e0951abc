-- A printed dump is settled, and says nothing unknown: the asked chain calls helper chains alone, and these call nothing.
use Rattle.std.proofs.Common.{◌≡◌, ℕ, zero, suc, ◌+◌, ◌<◌, ◌≤◌, ◌⊎◌, inl, inr, List, [], ◌∷◌, length, Bool, true, false, ◌&&◌, nat_lt, Option, None, Some, refl, sym, subst, ◌∙◌, ap, arith}
use Rattle.std.specs.Prelude.{slice_get, if◌then◌else◌, Contains}
use Rattle.std.specs.Option.{option_and_then}
use Rattle.std.specs.List.{AllByRecursion, flat_map}
use Rattle.std.proofs.lemmas.Bool.{and_parts}
use Rattle.std.proofs.lemmas.Bool.Decides.{nat_tests}
use Rattle.std.proofs.lemmas.List.Elements.{All-contains, All-from_recursion}
use Rattle.primitives.specs.declared.prim.Prim_.{Prim_}
use Rattle.fw_rule.specs.declared.rule.Action.{Action}
use Rattle.fw_rule.specs.declared.rule.Verdict.{Verdict}
use Rattle.fw_rule.specs.declared.rule.Rule.{Rule}
use Rattle.fw_rule.specs.declared.rule.Chain.{Chain}
use Rattle.fw_rule.specs.declared.rule.Dump.{Dump}
use Rattle.fw_rule.specs.Answers.{NothingUnknown}
use Rattle.fw_rule.specs.Walk.{Calls, Here, Over, Reaches, RuleOf, Settled, doubt_in, target_of}
use Rattle.box_norm.specs.declared.cube.SimpleRule.{SimpleRule}
use Rattle.dump_grammar.specs.Lines.{Text}
use Rattle.dump_print.specs.CubeLines.{choices_of}
use Rattle.dump_print.specs.Helpers.{helped_from, needs_helper}
use Rattle.printed_filter.specs.PrintedDump.{Helper, Said, asked_rules, helper_chains_from, helper_rules, helpers_of, placed_from, printed_dump, returns_of, verdict_action}
use Rattle.printed_filter.proofs.RuleWalk.{lines_do, returns_back}
use Rattle.basics.proofs.Lists.{each_append}
use Rattle.printed_filter.proofs.WalkOver.{Does}

-- whether the action is supported, and what it calls is one of the first `count` chains, but not the first of all
abbrev pub is_allowed : ℕ → Action → Bool
is_allowed count Action.Accept = true
is_allowed count Action.Drop = true
is_allowed count Action.Pass = true
is_allowed count Action.Back = true
is_allowed count (Action.Call k) = nat_lt 0 k && nat_lt k count
is_allowed count (Action.Goto k) = false
is_allowed count (Action.Other name) = false

verdict_allowed : (count : ℕ) (accept : Bool) → is_allowed count (verdict_action accept) ≡ true
verdict_allowed count true = refl
verdict_allowed count false = refl

call_allowed : (count k : ℕ) → 1 ≤ k → k < count → is_allowed count (Action.Call k) ≡ true
call_allowed count k l h = grind (arith, nat_tests)

-- the chain that an allowed action leads to is one of the first ones, but not the first of all
target_allowed : (count : ℕ) (action : Action) (k : ℕ) → target_of action ≡ Some k → is_allowed count action ≡ true → (nat_lt 0 k && nat_lt k count) ≡ true
target_allowed count Action.Accept k e a = let wrong : None ≡ Some k = e in absurd (cc wrong)
target_allowed count Action.Drop k e a = let wrong : None ≡ Some k = e in absurd (cc wrong)
target_allowed count Action.Pass k e a = let wrong : None ≡ Some k = e in absurd (cc wrong)
target_allowed count Action.Back k e a = let wrong : None ≡ Some k = e in absurd (cc wrong)
target_allowed count (Action.Call j) k e a = let f : Some j ≡ Some k = e in let same : k ≡ j = cc in ap (λ (n : ℕ). is_allowed count (Action.Call n)) same ∙ a
target_allowed count (Action.Goto j) k e a = let wrong : false ≡ true = a in absurd (cc wrong)
target_allowed count (Action.Other name) k e a = let wrong : None ≡ Some k = e in absurd (cc wrong)

module _ (W : ℕ) (count : ℕ) where
  pub record IsFine (said : Said W) : Type 0 where
    pub allowed : is_allowed count said.action ≡ true
    pub known : doubt_in said.literals ≡ false

  pub record IsFineRule (rule : Rule (Prim_ W)) : Type 0 where
    pub allowed : is_allowed count rule.action ≡ true
    pub known : doubt_in rule.lits ≡ false

  placed_fine : (saids : List (Said W)) (n : ℕ) → AllByRecursion IsFine saids → AllByRecursion IsFineRule (placed_from n saids)
  placed_fine [] n h = tt
  placed_fine (said ∷ saids) n h = (record { allowed = h.0.allowed; known = h.0.known }, placed_fine saids (n + 1) h.1)

  do_fine : (action : Action) (saids : List (Said W)) → is_allowed count action ≡ true → AllByRecursion (Does action) saids → AllByRecursion IsFine saids
  do_fine action [] a h = tt
  do_fine action (said ∷ saids) a h =
      (record { allowed = ap (is_allowed count) h.0.does ∙ a; known = h.0.known }, do_fine action saids a h.1)

  asked_fine : (rules : List (SimpleRule W)) (next : ℕ) → 1 ≤ next → next + length (helpers_of (helped_from next rules)) ≤ count →
      AllByRecursion IsFine (flat_map asked_rules (helped_from next rules))
  asked_fine [] next l h = tt
  asked_fine (rule ∷ rules) next l h = asked_by (needs_helper rule.cube) h (asked_fine rules next l) (asked_fine rules (next + 1) (omega arith))
    where
      asked_by : (b : Bool) → next + length (helpers_of
          (if b then record { rule = rule; helper = Some next } ∷ helped_from (next + 1) rules else record { rule = rule; helper = None } ∷ helped_from next rules)) ≤ count →
          (next + length (helpers_of (helped_from next rules)) ≤ count → AllByRecursion IsFine (flat_map asked_rules (helped_from next rules))) →
          (next + 1 + length (helpers_of (helped_from (next + 1) rules)) ≤ count → AllByRecursion IsFine (flat_map asked_rules (helped_from (next + 1) rules))) →
          AllByRecursion IsFine (flat_map asked_rules
          (if b then record { rule = rule; helper = Some next } ∷ helped_from (next + 1) rules else record { rule = rule; helper = None } ∷ helped_from next rules))
      asked_by true h plain helped =
          each_append IsFine (asked_rules (record { rule = rule; helper = Some next })) (flat_map asked_rules (helped_from (next + 1) rules))
          (do_fine (Action.Call next) (asked_rules (record { rule = rule; helper = Some next })) (call_allowed count next l (omega arith))
          (lines_do W rule.cube (Action.Call next) (choices_of rule.cube)))
          (helped (omega arith))
      asked_by false h plain helped =
          each_append IsFine (asked_rules (record { rule = rule; helper = None })) (flat_map asked_rules (helped_from next rules))
          (do_fine (verdict_action rule.accept) (asked_rules (record { rule = rule; helper = None })) (verdict_allowed count rule.accept)
          (lines_do W rule.cube (verdict_action rule.accept) (choices_of rule.cube)))
          (plain h)

module _ (W : ℕ) where
  abbrev HasFine : Helper W → Type 0
  HasFine helper = AllByRecursion (IsFine W 0) helper.rules

  helper_fine : (rule : SimpleRule W) → AllByRecursion (IsFine W 0) (helper_rules rule)
  helper_fine rule =
      each_append (IsFine W 0) (returns_of rule.cube) _ (do_fine W 0 Action.Back (returns_of rule.cube) refl (returns_back W rule.cube))
      (record { allowed = verdict_allowed 0 rule.accept; known = refl }, tt)

  helpers_fine : (rules : List (SimpleRule W)) (next : ℕ) → AllByRecursion HasFine (helpers_of (helped_from next rules))
  helpers_fine [] next = tt
  helpers_fine (rule ∷ rules) next = elim (needs_helper rule.cube) as (λ b. AllByRecursion HasFine (helpers_of
      (if b then record { rule = rule; helper = Some next } ∷ helped_from (next + 1) rules else record { rule = rule; helper = None } ∷ helped_from next rules))) [
        | true ↦ (helper_fine rule, helpers_fine rules (next + 1))
        | false ↦ helpers_fine rules next
      ]

  chain_fine : (helpers : List (Helper W)) (l i : ℕ) (here : Chain (Prim_ W)) → AllByRecursion HasFine helpers →
      slice_get (helper_chains_from l helpers) i ≡ Some here → AllByRecursion (IsFineRule W 0) here.rules
  chain_fine [] l i here h e = absurd (let wrong : None ≡ Some here = e in cc)
  chain_fine (helper ∷ helpers) l zero here h e =
      subst (λ (z : Option (Chain (Prim_ W))). RulesOf z) e (placed_fine W 0 helper.rules l h.0)
    where
      RulesOf : Option (Chain (Prim_ W)) → Type 0
      RulesOf None = Unit {0}
      RulesOf (Some x) = AllByRecursion (IsFineRule W 0) x.rules
  chain_fine (helper ∷ helpers) l (suc i) here h e = chain_fine helpers (l + length helper.rules) i here h.1 e

  chain_count : (helpers : List (Helper W)) (l : ℕ) → length (helper_chains_from l helpers) ≡ length helpers
  chain_count [] l = refl
  chain_count (helper ∷ helpers) l = ap suc (chain_count helpers (l + length helper.rules))

-- a dump whose first chain calls others alone, and whose other chains call nothing
module _ {W : ℕ} (dump : Dump (Prim_ W)) (first : Chain (Prim_ W)) (others : List (Chain (Prim_ W))) (is : dump.chains ≡ first ∷ others)
    (first_fine : AllByRecursion (IsFineRule W (suc (length others))) first.rules)
    (others_fine : (i : ℕ) (here : Chain (Prim_ W)) → slice_get others i ≡ Some here → AllByRecursion (IsFineRule W 0) here.rules) where
  abbrev count : ℕ
  count = suc (length others)

  abbrev IsOf : ℕ → Rule (Prim_ W) → Type 0
  IsOf a rule = ((a ≡ 0) × IsFineRule W count rule) ⊎ IsFineRule W 0 rule

  contained : (bound : ℕ) (here : Chain (Prim_ W)) (rule : Rule (Prim_ W)) → AllByRecursion (IsFineRule W bound) here.rules → Contains here.rules rule → IsFineRule W bound rule
  contained bound here rule h c = All-contains (IsFineRule W bound) here.rules rule (All-from_recursion (IsFineRule W bound) here.rules h) c

  rule_is : (a : ℕ) (rule : Rule (Prim_ W)) → RuleOf dump a rule → IsOf a rule
  rule_is zero rule h =
      let same : Some first ≡ Some h.0 = sym (ap (λ (xs : List (Chain (Prim_ W))). slice_get xs 0) is) ∙ h.1 in
      let here : first ≡ h.0 = cc in
      inl (refl, contained count h.0 rule (subst (λ (x : Chain (Prim_ W)). AllByRecursion (IsFineRule W count) x.rules) here first_fine) h.2)
  rule_is (suc i) rule h =
      inr (contained 0 h.0 rule (others_fine i h.0 (sym (ap (λ (xs : List (Chain (Prim_ W))). slice_get xs (suc i)) is) ∙ h.1)) h.2)

  called : (a b : ℕ) → Calls dump a b → (a ≡ 0) × (0 < b) × (b < count)
  called a b q = by (rule_is a q.0 q.1)
    where
      by : IsOf a q.0 → (a ≡ 0) × (0 < b) × (b < count)
      by (inl f) =
          let e = and_parts (nat_lt 0 b) (nat_lt b count) (target_allowed count q.0.action b q.2 f.1.allowed) in
          (f.0, grind (arith, nat_tests, e.0), grind (arith, nat_tests, e.1))
      by (inr f) =
          let e = and_parts (nat_lt 0 b) (nat_lt b 0) (target_allowed 0 q.0.action b q.2 f.allowed) in
          absurd (grind (arith, nat_tests, e.1))

  supported : (a : ℕ) (rule : Rule (Prim_ W)) (name : List ℕ) → RuleOf dump a rule → rule.action ≡ Action.Other name → ⊥
  supported a rule name h e = by (rule_is a rule h)
    where
      by : IsOf a rule → ⊥
      by (inl f) = let wrong : false ≡ true = sym (ap (is_allowed count) e) ∙ f.1.allowed in cc
      by (inr f) = let wrong : false ≡ true = sym (ap (is_allowed 0) e) ∙ f.allowed in cc

  back_at : (a b : ℕ) → 0 < b → a ≡ 0 → Reaches dump b a → ⊥
  back_at a b l e Here = omega arith
  back_at a b l e (Over {b = k} q r) = let c = called b k q in omega (arith, c.0)

  pub shape_settled : (v : Verdict) → first.policy ≡ Some v → Settled dump 0
  shape_settled v own = record {
    policy = (v, ap (λ (xs : List (Chain (Prim_ W))). option_and_then (λ (here : Chain (Prim_ W)). here.policy) (slice_get xs 0)) is ∙ own);
    named = λ a b r q. let c = called a b q in subst (λ (xs : List (Chain (Prim_ W))). b < length xs) (sym is) c.2;
    known_targets = λ a rule name r h e. supported a rule name h e;
    no_loop = λ a b r q l. let c = called a b q in back_at a b c.1 c.0 l;
  }

  pub shape_known : NothingUnknown dump
  shape_known c rule h = by (rule_is c rule h)
    where
      by : IsOf c rule → doubt_in rule.lits ≡ false
      by (inl f) = f.1.known
      by (inr f) = f.known

module _ {W : ℕ} (chain : Text) (policy : Verdict) (rules : List (SimpleRule W)) where
  abbrev pub helpers : List (Helper W)
  helpers = helpers_of (helped_from 1 rules)

  abbrev pub asked : List (Said W)
  asked = flat_map asked_rules (helped_from 1 rules)

  abbrev pub asked_chain : Chain (Prim_ W)
  asked_chain = record { name = chain; policy = Some policy; rules = placed_from (3 + length helpers) asked }

  abbrev pub chains_after : List (Chain (Prim_ W))
  chains_after = helper_chains_from (3 + length helpers + length asked) helpers

  asked_is_fine : AllByRecursion (IsFineRule W (suc (length chains_after))) asked_chain.rules
  asked_is_fine = placed_fine W (suc (length chains_after)) asked (3 + length helpers)
      (asked_fine W (suc (length chains_after)) rules 1 (omega arith) (omega (arith, chain_count W helpers (3 + length helpers + length asked))))

  pub dump_settled : Settled (printed_dump chain policy rules) 0
  dump_settled = shape_settled (printed_dump chain policy rules) asked_chain chains_after refl asked_is_fine
      (λ i here e. chain_fine W helpers (3 + length helpers + length asked) i here (helpers_fine W rules 1) e) policy refl

  pub nothing_unknown : NothingUnknown (printed_dump chain policy rules)
  nothing_unknown = shape_known (printed_dump chain policy rules) asked_chain chains_after refl asked_is_fine
      (λ i here e. chain_fine W helpers (3 + length helpers + length asked) i here (helpers_fine W rules 1) e)
