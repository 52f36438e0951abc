-- Where a walk of the probe stands, by where the walk of the dump does.
use Rattle.std.specs.Prelude.{ℕ, zero, suc, ◌+◌, ◌<◌, ◌≡◌, ◌⊎◌, ◌==◌, ◌&&◌, Bool, true, false, List, [], ◌∷◌, ◌++◌, Option, None, Some, length, map, slice_get, get_or, if◌then◌else◌, refl}
use Rattle.std.proofs.Common.{subst, sym, ap, ap₂, ◌∙◌, arith, inl, inr, zero-add, true≢false}
use Rattle.std.specs.Option.{option_map, option_and_then}
use Rattle.std.proofs.lemmas.Bool.Decides.{nat_tests}
use Rattle.std.proofs.lemmas.Option.{get_or_from_slice_get, slice_get-map, slice_get_within}
use Rattle.fw_rule.specs.declared.rule.Action.{Action}
use Rattle.fw_rule.specs.declared.rule.Rule.{Rule}
use Rattle.fw_rule.specs.declared.rule.Chain.{Chain}
use Rattle.fw_rule.specs.declared.rule.Dump.{Dump}
use Rattle.fw_rule.specs.declared.rule.Step.{Step}
use Rattle.fw_rule.specs.Walk.{Path, State, At, Ended, Frame, target_of}
use Rattle.fw_rule.proofs.Ends.{found_at}
use Rattle.fw_laws.specs.Frames.{step_of}
use Rattle.fw_laws.specs.Shape.{rule_at}
use Rattle.region_queries.specs.Probe.{barred, barred_chain, copied_rules, copy_of, entry_of, next_copy, own_action, probe_of, with_action}
use Rattle.region_queries.specs.inner.Living.{Follows}
use Rattle.region_queries.proofs.ProbeLemmas.{Stand, barred_at, copied_at, copies_stand}

-- The path in the probe: as long as it follows the visit it goes over the copies, the first of which has the number `n`.
abbrev pub lifted : ℕ → Path → Path → Path
lifted n [] path = path
lifted n (v ∷ vs) [] = []
lifted n (v ∷ vs) (s ∷ path) = step_of n s.rule ∷ (if s.rule == v.rule then lifted (n + 1) vs path else path)

-- the chain that it leads to
abbrev pub lifted_chain : ℕ → Path → Path → ℕ → ℕ
lifted_chain n [] path c = c
lifted_chain n (v ∷ vs) [] c = n
lifted_chain n (v ∷ vs) (s ∷ path) c = if s.rule == v.rule then lifted_chain (n + 1) vs path c else c

-- what is done there to the action of the rule `next`
abbrev pub turned_action : ℕ → Path → Path → ℕ → Action → Action
turned_action n [] path next = barred
turned_action n (v ∷ vs) [] next = if next == v.rule then own_action (next_copy (n + 1) vs) else barred
turned_action n (v ∷ vs) (s ∷ path) next = if s.rule == v.rule then turned_action (n + 1) vs path next else barred

-- whether this rule ends the visit
abbrev pub ends : Path → Path → ℕ → Bool
ends [] path next = false
ends (v ∷ []) [] next = next == v.rule
ends (v ∷ w ∷ vs) [] next = false
ends (v ∷ vs) (s ∷ path) next = (s.rule == v.rule) && ends vs path next

-- calls and gotos lead elsewhere
abbrev pub moved : (ℕ → ℕ) → Action → Action
moved f Action.Accept = Action.Drop
moved f Action.Drop = Action.Drop
moved f Action.Pass = Action.Pass
moved f Action.Back = Action.Back
moved f (Action.Call k) = Action.Call (f k)
moved f (Action.Goto k) = Action.Goto (f k)
moved f (Action.Other name) = Action.Other name

pub barred_is : (action : Action) → barred action ≡ moved (λ k. k) action
barred_is Action.Accept = refl
barred_is Action.Drop = refl
barred_is Action.Pass = refl
barred_is Action.Back = refl
barred_is (Action.Call k) = refl
barred_is (Action.Goto k) = refl
barred_is (Action.Other name) = refl

pub own_is : (n : ℕ) (action : Action) → own_action (Some n) action ≡ moved (λ k. n) action
own_is n Action.Accept = refl
own_is n Action.Drop = refl
own_is n Action.Pass = refl
own_is n Action.Back = refl
own_is n (Action.Call k) = refl
own_is n (Action.Goto k) = refl
own_is n (Action.Other name) = refl

moved_alike : (f g : ℕ → ℕ) → ((k : ℕ) → f k ≡ g k) → (action : Action) → moved f action ≡ moved g action
moved_alike f g h Action.Accept = refl
moved_alike f g h Action.Drop = refl
moved_alike f g h Action.Pass = refl
moved_alike f g h Action.Back = refl
moved_alike f g h (Action.Call k) = ap Action.Call (h k)
moved_alike f g h (Action.Goto k) = ap Action.Goto (h k)
moved_alike f g h (Action.Other name) = refl

-- A rule that ends the visit accepts; the calls and gotos of another lead to where the longer path does.
abbrev pub Turned : ℕ → Path → Path → ℕ → Type 0
Turned n vs path next =
    ((ends vs path next ≡ true) × ((action : Action) → turned_action n vs path next action ≡ Action.Accept))
    ⊎ ((ends vs path next ≡ false) × ((c : ℕ) (action : Action) → turned_action n vs path next action ≡ moved (lifted_chain n vs (path ++ step_of c next ∷ [])) action))

pub turned_is : (n : ℕ) (vs path : Path) (next : ℕ) → Turned n vs path next
turned_is n [] path next = inr (refl, λ c action. barred_is action)
turned_is n (v ∷ []) [] next = by (next == v.rule) refl
  where
    by : (b : Bool) → (next == v.rule) ≡ b → Turned n (v ∷ []) [] next
    by true e = inl (e, λ action. rw e refl)
    by false e = inr (e, λ c action. (rw e (barred_is action)) ∙ moved_alike (λ k. k) (lifted_chain n (v ∷ []) (step_of c next ∷ [])) (λ k. rw e refl) action)
turned_is n (v ∷ w ∷ vs) [] next = by (next == v.rule) refl
  where
    by : (b : Bool) → (next == v.rule) ≡ b → Turned n (v ∷ w ∷ vs) [] next
    by true e = inr (refl, λ c action. (rw e (own_is (n + 1) action)) ∙ moved_alike (λ k. n + 1) (lifted_chain n (v ∷ w ∷ vs) (step_of c next ∷ [])) (λ k. rw e refl) action)
    by false e = inr (refl, λ c action. (rw e (barred_is action)) ∙ moved_alike (λ k. k) (lifted_chain n (v ∷ w ∷ vs) (step_of c next ∷ [])) (λ k. rw e refl) action)
turned_is n (v ∷ vs) (s ∷ path) next = by (s.rule == v.rule) refl (turned_is (n + 1) vs path next)
  where
    by : (b : Bool) → (s.rule == v.rule) ≡ b → Turned (n + 1) vs path next → Turned n (v ∷ vs) (s ∷ path) next
    by true e (inl h) = inl ((rw e h.0), λ action. rw e (h.1 action))
    by true e (inr h) = inr (
      (rw e h.0),
      λ c action. (rw e (h.1 c action))
          ∙ moved_alike (lifted_chain (n + 1) vs (path ++ step_of c next ∷ [])) (lifted_chain n (v ∷ vs) (s ∷ path ++ step_of c next ∷ [])) (λ k. rw e refl) action,
    )
    by false e h = inr ((rw e refl), λ c action. (rw e (barred_is action)) ∙ moved_alike (λ k. k) (lifted_chain n (v ∷ vs) (s ∷ path ++ step_of c next ∷ [])) (λ k. rw e refl) action)

nothing_lifted : (n : ℕ) (vs : Path) → lifted n vs [] ≡ []
nothing_lifted n [] = refl
nothing_lifted n (v ∷ vs) = refl

-- the path with one more step
pub lifted_on : (n : ℕ) (vs path : Path) (c next : ℕ) → lifted n vs (path ++ step_of c next ∷ []) ≡ lifted n vs path ++ step_of (lifted_chain n vs path c) next ∷ []
lifted_on n [] path c next = refl
lifted_on n (v ∷ vs) [] c next = by (next == v.rule) refl
  where
    by : (b : Bool) → (next == v.rule) ≡ b → lifted n (v ∷ vs) (step_of c next ∷ []) ≡ step_of n next ∷ []
    by true e = rw e (ap (λ (xs : Path). step_of n next ∷ xs) (nothing_lifted (n + 1) vs))
    by false e = rw e refl
lifted_on n (v ∷ vs) (s ∷ path) c next = by (s.rule == v.rule) refl (lifted_on (n + 1) vs path c next)
  where
    by : (b : Bool) → (s.rule == v.rule) ≡ b → lifted (n + 1) vs (path ++ step_of c next ∷ []) ≡ lifted (n + 1) vs path ++ step_of (lifted_chain (n + 1) vs path c) next ∷ [] →
        lifted n (v ∷ vs) (s ∷ path ++ step_of c next ∷ [])
        ≡ lifted n (v ∷ vs) (s ∷ path) ++ step_of (lifted_chain n (v ∷ vs) (s ∷ path) c) next ∷ []
    by true e h = rw e (ap (λ (xs : Path). step_of n s.rule ∷ xs) h)
    by false e h = rw e refl

pub same_number : (a b : ℕ) → (a == b) ≡ true → a ≡ b
same_number a b h = grind (arith, nat_tests)

pub same_as_itself : (a : ℕ) → (a == a) ≡ true
same_as_itself a = grind (arith, nat_tests)

module _ {P : Type 0} (dump : Dump P) where
  -- they lead to the chain
  abbrev pub LeadsTo : Option ℕ → Path → ℕ → Type 0
  LeadsTo o [] c = o ≡ Some c
  LeadsTo o (s ∷ path) c = (o ≡ Some s.chain) × (rule : Rule P) × (rule_at dump s.chain s.rule ≡ Some rule) × LeadsTo (target_of rule.action) path c

  pub leads_on : (o : Option ℕ) (path : Path) (c next k : ℕ) (rule : Rule P) → LeadsTo o path c → rule_at dump c next ≡ Some rule → target_of rule.action ≡ Some k →
      LeadsTo o (path ++ step_of c next ∷ []) k
  leads_on o [] c next k rule l at t = (l, rule, at, t)
  leads_on o (s ∷ path) c next k rule l at t = (l.0, l.1, l.2, leads_on (target_of (l.1).action) path c next k rule l.3 at t)

  pub follows_on : (o : Option ℕ) (path : Path) (c next : ℕ) (rule : Rule P) → LeadsTo o path c → rule_at dump c next ≡ Some rule → Follows dump o (path ++ step_of c next ∷ [])
  follows_on o [] c next rule l at = (l, rule, at, tt)
  follows_on o (s ∷ path) c next rule l at = (l.0, l.1, l.2, follows_on (target_of (l.1).action) path c next rule l.3 at)

  -- the same rule of the same chain
  pub same_rule : (a b : Step) (x y : Rule P) (o : Option ℕ) → o ≡ Some a.chain → o ≡ Some b.chain → (a.rule == b.rule) ≡ true → rule_at dump a.chain a.rule ≡ Some x → rule_at dump b.chain b.rule ≡ Some y →
      (a ≡ b) × (x ≡ y)
  same_rule a b x y o p q e f g =
      let r : a.rule ≡ b.rule = same_number a.rule b.rule e in
      let c : a.chain ≡ b.chain = cc in
      let h : rule_at dump a.chain a.rule ≡ rule_at dump b.chain b.rule = ap₂ (rule_at dump) c r in
      let z : x ≡ y = cc (f, g, h) in
      ((λ i. record { chain = c i; rule = r i }), z)

  -- a rule that ends the visit ends its path
  pub ends_is : (o : Option ℕ) (vs path : Path) (c next : ℕ) → Follows dump o vs → LeadsTo o path c → ends vs path next ≡ true → path ++ step_of c next ∷ [] ≡ vs
  ends_is o [] path c next f l e = absurd (true≢false (sym e))
  ends_is o (v ∷ []) [] c next f l e =
      let r : next ≡ v.rule = same_number next v.rule e in let q : c ≡ v.chain = cc (f.0, l) in
      ap₂ (λ (a b : ℕ). step_of a b ∷ []) q r
  ends_is o (v ∷ w ∷ vs) [] c next f l e = absurd (true≢false (sym e))
  ends_is o (v ∷ vs) (s ∷ path) c next f l e =
      by (s.rule == v.rule) refl (λ there h. ends_is (target_of (f.1).action) vs path c next f.3 there h)
    where
      by : (b : Bool) → (s.rule == v.rule) ≡ b → (LeadsTo (target_of (f.1).action) path c → ends vs path next ≡ true → path ++ step_of c next ∷ [] ≡ vs) →
          (s ∷ path) ++ step_of c next ∷ [] ≡ v ∷ vs
      by true q on =
          let h : ends vs path next ≡ true = rw q at e in
          let same = same_rule s v l.1 f.1 o l.0 f.0 q l.2 f.2 in
          let there : LeadsTo (target_of (f.1).action) path c = subst (λ (r : Rule P). LeadsTo (target_of r.action) path c) same.1 l.3 in
          ap₂ (λ (a : Step) (xs : Path). a ∷ xs) same.0 (on there h)
      by false q on = let h : false ≡ true = rw q at e in absurd (true≢false (sym h))

  pub is_end : (vs path : Path) (c next : ℕ) → path ++ step_of c next ∷ [] ≡ vs → ends vs path next ≡ true
  is_end [] [] c next e = cc
  is_end [] (s ∷ path) c next e = cc
  is_end (v ∷ []) [] c next e = let q : next ≡ v.rule = cc in rw q (same_as_itself v.rule)
  is_end (v ∷ w ∷ vs) [] c next e = cc
  is_end (v ∷ vs) (s ∷ path) c next e =
      let q : s.rule ≡ v.rule = cc in let t : path ++ step_of c next ∷ [] ≡ vs = cc in
      let h : (s.rule == v.rule) ≡ true = rw q (same_as_itself v.rule) in
      rw h (is_end vs path c next t)

  module _ (visit : Path) where
    abbrev probe : Dump P
    probe = probe_of dump visit

    -- the chain of the probe has the chain's rules, with their actions turned
    abbrev pub IsTurned : ℕ → Path → Path → ℕ → Chain P → Type 0
    IsTurned n vs path c here = (there : Chain P) × (slice_get probe.chains (lifted_chain n vs path c) ≡ Some there)
        × ((next : ℕ) → slice_get there.rules next ≡ option_map (with_action (turned_action n vs path next)) (slice_get here.rules next))

    chain_barred : (c : ℕ) (here : Chain P) → slice_get dump.chains c ≡ Some here → (there : Chain P) × (slice_get probe.chains c ≡ Some there)
        × ((next : ℕ) → slice_get there.rules next ≡ option_map (with_action barred) (slice_get here.rules next))
    chain_barred c here at = (
      barred_chain here,
      barred_at dump visit c (slice_get_within dump.chains c here at) ∙ ap (option_map (barred_chain {P = P})) at,
      λ next. slice_get-map (with_action barred) here.rules next,
    )

    pub chain_turned : (n : ℕ) (o : Option ℕ) (vs path : Path) (c : ℕ) (here : Chain P) → Stand dump.chains probe.chains n vs → Follows dump o vs → LeadsTo o path c →
        slice_get dump.chains c ≡ Some here → IsTurned n vs path c here
    chain_turned n o [] path c here s f l at = chain_barred c here at
    chain_turned n o (v ∷ vs) [] c here s f l at =
        let q : v.chain ≡ c = cc (f.0, l) in
        let nothing : Chain P = record { name = []; policy = None; rules = [] } in
        let same : get_or dump.chains v.chain nothing ≡ here = rw q (get_or_from_slice_get dump.chains c here nothing at) in (
          copy_of dump.chains v (next_copy (n + 1) vs),
          s.0,
          λ next. ap (λ (x : Chain P). slice_get (copied_rules v.rule (next_copy (n + 1) vs) 0 x.rules) next) same
              ∙ copied_at v.rule (next_copy (n + 1) vs) 0 here.rules next
              ∙ ap (λ (k : ℕ). option_map (λ (r : Rule P). with_action (if k == v.rule then own_action (next_copy (n + 1) vs) else barred) r) (slice_get here.rules next)) (zero-add next),
        )
    chain_turned n o (v ∷ vs) (t ∷ path) c here s f l at =
        by (t.rule == v.rule) refl (λ there. chain_turned (n + 1) (target_of (f.1).action) vs path c here s.1 f.3 there at)
      where
        by : (b : Bool) → (t.rule == v.rule) ≡ b → (LeadsTo (target_of (f.1).action) path c → IsTurned (n + 1) vs path c here) → IsTurned n (v ∷ vs) (t ∷ path) c here
        by true q on =
            let same = same_rule t v l.1 f.1 o l.0 f.0 q l.2 f.2 in
            let there : LeadsTo (target_of (f.1).action) path c = subst (λ (r : Rule P). LeadsTo (target_of r.action) path c) same.1 l.3 in
            rw q (on there)
        by false q on = rw q (chain_barred c here at)
