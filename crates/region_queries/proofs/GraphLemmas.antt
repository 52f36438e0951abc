-- The calls of a probe.
use Rattle.std.specs.Prelude.{ℕ, zero, suc, ◌+◌, ◌-◌, ◌<◌, ◌≤◌, ◌^◌, ◌≡◌, ◌⊎◌, ◌==◌, Bool, true, false, List, [], ◌∷◌, ◌++◌, Option, None, Some, All, Contains, length, map, nat_lt, slice_get, get_or, if◌then◌else◌, refl}
use Rattle.std.proofs.Common.{subst, sym, ap, ap₂, ◌∙◌, arith, inl, inr, true≢false, append_assoc, length-append, zero-add}
use Rattle.std.specs.Option.{option_map, option_and_then}
use Rattle.std.proofs.lemmas.Bool.Decides.{nat_tests}
use Rattle.std.proofs.lemmas.List.{length-map}
use Rattle.std.proofs.lemmas.Option.{get_or_from_slice_get, option_and_then_some, slice_get-get_or, slice_get_within}
use Rattle.fw_rule.specs.declared.rule.Verdict.TheVariants.{Drop}
use Rattle.fw_rule.specs.declared.rule.Action.{Action}
use Rattle.fw_rule.specs.declared.rule.Rule.{Rule}
use Rattle.fw_rule.specs.declared.rule.Chain.{Chain}
use Rattle.fw_rule.specs.declared.rule.Dump.{Dump}
use Rattle.fw_rule.specs.declared.rule.Step.{Step}
use Rattle.fw_rule.specs.Walk.{Calls, ChainHasRoom, HasRoom, Here, Over, Path, Reaches, RuleHasRoom, RuleOf, Settled, Within, policy_of, target_of}
use Rattle.fw_rule.proofs.Ends.{contains_at, found_at, policy_is}
use Rattle.fw_rule.proofs.Turns.{chain_room, rule_room}
use Rattle.fw_laws.specs.Shape.{rule_at}
use Rattle.fw_laws.proofs.Asked.{rule_of_at}
use Rattle.chain_graph.specs.Paths.{CallsNameChains, Follow, HasPath}
use Rattle.chain_graph.specs.Refusals.{IsChecked}
use Rattle.chain_graph.specs.Visits.{Called, HasVisits, None_left, Plain, VisitsOf}
use Rattle.chain_graph.proofs.Paths.{path_bound}
use Rattle.limits.specs.declared.TheConstants.{MOST_CHAINS}
use Rattle.region_queries.specs.Probe.{barred, barred_chain, copied_rules, copies_of, copy_of, entry_of, next_copy, own_action, own_chain, probe_of, with_action}
use Rattle.region_queries.specs.inner.Living.{Follows, IsVisit}
use Rattle.region_queries.proofs.ProbeLemmas.{copies_stand, length_snoc, slice_left, slice_right, barred_at}
use Rattle.region_queries.proofs.LiftLemmas.{barred_is, moved, own_is, same_number}
use Rattle.region_queries.proofs.PlaceLemmas.{own_copy, own_low, rule_there}

all_slices : {X : Type 0} (Q : X → Type 0) (xs : List X) → ((k : ℕ) (x : X) → slice_get xs k ≡ Some x → Q x) → All Q xs
all_slices Q xs h k d inside = h k (get_or xs k d) (slice_get-get_or xs k d inside)

none_of_list : {X : Type 0} (xs : List X) (k : ℕ) (x : X) → Contains xs x → (j : ℕ) × (slice_get xs j ≡ Some x)
none_of_list xs k x h = (h.0, slice_get-get_or xs h.0 x h.1 ∙ ap (λ z. Some z) h.2)

-- the chain that an action of the probe leads to, by that of the dump's action
moved_target : (f : ℕ → ℕ) (action : Action) (b : ℕ) → target_of (moved f action) ≡ Some b → (t : ℕ) × (target_of action ≡ Some t) × (b ≡ f t)
moved_target f Action.Accept b e = cc
moved_target f Action.Drop b e = cc
moved_target f Action.Pass b e = cc
moved_target f Action.Back b e = cc
moved_target f (Action.Call k) b e = (k, refl, (let q : b ≡ f k = cc in q))
moved_target f (Action.Goto k) b e = (k, refl, (let q : b ≡ f k = cc in q))
moved_target f (Action.Other name) b e = cc

pub moved_other : (f : ℕ → ℕ) (action : Action) (name : List ℕ) → moved f action ≡ Action.Other name → action ≡ Action.Other name
moved_other f Action.Accept name e = cc
moved_other f Action.Drop name e = cc
moved_other f Action.Pass name e = cc
moved_other f Action.Back name e = cc
moved_other f (Action.Call k) name e = cc
moved_other f (Action.Goto k) name e = cc
moved_other f (Action.Other other) name e = e

module _ {P : Type 0} (dump : Dump P) (visit : Path) where
  abbrev probe : Dump P
  probe = probe_of dump visit

  abbrev own : ℕ → ℕ
  own = own_chain dump visit

  abbrev long : ℕ
  long = length dump.chains + length visit

  copies_long : (n : ℕ) (steps : Path) → length (copies_of dump.chains n steps) ≡ length steps
  copies_long n [] = refl
  copies_long n (s ∷ steps) = let h = copies_long (n + 1) steps in omega (arith, h)

  pub probe_long : length probe.chains ≡ long
  probe_long = length-append (map barred_chain dump.chains) (copies_of dump.chains (entry_of dump) visit)
      ∙ ap₂ (λ (a b : ℕ). a + b) (length-map dump.chains (barred_chain {P = P})) (copies_long (entry_of dump) visit)

  -- the call or goto leads to a chain of the probe that is, or copies, the one that the dump's leads to
  abbrev pub LeadsAlike : (ℕ → ℕ) → Action → Type 0
  LeadsAlike f action = (t : ℕ) → target_of action ≡ Some t → (own (f t) ≡ t) × (f t < long)

  -- the rule of the probe accepts, or does what the dump's does, with calls and gotos that lead alike, but for Accept
  abbrev pub IsFrom : Rule P → Rule P → Type 0
  IsFrom rule before = (rule.lits ≡ before.lits) × ((rule.action ≡ Action.Accept) ⊎ ((f : ℕ → ℕ) × (rule.action ≡ moved f before.action) × LeadsAlike f before.action))

  abbrev pub Under : List (Rule P) → List (Rule P) → Type 0
  Under [] [] = Unit {0}
  Under [] (b ∷ bs) = ⊥
  Under (a ∷ xs') [] = ⊥
  Under (a ∷ xs') (b ∷ bs) = IsFrom a b × Under xs' bs

  under_at : (xs' bs : List (Rule P)) → Under xs' bs → (k : ℕ) (a : Rule P) → slice_get xs' k ≡ Some a → (b : Rule P) × (slice_get bs k ≡ Some b) × IsFrom a b
  under_at [] [] u k a e = cc
  under_at [] (b ∷ bs) u k a e = absurd u
  under_at (x ∷ xs') [] u k a e = absurd u
  under_at (x ∷ xs') (b ∷ bs) u zero a e = let q : x ≡ a = cc in (b, refl, subst (λ (z : Rule P). IsFrom z b) q u.0)
  under_at (x ∷ xs') (b ∷ bs) u (suc k) a e = under_at xs' bs u.1 k a e

  under_long : (xs' bs : List (Rule P)) → Under xs' bs → length xs' ≡ length bs
  under_long [] [] u = refl
  under_long [] (b ∷ bs) u = absurd u
  under_long (x ∷ xs') [] u = absurd u
  under_long (x ∷ xs') (b ∷ bs) u = let h = under_long xs' bs u.1 in omega (arith, h)

  module _ (named : CallsNameChains dump) where
    low_alike : (c : ℕ) (rule : Rule P) → RuleOf dump c rule → LeadsAlike (λ k. k) rule.action
    low_alike c rule of t e = let h = named c t (rule, of, e) in (own_low dump visit t h, omega (arith, h))

    barred_from : (c : ℕ) (rule : Rule P) → RuleOf dump c rule → IsFrom (with_action barred rule) rule
    barred_from c rule of = (refl, inr ((λ k. k), barred_is rule.action, low_alike c rule of))

    -- the rules of a chain that is barred
    under_barred : (c : ℕ) (rules : List (Rule P)) → ((k : ℕ) (rule : Rule P) → slice_get rules k ≡ Some rule → RuleOf dump c rule) → Under (map (with_action barred) rules) rules
    under_barred c [] of = tt
    under_barred c (rule ∷ rules) of = (barred_from c rule (of 0 rule refl), under_barred c rules (λ k r e. of (suc k) r e))

    -- those of a copy
    under_copied : (c v : ℕ) (next : Option ℕ) (n : ℕ) (rules : List (Rule P)) → ((k : ℕ) (rule : Rule P) → slice_get rules k ≡ Some rule → RuleOf dump c rule) →
        ((k : ℕ) (rule : Rule P) → slice_get rules k ≡ Some rule → n + k ≡ v → IsFrom (with_action (own_action next) rule) rule) → Under (copied_rules v next n rules) rules
    under_copied c v next n [] of alike = tt
    under_copied c v next n (rule ∷ rules) of alike =
        (by (n == v) refl, under_copied c v next (n + 1) rules (λ k r e. of (suc k) r e) (λ k r e q. alike (suc k) r e (omega (arith, q))))
      where
        by : (b : Bool) → (n == v) ≡ b → IsFrom (with_action (if n == v then own_action next else barred) rule) rule
        by true e = rw e (alike 0 rule refl (let q = same_number n v e in omega (arith, q)))
        by false e = rw e (barred_from c rule (of 0 rule refl))

    own_from : (before : Path) (v : Step) (rest : Path) (c : ℕ) (o : Option ℕ) → visit ≡ before ++ v ∷ rest → c ≡ length dump.chains + length before → Follows dump o (v ∷ rest) →
        (rule : Rule P) → rule_at dump v.chain v.rule ≡ Some rule → IsFrom (with_action (own_action (next_copy (c + 1) rest)) rule) rule
    own_from before v [] c o is e f rule at = (refl, inl refl)
    own_from before v (w ∷ ws) c o is e f rule at =
        let same : f.1 ≡ rule = cc (f.2, at) in
        let leads : target_of rule.action ≡ Some w.chain = subst (λ (r : Rule P). target_of r.action ≡ Some w.chain) same (f.3).0 in
        let l = length_snoc before v in
        let all : length visit ≡ length before + length (v ∷ w ∷ ws) = ap length is ∙ length-append before (v ∷ w ∷ ws) in (
          refl,
          inr (
            (λ k. c + 1),
            own_is (c + 1) rule.action,
            λ t q. (
              (own_copy dump visit (before ++ v ∷ []) w ws (c + 1) (is ∙ sym (append_assoc before (v ∷ []) (w ∷ ws))) (omega (arith, e, l))) ∙ (let z : w.chain ≡ t = cc in z),
              omega (arith, e, all),
            ),
          ),
        )

    -- the chain of the probe, by the dump's own
    abbrev pub FromChain : ℕ → Chain P → Type 0
    FromChain c there = (here : Chain P) × (slice_get dump.chains (own c) ≡ Some here) × Under there.rules here.rules

    low_chain : (c : ℕ) (there : Chain P) → c < length dump.chains → slice_get probe.chains c ≡ Some there → FromChain c there
    low_chain c there h e =
        let at = found_at dump.chains c h in
        let is : there ≡ barred_chain at.0 = (let q = barred_at dump visit c h ∙ ap (option_map (barred_chain {P = P})) at.1 in cc (q, e)) in (
          at.0,
          (let o = own_low dump visit c h in rw o at.1),
          subst (λ (x : Chain P). Under x.rules (at.0).rules) (sym is) (under_barred c (at.0).rules (λ k r q. (at.0, at.1, contains_at (at.0).rules k r q))),
        )

    high_chain : (before steps : Path) (c i : ℕ) (o : Option ℕ) (there : Chain P) → visit ≡ before ++ steps → c ≡ length dump.chains + length before + i → Follows dump o steps →
        slice_get (copies_of dump.chains (length dump.chains + length before) steps) i ≡ Some there → FromChain c there
    high_chain before [] c i o there is e f at = cc
    high_chain before (v ∷ rest) c zero o there is e f at =
        let nothing : Chain P = record { name = []; policy = None; rules = [] } in
        let here = found_at dump.chains v.chain (rule_there dump visit v f.1 f.2) in
        let n : length dump.chains + length before ≡ c = omega arith in
        let copy : copy_of dump.chains v (next_copy (length dump.chains + length before + 1) rest) ≡ there = cc in
        let read = get_or_from_slice_get dump.chains v.chain here.0 nothing here.1 in
        let rules_are : there.rules ≡ copied_rules v.rule (next_copy (c + 1) rest) 0 (here.0).rules =
        ap (λ (x : Chain P). x.rules) (sym copy) ∙ ap₂ (λ (k : ℕ) (x : Chain P). copied_rules v.rule (next_copy (k + 1) rest) 0 x.rules) n read in
        let own_is' : own c ≡ v.chain = own_copy dump visit before v rest c is (sym n) in (
          here.0,
          rw own_is' here.1,
          subst (λ (x : List (Rule P)). Under x (here.0).rules) (sym rules_are)
              (under_copied v.chain v.rule (next_copy (c + 1) rest) 0 (here.0).rules (λ k r q. (here.0, here.1, contains_at (here.0).rules k r q))
              (λ k r q j. own_from before v rest c o is (sym n) f r
              (ap (option_and_then (λ (x : Chain P). slice_get x.rules v.rule)) here.1 ∙ subst (λ (z : ℕ). slice_get (here.0).rules z ≡ Some r) (sym (zero-add k) ∙ j) q))),
        )
    high_chain before (v ∷ rest) c (suc i) o there is e f at =
        let l = length_snoc before v in
        let n : length dump.chains + length before + 1 ≡ length dump.chains + length (before ++ v ∷ []) = omega (arith, l) in
        high_chain (before ++ v ∷ []) rest c i (target_of (f.1).action) there (is ∙ sym (append_assoc before (v ∷ []) rest)) (omega (arith, e, l)) f.3
        (subst (λ (k : ℕ). slice_get (copies_of dump.chains k rest) i ≡ Some there) n at)

    module _ (o : Option ℕ) (follows : Follows dump o visit) where
      pub from_chain : (c : ℕ) (there : Chain P) → slice_get probe.chains c ≡ Some there → FromChain c there
      from_chain c there e = by (nat_lt c (length dump.chains)) refl
        where
          by : (b : Bool) → nat_lt c (length dump.chains) ≡ b → FromChain c there
          by true q = low_chain c there (grind (arith, nat_tests)) e
          by false q =
              let h : length dump.chains ≤ c = grind (arith, nat_tests) in
              let l = length-map dump.chains (barred_chain {P = P}) in
              let i : ℕ = c - length dump.chains in
              let s = slice_right (map barred_chain dump.chains) (copies_of dump.chains (entry_of dump) visit) i c (omega (arith, l, h)) in
              let z : length dump.chains ≡ length dump.chains + 0 = omega arith in
              high_chain [] visit c i o there refl (omega (arith, h)) follows
              (subst (λ (k : ℕ). slice_get (copies_of dump.chains k visit) i ≡ Some there) z (sym s ∙ e))

      pub from_rule : (c : ℕ) (rule : Rule P) → RuleOf probe c rule → (before : Rule P) × RuleOf dump (own c) before × IsFrom rule before
      from_rule c rule of =
          let chain = from_chain c of.0 of.1 in
          let at = none_of_list (of.0).rules 0 rule of.2 in
          let r = under_at (of.0).rules (chain.0).rules chain.2 at.0 rule at.1 in
          (r.0, (chain.0, chain.1, contains_at (chain.0).rules at.0 r.0 r.1), r.2)

      pub from_call : (a b : ℕ) → Calls probe a b → Calls dump (own a) (own b) × (b < length probe.chains)
      from_call a b call =
          let r = from_rule a call.0 call.1 in
          elim (r.2).1 [
            | inl accepts ↦ (let e = ap target_of accepts in cc (e, call.2))
            | inr goes ↦
                let t = moved_target goes.0 (r.0).action b (ap target_of (sym goes.1) ∙ call.2) in
                let alike = goes.2 t.0 t.1 in
                let same : own b ≡ t.0 = ap own t.2 ∙ alike.0 in
                (subst (λ (k : ℕ). Calls dump (own a) k) (sym same) (r.0, r.1, t.1), (let l = probe_long in let h = alike.1 in let e = t.2 in omega (arith, l, h, e)))
          ]

      pub probe_named : CallsNameChains probe
      probe_named a b call = (from_call a b call).1

      pub from_reach : (a b : ℕ) → Reaches probe a b → Reaches dump (own a) (own b)
      from_reach a b Here = Here
      from_reach a b (Over {b = k} call rest) = Over (from_call a k call).0 (from_reach k b rest)

      from_follow : (c : ℕ) (later : List ℕ) → Follow probe c later → Follow dump (own c) (map own later)
      from_follow c [] f = tt
      from_follow c (k ∷ ks) f = ((from_call c k f.0).0, from_follow k ks f.1)

      pub from_path : (c n : ℕ) → HasPath probe c n → HasPath dump (own c) n
      from_path c n p = (map own p.0, from_follow c p.0 p.1, (let l = length-map p.0 own in let h = p.2 in omega (arith, l, h)))

      -- no chain of the probe has more visits than the dump's own
      pub fewer : (rules : List (Rule P)) (x : ℕ) → VisitsOf probe rules x → (before : List (Rule P)) → Under rules before → (y : ℕ) → VisitsOf dump before y → x ≤ y
      fewer rules x None_left before under y v = omega arith
      fewer rules x (Plain {rule = a} {rules = xs'} {n = n} none rest) [] under y v = absurd under
      fewer rules x (Plain {rule = a} {rules = xs'} {n = n} none rest) (b ∷ bs) under y (Plain {n = k} none' rest') =
          let h = fewer xs' n rest bs under.1 k rest' in omega (arith, h)
      fewer rules x (Plain {rule = a} {rules = xs'} {n = n} none rest) (b ∷ bs) under y (Called {m = m} {n = k} there' e' at' inside' rest') =
          let h = fewer xs' n rest bs under.1 k rest' in omega (arith, h)
      fewer rules x (Called {rule = a} {rules = xs'} there e at inside rest) [] under y v = absurd under
      fewer rules x (Called {rule = a} {rules = xs'} {k = k} there e at inside rest) (b ∷ bs) under y (Plain {n = j} none' rest') =
          elim (under.0).1 [
            | inl accepts ↦ (let q = ap target_of accepts in cc (e, q))
            | inr goes ↦ (let t = moved_target goes.0 b.action k (ap target_of (sym goes.1) ∙ e) in cc (t.1, none'))
          ]
      fewer rules x (Called {rule = a} {rules = xs'} {k = k} {m = m} {n = n} there e at inside rest) (b ∷ bs) under y (Called {k = k'} {m = m'} {n = n'} there' e' at' inside' rest') =
          elim (under.0).1 [
            | inl accepts ↦ (let q = ap target_of accepts in cc (e, q))
            | inr goes ↦
                let t = moved_target goes.0 b.action k (ap target_of (sym goes.1) ∙ e) in
                let same : own k ≡ k' = ap own t.2 ∙ (goes.2 t.0 t.1).0 ∙ (let z : t.0 ≡ k' = cc (t.1, e') in z) in
                let chain = from_chain k there at in
                let here : chain.0 ≡ there' = (let z = ap (slice_get dump.chains) same in cc (z, chain.1, at')) in
                let one = fewer there.rules m inside there'.rules (subst (λ (z : Chain P). Under there.rules z.rules) here chain.2) m' inside' in
                let two = fewer xs' n rest bs under.1 n' rest' in
                omega (arith, one, two)
          ]

      -- the numbers of the probe fit
      rules_fit : (there here : Chain P) → Under there.rules here.rules → ChainHasRoom here → ChainHasRoom there
      rules_fit there here under room =
          let l = under_long there.rules here.rules under in (
            omega (arith, l, room.0),
            all_slices RuleHasRoom there.rules (λ k r e. (let b = under_at there.rules here.rules under k r e in
                let h = rule_room here k b.0 room b.1 in
                subst (λ (lits : List _). length lits < 2 ^ 32) (sym (b.2).0) h)),
          )

      pub probe_room : HasRoom dump → long < 2 ^ 32 → HasRoom probe
      probe_room room fits = (
        (let l = probe_long in omega (arith, l, fits)),
        all_slices ChainHasRoom probe.chains (λ k c e. (let f = from_chain k c e in rules_fit c f.0 f.2 (chain_room dump (own k) f.0 f.1 room))),
      )
