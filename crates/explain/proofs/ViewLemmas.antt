-- Views of chains, made from the last rule to the first.
use Rattle.std.specs.Prelude.{ℕ, ◌+◌, ◌<◌, ◌≤◌, ◌≡◌, ◌⊎◌, Bool, List, length, Option, None, Some, slice_get, get_or}
use Rattle.std.proofs.Common.{arith, subst, sym, ap, ◌∙◌, inl, inr}
use Rattle.std.proofs.Math.ListN.{set}
use Rattle.std.proofs.lemmas.List.{length-set}
use Rattle.std.proofs.lemmas.Option.{slice_get-get_or, slice_get_within, slice_get_past}
use Rattle.std.proofs.lemmas.Bool.{cases_eq}
use Rattle.match_expr.specs.Meaning.{eval_of}
use Rattle.fw_rule.specs.declared.rule.Verdict.{Verdict}
use Rattle.fw_rule.specs.declared.rule.Rule.{Rule}
use Rattle.fw_rule.specs.declared.rule.Chain.{Chain}
use Rattle.fw_rule.specs.declared.rule.Dump.{Dump}
use Rattle.fw_rule.specs.Walk.{Calls, target_of, known_of, doubt_in}
use Rattle.chain_graph.specs.Marks.{AreRulesOf}
use Rattle.chain_graph.proofs.RankLemmas.{get_set_same, get_set_other}
use Rattle.explain.specs.declared.reach.Reach.{Reach}
use Rattle.explain.specs.declared.views.Sight.{Sight}
use Rattle.explain.specs.declared.views.View.{View}
use Rattle.explain.specs.inner.Reaching.{match_of, by_action, by_match, ReachIs}
use Rattle.explain.specs.inner.Views.{Has, IsSight, IsView, AreRight, Covers, Keeps}
use Rattle.explain.proofs.ReachLemmas.{reach_past, reach_more}

module _ {P Packet : Type 0} (holds : P → Packet → Bool) (dump : Dump P) (p : Packet) (v : Verdict) (c : ℕ) where
  -- a view of the chain that a rule calls or goes to, and what is reached there
  abbrev pub CalleeIs : List (Option View) → Reach → Rule P → Type 0
  CalleeIs views callee rule = (k : ℕ) → target_of rule.action ≡ Some k → ((view : View) × Has views k view) × ReachIs holds dump p v k 0 callee

  -- what is known when the rules from `left` on are seen
  pub record Seen (rules : List (Rule P)) (left : ℕ) (start views : List (Option View)) (sights : List Sight) (behind : Reach) : Type 0 where
    pub covers : Covers dump views
    pub right : AreRight holds dump p v views
    pub keeps : Keeps start views
    pub inside : left ≤ length rules
    pub long : length sights ≡ length rules
    pub seen : (n : ℕ) (sight : Sight) → left ≤ n → slice_get sights n ≡ Some sight → IsSight holds dump p v c n sight
    pub called : (n k : ℕ) (rule : Rule P) → left ≤ n → slice_get rules n ≡ Some rule → target_of rule.action ≡ Some k → (view : View) × Has views k view
    pub reach : ReachIs holds dump p v c left behind

  module _ (rules : List (Rule P)) (at : AreRulesOf dump c rules) where
    past : (n : ℕ) → length rules ≤ n → slice_get (at.0).rules n ≡ None
    past n h = ap (λ (z : List (Rule P)). slice_get z n) (sym at.2) ∙ slice_get_past rules n h

    nothing_there : {X : Type 0} (xs : List X) (n : ℕ) (x : X) → length xs ≤ n → slice_get xs n ≡ Some x → ⊥
    nothing_there xs n x h e = let l : n < length xs = slice_get_within xs n x e in omega (arith, h, l)

    -- before any rule is seen
    pub none_seen : (start : List (Option View)) (sights : List Sight) (left : ℕ) → left ≡ length rules → length sights ≡ length rules → Covers dump start → AreRight holds dump p v start →
        Seen rules left start start sights Reach.PastEnd
    none_seen start sights left e long covers right = record {
      covers = covers;
      right = right;
      keeps = λ k view h. (view, h);
      inside = omega (arith, e);
      long = long;
      seen = λ n sight h q. absurd (nothing_there sights n sight (omega (arith, h, e, long)) q);
      called = λ n k rule h q a. absurd (nothing_there rules n rule (omega (arith, h, e)) q);
      reach = reach_past holds dump p v c left at.0 at.1 (past left (omega (arith, e)));
    }

    module _ (left next : ℕ) (start views views' : List (Option View)) (sights : List Sight) (behind callee : Reach) (rule : Rule P) (s : Seen rules left start views sights behind)
        (next_is : next + 1 ≡ left) (rule_is : slice_get rules next ≡ Some rule) (covers : Covers dump views') (right : AreRight holds dump p v views') (keeps : Keeps views views')
        (callee_is : CalleeIs views' callee rule) (sight : Sight) (matching_is : sight.matching ≡ match_of (eval_of (λ x. holds x p) (known_of rule)) (doubt_in rule.lits)) (behind_is : sight.behind ≡ behind) where
      reach_behind : ReachIs holds dump p v c (next + 1) behind
      reach_behind = subst (λ (n : ℕ). ReachIs holds dump p v c n behind) (sym next_is) s.reach

      at_rule : slice_get (at.0).rules next ≡ Some rule
      at_rule = ap (λ (z : List (Rule P)). slice_get z next) (sym at.2) ∙ rule_is

      there : (k : ℕ) → target_of rule.action ≡ Some k → ReachIs holds dump p v k 0 callee
      there k a = (callee_is k a).1

      sight_here : IsSight holds dump p v c next sight
      sight_here here r e q =
          let same : at.0 ≡ here = cc (at.1, e) in
          let there : slice_get (at.0).rules next ≡ Some r = subst (λ (z : Chain P). slice_get z.rules next ≡ Some r) (sym same) q in
          let rules_same : rule ≡ r = cc (there, at_rule) in (
            subst (λ (z : Rule P). sight.matching ≡ match_of (eval_of (λ x. holds x p) (known_of z)) (doubt_in z.lits)) rules_same matching_is,
            subst (λ (z : Reach). ReachIs holds dump p v c (next + 1) z) (sym behind_is) reach_behind,
          )

      -- one rule more is seen
      pub one_seen : (new : Reach) → new ≡ by_match sight.matching (by_action v callee behind rule.action) behind → Seen rules next start views' (set sights next sight) new
      one_seen new new_is = record {
        covers = covers;
        right = right;
        keeps = λ k view h. (let o = s.keeps k view h in keeps k o.0 o.1);
        inside = omega (arith, s.inside, next_is);
        long = length-set sights next sight ∙ s.long;
        seen = λ n other h q. elim (cases_eq n next) [
          | inl e ↦ (let same : sight ≡ other = same_sight other (sym (get_set_same sights next sight (omega (arith, s.long, s.inside, next_is))) ∙ subst (λ (i : ℕ). slice_get (set sights next sight) i ≡ Some other) e q) in
              subst (λ (i : ℕ). IsSight holds dump p v c i other) (sym e) (subst (IsSight holds dump p v c next) same sight_here))
          | inr ne ↦ s.seen n other (omega (arith, h, ne, next_is)) (sym (get_set_other sights next n sight ne) ∙ q)
        ];
        called = λ n k r h q a. elim (cases_eq n next) [
          | inl e ↦ (let same : rule ≡ r = same_rule r (sym rule_is ∙ subst (λ (i : ℕ). slice_get rules i ≡ Some r) e q) in (callee_is k (ap (λ (z : Rule P). target_of z.action) same ∙ a)).0)
          | inr ne ↦ (let o = s.called n k r (omega (arith, h, ne, next_is)) q a in keeps k o.0 o.1)
        ];
        reach = subst (ReachIs holds dump p v c next)
            (ap (λ (z : _). by_match z (by_action v callee behind rule.action) behind) (sym matching_is) ∙ sym new_is)
            (reach_more holds dump p v c next at.0 at.1 rule at_rule callee behind there reach_behind);
      }
        where
          same_sight : (other : Sight) → Some sight ≡ Some other → sight ≡ other
          same_sight other e = cc

          same_rule : (r : Rule P) → Some rule ≡ Some r → rule ≡ r
          same_rule r e = cc

    module _ (start views : List (Option View)) (view : View) (s : Seen rules 0 start views view.sights view.start) (inside : c < length views) where
      still : (k : ℕ) (other : View) → Has views k other → (o : View) × Has (set views c (Some view)) k o
      still k other h = elim (cases_eq k c) [
        | inl e ↦ (view, subst (λ (z : ℕ). Has (set views c (Some view)) z view) (sym e) (get_set_same views c (Some view) inside))
        | inr ne ↦ (other, get_set_other views c k (Some view) ne ∙ h)
      ]

      has_cases : (k : ℕ) (other : View) → Has (set views c (Some view)) k other → ((c ≡ k) × (view ≡ other)) ⊎ Has views k other
      has_cases k other h = elim (cases_eq k c) [
        | inl e ↦ inl (sym e, same_view other (sym (get_set_same views c (Some view) inside) ∙ subst (λ (z : ℕ). Has (set views c (Some view)) z other) e h))
        | inr ne ↦ inr (sym (get_set_other views c k (Some view) ne) ∙ h)
      ]
        where
          same_view : (o : View) → ◌≡◌ {A = Option (Option View)} (Some (Some view)) (Some (Some o)) → view ≡ o
          same_view o e = cc

      is_view : IsView holds dump p v c view
      is_view = record { sights = λ n sight q. s.seen n sight (omega arith) q; start = s.reach }

      calls_seen : (k : ℕ) → Calls dump c k → (other : View) × Has views k other
      calls_seen k q =
          let same : at.0 ≡ (q.1).0 = cc (at.1, (q.1).1) in
          let i : ℕ = ((q.1).2).0 in
          let read : slice_get ((q.1).0).rules i ≡ Some q.0 = slice_get-get_or ((q.1).0).rules i q.0 ((q.1).2).1 ∙ ap (λ (z : Rule P). Some z) ((q.1).2).2 in
          s.called i k q.0 (omega arith) (subst (λ (z : List (Rule P)). slice_get z i ≡ Some q.0) (sym at.2) (subst (λ (z : Chain P). slice_get z.rules i ≡ Some q.0) (sym same) read)) q.2

      -- the chain's view is put into the table
      pub put_covers : Covers dump (set views c (Some view))
      put_covers = record {
        long = length-set views c (Some view) ∙ (s.covers).long;
        sights = λ k other here h e. elim (has_cases k other h) [
          | inl x ↦ (let same : at.0 ≡ here = cc (at.1, subst (λ (z : ℕ). slice_get dump.chains z ≡ Some here) (sym x.0) e) in
              ap (λ (z : View). length z.sights) (sym x.1) ∙ s.long ∙ ap length at.2 ∙ ap (λ (z : Chain P). length z.rules) same)
          | inr old ↦ (s.covers).sights k other here old e
        ];
        below = λ k other h j q. elim (has_cases k other h) [
          | inl x ↦ (let o = calls_seen j (subst (λ (z : ℕ). Calls dump z j) (sym x.0) q) in still j o.0 o.1)
          | inr old ↦ (let o = (s.covers).below k other old j q in still j o.0 o.1)
        ];
      }

      pub put_right : AreRight holds dump p v (set views c (Some view))
      put_right k other h = elim (has_cases k other h) [
        | inl x ↦ subst (λ (z : ℕ). IsView holds dump p v z other) x.0 (subst (IsView holds dump p v c) x.1 is_view)
        | inr old ↦ s.right k other old
      ]

      pub put_keeps : Keeps start (set views c (Some view))
      put_keeps k other h = let o = s.keeps k other h in still k o.0 o.1

      pub put_has : (other : View) × Has (set views c (Some view)) c other
      put_has = (view, get_set_same views c (Some view) inside)

-- a view that is read
pub has_read : (views : List (Option View)) (c : ℕ) (o : Option View) (view : View) → c < length views → o ≡ get_or views c o → o ≡ Some view → Has views c view
has_read views c o view h is e = slice_get-get_or views c o h ∙ ap (λ (z : Option View). Some z) (sym is ∙ e)

-- all rules are seen
pub all_seen : {P Packet : Type 0} (holds : P → Packet → Bool) (dump : Dump P) (p : Packet) (v : Verdict) (c : ℕ) (rules : List (Rule P)) (left : ℕ) (start views : List (Option View)) (sights all : List Sight)
    (behind : Reach) → left ≤ 0 → all ≡ sights → Seen holds dump p v c rules left start views sights behind → Seen holds dump p v c rules 0 start views all behind
all_seen holds dump p v c rules left start views sights all behind h e s =
    let zero_left : left ≡ 0 = omega (arith, h) in
    subst (λ (z : List Sight). Seen holds dump p v c rules 0 start views z behind) (sym e) (subst (λ (n : ℕ). Seen holds dump p v c rules n start views sights behind) zero_left s)

module _ {P Packet : Type 0} (holds : P → Packet → Bool) (dump : Dump P) (p : Packet) (v : Verdict) (c : ℕ) (rule : Rule P) where
  -- the rule calls or goes to a chain whose view is there, or does neither
  pub called_one : (views : List (Option View)) (callee : Reach) (k : ℕ) → target_of rule.action ≡ Some k → ((view : View) × Has views k view) → ReachIs holds dump p v k 0 callee → CalleeIs holds dump p v c views callee rule
  called_one views callee k a has is j b =
      let same : k ≡ j = same_callee (sym a ∙ b) in subst (λ (z : ℕ). ((view : View) × Has views z view) × ReachIs holds dump p v z 0 callee) same (has, is)
    where
      same_callee : Some k ≡ Some j → k ≡ j
      same_callee e = cc

  pub called_none : (views : List (Option View)) (callee : Reach) → target_of rule.action ≡ None → CalleeIs holds dump p v c views callee rule
  called_none views callee none k a = let e : None ≡ Some k = sym none ∙ a in cc

  pub callee_same : (views views' : List (Option View)) (callee callee' : Reach) → views' ≡ views → callee' ≡ callee → CalleeIs holds dump p v c views callee rule → CalleeIs holds dump p v c views' callee' rule
  callee_same views views' callee callee' e f h =
      subst (λ (z : Reach). CalleeIs holds dump p v c views' z rule) (sym f) (subst (λ (z : List (Option View)). CalleeIs holds dump p v c z callee rule) (sym e) h)

-- a table keeps what it has
pub keeps_itself : (views : List (Option View)) → Keeps views views
keeps_itself views k view h = (view, h)
