-- The least line of unsupported targets.
use Rattle.std.specs.Prelude.{ℕ, ◌+◌, ◌<◌, ◌≤◌, ◌≡◌, ◌⊎◌, List, [], ◌∷◌, ◌++◌, length, take, Option, None, Some, get_or, Contains, refl, IfSome, IfNone}
use Rattle.std.proofs.Common.{arith, subst, sym, ap, ◌∙◌, inl, inr}
use Rattle.std.proofs.lemmas.List.{take_all, take_more}
use Rattle.std.proofs.lemmas.List.Elements.{Contains-push_cases, Contains-push, Contains-append_left}
use Rattle.std.proofs.lemmas.Bool.{cases_lt}
use Rattle.fw_rule.specs.declared.rule.Rule.{Rule}
use Rattle.fw_rule.specs.declared.rule.Chain.{Chain}
use Rattle.fw_rule.specs.declared.rule.Dump.{Dump}
use Rattle.fw_rule.specs.Calls.{RuleOf, Reaches}
use Rattle.chain_graph.specs.declared.targets.Target.{Target}
use Rattle.chain_graph.specs.Faults.{NoneUnsupported, IsLeastUnsupported, NoLoop}
use Rattle.chain_graph.specs.Marks.{AreRulesOf}
use Rattle.chain_graph.specs.Paths.{CallsNameChains}
use Rattle.chain_graph.specs.Refusals.{SettledByPolicy}
use Rattle.chain_graph.specs.inner.Targets.{IsLeastOf, IsLesser, IsTarget, TargetIn, TargetBefore}

module _ (A B K : ℕ → List ℕ → Type 0) (of_a : (l : ℕ) (n : List ℕ) → A l n → K l n) (of_b : (l : ℕ) (n : List ℕ) → B l n → K l n) (cases : (l : ℕ) (n : List ℕ) → K l n → A l n ⊎ B l n) where
  -- the lesser of two kinds
  pub least_of_both : (a b o : Option Target) → IsLeastOf A a → IsLeastOf B b → IsLesser a b o → IsLeastOf K o
  least_of_both None None o x y e = subst (IsLeastOf K) (sym e) (λ l n k. elim (cases l n k) [ inl p ↦ x l n p | inr q ↦ y l n q ])
  least_of_both None (Some t) o x y e = subst (IsLeastOf K) (sym e) (of_b t.line t.name y.0, λ l n k. elim (cases l n k) [ inl p ↦ absurd (x l n p) | inr q ↦ y.1 l n q ])
  least_of_both (Some s) None o x y e = subst (IsLeastOf K) (sym e) (of_a s.line s.name x.0, λ l n k. elim (cases l n k) [ inl p ↦ x.1 l n p | inr q ↦ absurd (y l n q) ])
  least_of_both (Some s) (Some t) o x y (inl c) = subst (IsLeastOf K) (sym c.1)
      (of_a s.line s.name x.0, λ l n k. elim (cases l n k) [ inl p ↦ x.1 l n p | inr q ↦ (let h = y.1 l n q in omega (arith, c.0, h)) ])
  least_of_both (Some s) (Some t) o x y (inr c) = subst (IsLeastOf K) (sym c.1)
      (of_b t.line t.name y.0, λ l n k. elim (cases l n k) [ inl p ↦ (let h = x.1 l n p in omega (arith, c.0, h)) | inr q ↦ y.1 l n q ])

-- the same kind in other words
pub least_as : (A K : ℕ → List ℕ → Type 0) → ((l : ℕ) (n : List ℕ) → A l n → K l n) → ((l : ℕ) (n : List ℕ) → K l n → A l n) → (o : Option Target) → IsLeastOf A o → IsLeastOf K o
least_as A K to from None x = λ l n k. x l n (from l n k)
least_as A K to from (Some t) x = (to t.line t.name x.0, λ l n k. x.1 l n (from l n k))

module _ {P : Type 0} where
  pub no_rules : (rules : List (Rule P)) → IsLeastOf (TargetIn (take 0 rules)) None
  no_rules rules l n q = absurd (omega (arith, (q.1).1))

  -- one rule more
  pub more_rules : (rules : List (Rule P)) (i : ℕ) (rule : Rule P) → i < length rules → rule ≡ get_or rules i rule → (a b o : Option Target) →
      IsLeastOf (TargetIn (take i rules)) a → IsLeastOf (IsTarget rule) b → IsLesser a b o → IsLeastOf (TargetIn (take (i + 1) rules)) o
  more_rules rules i rule h is a b o x y e = least_of_both (TargetIn (take i rules)) (IsTarget rule) (TargetIn (take (i + 1) rules))
      (λ l n q. (q.0, subst (λ (z : List (Rule P)). Contains z q.0) (sym with_rule) (Contains-append_left (take i rules) (rule ∷ []) q.0 q.1), q.2))
      (λ l n q. (rule, subst (λ (z : List (Rule P)). Contains z rule) (sym with_rule) (Contains-push (take i rules) rule), q))
      (λ l n q. elim (Contains-push_cases (take i rules) rule q.0 (subst (λ (z : List (Rule P)). Contains z q.0) with_rule q.1)) [
        | inl p ↦ inl (q.0, p, q.2)
        | inr s ↦ inr (subst (λ (z : Rule P). IsTarget z l n) (sym s) q.2)
      ]) a b o x y e
    where
      with_rule : take (i + 1) rules ≡ take i rules ++ rule ∷ []
      with_rule = take_more rules i rule h ∙ ap (λ (z : Rule P). take i rules ++ z ∷ []) (sym is)

  pub all_rules : (rules : List (Rule P)) (i : ℕ) (o : Option Target) → length rules ≤ i → IsLeastOf (TargetIn (take i rules)) o → IsLeastOf (TargetIn rules) o
  all_rules rules i o h x = subst (λ (z : List (Rule P)). IsLeastOf (TargetIn z) o) (take_all i rules h) x

  module _ (dump : Dump P) (asked : ℕ) where
    pub no_chains : IsLeastOf (TargetBefore dump asked 0) None
    no_chains l n q = absurd (omega (arith, q.1))

    at_or_before : (c next : ℕ) → c < next + 1 → (c < next) ⊎ (c ≡ next)
    at_or_before c next h = elim (cases_lt c next) [ inl less ↦ inl less | inr more ↦ inr (omega (arith, h, more)) ]

    -- a chain that isn't in reach
    pub passed_over : (next : ℕ) (o : Option Target) → (Reaches dump asked next → ⊥) → IsLeastOf (TargetBefore dump asked next) o → IsLeastOf (TargetBefore dump asked (next + 1)) o
    passed_over next o far x = least_as (TargetBefore dump asked next) (TargetBefore dump asked (next + 1))
        (λ l n q. (q.0, omega (arith, q.1), q.2, q.3))
        (λ l n q. elim (at_or_before q.0 next q.1) [ inl less ↦ (q.0, less, q.2, q.3) | inr e ↦ absurd (far (subst (Reaches dump asked) e q.2)) ]) o x

    -- the rules of a chain in reach
    pub more_chains : (next : ℕ) (rules : List (Rule P)) → AreRulesOf dump next rules → Reaches dump asked next → (a b o : Option Target) → IsLeastOf (TargetBefore dump asked next) a →
        IsLeastOf (TargetIn rules) b → IsLesser a b o → IsLeastOf (TargetBefore dump asked (next + 1)) o
    more_chains next rules r near a b o x y e = least_of_both (TargetBefore dump asked next) (TargetIn rules) (TargetBefore dump asked (next + 1))
        (λ l n q. (q.0, omega (arith, q.1), q.2, q.3))
        (λ l n q. (next, omega arith, near, (q.0, (r.0, r.1, subst (λ (z : List (Rule P)). Contains z q.0) r.2 q.1), q.2)))
        (λ l n q. elim (at_or_before q.0 next q.1) [ inl less ↦ inl (q.0, less, q.2, q.3) | inr s ↦ inr (of_next l n (subst (λ (c : ℕ). (rule : Rule P) × RuleOf dump c rule × IsTarget rule l n) s q.3)) ]) a b o x y e
      where
        same_chain : (v w : Chain P) → Some v ≡ Some w → v ≡ w
        same_chain v w q = cc

        of_next : (l : ℕ) (n : List ℕ) → (rule : Rule P) × RuleOf dump next rule × IsTarget rule l n → TargetIn rules l n
        of_next l n q =
            let same : (q.1).0 ≡ r.0 = same_chain (q.1).0 r.0 (sym (q.1).1 ∙ r.1) in
            (q.0, subst (λ (z : List (Rule P)). Contains z q.0) (ap (λ (z : Chain P). z.rules) same ∙ sym r.2) (q.1).2, q.2)

    pub in_reach : (next : ℕ) (t : Target) → ((c : ℕ) → Reaches dump asked c → c < next) → IsLeastOf (TargetBefore dump asked next) (Some t) → IsLeastUnsupported dump asked t.line t.name
    in_reach next t all x =
        let q = x.0 in
        (((q.3).0, (q.0, q.2, (q.3).1, ((q.3).2).0), ((q.3).2).1), λ rule other u. x.1 rule.line other (u.0, all u.0 u.1, u.1, (rule, u.2, (u.3, refl))))

    pub none_in_reach : (next : ℕ) → ((c : ℕ) → Reaches dump asked c → c < next) → IsLeastOf (TargetBefore dump asked next) None → NoneUnsupported dump asked
    none_in_reach next all x rule name u = x rule.line name (u.0, all u.0 u.1, u.1, (rule, u.2, (u.3, refl)))

    pub settled : CallsNameChains dump → NoneUnsupported dump asked → NoLoop dump asked → SettledByPolicy dump asked
    settled named known loops v has = record {
      policy = (v, has);
      named = λ a b r q. named a b q;
      known_targets = λ a rule name r there is. known rule name (a, r, there, is);
      no_loop = λ a b r q back. loops a (r, (b, q, back));
    }

    pub some_answer : (next : ℕ) (o : Option Target) → ((c : ℕ) → Reaches dump asked c → c < next) → IsLeastOf (TargetBefore dump asked next) o →
        IfSome o (λ t. IsLeastUnsupported dump asked t.line t.name)
    some_answer next None all x = tt
    some_answer next (Some t) all x = in_reach next t all x

    pub none_answer : (next : ℕ) (o : Option Target) → ((c : ℕ) → Reaches dump asked c → c < next) → IsLeastOf (TargetBefore dump asked next) o → IfNone o (NoneUnsupported dump asked)
    none_answer next None all x = none_in_reach next all x
    none_answer next (Some t) all x = tt
