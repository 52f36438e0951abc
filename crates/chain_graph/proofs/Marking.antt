-- How marks spread over calls.
use Rattle.std.specs.Prelude.{ℕ, zero, suc, ◌+◌, ◌-◌, ◌<◌, ◌≤◌, ◌≡◌, ◌⊎◌, Bool, true, false, not, cond, List, [], ◌∷◌, ◌++◌, length, take, None, Some, get_or, Contains, refl}
use Rattle.std.specs.List.{count_by}
use Rattle.std.proofs.Common.{arith, subst, sym, ap, ◌∙◌, inl, inr}
use Rattle.std.proofs.Math.ListN.{set, replicate}
use Rattle.std.proofs.lemmas.List.{take_all, take-append-le, take_more, get_or-set_same, get_or-set_other, length-append, length-set, length-replicate}
use Rattle.std.proofs.lemmas.List.Sums.{sum_by-set}
use Rattle.std.proofs.lemmas.Bool.{cases_eq}
use Rattle.std.proofs.lemmas.List.Elements.{Contains-push_cases, Contains-push, Contains-append_left}
use Rattle.fw_rule.specs.declared.rule.Rule.{Rule}
use Rattle.fw_rule.specs.declared.rule.Chain.{Chain}
use Rattle.fw_rule.specs.declared.rule.Dump.{Dump}
use Rattle.fw_rule.specs.Calls.{target_of, Calls, Reaches, Here, Over}
use Rattle.fw_rule.proofs.Ends.{append}
use Rattle.chain_graph.specs.Paths.{CallsNameChains}
use Rattle.chain_graph.specs.Faults.{ReachesByCall}
use Rattle.chain_graph.specs.Marks.{IsMarked, MarksAre, AreRulesOf}
use Rattle.chain_graph.specs.inner.Spreading.{Spread, IsCalled}

-- nothing of an empty kind is marked
pub nothing : (Kind : ℕ → Type 0) (m : List Bool) (t : List ℕ) → ((c : ℕ) → Kind c → ⊥) → Spread Kind m t m t
nothing Kind m t none = record {
  long = refl;
  kept = λ c h. h;
  stays = λ c h. h;
  new = λ c h. inl h;
  put = λ c h. inl h;
  all = λ c h. absurd (none c h);
  fewer = omega arith;
}

-- one kind after another
pub both : (A B Kind : ℕ → Type 0) (m0 : List Bool) (t0 : List ℕ) (m1 : List Bool) (t1 : List ℕ) (m2 : List Bool) (t2 : List ℕ) →
    ((c : ℕ) → A c → Kind c) → ((c : ℕ) → B c → Kind c) → ((c : ℕ) → Kind c → A c ⊎ B c) → Spread A m0 t0 m1 t1 → Spread B m1 t1 m2 t2 → Spread Kind m0 t0 m2 t2
both A B Kind m0 t0 m1 t1 m2 t2 of_a of_b cases a b = record {
  long = b.long ∙ a.long;
  kept = λ c h. b.kept c (a.kept c h);
  stays = λ c h. b.stays c (a.stays c h);
  new = λ c h. elim (b.new c h) [ inl old ↦ elim (a.new c old) [ inl first ↦ inl first | inr x ↦ inr (of_a c x.0, b.stays c x.1) ] | inr x ↦ inr (of_b c x.0, x.1) ];
  put = λ c h. elim (b.put c h) [ inl old ↦ elim (a.put c old) [ inl first ↦ inl first | inr x ↦ inr (of_a c x) ] | inr x ↦ inr (of_b c x) ];
  all = λ c h. elim (cases c h) [ inl x ↦ b.kept c (a.all c x) | inr x ↦ b.all c x ];
  fewer = omega (arith, a.fewer, b.fewer);
}

-- a chain that was marked already
pub already : (chain : ℕ) (m : List Bool) (t : List ℕ) → IsMarked m chain → Spread (λ c. chain ≡ c) m t m t
already chain m t is = record {
  long = refl;
  kept = λ c h. h;
  stays = λ c h. h;
  new = λ c h. inl h;
  put = λ c h. inl h;
  all = λ c e. subst (IsMarked m) e is;
  fewer = omega arith;
}

-- what a mark changes
at_mark : (m : List Bool) (chain c : ℕ) → chain < length m → (chain ≡ c) ⊎ (get_or (set m chain true) c false ≡ get_or m c false)
at_mark m chain c h = elim (cases_eq c chain) [ inl e ↦ inl (sym e) | inr ne ↦ inr (get_or-set_other m chain c true false ne) ]

here_marked : (m : List Bool) (chain c : ℕ) → chain < length m → chain ≡ c → IsMarked (set m chain true) c
here_marked m chain c h e = subst (IsMarked (set m chain true)) e (get_or-set_same m chain true false h)

fewer_left : (m : List Bool) (t : List ℕ) (chain : ℕ) → chain < length m → get_or m chain false ≡ false → count_by not (set m chain true) + length (t ++ chain ∷ []) ≤ count_by not m + length t
fewer_left m t chain h e =
    let one : count_by not (set m chain true) + 1 ≡ count_by not m + 0 =
    subst (λ (b : Bool). count_by not (set m chain true) + cond (not b) 1 0 ≡ count_by not m + 0) e (sum_by-set (λ (b : Bool). cond (not b) 1 0) m chain true false h) in
    omega (arith, one, length-append t (chain ∷ []))

-- a chain that wasn't marked
pub newly : (chain : ℕ) (m : List Bool) (t : List ℕ) → chain < length m → get_or m chain false ≡ false → Spread (λ c. chain ≡ c) m t (set m chain true) (t ++ chain ∷ [])
newly chain m t h e = record {
  long = length-set m chain true;
  kept = λ c is. elim (at_mark m chain c h) [ inl same ↦ here_marked m chain c h same | inr other ↦ other ∙ is ];
  stays = λ c is. Contains-append_left t (chain ∷ []) c is;
  new = λ c is. elim (at_mark m chain c h) [ inl same ↦ inr (same, subst (Contains (t ++ chain ∷ [])) same (Contains-push t chain)) | inr other ↦ inl (sym other ∙ is) ];
  put = λ c is. Contains-push_cases t chain c is;
  all = λ c same. here_marked m chain c h same;
  fewer = fewer_left m t chain h e;
}

pub same_target : (a b : ℕ) → Some a ≡ Some b → a ≡ b
same_target a b e = cc

module _ {P : Type 0} (rules : List (Rule P)) (i : ℕ) (rule : Rule P) (h : i < length rules) (is : rule ≡ get_or rules i rule) where
  with_rule : take (i + 1) rules ≡ take i rules ++ rule ∷ []
  with_rule = take_more rules i rule h ∙ ap (λ (z : Rule P). take i rules ++ z ∷ []) (sym is)

  pub called_before : (c : ℕ) → IsCalled (take i rules) c → IsCalled (take (i + 1) rules) c
  called_before c q = (q.0, subst (λ (z : List (Rule P)). Contains z q.0) (sym with_rule) (Contains-append_left (take i rules) (rule ∷ []) q.0 q.1), q.2)

  pub called_here : (c : ℕ) → target_of rule.action ≡ Some c → IsCalled (take (i + 1) rules) c
  called_here c e = (rule, subst (λ (z : List (Rule P)). Contains z rule) (sym with_rule) (Contains-push (take i rules) rule), e)

  pub called_cases : (c : ℕ) → IsCalled (take (i + 1) rules) c → IsCalled (take i rules) c ⊎ (target_of rule.action ≡ Some c)
  called_cases c q = elim (Contains-push_cases (take i rules) rule q.0 (subst (λ (z : List (Rule P)). Contains z q.0) with_rule q.1)) [
    | inl x ↦ inl (q.0, x, q.2)
    | inr e ↦ inr (ap (λ (z : Rule P). target_of z.action) e ∙ q.2)
  ]

  -- a rule that leads nowhere leads to no chain
  pub no_target : (c : ℕ) → target_of rule.action ≡ None → target_of rule.action ≡ Some c → ⊥
  no_target c none e = let same : None ≡ Some c = sym none ∙ e in cc

  -- a rule that calls no chain spreads nothing
  pub no_call : (m0 : List Bool) (t0 : List ℕ) (m : List Bool) (t : List ℕ) → target_of rule.action ≡ None → Spread (IsCalled (take i rules)) m0 t0 m t →
      Spread (IsCalled (take (i + 1) rules)) m0 t0 m t
  no_call m0 t0 m t none s = both (IsCalled (take i rules)) (λ c. ⊥) (IsCalled (take (i + 1) rules)) m0 t0 m t m t called_before (λ c x. absurd x)
      (λ c q. elim (called_cases c q) [ inl x ↦ inl x | inr e ↦ absurd (no_target c none e) ]) s (nothing (λ c. ⊥) m t (λ c x. x))

  -- a rule that calls a chain spreads to it
  pub one_call : (m0 : List Bool) (t0 : List ℕ) (m : List Bool) (t : List ℕ) (m' : List Bool) (t' : List ℕ) (chain : ℕ) → target_of rule.action ≡ Some chain →
      Spread (IsCalled (take i rules)) m0 t0 m t → Spread (λ c. chain ≡ c) m t m' t' → Spread (IsCalled (take (i + 1) rules)) m0 t0 m' t'
  one_call m0 t0 m t m' t' chain calls s r = both (IsCalled (take i rules)) (λ c. chain ≡ c) (IsCalled (take (i + 1) rules)) m0 t0 m t m' t' called_before
      (λ c e. called_here c (calls ∙ ap (λ (k : ℕ). Some k) e))
      (λ c q. elim (called_cases c q) [ inl x ↦ inl x | inr e ↦ inr (same_target chain c (sym calls ∙ e)) ]) s r

-- all rules were passed
pub all_rules : {P : Type 0} (rules : List (Rule P)) (i : ℕ) (m0 : List Bool) (t0 : List ℕ) (m : List Bool) (t : List ℕ) → length rules ≤ i → Spread (IsCalled (take i rules)) m0 t0 m t →
    Spread (IsCalled rules) m0 t0 m t
all_rules rules i m0 t0 m t h s = subst (λ (z : List (Rule _)). Spread (IsCalled z) m0 t0 m t) (take_all i rules h) s

module _ {P : Type 0} (dump : Dump P) where
  pub calls_by : (a : ℕ) (rules : List (Rule P)) → AreRulesOf dump a rules → (b : ℕ) → IsCalled rules b → Calls dump a b
  calls_by a rules r b q = (q.0, (r.0, r.1, subst (λ (z : List (Rule P)). Contains z q.0) r.2 q.1), q.2)

  pub called_by : (a : ℕ) (rules : List (Rule P)) → AreRulesOf dump a rules → (b : ℕ) → Calls dump a b → IsCalled rules b
  called_by a rules r b q =
      let there : Chain P = (q.1).0 in
      let same : there ≡ r.0 = same_chain there r.0 (sym (q.1).1 ∙ r.1) in
      (q.0, subst (λ (z : List (Rule P)). Contains z q.0) (ap (λ (z : Chain P). z.rules) same ∙ sym r.2) (q.1).2, q.2)
    where
      same_chain : (x y : Chain P) → Some x ≡ Some y → x ≡ y
      same_chain x y e = cc

  pub one_more : (a b c : ℕ) → Reaches dump a b → Calls dump b c → ReachesByCall dump a c
  one_more a b c Here q = (c, q, Here)
  one_more a b c (Over {b = k} p r) q = (k, p, append dump r q)

  -- the chains that are marked are reached, and those that were followed have their callees marked
  pub record Flood (a : ℕ) (m : List Bool) (t : List ℕ) : Type 0 where
    pub long : length m ≡ length dump.chains
    pub told : (c : ℕ) → IsMarked m c → ReachesByCall dump a c
    pub from : (c : ℕ) → Contains t c → Reaches dump a c
    pub done : (c : ℕ) → (a ≡ c) ⊎ IsMarked m c → Contains t c ⊎ ((b : ℕ) → Calls dump c b → IsMarked m b)

  unmarked : (n c : ℕ) → get_or (replicate n false) c false ≡ true → ⊥
  unmarked zero c e = cc
  unmarked (suc n) zero e = cc
  unmarked (suc n) (suc c) e = unmarked n c e

  only : (a c : ℕ) → Contains (a ∷ []) c → a ≡ c
  only a c h = elim (Contains-push_cases [] a c h) [ inl x ↦ absurd (omega (arith, x.1)) | inr e ↦ e ]

  pub start : (a : ℕ) (m : List Bool) (t : List ℕ) → m ≡ replicate (length dump.chains) false → t ≡ a ∷ [] → Flood a m t
  start a m t m_is t_is =
      let none : (c : ℕ) → IsMarked m c → ⊥ = λ c h. unmarked (length dump.chains) c (subst (λ (z : List Bool). IsMarked z c) m_is h) in
      record {
        long = ap length m_is ∙ length-replicate (length dump.chains) false;
        told = λ c h. absurd (none c h);
        from = λ c h. subst (Reaches dump a) (only a c (subst (λ (z : List ℕ). Contains z c) t_is h)) Here;
        done = λ c h. elim h [ inl e ↦ inl (subst (λ (z : List ℕ). Contains z c) (sym t_is) (subst (Contains (a ∷ [])) e (Contains-push [] a))) | inr is ↦ absurd (none c is) ];
      }

  -- the callees of the last one are marked
  pub turn : (a x : ℕ) (rules : List (Rule P)) (m : List Bool) (t rest : List ℕ) (m' : List Bool) (t' : List ℕ) → t ≡ rest ++ x ∷ [] → AreRulesOf dump x rules → Flood a m t →
      Spread (IsCalled rules) m rest m' t' → Flood a m' t'
  turn a x rules m t rest m' t' t_is r f s =
      let at_x : Reaches dump a x = f.from x (subst (λ (z : List ℕ). Contains z x) (sym t_is) (Contains-push rest x)) in
      let by_x : (b : ℕ) → IsCalled rules b → ReachesByCall dump a b = λ b q. one_more a x b at_x (calls_by x rules r b q) in
      let left : (c : ℕ) → (a ≡ c) ⊎ IsMarked m c → Contains t' c ⊎ ((b : ℕ) → Calls dump c b → IsMarked m' b) = λ c h. elim (f.done c h) [
        | inl waits ↦ elim (Contains-push_cases rest x c (subst (λ (z : List ℕ). Contains z c) t_is waits)) [
          | inl y ↦ inl (s.stays c y)
          | inr e ↦ inr (λ b q. s.all b (called_by x rules r b (subst (λ (z : ℕ). Calls dump z b) (sym e) q)))
        ]
        | inr followed ↦ inr (λ b q. s.kept b (followed b q))
      ] in
      record {
        long = s.long ∙ f.long;
        told = λ c h. elim (s.new c h) [ inl old ↦ f.told c old | inr y ↦ by_x c y.0 ];
        from = λ c h. elim (s.put c h) [
          | inl old ↦ f.from c (subst (λ (z : List ℕ). Contains z c) (sym t_is) (Contains-append_left rest (x ∷ []) c old))
          | inr y ↦ append dump at_x (calls_by x rules r c y)
        ];
        done = λ c h. elim h [
          | inl e ↦ left c (inl e)
          | inr is ↦ elim (s.new c is) [ inl old ↦ left c (inr old) | inr y ↦ inl y.1 ]
        ];
      }

  spread_on : (a b c : ℕ) (m : List Bool) → Flood a m [] → IsMarked m b → Reaches dump b c → IsMarked m c
  spread_on a b c m f h Here = h
  spread_on a b c m f h (Over {b = k} q r) = elim (f.done b (inr h)) [ inl x ↦ absurd (omega (arith, x.1)) | inr g ↦ spread_on a k c m f (g k q) r ]

  -- nothing is left to follow
  pub filled : (a : ℕ) (m : List Bool) (t : List ℕ) → t ≡ [] → Flood a m t → MarksAre (ReachesByCall dump a) m
  filled a m t t_is f =
      let g : Flood a m [] = subst (Flood a m) t_is f in
      λ c. (g.told c, λ h. elim (g.done a (inl refl)) [ inl x ↦ absurd (omega (arith, x.1)) | inr next ↦ spread_on a h.0 c m g (next h.0 h.1) h.2 ])

  by_call_reaches : (a c : ℕ) → ReachesByCall dump a c → Reaches dump a c
  by_call_reaches a c h = Over h.1 h.2

  reaches_cases : (a c : ℕ) → Reaches dump a c → (a ≡ c) ⊎ ReachesByCall dump a c
  reaches_cases a c Here = inl refl
  reaches_cases a c (Over {b = k} q r) = inr (k, q, r)

  -- the asked chain is marked as well
  pub with_itself : (a : ℕ) (m : List Bool) → a < length m → MarksAre (ReachesByCall dump a) m → MarksAre (Reaches dump a) (set m a true)
  with_itself a m h is = λ c. (
    (λ marked. elim (at_mark m a c h) [ inl e ↦ subst (Reaches dump a) e Here | inr other ↦ by_call_reaches a c ((is c).0 (sym other ∙ marked)) ]),
    (λ r. elim (reaches_cases a c r) [ inl e ↦ here_marked m a c h e | inr by ↦ elim (at_mark m a c h) [ inl e ↦ here_marked m a c h e | inr other ↦ other ∙ (is c).1 by ] ]),
  )

-- a chain that a rule calls has a mark
pub inside : {P : Type 0} (rules : List (Rule P)) (i : ℕ) (rule : Rule P) → i < length rules → rule ≡ get_or rules i rule → (chain : ℕ) (m0 m : List Bool) → target_of rule.action ≡ Some chain →
    ((c : ℕ) → IsCalled rules c → c < length m0) → length m ≡ length m0 → chain < length m
inside rules i rule h is chain m0 m e within long = let below : chain < length m0 = within chain (rule, (i, h, sym is), e) in omega (arith, below, long)

-- a list that is written back whole
whole : {X : Type 0} (m rest : List X) → take (length m) (m ++ rest) ≡ m
whole m rest = let short : length m ≤ length m = omega arith in take-append-le (length m) m rest short ∙ take_all (length m) m short

pub written : {X : Type 0} (n : ℕ) (m rest : List X) → length m ≡ n → take n (m ++ rest) ≡ m
written n m rest e = subst (λ (k : ℕ). take k (m ++ rest) ≡ m) e (whole m rest)

take_none : (s : List ℕ) → take 0 s ≡ []
take_none [] = refl
take_none (x ∷ s) = refl

-- a list from which nothing is popped
pub emptied : (s rest : List ℕ) (n : ℕ) → s ≡ rest ++ [] → rest ≡ take (n - 1) s → n ≡ 0 → s ≡ []
emptied s rest n e f g = e ∙ ap (λ (z : List ℕ). z ++ []) (f ∙ ap (λ (k : ℕ). take (k - 1) s) g ∙ take_none s)

module _ {P : Type 0} (dump : Dump P) (named : CallsNameChains dump) where
  pub reach_inside : (a c : ℕ) → a < length dump.chains → Reaches dump a c → c < length dump.chains
  reach_inside a c h Here = h
  reach_inside a c h (Over {b = k} q r) = reach_inside k c (named a k q) r

  pub next_inside : (a x : ℕ) (m : List Bool) (t rest : List ℕ) → t ≡ rest ++ x ∷ [] → a < length dump.chains → Flood dump a m t → x < length dump.chains
  next_inside a x m t rest t_is h f = reach_inside a x h (f.from x (subst (λ (z : List ℕ). Contains z x) (sym t_is) (Contains-push rest x)))

  pub callee_inside : (x : ℕ) (rules : List (Rule P)) → AreRulesOf dump x rules → (c : ℕ) → IsCalled rules c → c < length dump.chains
  callee_inside x rules r c q = named x c (calls_by dump x rules r c q)
