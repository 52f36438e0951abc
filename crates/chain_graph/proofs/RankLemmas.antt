-- Tables of ranks and visits, and what one more chain adds.
use Rattle.std.specs.Prelude.{ℕ, suc, ◌+◌, ◌-◌, ◌^◌, ◌<◌, ◌≤◌, ◌≡◌, ◌⊎◌, min, max, List, ◌∷◌, length, take, drop, Option, None, Some, slice_get, get_or, refl}
use Rattle.std.proofs.Common.{arith, subst, sym, ap, ◌∙◌, inl, inr, drop-cons, add-one}
use Rattle.std.proofs.Math.ListN.{set}
use Rattle.std.proofs.lemmas.List.{take_all, drop_all, length-set, get_or-set_same, get_or-set_other}
use Rattle.std.proofs.lemmas.Option.{slice_get-get_or, slice_get_past, slice_get_cases}
use Rattle.std.proofs.lemmas.Bool.{cases_eq, cases_lt}
use Rattle.fw_rule.specs.declared.rule.Rule.{Rule}
use Rattle.fw_rule.specs.declared.rule.Dump.{Dump}
use Rattle.fw_rule.specs.Calls.{target_of, Calls, Reaches, Here, Over, Within, deep}
use Rattle.chain_graph.specs.declared.ranking.Found.{Found}
use Rattle.chain_graph.specs.Paths.{HasPath}
use Rattle.chain_graph.specs.Visits.{VisitsOf, None_left, Plain, Called}
use Rattle.chain_graph.specs.Marks.{AreRulesOf}
use Rattle.chain_graph.specs.inner.Spreading.{IsCalled}
use Rattle.chain_graph.specs.inner.Tables.{Has, IsCapped, IsRight, IsTable, Grows}
use Rattle.chain_graph.proofs.Marking.{same_target, no_target, called_cases, called_by}
use Rattle.chain_graph.proofs.Paths.{within_more, lone, longer, shorter}

pub get_set_same : {X : Type 0} (xs : List X) (i : ℕ) (a : X) → i < length xs → slice_get (set xs i a) i ≡ Some a
get_set_same xs i a h = let inside : i < length (set xs i a) = omega (arith, h, length-set xs i a) in slice_get-get_or (set xs i a) i a inside ∙ ap (λ (z : _). Some z) (get_or-set_same xs i a a h)

pub get_set_other : {X : Type 0} (xs : List X) (i j : ℕ) (a : X) → (j ≡ i → ⊥) → slice_get (set xs i a) j ≡ slice_get xs j
get_set_other xs i j a ne = elim (slice_get_cases xs j).1 [
  | inl x ↦ (let inside : j < length (set xs i a) = omega (arith, x.1, length-set xs i a) in
      slice_get-get_or (set xs i a) j a inside ∙ ap (λ (z : _). Some z) (get_or-set_other xs i j a a ne) ∙ sym (slice_get-get_or xs j a x.1))
  | inr x ↦ (let past : length (set xs i a) ≤ j = omega (arith, x.0, length-set xs i a) in slice_get_past (set xs i a) j past ∙ sym (slice_get_past xs j x.0))
]

module _ {P : Type 0} (dump : Dump P) where
  pub same_table : (chain : ℕ) (t : List (Option Found)) → Grows dump chain t t
  same_table chain t = record { kept = λ c f h. (f, h); new = λ c f h. inl h }

  -- what grew below a call grew below the caller
  pub grown : (chain callee : ℕ) (t u v : List (Option Found)) → Calls dump chain callee → Grows dump chain t u → Grows dump callee u v → Grows dump chain t v
  grown chain callee t u v q a b = record {
    kept = λ c f h. let o = a.kept c f h in b.kept c o.0 o.1;
    new = λ c f h. elim (b.new c f h) [ inl old ↦ a.new c f old | inr r ↦ inr (Over q r) ];
  }

  -- what is known when the first `i` rules of a chain are passed
  pub record Passed (chain depth : ℕ) (rules : List (Rule P)) (i : ℕ) (start table : List (Option Found)) (below visits : ℕ) : Type 0 where
    pub right : IsTable dump table
    pub grows : Grows dump chain start table
    pub low : below < depth
    pub path : HasPath dump chain (suc below)
    pub called : (k : ℕ) → IsCalled (take i rules) k → Within dump below k × ((g : Found) × Has table k g)
    pub counted : (done : ℕ) × IsCapped visits done × ((n : ℕ) → VisitsOf dump (drop i rules) n → VisitsOf dump rules (done + n))

  -- a sum that starts at 0
  zero_capped : IsCapped 0 0
  zero_capped = omega arith

  none_called : (rules : List (Rule P)) (k : ℕ) → IsCalled (take 0 rules) k → ⊥
  none_called rules k q = absurd (omega (arith, (q.1).1))

  pub at_first : (chain depth : ℕ) (rules : List (Rule P)) (start : List (Option Found)) → 1 ≤ depth → IsTable dump start → Passed chain depth rules 0 start start 0 0
  at_first chain depth rules start h right = record {
    right = right;
    grows = same_table chain start;
    low = omega (arith, h);
    path = lone dump chain;
    called = λ k q. absurd (none_called rules k q);
    counted = (0, zero_capped, λ n v. subst (VisitsOf dump rules) (add0 n) v);
  }
    where
      add0 : (n : ℕ) → n ≡ 0 + n
      add0 n = omega arith

  more_capped : (v done m a : ℕ) → IsCapped v done → IsCapped a m → IsCapped (min (min (v + 1) (2 ^ 64 - 1) + a) (2 ^ 64 - 1)) (done + suc m)
  more_capped v done m a e f = omega (arith, e, f)

  one_capped : (v done : ℕ) → IsCapped v done → IsCapped (min (v + 1) (2 ^ 64 - 1)) (done + 1)
  one_capped v done e = omega (arith, e)

  module _ (chain depth : ℕ) (rules : List (Rule P)) (i : ℕ) (start table : List (Option Found)) (below visits : ℕ) (rule : Rule P) (h : i < length rules) (is : rule ≡ get_or rules i rule)
      (p : Passed chain depth rules i start table below visits) where
    left : drop i rules ≡ rule ∷ drop (i + 1) rules
    left = dropped rules i rule h ∙ ap (λ (z : Rule P). z ∷ drop (i + 1) rules) (sym is)
      where
        dropped : (xs : List (Rule P)) (j : ℕ) (d : Rule P) → j < length xs → drop j xs ≡ get_or xs j d ∷ drop (j + 1) xs
        dropped xs j d l = rw (add-one, drop-cons xs j d) refl

    -- a rule that calls no chain
    pub plain : target_of rule.action ≡ None → (v : ℕ) → v ≡ min (visits + 1) (2 ^ 64 - 1) → Passed chain depth rules (i + 1) start table below v
    plain none v v_is = record {
      right = p.right;
      grows = p.grows;
      low = p.low;
      path = p.path;
      called = λ k q. elim (called_cases rules i rule h is k q) [ inl x ↦ p.called k x | inr e ↦ absurd (no_target rules i rule h is k none e) ];
      counted = (
        (p.counted).0 + 1,
        v_is ∙ one_capped visits (p.counted).0 (p.counted).1,
        λ n more.
            subst (VisitsOf dump rules) (sums (p.counted).0 n) ((p.counted).2 (suc n) (subst (λ (z : List (Rule P)). VisitsOf dump z (suc n)) (sym left) (Plain none more))),
      );
    }
      where
        sums : (a n : ℕ) → a + suc n ≡ (a + 1) + n
        sums a n = omega arith

    -- a rule that calls a chain which the grown table has
    pub calling : (callee : ℕ) → target_of rule.action ≡ Some callee → Calls dump chain callee → (table' : List (Option Found)) (f : Found) → IsTable dump table' → Grows dump callee table table' →
        Has table' callee f → f.rank ≤ depth - 1 → (b v : ℕ) → b ≡ max below f.rank → v ≡ min (min (visits + 1) (2 ^ 64 - 1) + f.visits) (2 ^ 64 - 1) →
        Passed chain depth rules (i + 1) start table' b v
    calling callee e q table' f right grows has low b v b_is v_is = record {
      right = right;
      grows = grown chain callee start table table' q p.grows grows;
      low = omega (arith, low, p.low, b_is);
      path = longest;
      called = λ k x. elim (called_cases rules i rule h is k x) [
        | inl y ↦ (let o = p.called k y in (within_more dump below b k (omega (arith, b_is)) o.0, grows.kept k (o.1).0 (o.1).1))
        | inr y ↦ (let same : callee ≡ k = same_target callee k (sym e ∙ y) in
            (subst (Within dump b) same (within_more dump f.rank b callee (omega (arith, b_is)) r.within), (f, subst (λ (z : ℕ). Has table' z f) same has)))
      ];
      counted = (
        (p.counted).0 + suc (r.visits).0,
        v_is ∙ more_capped visits (p.counted).0 (r.visits).0 f.visits (p.counted).1 (r.visits).2,
        λ n more.
            let there = (r.visits).1 in
            subst (VisitsOf dump rules) (sums (p.counted).0 (r.visits).0 n)
            ((p.counted).2 (suc ((r.visits).0 + n)) (subst (λ (z : List (Rule P)). VisitsOf dump z (suc ((r.visits).0 + n))) (sym left) (Called there.0 e there.1 there.2 more))),
      );
    }
      where
        r : IsRight dump callee f
        r = right.right callee f has

        sums : (a m n : ℕ) → a + suc (m + n) ≡ (a + suc m) + n
        sums a m n = omega arith

        bigger : (a c m : ℕ) → m ≡ max a c → (m ≡ a) ⊎ (m ≡ c)
        bigger a c m x = elim (cases_lt a c) [ inl y ↦ inr (omega (arith, x, y)) | inr y ↦ inl (omega (arith, x, y)) ]

        longest : HasPath dump chain (suc b)
        longest = elim (bigger below f.rank b b_is) [
          | inl x ↦ subst (λ (z : ℕ). HasPath dump chain (suc z)) (sym x) p.path
          | inr x ↦ subst (λ (z : ℕ). HasPath dump chain (suc z)) (sym x) (longer dump chain callee f.rank q r.path)
        ]

  module _ (chain : ℕ) (f : Found) (table : List (Option Found)) (inside : chain < length table) where
    still : (c : ℕ) (g : Found) → Has table c g → (o : Found) × Has (set table chain (Some f)) c o
    still c g h = elim (cases_eq c chain) [
      | inl e ↦ (f, subst (λ (z : ℕ). Has (set table chain (Some f)) z f) (sym e) (get_set_same table chain (Some f) inside))
      | inr ne ↦ (g, get_set_other table chain c (Some f) ne ∙ h)
    ]

    has_cases : (c : ℕ) (g : Found) → Has (set table chain (Some f)) c g → ((chain ≡ c) × (f ≡ g)) ⊎ Has table c g
    has_cases c g h = elim (cases_eq c chain) [
      | inl e ↦ inl (sym e, same_found f g (sym (get_set_same table chain (Some f) inside) ∙ subst (λ (z : ℕ). Has (set table chain (Some f)) z g) e h))
      | inr ne ↦ inr (sym (get_set_other table chain c (Some f) ne) ∙ h)
    ]
      where
        same_found : (x y : Found) → ◌≡◌ {A = Option (Option Found)} (Some (Some x)) (Some (Some y)) → x ≡ y
        same_found x y e = cc

  module _ (chain depth : ℕ) (rules : List (Rule P)) (i : ℕ) (start table : List (Option Found)) (below visits : ℕ) (f : Found) (at : AreRulesOf dump chain rules) (past : length rules ≤ i)
      (inside : chain < length table) (rank_is : f.rank ≡ below + 1) (visits_is : f.visits ≡ visits) (p : Passed chain depth rules i start table below visits) where
    each_called : (k : ℕ) → Calls dump chain k → Within dump below k × ((g : Found) × Has table k g)
    each_called k q = p.called k (subst (λ (z : List (Rule P)). IsCalled z k) (sym (take_all i rules past)) (called_by dump chain rules at k q))

    rank_suc : suc below ≡ f.rank
    rank_suc = omega (arith, rank_is)

    right_here : IsRight dump chain f
    right_here = record {
      within = subst (λ (z : ℕ). Within dump z chain) rank_suc (deep (λ k q. (each_called k q).0));
      path = subst (HasPath dump chain) rank_suc p.path;
      visits = (
        (p.counted).0 + 0,
        (
          at.0,
          at.1,
          subst (λ (z : List (Rule P)). VisitsOf dump z ((p.counted).0 + 0)) at.2
              ((p.counted).2 0 (subst (λ (z : List (Rule P)). VisitsOf dump z 0) (sym (drop_all i rules past)) None_left)),
        ),
        same_sum f.visits visits (p.counted).0 visits_is (p.counted).1,
      );
    }
      where
        same_sum : (v w n : ℕ) → v ≡ w → IsCapped w n → IsCapped v (n + 0)
        same_sum v w n e c = omega (arith, e, c)

    -- a chain whose rules are all passed, put into the table
    pub put_table : IsTable dump (set table chain (Some f))
    put_table = record {
      long = length-set table chain (Some f) ∙ (p.right).long;
      right = λ c g h. elim (has_cases chain f table inside c g h) [
        | inl x ↦ subst (λ (z : ℕ). IsRight dump z g) x.0 (subst (IsRight dump chain) x.1 right_here)
        | inr old ↦ (p.right).right c g old
      ];
      below = λ c g h k q. elim (has_cases chain f table inside c g h) [
        | inl x ↦ (let o = (each_called k (subst (λ (z : ℕ). Calls dump z k) (sym x.0) q)).1 in still chain f table inside k o.0 o.1)
        | inr old ↦ (let o = (p.right).below c g old k q in still chain f table inside k o.0 o.1)
      ];
    }

    pub put_grows : Grows dump chain start (set table chain (Some f))
    put_grows = record {
      kept = λ c g h. let o = (p.grows).kept c g h in still chain f table inside c o.0 o.1;
      new = λ c g h. elim (has_cases chain f table inside c g h) [ inl x ↦ inr (subst (Reaches dump chain) x.0 Here) | inr old ↦ (p.grows).new c g old ];
    }

    pub put_has : Has (set table chain (Some f)) chain f × (f.rank ≤ depth)
    put_has = (get_set_same table chain (Some f) inside, omega (arith, p.low, rank_is))

  -- what the table is read to have
  pub read_has : (table : List (Option Found)) (chain : ℕ) (d : Option Found) (f : Found) → chain < length table → get_or table chain d ≡ Some f → Has table chain f
  read_has table chain d f h e = slice_get-get_or table chain d h ∙ ap (λ (z : Option Found). Some z) e

  pub too_deep : (chain depth callee : ℕ) → 1 ≤ depth → Calls dump chain callee → HasPath dump callee ((depth - 1) + 1) → HasPath dump chain (depth + 1)
  too_deep chain depth callee h q p = subst (HasPath dump chain) (one_up depth h) (longer dump chain callee ((depth - 1) + 1) q p)
    where
      one_up : (d : ℕ) → 1 ≤ d → suc ((d - 1) + 1) ≡ d + 1
      one_up d x = omega (arith, x)

  pub known_deep : (table : List (Option Found)) (chain depth : ℕ) (f : Found) → IsTable dump table → Has table chain f → depth < f.rank → HasPath dump chain (depth + 1)
  known_deep table chain depth f t h less = shorter dump chain depth f.rank (omega (arith, less)) (t.right chain f h).path

  pub at_zero : (chain depth : ℕ) → depth ≡ 0 → HasPath dump chain (depth + 1)
  at_zero chain depth e = subst (λ (d : ℕ). HasPath dump chain (d + 1)) (sym e) (lone dump chain)
