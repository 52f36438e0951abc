-- Some walk has the best outcome.
use Rattle.std.proofs.Common.{◌≡◌, ℕ, zero, suc, ◌+◌, ◌<◌, ◌≤◌, Bool, true, false, not, ◌&&◌, ◌||◌, ◌==◌, List, [], ◌∷◌, ◌++◌, map, if◌then◌else◌, Some, refl, sym, ◌∙◌, ap, subst, true≢false, arith, eqb}
use Rattle.std.specs.Cmp.Lexicographic.{pointwise}
use Rattle.std.proofs.lemmas.List.Folds.{list_any-append}
use Rattle.std.proofs.lemmas.Bool.Decides.{nat_tests}
use Rattle.std.proofs.lemmas.Option.{same_Some}
use Rattle.basics.proofs.Truths.{and_assoc, and_false, or_right}
use Rattle.match_expr.specs.Meaning.{eval_of, every}
use Rattle.match_expr.proofs.Equations.{eval-All}
use Rattle.fw_rule.specs.declared.rule.Lit.{Lit}
use Rattle.fw_rule.specs.declared.rule.Rule.{Rule}
use Rattle.fw_rule.specs.declared.rule.Dump.{Dump}
use Rattle.fw_rule.specs.declared.rule.Step.{Step}
use Rattle.fw_rule.specs.Walk.{Meaning, same_step, same_place}
use Rattle.fw_rule.specs.declared.side.Side.{Side}
use Rattle.fw_rule.specs.Matching.{known_of, known_in, doubt_in}
use Rattle.closure.specs.Rewriting.{rules_of}
use Rattle.rewriting.specs.Table.{kind}
use Rattle.rewriting.specs.declared.kinds.ActionKind.{ActionKind}
use Rattle.rewriting.specs.declared.kinds.ActionKind.TheVariants.{GoodVerdict, BadVerdict, GoOn, GoBack, CallTo, GoTo}
use Rattle.closure.proofs.Bounds.{of_known}
use Rattle.closure.proofs.Outcomes.{truth_of, Outcome, Good, Ends, Bad, then_rest, or_rest, better, target_in, best_row, best_rules, best, Truth, under, step_of, lits_hold, walked_rules, walked}

-- the same places, one call or goto further down
abbrev pub below : Step → Meaning → Meaning
below s [] = []
below s (q ∷ qs) = record { steps = s ∷ q.steps; lit = q.lit } ∷ below s qs

-- the places of a rule's unknown literals
abbrev pub places : {P : Type 0} → Step → ℕ → List (Lit P) → Meaning
places s l [] = []
places s l (Lit.Known neg x ∷ lits) = places s (l + 1) lits
places s l (Lit.Unknown text ∷ lits) = record { steps = s ∷ []; lit = l } ∷ places s (l + 1) lits

same_number : (n : ℕ) → eqb n n ≡ true
same_number n = grind (arith, nat_tests)

same_refl : (s : Step) → same_step s s ≡ true
same_refl s = rw (same_number s.chain, same_number s.rule) refl

other_step : (c i j : ℕ) → i < j → same_step (step_of c i) (step_of c j) ≡ false
other_step c i j h = let e : eqb i j ≡ false = grind (arith, nat_tests) in rw e (and_false (eqb c c))

step_other : (c i j : ℕ) → i < j → same_step (step_of c j) (step_of c i) ≡ false
step_other c i j h = let e : eqb j i ≡ false = grind (arith, nat_tests) in rw e (and_false (eqb c c))

truth_append : (a b : Meaning) (steps : List Step) (l : ℕ) → truth_of (a ++ b) steps l ≡ (truth_of a steps l || truth_of b steps l)
truth_append a b steps l = list_any-append (same_place (record { steps = steps; lit = l })) a b

below_here : (s : Step) (m : Meaning) (l : ℕ) → truth_of (below s m) [] l ≡ false
below_here s [] l = refl
below_here s (q ∷ m) l = below_here s m l

below_is : (s r : Step) (m : Meaning) (steps : List Step) (l : ℕ) → truth_of (below s m) (r ∷ steps) l ≡ (same_step r s && truth_of m steps l)
below_is s r [] steps l = sym (and_false (same_step r s))
below_is s r (q ∷ m) steps l = rw (below_is s r m steps l) (shared (same_step r s) (pointwise same_step steps q.steps) (l == q.lit) (truth_of m steps l))
  where
    shared : (a x y c : Bool) → (((a && x) && y) || (a && c)) ≡ (a && ((x && y) || c))
    shared true x y c = refl
    shared false x y c = refl

places_here : {P : Type 0} (s : Step) (l : ℕ) (lits : List (Lit P)) (k : ℕ) → truth_of (places s l lits) [] k ≡ false
places_here s l [] k = refl
places_here s l (Lit.Known neg x ∷ lits) k = places_here s (l + 1) lits k
places_here s l (Lit.Unknown text ∷ lits) k = places_here s (l + 1) lits k

places_deep : {P : Type 0} (s : Step) (l : ℕ) (lits : List (Lit P)) (r q : Step) (steps : List Step) (k : ℕ) → truth_of (places s l lits) (r ∷ q ∷ steps) k ≡ false
places_deep s l [] r q steps k = refl
places_deep s l (Lit.Known neg x ∷ lits) r q steps k = places_deep s (l + 1) lits r q steps k
places_deep s l (Lit.Unknown text ∷ lits) r q steps k = rw (and_false (same_step r s)) (places_deep s (l + 1) lits r q steps k)

places_other : {P : Type 0} (s : Step) (l : ℕ) (lits : List (Lit P)) (r : Step) (steps : List Step) (k : ℕ) → same_step r s ≡ false → truth_of (places s l lits) (r ∷ steps) k ≡ false
places_other s l [] r steps k e = refl
places_other s l (Lit.Known neg x ∷ lits) r steps k e = places_other s (l + 1) lits r steps k e
places_other s l (Lit.Unknown text ∷ lits) r steps k e = rw e (places_other s (l + 1) lits r steps k e)

module _ {P : Type 0} (h : P → Bool) where
  -- where the places of the rule hold, its known literals decide
  chosen : (t : Truth) (s : Step) (l : ℕ) (lits : List (Lit P)) → ((k : ℕ) → truth_of (places s l lits) (s ∷ []) k ≡ true → t (s ∷ []) k ≡ true) →
      lits_hold h t (s ∷ []) l lits ≡ every (map (eval_of h) (known_in lits))
  chosen t s l [] up = refl
  chosen t s l (Lit.Known neg x ∷ lits) up = rw (of_known h neg x, chosen t s (l + 1) lits up) refl
  chosen t s l (Lit.Unknown text ∷ lits) up =
      rw (up l (here (truth_of (places s (l + 1) lits) (s ∷ []) l)))
      (chosen t s (l + 1) lits (λ k e. up k (or_right (same_place (record { steps = s ∷ []; lit = k }) (record { steps = s ∷ []; lit = l })) (truth_of (places s (l + 1) lits) (s ∷ []) k) e)))
    where
      here : (b : Bool) → (same_place (record { steps = s ∷ []; lit = l }) (record { steps = s ∷ []; lit = l }) || b) ≡ true
      here b = rw (same_number s.chain, same_number s.rule, same_number l) refl

  -- where no place of the rule holds, it doesn't match if it is doubtful
  left_out : (t : Truth) (s : Step) (l : ℕ) (lits : List (Lit P)) → ((k : ℕ) → t (s ∷ []) k ≡ false) →
      lits_hold h t (s ∷ []) l lits ≡ (every (map (eval_of h) (known_in lits)) && not (doubt_in lits))
  left_out t s l [] none = refl
  left_out t s l (Lit.Known neg x ∷ lits) none = rw (of_known h neg x, left_out t s (l + 1) lits none)
      (sym (and_assoc (if neg then not (eval_of h x) else eval_of h x) (every (map (eval_of h) (known_in lits))) (not (doubt_in lits))))
  left_out t s l (Lit.Unknown text ∷ lits) none = rw (none l) (sym (and_false (every (map (eval_of h) (known_in lits)))))

  lits_cong : (t u : Truth) (steps : List Step) (l : ℕ) (lits : List (Lit P)) → ((k : ℕ) → t steps k ≡ u steps k) → lits_hold h t steps l lits ≡ lits_hold h u steps l lits
  lits_cong t u steps l [] e = refl
  lits_cong t u steps l (Lit.Known neg x ∷ lits) e = rw (lits_cong t u steps (l + 1) lits e) refl
  lits_cong t u steps l (Lit.Unknown text ∷ lits) e = rw (e l, lits_cong t u steps (l + 1) lits e) refl

row_same : (f g : ℕ → Outcome) (x y : Outcome) → x ≡ y → (what : ActionKind) → ((c : ℕ) → target_in what ≡ Some c → f c ≡ g c) → best_row f x false what ≡ best_row g y false what
row_same f g x y e GoodVerdict q = refl
row_same f g x y e BadVerdict q = refl
row_same f g x y e GoOn q = e
row_same f g x y e GoBack q = refl
row_same f g x y e (CallTo c) q = rw (q c refl, e) refl
row_same f g x y e (GoTo c) q = q c refl

pub row_if : (b b' : Bool) (f g : ℕ → Outcome) (x y : Outcome) → b ≡ b' → x ≡ y → (what : ActionKind) → ((c : ℕ) → target_in what ≡ Some c → f c ≡ g c) →
    (if b then best_row f x false what else x) ≡ (if b' then best_row g y false what else y)
row_if true true f g x y q e what r = row_same f g x y e what r
row_if true false f g x y q e what r = absurd (true≢false q)
row_if false true f g x y q e what r = absurd (true≢false (sym q))
row_if false false f g x y q e what r = e

-- truths that agree below the asked chain
abbrev pub Agree : Truth → Truth → Type 0
Agree t u = (s : Step) (steps : List Step) (l : ℕ) → t (s ∷ steps) l ≡ u (s ∷ steps) l

module _ {P : Type 0} (side : Side) (h : P → Bool) where
  -- an outcome depends on the places further on alone
  rules_cong : (callee : ℕ → Truth → Outcome) → ((c : ℕ) (t u : Truth) → Agree t u → callee c t ≡ callee c u) →
      (c n : ℕ) (t u : Truth) (rules : List (Rule P)) → ((j : ℕ) (steps : List Step) (l : ℕ) → n ≤ j → t (step_of c j ∷ steps) l ≡ u (step_of c j ∷ steps) l) →
      walked_rules side h callee c n t rules ≡ walked_rules side h callee c n u rules
  rules_cong callee hc c n t u [] e = refl
  rules_cong callee hc c n t u (rule ∷ rules) e =
      row_if (lits_hold h t (step_of c n ∷ []) 0 rule.lits) (lits_hold h u (step_of c n ∷ []) 0 rule.lits)
      (λ k. callee k (under (step_of c n) t)) (λ k. callee k (under (step_of c n) u))
      (walked_rules side h callee c (n + 1) t rules) (walked_rules side h callee c (n + 1) u rules)
      (lits_cong h t u (step_of c n ∷ []) 0 rule.lits (λ k. e n [] k (omega arith)))
      (rules_cong callee hc c (n + 1) t u rules (λ j steps l g. e j steps l (omega arith))) (kind side rule.action)
      (λ k q. hc k (under (step_of c n) t) (under (step_of c n) u) (λ s steps l. e n (s ∷ steps) l (omega arith)))

  pub walked_cong : (dump : Dump P) (depth c : ℕ) (t u : Truth) → Agree t u → walked side h dump depth c t ≡ walked side h dump depth c u
  walked_cong dump zero c t u e = refl
  walked_cong dump (suc depth) c t u e = rules_cong (walked side h dump depth) (walked_cong dump depth) c 0 t u (rules_of dump c) (λ j steps l g. e (step_of c j) steps l)

-- whether a doubtful goto is to match, by what its chain and the rest can come to
abbrev takes : Outcome → Outcome → Bool
takes Good r = true
takes Ends Good = false
takes Ends Ends = true
takes Ends Bad = true
takes Bad r = false

took : (a r : Outcome) → (if takes a r then a else r) ≡ better a r
took Good r = refl
took Ends Good = refl
took Ends Ends = refl
took Ends Bad = refl
took Bad r = refl

-- whether a doubtful rule is to match, by what its callee and the rest can come to
abbrev choice : (ℕ → Outcome) → Outcome → ActionKind → Bool
choice f r GoodVerdict = true
choice f r BadVerdict = false
choice f r GoOn = false
choice f Good GoBack = false
choice f Ends GoBack = true
choice f Bad GoBack = true
choice f r (GoTo c) = takes (f c) r
choice f r (CallTo c) = is_good (f c)
  where
    is_good : Outcome → Bool
    is_good Good = true
    is_good Ends = false
    is_good Bad = false

choice_right : (f : ℕ → Outcome) (r : Outcome) (what : ActionKind) (k d : Bool) →
    (if k && (not d || choice f r what) then best_row f r false what else r) ≡ (if k then best_row f r d what else r)
choice_right f r what false d = refl
choice_right f r what true false = refl
choice_right f r GoodVerdict true true = refl
choice_right f r BadVerdict true true = refl
choice_right f r GoOn true true = refl
choice_right f Good GoBack true true = refl
choice_right f Ends GoBack true true = refl
choice_right f Bad GoBack true true = refl
choice_right f r (GoTo c) true true = took (f c) r
choice_right f r (CallTo c) true true = by (f c) refl
  where
    by : (o : Outcome) → f c ≡ o → (if choice f r (CallTo c) then then_rest (f c) r else r) ≡ or_rest (f c) r
    by Good e = rw e refl
    by Ends e = rw e refl
    by Bad e = rw e refl

abbrev marked : {P : Type 0} → Bool → Step → List (Lit P) → Meaning
marked true s lits = places s 0 lits
marked false s lits = []

or_nothing : (a : Bool) → (a || false) ≡ a
or_nothing true = refl
or_nothing false = refl

three : (a b c : Meaning) (steps : List Step) (l : ℕ) (x y z : Bool) → truth_of a steps l ≡ x → truth_of b steps l ≡ y → truth_of c steps l ≡ z →
    truth_of (a ++ (b ++ c)) steps l ≡ (x || (y || z))
three a b c steps l x y z p q r = truth_append a (b ++ c) steps l ∙ rw (p, truth_append b c steps l) (rw (q, r) refl)

-- a meaning of a rule, of the chain that it calls or goes to and of the rules behind it
module _ {P : Type 0} (h : P → Bool) (c n : ℕ) (rule : Rule P) (m1 m2 : Meaning) (b : Bool)
    (none1 : (l : ℕ) → truth_of m1 [] l ≡ false) (none2 : (l : ℕ) → truth_of m2 [] l ≡ false)
    (later2 : (j : ℕ) (steps : List Step) (l : ℕ) → j < n + 1 → truth_of m2 (step_of c j ∷ steps) l ≡ false) where
  abbrev joined : Meaning
  joined = marked b (step_of c n) rule.lits ++ (below (step_of c n) m1 ++ m2)

  marked_here : (d : Bool) (l : ℕ) → truth_of (marked d (step_of c n) rule.lits) [] l ≡ false
  marked_here true l = places_here (step_of c n) 0 rule.lits l
  marked_here false l = refl

  marked_deep : (d : Bool) (r : Step) (steps : List Step) (l : ℕ) → truth_of (marked d (step_of c n) rule.lits) (step_of c n ∷ r ∷ steps) l ≡ false
  marked_deep true r steps l = places_deep (step_of c n) 0 rule.lits (step_of c n) r steps l
  marked_deep false r steps l = refl

  marked_other : (d : Bool) (r : Step) (steps : List Step) (l : ℕ) → same_step r (step_of c n) ≡ false → truth_of (marked d (step_of c n) rule.lits) (r ∷ steps) l ≡ false
  marked_other true r steps l e = places_other (step_of c n) 0 rule.lits r steps l e
  marked_other false r steps l e = refl

  joined_here : (l : ℕ) → truth_of joined [] l ≡ false
  joined_here l = three (marked b (step_of c n) rule.lits) (below (step_of c n) m1) m2 [] l false false false (marked_here b l) (below_here (step_of c n) m1 l) (none2 l)

  joined_deep : (r : Step) (steps : List Step) (l : ℕ) → truth_of joined (step_of c n ∷ r ∷ steps) l ≡ truth_of m1 (r ∷ steps) l
  joined_deep r steps l =
      three (marked b (step_of c n) rule.lits) (below (step_of c n) m1) m2 (step_of c n ∷ r ∷ steps) l false (truth_of m1 (r ∷ steps) l) false
      (marked_deep b r steps l) (below_is (step_of c n) (step_of c n) m1 (r ∷ steps) l ∙ rw (same_refl (step_of c n)) refl)
      (later2 n (r ∷ steps) l (omega arith)) ∙ or_nothing (truth_of m1 (r ∷ steps) l)

  joined_other : (r : Step) (steps : List Step) (l : ℕ) → same_step r (step_of c n) ≡ false → truth_of joined (r ∷ steps) l ≡ truth_of m2 (r ∷ steps) l
  joined_other r steps l e =
      three (marked b (step_of c n) rule.lits) (below (step_of c n) m1) m2 (r ∷ steps) l false false (truth_of m2 (r ∷ steps) l)
      (marked_other b r steps l e) (below_is (step_of c n) r m1 steps l ∙ rw e refl) refl

  unmarked : b ≡ false → (l : ℕ) → truth_of joined (step_of c n ∷ []) l ≡ false
  unmarked e l =
      three (marked b (step_of c n) rule.lits) (below (step_of c n) m1) m2 (step_of c n ∷ []) l false false false
      (rw e refl) (below_is (step_of c n) (step_of c n) m1 [] l ∙ rw (none1 l) (and_false (same_step (step_of c n) (step_of c n)))) (later2 n [] l (omega arith))

  joined_marked : b ≡ true → (l : ℕ) → truth_of (places (step_of c n) 0 rule.lits) (step_of c n ∷ []) l ≡ true → truth_of joined (step_of c n ∷ []) l ≡ true
  joined_marked e l t = rw e (truth_append (places (step_of c n) 0 rule.lits) (below (step_of c n) m1 ++ m2) (step_of c n ∷ []) l ∙ rw t refl)

  -- the rule matches where its known literals hold and it is sure or chosen
  joined_match : lits_hold h (truth_of joined) (step_of c n ∷ []) 0 rule.lits ≡ (eval_of h (known_of rule) && (not (doubt_in rule.lits) || b))
  joined_match = by b refl
    where
      by : (d : Bool) → b ≡ d → lits_hold h (truth_of joined) (step_of c n ∷ []) 0 rule.lits ≡ (eval_of h (known_of rule) && (not (doubt_in rule.lits) || b))
      by true e = chosen h (truth_of joined) (step_of c n) 0 rule.lits (joined_marked e) ∙ sym (eval-All h (known_in rule.lits)) ∙ rw e (always (eval_of h (known_of rule)) (not (doubt_in rule.lits)))
        where
          always : (x y : Bool) → x ≡ (x && (y || true))
          always true true = refl
          always true false = refl
          always false y = refl
      by false e = left_out h (truth_of joined) (step_of c n) 0 rule.lits (unmarked e)
          ∙ rw (← eval-All h (known_in rule.lits), e) (ap (λ (z : Bool). eval_of h (known_of rule) && z) (sym (or_nothing (not (doubt_in rule.lits)))))

-- a meaning under which a chain comes to its best
abbrev pub Tight : (Truth → Outcome) → Outcome → Type 0
Tight comes o = (m : Meaning) × ((l : ℕ) → truth_of m [] l ≡ false) × (comes (truth_of m) ≡ o)

-- of a rule: a meaning of the chain that it calls or goes to, if there is one
abbrev Below : (ℕ → Truth → Outcome) → (ℕ → Outcome) → ActionKind → Type 0
Below callee best_callee what = (m : Meaning) × ((l : ℕ) → truth_of m [] l ≡ false) × ((k : ℕ) → target_in what ≡ Some k → callee k (truth_of m) ≡ best_callee k)

of_kind : (callee : ℕ → Truth → Outcome) (best_callee : ℕ → Outcome) → ((k : ℕ) → Tight (callee k) (best_callee k)) → (what : ActionKind) → Below callee best_callee what
of_kind callee best_callee hc GoodVerdict = ([], λ l. refl, λ k e. cc)
of_kind callee best_callee hc BadVerdict = ([], λ l. refl, λ k e. cc)
of_kind callee best_callee hc GoOn = ([], λ l. refl, λ k e. cc)
of_kind callee best_callee hc GoBack = ([], λ l. refl, λ k e. cc)
of_kind callee best_callee hc (CallTo c) = ((hc c).0, (hc c).1, λ k e. subst (λ (z : ℕ). callee z (truth_of (hc c).0) ≡ best_callee z) (same_Some c k e) (hc c).2)
of_kind callee best_callee hc (GoTo c) = ((hc c).0, (hc c).1, λ k e. subst (λ (z : ℕ). callee z (truth_of (hc c).0) ≡ best_callee z) (same_Some c k e) (hc c).2)

module _ {P : Type 0} (side : Side) (h : P → Bool) (callee : ℕ → Truth → Outcome) (best_callee : ℕ → Outcome)
    (hcong : (c : ℕ) (t u : Truth) → Agree t u → callee c t ≡ callee c u) (hc : (k : ℕ) → Tight (callee k) (best_callee k)) where
  -- a meaning under which the rules from `n` on come to their best; it has no place of an earlier rule
  abbrev TightFrom : ℕ → ℕ → List (Rule P) → Type 0
  TightFrom c n rules = (m : Meaning) × ((l : ℕ) → truth_of m [] l ≡ false)
      × ((j : ℕ) (steps : List Step) (l : ℕ) → j < n → truth_of m (step_of c j ∷ steps) l ≡ false)
      × (walked_rules side h callee c n (truth_of m) rules ≡ best_rules side h best_callee rules)

  one_rule : (c n : ℕ) (rule : Rule P) (rules : List (Rule P)) → Below callee best_callee (kind side rule.action) → TightFrom c (n + 1) rules → TightFrom c n (rule ∷ rules)
  one_rule c n rule rules below_it rest =
      let b = choice best_callee (best_rules side h best_callee rules) (kind side rule.action) in
      let m = joined h c n rule below_it.0 rest.0 b below_it.1 rest.1 rest.2 in
      let matched : lits_hold h (truth_of m) (step_of c n ∷ []) 0 rule.lits ≡ (eval_of h (known_of rule) && (not (doubt_in rule.lits) || b)) =
      joined_match h c n rule below_it.0 rest.0 b below_it.1 rest.1 rest.2 in
      let behind : walked_rules side h callee c (n + 1) (truth_of m) rules ≡ best_rules side h best_callee rules =
      rules_cong side h callee hcong c (n + 1) (truth_of m) (truth_of rest.0) rules
      (λ j steps l g. joined_other h c n rule below_it.0 rest.0 b below_it.1 rest.1 rest.2 (step_of c j) steps l (step_other c n j (omega arith))) ∙ rest.3 in (
        m,
        λ l. joined_here h c n rule below_it.0 rest.0 b below_it.1 rest.1 rest.2 l,
        λ j steps l g. joined_other h c n rule below_it.0 rest.0 b below_it.1 rest.1 rest.2 (step_of c j) steps l (other_step c j n g) ∙ rest.2 j steps l (omega arith),
        row_if (lits_hold h (truth_of m) (step_of c n ∷ []) 0 rule.lits) (eval_of h (known_of rule) && (not (doubt_in rule.lits) || b))
            (λ k. callee k (under (step_of c n) (truth_of m))) best_callee
            (walked_rules side h callee c (n + 1) (truth_of m) rules) (best_rules side h best_callee rules) matched behind (kind side rule.action)
            (λ k e. hcong k (under (step_of c n) (truth_of m)) (truth_of below_it.0) (λ r steps l. joined_deep h c n rule below_it.0 rest.0 b below_it.1 rest.1 rest.2 r steps l) ∙ below_it.2 k e)
            ∙ choice_right best_callee (best_rules side h best_callee rules) (kind side rule.action) (eval_of h (known_of rule)) (doubt_in rule.lits),
      )

  rules_tight : (c n : ℕ) (rules : List (Rule P)) → TightFrom c n rules
  rules_tight c n [] = ([], λ l. refl, λ j steps l g. refl, refl)
  rules_tight c n (rule ∷ rules) = one_rule c n rule rules (of_kind callee best_callee hc (kind side rule.action)) (rules_tight c (n + 1) rules)

module _ {P : Type 0} (side : Side) (h : P → Bool) where
  -- some meaning's walk comes to the best
  pub walk_tight : (dump : Dump P) (depth c : ℕ) → Tight (walked side h dump depth c) (best side h dump depth c)
  walk_tight dump zero c = ([], λ l. refl, refl)
  walk_tight dump (suc depth) c =
      let r = rules_tight side h (walked side h dump depth) (best side h dump depth) (walked_cong side h dump depth) (walk_tight dump depth) c 0 (rules_of dump c) in
      (r.0, r.1, r.3)
