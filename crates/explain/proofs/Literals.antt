-- What the literals of a rule have to do with its known part.
use Rattle.std.specs.Prelude.{ℕ, suc, ◌+◌, ◌<◌, ◌≡◌, Bool, true, false, ◌&&◌, if◌then◌else◌, List, [], ◌∷◌, ◌++◌, map, length, drop, get_or, refl}
use Rattle.std.proofs.Common.{sym, ap, ◌∙◌, true≢false, add-one, drop-cons}
use Rattle.std.specs.List.{list_any}
use Rattle.std.proofs.lemmas.List.Folds.{list_any-append}
use Rattle.basics.proofs.Truths.{and_false, or_left, or_right}
use Rattle.match_expr.specs.Meaning.{eval_of, every}
use Rattle.match_expr.specs.declared.expr.Expr.{Expr}
use Rattle.match_expr.specs.declared.expr.Expr.TheVariants.{Not}
use Rattle.match_expr.proofs.Equations.{eval-All, eval-Not}
use Rattle.fw_rule.specs.declared.rule.Lit.{Lit}
use Rattle.fw_rule.specs.declared.rule.Rule.{Rule}
use Rattle.fw_rule.specs.declared.rule.Place.{Place}
use Rattle.fw_rule.specs.Walk.{Path, Meaning, same_place, known_holds, literals_hold, known_in, known_of, doubt_in}
use Rattle.fw_laws.proofs.SamePlace.{same_itself}
use Rattle.explain.specs.Choices.{unknown_places}
use Rattle.explain.specs.inner.Reaching.{may_hold}

-- whether a meaning has the place of a literal
abbrev pub has_place : Path → ℕ → Meaning → Bool
has_place path l m = list_any (same_place (record { steps = path; lit = l })) m

-- what the middle of three meanings has, all have
pub in_middle : (a b c : Meaning) (path : Path) (l : ℕ) → has_place path l b ≡ true → has_place path l (a ++ (b ++ c)) ≡ true
in_middle a b c path l e =
    let test = same_place (record { steps = path; lit = l }) in
    list_any-append test a (b ++ c) ∙ or_right (list_any test a) (list_any test (b ++ c)) (list_any-append test b c ∙ or_left (list_any test b) (list_any test c) e)

module _ {P Packet : Type 0} (holds : P → Packet → Bool) (p : Packet) where
  abbrev h : P → Bool
  h = λ x. holds x p

  part : (neg : Bool) (e : Expr P) → eval_of h (if neg then Not e else e) ≡ known_holds holds p neg e
  part true e = eval-Not h e
  part false e = refl

  -- whether the known ones among these literals hold
  abbrev pub known_hold : List (Lit P) → Bool
  known_hold lits = every (map (eval_of h) (known_in lits))

  pub known_is : (rule : Rule P) → eval_of h (known_of rule) ≡ known_hold rule.lits
  known_is rule = eval-All h (known_in rule.lits)

  pub known_first : (neg : Bool) (e : Expr P) (lits : List (Lit P)) → known_hold (Lit.Known neg e ∷ lits) ≡ (known_holds holds p neg e && known_hold lits)
  known_first neg e lits = rw (part neg e) refl

  pub known_more : (lit : Lit P) (lits : List (Lit P)) → known_hold (lit ∷ lits) ≡ (may_hold holds p lit && known_hold lits)
  known_more (Lit.Known neg e) lits = known_first neg e lits
  known_more (Lit.Unknown text) lits = refl

  -- a literal that fails, and one that may hold
  pub one_fails : (lit : Lit P) (lits : List (Lit P)) → may_hold holds p lit ≡ false → known_hold (lit ∷ lits) ≡ false
  one_fails lit lits e = known_more lit lits ∙ ap (λ (b : Bool). b && known_hold lits) e

  pub one_holds : (lit : Lit P) (lits : List (Lit P)) → may_hold holds p lit ≡ true → known_hold lits ≡ known_hold (lit ∷ lits)
  one_holds lit lits e = sym (known_more lit lits ∙ ap (λ (b : Bool). b && known_hold lits) e)

  module _ (m : Meaning) (path : Path) where
    -- where none of them is unknown
    pub sure : (l : ℕ) (lits : List (Lit P)) → doubt_in lits ≡ false → literals_hold holds p m path l lits ≡ known_hold lits
    sure l [] d = refl
    sure l (Lit.Known neg e ∷ lits) d = ap (λ (b : Bool). known_holds holds p neg e && b) (sure (l + 1) lits d) ∙ sym (known_first neg e lits)
    sure l (Lit.Unknown text ∷ lits) d = absurd (true≢false d)

    -- where a known one fails
    pub failing : (l : ℕ) (lits : List (Lit P)) → known_hold lits ≡ false → literals_hold holds p m path l lits ≡ false
    failing l [] k = absurd (true≢false k)
    failing l (Lit.Known neg e ∷ lits) k = by (known_holds holds p neg e) (λ r. failing (l + 1) lits r) (sym (known_first neg e lits) ∙ k)
      where
        by : (b : Bool) → (known_hold lits ≡ false → literals_hold holds p m path (l + 1) lits ≡ false) → (b && known_hold lits) ≡ false → (b && literals_hold holds p m path (l + 1) lits) ≡ false
        by true rest q = rest q
        by false rest q = refl
    failing l (Lit.Unknown text ∷ lits) k = ap (λ (b : Bool). has_place path l m && b) (failing (l + 1) lits k) ∙ and_false (has_place path l m)

    -- where an unknown one has no place in the meaning
    pub passed_over : (l : ℕ) (lits : List (Lit P)) → ((i : ℕ) → has_place path i m ≡ false) → doubt_in lits ≡ true → literals_hold holds p m path l lits ≡ false
    passed_over l [] none d = absurd (true≢false (sym d))
    passed_over l (Lit.Known neg e ∷ lits) none d =
        ap (λ (b : Bool). known_holds holds p neg e && b) (passed_over (l + 1) lits none d) ∙ and_false (known_holds holds p neg e)
    passed_over l (Lit.Unknown text ∷ lits) none d = ap (λ (b : Bool). b && literals_hold holds p m path (l + 1) lits) (none l)

    -- where the known ones hold and each unknown one has a place in the meaning
    pub taken : (l : ℕ) (lits : List (Lit P)) → ((i : ℕ) → has_place path i (unknown_places path l lits) ≡ true → has_place path i m ≡ true) → known_hold lits ≡ true →
        literals_hold holds p m path l lits ≡ true
    taken l [] up k = refl
    taken l (Lit.Known neg e ∷ lits) up k = by (known_holds holds p neg e) (λ r. taken (l + 1) lits up r) (sym (known_first neg e lits) ∙ k)
      where
        by : (b : Bool) → (known_hold lits ≡ true → literals_hold holds p m path (l + 1) lits ≡ true) → (b && known_hold lits) ≡ true → (b && literals_hold holds p m path (l + 1) lits) ≡ true
        by true rest q = rest q
        by false rest q = absurd (true≢false (sym q))
    taken l (Lit.Unknown text ∷ lits) up k =
        let place : Place = record { steps = path; lit = l } in
        let first : has_place path l m ≡ true = up l (or_left (same_place place place) (has_place path l (unknown_places path (l + 1) lits)) (same_itself place)) in
        let rest = taken (l + 1) lits (λ i e. up i (or_right (same_place (record { steps = path; lit = i }) place) (has_place path i (unknown_places path (l + 1) lits)) e)) k in
        ap (λ (b : Bool). b && literals_hold holds p m path (l + 1) lits) first ∙ rest

-- the literals from one on
pub drop_lit : {P : Type 0} (lits : List (Lit P)) (i : ℕ) (lit : Lit P) → i < length lits → lit ≡ get_or lits i lit → drop i lits ≡ lit ∷ drop (i + 1) lits
drop_lit lits i lit h is = rw (add-one, drop-cons lits i lit) (ap (λ (z : Lit _). z ∷ drop (suc i) lits) (sym is))
