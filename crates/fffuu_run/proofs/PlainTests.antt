-- What is hidden of plain literals whose tests are replaced.
use Rattle.std.proofs.Common.{◌≡◌, ◌∙◌, ◌⊎◌, ◌^◌, ◌&&◌, ◌||◌, ℕ, Bool, true, false, not, if◌then◌else◌, List, [], ◌∷◌, refl, sym, ap, ap₂, subst, map, inl, inr}
use Rattle.interval_set.specs.declared.set.Range.{Range}
use Rattle.interval_set.specs.Numbers.{has}
use Rattle.interval_set.specs.Spelling.{ranges_where}
use Rattle.match_expr.specs.declared.expr.Expr.{Expr}
use Rattle.match_expr.specs.declared.expr.Expr.TheOpen.{Expr-F}
use Rattle.match_expr.specs.declared.expr.Expr.TheFolds.{fold-roll-Expr}
use Rattle.match_expr.specs.declared.expr.Expr.TheVariants.{All, Not, Prim, rolls-All, rolls-Not, rolls-Prim}
use Rattle.match_expr.specs.Meaning.{eval_of}
use Rattle.match_expr.proofs.Equations.{eval-All, eval-Not, eval-Prim}
use Rattle.primitives.specs.Holds.{holds_of}
use Rattle.primitives.specs.declared.prim.Packet.{Packet}
use Rattle.primitives.specs.declared.prim.Prim_.{Prim_}
use Rattle.fw_rule.specs.declared.rule.Lit.{Lit}
use Rattle.fw_rule.specs.declared.rule.Place.{Place}
use Rattle.fw_rule.specs.Walk.{Meaning, hidden_literal, literal_holds}
use Rattle.dump_grammar.specs.Arguments.{either_port}
use Rattle.iface_space.specs.Replaced.{replaced_expr, replaced_literal}
use Rattle.simple_filter.specs.Hidden.{in_level, some_of, stands_in, is_name}
use Rattle.fffuu_run.specs.inner.Plain.{IsPlain, IsPlainLiteral}

module _ {P : Type 0} (is : P → Bool) where
  stands-Prim : (x : P) → stands_in is (Prim x) ≡ is x
  stands-Prim x = ap (stands_in is) (sym (rolls-Prim x)) ∙ fold-roll-Expr P Bool (in_level is) (Expr-F.Prim x)

  stands-Not : (e : Expr P) → stands_in is (Not e) ≡ stands_in is e
  stands-Not e = ap (stands_in is) (sym (rolls-Not e)) ∙ fold-roll-Expr P Bool (in_level is) (Expr-F.Not e)

  stands-All : (es : List (Expr P)) → stands_in is (All es) ≡ some_of (map (stands_in is) es)
  stands-All es = ap (stands_in is) (sym (rolls-All es)) ∙ fold-roll-Expr P Bool (in_level is) (Expr-F.All es)

  stands-either : (a b : P) → stands_in is (Not (All (Not (Prim a) ∷ Not (Prim b) ∷ []))) ≡ (is a || (is b || false))
  stands-either a b = stands-Not (All (Not (Prim a) ∷ Not (Prim b) ∷ [])) ∙ stands-All (Not (Prim a) ∷ Not (Prim b) ∷ [])
      ∙ ap (λ (t : Bool). t || (stands_in is (Not (Prim b)) || false)) (stands-Not (Prim a) ∙ stands-Prim a)
      ∙ ap (λ (t : Bool). is a || (t || false)) (stands-Not (Prim b) ∙ stands-Prim b)

eval-either : {P : Type 0} (h : P → Bool) (a b : P) → eval_of h (Not (All (Not (Prim a) ∷ Not (Prim b) ∷ []))) ≡ not (not (h a) && (not (h b) && true))
eval-either h a b = eval-Not h (All (Not (Prim a) ∷ Not (Prim b) ∷ [])) ∙ ap not (eval-All h (Not (Prim a) ∷ Not (Prim b) ∷ [])
    ∙ ap (λ (t : Bool). t && (eval_of h (Not (Prim b)) && true)) (eval-Not h (Prim a) ∙ ap not (eval-Prim h a))
    ∙ ap (λ (t : Bool). not (h a) && (t && true)) (eval-Not h (Prim b) ∙ ap not (eval-Prim h b)))

module _ {W : ℕ} where
  -- tests of ports are none of names
  abbrev pub NoPorts : (Prim_ W → Bool) → Type 0
  NoPorts is = (n : ℕ) (rs : List Range) → stands_in is (either_port {W = W} n rs) ≡ false

  pub no_ports : (is : Prim_ W → Bool) → ((n : ℕ) (rs : List Range) → is (Prim_.SrcPorts (record { proto = n; set = rs })) ≡ false)
      → ((n : ℕ) (rs : List Range) → is (Prim_.DstPorts (record { proto = n; set = rs })) ≡ false) → NoPorts is
  no_ports is none nor n rs =
      let set = ranges_where (has rs) (2 ^ 16) in
      stands-either is (Prim_.SrcPorts (record { proto = n; set = set })) (Prim_.DstPorts (record { proto = n; set = set }))
      ∙ ap₂ (λ (s t : Bool). s || (t || false)) (none n set) (nor n set)

  hide_some : (is : Prim_ W → Bool) (neg : Bool) (e : Expr (Prim_ W)) → stands_in is e ≡ true → hidden_literal (stands_in is) (Lit.Known neg e) ≡ Lit.Unknown []
  hide_some is neg e found = ap (λ (b : Bool). if b then Lit.Unknown [] else Lit.Known neg e) found

  hide_none : (is : Prim_ W → Bool) (neg : Bool) (e : Expr (Prim_ W)) → stands_in is e ≡ false → hidden_literal (stands_in is) (Lit.Known neg e) ≡ Lit.Known neg e
  hide_none is neg e lacks = ap (λ (b : Bool). if b then Lit.Unknown [] else Lit.Known neg e) lacks

  -- the test that stands in place of another is hidden where that is, or else both hold of the packet or neither does
  abbrev pub AlikeTest : (Prim_ W → Prim_ W) → (Prim_ W → Bool) → Packet → Prim_ W → Type 0
  AlikeTest image is p x = ((is_name (image x) ≡ true) × (is x ≡ true))
      ⊎ ((is_name (image x) ≡ false) × (is x ≡ false) × (holds_of (image x) p ≡ holds_of x p))

  module _ (image : Prim_ W → Prim_ W) (is : Prim_ W → Bool) (ports : NoPorts is) (p : Packet) (alike : (x : Prim_ W) → AlikeTest image is p x)
      (m : Meaning) (place : Place) where
    abbrev Same : Lit (Prim_ W) → Type 0
    Same lit = literal_holds holds_of p m place (hidden_literal (stands_in is_name) (replaced_literal image lit))
        ≡ literal_holds holds_of p m place (hidden_literal (stands_in is) lit)

    one_test : (neg : Bool) (x : Prim_ W) → AlikeTest image is p x → Same (Lit.Known neg (Prim x))
    one_test neg x (inl (there, here)) =
        ap (literal_holds holds_of p m place) (hide_some is_name neg (Prim (image x)) (stands-Prim is_name (image x) ∙ there)
        ∙ sym (hide_some is neg (Prim x) (stands-Prim is x ∙ here)))
    one_test neg x (inr (there, here, same)) =
        ap (literal_holds holds_of p m place) (hide_none is_name neg (Prim (image x)) (stands-Prim is_name (image x) ∙ there))
        ∙ ap (λ (b : Bool). if neg then not b else b) (eval-Prim (λ y. holds_of y p) (image x) ∙ same ∙ sym (eval-Prim (λ y. holds_of y p) x))
        ∙ ap (literal_holds holds_of p m place) (sym (hide_none is neg (Prim x) (stands-Prim is x ∙ here)))

    two_ports : (neg : Bool) (n : ℕ) (rs : List Range) → Same (Lit.Known neg (either_port n rs))
    two_ports neg n rs =
        ap (literal_holds holds_of p m place) (hide_none is_name neg (either_port n rs) (stands-either is_name _ _)
        ∙ sym (hide_none is neg (either_port n rs) (ports n rs)))

    pub literal_same : (lit : Lit (Prim_ W)) → IsPlainLiteral lit → Same lit
    literal_same (Lit.Known neg e) (inl (x, is_x)) = subst (λ (z : Expr (Prim_ W)). Same (Lit.Known neg z)) (sym is_x) (one_test neg x (alike x))
    literal_same (Lit.Known neg e) (inr (n, rs, is_e)) = subst (λ (z : Expr (Prim_ W)). Same (Lit.Known neg z)) (sym is_e) (two_ports neg n rs)
    literal_same (Lit.Unknown text) plain = refl

  -- a replaced test that is replaced again
  pub replaced_twice : (f g : Prim_ W → Prim_ W) (lit : Lit (Prim_ W)) → replaced_literal f (replaced_literal g lit) ≡ replaced_literal (λ x. f (g x)) lit
  replaced_twice f g (Lit.Known neg expr) = ap (Lit.Known neg) (by_expr expr)
    where
      by_expr : (e : Expr (Prim_ W)) → replaced_expr f (replaced_expr g e) ≡ replaced_expr (λ x. f (g x)) e
      by_expr (Expr.Prim test) = refl
      by_expr e = refl
  replaced_twice f g (Lit.Unknown text) = refl

  -- Packets of which all tests but those of names say the same: so does what is left of a plain literal.
  module _ (image : Prim_ W → Prim_ W) (p q : Packet) (same : (x : Prim_ W) → is_name x ≡ false → holds_of x p ≡ holds_of x q) where
    left_alike : (neg neg' : Bool) (e expr : Expr (Prim_ W)) → IsPlain e → hidden_literal (stands_in is_name) (replaced_literal image (Lit.Known neg e)) ≡ Lit.Known neg' expr
        → eval_of (λ x. holds_of x p) expr ≡ eval_of (λ x. holds_of x q) expr
    left_alike neg neg' e expr (inl (x, is_x)) left = by_test (is_name (image x)) refl
        (subst (λ (z : Expr (Prim_ W)). hidden_literal (stands_in is_name) (replaced_literal image (Lit.Known neg z)) ≡ Lit.Known neg' expr) is_x left)
      where
        by_test : (b : Bool) → is_name (image x) ≡ b → hidden_literal (stands_in is_name) (Lit.Known neg (Prim (image x))) ≡ Lit.Known neg' expr
            → eval_of (λ x. holds_of x p) expr ≡ eval_of (λ x. holds_of x q) expr
        by_test true h there =
            let e : Lit.Unknown [] ≡ Lit.Known neg' expr = sym (hide_some is_name neg (Prim (image x)) (stands-Prim is_name (image x) ∙ h)) ∙ there in absurd (cc)
        by_test false h there =
            let e : Lit.Known neg (Prim (image x)) ≡ Lit.Known neg' expr = sym (hide_none is_name neg (Prim (image x)) (stands-Prim is_name (image x) ∙ h)) ∙ there in
            let is : Prim (image x) ≡ expr = cc in
            subst (λ (z : Expr (Prim_ W)). eval_of (λ x. holds_of x p) z ≡ eval_of (λ x. holds_of x q) z) is
            (eval-Prim (λ y. holds_of y p) (image x) ∙ same (image x) h ∙ sym (eval-Prim (λ y. holds_of y q) (image x)))
    left_alike neg neg' e expr (inr (n, rs, is_e)) left =
        let there : hidden_literal (stands_in is_name) (Lit.Known neg (either_port n rs)) ≡ Lit.Known neg' expr =
        subst (λ (z : Expr (Prim_ W)). hidden_literal (stands_in is_name) (replaced_literal image (Lit.Known neg z)) ≡ Lit.Known neg' expr) is_e left in
        let e : Lit.Known neg (either_port n rs) ≡ Lit.Known neg' expr = sym (hide_none is_name neg (either_port n rs) (stands-either is_name _ _)) ∙ there in
        let is : either_port n rs ≡ expr = cc in
        let a : Prim_ W = Prim_.SrcPorts (record { proto = n; set = ranges_where (has rs) (2 ^ 16) }) in
        let b : Prim_ W = Prim_.DstPorts (record { proto = n; set = ranges_where (has rs) (2 ^ 16) }) in
        subst (λ (z : Expr (Prim_ W)). eval_of (λ x. holds_of x p) z ≡ eval_of (λ x. holds_of x q) z) is
        (eval-either (λ y. holds_of y p) a b ∙ ap₂ (λ (s t : Bool). not (not s && (not t && true))) (same a refl) (same b refl) ∙ sym (eval-either (λ y. holds_of y q) a b))

    pub known_alike : (neg' : Bool) (expr : Expr (Prim_ W)) (lit : Lit (Prim_ W)) → IsPlainLiteral lit → hidden_literal (stands_in is_name) (replaced_literal image lit) ≡ Lit.Known neg' expr
        → eval_of (λ x. holds_of x p) expr ≡ eval_of (λ x. holds_of x q) expr
    known_alike neg' expr (Lit.Known neg e) plain left = left_alike neg neg' e expr plain left
    known_alike neg' expr (Lit.Unknown text) plain left = absurd (cc)

  -- where no test is hidden, a plain literal stays
  pub nothing_hidden : (lit : Lit (Prim_ W)) → IsPlainLiteral lit → hidden_literal (stands_in (λ x. false)) lit ≡ lit
  nothing_hidden (Lit.Known neg e) (inl (x, is_x)) = subst (λ (z : Expr (Prim_ W)). hidden_literal (stands_in (λ x. false)) (Lit.Known neg z) ≡ Lit.Known neg z) (sym is_x)
      (hide_none (λ x. false) neg (Prim x) (stands-Prim (λ x. false) x))
  nothing_hidden (Lit.Known neg e) (inr (n, rs, is_e)) = subst (λ (z : Expr (Prim_ W)). hidden_literal (stands_in (λ x. false)) (Lit.Known neg z) ≡ Lit.Known neg z) (sym is_e)
      (hide_none (λ x. false) neg (either_port n rs) (no_ports (λ x. false) (λ n rs. refl) (λ n rs. refl) n rs))
  nothing_hidden (Lit.Unknown text) plain = refl
