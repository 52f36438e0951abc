-- The ways from one place of a tree to another, as the code goes them.
use Rattle.std.proofs.Common.{◌≡◌, ℕ, ◌+◌, ◌-◌, ◌<◌, ◌≤◌, Bool, true, false, not, List, [], ◌∷◌, ◌++◌, drop, Some, slice_get, inl, inr, refl, sym, ◌∙◌, ap, subst, arith, true≢false, append_assoc, append-nil}
use Rattle.std.proofs.lemmas.Bool.{cases_lt}
use Rattle.match_expr.specs.declared.expr.Expr.{Expr}
use Rattle.match_expr.specs.declared.expr.Expr.TheVariants.{All, Not}
use Rattle.fw_rule.specs.declared.rule.Rule.{Rule}
use Rattle.fw_rule.specs.declared.rule.Dump.{Dump}
use Rattle.fw_rule.specs.Matching.{known_of, doubt_in}
use Rattle.closure.specs.declared.cutting.Needs.{Needs}
use Rattle.closure.specs.declared.cutting.Passed.{Passed}
use Rattle.closure.specs.declared.modes.Escape.{Escape}
use Rattle.rewriting.specs.declared.rows.Mode.{Mode}
use Rattle.rewriting.specs.declared.rows.Mode.TheVariants.{Soft}
use Rattle.rewriting.specs.declared.rows.Row.{Row}
use Rattle.closure.specs.declared.modes.RulesFrom.{RulesFrom}
use Rattle.fw_rule.specs.declared.side.Side.{Side}
use Rattle.closure.specs.Rewriting.{Tree, Done, Decide, Leave, Block, shape, to_the_end, items, tree, rules_of}
use Rattle.rewriting.specs.Table.{kind, row_of}
use Rattle.closure.specs.inner.Items.{items_from, items_with}
use Rattle.closure.specs.inner.Skips.{HaveSame}
use Rattle.closure.specs.inner.Ends.{IsSilent, AreOver}
use Rattle.closure.specs.inner.Moves.{IsBlind, Moves, Fills, Steps, Passes, then_leave}
use Rattle.closure.specs.Flat.{escape, carried, stayed, escapes}
use Rattle.closure.specs.Stream.{IsSettled, cut_all, stream}
use Rattle.closure.proofs.FlatLemmas.{drop_at, left_escapes, ran_escapes}
use Rattle.closure.proofs.EndLemmas.{silent_stream, later_silent}

-- the rules of the same chain from another one on, in another mode
abbrev pub moved : RulesFrom → ℕ → Mode → RulesFrom
moved from next mode = record { chain = from.chain; first = next; depth = from.depth; mode = mode }

-- the state of what follows is right, or nothing is made of it
same_behind : {P S : Type 0} (cut : S → Expr P → S) (s z : S) (rest : Tree P) (b : Bool) → (b ≡ true → s ≡ z) → (b ≡ false → IsSilent rest) → stream cut s rest ≡ stream cut z rest
same_behind cut s z rest true f g = ap (λ (x : _). stream cut x rest) (f refl)
same_behind cut s z rest false f g = silent_stream cut s rest (g refl) ∙ sym (silent_stream cut z rest (g refl))

-- what doesn't hold before what follows is right, or its escapes don't depend on it
same_past : {P : Type 0} (past z : List (Expr P)) (rest : Tree P) (b : Bool) → (b ≡ true → past ≡ z) → (b ≡ false → IsBlind rest) → escapes past rest ≡ escapes z rest
same_past past z rest true f g = ap (λ (x : List (Expr _)). escapes x rest) (f refl)
same_past past z rest false f g = g refl past z

-- a way out of the block alone makes no escape
blind_leave : {P : Type 0} (e : Expr P) (rest : Tree P) → IsBlind rest → IsBlind (Leave e 0 rest)
blind_leave e rest blind a b = blind (a ++ Not e ∷ []) (b ++ Not e ∷ [])

pub blind_done : {P : Type 0} (rest : Tree P) → rest ≡ Done → IsBlind rest
blind_done rest done a b = ap (escapes a) done ∙ sym (ap (escapes b) done)

module _ {P S K : Type 0} (given : K → List (S × Bool) → Type 0) (cut : S → Expr P → S) where
  -- no step
  pub stays : (wanted : Bool) (items : Tree P) (k : K) (p : Passed P S) → Moves given cut wanted items items k k p p
  stays wanted items k p = record { states = λ xs g. (xs, g, refl); escapes = λ w. refl }

  -- one way behind another
  pub goes_on : (on wanted : Bool) (a b c : Tree P) (k k' k'' : K) (p p' p'' : Passed P S) → Moves given cut wanted a b k k' p p' → Steps given cut on wanted b c k' k'' p' p'' → Steps given cut on wanted a c k k'' p p''
  goes_on true wanted a b c k k' k'' p p' p'' h g = record {
    states = λ xs x. let y = h.states xs x in let z = g.states y.0 y.1 in (z.0, z.1, z.2 ∙ y.2);
    escapes = λ w. g.escapes w ∙ h.escapes w;
  }
  goes_on false wanted a b c k k' k'' p p' p'' h g = (g.0, λ xs x. let y = h.states xs x in subst (given k'') y.2 (g.1 y.0 y.1))

  pub over_decide : (b wanted : Bool) (e : Expr P) (v : Bool) (behind : Tree P) (k k' : K) (p : Passed P S) → (b ≡ true → IsSettled given k') →
      ((xs : List (S × Bool)) → given k xs → given k' (xs ++ (cut p.state e, v) ∷ [])) → Steps given cut (not b) wanted (Decide e v behind) behind k k' p p
  over_decide true wanted e v behind k k' p settled put =
      (settled refl, λ xs g. subst (given k') (append_assoc xs ((cut p.state e, v) ∷ []) (stream cut p.state behind)) (settled refl (xs ++ (cut p.state e, v) ∷ []) (stream cut p.state behind) (put xs g)))
  over_decide false wanted e v behind k k' p settled put = record {
    states = λ xs g. (xs ++ (cut p.state e, v) ∷ [], put xs g, append_assoc xs ((cut p.state e, v) ∷ []) (stream cut p.state behind));
    escapes = λ w. refl;
  }

  pub over_leave : (needs : Needs) (e : Expr P) (n : ℕ) (behind : Tree P) → (needs.state ≡ false → IsSilent behind) → (needs.past ≡ false → IsBlind behind) → (k : K) (p p' : Passed P S) →
      (needs.state ≡ true → p'.state ≡ cut p.state (Not e)) → (needs.escapes ≡ true → needs.past ≡ true → p'.past.items ≡ p.past.items ++ Not e ∷ []) →
      (needs.escapes ≡ true → p'.found.items ≡ p.found.items ++ escape p.past.items n e []) → Moves given cut needs.escapes (Leave e n behind) behind k k p p'
  over_leave needs e n behind silent blind k p p' s q f = record {
    states = λ xs g. (xs, g, ap (λ (t : List (S × Bool)). xs ++ t) (same_behind cut p'.state (cut p.state (Not e)) behind needs.state s silent));
    escapes = λ w. ap (λ (z : List (Escape P)). p'.found.items ++ z) (same_past p'.past.items (p.past.items ++ Not e ∷ []) behind needs.past (q w) blind)
        ∙ left_escapes p.past.items e p.found.items (p.found.items ++ escapes p.past.items (Leave e n behind)) n behind (p.past.items ++ Not e ∷ []) p'.found.items refl (f w) refl;
  }

  -- a block, from what is said of its items
  module _ (needs : Needs) (e : Expr P) (code : Tree P) (k k' : K) (p : Passed P S) (inside : S) (i : inside ≡ cut p.state e) (put : Fills given cut code k k' inside) where
    pub over_block : (any : Bool) → (needs.escapes ≡ true → any ≡ true) → (needs.state ≡ true → any ≡ true) → (xs : List (Escape P)) → (any ≡ true → xs ≡ escapes [] code) → (p' : Passed P S) →
        (needs.state ≡ true → p'.state ≡ cut_all cut p.state (stayed e xs)) → (needs.escapes ≡ true → needs.past ≡ true → p'.past.items ≡ p.past.items ++ stayed e xs) →
        (needs.escapes ≡ true → p'.found.items ≡ p.found.items ++ carried p.past.items e xs) → Passes given cut true needs (Block e code) k k' p p'
    over_block any any_escapes any_state xs x p' s q f behind silent blind = record {
      states = λ ys g. (
        ys ++ stream cut inside code,
        put ys g,
        append_assoc ys (stream cut inside code) (stream cut p'.state behind)
            ∙ ap (λ (t : S). ys ++ (stream cut t code ++ stream cut p'.state behind)) i
            ∙ ap (λ (t : List (S × Bool)). ys ++ (stream cut (cut p.state e) code ++ t))
            (same_behind cut p'.state (cut_all cut p.state (stayed e (escapes [] code))) behind needs.state
            (λ t. s t ∙ ap (λ (y : List (Escape P)). cut_all cut p.state (stayed e y)) (x (any_state t))) silent),
      );
      escapes = λ w. ap (λ (z : List (Escape P)). p'.found.items ++ z) (same_past p'.past.items (p.past.items ++ stayed e xs) behind needs.past (q w) blind)
          ∙ ran_escapes p.past.items e p.found.items (p.found.items ++ escapes p.past.items (Block e code behind)) code behind xs (p.past.items ++ stayed e xs) p'.found.items (x (any_escapes w)) refl (f w) refl;
    }

    -- the same where the sink is settled inside
    pub settled_block : (p' : Passed P S) → IsSettled given k' → Passes given cut false needs (Block e code) k k' p p'
    settled_block p' settled behind silent blind =
        let after : List (S × Bool) = stream cut (cut_all cut p.state (stayed e (escapes [] code))) behind in
        (settled, λ ys g. subst (given k') (append_assoc ys (stream cut inside code) after ∙ ap (λ (t : S). ys ++ (stream cut t code ++ after)) i) (settled (ys ++ stream cut inside code) after (put ys g)))

  -- a block and a way out
  pub over_both : (needs : Needs) (e : Expr P) (code : Tree P) (k k' : K) (p p' p'' : Passed P S) → Passes given cut true needs (Block e code) k k' p p' →
      (needs.state ≡ true → p''.state ≡ cut p'.state (Not e)) → (needs.escapes ≡ true → needs.past ≡ true → p''.past.items ≡ p'.past.items ++ Not e ∷ []) →
      (needs.escapes ≡ true → p''.found.items ≡ p'.found.items ++ escape p'.past.items 0 e []) → Passes given cut true needs (then_leave e code) k k' p p''
  over_both needs e code k k' p p' p'' h s q f behind silent blind =
      goes_on true needs.escapes (then_leave e code behind) (Leave e 0 behind) behind k k' k' p p' p'' (h (Leave e 0 behind) silent (λ n. blind_leave e behind (blind n)))
      (over_leave needs e 0 behind silent blind k' p' p'' s q f)

  pub settled_both : (needs : Needs) (e : Expr P) (code : Tree P) (k k' : K) (p p' : Passed P S) → Passes given cut false needs (Block e code) k k' p p' → Passes given cut false needs (then_leave e code) k k' p p'
  settled_both needs e code k k' p p' h behind silent blind = h (Leave e 0 behind) silent (λ n. blind_leave e behind (blind n))

  -- the whole way, where nothing was made before
  pub all_gone : (wanted : Bool) (before behind : Tree P) (k k' : K) (p p' : Passed P S) → p.past.items ≡ [] → p.found.items ≡ [] → IsSilent behind → (wanted ≡ true → behind ≡ Done) →
      Moves given cut wanted before behind k k' p p' → Fills given cut before k k' p.state × (wanted ≡ true → p'.found.items ≡ escapes [] before)
  all_gone wanted before behind k k' p p' no_past no_found silent done h = (
    λ xs g. let y = h.states xs g in subst (given k') (sym (append-nil y.0) ∙ ap (λ (z : List (S × Bool)). y.0 ++ z) (sym (silent_stream cut p'.state behind silent)) ∙ y.2) y.1,
    λ w. sym (append-nil p'.found.items) ∙ ap (λ (t : Tree P). p'.found.items ++ escapes p'.past.items t) (sym (done w)) ∙ h.escapes w ∙ rw (no_past, no_found) refl,
  )

  -- a chain to its end, from what is said of its block
  module _ (wanted : Bool) (e : Expr P) (e_is : e ≡ All []) (code : Tree P) (k k' : K) (p p' : Passed P S) where
    abbrev needs : Needs
    needs = record { escapes = wanted; past = true; state = false }

    pub end_settled : Passes given cut false needs (Block e code) k k' p p' → IsSettled given k' × Fills given cut (to_the_end code) k k' p.state
    end_settled h = subst (λ (z : Expr P). IsSettled given k' × Fills given cut (Block z code (Leave (All []) 1 Done)) k k' p.state) e_is (h (Leave (All []) 1 Done) (λ f. tt) (λ f. absurd (true≢false f)))

    pub end_gone : Passes given cut true needs (Block e code) k k' p p' → (p'' : Passed P S) → (wanted ≡ true → true ≡ true → p''.past.items ≡ p'.past.items ++ Not e ∷ []) →
        (wanted ≡ true → p''.found.items ≡ p'.found.items ++ escape p'.past.items 1 e []) → p.past.items ≡ [] → p.found.items ≡ [] →
        Fills given cut (to_the_end code) k k' p.state × (wanted ≡ true → p''.found.items ≡ escapes [] (to_the_end code))
    end_gone h p'' q f no_past no_found =
        subst (λ (z : Expr P). Fills given cut (Block z code (Leave z 1 Done)) k k' p.state × (wanted ≡ true → p''.found.items ≡ escapes [] (Block z code (Leave z 1 Done)))) e_is
        (all_gone wanted (Block e code (Leave e 1 Done)) Done k k' p p'' no_past no_found tt (λ w. refl)
        (goes_on true wanted (Block e code (Leave e 1 Done)) (Leave e 1 Done) Done k k' k' p p' p'' (h (Leave e 1 Done) (λ f. tt) (λ f. absurd (true≢false f)))
        (over_leave needs e 1 Done (λ f. tt) (λ f. blind_done Done refl) k' p' p'' (λ t. absurd (true≢false (sym t))) q f)))

  -- a turn at a rule, by its row
  module _ (side : Side) (dump : Dump P) (rule : Rule P) (behind : RulesFrom) (e : Expr P) (e_is : e ≡ known_of rule) (needs : Needs)
      (silent : needs.state ≡ false → IsSilent (items_from side dump behind)) (blind : needs.past ≡ false → IsBlind (items_from side dump behind)) where
    abbrev RowIs : Row → Type 0
    RowIs r = r ≡ row_of side (doubt_in rule.lits) (kind side rule.action) behind.mode

    abbrev Turn : Bool → K → K → Passed P S → Passed P S → Type 0
    Turn on k k' p p' = Steps given cut on needs.escapes (items_with side dump rule behind) (items_from side dump behind) k k' p p'

    abbrev callee : ℕ → Mode → Tree P
    callee = tree side dump (behind.depth - 1)

    abbrev rest : Mode → Tree P
    rest m = items side callee (drop behind.first (rules_of dump behind.chain)) m

    of_row : (r : Row) → RowIs r → (on : Bool) (k k' : K) (p p' : Passed P S) → Steps given cut on needs.escapes (shape callee e rest behind.mode r) (rest behind.mode) k k' p p' → Turn on k k' p p'
    of_row r is on k k' p p' h =
        subst (λ (t : Tree P). Steps given cut on needs.escapes t (rest behind.mode) k k' p p')
        (ap (λ (z : Expr P). shape callee z rest behind.mode r) e_is ∙ ap (λ (z : Row). shape callee (known_of rule) rest behind.mode z) is) h

    pub turn_skipped : RowIs Row.Skip → (k : K) (p : Passed P S) → Turn true k k p p
    turn_skipped is k p = of_row Row.Skip is true k k p p (stays needs.escapes (rest behind.mode) k p)

    pub turn_decided : (v : Bool) → RowIs (Row.Decide v) → (b : Bool) (k k' : K) (p : Passed P S) → (b ≡ true → IsSettled given k') → ((xs : List (S × Bool)) → given k xs → given k' (xs ++ (cut p.state e, v) ∷ [])) →
        Turn (not b) k k' p p
    turn_decided v is b k k' p settled put = of_row (Row.Decide v) is (not b) k k' p p (over_decide b needs.escapes e v (rest behind.mode) k k' p settled put)

    pub turn_left : (n : ℕ) → RowIs (Row.Leave n) → (k : K) (p p' : Passed P S) → (needs.state ≡ true → p'.state ≡ cut p.state (Not e)) →
        (needs.escapes ≡ true → needs.past ≡ true → p'.past.items ≡ p.past.items ++ Not e ∷ []) → (needs.escapes ≡ true → p'.found.items ≡ p.found.items ++ escape p.past.items n e []) → Turn true k k p p'
    turn_left n is k p p' s q f = of_row (Row.Leave n) is true k k p p' (over_leave needs e n (rest behind.mode) silent blind k p p' s q f)

    pub turn_left_later : RowIs Row.LeaveLater → (on : Bool) (k k' : K) (p p' : Passed P S) → Passes given cut on needs (then_leave e (rest (Soft 0))) k k' p p' → Turn on k k' p p'
    turn_left_later is on k k' p p' h = of_row Row.LeaveLater is on k k' p p' (h (rest behind.mode) silent blind)

    module _ (c : ℕ) (m : Mode) (code : Tree P) (code_is : callee c m ≡ code) (on : Bool) (k k' : K) (p p' : Passed P S) where
      pub turn_ran : RowIs (Row.Run c m) → Passes given cut on needs (Block e code) k k' p p' → Turn on k k' p p'
      turn_ran is h =
          of_row (Row.Run c m) is on k k' p p'
          (subst (λ (t : Tree P). Steps given cut on needs.escapes (Block e t (rest behind.mode)) (rest behind.mode) k k' p p') (sym code_is) (h (rest behind.mode) silent blind))

      pub turn_ran_left : RowIs (Row.RunThenLeave c m) → Passes given cut on needs (then_leave e code) k k' p p' → Turn on k k' p p'
      turn_ran_left is h =
          of_row (Row.RunThenLeave c m) is on k k' p p'
          (subst (λ (t : Tree P). Steps given cut on needs.escapes (then_leave e t (rest behind.mode)) (rest behind.mode) k k' p p') (sym code_is) (h (rest behind.mode) silent blind))

    module _ (c : ℕ) (is : RowIs (Row.RunLater c)) (both : Needs) (same : both.escapes ≡ needs.escapes) (with_past : both.past ≡ true) (with_state : both.state ≡ true) where
      first : (on : Bool) (k k' : K) (p p' : Passed P S) → Passes given cut on both (Block e (rest (Soft 0))) k k' p p' → (more : Tree P) → Steps given cut on needs.escapes (Block e (rest (Soft 0)) more) more k k' p p'
      first on k k' p p' h more =
          subst (λ (w : Bool). Steps given cut on w (Block e (rest (Soft 0)) more) more k k' p p') same
          (h more (λ f. absurd (true≢false (sym with_state ∙ f))) (λ f. absurd (true≢false (sym with_past ∙ f))))

      abbrev end_block : Tree P
      end_block = Block e (to_the_end (callee c (Soft 1))) (rest behind.mode)

      pub turn_later_settled : (r : RulesFrom) → r ≡ moved behind behind.first (Soft 0) → (on : Bool) → on ≡ false → (k k' : K) (p p' : Passed P S) → Passes given cut on both (Block e (items_from side dump r)) k k' p p' → Turn false k k' p p'
      turn_later_settled r r_is on off k k' p p' h =
          of_row (Row.RunLater c) is false k k' p p'
          (first false k k' p p'
          (subst (λ (b : Bool). Passes given cut b both (Block e (rest (Soft 0))) k k' p p') off (subst (λ (z : RulesFrom). Passes given cut on both (Block e (items_from side dump z)) k k' p p') r_is h)) end_block)

      pub turn_ran_later : (code : Tree P) → callee c (Soft 1) ≡ code → (on : Bool) (k k' k'' : K) (p p' p'' : Passed P S) → Passes given cut true both (Block e (rest (Soft 0))) k k' p p' →
          Passes given cut on needs (Block e (to_the_end code)) k' k'' p' p'' → Turn on k k'' p p''
      turn_ran_later code code_is on k k' k'' p p' p'' h g =
          of_row (Row.RunLater c) is on k k'' p p''
          (goes_on on needs.escapes (Block e (rest (Soft 0)) end_block) end_block (rest behind.mode) k k' k'' p p' p'' (first true k k' p p' h end_block)
          (subst (λ (t : Tree P). Steps given cut on needs.escapes (Block e (to_the_end t) (rest behind.mode)) (rest behind.mode) k' k'' p' p'') (sym code_is) (g (rest behind.mode) silent blind)))

  -- along the rules of a chain
  module _ (side : Side) (dump : Dump P) (from : RulesFrom) (wanted : Bool) (start : S) where
    abbrev pub rest_of : ℕ → Tree P
    rest_of next = items_from side dump (moved from next from.mode)

    -- what was made of the rules before the next one
    pub record Handed (next : ℕ) (k k' : K) (p p' : Passed P S) : Type 0 where
      pub begun : p.state ≡ start
      pub no_past : p.past.items ≡ []
      pub no_found : p.found.items ≡ []
      pub way : Moves given cut wanted (items_from side dump from) (rest_of next) k k' p p'

    same_rest : (next next' : ℕ) → HaveSame side (rules_of dump from.chain) from.mode next next' → rest_of next ≡ rest_of next'
    same_rest next next' same = same (tree side dump (from.depth - 1))

    pub handed_none : (next : ℕ) → HaveSame side (rules_of dump from.chain) from.mode from.first next → (k : K) (p : Passed P S) → p.state ≡ start → p.past.items ≡ [] → p.found.items ≡ [] → Handed next k k p p
    handed_none next same k p s q f = record {
      begun = s;
      no_past = q;
      no_found = f;
      way = subst (λ (t : Tree P). Moves given cut wanted (items_from side dump from) t k k p p) (same_rest from.first next same) (stays wanted (items_from side dump from) k p);
    }

    -- a rule is passed
    module _ (next : ℕ) (rule : Rule P) (here : slice_get (rules_of dump from.chain) next ≡ Some rule) (w : Bool) (w_is : w ≡ wanted) (k k' k'' : K) (p p' p'' : Passed P S) (h : Handed next k k' p p') where
      stepped : (on : Bool) → Steps given cut on w (items_with side dump rule (moved from (next + 1) from.mode)) (rest_of (next + 1)) k' k'' p' p'' → Steps given cut on wanted (items_from side dump from) (rest_of (next + 1)) k k'' p p''
      stepped on g =
          goes_on on wanted (items_from side dump from) (rest_of next) (rest_of (next + 1)) k k' k'' p p' p'' h.way
          (subst (λ (t : Tree P). Steps given cut on wanted t (rest_of (next + 1)) k' k'' p' p'')
          (ap (λ (z : List (Rule P)). items side (tree side dump (from.depth - 1)) z from.mode) (sym (drop_at (rules_of dump from.chain) next rule here)))
          (subst (λ (b : Bool). Steps given cut on b (items_with side dump rule (moved from (next + 1) from.mode)) (rest_of (next + 1)) k' k'' p' p'') w_is g))

      pub handed_more : (on : Bool) → on ≡ true → (after : ℕ) → HaveSame side (rules_of dump from.chain) from.mode (next + 1) after →
          Steps given cut on w (items_with side dump rule (moved from (next + 1) from.mode)) (rest_of (next + 1)) k' k'' p' p'' → Handed after k k'' p p''
      handed_more false e after same g = absurd (true≢false (sym e))
      handed_more true e after same g = record {
        begun = h.begun;
        no_past = h.no_past;
        no_found = h.no_found;
        way = subst (λ (t : Tree P). Moves given cut wanted (items_from side dump from) t k k'' p p'') (same_rest (next + 1) after same) (stepped true g);
      }

      -- the sink is settled at the rule
      pub handed_settled : (on : Bool) → on ≡ false → Steps given cut on w (items_with side dump rule (moved from (next + 1) from.mode)) (rest_of (next + 1)) k' k'' p' p'' →
          IsSettled given k'' × Fills given cut (items_from side dump from) k k'' start
      handed_settled true e g = absurd (true≢false e)
      handed_settled false e g = let s = stepped false g in (s.0, subst (λ (z : S). Fills given cut (items_from side dump from) k k'' z) h.begun s.1)

    -- the end of the list, or of what is needed of it
    pub handed_all : (next : ℕ) (k k' : K) (p p' : Passed P S) → IsSilent (rest_of next) → (wanted ≡ true → drop next (rules_of dump from.chain) ≡ []) → Handed next k k' p p' →
        Fills given cut (items_from side dump from) k k' start × (wanted ≡ true → p'.found.items ≡ escapes [] (items_from side dump from))
    handed_all next k k' p p' silent over h =
        let all = all_gone wanted (items_from side dump from) (rest_of next) k k' p p' h.no_past h.no_found silent
        (λ w. ap (λ (z : List (Rule P)). items side (tree side dump (from.depth - 1)) z from.mode) (over w)) h.way in
        (subst (λ (z : S). Fills given cut (items_from side dump from) k k' z) h.begun all.0, all.1)

-- nothing is made of the rules behind an end
pub silent_from : {P : Type 0} (side : Side) (dump : Dump P) (from : RulesFrom) (end next : ℕ) → AreOver side dump from.chain from.mode end → end ≤ next → IsSilent (items_from side dump (moved from next from.mode))
silent_from side dump from end next over least = later_silent side (tree side dump (from.depth - 1)) from.mode (rules_of dump from.chain) end next least (over (from.depth - 1))

-- nothing is made behind the last rule that gives an item
pub nothing_behind : {P : Type 0} (side : Side) (dump : Dump P) (from : RulesFrom) (next after : ℕ) → HaveSame side (rules_of dump from.chain) from.mode next after → drop after (rules_of dump from.chain) ≡ [] →
    items_from side dump (moved from next from.mode) ≡ Done
nothing_behind side dump from next after same empty = same (tree side dump (from.depth - 1)) ∙ ap (λ (z : List (Rule _)). items side (tree side dump (from.depth - 1)) z from.mode) empty

-- the end of all rules, or of those that are needed
pub silent_past : {P : Type 0} (side : Side) (dump : Dump P) (from : RulesFrom) (end stop count next : ℕ) → AreOver side dump from.chain from.mode end → stop ≤ count → (stop < count → end ≤ stop) → stop ≤ next →
    (count ≤ next → drop next (rules_of dump from.chain) ≡ []) → IsSilent (items_from side dump (moved from next from.mode))
silent_past side dump from end stop count next over inside rest past empty = elim (cases_lt stop count) [
  | inl less ↦ (let least = rest less in silent_from side dump from end next over (omega (arith, least, past)))
  | inr least ↦ rw (empty (omega (arith, least, past))) tt
]
