-- What is counted along a chain's rules is the number of literals of what is made of them.
use Rattle.std.proofs.Common.{◌≡◌, ℕ, zero, suc, ◌+◌, ◌-◌, ◌^◌, ◌≤◌, arith, Bool, List, [], ◌∷◌, ◌++◌, map, drop, Some, slice_get, refl, sym, ◌∙◌, ap, subst, append_assoc, append-nil}
use Rattle.std.proofs.lemmas.List.{map-append}
use Rattle.match_expr.specs.Meaning.{literal_count}
use Rattle.match_expr.proofs.Equations.{literals-All}
use Rattle.match_expr.specs.declared.expr.Expr.{Expr}
use Rattle.match_expr.specs.declared.expr.Expr.TheVariants.{All, Not}
use Rattle.fw_rule.specs.declared.rule.Rule.{Rule}
use Rattle.fw_rule.specs.declared.rule.Dump.{Dump}
use Rattle.fw_rule.specs.Matching.{known_of, doubt_in}
use Rattle.closure.specs.declared.modes.Escape.{Escape}
use Rattle.rewriting.specs.declared.rows.Mode.{Mode}
use Rattle.rewriting.specs.declared.rows.Mode.TheVariants.{Soft}
use Rattle.rewriting.specs.declared.rows.Row.{Row}
use Rattle.closure.specs.declared.modes.RulesFrom.{RulesFrom}
use Rattle.fw_rule.specs.declared.side.Side.{Side}
use Rattle.closure.specs.declared.tally.Tally.{Tally}
use Rattle.closure.specs.declared.tally.Way.{Way}
use Rattle.closure.specs.Rewriting.{Tree, Done, Decide, Leave, Block, shape, to_the_end, items, tree, rules_of}
use Rattle.rewriting.specs.Table.{kind, row_of}
use Rattle.closure.specs.inner.Items.{items_from, items_with}
use Rattle.closure.specs.inner.Moves.{then_leave}
use Rattle.closure.specs.inner.Tallies.{Numbers, Counts}
use Rattle.closure.specs.inner.Skips.{HaveSame}
use Rattle.closure.specs.inner.Counts.{capped}
use Rattle.closure.specs.Flat.{escape, carried, stayed, escapes}
use Rattle.closure.specs.Stream.{cut_all, stream}
use Rattle.closure.specs.inner.Totals.{with_literals, together, total_of}
use Rattle.closure.specs.inner.Ways as ways
use Rattle.closure.specs.inner.Ways.{way_of}
use Rattle.closure.proofs.FlatLemmas.{drop_at, escape_first, left_escapes, ran_escapes}
use Rattle.closure.proofs.Streams.{cut_append}
use Rattle.closure.proofs.Handing.{moved}
use Rattle.closure.proofs.TotalLemmas.{summed, together_append, count_not, count_behind, count_both, cut_literals}

conditioned : (k a b : ℕ) → capped k ≡ capped a → capped (capped (k + capped b)) ≡ capped (a + b)
conditioned k a b e = omega (arith, e)

behind : (k a b r s : ℕ) → capped k ≡ capped a → capped r ≡ capped s → capped (k + capped b + r) ≡ capped (a + b + s)
behind k a b r s e f = omega (arith, e, f)

under : (around p b k n : ℕ) → p ≡ capped b → k ≡ capped n → capped (capped (around + p) + k) ≡ capped (capped (around + b) + n)
under around p b k n e f = omega (arith, e, f)

more : (t n x y : ℕ) → t ≡ capped x → n ≡ capped y → capped (t + n) ≡ capped (x + y)
more t n x y e f = omega (arith, e, f)

total_append : (a b : List (ℕ × Bool)) → total_of (a ++ b) ≡ total_of a + total_of b
total_append [] b = omega arith
total_append (x ∷ a) b = let h = total_append a b in omega (arith, h)

no_literals : (P : Type 0) → 0 ≡ capped (literal_count {P = P} (All []))
no_literals P = let h = literals-All {P = P} [] in omega (arith, h)

-- nothing was counted
pub record IsNone (tally : Tally) : Type 0 where
  pub no_past : tally.past ≡ 0
  pub no_total : tally.total ≡ 0
  pub no_ways : tally.ways.items ≡ []

module _ {P : Type 0} where
  escape_way : (past : List (Expr P)) (n : ℕ) (e : Expr P) (p k : ℕ) → p ≡ capped (together past) → capped k ≡ capped (literal_count e) → map way_of (escape past n e []) ≡ ways.escape p n k
  escape_way past zero e p k a b = refl
  escape_way past (suc n) e p k a b =
      let q : capped (p + k) ≡ capped (together past + literal_count e) = summed p k (together past) (literal_count e) b a in
      ap (λ (z : ℕ). record { up = n; literals = z } ∷ []) (ap capped (count_behind past e) ∙ sym q)

  carried_ways : (past : List (Expr P)) (e : Expr P) (p k : ℕ) → p ≡ capped (together past) → capped k ≡ capped (literal_count e) → (xs : List (Escape P)) →
      map way_of (carried past e xs) ≡ ways.carried p k (map way_of xs)
  carried_ways past e p k a b [] = refl
  carried_ways past e p k a b (x ∷ xs) =
      let both : Expr P = All (e ∷ x.condition ∷ []) in
      let q : capped (capped (k + capped (literal_count x.condition))) ≡ capped (literal_count both) = conditioned k (literal_count e) (literal_count x.condition) b ∙ ap capped (sym (count_both e x.condition)) in
      ap (map way_of) (escape_first past x.up both (carried past e xs)) ∙ map-append way_of (escape past x.up both []) (carried past e xs)
      ∙ rw (escape_way past x.up both p (capped (k + capped (literal_count x.condition))) a q, carried_ways past e p k a b xs) refl

  stayed_ways : (e : Expr P) (k : ℕ) → capped k ≡ capped (literal_count e) → (xs : List (Escape P)) → capped (ways.stayed k (map way_of xs)) ≡ capped (together (stayed e xs))
  stayed_ways e k b [] = refl
  stayed_ways e k b (x ∷ xs) =
      let q : literal_count (Not (All (e ∷ x.condition ∷ []))) ≡ literal_count e + literal_count x.condition = count_not (All (e ∷ x.condition ∷ [])) ∙ count_both e x.condition in
      behind k (literal_count e) (literal_count x.condition) (ways.stayed k (map way_of xs)) (together (stayed e xs)) b (stayed_ways e k b xs)
      ∙ ap (λ (z : ℕ). capped (z + together (stayed e xs))) (sym q)

  none_numbers : (tally : Tally) → IsNone tally → Numbers {P = P} [] [] [] tally
  none_numbers tally h = record { past_is = h.no_past; total_is = h.no_total; ways_are = h.no_ways }

  module _ (around : ℕ) where
    pub stays : (items : Tree P) (a : Tally) → Counts around items items a a
    stays items a out past found h = record { out' = out; past' = past; found' = found; numbers = h; states = refl; escapes = refl }

    pub goes_on : (before between behind : Tree P) (a b c : Tally) → Counts around before between a b → Counts around between behind b c → Counts around before behind a c
    goes_on before between behind a b c f g out past found h =
        let x = f out past found h in
        let y = g x.out' x.past' x.found' x.numbers in
        record { out' = y.out'; past' = y.past'; found' = y.found'; numbers = y.numbers; states = y.states ∙ x.states; escapes = y.escapes ∙ x.escapes }

    -- the whole way, where nothing was counted before
    pub all_counted : (before behind : Tree P) (a b : Tally) → IsNone a → behind ≡ Done → Counts around before behind a b →
        (b.total ≡ capped (total_of (stream with_literals around before))) × (b.ways.items ≡ map way_of (escapes [] before))
    all_counted before behind a b none done f =
        let x = f [] [] [] (none_numbers a none) in
        let states : x.out' ≡ stream with_literals around before = sym (append-nil x.out') ∙ ap (λ (t : Tree P). x.out' ++ stream with_literals (cut_all with_literals around x.past') t) (sym done) ∙ x.states in
        let found : x.found' ≡ escapes [] before = sym (append-nil x.found') ∙ ap (λ (t : Tree P). x.found' ++ escapes x.past' t) (sym done) ∙ x.escapes in
        (x.numbers.total_is ∙ ap (λ (z : List (ℕ × Bool)). capped (total_of z)) states, x.numbers.ways_are ∙ ap (map way_of) found)

    module _ (small : around ≤ 2 ^ 64 - 1) (e : Expr P) (k : ℕ) (k_is : k ≡ capped (literal_count e)) (a b : Tally) where
      k_capped : capped k ≡ capped (literal_count e)
      k_capped = omega (arith, k_is)

      -- an item's literals, with all that stand around it
      whole_is : (past : List (Expr P)) → a.past ≡ capped (together past) → (whole : ℕ) → whole ≡ capped (capped (around + a.past) + k) → whole ≡ with_literals (cut_all with_literals around past) e
      whole_is past q whole w =
          w ∙ under around a.past (together past) k (literal_count e) q k_is ∙ ap (λ (z : ℕ). capped (z + literal_count e)) (sym (cut_literals around small past))

      pub over_decide : (v : Bool) (whole : ℕ) → whole ≡ capped (capped (around + a.past) + k) → b.past ≡ a.past → b.total ≡ capped (a.total + whole) → b.ways.items ≡ a.ways.items →
          (behind : Tree P) → Counts around (Decide e v behind) behind a b
      over_decide v whole w p t q behind out past found h =
          let made : ℕ × Bool = (with_literals (cut_all with_literals around past) e, v) in
          let same = whole_is past h.past_is whole w in
          let one : whole ≡ capped (total_of (made ∷ [])) = omega (arith, same) in
          record {
            out' = out ++ made ∷ [];
            past' = past;
            found' = found;
            numbers = record {
              past_is = p ∙ h.past_is;
              total_is = t ∙ more a.total whole (total_of out) (total_of (made ∷ [])) h.total_is one ∙ ap capped (sym (total_append out (made ∷ [])));
              ways_are = q ∙ h.ways_are;
            };
            states = append_assoc out (made ∷ []) (stream with_literals (cut_all with_literals around past) behind);
            escapes = refl;
          }

      pub over_leave : (n : ℕ) → b.past ≡ capped (a.past + k) → b.total ≡ a.total → b.ways.items ≡ a.ways.items ++ ways.escape a.past n k → (behind : Tree P) → Counts around (Leave e n behind) behind a b
      over_leave n p t q behind out past found h =
          let r : together (past ++ Not e ∷ []) ≡ together past + (literal_count (Not e) + 0) = together_append past (Not e ∷ []) in
          let same = count_not e in
          record {
            out' = out;
            past' = past ++ Not e ∷ [];
            found' = found ++ escape past n e [];
            numbers = record {
              past_is = p ∙ more a.past k (together past) (literal_count e) h.past_is k_is ∙ ap capped (let z : together past + literal_count e ≡ together (past ++ Not e ∷ []) = omega (arith, r, same) in z);
              total_is = t ∙ h.total_is;
              ways_are = q ∙ rw (h.ways_are, ← escape_way past n e a.past k h.past_is k_capped) (sym (map-append way_of found (escape past n e [])));
            };
            states = ap (λ (s : ℕ). out ++ stream with_literals s behind) (cut_append with_literals around past (Not e ∷ []));
            escapes = left_escapes past e found (found ++ escapes past (Leave e n behind)) n behind (past ++ Not e ∷ []) (found ++ escape past n e []) refl refl refl;
          }

      -- a block, from what is said of its items
      pub over_block : (whole : ℕ) → whole ≡ capped (capped (around + a.past) + k) → (code : Tree P) (total : ℕ) (inner : List Way) → total ≡ capped (total_of (stream with_literals whole code)) → inner ≡ map way_of (escapes [] code) →
          b.past ≡ capped (a.past + ways.stayed k inner) → b.total ≡ capped (a.total + total) → b.ways.items ≡ a.ways.items ++ ways.carried a.past k inner → (behind : Tree P) → Counts around (Block e code behind) behind a b
      over_block whole w code total inner ti wi p t q behind out past found h =
          let state : ℕ = cut_all with_literals around past in
          let xs : List (Escape P) = escapes [] code in
          let made : List (ℕ × Bool) = stream with_literals (with_literals state e) code in
          let total_made : total ≡ capped (total_of made) = ti ∙ ap (λ (z : ℕ). capped (total_of (stream with_literals z code))) (whole_is past h.past_is whole w) in
          record {
            out' = out ++ made;
            past' = past ++ stayed e xs;
            found' = found ++ carried past e xs;
            numbers = record {
              past_is = p ∙ ap (λ (z : List Way). capped (a.past + ways.stayed k z)) wi
                  ∙ summed a.past (ways.stayed k (map way_of xs)) (together past) (together (stayed e xs)) (stayed_ways e k k_capped xs) h.past_is ∙ ap capped (sym (together_append past (stayed e xs)));
              total_is = t ∙ more a.total total (total_of out) (total_of made) h.total_is total_made ∙ ap capped (sym (total_append out made));
              ways_are = q ∙ rw (h.ways_are, wi, ← carried_ways past e a.past k h.past_is k_capped xs) (sym (map-append way_of found (carried past e xs)));
            };
            states = append_assoc out made (stream with_literals (cut_all with_literals around (past ++ stayed e xs)) behind)
                ∙ ap (λ (s : ℕ). out ++ (made ++ stream with_literals s behind)) (cut_append with_literals around past (stayed e xs));
            escapes = ran_escapes past e found (found ++ escapes past (Block e code behind)) code behind xs (past ++ stayed e xs) (found ++ carried past e xs) refl refl refl refl;
          }

    -- a chain to its end, from what is said of its block
    pub end_counted : around ≤ 2 ^ 64 - 1 → (code : Tree P) (a b c : Tally) → IsNone a → ((e : Expr P) → 0 ≡ capped (literal_count e) → (behind : Tree P) → Counts around (Block e code behind) behind a b) →
        c.past ≡ capped (b.past + 0) → c.total ≡ b.total → c.ways.items ≡ b.ways.items ++ ways.escape b.past 1 0 →
        (c.total ≡ capped (total_of (stream with_literals around (to_the_end code)))) × (c.ways.items ≡ map way_of (escapes [] (to_the_end code)))
    end_counted small code a b c none f p t q =
        all_counted (to_the_end code) Done a c none refl
        (goes_on (to_the_end code) (Leave (All []) 1 Done) Done a b c (f (All []) (no_literals P) (Leave (All []) 1 Done)) (over_leave small (All []) 0 (no_literals P) b c 1 p t q Done))

    -- a turn at a rule, by its row
    module _ (side : Side) (dump : Dump P) (rule : Rule P) (behind : RulesFrom) (a b : Tally) where
      abbrev RowIs : Row → Type 0
      RowIs r = r ≡ row_of side (doubt_in rule.lits) (kind side rule.action) behind.mode

      abbrev Turn : Type 0
      Turn = Counts around (items_with side dump rule behind) (items_from side dump behind) a b

      abbrev callee : ℕ → Mode → Tree P
      callee = tree side dump (behind.depth - 1)

      abbrev rest : Mode → Tree P
      rest m = items side callee (drop behind.first (rules_of dump behind.chain)) m

      of_row : (r : Row) → RowIs r → Counts around (shape callee (known_of rule) rest behind.mode r) (rest behind.mode) a b → Turn
      of_row r is h = subst (λ (z : Row). Counts around (shape callee (known_of rule) rest behind.mode z) (rest behind.mode) a b) is h

      pub turn_decided : (v : Bool) → RowIs (Row.Decide v) → ((more : Tree P) → Counts around (Decide (known_of rule) v more) more a b) → Turn
      turn_decided v is h = of_row (Row.Decide v) is (h (rest behind.mode))

      pub turn_left : (n : ℕ) → RowIs (Row.Leave n) → ((more : Tree P) → Counts around (Leave (known_of rule) n more) more a b) → Turn
      turn_left n is h = of_row (Row.Leave n) is (h (rest behind.mode))

      pub turn_left_later : (r : RulesFrom) → r ≡ moved behind behind.first (Soft 0) → RowIs Row.LeaveLater → ((more : Tree P) → Counts around (then_leave (known_of rule) (items_from side dump r) more) more a b) → Turn
      turn_left_later r r_is is h =
          of_row Row.LeaveLater is (subst (λ (z : RulesFrom). Counts around (then_leave (known_of rule) (items_from side dump z) (rest behind.mode)) (rest behind.mode) a b) r_is (h (rest behind.mode)))

      pub turn_ran : (c : ℕ) (m : Mode) (code : Tree P) → callee c m ≡ code → RowIs (Row.Run c m) → ((more : Tree P) → Counts around (Block (known_of rule) code more) more a b) → Turn
      turn_ran c m code code_is is h =
          of_row (Row.Run c m) is (subst (λ (t : Tree P). Counts around (Block (known_of rule) t (rest behind.mode)) (rest behind.mode) a b) (sym code_is) (h (rest behind.mode)))

      pub turn_ran_left : (c : ℕ) (m : Mode) (code : Tree P) → callee c m ≡ code → RowIs (Row.RunThenLeave c m) → ((more : Tree P) → Counts around (then_leave (known_of rule) code more) more a b) → Turn
      turn_ran_left c m code code_is is h =
          of_row (Row.RunThenLeave c m) is (subst (λ (t : Tree P). Counts around (then_leave (known_of rule) t (rest behind.mode)) (rest behind.mode) a b) (sym code_is) (h (rest behind.mode)))

      pub turn_ran_later : (c : ℕ) (code : Tree P) → callee c (Soft 1) ≡ code → RowIs (Row.RunLater c) → (between : Tally) → (r : RulesFrom) → r ≡ moved behind behind.first (Soft 0) →
          ((more : Tree P) → Counts around (Block (known_of rule) (items_from side dump r) more) more a between) →
          ((more : Tree P) → Counts around (Block (known_of rule) (to_the_end code) more) more between b) → Turn
      turn_ran_later c code code_is is between r r_is h g =
          let end_block : Tree P = Block (known_of rule) (to_the_end (callee c (Soft 1))) (rest behind.mode) in
          of_row (Row.RunLater c) is (goes_on (Block (known_of rule) (rest (Soft 0)) end_block) end_block (rest behind.mode) a between b
          (subst (λ (z : RulesFrom). Counts around (Block (known_of rule) (items_from side dump z) end_block) end_block a between) r_is (h end_block))
          (subst (λ (t : Tree P). Counts around (Block (known_of rule) (to_the_end t) (rest behind.mode)) (rest behind.mode) between b) (sym code_is) (g (rest behind.mode))))

    pub turn_skipped : (side : Side) (dump : Dump P) (rule : Rule P) (behind : RulesFrom) (a : Tally) → Row.Skip ≡ row_of side (doubt_in rule.lits) (kind side rule.action) behind.mode →
        Counts around (items_with side dump rule behind) (items_from side dump behind) a a
    turn_skipped side dump rule behind a is = of_row side dump rule behind a a Row.Skip is (stays (items_from side dump behind) a)

    -- along the rules of a chain
    module _ (side : Side) (dump : Dump P) (from : RulesFrom) where
      abbrev rest_of : ℕ → Tree P
      rest_of next = items_from side dump (moved from next from.mode)

      -- what was counted of the rules before the next one
      pub record Counted (next : ℕ) (a b : Tally) : Type 0 where
        pub begun : IsNone a
        pub way : Counts around (items_from side dump from) (rest_of next) a b

      pub counted_none : (next : ℕ) → HaveSame side (rules_of dump from.chain) from.mode from.first next → (a : Tally) → IsNone a → Counted next a a
      counted_none next same a none = record {
        begun = none;
        way = subst (λ (t : Tree P). Counts around (items_from side dump from) t a a) (same (tree side dump (from.depth - 1))) (stays (items_from side dump from) a);
      }

      pub counted_more : (next : ℕ) (rule : Rule P) → slice_get (rules_of dump from.chain) next ≡ Some rule → (a b c : Tally) → Counted next a b → (after : ℕ) → HaveSame side (rules_of dump from.chain) from.mode (next + 1) after →
          Counts around (items_with side dump rule (moved from (next + 1) from.mode)) (rest_of (next + 1)) b c → Counted after a c
      counted_more next rule here a b c h after same g = record {
        begun = h.begun;
        way = subst (λ (t : Tree P). Counts around (items_from side dump from) t a c) (same (tree side dump (from.depth - 1)))
            (goes_on (items_from side dump from) (rest_of next) (rest_of (next + 1)) a b c h.way
            (subst (λ (t : Tree P). Counts around t (rest_of (next + 1)) b c)
            (ap (λ (z : List (Rule P)). items side (tree side dump (from.depth - 1)) z from.mode) (sym (drop_at (rules_of dump from.chain) next rule here))) g));
      }

      pub counted_all : (next : ℕ) (a b : Tally) → drop next (rules_of dump from.chain) ≡ [] → Counted next a b →
          (b.total ≡ capped (total_of (stream with_literals around (items_from side dump from)))) × (b.ways.items ≡ map way_of (escapes [] (items_from side dump from)))
      counted_all next a b over h = all_counted (items_from side dump from) (rest_of next) a b h.begun (ap (λ (z : List (Rule P)). items side (tree side dump (from.depth - 1)) z from.mode) over) h.way
