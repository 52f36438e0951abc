-- The table has the numbers of items of the chains' trees.
use Rattle.std.proofs.Common.{◌≡◌, ◌≢◌, ℕ, zero, suc, ◌+◌, ◌-◌, ◌<◌, ◌≤◌, List, [], ◌∷◌, length, Some, slice_get, inl, inr, refl, sym, ◌∙◌, ap, subst, arith}
use Rattle.std.proofs.Math.ListN.{set}
use Rattle.std.proofs.lemmas.Bool.{cases_lt}
use Rattle.std.proofs.lemmas.List.{length-set}
use Rattle.std.proofs.lemmas.Option.{same_Some, slice_get_within}
use Rattle.match_expr.specs.declared.expr.Expr.{Expr}
use Rattle.fw_rule.specs.declared.rule.Rule.{Rule}
use Rattle.fw_rule.specs.declared.rule.Chain.{Chain}
use Rattle.fw_rule.specs.declared.rule.Dump.{Dump}
use Rattle.fw_rule.specs.Matching.{known_of, doubt_in}
use Rattle.fw_rule.specs.Walk.{Calls, Within, deep, Reaches, target_of}
use Rattle.fw_rule.proofs.Ends.{append, contains_at}
use Rattle.chain_graph.specs.declared.graph.Ranked.{Ranked}
use Rattle.chain_graph.proofs.Paths.{longer}
use Rattle.closure.specs.declared.counting.Counts.{Counts}
use Rattle.rewriting.specs.declared.rows.Mode.{Mode}
use Rattle.rewriting.specs.declared.rows.Mode.TheVariants.{Hard, Soft}
use Rattle.rewriting.specs.declared.rows.Row.{Row}
use Rattle.fw_rule.specs.declared.side.Side.{Side}
use Rattle.closure.specs.Checked.{IsRankedWithPolicy}
use Rattle.closure.specs.Rewriting.{Tree, nodes, shape, items, tree, rules_at, greatest_depth}
use Rattle.rewriting.specs.Table.{kind, row_of}
use Rattle.closure.specs.inner.Counts.{capped, in_mode, entry, row_items, rule_items, rules_items}
use Rattle.closure.specs.inner.Counted.{counts_of, IsCounted, AreCounted}
use Rattle.closure.proofs.Depths.{items_same, same_tree}
use Rattle.closure.proofs.FlatLemmas.{Runs, run_kind, calls, within_some}
use Rattle.closure.proofs.RankReads.{rank_at, rank_is, within_rank, within_limit}
use Rattle.closure.proofs.NodeLemmas.{tree_nodes}

same_rank : {a b : ℕ} → Some (Some a) ≡ Some (Some b) → a ≡ b
same_rank {a} {b} e = same_Some a b (same_Some (Some a) (Some b) e)

-- the table after a write
entry_other : (table : List Counts) (n k : ℕ) (x : Counts) → n ≢ k → entry (set table n x) k ≡ entry table k
entry_other [] n k x h = refl
entry_other (t ∷ ts) zero zero x h = absurd (h refl)
entry_other (t ∷ ts) zero (suc k) x h = refl
entry_other (t ∷ ts) (suc n) zero x h = refl
entry_other (t ∷ ts) (suc n) (suc k) x h = entry_other ts n k x (λ e. h (ap suc e))

entry_same : (table : List Counts) (n : ℕ) (x : Counts) → n < length table → entry (set table n x) n ≡ x
entry_same [] n x h = absurd (omega arith)
entry_same (t ∷ ts) zero x h = refl
entry_same (t ∷ ts) (suc n) x h = entry_same ts n x (omega arith)

skipped : (x n : ℕ) → x ≡ capped n → capped x ≡ capped n
skipped x n e = omega (arith, e)

one_more : (x n : ℕ) → x ≡ capped n → capped (suc x) ≡ capped (suc n)
one_more x n e = omega (arith, e)

both_more : (x n y k : ℕ) → x ≡ capped n → y ≡ capped k → capped (suc (x + y)) ≡ capped (suc (n + k))
both_more x n y k e f = omega (arith, e, f)

later_more : (x n y k : ℕ) → x ≡ capped n → y ≡ capped k → capped (suc (x + suc y)) ≡ capped (suc (n + suc k))
later_more x n y k e f = omega (arith, e, f)

goto_more : (x n y k z l : ℕ) → x ≡ capped n → y ≡ capped k → z ≡ capped l → capped (suc (x + suc (suc (y + 1) + z))) ≡ capped (suc (n + suc (suc (k + 1) + l)))
goto_more x n y k z l e f g = omega (arith, e, f, g)

module _ {P : Type 0} where
  module _ (callee : ℕ → Mode → Tree P) (same : (c j : ℕ) → nodes (callee c (Soft (suc j))) ≡ nodes (callee c Hard)) (entries : ℕ → Counts) where
    called : (c : ℕ) → entries c ≡ counts_of (callee c) → (m : Mode) → in_mode (entries c) m ≡ capped (nodes (callee c m))
    called c e Hard = ap (λ (z : Counts). z.hard) e
    called c e (Soft zero) = ap (λ (z : Counts). z.soft) e
    called c e (Soft (suc j)) = ap (λ (z : Counts). z.hard) e ∙ ap capped (sym (same c j))

    shape_items : (counts : Counts) (rest : Mode → Tree P) (mode : Mode) → in_mode counts mode ≡ capped (nodes (rest mode)) → counts.soft ≡ capped (nodes (rest (Soft 0))) → (k : Expr P) (r : Row) →
        ((c : ℕ) (m : Mode) → Runs r c m → entries c ≡ counts_of (callee c)) →
        capped (row_items (λ (c : ℕ). in_mode (entries c)) (in_mode counts) mode r) ≡ capped (nodes (shape callee k rest mode r))
    shape_items counts rest mode e s k Row.Skip f = skipped (in_mode counts mode) (nodes (rest mode)) e
    shape_items counts rest mode e s k (Row.Decide v) f = one_more (in_mode counts mode) (nodes (rest mode)) e
    shape_items counts rest mode e s k (Row.Leave n) f = one_more (in_mode counts mode) (nodes (rest mode)) e
    shape_items counts rest mode e s k Row.LeaveLater f = later_more counts.soft (nodes (rest (Soft 0))) (in_mode counts mode) (nodes (rest mode)) s e
    shape_items counts rest mode e s k (Row.Run c m) f = both_more (in_mode (entries c) m) (nodes (callee c m)) (in_mode counts mode) (nodes (rest mode)) (called c (f c m (refl, refl)) m) e
    shape_items counts rest mode e s k (Row.RunThenLeave c m) f = later_more (in_mode (entries c) m) (nodes (callee c m)) (in_mode counts mode) (nodes (rest mode)) (called c (f c m (refl, refl)) m) e
    shape_items counts rest mode e s k (Row.RunLater c) f =
        goto_more counts.soft (nodes (rest (Soft 0))) (in_mode (entries c) (Soft 1)) (nodes (callee c (Soft 1))) (in_mode counts mode) (nodes (rest mode)) s (called c (f c (Soft 1) (refl, refl)) (Soft 1)) e

  module _ (side : Side) (callee : ℕ → Mode → Tree P) (same : (c j : ℕ) → nodes (callee c (Soft (suc j))) ≡ nodes (callee c Hard)) (table : List Counts) where
    one_rule : (rule : Rule P) (rules : List (Rule P)) → ((k : ℕ) → target_of rule.action ≡ Some k → entry table k ≡ counts_of (callee k)) →
        rules_items side table rules ≡ counts_of (items side callee rules) → (mode : Mode) →
        in_mode (rules_items side table rules) mode ≡ capped (nodes (items side callee rules mode)) →
        rule_items side table rule (rules_items side table rules) mode ≡ capped (nodes (items side callee (rule ∷ rules) mode))
    one_rule rule rules table_is rest mode e =
        shape_items callee same (entry table) (rules_items side table rules) (items side callee rules) mode e (ap (λ (z : Counts). z.soft) rest) (known_of rule)
        (row_of side (doubt_in rule.lits) (kind side rule.action) mode)
        (λ c m r. table_is c (calls side rule.action c (run_kind side (doubt_in rule.lits) (kind side rule.action) mode m c r).0))

    -- it is enough that the table has the numbers of the called chains
    pub rules_counted : (rules : List (Rule P)) → ((i : ℕ) (rule : Rule P) (k : ℕ) → slice_get rules i ≡ Some rule → target_of rule.action ≡ Some k → entry table k ≡ counts_of (callee k)) →
        rules_items side table rules ≡ counts_of (items side callee rules)
    rules_counted [] table_is = refl
    rules_counted (rule ∷ rules) table_is =
        let rest = rules_counted rules (λ i r k e a. table_is (suc i) r k e a) in
        let hard = one_rule rule rules (λ k a. table_is 0 rule k refl a) rest Hard (ap (λ (z : Counts). z.hard) rest) in
        let soft = one_rule rule rules (λ k a. table_is 0 rule k refl a) rest (Soft 0) (ap (λ (z : Counts). z.soft) rest) in
        λ i. record { hard = hard i; soft = soft i }

  counts_same : (t u : Mode → Tree P) → ((m : Mode) → t m ≡ u m) → counts_of t ≡ counts_of u
  counts_same t u e = λ i. record { hard = capped (nodes (e Hard i)); soft = capped (nodes (e (Soft 0) i)) }

  module _ (side : Side) (dump : Dump P) (asked : ℕ) (ranked : Ranked) (checked : IsRankedWithPolicy dump asked ranked) (table : List Counts) where
    -- the numbers of a chain, where the table has those of lesser rank
    pub chain_counted : (c rank : ℕ) (here : Chain P) → slice_get dump.chains c ≡ Some here → slice_get ranked.ranks c ≡ Some (Some rank) →
        ((k r : ℕ) → slice_get ranked.ranks k ≡ Some (Some r) → r < rank → IsCounted side dump table k) → rules_items side table here.rules ≡ counts_of (tree side dump greatest_depth c)
    chain_counted c rank here at_c at_rank lesser = by_depth rank (within_rank dump asked ranked checked c rank at_rank)
      where
        reached : Reaches dump asked c
        reached = (rank_is dump asked ranked checked c rank at_rank).0

        in_table : (k : ℕ) → Calls dump c k → IsCounted side dump table k
        in_table k call =
            let r = rank_at dump asked ranked checked k (append dump reached call) in
            let least : suc r.0 ≤ rank = ((rank_is dump asked ranked checked c rank at_rank).1).1 (suc r.0) (longer dump c k r.0 call (r.2).0) in
            lesser k r.0 r.1 (omega (arith, least))

        call_at : (i : ℕ) (rule : Rule P) (k : ℕ) → slice_get here.rules i ≡ Some rule → target_of rule.action ≡ Some k → Calls dump c k
        call_at i rule k at a = (rule, (here, at_c, contains_at here.rules i rule at), a)

        by_depth : (d : ℕ) → Within dump d c → rules_items side table here.rules ≡ counts_of (tree side dump greatest_depth c)
        by_depth zero w = elim w [ ]
        by_depth (suc d) (deep f) =
            rules_counted side (tree side dump greatest_depth) (tree_nodes side dump greatest_depth) table here.rules (λ i rule k at a. in_table k (call_at i rule k at a))
            ∙ counts_same (items side (tree side dump greatest_depth) here.rules) (tree side dump greatest_depth c) (λ (m : Mode).
            items_same (tree side dump greatest_depth) (tree side dump d) side here.rules
            (λ i rule k n at a. let call = call_at i rule k at a in same_tree side dump greatest_depth d k (within_limit dump asked ranked checked k (append dump reached call)) (f k call) n) m
            ∙ ap (λ (rules : List (Rule P)). items side (tree side dump d) rules m) (sym (ap rules_at at_c))
            ∙ same_tree side dump (suc d) greatest_depth c (deep f) (within_limit dump asked ranked checked c reached) m)

    -- no chain has the rank 0
    pub none_counted : length table ≡ length dump.chains → AreCounted side dump ranked 0 table
    none_counted long = record {
      long = long;
      each = λ c r e h. absurd (let some = within_some dump r c (within_rank dump asked ranked checked c r e) in omega (arith, some, h));
    }

  -- the chains of a rank are counted one after another
  module _ (side : Side) (dump : Dump P) (ranked : Ranked) (rank : ℕ) where
    pub record Counting (next : ℕ) (table : List Counts) : Type 0 where
      pub long : length table ≡ length dump.chains
      pub lesser : (k r : ℕ) → slice_get ranked.ranks k ≡ Some (Some r) → r < rank → IsCounted side dump table k
      pub passed : (k : ℕ) → slice_get ranked.ranks k ≡ Some (Some rank) → k < next → IsCounted side dump table k

    pub start : (table : List Counts) → AreCounted side dump ranked (rank - 1) table → Counting 0 table
    start table h = record {
      long = h.long;
      lesser = λ k r e l. h.each k r e (omega (arith, l));
      passed = λ k e l. absurd (omega (arith, l));
    }

    pub other_rank : (next : ℕ) (table : List Counts) → (slice_get ranked.ranks next ≡ Some (Some rank) → ⊥) → Counting next table → Counting (next + 1) table
    other_rank next table not_it h = record {
      long = h.long;
      lesser = h.lesser;
      passed = λ k e l. elim (cases_lt k next) [
        | inl less ↦ h.passed k e less
        | inr least ↦ absurd (not_it (subst (λ (z : ℕ). slice_get ranked.ranks z ≡ Some (Some rank)) (let same : k ≡ next = omega (arith, l, least) in same) e))
      ];
    }

    pub this_rank : (asked : ℕ) → IsRankedWithPolicy dump asked ranked → (next : ℕ) (table : List Counts) (here : Chain P) (counts : Counts) → slice_get dump.chains next ≡ Some here → slice_get ranked.ranks next ≡ Some (Some rank) →
        counts ≡ rules_items side table here.rules → Counting next table → Counting (next + 1) (set table next counts)
    this_rank asked checked next table here counts at_next at_rank is h =
        let inside : next < length table = let n = slice_get_within dump.chains next here at_next in omega (arith, n, h.long) in
        let new = is ∙ chain_counted side dump asked ranked checked table next rank here at_next at_rank h.lesser in record {
          long = length-set table next counts ∙ h.long;
          lesser = λ k r e l. entry_other table next k counts (λ same. absurd (let both : rank ≡ r = same_rank (sym at_rank ∙ ap (slice_get ranked.ranks) same ∙ e) in omega (arith, l, both))) ∙ h.lesser k r e l;
          passed = λ k e l. elim (cases_lt k next) [
            | inl less ↦ entry_other table next k counts (λ same. absurd (omega (arith, less, same))) ∙ h.passed k e less
            | inr least ↦ subst (λ (z : ℕ). IsCounted side dump (set table next counts) z) (let same : next ≡ k = omega (arith, l, least) in same) (entry_same table next counts inside ∙ new)
          ];
        }

    pub counted : (next : ℕ) (table : List Counts) → length dump.chains ≤ next → ((k r : ℕ) → slice_get ranked.ranks k ≡ Some (Some r) → k < length dump.chains) → Counting next table → AreCounted side dump ranked rank table
    counted next table over inside h = record {
      long = h.long;
      each = λ k r e l. elim (cases_lt r rank) [
        | inl less ↦ h.lesser k r e less
        | inr least ↦ h.passed k (subst (λ (z : ℕ). slice_get ranked.ranks k ≡ Some (Some z)) (let same : r ≡ rank = omega (arith, l, least) in same) e) (let n = inside k r e in omega (arith, n, over))
      ];
    }
