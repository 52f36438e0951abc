-- The tree of a chain comes to the best outcome, in each mode.
use Rattle.std.proofs.Common.{◌≡◌, ℕ, zero, suc, Bool, true, false, List, [], ◌∷◌, if◌then◌else◌, refl, sym, ◌∙◌, ap}
use Rattle.match_expr.specs.Meaning.{eval_of}
use Rattle.match_expr.proofs.Equations.{eval-All}
use Rattle.match_expr.specs.declared.expr.Expr.{Expr}
use Rattle.fw_rule.specs.declared.rule.Rule.{Rule}
use Rattle.fw_rule.specs.declared.rule.Dump.{Dump}
use Rattle.fw_rule.specs.declared.side.Side.{Side}
use Rattle.fw_rule.specs.Matching.{known_of, doubt_in}
use Rattle.closure.specs.Rewriting.{Tree, shape, to_the_end, items, rules_of, tree}
use Rattle.rewriting.specs.Table.{kind, row_of}
use Rattle.closure.proofs.Runs.{says, Ran, Says, Leaves, Through, after_block, ran, settle, expected}
use Rattle.rewriting.specs.declared.kinds.ActionKind.{ActionKind}
use Rattle.rewriting.specs.declared.kinds.ActionKind.TheVariants.{GoodVerdict, BadVerdict, GoOn, GoBack, CallTo, GoTo}
use Rattle.rewriting.specs.declared.rows.Mode.{Mode}
use Rattle.rewriting.specs.declared.rows.Mode.TheVariants.{Hard, Soft}
use Rattle.closure.proofs.Outcomes.{Outcome, Good, Ends, Bad, or_end, then_rest, or_rest, better, best_row, best_rules, best}

settle_after : (r x : Ran) → settle (after_block r x) ≡ settle (after_block (settle r) (settle x))
settle_after (Says v) x = refl
settle_after (Leaves zero) x = settled x
  where
    settled : (y : Ran) → settle y ≡ settle (settle y)
    settled (Says v) = refl
    settled (Leaves zero) = refl
    settled (Leaves (suc n)) = refl
    settled Through = refl
settle_after (Leaves (suc n)) x = refl
settle_after Through x = settled x
  where
    settled : (y : Ran) → settle y ≡ settle (settle y)
    settled (Says v) = refl
    settled (Leaves zero) = refl
    settled (Leaves (suc n)) = refl
    settled Through = refl

module _ (side : Side) where
  as_expected : (mode : Mode) (b : Outcome) → settle (expected side mode b) ≡ expected side mode b
  as_expected mode Good = refl
  as_expected mode Ends = refl
  as_expected Hard Bad = refl
  as_expected (Soft zero) Bad = refl
  as_expected (Soft (suc j)) Bad = refl

  called_hard : (a b : Outcome) → settle (after_block (expected side Hard a) (expected side Hard b)) ≡ expected side Hard (then_rest a b)
  called_hard Good b = refl
  called_hard Ends b = as_expected Hard b
  called_hard Bad b = refl

  called_soft : (j : ℕ) (a b : Outcome) → settle (after_block (expected side (Soft (suc j)) a) (expected side (Soft j) b)) ≡ expected side (Soft j) (then_rest a b)
  called_soft j Good b = refl
  called_soft j Ends b = as_expected (Soft j) b
  called_soft zero Bad b = refl
  called_soft (suc j) Bad b = refl

  called_in_doubt : (mode : Mode) (a b : Outcome) → settle (after_block (expected side (Soft 0) a) (expected side mode b)) ≡ expected side mode (or_rest a b)
  called_in_doubt mode Good b = refl
  called_in_doubt mode Ends b = as_expected mode b
  called_in_doubt mode Bad b = as_expected mode b

  back_in_doubt : (mode : Mode) (b : Outcome) → settle (after_block (expected side (Soft 0) b) Through) ≡ expected side mode (or_end b)
  back_in_doubt mode Good = refl
  back_in_doubt mode Ends = refl
  back_in_doubt mode Bad = refl

  kept : (b : Outcome) → expected side (Soft zero) (or_end b) ≡ expected side (Soft zero) b
  kept Good = refl
  kept Ends = refl
  kept Bad = refl

  gone_hard : (a : Outcome) → settle (after_block (expected side Hard a) Through) ≡ expected side Hard a
  gone_hard Good = refl
  gone_hard Ends = refl
  gone_hard Bad = refl

  gone_soft : (j : ℕ) (a : Outcome) → settle (after_block (expected side (Soft (suc j)) a) Through) ≡ expected side (Soft j) a
  gone_soft j Good = refl
  gone_soft j Ends = refl
  gone_soft zero Bad = refl
  gone_soft (suc j) Bad = refl

  gone_softest : (a b : Outcome) → expected side (Soft zero) (or_rest a b) ≡ expected side (Soft zero) (better a b)
  gone_softest Good b = refl
  gone_softest Ends b = sym (kept b)
  gone_softest Bad b = refl

  -- what the items of a chain to the end come to
  abbrev to_end : Outcome → Ran
  to_end a = settle (after_block (expected side (Soft 1) a) (Leaves 1))

  gone_in_doubt : (mode : Mode) (a b : Outcome) → settle (after_block (expected side (Soft 0) b) (settle (after_block (to_end a) (expected side mode b)))) ≡ expected side mode (better a b)
  gone_in_doubt mode Good Good = refl
  gone_in_doubt mode Ends Good = refl
  gone_in_doubt mode Bad Good = refl
  gone_in_doubt mode Good Ends = refl
  gone_in_doubt mode Ends Ends = refl
  gone_in_doubt mode Bad Ends = refl
  gone_in_doubt mode Good Bad = refl
  gone_in_doubt mode Ends Bad = refl
  gone_in_doubt Hard Bad Bad = refl
  gone_in_doubt (Soft zero) Bad Bad = refl
  gone_in_doubt (Soft (suc j)) Bad Bad = refl

  after_is : (r x r' x' : Ran) → settle r ≡ r' → settle x ≡ x' → settle (after_block r x) ≡ settle (after_block r' x')
  after_is r x r' x' e q = settle_after r x ∙ rw (e, q) refl

  module _ {P : Type 0} (h : P → Bool) (callee : ℕ → Mode → Tree P) (k : Expr P) (rest : Mode → Tree P) where
    -- where the known literals don't hold, the rest is tried
    row_missed : eval_of h k ≡ false → (d : Bool) (what : ActionKind) (mode : Mode) → ran h (shape callee k rest mode (row_of side d what mode)) ≡ ran h (rest mode)
    row_missed e false GoodVerdict mode = rw e refl
    row_missed e true GoodVerdict mode = rw e refl
    row_missed e false BadVerdict Hard = rw e refl
    row_missed e false BadVerdict (Soft j) = rw e refl
    row_missed e true BadVerdict mode = refl
    row_missed e false GoOn mode = refl
    row_missed e true GoOn mode = refl
    row_missed e false GoBack mode = rw e refl
    row_missed e true GoBack Hard = rw e refl
    row_missed e true GoBack (Soft zero) = refl
    row_missed e true GoBack (Soft (suc j)) = rw e refl
    row_missed e false (CallTo c) Hard = rw e refl
    row_missed e false (CallTo c) (Soft j) = rw e refl
    row_missed e true (CallTo c) mode = rw e refl
    row_missed e false (GoTo c) Hard = rw e refl
    row_missed e false (GoTo c) (Soft j) = rw e refl
    row_missed e true (GoTo c) Hard = rw e refl
    row_missed e true (GoTo c) (Soft zero) = rw e refl
    row_missed e true (GoTo c) (Soft (suc j)) = rw e refl

    module _ (callee_best : ℕ → Outcome) (rest_best : Outcome)
        (callee_is : (c : ℕ) (mode : Mode) → settle (ran h (callee c mode)) ≡ expected side mode (callee_best c))
        (rest_is : (mode : Mode) → settle (ran h (rest mode)) ≡ expected side mode rest_best) where
      ended : (inner : Tree P) → ran h (to_the_end inner) ≡ after_block (ran h inner) (Leaves 1)
      ended inner = rw (eval-All h []) refl

      end_is : (c : ℕ) → settle (ran h (to_the_end (callee c (Soft 1)))) ≡ to_end (callee_best c)
      end_is c =
          ap settle (ended (callee c (Soft 1)))
          ∙ after_is (ran h (callee c (Soft 1))) (Leaves 1) (expected side (Soft 1) (callee_best c)) (Leaves 1) (callee_is c (Soft 1)) refl

      gone_later : (c : ℕ) (mode : Mode) →
          settle (after_block (ran h (rest (Soft 0))) (after_block (ran h (to_the_end (callee c (Soft 1)))) (ran h (rest mode)))) ≡ expected side mode (better (callee_best c) rest_best)
      gone_later c mode =
          after_is (ran h (rest (Soft 0))) (after_block (ran h (to_the_end (callee c (Soft 1)))) (ran h (rest mode)))
          (expected side (Soft 0) rest_best) (settle (after_block (to_end (callee_best c)) (expected side mode rest_best))) (rest_is (Soft 0))
          (after_is (ran h (to_the_end (callee c (Soft 1)))) (ran h (rest mode)) (to_end (callee_best c)) (expected side mode rest_best) (end_is c) (rest_is mode))
          ∙ gone_in_doubt mode (callee_best c) rest_best

      row_taken : eval_of h k ≡ true → (d : Bool) (what : ActionKind) (mode : Mode) →
          settle (ran h (shape callee k rest mode (row_of side d what mode))) ≡ expected side mode (best_row callee_best rest_best d what)
      row_taken e false GoodVerdict mode = rw e refl
      row_taken e true GoodVerdict mode = rw e refl
      row_taken e false BadVerdict Hard = rw e refl
      row_taken e false BadVerdict (Soft zero) = rw e refl
      row_taken e false BadVerdict (Soft (suc j)) = rw e refl
      row_taken e true BadVerdict mode = rest_is mode
      row_taken e false GoOn mode = rest_is mode
      row_taken e true GoOn mode = rest_is mode
      row_taken e false GoBack mode = rw e refl
      row_taken e true GoBack Hard =
          rw e (after_is (ran h (rest (Soft 0))) (Leaves 0) (expected side (Soft 0) rest_best) Through (rest_is (Soft 0)) refl ∙ back_in_doubt Hard rest_best)
      row_taken e true GoBack (Soft zero) = rest_is (Soft zero) ∙ sym (kept rest_best)
      row_taken e true GoBack (Soft (suc j)) =
          rw e (after_is (ran h (rest (Soft 0))) (Leaves 0) (expected side (Soft 0) rest_best) Through (rest_is (Soft 0)) refl ∙ back_in_doubt (Soft (suc j)) rest_best)
      row_taken e false (CallTo c) Hard =
          rw e (after_is (ran h (callee c Hard)) (ran h (rest Hard)) (expected side Hard (callee_best c)) (expected side Hard rest_best) (callee_is c Hard) (rest_is Hard)
          ∙ called_hard (callee_best c) rest_best)
      row_taken e false (CallTo c) (Soft j) =
          rw e (after_is (ran h (callee c (Soft (suc j)))) (ran h (rest (Soft j))) (expected side (Soft (suc j)) (callee_best c)) (expected side (Soft j) rest_best) (callee_is c (Soft (suc j))) (rest_is (Soft j))
          ∙ called_soft j (callee_best c) rest_best)
      row_taken e true (CallTo c) mode =
          rw e (after_is (ran h (callee c (Soft 0))) (ran h (rest mode)) (expected side (Soft 0) (callee_best c)) (expected side mode rest_best) (callee_is c (Soft 0)) (rest_is mode)
          ∙ called_in_doubt mode (callee_best c) rest_best)
      row_taken e false (GoTo c) Hard =
          rw e (after_is (ran h (callee c Hard)) (Leaves 0) (expected side Hard (callee_best c)) Through (callee_is c Hard) refl ∙ gone_hard (callee_best c))
      row_taken e false (GoTo c) (Soft j) =
          rw e (after_is (ran h (callee c (Soft (suc j)))) (Leaves 0) (expected side (Soft (suc j)) (callee_best c)) Through (callee_is c (Soft (suc j))) refl ∙ gone_soft j (callee_best c))
      row_taken e true (GoTo c) Hard = rw e (gone_later c Hard)
      row_taken e true (GoTo c) (Soft zero) =
          rw e (after_is (ran h (callee c (Soft 0))) (ran h (rest (Soft zero))) (expected side (Soft 0) (callee_best c)) (expected side (Soft zero) rest_best) (callee_is c (Soft 0)) (rest_is (Soft zero))
          ∙ called_in_doubt (Soft zero) (callee_best c) rest_best ∙ gone_softest (callee_best c) rest_best)
      row_taken e true (GoTo c) (Soft (suc j)) = rw e (gone_later c (Soft (suc j)))

  module _ {P : Type 0} (h : P → Bool) where
    by_known : (callee : ℕ → Mode → Tree P) (callee_best : ℕ → Outcome) (k : Expr P) (rest : Mode → Tree P) (rest_best : Outcome) →
        ((c : ℕ) (mode : Mode) → settle (ran h (callee c mode)) ≡ expected side mode (callee_best c)) →
        ((mode : Mode) → settle (ran h (rest mode)) ≡ expected side mode rest_best) →
        (d : Bool) (what : ActionKind) (mode : Mode) (b : Bool) → eval_of h k ≡ b →
        settle (ran h (shape callee k rest mode (row_of side d what mode))) ≡ expected side mode (if b then best_row callee_best rest_best d what else rest_best)
    by_known callee callee_best k rest rest_best callee_is rest_is d what mode true e = row_taken h callee k rest callee_best rest_best callee_is rest_is e d what mode
    by_known callee callee_best k rest rest_best callee_is rest_is d what mode false e = ap settle (row_missed h callee k rest e d what mode) ∙ rest_is mode

    rules_come : (callee : ℕ → Mode → Tree P) (callee_best : ℕ → Outcome) →
        ((c : ℕ) (mode : Mode) → settle (ran h (callee c mode)) ≡ expected side mode (callee_best c)) →
        (rules : List (Rule P)) (mode : Mode) → settle (ran h (items side callee rules mode)) ≡ expected side mode (best_rules side h callee_best rules)
    rules_come callee callee_best callee_is [] mode = refl
    rules_come callee callee_best callee_is (rule ∷ rules) mode =
        by_known callee callee_best (known_of rule) (λ (m : Mode). items side callee rules m) (best_rules side h callee_best rules) callee_is
        (λ m. rules_come callee callee_best callee_is rules m) (doubt_in rule.lits) (kind side rule.action) mode (eval_of h (known_of rule)) refl

    -- the tree of a chain comes to the best outcome
    pub tree_comes : (dump : Dump P) (depth c : ℕ) (mode : Mode) → settle (ran h (tree side dump depth c mode)) ≡ expected side mode (best side h dump depth c)
    tree_comes dump zero c mode = refl
    tree_comes dump (suc depth) c mode = rules_come (tree side dump depth) (best side h dump depth) (tree_comes dump depth) (rules_of dump c) mode

-- a verdict doesn't change where a leave at a block's end counts as its end
settled_says : (r : Ran) → says r ≡ says (settle r)
settled_says (Says v) = refl
settled_says (Leaves zero) = refl
settled_says (Leaves (suc n)) = refl
settled_says Through = refl

pub settle_says : {P : Type 0} (h : P → Bool) (tree : Tree P) → says (ran h tree) ≡ says (settle (ran h tree))
settle_says h tree = settled_says (ran h tree)
