-- A text has one answer, and a fault that is told early stays.
use Rattle.std.proofs.Common.{ℕ, ◌≤◌, ◌≡◌, inl, inr, List, ◌++◌, Ok, Err, length, refl, sym, ap, subst, ◌∙◌, arith, length-append}
use Rattle.std.proofs.lemmas.List.{take-append-le}
use Rattle.primitives.specs.declared.prim.Prim_.{Prim_}
use Rattle.fw_rule.specs.declared.rule.Dump.{Dump}
use Rattle.dump_grammar.specs.Lines.{Text, Word}
use Rattle.dump_grammar.specs.declared.chains.Declared.{Declared}
use Rattle.dump_grammar.specs.ChainLines.{IsChainLine}
use Rattle.dump_grammar.specs.declared.rule.RuleLine.{RuleLine}
use Rattle.dump_grammar.specs.RuleLines.{IsRuleLine}
use Rattle.dump_grammar.specs.Tables.{Fit, IsBadLine}
use Rattle.dump_grammar.specs.Reads.{IsMalformed}
use Rattle.dump_read.specs.declared.fault.ReadFault.{ReadFault}
use Rattle.dump_read.specs.Answers.{IsFaultOf}
use Rattle.dump_read.specs.Laws.{IsAnswerTo, HasOneAnswer, EarlyFaultsStay}
use Rattle.dump_read.specs.Pieces.{IsEnded}
use Rattle.dump_read.proofs.LineLemmas.{one_lines, lines_of_text}
use Rattle.dump_read.proofs.PieceLemmas.{begins_whole, begins_further}
use Rattle.dump_read.proofs.ReadingLemmas.{one_dump_of, one_malformed_of, one_undefined_of, exclude_of}

module _ (W : ℕ) (Reads : Text → ℕ → Type 0) where
  bad_stays : (ended before after : List Text) (n : ℕ) → n ≤ length ended → IsBadLine W Reads (ended ++ before) n → IsBadLine W Reads (ended ++ after) n
  bad_stays ended before after n le (inl a) = inl (
    omega (arith, le, length-append ended after),
    (λ fit. a.1 (subst (Fit W Reads) (take-append-le n ended after le ∙ sym (take-append-le n ended before le)) fit)),
    λ k below.
        let fewer : k ≤ length ended = omega (arith, below, le) in
        subst (Fit W Reads) (take-append-le k ended before fewer ∙ sym (take-append-le k ended after fewer)) (a.2 k below),
  )
  bad_stays ended before after n le (inr a) = absurd (omega (arith, le, a.0, length-append ended before))

  malformed_stays : (front more : Text) (n : ℕ) → IsMalformed W Reads front n → IsEnded front n → IsMalformed W Reads (front ++ more) n
  malformed_stays front more n m (ended, rest, (begins, le)) =
      let before = lines_of_text rest in
      let after = lines_of_text (rest ++ more) in
      let here = begins_whole ended before.0 front rest begins before.1 in
      let bad = subst (λ (z : List Text). IsBadLine W Reads z n) (one_lines m.lines (ended ++ before.0) front m.parted here) m.bad in
      record {
        lines = ended ++ after.0;
        parted = begins_whole ended after.0 (front ++ more) (rest ++ more) (begins_further ended front rest more begins) after.1;
        bad = bad_stays ended before.0 after.0 n le bad;
      }

  pub early_stays : EarlyFaultsStay W Reads
  early_stays front more (ReadFault.Malformed n) (m, (ended, rest, (begins, le))) =
      (malformed_stays front more n m (ended, rest, (begins, le)), (ended, rest ++ more, (begins_further ended front rest more begins, le)))
  early_stays front more ReadFault.NoFilter h = absurd h
  early_stays front more (ReadFault.UndefinedChain n) h = absurd h
  early_stays front more ReadFault.Memory h = tt

module _ (W : ℕ) (Reads : Text → ℕ → Type 0)
    (one_chain : (words : List Word) (a b : Declared) → IsChainLine words a → IsChainLine words b → a ≡ b)
    (one_rule : (names : List Text) (words : List Word) (a b : RuleLine W) → IsRuleLine Reads names words a → IsRuleLine Reads names words b → a ≡ b) where
  no_dump : (text : Text) (dump : Dump (Prim_ W)) (fault : ReadFault) → IsAnswerTo W Reads text (Ok dump) → IsAnswerTo W Reads text (Err fault) → (fault ≡ ReadFault.Memory → ⊥) → ⊥
  no_dump text dump (ReadFault.Malformed n) p q some = (exclude_of W Reads one_chain one_rule text).dump_malformed dump n p.0 q.1
  no_dump text dump ReadFault.NoFilter p q some = (exclude_of W Reads one_chain one_rule text).dump_no_filter dump p.0 q.1
  no_dump text dump (ReadFault.UndefinedChain n) p q some = (exclude_of W Reads one_chain one_rule text).dump_undefined dump n p.0 q.1
  no_dump text dump ReadFault.Memory p q some = some refl

  one_fault : (text : Text) (a b : ReadFault) → IsFaultOf W Reads text a → IsFaultOf W Reads text b → (a ≡ ReadFault.Memory → ⊥) → (b ≡ ReadFault.Memory → ⊥) → a ≡ b
  one_fault text (ReadFault.Malformed m) (ReadFault.Malformed n) p q x y = ap ReadFault.Malformed (one_malformed_of W Reads one_chain one_rule text m n p q)
  one_fault text (ReadFault.Malformed m) ReadFault.NoFilter p q x y = absurd ((exclude_of W Reads one_chain one_rule text).malformed_no_filter m p q)
  one_fault text (ReadFault.Malformed m) (ReadFault.UndefinedChain n) p q x y = absurd ((exclude_of W Reads one_chain one_rule text).malformed_undefined m n p q)
  one_fault text (ReadFault.Malformed m) ReadFault.Memory p q x y = absurd (y refl)
  one_fault text ReadFault.NoFilter (ReadFault.Malformed n) p q x y = absurd ((exclude_of W Reads one_chain one_rule text).malformed_no_filter n q p)
  one_fault text ReadFault.NoFilter ReadFault.NoFilter p q x y = refl
  one_fault text ReadFault.NoFilter (ReadFault.UndefinedChain n) p q x y = absurd ((exclude_of W Reads one_chain one_rule text).no_filter_undefined n p q)
  one_fault text ReadFault.NoFilter ReadFault.Memory p q x y = absurd (y refl)
  one_fault text (ReadFault.UndefinedChain m) (ReadFault.Malformed n) p q x y = absurd ((exclude_of W Reads one_chain one_rule text).malformed_undefined n m q p)
  one_fault text (ReadFault.UndefinedChain m) ReadFault.NoFilter p q x y = absurd ((exclude_of W Reads one_chain one_rule text).no_filter_undefined m q p)
  one_fault text (ReadFault.UndefinedChain m) (ReadFault.UndefinedChain n) p q x y = ap ReadFault.UndefinedChain (one_undefined_of W Reads one_chain one_rule text m n p q)
  one_fault text (ReadFault.UndefinedChain m) ReadFault.Memory p q x y = absurd (y refl)
  one_fault text ReadFault.Memory b p q x y = absurd (x refl)

  pub one_answer_of : (text : Text) → HasOneAnswer W Reads text
  one_answer_of text (Ok a) (Ok b) p q x y = ap Ok (one_dump_of W Reads one_chain one_rule text a b p.0 q.0)
  one_answer_of text (Ok a) (Err g) p q x y = absurd (no_dump text a g p q (λ e. y (ap Err e)))
  one_answer_of text (Err f) (Ok b) p q x y = absurd (no_dump text b f q p (λ e. x (ap Err e)))
  one_answer_of text (Err f) (Err g) p q x y = ap Err (one_fault text f g p.1 q.1 (λ e. x (ap Err e)) (λ e. y (ap Err e)))
