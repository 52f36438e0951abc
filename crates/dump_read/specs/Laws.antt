-- Laws of the grammar of dumps: what a text can be, it is in one way.
use Rattle.std.specs.Prelude.{ℕ, ◌≡◌, List, ◌++◌, Result, Err, IfErr, IfOk}
use Rattle.primitives.specs.declared.prim.Prim_.{Prim_}
use Rattle.fw_rule.specs.declared.rule.Dump.{Dump}
use Rattle.dump_grammar.specs.Lines.{Text}
use Rattle.dump_grammar.specs.Tables.{Fit}
use Rattle.dump_grammar.specs.Reads.{IsDump, IsMalformed, HasNoFilter, IsUndefinedLine}
use Rattle.dump_read.specs.declared.fault.ReadFault.{ReadFault}
use Rattle.dump_read.specs.Answers.{IsFaultOf}
use Rattle.dump_read.specs.Pieces.{IsEarlyFaultOf}

module _ (W : ℕ) (Reads : Text → ℕ → Type 0) where
  -- a text is at most one dump
  abbrev pub HasOneDump : Text → Type 0
  HasOneDump text = (a b : Dump (Prim_ W)) → IsDump W Reads text a → IsDump W Reads text b → a ≡ b

  -- at most one line is the first that is wrong
  abbrev pub HasOneMalformedLine : Text → Type 0
  HasOneMalformedLine text = (m n : ℕ) → IsMalformed W Reads text m → IsMalformed W Reads text n → m ≡ n

  -- at most one line is the undefined one
  abbrev pub HasOneUndefinedLine : Text → Type 0
  HasOneUndefinedLine text = (m n : ℕ) → IsUndefinedLine W Reads text m → IsUndefinedLine W Reads text n → m ≡ n

  -- a text is no two of these: a dump, malformed, without a filter, with an undefined line
  pub record ExcludeEachOther (text : Text) : Type 0 where
    pub dump_malformed : (dump : Dump (Prim_ W)) (n : ℕ) → IsDump W Reads text dump → IsMalformed W Reads text n → ⊥
    pub dump_no_filter : (dump : Dump (Prim_ W)) → IsDump W Reads text dump → HasNoFilter W Reads text → ⊥
    pub dump_undefined : (dump : Dump (Prim_ W)) (n : ℕ) → IsDump W Reads text dump → IsUndefinedLine W Reads text n → ⊥
    pub malformed_no_filter : (n : ℕ) → IsMalformed W Reads text n → HasNoFilter W Reads text → ⊥
    pub malformed_undefined : (m n : ℕ) → IsMalformed W Reads text m → IsUndefinedLine W Reads text n → ⊥
    pub no_filter_undefined : (n : ℕ) → HasNoFilter W Reads text → IsUndefinedLine W Reads text n → ⊥

  -- lines that fit still do where lines at their end are left out
  abbrev pub FrontsFit : Type 0
  FrontsFit = (front more : List Text) → Fit W Reads (front ++ more) → Fit W Reads front

  -- the dump that the text is, or its own fault
  abbrev pub IsAnswerTo : Text → Result (Dump (Prim_ W)) ReadFault → Type 0
  IsAnswerTo text answer = IfOk answer (IsDump W Reads text) × IfErr answer (IsFaultOf W Reads text)

  -- a text has one answer, but for want of memory
  abbrev pub HasOneAnswer : Text → Type 0
  HasOneAnswer text = (a b : Result (Dump (Prim_ W)) ReadFault) → IsAnswerTo text a → IsAnswerTo text b
      → (a ≡ Err ReadFault.Memory → ⊥) → (b ≡ Err ReadFault.Memory → ⊥) → a ≡ b

  -- a fault that is told before the end of a text stays one, whatever follows
  abbrev pub EarlyFaultsStay : Type 0
  EarlyFaultsStay =
      (front more : Text) (fault : ReadFault) → IsEarlyFaultOf W Reads front fault → IsEarlyFaultOf W Reads (front ++ more) fault
