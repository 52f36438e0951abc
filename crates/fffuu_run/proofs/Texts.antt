-- What was read of a text, where a dump was read and where a fault was.
use Rattle.std.proofs.Common.{◌≡◌, ◌⊎◌, ℕ, List, Result, Ok, Err, None, inl, inr, refl, sym, subst}
use Rattle.std.proofs.lemmas.Result.{IfOk-at_ok, IfErr-at_err}
use Rattle.primitives.specs.declared.prim.Prim_.{Prim_}
use Rattle.fw_rule.specs.declared.rule.Dump.{Dump}
use Rattle.fw_rule.specs.Calls.{HasRoom}
use Rattle.chain_graph.specs.Paths.{CallsNameChains}
use Rattle.dump_grammar.specs.Reads.{IsDump}
use Rattle.dump_read.specs.declared.fault.ReadFault.{ReadFault}
use Rattle.dump_read.specs.Answers.{IsFaultOf, IsPrintableDump}
use Rattle.simple_filter.specs.declared.refusal.Kind.{Kind}
use Rattle.simple_filter.specs.declared.refusal.Refusal.{Refusal}
use Rattle.fffuu_run.specs.Questions.{Answers, AsksChain, Comes, HasNoChain, IsToldAs, IsWithin, RefusesQuestion, RefusesText, asked_chain}
use Rattle.fffuu_run.specs.declared.status.Status.{Status}
use Rattle.fffuu_run.specs.declared.status.Status.TheVariants as status
use Rattle.request.specs.declared.types.Request.{Request}
use Rattle.fffuu_run.specs.Answers.{IsRefusedAs, RefusesMode}
use Rattle.fffuu_run.specs.inner.Readings.{HoldsOfTexts, IsOver, IsReadOf, WasRead, status_of}
use Rattle.fffuu_run.specs.inner.Plain.{HasPlainLiterals}
use Rattle.fffuu_run.proofs.DumpLemmas.{calls_named}
use Rattle.fffuu_run.proofs.PlainLiterals.{plain_dump}

module _ {W : ℕ} (Reads : List ℕ → ℕ → Type 0) (read : Result (Dump (Prim_ W)) ReadFault) where
  module _ (dump : Dump (Prim_ W)) (is : read ≡ Ok dump) where
    -- the text is the dump that was read
    pub is_dump : HoldsOfTexts W Reads read (λ text. IsDump W Reads text dump)
    is_dump text was = IfOk-at_ok (IsDump W Reads text) is was.answers.0

    pub has_room : WasRead W Reads read → HasRoom dump
    has_room (text, was) = IfOk-at_ok HasRoom is was.room

    pub has_names : WasRead W Reads read → CallsNameChains dump
    has_names (text, was) = calls_named Reads text dump (is_dump text was)

    pub has_plain : WasRead W Reads read → HasPlainLiterals dump
    has_plain (text, was) = plain_dump Reads text dump (is_dump text was)

    pub has_printable : WasRead W Reads read → IsPrintableDump dump
    has_printable (text, was) = IfOk-at_ok IsPrintableDump is was.printable

  -- the text has the fault that was read, which its status tells
  pub has_fault : (name : List ℕ) (s : Status) (fault : ReadFault) → read ≡ Err fault → s ≡ status_of fault
      → (s ≡ status.Memory) ⊎ HoldsOfTexts W Reads read (λ text. HasNoChain W Reads name text s)
  has_fault name s ReadFault.Memory was is = inl is
  has_fault name s fault was is =
      inr (λ text of. inl (subst (RefusesText W Reads text) (sym is) (IfErr-at_err (IsFaultOf W Reads text) was of.answers.1)))

  -- it has no chain of this name where the dump that was read has none
  pub has_none : (name : List ℕ) (dump : Dump (Prim_ W)) → read ≡ Ok dump → asked_chain name dump ≡ None
      → HoldsOfTexts W Reads read (λ text. HasNoChain W Reads name text status.NoChain)
  has_none name dump was none text of = inr (refl, (dump, is_dump dump was text of, none))

-- A question on what was read is one on each text of which it was read. `IsOver` says which numbers are past their limits.
module _ {W : ℕ} (Reads : List ℕ → ℕ → Type 0) (read : Result (Dump (Prim_ W)) ReadFault) (name : List ℕ) (IsOver : Dump (Prim_ W) → ℕ → Kind → Type 0) where
  pub answers_texts : (dump : Dump (Prim_ W)) (chain : ℕ) (IsAnswered : Dump (Prim_ W) → ℕ → Type 0)
      → HoldsOfTexts W Reads read (λ text. AsksChain W Reads name text dump chain) → IsWithin dump chain (IsOver dump chain) → IsAnswered dump chain
      → HoldsOfTexts W Reads read (λ text. Answers W Reads name text IsOver IsAnswered)
  answers_texts dump chain IsAnswered asks within answered text was =
      record { dump = dump; chain = chain; asked = asks text was; within = within; answered = answered }

  pub refuses_texts : (dump : Dump (Prim_ W)) (chain : ℕ) (refusal : Refusal) (s : Status)
      → HoldsOfTexts W Reads read (λ text. AsksChain W Reads name text dump chain) → Comes dump chain (IsOver dump chain) refusal
      → (s ≡ status.Memory) ⊎ IsToldAs dump refusal s
      → (s ≡ status.Memory) ⊎ HoldsOfTexts W Reads read (λ text. RefusesQuestion W Reads name text IsOver s)
  refuses_texts dump chain refusal s asks comes (inl memory) = inl memory
  refuses_texts dump chain refusal s asks comes (inr told) = inr (λ text was. inr (dump, chain, asks text was, (refusal, comes, told)))

  pub misses_texts : (s : Status) → (s ≡ status.Memory) ⊎ HoldsOfTexts W Reads read (λ text. HasNoChain W Reads name text s)
      → (s ≡ status.Memory) ⊎ HoldsOfTexts W Reads read (λ text. RefusesQuestion W Reads name text IsOver s)
  misses_texts s (inl memory) = inl memory
  misses_texts s (inr none) = inr (λ text was. inl (none text was))

-- what holds whatever was read holds of each text of which it was read
module _ {W : ℕ} (Reads : List ℕ → ℕ → Type 0) (read : Result (Dump (Prim_ W)) ReadFault) where
  pub of_each_text : (s : Status) (Is : Type 0) → (s ≡ status.Memory) ⊎ Is → (s ≡ status.Memory) ⊎ HoldsOfTexts W Reads read (λ text. Is)
  of_each_text s Is (inl memory) = inl memory
  of_each_text s Is (inr is) = inr (λ text was. is)

-- what refuses a mode over a family refuses the request
module _ {W : ℕ} (Reads : List ℕ → ℕ → Type 0) (text_of : ℕ → List ℕ) (read : Result (Dump (Prim_ W)) ReadFault) (request : Request) (over : IsOver request W Reads text_of) where
  pub refused_as : (text : List ℕ) (s : Status) → IsReadOf W Reads text read
      → (s ≡ status.Memory) ⊎ HoldsOfTexts W Reads read (λ text. RefusesMode W Reads text_of request.mode request.chain text s)
      → (s ≡ status.Memory) ⊎ IsRefusedAs request text s
  refused_as text s was (inl memory) = inl memory
  refused_as text s was (inr refused) = inr (over.refuses text s (refused text was))
