-- A question on a text has one cause of refusal at most, and none where it has an answer.
use Rattle.std.proofs.Common.{◌≡◌, ◌∙◌, ℕ, List, None, Some, refl, inl, inr, ap, subst, sym}
use Rattle.primitives.specs.declared.prim.Prim_.{Prim_}
use Rattle.dump_read.specs.Laws.{ExcludeEachOther, HasOneDump, HasOneMalformedLine, HasOneUndefinedLine}
use Rattle.dump_grammar.specs.Reads.{IsDump}
use Rattle.fw_rule.specs.declared.rule.Dump.{Dump}
use Rattle.simple_filter.specs.declared.refusal.Kind.{Kind}
use Rattle.simple_filter.specs.declared.refusal.Refusal.{Refusal}
use Rattle.fffuu_run.specs.Questions.{Answers, AsksChain, Comes, HasNoChain, IsToldAs, RefusesQuestion, RefusesText, asked_chain}
use Rattle.fffuu_run.specs.declared.status.Status.{Status}
use Rattle.fffuu_run.specs.declared.status.Status.TheVariants as status
use Rattle.fffuu_run.proofs.DumpLemmas.{one_rule}
use Rattle.fffuu_run.proofs.Options.{none_or_some, one_some}
use Rattle.fffuu_run.proofs.Refusals.{none_told, one_told}

-- what is known of the reading of texts
pub record ReadingLaws (W : ℕ) (Reads : List ℕ → ℕ → Type 0) : Type 0 where
  pub one_dump : (text : List ℕ) → HasOneDump W Reads text
  pub one_malformed : (text : List ℕ) → HasOneMalformedLine W Reads text
  pub one_undefined : (text : List ℕ) → HasOneUndefinedLine W Reads text
  pub exclude : (text : List ℕ) → ExcludeEachOther W Reads text

-- a status that tells why a text has no answer
abbrev pub IsRefusal : Status → Type 0
IsRefusal status.Ok = ⊥
IsRefusal status.Usage = ⊥
IsRefusal status.ReadFault = ⊥
IsRefusal status.WriteFault = ⊥
IsRefusal status.InputTooLong = ⊥
IsRefusal status.Memory = ⊥
IsRefusal s = Unit {0}

-- one status at most refuses a question, none does where there is an answer, and each tells why
pub record IsSettled (IsRefused : Status → Type 0) (IsAnswered : List ℕ → Type 0) : Type 0 where
  pub one : (s t : Status) → IsRefused s → IsRefused t → s ≡ t
  pub none : (written : List ℕ) (s : Status) → IsAnswered written → IsRefused s → ⊥
  pub cause : (s : Status) → IsRefused s → IsRefusal s

told_refusal : {P : Type 0} (dump : Dump P) (r : Refusal) (s : Status) → IsToldAs dump r s → IsRefusal s
told_refusal dump (Refusal.Unsupported line target) s is = subst IsRefusal (sym is) tt
told_refusal dump (Refusal.Loop c) s (name, named, is) = subst IsRefusal (sym is) tt
told_refusal dump (Refusal.Limit k) s is = subst IsRefusal (sym is) tt
told_refusal dump Refusal.Memory s is = absurd is

module _ {W : ℕ} {Reads : List ℕ → ℕ → Type 0} (laws : ReadingLaws W Reads) where
  -- a text that is no dump is none for one cause
  one_fault : (text : List ℕ) (s t : Status) → RefusesText W Reads text s → RefusesText W Reads text t → s ≡ t
  one_fault text (status.Malformed m) (status.Malformed n) p q = ap status.Malformed (laws.one_malformed text m n p q)
  one_fault text (status.Malformed m) status.NoFilter p q = absurd ((laws.exclude text).malformed_no_filter m p q)
  one_fault text (status.Malformed m) (status.UndefinedChain n) p q = absurd ((laws.exclude text).malformed_undefined m n p q)
  one_fault text (status.Malformed m) t p q = absurd q
  one_fault text status.NoFilter (status.Malformed n) p q = absurd ((laws.exclude text).malformed_no_filter n q p)
  one_fault text status.NoFilter status.NoFilter p q = refl
  one_fault text status.NoFilter (status.UndefinedChain n) p q = absurd ((laws.exclude text).no_filter_undefined n p q)
  one_fault text status.NoFilter t p q = absurd q
  one_fault text (status.UndefinedChain m) (status.Malformed n) p q = absurd ((laws.exclude text).malformed_undefined n m q p)
  one_fault text (status.UndefinedChain m) status.NoFilter p q = absurd ((laws.exclude text).no_filter_undefined m q p)
  one_fault text (status.UndefinedChain m) (status.UndefinedChain n) p q = ap status.UndefinedChain (laws.one_undefined text m n p q)
  one_fault text (status.UndefinedChain m) t p q = absurd q
  one_fault text s t p q = absurd p

  -- a dump isn't refused
  not_both : (text : List ℕ) (dump : Dump (Prim_ W)) (s : Status) → IsDump W Reads text dump → RefusesText W Reads text s → ⊥
  not_both text dump (status.Malformed n) reads r = (laws.exclude text).dump_malformed dump n reads r
  not_both text dump status.NoFilter reads r = (laws.exclude text).dump_no_filter dump reads r
  not_both text dump (status.UndefinedChain n) reads r = (laws.exclude text).dump_undefined dump n reads r
  not_both text dump s reads r = r

  text_refusal : (text : List ℕ) (s : Status) → RefusesText W Reads text s → IsRefusal s
  text_refusal text (status.Malformed n) r = tt
  text_refusal text status.NoFilter r = tt
  text_refusal text (status.UndefinedChain n) r = tt
  text_refusal text s r = absurd r

  module _ (name text : List ℕ) where
    -- a text has no such chain for one cause at most, and for none where it has it
    one_missing : (s t : Status) → HasNoChain W Reads name text s → HasNoChain W Reads name text t → s ≡ t
    one_missing s t (inl fault) (inl other) = one_fault text s t fault other
    one_missing s t (inl fault) (inr (is, (dump, reads, none))) = absurd (not_both text dump s reads fault)
    one_missing s t (inr (is, (dump, reads, none))) (inl fault) = absurd (not_both text dump t reads fault)
    one_missing s t (inr p) (inr q) = p.0 ∙ sym q.0

    not_missing : (dump : Dump (Prim_ W)) (chain : ℕ) (s : Status) → AsksChain W Reads name text dump chain → HasNoChain W Reads name text s → ⊥
    not_missing dump chain s (reads, there) (inl fault) = not_both text dump s reads fault
    not_missing dump chain s (reads, there) (inr (is, (other, reads', none))) =
        let same : other ≡ dump = laws.one_dump text other dump reads' reads in
        none_or_some (asked_chain name dump) chain (subst (λ (d : Dump (Prim_ W)). asked_chain name d ≡ None) same none) there

    module _ (IsOver : Dump (Prim_ W) → ℕ → Kind → Type 0) where
      abbrev IsTold : Dump (Prim_ W) → ℕ → Status → Type 0
      IsTold dump chain s = (r : Refusal) × Comes dump chain (IsOver dump chain) r × IsToldAs dump r s

      -- what is told of the chain in one dump and number is told of it in the other
      moved : (dump dump' : Dump (Prim_ W)) (chain chain' : ℕ) (s : Status) → AsksChain W Reads name text dump chain
          → AsksChain W Reads name text dump' chain' → IsTold dump' chain' s → IsTold dump chain s
      moved dump dump' chain chain' s (reads, there) (reads', there') told =
          let dumps : dump' ≡ dump = laws.one_dump text dump' dump reads' reads in
          let found : asked_chain name dump ≡ Some chain' = subst (λ (d : Dump (Prim_ W)). asked_chain name d ≡ Some chain') dumps there' in
          let chains : chain' ≡ chain = one_some (asked_chain name dump) chain' chain found there in
          subst (λ (c : ℕ). IsTold dump c s) chains (subst (λ (d : Dump (Prim_ W)). IsTold d chain' s) dumps told)

      pub one_question : (s t : Status) → RefusesQuestion W Reads name text IsOver s → RefusesQuestion W Reads name text IsOver t → s ≡ t
      one_question s t (inl missing) (inl other) = one_missing s t missing other
      one_question s t (inl missing) (inr (dump, chain, asked, told)) = absurd (not_missing dump chain s asked missing)
      one_question s t (inr (dump, chain, asked, told)) (inl missing) = absurd (not_missing dump chain t asked missing)
      one_question s t (inr (dump, chain, asked, told)) (inr (dump', chain', asked', told')) =
          one_told dump chain (IsOver dump chain) (one_rule Reads text dump asked.0) s t told
          (moved dump dump' chain chain' t asked asked' told')

      pub no_question : (IsAnswered : Dump (Prim_ W) → ℕ → Type 0) → Answers W Reads name text IsOver IsAnswered → (s : Status)
          → RefusesQuestion W Reads name text IsOver s → ⊥
      no_question IsAnswered a s (inl missing) = not_missing a.dump a.chain s a.asked missing
      no_question IsAnswered a s (inr (dump, chain, asked, told)) =
          none_told a.dump a.chain (IsOver a.dump a.chain) a.within s (moved a.dump dump a.chain chain s a.asked asked told)

      pub question_refusal : (s : Status) → RefusesQuestion W Reads name text IsOver s → IsRefusal s
      question_refusal s (inl (inl fault)) = text_refusal text s fault
      question_refusal s (inl (inr (is, none))) = subst IsRefusal (sym is) tt
      question_refusal s (inr (dump, chain, asked, (r, comes, told))) = told_refusal dump r s told

      -- so a question is settled, whatever is answered
      pub settled : (IsAnswered : List ℕ → Dump (Prim_ W) → ℕ → Type 0) → IsSettled (λ s. RefusesQuestion W Reads name text IsOver s)
          (λ written. Answers W Reads name text IsOver (IsAnswered written))
      settled IsAnswered = record {
        one = one_question;
        none = λ written s a r. no_question (IsAnswered written) a s r;
        cause = question_refusal;
      }
