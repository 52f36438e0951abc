-- What follows from the end of a run.
use Rattle.std.proofs.Common.{◌≡◌, ◌∙◌, ◌⊎◌, ◌<◌, ◌≤◌, ◌++◌, ℕ, Bool, true, false, List, Option, Some, None, IfSome, refl, inl, inr, arith, ap, sym, subst, length, length-append, append-nil}
use Rattle.limits.specs.declared.TheConstants.{MOST_BYTES}
use Rattle.request.specs.Requests.{Spells}
use Rattle.request.proofs.RequestLaws.{spells_once}
use Rattle.request.specs.declared.types.Mode.{Mode}
use Rattle.request.specs.declared.types.Mode.TheVariants as mode
use Rattle.request.specs.declared.types.Request.{Request}
use Rattle.fffuu_run.specs.Lines.{line_of}
use Rattle.fffuu_run.specs.Answers.{IsAnswer, IsOutputIn, IsRefusedAs, RefusesModeIn}
use Rattle.fffuu_run.specs.Runs.{AnswersTo, Device, Devices, GivesFor, IsDue, IsPassed, IsRead, IsReported, IsRun, IsRunOf, IsStatusOf, KeepsSink, ReadsTooMuch, ReadsWhole, StandsFor, Streams, WritesLine}
use Rattle.fffuu_run.specs.declared.status.Status.{Status}
use Rattle.fffuu_run.specs.declared.status.Status.TheVariants as status
use Rattle.fffuu_run.proofs.Causes.{is_refusal, no_cause, one_cause}
use Rattle.fffuu_run.proofs.Settled.{IsRefusal}

-- what was read to the end is what was left
whole_text : (left new : Option (List ℕ)) (bytes text : List ℕ) → left ≡ Some bytes → ReadsWhole left new text → text ≡ bytes
whole_text None new bytes text is w = absurd (cc)
whole_text (Some old) None bytes text is w = absurd w.taken
whole_text (Some old) (Some rest) bytes text is w =
    let same : old ≡ bytes = cc in
    sym (w.taken ∙ ap (λ r. text ++ r) w.end ∙ append-nil text) ∙ same

-- where too much was taken, more than the most was left
long_text : (left new : Option (List ℕ)) (bytes text : List ℕ) → left ≡ Some bytes → ReadsTooMuch left new text → MOST_BYTES < length bytes
long_text None new bytes text is w = absurd (cc)
long_text (Some old) None bytes text is w = absurd w.taken
long_text (Some old) (Some rest) bytes text is w =
    let same : old ≡ bytes = cc in
    omega (arith, ap length (sym same ∙ w.taken), length-append text rest, w.long)

-- words spell one request
pub one_request : (words : List (List ℕ)) (r s : Request) → Spells words r → Spells words s → r ≡ s
one_request words r s a b = spells_once words r s a b

stays : (first s : Status) → IsReported first s → (s ≡ first) ⊎ (s ≡ status.Memory)
stays first s (inl is) = inl is
stays first s (inr (built, memory)) = inr memory

if_some : {A : Type 0} (o : Option A) (P : A → Type 0) → ((x : A) → o ≡ Some x → P x) → IfSome o P
if_some None P each = tt
if_some (Some x) P each = each x refl

-- a mode reads its text, or is a load
read_or_load : (m : Mode) → IsRead m ⊎ ((n : ℕ) × (m ≡ mode.Load n))
read_or_load mode.Check = inl tt
read_or_load mode.Upper = inl tt
read_or_load mode.Lower = inl tt
read_or_load (mode.Matrix service side zones hops) = inl tt
read_or_load (mode.Zones claims) = inl tt
read_or_load (mode.Routes hops) = inl tt
read_or_load (mode.Spoof claims) = inl tt
read_or_load (mode.Explain p) = inl tt
read_or_load (mode.Load n) = inr (n, refl)
read_or_load mode.Cover = inl tt

takes_whole : (m : Mode) (old new : Device) (text : List ℕ) → IsRead m → AnswersTo m old new text → ReadsWhole old.bytes new.bytes text
takes_whole (mode.Load n) old new text read takes = absurd read
takes_whole m old new text read takes = takes

-- a load has the same answer and the same refusals whatever the text is
load_refuses : (six : Bool) (n : ℕ) (name text bytes : List ℕ) (cause : Status) → RefusesModeIn six (mode.Load n) name text cause
    → RefusesModeIn six (mode.Load n) name bytes cause
load_refuses false n name text bytes cause r = r
load_refuses true n name text bytes cause r = r

load_answers : (six : Bool) (n : ℕ) (name text bytes written : List ℕ) → IsOutputIn six (mode.Load n) name text written
    → IsOutputIn six (mode.Load n) name bytes written
load_answers false n name text bytes written o = o
load_answers true n name text bytes written o = o

-- The status that is due is decided by one case: two are due at once only where they are the same.
module _ (r : Request) (bytes : List ℕ) where
  due_refused : (cause due : Status) → IsRefusedAs r bytes cause → (IsRead r.mode → length bytes ≤ MOST_BYTES) → IsDue r bytes due → due ≡ cause
  due_refused cause status.InputTooLong because short (read, long) = absurd (omega (arith, short read, long))
  due_refused cause status.Ok because short (s, none) = absurd (none cause because)
  due_refused cause due because short (s, other) = one_cause r bytes due cause other because

  due_answered : (written : List ℕ) (due : Status) → IsAnswer r bytes written → (IsRead r.mode → length bytes ≤ MOST_BYTES) → IsDue r bytes due → due ≡ status.Ok
  due_answered written status.InputTooLong answer short (read, long) = absurd (omega (arith, short read, long))
  due_answered written status.Ok answer short d = refl
  due_answered written due answer short (s, because) = absurd (no_cause r bytes written due answer because)

  due_long : (due : Status) → IsRead r.mode → MOST_BYTES < length bytes → IsDue r bytes due → due ≡ status.InputTooLong
  due_long status.InputTooLong read long d = refl
  due_long due read long (short, rest) = absurd (omega (arith, short read, long))

-- the text of a refusal or an answer may be taken for all that the source had
module _ (r : Request) (old new : Device) (bytes text : List ℕ) (is : old.bytes ≡ Some bytes) (takes : AnswersTo r.mode old new text) where
  read_so : IsRead r.mode → text ≡ bytes
  read_so read = whole_text old.bytes new.bytes bytes text is (takes_whole r.mode old new text read takes)

  refused_so : (cause : Status) → IsRefusedAs r text cause → IsRefusedAs r bytes cause
  refused_so cause refuses = elim (read_or_load r.mode) [
    | inl read ↦ subst (λ (t : List ℕ). IsRefusedAs r t cause) (read_so read) refuses
    | inr (n, load) ↦ subst (λ (m : Mode). RefusesModeIn r.six m r.chain bytes cause) (sym load)
        (load_refuses r.six n r.chain text bytes cause (subst (λ (m : Mode). RefusesModeIn r.six m r.chain text cause) load refuses))
  ]

  answered_so : (written : List ℕ) → IsAnswer r text written → IsAnswer r bytes written
  answered_so written answer = elim (read_or_load r.mode) [
    | inl read ↦ subst (λ (t : List ℕ). IsAnswer r t written) (read_so read) answer
    | inr (n, load) ↦ subst (λ (m : Mode). IsOutputIn r.six m r.chain bytes written) (sym load)
        (load_answers r.six n r.chain text bytes written (subst (λ (m : Mode). IsOutputIn r.six m r.chain text written) load answer))
  ]

  -- a mode that reads takes no text that is too long
  taken_short : IsRead r.mode → length bytes ≤ MOST_BYTES
  taken_short read =
      let whole = takes_whole r.mode old new text read takes in
      omega (arith, whole.short, ap length (read_so read))

module _ (m : Mode) (s : Status) where
  -- the status stands for the one that was reported
  stands : (first due : Status) → IsReported first s → due ≡ first → StandsFor m due s
  stands first due settled is = elim (stays first s settled) [ inl same ↦ inl (same ∙ sym is) | inr memory ↦ inr (inr (inr memory)) ]

  stands_failed : (first due : Status) → IsReported first s → IsRead m → first ≡ status.ReadFault → StandsFor m due s
  stands_failed first due settled read is = elim (stays first s settled) [
    | inl same ↦ inr (inr (inl (read, same ∙ is)))
    | inr memory ↦ inr (inr (inr memory))
  ]

  stands_unwritten : (due : Status) → IsReported status.WriteFault s → due ≡ status.Ok → StandsFor m due s
  stands_unwritten due settled is = elim (stays status.WriteFault s settled) [
    | inl same ↦ inr (inl (is, same))
    | inr memory ↦ inr (inr (inr memory))
  ]

module _ (r : Request) (old new : Devices) (bytes : List ℕ) (is : old.source.bytes ≡ Some bytes) where
  -- a refusal that the text has decides
  by_refusal : (text : List ℕ) (cause s : Status) → AnswersTo r.mode old.source new.source text → IsRefusedAs r text cause
      → IsReported cause s → IsStatusOf r bytes s
  by_refusal text cause s takes refuses settled due is_due =
      let because = refused_so r old.source new.source bytes text is takes cause refuses in
      stands r.mode s cause due settled (due_refused r bytes cause due because (taken_short r old.source new.source bytes text is takes) is_due)

  -- so does an answer that it has
  by_answer : (text written : List ℕ) (due : Status) → AnswersTo r.mode old.source new.source text → IsAnswer r text written → IsDue r bytes due
      → due ≡ status.Ok
  by_answer text written due takes answer is_due =
      due_answered r bytes written due (answered_so r old.source new.source bytes text is takes written answer)
      (taken_short r old.source new.source bytes text is takes) is_due

  works_so : (first s : Status) → IsRunOf r old new first → IsReported first s → IsStatusOf r bytes s
  works_so status.Ok s (text, written, takes, answer, held) settled due is_due =
      stands r.mode s status.Ok due settled (by_answer text written due takes answer is_due)
  works_so status.Usage s works settled due is_due = absurd works
  works_so status.ReadFault s (read, rose, kept) settled due is_due = stands_failed r.mode s status.ReadFault due settled read refl
  works_so status.WriteFault s (text, written, sent, rest, takes, answer, rose, part) settled due is_due =
      stands_unwritten r.mode s due settled (by_answer text written due takes answer is_due)
  works_so status.InputTooLong s (read, text, much, kept) settled due is_due =
      stands r.mode s status.InputTooLong due settled
      (due_long r bytes due read (long_text old.source.bytes new.source.bytes bytes text is much) is_due)
  works_so status.Memory s kept settled due is_due =
      inr (inr (inr (elim (stays status.Memory s settled) [ inl same ↦ same | inr same ↦ same ])))
  works_so first s works settled due is_due = by_refusal works.0 first s works.1 works.2 settled due is_due

decided : (words : List (List ℕ)) (old new : Devices) (first s : Status) → IsRun words old new first → IsReported first s
    → (r : Request) → Spells words r → (bytes : List ℕ) → old.source.bytes ≡ Some bytes → IsStatusOf r bytes s
decided words old new status.Usage s (none, same) settled r spells bytes is = absurd (none r spells)
decided words old new status.Memory s kept settled r spells bytes is = works_so r old new bytes is status.Memory s kept settled
decided words old new first s e settled r spells bytes is =
    works_so r old new bytes is first s (subst (λ (q : Request). IsRunOf q old new first) (one_request words e.0 r e.1 spells) e.2) settled

pub exact : (words : List (List ℕ)) (old new : Devices) (first s : Status) → IsRun words old new first → IsReported first s
    → (r : Request) → Spells words r → IfSome old.source.bytes (λ text. IsStatusOf r text s)
exact words old new first s e settled r spells =
    if_some old.source.bytes (λ text. IsStatusOf r text s) (decided words old new first s e settled r spells)

-- a text that has no answer leaves the sink as it was
told : (request : Request) (old new : Devices) (text : List ℕ) (s : Status) → AnswersTo request.mode old.source new.source text
    → KeepsSink old new → IsRefusedAs request text s → IsRefusal s → IsRunOf request old new s
told request old new text status.Ok whole kept refuses kind = absurd kind
told request old new text status.Usage whole kept refuses kind = absurd kind
told request old new text status.ReadFault whole kept refuses kind = absurd kind
told request old new text status.WriteFault whole kept refuses kind = absurd kind
told request old new text status.InputTooLong whole kept refuses kind = absurd kind
told request old new text status.Memory whole kept refuses kind = kept
told request old new text s whole kept refuses kind = (text, whole, refuses, kept)

pub refusal_works : (request : Request) (old new : Devices) (text : List ℕ) (s : Status) → AnswersTo request.mode old.source new.source text
    → KeepsSink old new → (s ≡ status.Memory) ⊎ IsRefusedAs request text s → IsRunOf request old new s
refusal_works request old new text s whole kept (inl memory) = subst (IsRunOf request old new) (sym memory) kept
refusal_works request old new text s whole kept (inr refuses) = told request old new text s whole kept refuses (is_refusal request text s refuses)

-- so it is where the text is what was given
told_of : (request : Request) (old new : Streams) (text : List ℕ) (s : Status) → GivesFor request.mode old.source new.source text
    → new.acknowledged ≡ old.acknowledged → IsRefusedAs request text s → IsRefusal s → IsPassed request old new s
told_of request old new text status.Ok whole kept refuses kind = absurd kind
told_of request old new text status.Usage whole kept refuses kind = absurd kind
told_of request old new text status.ReadFault whole kept refuses kind = absurd kind
told_of request old new text status.WriteFault whole kept refuses kind = absurd kind
told_of request old new text status.InputTooLong whole kept refuses kind = absurd kind
told_of request old new text status.Memory whole kept refuses kind = kept
told_of request old new text s whole kept refuses kind = (text, whole, refuses, kept)

pub refusal_passes : (request : Request) (old new : Streams) (text : List ℕ) (s : Status) → GivesFor request.mode old.source new.source text
    → new.acknowledged ≡ old.acknowledged → (s ≡ status.Memory) ⊎ IsRefusedAs request text s → IsPassed request old new s
refusal_passes request old new text s whole kept (inl memory) = subst (IsPassed request old new) (sym memory) kept
refusal_passes request old new text s whole kept (inr refuses) = told_of request old new text s whole kept refuses (is_refusal request text s refuses)

-- the asked name stands in the line of one status alone
same_line : (a b : List ℕ) (s : Status) → (s ≡ status.NoChain → a ≡ b) → line_of a s ≡ line_of b s
same_line a b status.NoChain same = ap (λ (name : List ℕ). line_of name status.NoChain) (same refl)
same_line a b s same = refl

no_chain : (first s : Status) → IsReported first s → s ≡ status.NoChain → first ≡ status.NoChain
no_chain first s (inl same) is = sym same ∙ is
no_chain first s (inr (built, memory)) is = absurd (let f : status.Memory ≡ status.NoChain = sym memory ∙ is in cc)

-- so a front of the line with the right name was written
pub told_named : (old new : Device) (a b : List ℕ) (first s : Status) → (first ≡ status.NoChain → a ≡ b) → IsReported first s
    → (sent rest : List ℕ) × WritesLine old new (line_of a s) sent rest → (sent rest : List ℕ) × WritesLine old new (line_of b s) sent rest
told_named old new a b first s same settled told =
    subst (λ (line : List ℕ). (sent rest : List ℕ) × WritesLine old new line sent rest) (same_line a b s (λ is. same (no_chain first s settled is))) told

-- a status that tells why there is no answer, or want of memory, isn't that of words that spell no request
pub not_usage : (request : Request) (text : List ℕ) (s : Status) → (s ≡ status.Memory) ⊎ IsRefusedAs request text s → s ≡ status.Usage → ⊥
not_usage request text s (inl memory) is = absurd (let wrong : status.Memory ≡ status.Usage = sym memory ∙ is in cc)
not_usage request text s (inr refuses) is = subst IsRefusal is (is_refusal request text s refuses)
