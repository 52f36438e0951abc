-- How a run ends, by its status.
use Rattle.std.specs.Prelude.{◌≡◌, ◌<◌, ◌≤◌, ◌+◌, ◌++◌, ◌⊎◌, [], ℕ, Bool, true, List, Option, length}
use Rattle.std.specs.Io.KnownBytes.{Appends, Consumes, IsAtEnd}
use Rattle.fw_io.specs.Causes.{Rose}
use Rattle.limits.specs.declared.TheConstants.{MOST_BYTES}
use Rattle.request.specs.Requests.{Spells}
use Rattle.request.specs.declared.types.Mode.{Mode}
use Rattle.request.specs.declared.types.Mode.TheVariants as mode
use Rattle.request.specs.declared.types.Request.{Request}
use Rattle.fffuu_run.specs.Answers.{IsAnswer, IsRefusedAs}
use Rattle.fffuu_run.specs.Lines.{IsBuilt}
use Rattle.fffuu_run.specs.declared.status.Status.{Status}
use Rattle.fffuu_run.specs.declared.status.Status.TheVariants as status

-- what a source or a sink tells at one moment: the bytes that are left or held, where it tells them, and how often it
-- has failed
pub record Device : Type 0 where
  pub bytes : Option (List ℕ)
  pub faults : ℕ

-- the source and the sink
pub record Devices : Type 0 where
  pub source : Device
  pub sink : Device

-- the text is all that the source gave, up to its end
pub record ReadsWhole (old new : Option (List ℕ)) (text : List ℕ) : Type 0 where
  pub taken : Consumes old new text
  pub end : IsAtEnd new
  pub short : length text ≤ MOST_BYTES

-- a mode that reads its text
abbrev pub IsRead : Mode → Type 0
IsRead (mode.Load n) = ⊥
IsRead m = Unit {0}

-- the mode answers to this text: it is all that the source gave; a load leaves the source as it was, and looks at no
-- text
abbrev pub AnswersTo : Mode → Device → Device → List ℕ → Type 0
AnswersTo (mode.Load n) old new text = (new.bytes ≡ old.bytes) × (new.faults ≡ old.faults)
AnswersTo m old new text = ReadsWhole old.bytes new.bytes text

-- a text that is one byte too long was taken
pub record ReadsTooMuch (old new : Option (List ℕ)) (text : List ℕ) : Type 0 where
  pub taken : Consumes old new text
  pub long : length text ≡ MOST_BYTES + 1

-- the sink holds what it held, and no fault came
pub record KeepsSink (old new : Devices) : Type 0 where
  pub held : new.sink.bytes ≡ old.sink.bytes
  pub faults : new.sink.faults ≡ old.sink.faults

-- less than the whole text was appended
pub record AppendsPart (old new : Option (List ℕ)) (text sent rest : List ℕ) : Type 0 where
  pub sent_is : Appends old new sent
  pub split : text ≡ sent ++ rest
  pub proper : 0 < length rest

-- a front of the line was written, all of it where no write failed
pub record WritesLine (old new : Device) (line sent rest : List ℕ) : Type 0 where
  pub sent_is : Appends old.bytes new.bytes sent
  pub split : line ≡ sent ++ rest
  pub whole : (Rose old.faults new.faults → ⊥) → rest ≡ []

-- what a status says of a run of a request
abbrev pub IsRunOf : Request → Devices → Devices → Status → Type 0
IsRunOf request old new status.Ok = (text written : List ℕ) × AnswersTo request.mode old.source new.source text
    × IsAnswer request text written × Appends old.sink.bytes new.sink.bytes written
IsRunOf request old new status.Usage = ⊥
IsRunOf request old new status.ReadFault =
    IsRead request.mode × Rose old.source.faults new.source.faults × KeepsSink old new
IsRunOf request old new status.InputTooLong = IsRead request.mode
    × (text : List ℕ) × ReadsTooMuch old.source.bytes new.source.bytes text × KeepsSink old new
IsRunOf request old new status.WriteFault = (text written sent rest : List ℕ)
    × AnswersTo request.mode old.source new.source text
    × IsAnswer request text written × Rose old.sink.faults new.sink.faults
    × AppendsPart old.sink.bytes new.sink.bytes written sent rest
IsRunOf request old new status.Memory = KeepsSink old new
IsRunOf request old new s = (text : List ℕ) × AnswersTo request.mode old.source new.source text
    × IsRefusedAs request text s × KeepsSink old new

-- what a source gave so far, and whether the last read that asked for bytes gave none
pub record Intake : Type 0 where
  pub given : List ℕ
  pub ended : Bool

-- the same, and what a sink acknowledged so far
pub record Streams : Type 0 where
  pub source : Intake
  pub acknowledged : List ℕ

-- the reads gave the text, up to one that gave none
pub record GivesWhole (old new : Intake) (text : List ℕ) : Type 0 where
  pub given : new.given ≡ old.given ++ text
  pub ended : new.ended ≡ true
  pub short : length text ≤ MOST_BYTES

-- the reads gave the text that the mode answers to; for a load there was no read, and the text is any
abbrev pub GivesFor : Mode → Intake → Intake → List ℕ → Type 0
GivesFor (mode.Load n) old new text = (new.given ≡ old.given) × (new.ended ≡ old.ended)
GivesFor m old new text = GivesWhole old new text

-- the reads gave a text that is one byte too long
pub record GivesTooMuch (old new : Intake) (text : List ℕ) : Type 0 where
  pub given : new.given ≡ old.given ++ text
  pub long : length text ≡ MOST_BYTES + 1

-- the writes acknowledged less than the whole text
pub record AcknowledgesPart (old new text sent rest : List ℕ) : Type 0 where
  pub acknowledged : new ≡ old ++ sent
  pub split : text ≡ sent ++ rest
  pub proper : 0 < length rest

-- what a status says of what went by in a run of a request
abbrev pub IsPassed : Request → Streams → Streams → Status → Type 0
IsPassed request old new status.Ok = (text written : List ℕ) × GivesFor request.mode old.source new.source text
    × IsAnswer request text written × (new.acknowledged ≡ old.acknowledged ++ written)
IsPassed request old new status.Usage = ⊥
IsPassed request old new status.ReadFault = IsRead request.mode × (new.acknowledged ≡ old.acknowledged)
IsPassed request old new status.InputTooLong = IsRead request.mode
    × (text : List ℕ) × GivesTooMuch old.source new.source text × (new.acknowledged ≡ old.acknowledged)
IsPassed request old new status.WriteFault = (text written sent rest : List ℕ) × GivesFor request.mode old.source new.source text
    × IsAnswer request text written × AcknowledgesPart old.acknowledged new.acknowledged written sent rest
IsPassed request old new status.Memory = new.acknowledged ≡ old.acknowledged
IsPassed request old new s = (text : List ℕ) × GivesFor request.mode old.source new.source text
    × IsRefusedAs request text s × (new.acknowledged ≡ old.acknowledged)

-- the statuses with which something may have been written
abbrev pub Writes : Status → Type 0
Writes status.Ok = Unit {0}
Writes status.WriteFault = Unit {0}
Writes s = ⊥

-- what a status says of a run
abbrev pub IsRun : List (List ℕ) → Devices → Devices → Status → Type 0
IsRun words old new status.Usage = ((request : Request) → Spells words request → ⊥) × (new ≡ old)
IsRun words old new status.Memory = KeepsSink old new
IsRun words old new s = (request : Request) × Spells words request × IsRunOf request old new s

-- what a status says of what went by in a run: so of every source and sink, also of one that doesn't tell what is left
-- or held
abbrev pub IsStreamed : List (List ℕ) → Streams → Streams → Status → Type 0
IsStreamed words old new status.Usage = ((request : Request) → Spells words request → ⊥) × (new ≡ old)
IsStreamed words old new status.Memory = new.acknowledged ≡ old.acknowledged
IsStreamed words old new s = (request : Request) × Spells words request × IsPassed request old new s

-- the text isn't too long for a mode that reads it
abbrev pub IsShort : Mode → List ℕ → Type 0
IsShort m text = IsRead m → length text ≤ MOST_BYTES

-- the status that is due where this text is all that the source has: the text is too long, or else it has no answer, or
-- else all is well
abbrev pub IsDue : Request → List ℕ → Status → Type 0
IsDue request text status.InputTooLong = IsRead request.mode × (MOST_BYTES < length text)
IsDue request text status.Ok = IsShort request.mode text × ((cause : Status) → IsRefusedAs request text cause → ⊥)
IsDue request text cause = IsShort request.mode text × IsRefusedAs request text cause

-- what stands in place of a status that is due: itself, a write that failed where all is well, a read that failed in a
-- mode that reads, or want of memory
abbrev pub StandsFor : Mode → Status → Status → Type 0
StandsFor m due s = (s ≡ due) ⊎ ((due ≡ status.Ok) × (s ≡ status.WriteFault)) ⊎ (IsRead m × (s ≡ status.ReadFault))
    ⊎ (s ≡ status.Memory)

-- the status where words spell this request, and this text is all that the source has
abbrev pub IsStatusOf : Request → List ℕ → Status → Type 0
IsStatusOf request text s = (due : Status) → IsDue request text due → StandsFor request.mode due s

-- the status, or want of memory in place of one whose line takes memory
abbrev pub IsReported : Status → Status → Type 0
IsReported first s = (s ≡ first) ⊎ (IsBuilt first × (s ≡ status.Memory))
