-- What was read of a text, where the text itself isn't kept.
use Rattle.std.specs.Prelude.{ℕ, ◌≡◌, ◌⊎◌, List, Result, Some, IfOk}
use Rattle.primitives.specs.declared.prim.Prim_.{Prim_}
use Rattle.fw_rule.specs.declared.rule.Dump.{Dump}
use Rattle.fw_rule.specs.Calls.{HasRoom}
use Rattle.request.specs.declared.types.Mode.{Mode}
use Rattle.request.specs.declared.types.Mode.TheVariants as mode
use Rattle.request.specs.declared.types.Request.{Request}
use Rattle.dump_read.specs.declared.fault.ReadFault.{ReadFault}
use Rattle.dump_read.specs.declared.reading.Reading.{Reading}
use Rattle.dump_read.specs.Answers.{IsPrintableDump}
use Rattle.dump_read.specs.Laws.{IsAnswerTo}
use Rattle.dump_read.specs.Pieces.{IsEarlyFaultOf, StandsFor}
use Rattle.fffuu_run.specs.Answers.{IsAnswer, IsOutput, IsRefusedAs, RefusesMode}
use Rattle.fffuu_run.specs.declared.status.Status.{Status}
use Rattle.fffuu_run.specs.declared.status.Status.TheVariants as status

-- the status of a fault
abbrev pub status_of : ReadFault → Status
status_of (ReadFault.Malformed line) = status.Malformed line
status_of ReadFault.NoFilter = status.NoFilter
status_of (ReadFault.UndefinedChain line) = status.UndefinedChain line
status_of ReadFault.Memory = status.Memory

-- `Reads` says which text is one of which address of `W` bits
module _ (W : ℕ) (Reads : List ℕ → ℕ → Type 0) where
  -- This was read of the text: the dump that the text is, or its fault. A dump that was read has room, and its names can
  -- be printed.
  pub record IsReadOf (text : List ℕ) (read : Result (Dump (Prim_ W)) ReadFault) : Type 0 where
    pub answers : IsAnswerTo W Reads text read
    pub room : IfOk read HasRoom
    pub printable : IfOk read IsPrintableDump

  -- there is a text of which this was read
  abbrev pub WasRead : Result (Dump (Prim_ W)) ReadFault → Type 0
  WasRead read = (text : List ℕ) × IsReadOf text read

  -- the fact holds of each text of which this was read
  abbrev pub HoldsOfTexts : Result (Dump (Prim_ W)) ReadFault → (List ℕ → Type 0) → Type 0
  HoldsOfTexts read IsSo = (text : List ℕ) → IsReadOf text read → IsSo text

  module _ {F : Type 0} where
    -- the reading was fed the text: it stands for the text, or has failed with a fault that is told before the text's end
    abbrev pub IsFed : Reading F W → List ℕ → Type 0
    IsFed reading text = StandsFor W Reads reading text
        ⊎ ((fault : ReadFault) × ((reading.fault ≡ Some fault) × IsEarlyFaultOf W Reads text fault))

-- a mode that asks about one dump
abbrev pub AsksOneDump : Mode → Type 0
AsksOneDump mode.Cover = ⊥
AsksOneDump m = Unit {0}

-- the request is over the addresses of this family: what is answered over them is its answer
pub record IsOver (request : Request) (W : ℕ) (Reads : List ℕ → ℕ → Type 0) (text_of : ℕ → List ℕ) : Type 0 where
  pub answers : (text written : List ℕ) → IsOutput W Reads text_of request.mode request.chain text written
      → IsAnswer request text written
  pub refuses : (text : List ℕ) (s : Status) → RefusesMode W Reads text_of request.mode request.chain text s
      → IsRefusedAs request text s
