-- Which bytes a reading stands for.
use Rattle.std.specs.Prelude.{ℕ, ◌≤◌, ◌≡◌, ◌⊎◌, List, [], ◌∷◌, ◌++◌, Some, None, length}
use Rattle.limits.specs.declared.TheConstants.{MOST_BYTES}
use Rattle.dump_grammar.specs.Lines.{Text, IsLine, numbered_from}
use Rattle.dump_grammar.specs.Reads.{IsMalformed}
use Rattle.dump_read.specs.declared.fault.ReadFault.{ReadFault}
use Rattle.dump_read.specs.declared.line_reader.LineReader.{LineReader}
use Rattle.dump_read.specs.declared.reading.Reading.{Reading}
use Rattle.dump_read.specs.inner.Positions.{Position, Leads}
use Rattle.dump_read.specs.inner.States.{Shows}

-- the text begins with these lines, a line feed after each of them, and `rest` follows
abbrev pub BeginsWithLines : List Text → Text → Text → Type 0
BeginsWithLines [] text rest = text ≡ rest
BeginsWithLines (line ∷ lines) text rest =
    IsLine line × ((after : Text) × ((text ≡ line ++ 10 ∷ after) × BeginsWithLines lines after rest))

-- a line feed ends the line of this number
abbrev pub IsEnded : Text → ℕ → Type 0
IsEnded text n = (lines : List Text) × (rest : Text) × (BeginsWithLines lines text rest × (n ≤ length lines))

module _ (W : ℕ) (Reads : Text → ℕ → Type 0) where
  -- a fault that is told before the end of the text is the text's own: its line is ended, whatever follows
  abbrev pub IsEarlyFaultOf : Text → ReadFault → Type 0
  IsEarlyFaultOf text (ReadFault.Malformed n) = IsMalformed W Reads text n × IsEnded text n
  IsEarlyFaultOf text ReadFault.NoFilter = ⊥
  IsEarlyFaultOf text (ReadFault.UndefinedChain n) = ⊥
  IsEarlyFaultOf text ReadFault.Memory = Unit {0}

  -- the text is the lines that were taken, a line feed after each of them, and then the unfinished line; all else that
  -- is kept is what the grammar says of the lines that were taken
  pub record HasTaken (reader : LineReader W) (text : Text) : Type 0 where
    pub ended : List Text
    pub parted : BeginsWithLines ended text reader.unfinished.items
    pub unended : IsLine reader.unfinished.items
    pub count : reader.count ≡ length ended
    pub position : Position W
    pub leads : Leads W Reads (Position.Outside None) (numbered_from 1 ended) position
    pub shows : Shows reader.state position

  module _ {F : Type 0} where
    -- the reading hasn't failed, these are the bytes that it was fed, and no line of them that a line feed ends is the
    -- first that is wrong
    pub record StandsFor (reading : Reading F W) (text : Text) : Type 0 where
      pub sound : reading.fault ≡ None
      pub taken : HasTaken reading.reader text
      pub good : (n : ℕ) → IsMalformed W Reads text n → IsEnded text n → ⊥
      pub size : reading.size ≡ length text
      pub short : length text ≤ MOST_BYTES

    -- it has failed, or stands for some bytes
    abbrev pub IsReading : Reading F W → Type 0
    IsReading reading = ((fault : ReadFault) × (reading.fault ≡ Some fault)) ⊎ ((text : Text) × StandsFor reading text)
