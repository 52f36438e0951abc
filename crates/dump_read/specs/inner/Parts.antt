-- What the private functions say of lines.
use Rattle.std.specs.Prelude.{ℕ, ◌≡◌, ◌++◌}
use Rattle.dump_token.specs.Words.{AreBlanks, BeginsNoBlank}
use Rattle.dump_grammar.specs.Lines.{Text}
use Rattle.dump_read.specs.declared.fault.LineFault.{LineFault}
use Rattle.dump_read.specs.declared.fault.ReadFault.{ReadFault}

-- blanks, and then these bytes, which begin with no blank
abbrev pub FollowsBlanks : Text → Text → Type 0
FollowsBlanks line rest = (gap : Text) × ((line ≡ gap ++ rest) × AreBlanks gap × BeginsNoBlank rest)

-- the fact holds where the line is malformed; want of memory says nothing
abbrev pub OnMalformed : Type 0 → LineFault → Type 0
OnMalformed P LineFault.Malformed = P
OnMalformed P LineFault.Memory = Unit {0}

-- the fault is that the line of this number is malformed, and then the fact holds; want of memory says nothing
abbrev pub StopsAt : ℕ → Type 0 → ReadFault → Type 0
StopsAt number P (ReadFault.Malformed n) = (n ≡ number) × P
StopsAt number P ReadFault.NoFilter = ⊥
StopsAt number P (ReadFault.UndefinedChain n) = ⊥
StopsAt number P ReadFault.Memory = Unit {0}
