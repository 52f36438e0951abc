-- The table of the rewriting: what is made of a rule when a chain is closed.
use Rattle.std.specs.Prelude.{ℕ, zero, suc, Bool, true, false}
use Rattle.fw_rule.specs.declared.rule.Action.{Action}
use Rattle.fw_rule.specs.declared.side.Side.{Side}
use Rattle.rewriting.specs.declared.kinds.ActionKind.{ActionKind}
use Rattle.rewriting.specs.declared.kinds.ActionKind.TheVariants.{GoodVerdict, BadVerdict, GoOn, GoBack, CallTo, GoTo}
use Rattle.rewriting.specs.declared.rows.Mode.{Mode}
use Rattle.rewriting.specs.declared.rows.Mode.TheVariants.{Hard, Soft}
use Rattle.rewriting.specs.declared.rows.Row.{Row}

-- what an action is to a side. An unsupported target does nothing here; a settled dump has none
abbrev pub kind : Side → Action → ActionKind
kind Side.Upper Action.Accept = GoodVerdict
kind Side.Upper Action.Drop = BadVerdict
kind Side.Lower Action.Accept = BadVerdict
kind Side.Lower Action.Drop = GoodVerdict
kind side Action.Pass = GoOn
kind side Action.Back = GoBack
kind side (Action.Call k) = CallTo k
kind side (Action.Goto k) = GoTo k
kind side (Action.Other name) = GoOn

-- the verdict that a side wants: whether it accepts
abbrev pub good : Side → Bool
good Side.Upper = true
good Side.Lower = false

-- the other verdict
abbrev pub bad : Side → Bool
bad Side.Upper = false
bad Side.Lower = true

-- the table: what is made of a rule, doubtful or not, of this kind, in this mode. In Hard a bad verdict is a verdict; in Soft j it leaves its block and j enclosing ones more.
-- A doubtful bad verdict never helps, so it is left out. A doubtful return may save from a bad verdict further down, so the rest is tried with bad verdicts that leave the block, and then once
-- more behind it. A doubtful call may be passed over, so a bad verdict in it leaves its block alone. A sure call in Soft j is one block deeper.
-- A sure goto is a sure call behind which the rest isn't met. A doubtful one takes a good verdict of the rest, if there is one; else the goto is taken, unless its chain comes to a bad
-- verdict: its end is no worse than what the rest comes to. In Soft 0 a bad verdict and the end leave the same block, so there it is a doubtful call.
abbrev pub row_of : Side → Bool → ActionKind → Mode → Row
row_of side d GoodVerdict mode = Row.Decide (good side)
row_of side false BadVerdict Hard = Row.Decide (bad side)
row_of side false BadVerdict (Soft j) = Row.Leave j
row_of side true BadVerdict mode = Row.Skip
row_of side d GoOn mode = Row.Skip
row_of side false GoBack mode = Row.Leave 0
row_of side true GoBack (Soft zero) = Row.Skip
row_of side true GoBack mode = Row.LeaveLater
row_of side false (CallTo c) Hard = Row.Run c Hard
row_of side false (CallTo c) (Soft j) = Row.Run c (Soft (suc j))
row_of side true (CallTo c) mode = Row.Run c (Soft 0)
row_of side false (GoTo c) Hard = Row.RunThenLeave c Hard
row_of side false (GoTo c) (Soft j) = Row.RunThenLeave c (Soft (suc j))
row_of side true (GoTo c) (Soft zero) = Row.Run c (Soft 0)
row_of side true (GoTo c) mode = Row.RunLater c

-- how many enclosing blocks a bad verdict leaves beyond its own in a soft mode. In Hard it leaves none: it is a verdict
abbrev pub level : Mode → ℕ
level Hard = 0
level (Soft j) = j
