-- What the items of a tree come to where primitives have a truth.
use Rattle.std.proofs.Common.{ℕ, zero, suc, Bool, if◌then◌else◌, Option, None, Some}
use Rattle.match_expr.specs.Meaning.{eval_of}
use Rattle.rewriting.specs.declared.rows.Mode.{Mode}
use Rattle.rewriting.specs.declared.rows.Mode.TheVariants.{Hard, Soft}
use Rattle.fw_rule.specs.declared.side.Side.{Side}
use Rattle.closure.specs.Rewriting.{Tree, Done, Decide, Leave, Block}
use Rattle.rewriting.specs.Table.{good, bad}
use Rattle.closure.proofs.Outcomes.{Outcome, Good, Ends, Bad}

-- what items come to: a verdict, past the end of `n` blocks more than this one, or their own end
pub data Ran : Type 0 where
  Says : Bool → Ran
  Leaves : ℕ → Ran
  Through : Ran

-- what a block and the rest behind it come to
abbrev pub after_block : Ran → Ran → Ran
after_block (Says v) rest = Says v
after_block (Leaves zero) rest = rest
after_block (Leaves (suc n)) rest = Leaves n
after_block Through rest = rest

-- what the items come to where `h` is the truth of primitives
abbrev pub ran : {P : Type 0} → (P → Bool) → Tree P → Ran
ran h Done = Through
ran h (Decide e v rest) = if eval_of h e then Says v else ran h rest
ran h (Leave e n rest) = if eval_of h e then Leaves n else ran h rest
ran h (Block e inner rest) = if eval_of h e then after_block (ran h inner) (ran h rest) else ran h rest

-- the verdict, if there is one
abbrev pub says : Ran → Option Bool
says (Says v) = Some v
says (Leaves n) = None
says Through = None

-- to leave a block at its end is to come to its end
abbrev pub settle : Ran → Ran
settle (Says v) = Says v
settle (Leaves zero) = Through
settle (Leaves (suc n)) = Leaves (suc n)
settle Through = Through

-- what items in a mode come to where the outcome is this: in a soft mode a bad outcome leaves blocks
abbrev pub expected : Side → Mode → Outcome → Ran
expected side mode Good = Says (good side)
expected side mode Ends = Through
expected side Hard Bad = Says (bad side)
expected side (Soft zero) Bad = Through
expected side (Soft (suc j)) Bad = Leaves (suc j)
