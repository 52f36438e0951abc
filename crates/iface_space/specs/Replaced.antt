-- A test in place of another, in each known literal that is such a test alone.
use Rattle.std.specs.Prelude.{ℕ, ◌↔◌}
use Rattle.match_expr.specs.declared.expr.Expr.{Expr}
use Rattle.fw_rule.specs.declared.rule.Lit.{Lit}
use Rattle.fw_rule.specs.declared.rule.Dump.{Dump}
use Rattle.fw_rule.specs.Walk.{mapped_by, May, Must}
use Rattle.primitives.specs.Holds.{holds_of}
use Rattle.primitives.specs.declared.prim.Packet.{Packet}
use Rattle.primitives.specs.declared.prim.Prim_.{Prim_}

module _ {W : ℕ} (image : Prim_ W → Prim_ W) where
  -- the image of a test that stands alone; an expression of another kind stays
  abbrev pub replaced_expr : Expr (Prim_ W) → Expr (Prim_ W)
  replaced_expr (Expr.Prim test) = Expr.Prim (image test)
  replaced_expr expr = expr

  -- a known literal keeps its negation; an unknown one stays
  abbrev pub replaced_literal : Lit (Prim_ W) → Lit (Prim_ W)
  replaced_literal (Lit.Known neg expr) = Lit.Known neg (replaced_expr expr)
  replaced_literal (Lit.Unknown text) = Lit.Unknown text

  -- the dump with them; all else stays
  abbrev pub replaced : Dump (Prim_ W) → Dump (Prim_ W)
  replaced dump = mapped_by replaced_literal dump

-- what may and what must be accepted of the packet is what may and must be in the other dump
module _ {W : ℕ} (one other : Dump (Prim_ W)) (chain : ℕ) (p : Packet) where
  abbrev pub SameMay : Type 0
  SameMay = May holds_of one chain p ↔ May holds_of other chain p

  abbrev pub SameMust : Type 0
  SameMust = Must holds_of one chain p ↔ Must holds_of other chain p
