-- What an option of a module says of a packet, by the table of known matches.
use Rattle.std.specs.Prelude.{ℕ, ◌+◌, ◌≡◌, ◌≤◌, ◌<◌, ◌⊎◌, ◌==◌, ◌^◌, Bool, false, List, [], ◌∷◌, ◌++◌, Option, Some, Contains, codes, decimal, if◌then◌else◌}
use Rattle.std.specs.List.{AllZip, list_any}
use Rattle.basics.specs.Parts.{comma_parts}
use Rattle.interval_set.specs.declared.set.Range.{Range}
use Rattle.match_expr.specs.declared.expr.Expr.{Expr}
use Rattle.match_expr.specs.declared.expr.Expr.TheVariants.{Prim}
use Rattle.primitives.specs.declared.prim.Prim_.{Prim_}
use Rattle.primitives.specs.Ports.{HasPorts}
use Rattle.primitives.specs.Tables.{IsNameList, state_names}
use Rattle.primitives.specs.Words.{SpellsProto, SpellsFlags}
use Rattle.addr_text.specs.Nets.{IsRangeText}
use Rattle.dump_grammar.specs.Lines.{Text}
pub use Rattle.opt_table.specs.Options.{source_ports, destination_ports, either_port}
use Rattle.opt_table.specs.Options.{Addresses, Comment, Flags, Form, IcmpType, Port, Ports, Spelling, States, Syn}
use Rattle.dump_grammar.specs.Groups.{Group, Base, row_of}

-- a port, or FIRST:LAST where FIRST isn't above LAST; ports are below 2^16
abbrev pub IsPortRange : Text → Range → Type 0
IsPortRange text r = (r.hi < 2 ^ 16) ×
    (((text ≡ decimal r.lo) × (r.lo ≡ r.hi)) ⊎ ((text ≡ decimal r.lo ++ 58 ∷ decimal r.hi) × (r.lo ≤ r.hi)))

-- each text is the port or the range of ports beside it
abbrev pub ArePortRanges : List Text → List Range → Type 0
ArePortRanges = AllZip IsPortRange

-- how much the parts of a list of ports count: one with a colon counts two, also where it is one port, any other one
abbrev pub weight : List Text → ℕ
weight [] = 0
weight (text ∷ texts) = (if list_any (λ b. b == 58) text then 2 else 1) + weight texts

-- ports and ranges of ports with commas between them, which count 15 at most; `rs` are the ranges in their order
abbrev pub IsPortList : Text → List Range → Type 0
IsPortList text rs = ArePortRanges (comma_parts text) rs × (weight (comma_parts text) ≤ 15)

-- a `-p` of the line without `!` names the protocol of this number, and that protocol has ports
abbrev pub LineProtocol : List Group → ℕ → Type 0
LineProtocol groups n =
    (name : Text) × (Contains groups (Base false (codes "-p") (name ∷ [])) × SpellsProto name n × HasPorts n)

module _ {W : ℕ} (Reads : Text → ℕ → Type 0) (groups : List Group) where
  -- What arguments of this form say of a packet. `Reads` says which text is which address; `groups` are all groups of
  -- the line.
  abbrev pub FormSays : Form → List Text → Bool → Expr (Prim_ W) → Type 0
  FormSays (Port test) (text ∷ []) negated expr = (r : Range) × (IsPortRange text r × (expr ≡ test W (r ∷ [])))
  FormSays (Ports test) (text ∷ []) negated expr =
      (n : ℕ) × (rs : List Range) × (LineProtocol groups n × IsPortList text rs × (expr ≡ test W n rs))
  FormSays (Addresses test) (text ∷ []) negated expr =
      (r : Range) × (IsRangeText Reads text r × (expr ≡ Prim (test W (r ∷ []))))
  FormSays Flags (mask ∷ comp ∷ []) negated expr =
      (m c : ℕ) × (SpellsFlags mask m × SpellsFlags comp c × (expr ≡ Prim (Prim_.Flags m c)))
  FormSays Syn [] negated expr = expr ≡ Prim (Prim_.Flags 23 2)
  FormSays States (text ∷ []) negated expr = (m : ℕ) × (IsNameList state_names text m × (expr ≡ Prim (Prim_.State m)))
  FormSays Comment (text ∷ []) negated expr = (negated ≡ false) × (expr ≡ Prim Prim_.Always)
  FormSays (IcmpType n) (text ∷ []) negated expr =
      (k : ℕ) × ((k ≤ 254) × (text ≡ decimal k) × (expr ≡ Prim (Prim_.IcmpKind (record { proto = n; kind = k }))))
  FormSays form arguments negated expr = ⊥

  -- what an option of the module `current` says with these arguments: its row tells the form
  abbrev pub Says : Text → Text → List Text → Bool → Expr (Prim_ W) → Type 0
  Says current option arguments negated expr =
      (row : Spelling) × ((row_of current option ≡ Some row) × FormSays row.form arguments negated expr)
