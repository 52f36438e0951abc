-- The options that a reader knows.
use Rattle.std.specs.Prelude.{ℕ, ◌^◌, List, [], ◌∷◌, codes}
use Rattle.interval_set.specs.declared.set.Range.{Range}
use Rattle.interval_set.specs.Numbers.{has}
use Rattle.interval_set.specs.Spelling.{ranges_where}
use Rattle.match_expr.specs.declared.expr.Expr.{Expr}
use Rattle.match_expr.specs.declared.expr.Expr.TheVariants.{All, Not, Prim}
use Rattle.primitives.specs.declared.prim.Prim_.{Prim_}

module _ {W : ℕ} where
  -- the protocol of this number, and a source port in one of the ranges
  abbrev pub source_ports : ℕ → List Range → Expr (Prim_ W)
  source_ports n rs = Prim (Prim_.SrcPorts (record { proto = n; set = ranges_where (has rs) (2 ^ 16) }))

  -- the same of the destination port
  abbrev pub destination_ports : ℕ → List Range → Expr (Prim_ W)
  destination_ports n rs = Prim (Prim_.DstPorts (record { proto = n; set = ranges_where (has rs) (2 ^ 16) }))

  -- the protocol of this number, and one of the two ports in one of the ranges: not neither
  abbrev pub either_port : ℕ → List Range → Expr (Prim_ W)
  either_port n rs = Not (All (Not (source_ports n rs) ∷ Not (destination_ports n rs) ∷ []))

-- The form of an option's arguments, and what they test where the option's name decides that. An option that needs no
-- module has a form of its own.
pub data Form : Type 0 where
  Base : Form
  Flags : Form
  Syn : Form
  States : Form
  Comment : Form
  IcmpType : (proto : ℕ) → Form
  Port : ((W : ℕ) → List Range → Expr (Prim_ W)) → Form
  Ports : ((W : ℕ) → ℕ → List Range → Expr (Prim_ W)) → Form
  Addresses : ((W : ℕ) → List Range → Prim_ W) → Form

-- the module, which is empty where none is needed, the option, how many arguments follow, and their form
pub record Spelling : Type 0 where
  pub name : List ℕ
  pub option : List ℕ
  pub arity : ℕ
  pub form : Form

abbrev pub row : List ℕ → List ℕ → ℕ → Form → Spelling
row name option arity form = record { name = name; option = option; arity = arity; form = form }

abbrev pub known_options : List Spelling
known_options =
    row [] (codes "-s") 1 Base ∷
    row [] (codes "-d") 1 Base ∷
    row [] (codes "-i") 1 Base ∷
    row [] (codes "-o") 1 Base ∷
    row [] (codes "-p") 1 Base ∷
    row [] (codes "-f") 0 Base ∷
    row (codes "tcp") (codes "--sport") 1 (Port (λ W rs. source_ports 6 rs)) ∷
    row (codes "tcp") (codes "--dport") 1 (Port (λ W rs. destination_ports 6 rs)) ∷
    row (codes "udp") (codes "--sport") 1 (Port (λ W rs. source_ports 17 rs)) ∷
    row (codes "udp") (codes "--dport") 1 (Port (λ W rs. destination_ports 17 rs)) ∷
    row (codes "tcp") (codes "--tcp-flags") 2 Flags ∷
    row (codes "tcp") (codes "--syn") 0 Syn ∷
    row (codes "multiport") (codes "--sports") 1 (Ports (λ W n rs. source_ports n rs)) ∷
    row (codes "multiport") (codes "--dports") 1 (Ports (λ W n rs. destination_ports n rs)) ∷
    row (codes "multiport") (codes "--ports") 1 (Ports (λ W n rs. either_port n rs)) ∷
    row (codes "iprange") (codes "--src-range") 1 (Addresses (λ W rs. Prim_.Src rs)) ∷
    row (codes "iprange") (codes "--dst-range") 1 (Addresses (λ W rs. Prim_.Dst rs)) ∷
    row (codes "state") (codes "--state") 1 States ∷
    row (codes "conntrack") (codes "--ctstate") 1 States ∷
    row (codes "comment") (codes "--comment") 1 Comment ∷
    row (codes "icmp") (codes "--icmp-type") 1 (IcmpType 1) ∷
    row (codes "icmp6") (codes "--icmpv6-type") 1 (IcmpType 58) ∷ []
