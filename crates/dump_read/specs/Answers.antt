-- What a reader's answer says of a text.
use Rattle.std.specs.Prelude.{ℕ, ◌≤◌, All, length}
use Rattle.std.specs.List.{AllByRecursion}
use Rattle.primitives.specs.declared.prim.Prim_.{Prim_}
use Rattle.fw_rule.specs.declared.rule.Rule.{Rule}
use Rattle.fw_rule.specs.declared.rule.Chain.{Chain}
use Rattle.fw_rule.specs.declared.rule.Dump.{Dump}
use Rattle.dump_grammar.specs.Printable.{IsPrintableLiteral}
use Rattle.dump_grammar.specs.Lines.{Text}
use Rattle.dump_grammar.specs.Reads.{IsMalformed, HasNoFilter, IsUndefinedLine}
use Rattle.dump_read.specs.declared.fault.ReadFault.{ReadFault}

-- the fault is the text's own; want of memory says nothing of it
abbrev pub IsFaultOf : (W : ℕ) (Reads : Text → ℕ → Type 0) → Text → ReadFault → Type 0
IsFaultOf W Reads text (ReadFault.Malformed n) = IsMalformed W Reads text n
IsFaultOf W Reads text ReadFault.NoFilter = HasNoFilter W Reads text
IsFaultOf W Reads text (ReadFault.UndefinedChain n) = IsUndefinedLine W Reads text n
IsFaultOf W Reads text ReadFault.Memory = Unit {0}

-- each pattern of interface names in the dump can be printed
abbrev pub IsPrintableDump : {W : ℕ} → Dump (Prim_ W) → Type 0
IsPrintableDump {W} dump = All (λ (here : Chain (Prim_ W)).
    All (λ (rule : Rule (Prim_ W)). AllByRecursion IsPrintableLiteral rule.lits) here.rules) dump.chains

module _ {W : ℕ} (most : ℕ) where
  -- the rule has at most so many literals
  abbrev pub RuleHasAtMost : Rule (Prim_ W) → Type 0
  RuleHasAtMost rule = length rule.lits ≤ most

  -- the chain has at most so many rules, and each of them at most so many literals
  abbrev pub ChainHasAtMost : Chain (Prim_ W) → Type 0
  ChainHasAtMost here = (length here.rules ≤ most) × All RuleHasAtMost here.rules

  -- the dump has at most so many chains, each chain so many rules, and each rule so many literals
  abbrev pub HasAtMost : Dump (Prim_ W) → Type 0
  HasAtMost dump = (length dump.chains ≤ most) × All ChainHasAtMost dump.chains
