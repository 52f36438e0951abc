-- Nets of a family are in its width.
use Rattle.std.proofs.Common.{ℕ, Bool, List}
use Rattle.addr_text.specs.Nets.{IsNetText}
use Rattle.addr_text.specs.declared.net.Net.{Net}
use Rattle.fw_rule.specs.declared.rule.Lit.{Lit}
use Rattle.interval_set.specs.declared.set.Range.{Range}
use Rattle.primitives.specs.declared.prim.Prim_.{Prim_}
use Rattle.dump_grammar.specs.Lines.{Text}
use Rattle.dump_grammar.specs.Literals.{IsNetLiteral}

module _ (W : ℕ) (Reads : Text → ℕ → Type 0) where
  pub no_net : (prim : List Range → Prim_ W) (text : Text) (negated : Bool) (unknown : Text) (l : Lit (Prim_ W)) → ((net : Net) → IsNetText Reads W text net → ⊥)
      → IsNetLiteral Reads prim text negated unknown l → ⊥
  no_net prim text negated unknown (Lit.Known neg expr) none is = none (Net.Prefix is.0 is.1) is.2.0
  no_net prim text negated unknown (Lit.Unknown shown) none is = none Net.Masked is.0
