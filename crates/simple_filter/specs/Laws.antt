-- What hiding keeps.
use Rattle.std.specs.Prelude.{ℕ, ◌≡◌, ◌↔◌}
use Rattle.fw_rule.specs.declared.rule.Dump.{Dump}
use Rattle.fw_rule.specs.Walk.{HasRoom, Settled, May, Must, policy_of}
use Rattle.chain_graph.specs.Paths.{CallsNameChains}
use Rattle.primitives.specs.Holds.{holds_of}
use Rattle.primitives.specs.declared.prim.Packet.{Packet}
use Rattle.primitives.specs.declared.prim.Prim_.{Prim_}
use Rattle.simple_filter.specs.declared.hiding.Hide.{Hide}
use Rattle.simple_filter.specs.Hidden.{hidden}

module _ {W : ℕ} (dump : Dump (Prim_ W)) where
  -- where nothing is hidden the dump stays as it is
  abbrev pub NothingChanges : Type 0
  NothingChanges = hidden Hide.Nothing dump ≡ dump

  -- whatever is hidden, a chain is settled before and after or neither time
  abbrev pub SettledStays : Type 0
  SettledStays = (hide : Hide) (chain : ℕ) → Settled dump chain ↔ Settled (hidden hide dump) chain

  -- whatever is hidden, numbers fit as before, calls name chains as before, and chains have the policies that they had
  pub record CallsStay : Type 0 where
    pub room : (hide : Hide) → HasRoom dump → HasRoom (hidden hide dump)
    pub named : (hide : Hide) → CallsNameChains dump → CallsNameChains (hidden hide dump)
    pub policy : (hide : Hide) (chain : ℕ) → policy_of (hidden hide dump) chain ≡ policy_of dump chain

  module _ (chain : ℕ) (p : Packet) where
    -- what may be accepted may be accepted after names are hidden
    abbrev pub MayWidens : Type 0
    MayWidens = (hide : Hide) → May holds_of dump chain p → May holds_of (hidden hide dump) chain p

    -- what must be accepted after names are hidden must be accepted before
    abbrev pub MustNarrows : Type 0
    MustNarrows = (hide : Hide) → Must holds_of (hidden hide dump) chain p → Must holds_of dump chain p
