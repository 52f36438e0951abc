-- Questions on the chain of a name in a text: when one is answered, and the statuses of their refusals.
use Rattle.std.specs.Prelude.{ℕ, ◌≡◌, ◌<◌, ◌&&◌, ◌⊎◌, Bool, List, Option, None, Some, is_some, position, slice_get}
use Rattle.std.specs.Str.{bytes_eq}
use Rattle.primitives.specs.declared.prim.Prim_.{Prim_}
use Rattle.fw_rule.specs.declared.rule.Chain.{Chain}
use Rattle.fw_rule.specs.declared.rule.Dump.{Dump}
use Rattle.fw_rule.specs.Calls.{Settled}
use Rattle.chain_graph.specs.Faults.{IsFirstLoop, IsLeastUnsupported, NoLoop, NoneUnsupported}
use Rattle.simple_filter.specs.declared.refusal.Kind.{Kind}
use Rattle.simple_filter.specs.declared.refusal.Refusal.{Refusal}
use Rattle.dump_grammar.specs.Reads.{HasNoFilter, IsDump, IsMalformed, IsUndefinedLine}
use Rattle.fffuu_run.specs.declared.status.Status.{Status}
use Rattle.fffuu_run.specs.declared.status.Status.TheVariants as status

module _ {P : Type 0} where
  -- whether the chain has this name and a policy
  abbrev pub is_asked : List ℕ → Chain P → Bool
  is_asked name here = is_some here.policy && bytes_eq here.name name

  -- the number of the chain of this name with a policy, if there is one
  abbrev pub asked_chain : List ℕ → Dump P → Option ℕ
  asked_chain name dump = position (is_asked name) dump.chains

  -- the chain of this number has this name
  abbrev pub IsNameOf : Dump P → ℕ → List ℕ → Type 0
  IsNameOf dump chain name = (here : Chain P) × (slice_get dump.chains chain ≡ Some here) × (here.name ≡ name)

-- where a limit stands in their order
abbrev pub order_of : Kind → ℕ
order_of Kind.Depth = 0
order_of Kind.Nodes = 1
order_of Kind.Literals = 2
order_of Kind.Boxes = 3
order_of Kind.Rules = 4
order_of Kind.Lines = 5
order_of Kind.Atoms = 6
order_of Kind.Regions = 7
order_of Kind.Visits = 8

-- `IsOver` says of which kinds the number is past its limit
module _ {P : Type 0} (dump : Dump P) (chain : ℕ) (IsOver : Kind → Type 0) where
  -- the chain is settled, and no number is past its limit
  pub record IsWithin : Type 0 where
    pub settled : Settled dump chain
    pub within : (kind : Kind) → IsOver kind → ⊥

  -- When each refusal comes, which is only where none before it does: an unsupported target, then a chain that calls
  -- itself, then the limits in their order. Want of memory tells nothing.
  abbrev pub Comes : Refusal → Type 0
  Comes (Refusal.Unsupported line name) = IsLeastUnsupported dump chain line name
  Comes (Refusal.Loop c) = NoneUnsupported dump chain × IsFirstLoop dump chain c
  Comes (Refusal.Limit kind) = NoneUnsupported dump chain × NoLoop dump chain × IsOver kind
      × ((earlier : Kind) → order_of earlier < order_of kind → IsOver earlier → ⊥)
  Comes Refusal.Memory = Unit {0}

-- the status tells the refusal; a chain that calls itself is told by its name
abbrev pub IsToldAs : {P : Type 0} → Dump P → Refusal → Status → Type 0
IsToldAs dump (Refusal.Unsupported line target) s = s ≡ status.Unsupported line target
IsToldAs dump (Refusal.Loop c) s = (name : List ℕ) × IsNameOf dump c name × (s ≡ status.CallLoop name)
IsToldAs dump (Refusal.Limit kind) s = s ≡ status.Limit kind
IsToldAs dump Refusal.Memory s = ⊥

-- `Reads` says which text is one of which address of `W` bits
module _ (W : ℕ) (Reads : List ℕ → ℕ → Type 0) where
  -- why the text is no dump
  abbrev pub RefusesText : List ℕ → Status → Type 0
  RefusesText text (status.Malformed line) = IsMalformed W Reads text line
  RefusesText text status.NoFilter = HasNoFilter W Reads text
  RefusesText text (status.UndefinedChain line) = IsUndefinedLine W Reads text line
  RefusesText text s = ⊥

  module _ (name text : List ℕ) where
    -- the text is this dump, and its chain of this name and with a policy has this number
    abbrev pub AsksChain : Dump (Prim_ W) → ℕ → Type 0
    AsksChain dump chain = IsDump W Reads text dump × (asked_chain name dump ≡ Some chain)

    -- the text is no dump, or no chain of this name has a policy
    abbrev pub HasNoChain : Status → Type 0
    HasNoChain s = RefusesText text s
        ⊎ ((s ≡ status.NoChain) × ((dump : Dump (Prim_ W)) × IsDump W Reads text dump × (asked_chain name dump ≡ None)))

    -- `IsOver` says of a chain's numbers which are past their limits
    module _ (IsOver : Dump (Prim_ W) → ℕ → Kind → Type 0) where
      -- the chain of this name in the dump that the text is has no number past its limit, and the fact holds of it
      pub record Answers (IsAnswered : Dump (Prim_ W) → ℕ → Type 0) : Type 0 where
        pub dump : Dump (Prim_ W)
        pub chain : ℕ
        pub asked : AsksChain dump chain
        pub within : IsWithin dump chain (IsOver dump chain)
        pub answered : IsAnswered dump chain

      -- there is no such chain, or the status tells a refusal that comes
      abbrev pub RefusesQuestion : Status → Type 0
      RefusesQuestion s = HasNoChain s ⊎ ((dump : Dump (Prim_ W)) × (chain : ℕ) × AsksChain dump chain
          × ((refusal : Refusal) × Comes dump chain (IsOver dump chain) refusal × IsToldAs dump refusal s))
