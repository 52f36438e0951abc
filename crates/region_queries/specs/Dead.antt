-- Which visits are dead: what is answered of each, and when there is no answer.
use Rattle.std.specs.Prelude.{ℕ, ◌≡◌, List, [], ◌∷◌, ◌++◌, Option, None, Some, map}
use Rattle.std.specs.List.{AllByRecursion}
use Rattle.primitives.specs.declared.prim.Packet.{Packet}
use Rattle.primitives.specs.declared.prim.Prim_.{Prim_}
use Rattle.primitives.specs.Holds.{IsValid, holds_of}
use Rattle.fw_rule.specs.declared.rule.Dump.{Dump}
use Rattle.fw_rule.specs.declared.rule.Place.{Place}
use Rattle.fw_rule.specs.declared.rule.Verdict.{Verdict}
use Rattle.fw_rule.specs.declared.side.Side.{Side}
use Rattle.fw_rule.specs.Walk.{Meaning, Path}
use Rattle.chain_graph.specs.declared.graph.GraphFault.{GraphFault}
use Rattle.chain_graph.specs.Refusals.{IsChecked, Refuses}
use Rattle.box_norm.specs.declared.cube.SimpleRule.{SimpleRule}
use Rattle.box_norm.specs.Normal.{whole_of}
use Rattle.region_cut.specs.Search.{Finds, IsTooLarge, with_policy}
use Rattle.simple_filter.specs.Closed.{Passes}
use Rattle.simple_filter.specs.declared.refusal.Kind.{Kind}
use Rattle.simple_filter.specs.declared.refusal.Refusal.{Refusal}
use Rattle.explain.specs.Answers.{IsExplained}
use Rattle.region_queries.specs.declared.answers.Live.{Live}
use Rattle.region_queries.specs.declared.answers.Visit.{Visit}
use Rattle.region_queries.specs.Refusals.{IsClosed, simple_rules}
use Rattle.region_queries.specs.Probe.{entry_of, own_place, probe_of}
use Rattle.region_queries.specs.Visits.{AreVisits, FewVisits, ManyVisits, Triggers}

module _ {W : ℕ} (probe : Dump (Prim_ W)) (entry : ℕ) where
  -- what the probe may accept: its simple rules of side Upper, with the policy Drop
  abbrev pub probe_rules : List (SimpleRule W)
  probe_rules = with_policy (simple_rules probe entry Side.Upper) Verdict.Drop

  -- the probe keeps to the limits
  pub record IsInLimits : Type 0 where
    pub closed : IsClosed probe entry Side.Upper
    pub small : IsTooLarge (whole_of W) probe_rules → ⊥

  -- it passes a limit, and none that stands before it
  abbrev pub PassesLimit : Kind → Type 0
  PassesLimit Kind.Depth = ⊥
  PassesLimit Kind.Nodes = Passes probe entry Side.Upper Kind.Nodes
  PassesLimit Kind.Literals = Passes probe entry Side.Upper Kind.Literals
  PassesLimit Kind.Boxes = Passes probe entry Side.Upper Kind.Boxes
  PassesLimit Kind.Rules = Passes probe entry Side.Upper Kind.Rules
  PassesLimit Kind.Lines = ⊥
  PassesLimit Kind.Atoms = ⊥
  PassesLimit Kind.Regions = IsClosed probe entry Side.Upper × IsTooLarge (whole_of W) probe_rules
  PassesLimit Kind.Visits = ⊥

  -- the answer of the search of all packets for one that the probe may accept
  abbrev pub Hits : Option Packet → Type 0
  Hits o = Finds (whole_of W) probe_rules o

module _ {W : ℕ} (dump : Dump (Prim_ W)) (visit : Path) where
  -- What is shown of the visit: nothing where no packet is found that the probe may accept, else that packet and the places
  -- that explain why the probe accepts it, with the dump's own numbers of chains.
  abbrev pub IsShown : Option Live → Type 0
  IsShown None = Hits (probe_of dump visit) (entry_of dump) None
  IsShown (Some live) = Hits (probe_of dump visit) (entry_of dump) (Some live.packet) × (places : List Place)
      × IsExplained holds_of (probe_of dump visit) live.packet (entry_of dump) Verdict.Accept (Some places)
      × (live.places ≡ map (own_place dump visit) places)

module _ {W : ℕ} (dump : Dump (Prim_ W)) (asked : ℕ) where
  -- what is said of a visit is so: it is dead where no valid packet triggers it under any meaning, else the packet is valid,
  -- and triggers it under the meaning of the places
  abbrev pub IsRightOf : Path → Option Live → Type 0
  IsRightOf visit None = (p : Packet) (m : Meaning) → IsValid W p → ¬ Triggers holds_of dump asked visit p m
  IsRightOf visit (Some live) = IsValid W live.packet × Triggers holds_of dump asked visit live.packet live.places

  -- the answer has the visits in their order; its parts say what is so, and show what is to be shown
  pub record AnswersDead (visits : List Visit) : Type 0 where
    pub listed : AreVisits dump asked (map (λ (v : Visit). v.steps) visits)
    pub right : AllByRecursion (λ (v : Visit). IsRightOf v.steps v.live) visits
    pub shown : AllByRecursion (λ (v : Visit). IsInLimits (probe_of dump v.steps) (entry_of dump) × IsShown dump v.steps v.live) visits

  -- the chain passes a check, and may have its visits listed
  pub record IsListable : Type 0 where
    pub checked : IsChecked dump asked
    pub few : FewVisits dump asked

  -- the probe of this visit is the first, in the order of the visits, that passes a limit, and this limit is it
  pub record PassesFirst (kind : Kind) : Type 0 where
    pub before : List Path
    pub visit : Path
    pub later : List Path
    pub listed : AreVisits dump asked (before ++ visit ∷ later)
    pub in_limits : AllByRecursion (λ (v : Path). IsInLimits (probe_of dump v) (entry_of dump)) before
    pub passes : PassesLimit (probe_of dump visit) (entry_of dump) kind

  -- when there is no answer: a check of the chain refuses it, or its visits are too many, or a probe passes a limit. Want of
  -- memory tells nothing
  abbrev pub RefusesDead : Refusal → Type 0
  RefusesDead (Refusal.Unsupported line name) = Refuses dump asked (GraphFault.Unsupported line name)
  RefusesDead (Refusal.Loop c) = Refuses dump asked (GraphFault.Loop c)
  RefusesDead (Refusal.Limit Kind.Depth) = Refuses dump asked GraphFault.Depth
  RefusesDead (Refusal.Limit Kind.Visits) = IsChecked dump asked × ManyVisits dump asked
  RefusesDead (Refusal.Limit kind) = IsListable × PassesFirst kind
  RefusesDead Refusal.Memory = Unit {0}
