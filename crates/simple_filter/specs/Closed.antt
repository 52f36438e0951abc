-- A chain closed into simple rules: what they accept, and when there are none.
use Rattle.std.specs.Prelude.{ℕ, ◌≤◌, ◌<◌, ◌≡◌, ◌↔◌, ◌⊎◌, true, List, [], length, unwrap_or, Contains}
use Rattle.std.specs.List.{AllByRecursion}
use Rattle.limits.specs.declared.TheConstants.{MOST_CUBES, MOST_LITERALS, MOST_NODES, MOST_RULES}
use Rattle.match_expr.specs.declared.expr.FlatRule.{FlatRule}
use Rattle.name_set.specs.declared.pattern.Pattern.{Pattern}
use Rattle.name_set.specs.declared.set.NameSet.{NameSet}
use Rattle.primitives.specs.declared.prim.Packet.{Packet}
use Rattle.primitives.specs.declared.prim.Prim_.{Prim_}
use Rattle.primitives.specs.Holds.{holds_of, IsValid}
use Rattle.fw_rule.specs.declared.rule.Dump.{Dump}
use Rattle.fw_rule.specs.declared.rule.Verdict.{Verdict}
use Rattle.fw_rule.specs.declared.side.Side.{Side}
use Rattle.fw_rule.specs.Answers.{IsAccepted, is_accept}
use Rattle.chain_graph.specs.declared.graph.GraphFault.{GraphFault}
use Rattle.chain_graph.specs.Refusals.{IsChecked, Refuses}
use Rattle.closure.specs.Rewriting.{chain_tree, nodes}
use Rattle.closure.specs.Flat.{flat_list, literals_in}
use Rattle.closure.specs.Sources.{IsKnown}
use Rattle.box_norm.specs.declared.cube.Cube.{Cube}
use Rattle.box_norm.specs.declared.cube.SimpleRule.{SimpleRule}
use Rattle.box_norm.specs.Normal.{boxes_of, first_of, normal_of}
use Rattle.box_norm.specs.Regular.{patterns_in}
use Rattle.simple_filter.specs.declared.refusal.Kind.{Kind}
use Rattle.simple_filter.specs.declared.refusal.Refusal.{Refusal}

-- with the policy at their end, the rules accept exactly the valid packets that the side asks for
abbrev pub Accepts : {W : ℕ} → Side → Dump (Prim_ W) → ℕ → Verdict → List (SimpleRule W) → Type 0
Accepts {W} side dump chain policy rules =
    (p : Packet) → IsValid W p →
    (unwrap_or (first_of rules p) (is_accept policy) ≡ true) ↔ IsAccepted holds_of side dump chain p

module _ {W : ℕ} (dump : Dump (Prim_ W)) (chain : ℕ) where
  -- it is the pattern of a test in a known literal of a rule in reach
  abbrev pub IsKnownPattern : Pattern → Type 0
  IsKnownPattern pattern = (x : Prim_ W) × IsKnown dump chain x × Contains (patterns_in x) pattern

  -- so is each pattern of the set, but for a base of every name
  pub record NamesKnown (s : NameSet) : Type 0 where
    pub base : (s.base ≡ Pattern.Prefix []) ⊎ IsKnownPattern s.base
    pub excluded : AllByRecursion IsKnownPattern s.excluded

  -- so is each pattern in the names of the cube
  pub record NamesAreKnown (c : Cube W) : Type 0 where
    pub in_name : NamesKnown c.in_name
    pub out_name : NamesKnown c.out_name

  module _ (side : Side) where
    -- the chain's flat list
    abbrev pub flat_rules : List (FlatRule (Prim_ W))
    flat_rules = flat_list (chain_tree side dump chain)

    -- the rewriting keeps to its limits: those of the tree's items and of the flat list's literals
    pub record IsSmallTree : Type 0 where
      pub nodes : nodes (chain_tree side dump chain) ≤ MOST_NODES
      pub literals : literals_in flat_rules ≤ MOST_LITERALS

    -- so do the lists of cubes, and the simple rules
    pub record IsSmall : Type 0 where
      pub tree : IsSmallTree
      pub boxes : boxes_of flat_rules ≤ MOST_CUBES
      pub rules : length (normal_of flat_rules) ≤ MOST_RULES

    -- a limit is passed, and none that stands before it
    abbrev pub Passes : Kind → Type 0
    Passes Kind.Depth = Refuses dump chain GraphFault.Depth
    Passes Kind.Nodes = IsChecked dump chain × (MOST_NODES < nodes (chain_tree side dump chain))
    Passes Kind.Literals = IsChecked dump chain × (nodes (chain_tree side dump chain) ≤ MOST_NODES)
        × (MOST_LITERALS < literals_in flat_rules)
    Passes Kind.Boxes = IsChecked dump chain × IsSmallTree × (MOST_CUBES < boxes_of flat_rules)
    Passes Kind.Rules = IsChecked dump chain × IsSmallTree × (boxes_of flat_rules ≤ MOST_CUBES)
        × (MOST_RULES < length (normal_of flat_rules))
    Passes Kind.Lines = ⊥
    Passes Kind.Atoms = ⊥
    Passes Kind.Regions = ⊥
    Passes Kind.Visits = ⊥

    -- when each refusal comes. Want of memory tells nothing
    abbrev pub RefusesClosed : Refusal → Type 0
    RefusesClosed (Refusal.Unsupported line name) = Refuses dump chain (GraphFault.Unsupported line name)
    RefusesClosed (Refusal.Loop c) = Refuses dump chain (GraphFault.Loop c)
    RefusesClosed (Refusal.Limit kind) = Passes kind
    RefusesClosed Refusal.Memory = Unit {0}
