-- The upper and the lower filter of a text: their bytes, and why there are none.
use Rattle.std.specs.Prelude.{ℕ, suc, ◌≡◌, ◌<◌, List, length}
use Rattle.primitives.specs.declared.prim.Prim_.{Prim_}
use Rattle.fw_rule.specs.declared.rule.Dump.{Dump}
use Rattle.fw_rule.specs.declared.rule.Verdict.{Verdict}
use Rattle.chain_graph.specs.Paths.{HasPath}
use Rattle.fw_rule.specs.declared.side.Side.{Side}
use Rattle.closure.specs.Flat.{literals_in}
use Rattle.closure.specs.Rewriting.{chain_tree, nodes}
use Rattle.box_norm.specs.declared.cube.SimpleRule.{SimpleRule}
use Rattle.box_norm.specs.Normal.{boxes_of, normal_of}
use Rattle.limits.specs.declared.TheConstants.{MOST_CHAINS, MOST_CUBES, MOST_LINES, MOST_LITERALS, MOST_NODES, MOST_RULES}
use Rattle.simple_filter.specs.Closed.{flat_rules}
use Rattle.simple_filter.specs.declared.refusal.Kind.{Kind}
use Rattle.dump_print.specs.Printed.{count_lines, printed}
use Rattle.fffuu_run.specs.Headline.{IsChain, IsFilterOf}
use Rattle.fffuu_run.specs.Questions.{Answers, RefusesQuestion}
use Rattle.fffuu_run.specs.declared.status.Status.{Status}

module _ {W : ℕ} (dump : Dump (Prim_ W)) (chain : ℕ) (side : Side) where
  -- the simple rules of a chain, of one side
  abbrev pub simple_rules : List (SimpleRule W)
  simple_rules = normal_of (flat_rules dump chain side)

  -- a call path from the chain is too long, or the rewriting is too large: the items of its tree, the literals of its
  -- flat list, a list of cubes, or the simple rules
  abbrev pub IsClosingOver : Kind → Type 0
  IsClosingOver Kind.Depth = HasPath dump chain (suc MOST_CHAINS)
  IsClosingOver Kind.Nodes = MOST_NODES < nodes (chain_tree side dump chain)
  IsClosingOver Kind.Literals = MOST_LITERALS < literals_in (flat_rules dump chain side)
  IsClosingOver Kind.Boxes = MOST_CUBES < boxes_of (flat_rules dump chain side)
  IsClosingOver Kind.Rules = MOST_RULES < length simple_rules
  IsClosingOver kind = ⊥

-- `text_of` is the one text that is written for an address of `W` bits
module _ {W : ℕ} (text_of : ℕ → List ℕ) (side : Side) (name : List ℕ) (dump : Dump (Prim_ W)) (chain : ℕ) where
  -- so is the rewriting, or the printed lines are too many
  abbrev pub IsFilterOver : Kind → Type 0
  IsFilterOver Kind.Lines = MOST_LINES < count_lines text_of W name (simple_rules dump chain side)
  IsFilterOver kind = IsClosingOver dump chain side kind

-- `Reads` says which text is one of which address
module _ (W : ℕ) (Reads : List ℕ → ℕ → Type 0) (text_of : ℕ → List ℕ) (side : Side) (name : List ℕ) where
  -- this is the text of the chain's simple rules, and it means what the side asks
  pub record IsPrintedFilter (dump : Dump (Prim_ W)) (chain : ℕ) (written : List ℕ) : Type 0 where
    pub policy : Verdict
    pub chain_is : IsChain dump chain name policy
    pub written_is : written ≡ printed text_of W name policy (simple_rules dump chain side)
    pub means : IsFilterOf W Reads side dump chain name policy written

  -- this is the text of a filter of the chain of this name in the dump that the text is
  abbrev pub Filters : List ℕ → List ℕ → Type 0
  Filters text written = Answers W Reads name text (λ dump chain. IsFilterOver text_of side name dump chain)
      (λ dump chain. IsPrintedFilter dump chain written)

  -- why there is none
  abbrev pub RefusesFilter : List ℕ → Status → Type 0
  RefusesFilter text s = RefusesQuestion W Reads name text (λ dump chain. IsFilterOver text_of side name dump chain) s
