-- Regular cubes, and where the patterns in their names come from.
use Rattle.std.specs.Prelude.{ℕ, ◌-◌, ◌^◌, ◌<◌, ◌≤◌, ◌≡◌, ⊤, ◌⊎◌, List, [], ◌∷◌, ◌++◌, true, false, Contains, Result, IfOk}
use Rattle.std.specs.List.{AllByRecursion}
use Rattle.interval_set.specs.declared.set.Range.{Range}
use Rattle.interval_set.specs.Numbers.{has}
use Rattle.match_expr.specs.declared.expr.Expr.{Expr}
use Rattle.match_expr.specs.declared.expr.Expr.TheOpen.{Expr-F}
use Rattle.match_expr.specs.declared.expr.Expr.TheFolds.{fold-Expr}
use Rattle.match_expr.specs.declared.expr.FlatRule.{FlatRule}
use Rattle.match_expr.specs.Primitives.{joined}
use Rattle.name_set.specs.declared.pattern.Pattern.{Pattern}
use Rattle.name_set.specs.declared.set.NameSet.{NameSet}
use Rattle.primitives.specs.declared.prim.Prim_.{Prim_}
use Rattle.primitives.specs.Messages.{HasTypes}
use Rattle.primitives.specs.Ports.{HasPorts}
use Rattle.box_norm.specs.declared.cube.Cube.{Cube}
use Rattle.box_norm.specs.declared.cube.CubeFault.{CubeFault}
use Rattle.box_norm.specs.declared.cube.SimpleRule.{SimpleRule}
use Rattle.box_norm.specs.Cubes.{is_none}
use Rattle.box_norm.specs.Pieces.{single}

-- every number of w bits
abbrev pub full : ℕ → List Range
full w = record { lo = 0; hi = 2 ^ w - 1 } ∷ []

-- one protocol alone, which has ports
abbrev pub HasPortsAlone : List Range → Type 0
HasPortsAlone protos = (n : ℕ) × HasPorts n × (protos ≡ single n)

-- one protocol alone, whose messages have types, and one type to 254 or a set that holds 255
abbrev pub HasTypesAlone : List Range → List Range → Type 0
HasTypesAlone protos types = ((n : ℕ) × HasTypes n × (protos ≡ single n))
    × (((k : ℕ) × (k ≤ 254) × (types ≡ single k)) ⊎ (has types 255 ≡ true))

-- no dimension is empty, ports, flags and types of messages are restricted only where the protocol is one that has them, and
-- the protocol is one number from 1 to 255 or a set that holds 0
pub record IsRegular {W : ℕ} (c : Cube W) : Type 0 where
  pub some : is_none c ≡ false
  pub sport : (c.sport ≡ full 16) ⊎ HasPortsAlone c.proto
  pub dport : (c.dport ≡ full 16) ⊎ HasPortsAlone c.proto
  pub flags : (c.flags ≡ 2 ^ 64 - 1) ⊎ (c.proto ≡ single 6)
  pub icmp : (c.icmp ≡ full 8) ⊎ HasTypesAlone c.proto c.icmp
  pub proto : ((n : ℕ) × (1 ≤ n) × (n ≤ 255) × (c.proto ≡ single n)) ⊎ (has c.proto 0 ≡ true)

-- each cube is regular
abbrev pub AreRegular : {W : ℕ} → List (Cube W) → Type 0
AreRegular cubes = AllByRecursion IsRegular cubes

-- the pattern of a test of a name
abbrev pub patterns_in : {W : ℕ} → Prim_ W → List Pattern
patterns_in (Prim_.Src set) = []
patterns_in (Prim_.Dst set) = []
patterns_in (Prim_.InName pattern) = pattern ∷ []
patterns_in (Prim_.OutName pattern) = pattern ∷ []
patterns_in (Prim_.Proto proto) = []
patterns_in (Prim_.SrcPorts ports) = []
patterns_in (Prim_.DstPorts ports) = []
patterns_in (Prim_.Flags mask comp) = []
patterns_in (Prim_.State states) = []
patterns_in (Prim_.IcmpKind m) = []
patterns_in Prim_.Always = []

-- one level, with the patterns of each part in its place
abbrev pub patterns_step : {W : ℕ} → Expr-F (Prim_ W) (List Pattern) → List Pattern
patterns_step (Expr-F.All parts) = joined parts
patterns_step (Expr-F.Not part) = part
patterns_step (Expr-F.Prim x) = patterns_in x

-- the patterns of the tests in an expression
abbrev pub patterns_of : {W : ℕ} → Expr (Prim_ W) → List Pattern
patterns_of {W} = fold-Expr (Prim_ W) (List Pattern) (patterns_step {W = W})

-- the patterns of the tests in a flat list
abbrev pub rule_patterns : {W : ℕ} → List (FlatRule (Prim_ W)) → List Pattern
rule_patterns [] = []
rule_patterns {W} (rule ∷ rules) = patterns_of {W = W} rule.expr ++ rule_patterns rules

-- but for a base of every name, each pattern of the set is one of these
pub record IsOf (patterns : List Pattern) (s : NameSet) : Type 0 where
  pub base : (s.base ≡ Pattern.Prefix []) ⊎ Contains patterns s.base
  pub excluded : AllByRecursion (Contains patterns) s.excluded

-- the names of both interfaces are of these patterns
pub record NamesAreOf {W : ℕ} (patterns : List Pattern) (c : Cube W) : Type 0 where
  pub in_name : IsOf patterns c.in_name
  pub out_name : IsOf patterns c.out_name

-- where the names of the list are of some patterns, and each test of the expression has one of these, so are the names of the result
abbrev pub KeepsPatterns : {W : ℕ} → List (Cube W) → Expr (Prim_ W) → Result (List (Cube W)) CubeFault → Type 0
KeepsPatterns {W} list e result = (patterns : List Pattern) → AllByRecursion (Contains patterns) (patterns_of {W = W} e) →
    AllByRecursion (NamesAreOf patterns) list → IfOk result (AllByRecursion (NamesAreOf patterns))

-- no bit of `state` is set but those of the five states
abbrev pub HasStates : {W : ℕ} → Cube W → Type 0
HasStates c = c.state < 32

-- what the type of a test promises: a protocol is a number from 1 to 255, ports are asked only of one that has them, and so
-- are types to 254
abbrev pub IsSound : {W : ℕ} → Prim_ W → Type 0
IsSound (Prim_.Src set) = ⊤
IsSound (Prim_.Dst set) = ⊤
IsSound (Prim_.InName pattern) = ⊤
IsSound (Prim_.OutName pattern) = ⊤
IsSound (Prim_.Proto proto) = (1 ≤ proto) × (proto ≤ 255)
IsSound (Prim_.SrcPorts ports) = HasPorts ports.proto
IsSound (Prim_.DstPorts ports) = HasPorts ports.proto
IsSound (Prim_.Flags mask comp) = ⊤
IsSound (Prim_.State states) = ⊤
IsSound (Prim_.IcmpKind m) = HasTypes m.proto × (m.kind ≤ 254)
IsSound Prim_.Always = ⊤

-- the fact holds of the cube of each rule
abbrev pub EachCube : {W : ℕ} → (Cube W → Type 0) → List (SimpleRule W) → Type 0
EachCube P rules = AllByRecursion (λ rule. P rule.cube) rules
