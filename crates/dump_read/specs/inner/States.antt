-- What a reader keeps of the lines so far. The contracts of private functions cite this.
use Rattle.std.specs.Prelude.{ℕ, ◌+◌, ◌≤◌, ◌≡◌, Bool, true, false, List, [], ◌∷◌, ◌++◌, Option, Some, None, length, is_some, ◌||◌, ◌&&◌, if◌then◌else◌}
use Rattle.std.specs.List.{AllByRecursion}
use Rattle.limits.specs.declared.TheConstants.{MOST_BYTES}
use Rattle.primitives.specs.declared.prim.Prim_.{Prim_}
use Rattle.fw_rule.specs.declared.rule.Rule.{Rule}
use Rattle.fw_rule.specs.declared.rule.Chain.{Chain}
use Rattle.dump_grammar.specs.declared.chains.Declared.{Declared}
use Rattle.dump_grammar.specs.declared.rule.RuleLine.{RuleLine}
use Rattle.dump_grammar.specs.declared.rule.Target.{Target}
use Rattle.dump_grammar.specs.Printable.{IsPrintableLiteral}
use Rattle.dump_grammar.specs.Groups.{all_differ}
use Rattle.dump_grammar.specs.Tables.{Placed, names_of}
use Rattle.dump_grammar.specs.Reads.{dump_of, is_declared, is_defined}
use Rattle.fw_rule.specs.declared.rule.Dump.{Dump}
use Rattle.dump_read.specs.declared.fault.ReadFault.{ReadFault}
use Rattle.dump_read.specs.declared.state.Part.{Part}
use Rattle.dump_read.specs.declared.state.State.{State}
use Rattle.dump_read.specs.inner.Positions.{Filter, Position}

-- whether there is a rule
abbrev pub has_any : {A : Type 0} → List A → Bool
has_any [] = false
has_any (x ∷ xs) = true

-- the chain with one more rule
abbrev pub with_rule : {P : Type 0} → Chain P → Rule P → Chain P
with_rule here rule = record { name = here.name; policy = here.policy; rules = here.rules ++ rule ∷ [] }

-- the first undefined line after a rule with this target on this line, whose chain has the number, if it is declared
abbrev pub now_undefined : Option ℕ → Option ℕ → Target → ℕ → Option ℕ
now_undefined before number target line = if is_some before || (is_some number && is_defined target) then before else Some line

module _ {W : ℕ} where
  -- the literals of the rule can be counted and printed
  abbrev pub IsWritable : RuleLine W → Type 0
  IsWritable rule = (length rule.literals ≤ MOST_BYTES) × AllByRecursion IsPrintableLiteral rule.literals

  -- so can those of each rule
  abbrev pub AreWritable : List (Placed W) → Type 0
  AreWritable rules = AllByRecursion (λ (placed : Placed W). IsWritable placed.rule) rules

  -- each rule is declared
  abbrev pub AreDeclared : List Declared → List (Placed W) → Type 0
  AreDeclared chains rules = AllByRecursion (λ (placed : Placed W). is_declared chains placed ≡ true) rules

  -- the line of the first rule that isn't, if there is one
  abbrev pub IsFirstUndeclared : List Declared → List (Placed W) → Option ℕ → Type 0
  IsFirstUndeclared chains rules None = AreDeclared chains rules
  IsFirstUndeclared chains rules (Some n) = (before : List (Placed W)) × (placed : Placed W) × (after : List (Placed W)) ×
      ((rules ≡ before ++ placed ∷ after) × AreDeclared chains before × (is_declared chains placed ≡ false) × (placed.number ≡ n))

  -- the state has these chains and rules of filter
  pub record Keeps (state : State W) (chains : List Declared) (rules : List (Placed W)) : Type 0 where
    pub names : state.names ≡ names_of chains
    pub differ : all_differ (names_of chains) ≡ true
    pub dumped : state.chains.items ≡ (dump_of chains rules).chains
    pub ruled : state.has_rules ≡ has_any rules
    pub undefined : IsFirstUndeclared chains rules state.undefined
    pub writable : AreWritable rules

  -- the state has what filter had, if it came
  abbrev pub Knows : State W → Option (Filter W) → Type 0
  Knows state None = (state.has_filter ≡ false) × Keeps state [] []
  Knows state (Some (chains, rules)) = (state.has_filter ≡ true) × Keeps state chains rules

  -- the state is that of a reader who stands there
  abbrev pub Shows : State W → Position W → Type 0
  Shows state (Position.Outside found) = (state.part ≡ Part.Outside) × Knows state found
  Shows state (Position.Passing found) = (state.part ≡ Part.Passed) × Knows state found
  Shows state (Position.Inside chains rules) = (state.part ≡ Part.Filter) × (state.has_filter ≡ true) × Keeps state chains rules

  -- what a reader who stands there after so many lines tells at the end of the text
  abbrev pub EndsWith : Position W → ℕ → ReadFault → Type 0
  EndsWith p lines (ReadFault.Malformed n) = (n ≡ lines + 1) × ((found : Option (Filter W)) → p ≡ Position.Outside found → ⊥)
  EndsWith p lines ReadFault.NoFilter = p ≡ Position.Outside None
  EndsWith p lines (ReadFault.UndefinedChain n) = (chains : List Declared) × (rules : List (Placed W)) ×
      ((p ≡ Position.Outside (Some (chains, rules))) × IsFirstUndeclared chains rules (Some n))
  EndsWith p lines ReadFault.Memory = ⊥

  -- what a reader who stands there at the end of the text answers
  pub record EndsAs (p : Position W) (dump : Dump (Prim_ W)) : Type 0 where
    pub chains : List Declared
    pub rules : List (Placed W)
    pub there : p ≡ Position.Outside (Some (chains, rules))
    pub declared : AreDeclared chains rules
    pub writable : AreWritable rules
    pub dump_is : dump ≡ dump_of chains rules
