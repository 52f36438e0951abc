-- Which dump a text is, and the causes for which it is none.
use Rattle.std.specs.Prelude.{ℕ, ◌≡◌, ◌++◌, Bool, true, false, ◌&&◌, List, ◌∷◌, filter, map, Contains}
use Rattle.std.specs.List.{AllByRecursion}
use Rattle.std.specs.Str.{bytes_eq}
use Rattle.primitives.specs.declared.prim.Prim_.{Prim_}
use Rattle.fw_rule.specs.declared.rule.Action.{Action}
use Rattle.fw_rule.specs.declared.rule.Rule.{Rule}
use Rattle.fw_rule.specs.declared.rule.Dump.{Dump}
use Rattle.dump_grammar.specs.Lines.{Text, AreLines, numbered_from}
use Rattle.dump_grammar.specs.declared.chains.Declared.{Declared}
use Rattle.dump_grammar.specs.declared.rule.Target.{Target}
use Rattle.dump_grammar.specs.ChainLines.{is_among}
use Rattle.dump_grammar.specs.Tables.{DumpTable, AreTables, IsFilter, IsFilterBody, Placed, names_of, IsBadLine}

-- whether a target is defined
abbrev pub is_defined : Target → Bool
is_defined (Target.Does action) = true
is_defined Target.Undefined = false

-- no dump has a rule of an undefined target, so what it does there doesn't matter
abbrev pub action_of : Target → Action
action_of (Target.Does action) = action
action_of Target.Undefined = Action.Pass

module _ {W : ℕ} where
  abbrev pub rule_of : Placed W → Rule (Prim_ W)
  rule_of placed = record { lits = placed.rule.literals; action = action_of placed.rule.target; line = placed.number }

  -- the chain of the rule is declared, and its `-g`, if it has one, names a declared user chain
  abbrev pub is_declared : List Declared → Placed W → Bool
  is_declared chains placed = is_among (names_of chains) placed.rule.chain && is_defined placed.rule.target

  -- whether the rule stands in the chain of this name
  abbrev pub is_in : Text → Placed W → Bool
  is_in name placed = bytes_eq placed.rule.chain name

  -- the chains in the order in which they are declared, each with its rules in the order of the text
  abbrev pub dump_of : List Declared → List (Placed W) → Dump (Prim_ W)
  dump_of chains rules = record {
    chains = map (λ (c : Declared). record {
      name = c.name;
      policy = c.policy;
      rules = map rule_of (filter (is_in c.name) rules);
    }) chains;
  }

module _ (W : ℕ) (Reads : Text → ℕ → Type 0) where
  -- the text is well formed, and has a table filter with these chains and rules
  pub record HasFilter (text : Text) (chains : List Declared) (rules : List (Placed W)) : Type 0 where
    pub lines : List Text
    pub parted : AreLines lines text
    pub tables : List DumpTable
    pub tabled : AreTables W Reads (numbered_from 1 lines) tables
    pub table : DumpTable
    pub there : Contains tables table
    pub is_filter : IsFilter table
    pub inside : IsFilterBody W Reads table.body chains rules

  -- the text is this dump
  pub record IsDump (text : Text) (dump : Dump (Prim_ W)) : Type 0 where
    pub chains : List Declared
    pub rules : List (Placed W)
    pub filter_is : HasFilter text chains rules
    pub declared : AllByRecursion (λ placed. is_declared chains placed ≡ true) rules
    pub dump_is : dump ≡ dump_of chains rules

  -- the first rule line whose chain isn't declared, or whose `-g` names no declared user chain
  pub record IsUndefinedLine (text : Text) (n : ℕ) : Type 0 where
    pub chains : List Declared
    pub before : List (Placed W)
    pub placed : Placed W
    pub after : List (Placed W)
    pub filter_is : HasFilter text chains (before ++ placed ∷ after)
    pub declared : AllByRecursion (λ other. is_declared chains other ≡ true) before
    pub undeclared : is_declared chains placed ≡ false
    pub number_is : placed.number ≡ n

  -- the text is well formed and has no table filter
  pub record HasNoFilter (text : Text) : Type 0 where
    pub lines : List Text
    pub parted : AreLines lines text
    pub tables : List DumpTable
    pub tabled : AreTables W Reads (numbered_from 1 lines) tables
    pub none : AllByRecursion (λ t. IsFilter t → ⊥) tables

  -- the line of this number is the first that is wrong
  pub record IsMalformed (text : Text) (n : ℕ) : Type 0 where
    pub lines : List Text
    pub parted : AreLines lines text
    pub bad : IsBadLine W Reads lines n
