-- The group that some words of a line are.
use Rattle.std.specs.Prelude.{List, Option, Some, None, map}
use Rattle.std.specs.Borrow.{Bor}
use Rattle.dump_grammar.specs.declared.grouping.GroupWords.{GroupWords}
use Rattle.dump_grammar.specs.Groups.{Group, Base, Module, ModuleOption}
use Rattle.dump_grammar.specs.Lines.{Text, texts, words_of}

-- what a module's name points to
abbrev pub module_of : Option (Bor Text) → Option Text
module_of None = None
module_of (Some name) = Some name.now

-- the group that these words of a line are
abbrev pub group_of : GroupWords → Group
group_of (GroupWords.Base negated option arguments) = Base negated option.now (texts (words_of arguments.now))
group_of (GroupWords.Module name) = Module name.now
group_of (GroupWords.ModuleOption current negated option arguments) = ModuleOption (module_of current) negated option.now (texts (words_of arguments.now))

abbrev pub groups_of : List GroupWords → List Group
groups_of = map group_of
