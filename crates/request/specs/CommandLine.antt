-- The command, as clap's model of a command line sees it.
use Rattle.std.specs.Prelude.{List, Some, true, codes}
use Rattle.clap.specs.Lexer.{usize_max}
use Rattle.clap.specs.Words.{App, Kinds, Row, Rule, Text, fault_of, matches_of, new_app, new_rule, with_rule}
use Rattle.clap.specs.Simple.{on_top}

-- required, and the first of the positionals
abbrev pub mode_rule : Rule
mode_rule = record (new_rule (codes "mode")) { required = true }

-- the last positional, with any number of values
abbrev pub args_rule : Rule
args_rule = record (new_rule (codes "args")) {
  range = Some (record { start_inclusive = 0; end_inclusive = usize_max });
}

-- `--name` with one value
abbrev pub option_rule : Text → Rule
option_rule name = record (new_rule name) { long = Some name }

-- a command without the program's name among its words, and without the flags for help and version
abbrev pub bare : App
bare = on_top (λ s. record s { no_binary_name = true; disable_help_flag = true; disable_version_flag = true })
    (new_app (codes "fffuu"))

unfoldable pub fffuu : App
fffuu = with_rule (with_rule (with_rule (with_rule (with_rule bare mode_rule) args_rule)
    (option_rule (codes "chain"))) (option_rule (codes "family"))) (option_rule (codes "side"))

-- the kinds of fault that clap finds in the words, none where it takes them
unfoldable pub faults_in : List Text → Kinds
faults_in words = fault_of fffuu words

-- the matches of words that clap takes
unfoldable pub rows_in : List Text → List Row
rows_in words = matches_of fffuu words
