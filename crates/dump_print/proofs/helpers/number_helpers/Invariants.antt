use Rattle.std.proofs.Common.{◌≡◌, ◌≤◌, ◌+◌, ◌++◌, drop, map}
use Rattle.dump_print.specs.Helpers.{helped_from}
use Rattle.dump_print.specs.Views.{helped_of}
use Rattle.dump_print.proofs.helpers.number_helpers.Given as goal

abbrev pub invariant-loop-rule : goal.invariant-loop-rule
invariant-loop-rule g l = record {
  whole : map helped_of l.all.items ++ helped_from l.next (drop l.rule-index l.rules) ≡ helped_from 1 l.rules;
  few : l.next ≤ l.rule-index + 1;
}
