use Rattle.std.proofs.Common.{subst, sym}
use Rattle.box_norm.specs.Regular.{EachCube, HasStates, NamesAreOf, rule_patterns}
use Rattle.box_norm.proofs.Normals.{answers_first, answers_of}
use Rattle.box_norm.proofs.StayLaws.{normal_states, normal_patterns}
use Rattle.box_norm.proofs.rules.normal.Goals as goal

pub returns-clause-first : goal.returns-clause-first
returns-clause-first g c = answers_first g.row.W c.args.rules.now c.normal_list.result c.normal_list.ensures.answers

pub returns-clause-states : goal.returns-clause-states
returns-clause-states g c = answers_of g.row.W c.args.rules.now c.normal_list.result (EachCube HasStates)
    (λ l is. subst (EachCube HasStates) (sym is) (normal_states g.row.W c.args.rules.now)) c.normal_list.ensures.answers

pub returns-clause-patterns : goal.returns-clause-patterns
returns-clause-patterns g c = answers_of g.row.W c.args.rules.now c.normal_list.result (EachCube (NamesAreOf (rule_patterns c.args.rules.now)))
    (λ l is. subst (EachCube (NamesAreOf (rule_patterns c.args.rules.now))) (sym is) (normal_patterns g.row.W c.args.rules.now)) c.normal_list.ensures.answers
