use Rattle.std.proofs.Common.{ap}
use Rattle.dump_grammar.specs.GroupWords.{group_of, groups_of}
use Rattle.dump_grammar.specs.Lines.{texts, words_of}
use Rattle.dump_grammar.proofs.LineLemmas.{base_gives, base_gives_none}
use Rattle.dump_grammar.proofs.line_literals.group_literal.Goals as goal

pub returns-in-Some-clause-some : goal.returns-in-Some-clause-some
returns-in-Some-clause-some g c =
    base_gives g.F.Family.Reads g.groups (group_of c.args.group) (groups_of c.args.after.now) c.in-Base.negated c.in-Base.option.now (texts (words_of c.in-Base.arguments.now)) c.in-Some.literal
    (ap group_of c.in-Base.is) (rw c.in-Some.is at c.in_ok-literal-in-Base.ensures.some)

pub returns-in-None-clause-none : goal.returns-in-None-clause-none
returns-in-None-clause-none g c =
    base_gives_none g.F.Family.Reads g.groups (group_of c.args.group) (groups_of c.args.after.now) c.in-Base.negated c.in-Base.option.now (texts (words_of c.in-Base.arguments.now))
    (ap group_of c.in-Base.is) (rw c.in-None.is at c.in_ok-literal-in-Base.ensures.none)
