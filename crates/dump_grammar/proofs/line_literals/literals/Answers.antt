use Rattle.std.proofs.Common.{◌+◌, List, drop, subst}
use Rattle.dump_grammar.specs.GroupWords.{group_of, groups_of}
use Rattle.dump_grammar.specs.Groups.{Group}
use Rattle.dump_grammar.proofs.LineLemmas.{GivesLiteral, GivesNone, groups_after, groups_end, groups_here, literals_begin, literals_passed, literals_refused, literals_whole}
use Rattle.dump_grammar.proofs.line_literals.literals.Goals as goal

pub loop-i-init : goal.loop-i-init
loop-i-init g c = literals_begin g.F.Family.Reads g.all g.all (groups_of c.args.groups.now) c.new-found.result.items c.requires.1.1.1.1 c.new-found.ensures.items

pub loop-i-preserved : goal.loop-i-preserved
loop-i-preserved g c =
    literals_passed g.F.Family.Reads g.all g.all (groups_of (drop c.loop-i.i c.args.groups.now)) (groups_of (drop (c.loop-i.i + 1) c.args.groups.now)) (group_of c.index-groups-i.result)
    c.loop-i.found.items c.append.new.found.items c.in-Some.literal (groups_here c.args.groups.now c.loop-i.i c.index-groups-i.result c.loop-i-test.true c.index-groups-i.is)
    c.in_ok-append.ensures
    (subst (λ (gs : List Group). GivesLiteral {W = g.row.W} g.F.Family.Reads g.all (group_of c.index-groups-i.result) gs c.in-Some.literal) (groups_after c.args.groups.now c.loop-i.i)
    (rw c.in-Some.is at c.in_ok-literal.ensures.some))
    c.loop-i.invariant

pub returns-clause-some : goal.returns-clause-some
returns-clause-some g c =
    literals_whole g.F.Family.Reads g.all g.all (groups_of (drop c.loop-i.i c.args.groups.now)) c.loop-i.found.items (groups_end c.args.groups.now c.loop-i.i c.loop-i-test.false) c.loop-i.invariant

pub returns-in_default-clause-none : goal.returns-in_default-clause-none
returns-in_default-clause-none g c =
    literals_refused g.F.Family.Reads g.all g.all (groups_of (drop c.loop-i.i c.args.groups.now)) (groups_of (drop (c.loop-i.i + 1) c.args.groups.now)) (group_of c.index-groups-i.result)
    c.loop-i.found.items (groups_here c.args.groups.now c.loop-i.i c.index-groups-i.result c.loop-i-test.true c.index-groups-i.is)
    (subst (λ (gs : List Group). GivesNone g.row.W g.F.Family.Reads g.all (group_of c.index-groups-i.result) gs) (groups_after c.args.groups.now c.loop-i.i)
    (rw c.in_default.is at c.in_ok-literal.ensures.none))
    c.loop-i.invariant
