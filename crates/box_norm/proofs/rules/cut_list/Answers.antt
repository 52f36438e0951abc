use Rattle.std.proofs.Common.{ap, subst, sym, ◌∙◌}
use Rattle.std.specs.List.{AllByRecursion}
use Rattle.box_norm.specs.Cubes.{any_holds}
use Rattle.box_norm.specs.Cuts.{cuts_by}
use Rattle.box_norm.specs.Disjoint.{AreDisjoint}
use Rattle.box_norm.specs.Regular.{HasStates, NamesAreOf}
use Rattle.box_norm.proofs.CutLaws.{cuts_keep, answers_packets}
use Rattle.box_norm.proofs.PartLaws.{keep_disjoint}
use Rattle.box_norm.proofs.StayLaws.{keep_names, keep_states}
use Rattle.box_norm.proofs.rules.cut_list.Goals as goal

pub returns-clause-packets : goal.returns-clause-packets
returns-clause-packets g c = answers_packets g.row.W ((cuts_by {W = g.row.W} c.args.e.now).keep c.args.list.now) c.keep_list.result _
    (λ l is p v. ap (λ z. any_holds z p) is ∙ (cuts_keep g.row.W p v c.args.e.now).keep c.args.list.now) c.keep_list.ensures.answers

pub returns-clause-disjoint : goal.returns-clause-disjoint
returns-clause-disjoint g c = λ h. answers_packets g.row.W ((cuts_by {W = g.row.W} c.args.e.now).keep c.args.list.now) c.keep_list.result AreDisjoint
    (λ l is. subst AreDisjoint (sym is) (keep_disjoint g.row.W c.args.e.now c.args.list.now h)) c.keep_list.ensures.answers

pub returns-clause-states : goal.returns-clause-states
returns-clause-states g c = λ h. answers_packets g.row.W ((cuts_by {W = g.row.W} c.args.e.now).keep c.args.list.now) c.keep_list.result (AllByRecursion HasStates)
    (λ l is. subst (AllByRecursion HasStates) (sym is) (keep_states g.row.W c.args.e.now c.args.list.now h)) c.keep_list.ensures.answers

pub returns-clause-patterns : goal.returns-clause-patterns
returns-clause-patterns g c = λ ps k h. answers_packets g.row.W ((cuts_by {W = g.row.W} c.args.e.now).keep c.args.list.now) c.keep_list.result (AllByRecursion (NamesAreOf ps))
    (λ l is. subst (AllByRecursion (NamesAreOf ps)) (sym is) (keep_names g.row.W c.args.e.now ps k c.args.list.now h)) c.keep_list.ensures.answers
