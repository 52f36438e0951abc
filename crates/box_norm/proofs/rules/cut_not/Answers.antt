use Rattle.std.proofs.Common.{◌≡◌, subst, sym, ◌&&◌, not}
use Rattle.std.specs.Prelude.{IfOk}
use Rattle.std.specs.List.{AllByRecursion}
use Rattle.match_expr.specs.Meaning.{eval_of}
use Rattle.primitives.specs.declared.prim.Packet.{Packet}
use Rattle.primitives.specs.Holds.{holds_of, IsValid}
use Rattle.box_norm.specs.Cubes.{any_holds}
use Rattle.box_norm.specs.Disjoint.{AreDisjoint}
use Rattle.box_norm.specs.Regular.{AreRegular, HasStates}
use Rattle.box_norm.proofs.rules.cut_not.Goals as goal

pub returns-clause-packets : goal.returns-clause-packets
returns-clause-packets g c = subst (λ z. IfOk c.cut_not_list.result (λ l. (p : Packet) → IsValid g.row.W p → any_holds l p ≡ (any_holds z p && not (eval_of (λ x. holds_of x p) c.args.e.now))))
    c.as_slice.ensures c.cut_not_list.ensures.packets

pub returns-clause-disjoint : goal.returns-clause-disjoint
returns-clause-disjoint g c = λ h. c.cut_not_list.ensures.disjoint (subst AreDisjoint (sym c.as_slice.ensures) h)

pub returns-clause-regular : goal.returns-clause-regular
returns-clause-regular g c = λ h. c.cut_not_list.ensures.regular (subst AreRegular (sym c.as_slice.ensures) h)

pub returns-clause-states : goal.returns-clause-states
returns-clause-states g c = λ h. c.cut_not_list.ensures.states (subst (AllByRecursion HasStates) (sym c.as_slice.ensures) h)
