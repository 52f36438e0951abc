use Rattle.std.proofs.Common.{◌≤◌, ◌^◌, ◌∙◌, ◌++◌, ◌∷◌, [], ap, sym, arith}
use Rattle.std.proofs.Math.Pow.{pow_mono}
use Rattle.std.proofs.lemmas.Nat.{pow_pos}
use Rattle.interval_set.proofs.Joins.{Joined, join_first, join_apart, join_touching}
use Rattle.interval_set.proofs.PrefixLaws.{width_le}
use Rattle.interval_set.proofs.passes.join.Goals as goal
use Rattle.interval_set.proofs.passes.join.Goals.{in-Some+else-next-saturating_add+in_ok-push-2, in_default}

touching : (g : _) (c : goal.In_ok-push g) → Joined g.row.W c.args.out.now.items c.args.next c.push.new.self.items
touching g c =
    join_touching g.row.W c.args.out.now.items c.args.next c.pop.new.self.items c.in-Some.last _ c.requires.set c.requires.later
    c.in-Some.ensures.items (omega (arith, c.if-next-saturating_add.true, c.saturating_add.ensures)) c.requires.ordered c.requires.in_range
    (c.in_ok-push.ensures.items ∙ ap (λ h. c.pop.new.self.items ++ record { lo = c.in-Some.last.lo; hi = h } ∷ []) c.max.ensures)

apart : (g : _) (c : goal.In_ok-push-3 g) → Joined g.row.W c.args.out.now.items c.args.next c.push-2.new.self.items
apart g c =
    elim c.match-pop.branch [
      | in-Some+else-next-saturating_add+in_ok-push-2 w ↦
          let h : 2 ^ g.row.W ≤ 2 ^ 128 = pow_mono (width_le g.row.W c.requires.set.0) in
          join_apart g.row.W c.args.out.now.items c.args.next c.pop.new.self.items w.in-Some.last _ c.requires.set
          w.in-Some.ensures.items (omega (arith, w.if-next-saturating_add.false, w.saturating_add.ensures, c.requires.ordered, c.requires.in_range, h, pow_pos g.row.W))
          c.requires.ordered c.requires.in_range
          (c.in_ok-push-3.ensures.items ∙ ap (λ v. v.items ++ c.args.next ∷ []) w.out-is ∙ ap (λ v. v ++ c.args.next ∷ []) w.in_ok-push-2.ensures.items)
      | in_default w ↦ join_first g.row.W c.args.out.now.items c.pop.new.self.items c.args.next _ c.requires.set
          (sym c.args.out.now.ok.0 ∙ w.in_default.ensures.cases.0) (sym c.pop.new.self.ok.0 ∙ w.in_default.ensures.cases.1) c.requires.ordered c.requires.in_range
          (c.in_ok-push-3.ensures.items ∙ ap (λ v. v.items ++ c.args.next ∷ []) w.out-is)
    ]

pub returns-then-next-saturating_add-clause-numbers : goal.returns-then-next-saturating_add-clause-numbers
returns-then-next-saturating_add-clause-numbers g c = (touching g c).numbers

pub returns-then-next-saturating_add-clause-set : goal.returns-then-next-saturating_add-clause-set
returns-then-next-saturating_add-clause-set g c = (touching g c).set

pub returns-then-next-saturating_add-clause-last : goal.returns-then-next-saturating_add-clause-last
returns-then-next-saturating_add-clause-last g c = (touching g c).last

pub returns-clause-numbers : goal.returns-clause-numbers
returns-clause-numbers g c = (apart g c).numbers

pub returns-clause-set : goal.returns-clause-set
returns-clause-set g c = (apart g c).set

pub returns-clause-last : goal.returns-clause-last
returns-clause-last g c = (apart g c).last
