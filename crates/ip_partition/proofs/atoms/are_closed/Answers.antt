use Rattle.std.proofs.Common.{ℕ, List, ◌<◌, ◌≡◌, length, get_or, subst, rules, IsTrue}
use Rattle.ip_partition.specs.inner.Atoms.{is_in}
use Rattle.ip_partition.proofs.Runs.{closed_more}
use Rattle.ip_partition.proofs.atoms.are_closed.Goals as goal

pub loop-range-preserved : goal.loop-range-preserved
loop-range-preserved c =
    let P : List ℕ → Type 0 = λ ls. (k : ℕ) → k < length ls → is_in c.run_of-first.result.0 c.run_of-first.result.1 k ≡ is_in c.run_of-first.result.0 c.run_of-first.result.1 (get_or ls k 0) in
    let t : IsTrue c.is_closed.result = search rules in
    closed_more c.args.starts.now c.args.numbering.now.leaders.items c.args.ranges.now c.loop-range.range-index c.run_of-first.result.0 c.run_of-first.result.1
    c.loop-range-test.true c.requires.leaders c.requires.count c.run_of-first.ensures.atoms (subst P c.as_slice.ensures.value (c.is_closed.ensures t)) c.loop-range.invariant
