use Rattle.std.proofs.Common.{ℕ, List, ap, subst, sym}
use Rattle.fw_io.specs.State.{Stock}
use Rattle.fffuu_run.specs.Runs.{IsDue}
use Rattle.fffuu_run.proofs.top.run_pure.Goals as goal

pub returns-clause-exact : goal.returns-clause-exact
returns-clause-exact c request spells due is =
    c.run.ensures.exact request spells due (subst (λ (text : List ℕ). IsDue request text due) (sym (ap (λ (s : Stock). s.left) c.new-source.ensures)) is)
