use Rattle.std.proofs.Common.{take}
use Rattle.fffuu_run.specs.Spoofing.{AreVerdicts}
use Rattle.fffuu_run.proofs.spoofing.verdicts_of.Given as goal

abbrev pub invariant-loop-claim : goal.invariant-loop-claim
invariant-loop-claim g l = AreVerdicts l.dump l.chain g.F.Family.text_of (take l.claim-index l.claims) l.text.items
