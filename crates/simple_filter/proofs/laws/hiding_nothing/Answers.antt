use Rattle.fw_laws.proofs.Hiding as laws
use Rattle.simple_filter.specs.declared.hiding.Hide.{Hide}
use Rattle.simple_filter.specs.Hidden.{hides}
use Rattle.simple_filter.proofs.HidingLemmas.{nothing_stands}
use Rattle.simple_filter.proofs.laws.hiding_nothing.Goals as goal

pub returns : goal.returns
returns g c = laws.nothing_hidden c.args.dump.now (hides Hide.Nothing) (λ expr. nothing_stands expr)
