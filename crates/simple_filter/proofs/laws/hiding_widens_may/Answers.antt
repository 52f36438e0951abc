use Rattle.fw_laws.proofs.Hiding as laws
use Rattle.primitives.specs.Holds.{holds_of}
use Rattle.simple_filter.specs.Hidden.{hides}
use Rattle.simple_filter.proofs.laws.hiding_widens_may.Goals as goal

pub returns : goal.returns
returns g c hide = laws.may_widens c.args.dump.now holds_of c.args.chain c.args.p.now (hides hide)
