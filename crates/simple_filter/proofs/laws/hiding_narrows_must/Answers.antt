use Rattle.fw_laws.proofs.Hiding as laws
use Rattle.primitives.specs.Holds.{holds_of}
use Rattle.simple_filter.specs.Hidden.{hides}
use Rattle.simple_filter.proofs.laws.hiding_narrows_must.Goals as goal

pub returns : goal.returns
returns g c hide = laws.must_narrows c.args.dump.now holds_of c.args.chain c.args.p.now c.requires (hides hide)
