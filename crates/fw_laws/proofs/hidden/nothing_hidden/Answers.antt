use Rattle.fw_laws.proofs.Hiding as laws
use Rattle.fw_laws.proofs.hidden.nothing_hidden.Goals as goal

pub returns : goal.returns
returns g c = laws.nothing_hidden c.args.dump.now
