use Rattle.std.specs.Prelude.{map, string_bytes}
use Rattle.request.proofs.RequestLaws.{spells_once}
use Rattle.request.proofs.laws.one_request.Goals as goal

pub returns : goal.returns
returns c = spells_once (map string_bytes c.args.words.now.items)
