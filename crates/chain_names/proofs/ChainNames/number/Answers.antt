use Rattle.std.proofs.Common.{◌∙◌, position, sym, ap}
use Rattle.std.specs.Str.{bytes_eq}
use Rattle.chain_names.proofs.Names.{position-items}
use Rattle.chain_names.proofs.ChainNames.number.Goals as goal

pub returns-in_default : goal.returns-in_default
returns-in_default c =
    sym c.in_default.is ∙ c.get_index_of.ensures.index ∙ position-items (bytes_eq c.args.name.now) c.self.inside.names.keys
    ∙ ap (position (bytes_eq c.args.name.now)) c.self.view_is

pub returns : goal.returns
returns c =
    sym c.in-Some.is ∙ c.get_index_of.ensures.index ∙ position-items (bytes_eq c.args.name.now) c.self.inside.names.keys
    ∙ ap (position (bytes_eq c.args.name.now)) c.self.view_is
