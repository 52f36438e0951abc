use Rattle.chain_names.proofs.Names.{distinct-items}
use Rattle.chain_names.proofs.ChainNames.len.Goals as goal

pub returns-clause-distinct : goal.returns-clause-distinct
returns-clause-distinct c = rw (← c.self.view_is) (distinct-items _ c.len.ensures.unique)
