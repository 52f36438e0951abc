use Rattle.std.proofs.Common.{◌≡◌, Some, slice_get, length, refl, arith}
use Rattle.std.proofs.lemmas.Option.{slice_get_read}
use Rattle.closure.specs.Rewriting.{rules_of}
use Rattle.closure.proofs.SkipLemmas.{read_in_mode}
use Rattle.closure.proofs.skips.first_item.Goals as goal

pub bounds-table-chain : goal.bounds-table-chain
bounds-table-chain g c = let long = c.requires.table.long in omega (arith, long, c.requires.inside)

pub returns-clause-ahead : goal.returns-clause-ahead
returns-clause-ahead g c =
    let skips = c.index-table-chain.result in
    let long = c.requires.table.long in
    let there : slice_get c.args.table.now c.args.chain ≡ Some skips = slice_get_read c.args.table.now (length c.args.table.now) c.args.chain skips refl (omega (arith, long, c.requires.inside)) c.index-table-chain.is in
    let inside = rw c.list_in.ensures at c.from_behind.ensures.inside in
    let over = rw c.list_in.ensures at c.from_behind.ensures.over in
    (read_in_mode c.args.side (rules_of c.args.dump.now c.args.chain) c.args.mode skips (c.requires.table.each c.args.chain skips there) c.args.at c.from_behind.result inside over).0

pub returns-clause-same : goal.returns-clause-same
returns-clause-same g c =
    let skips = c.index-table-chain.result in
    let long = c.requires.table.long in
    let there : slice_get c.args.table.now c.args.chain ≡ Some skips = slice_get_read c.args.table.now (length c.args.table.now) c.args.chain skips refl (omega (arith, long, c.requires.inside)) c.index-table-chain.is in
    let inside = rw c.list_in.ensures at c.from_behind.ensures.inside in
    let over = rw c.list_in.ensures at c.from_behind.ensures.over in
    (read_in_mode c.args.side (rules_of c.args.dump.now c.args.chain) c.args.mode skips (c.requires.table.each c.args.chain skips there) c.args.at c.from_behind.result inside over).1
