use Rattle.std.proofs.Common.{sym}
use Rattle.primitives.proofs.ListLemmas.{bit_is, bit_none, place_small}
use Rattle.primitives.proofs.words.bit_named.Goals as goal

pub bit-requires : goal.bit-requires
bit-requires c = place_small _ c.args.text.now c.in-Some.place c.requires (sym c.in-Some.ensures)

pub returns-in-Some : goal.returns-in-Some
returns-in-Some c = bit_is _ c.args.text.now c.in-Some.place _ (sym c.in-Some.ensures) c.bit.ensures

pub returns-in-None : goal.returns-in-None
returns-in-None c = bit_none _ c.args.text.now (sym c.in-None.ensures)
