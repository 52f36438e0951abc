use Rattle.std.proofs.Common.{sym, ◌∙◌, subst}
use Rattle.name_set.specs.Bytes.{AreBytes}
use Rattle.name_set.proofs.ByteLists.{bytes_of}
use Rattle.name_set.proofs.pattern.bytes_copy.Goals as goal

pub returns-clause-bytes : goal.returns-clause-bytes
returns-clause-bytes c = subst AreBytes (sym (c.of.ensures ∙ c.in_ok-items.ensures.items)) (bytes_of c.args.bytes.now c.type_inv.bytes)
