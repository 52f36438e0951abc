use Rattle.std.proofs.Common.{◌≡◌, ◌∷◌, ◌++◌, [], sym, subst, arith}
use Rattle.name_set.specs.Bytes.{AreBytes}
use Rattle.name_set.proofs.ByteLists.{bytes_more, bytes_of}
use Rattle.name_set.proofs.least.longer.Goals as goal

pub returns-clause-bytes : goal.returns-clause-bytes
returns-clause-bytes c =
    let made = c.of.ensures in
    let pushed = c.in_ok-push.ensures.items in
    let copied = c.in_ok-extend_from_slice.ensures.items in
    let empty = c.in_ok-items.ensures.items in
    let is : c.of.result ≡ c.args.name.now ++ c.args.byte ∷ [] = grind (arith, made, pushed, copied, empty) in
    subst AreBytes (sym is) (bytes_more c.args.name.now c.args.byte (bytes_of c.args.name.now c.type_inv.name) (omega arith))
