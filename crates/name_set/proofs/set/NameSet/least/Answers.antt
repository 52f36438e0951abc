use Rattle.std.proofs.Common.{◌≡◌, Some, true, false, ap, sym, ◌∙◌, subst}
use Rattle.name_set.specs.Bytes.{AreBytes}
use Rattle.name_set.specs.Least.{IsLeast}
use Rattle.name_set.specs.Names.{has_name, some_fits}
use Rattle.name_set.specs.Patterns.{text_of}
use Rattle.name_set.proofs.Search.{text_least, text_taken}
use Rattle.name_set.proofs.set.NameSet.least.Goals as goal

pub returns-then-contains : goal.returns-then-contains
returns-then-contains c =
    let set = c.args.self.now in
    let copied = c.in_ok-bytes_copy.ensures in
    let is : c.in_ok-bytes_copy.field-0 ≡ text_of set.base = copied.value ∙ c.text-text.ensures in
    let inside : has_name set (text_of set.base) ≡ true = ap (has_name set) (sym c.text-text.ensures) ∙ sym c.contains.ensures ∙ c.if-contains.true in
    subst (λ m. IsLeast set (Some m)) (sym is) (text_least set (subst AreBytes is copied.bytes) inside)

pub least_longer-requires : goal.least_longer-requires
least_longer-requires c =
    let set = c.args.self.now in
    let outside : has_name set (text_of set.base) ≡ false = ap (has_name set) (sym c.text-text.ensures) ∙ sym c.contains.ensures ∙ c.if-contains.false in
    let taken = text_taken set outside in
    let text : c.as_slice-in-Prefix.result.now ≡ text_of set.base = c.as_slice-in-Prefix.ensures ∙ sym (ap text_of c.in-Prefix.is) in
    ap (λ ps. some_fits ps c.as_slice-in-Prefix.result.now) c.as_slice.ensures ∙ ap (some_fits set.excluded) text ∙ taken
