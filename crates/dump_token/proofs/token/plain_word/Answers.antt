use Rattle.std.proofs.Common.{refl, ap, ◌∙◌, ◌+◌, take}
use Rattle.dump_token.proofs.Steps.{plain_begins}
use Rattle.dump_token.proofs.token.plain_word.Goals as goal

pub returns : goal.returns
returns c =
    plain_begins c.args.bytes.now _ c.args.start c.requires.first refl
    (c.of-text.ensures ∙ c.in_ok-to_vec.ensures.items_if_clones_equal (λ x y e. e) ∙ ap (λ z. take z c.args.bytes.now) c.run-count.ensures.count)
    refl (ap (λ z. c.args.start + z) c.run-count.ensures.count)
