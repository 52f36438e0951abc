use Rattle.std.proofs.Common.{◌++◌, ◌∙◌, inr, append_assoc, length, length-append, ap, sym, arith, lit<}
use Rattle.reader_trial.proofs.text_tests.shown_in_pieces.Goals as goal

pub feed-requires : goal.feed-requires
feed-requires g c =
    let (front, (whole, stands)) = c.loop-rest.invariant in
    (lit< tt, (c.requires.width, (inr (front, stands), λ none. omega (arith, stands.size, ap length whole, length-append front c.loop-rest.rest.now, c.split_at.ensures.front_len, c.split_at.ensures.back_len, c.requires.size))))

pub loop-rest-preserved : goal.loop-rest-preserved
loop-rest-preserved g c =
    let (front, (whole, stands)) = c.loop-rest.invariant in
    let piece = c.split_at.result.0.now in
    let after = c.split_at.result.1.now in
    (front ++ piece, (whole ∙ ap (λ z. front ++ z) c.split_at.ensures.by_index.0 ∙ sym (append_assoc front piece after), c.in_ok-feed.ensures.ok front stands))

pub finish-requires : goal.finish-requires
finish-requires g c =
    let (front, (whole, stands)) = c.loop-rest.invariant in
    (lit< tt, (lit< tt, (c.requires.width, inr (front, stands))))
