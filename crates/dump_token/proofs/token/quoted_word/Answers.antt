use Rattle.std.proofs.Common.{refl}
use Rattle.dump_token.proofs.Steps.{quoted_begins}
use Rattle.dump_token.proofs.token.quoted_word.Goals as goal

pub returns-in-Some-clause-found : goal.returns-in-Some-clause-found
returns-in-Some-clause-found c =
    let found = rw c.in-Some.is at c.in_ok-text.ensures.found in
    let inside = rw c.in-Some.is at c.in_ok-text.ensures.inside in
    quoted_begins c.args.bytes.now found.0 _ c.args.start c.in-Some.count inside found.1 found.2 refl refl refl
