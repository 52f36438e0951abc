use Rattle.std.proofs.Common.{◌∙◌, ◌++◌, ◌≡◌, codes, ap, sym, subst}
use Rattle.dump_token.specs.Words.{AreBlanks}
use Rattle.dump_read.proofs.ByteLemmas.{commit_of, commit_rest, front_taken, front_left, front_differs}
use Rattle.dump_read.proofs.lines.is_commit.Goals as goal

pub returns-in-Some : goal.returns-in-Some
returns-in-Some c =
    let rest = c.without_blanks.result.now in
    let word = c.as_slice.result.now in
    let cut = c.in-Some.ensures.cases in (
      λ t. commit_of c.args.line.now rest c.in-Some.rest.now c.without_blanks.ensures (let e : word ≡ codes "COMMIT" = c.as_slice.ensures in front_taken rest word cut.0 ∙ ap (λ z. word ++ z) (sym cut.1) ∙ ap (λ z. z ++ c.in-Some.rest.now) e) (c.all_blank.ensures.0 t),
      λ is.
          let e : word ≡ codes "COMMIT" = c.as_slice.ensures in
          let r = commit_rest c.args.line.now rest c.without_blanks.ensures is in
          c.all_blank.ensures.1 (subst AreBlanks (sym (cut.1 ∙ front_left rest word r.0 (r.1.0 ∙ ap (λ z. z ++ r.0) (sym e)))) r.1.1),
    )

pub returns-in-None : goal.returns-in-None
returns-in-None c =
    let rest = c.without_blanks.result.now in
    let word = c.as_slice.result.now in (
      λ t. absurd cc,
      λ is.
          let e : word ≡ codes "COMMIT" = c.as_slice.ensures in
          let r = commit_rest c.args.line.now rest c.without_blanks.ensures is in
          absurd (front_differs rest word r.0 c.in-None.ensures.cases (r.1.0 ∙ ap (λ z. z ++ r.0) (sym e))),
    )
