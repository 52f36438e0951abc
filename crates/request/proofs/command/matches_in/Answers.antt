use Rattle.std.proofs.Common.{◌∙◌, ap, sym, map, string_bytes}
use Rattle.clap.specs.Words.{fault_of, is_simple, is_simple_and_free, matches_of}
use Rattle.request.specs.CommandLine.{faults_in, rows_in}
use Rattle.request.proofs.CommandLineLemmas.{fffuu-simple, fffuu-free, has_fault}
use Rattle.request.proofs.command.matches_in.Goals as goal

pub returns-in-Ok-clause-taken : goal.returns-in-Ok-clause-taken
unfolding faults_in rows_in
returns-in-Ok-clause-taken c =
    let app_is = c.in_ok-command.ensures in
    let words = map string_bytes c.args.words.now in (
      ap (λ a. fault_of a words) (sym app_is) ∙ c.in-Ok.ensures.kinds (ap is_simple_and_free app_is ∙ fffuu-free),
      (c.in-Ok.ensures.matches (ap is_simple app_is ∙ fffuu-simple)).0 ∙ ap (λ a. matches_of a words) app_is,
    )

pub returns : goal.returns
unfolding faults_in
returns c =
    let app_is = c.in_ok-command.ensures in
    let words = map string_bytes c.args.words.now in
    let kinds = c.in-Err.ensures.kinds (ap is_simple_and_free app_is ∙ fffuu-free) in
    record {
      taken = tt;
      refused = λ _ none. has_fault c.in-Err.error _ kinds (λ memory. c.in_default.not-OutOfMemory (c.kind.ensures ∙ memory))
          (ap (λ a. fault_of a words) app_is ∙ none);
    }
