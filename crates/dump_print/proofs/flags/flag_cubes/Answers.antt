use Rattle.std.proofs.Common.{◌∙◌, ◌++◌, ap}
use Rattle.dump_print.proofs.FlagLemmas.{all_cubes, cubes_at}
use Rattle.dump_print.proofs.flags.flag_cubes.Goals as goal

pub returns : goal.returns
returns c =
    c.in_ok-add_cubes.ensures
    ∙ ap (λ old. old ++ cubes_at c.args.numbers 1 (record { mask = 0; comp = 0 }) 6) c.new-cubes.ensures.items
    ∙ all_cubes c.args.numbers
