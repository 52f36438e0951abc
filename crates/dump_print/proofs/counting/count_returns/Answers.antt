use Rattle.std.proofs.Common.{◌∙◌, ap, length, arith}
use Rattle.dump_print.specs.Helpers.{returned_numbers}
use Rattle.dump_print.proofs.CountLemmas.{returns_count}
use Rattle.dump_print.proofs.counting.count_returns.Goals as goal

pub returns : goal.returns
returns g c = let cube = c.args.cube.now in
    λ chain. omega (
      arith,
      returns_count chain cube,
      ap length c.returned_patterns.ensures,
      ap length c.returned_patterns-2.ensures,
      ap length (c.as_slice.ensures.value ∙ c.in_ok-protocols.ensures ∙ ap (λ said. returned_numbers said cube.proto) c.in_ok-line_protocols.ensures),
      ap length (c.as_slice-2.ensures.value ∙ c.in_ok-types.ensures ∙ ap (λ said. returned_numbers said cube.icmp) c.in_ok-line_types.ensures),
    )
