use Rattle.std.proofs.Common.{◌≡◌, ◌∙◌, ◌*◌, ◌^◌, ◌-◌, ℕ, length, min, ap, sym}
use Rattle.std.proofs.lemmas.List.{length-map}
use Rattle.dump_print.specs.CubeLines.{axes_of}
use Rattle.dump_print.specs.Flags.{cubes_of}
use Rattle.dump_print.specs.Ports.{port_choices, ports_of}
use Rattle.dump_print.specs.Numbers.{protocols_of}
use Rattle.dump_print.proofs.CountLemmas.{choices_count, product_of}
use Rattle.dump_print.proofs.counting.count_cube.Goals as goal

pub returns : goal.returns
returns g c =
    let cube = c.args.cube.now in
    let most : ℕ = 2 ^ 64 - 1 in
    let dports : length c.as_slice.result.now ≡ length (port_choices (protocols_of cube.proto) cube.dport) =
    ap length c.as_slice.ensures.value ∙ sym (length-map c.in_ok-dports.dports.items ports_of) ∙ ap length c.in_ok-dports.ensures
    ∙ ap (λ p. length (port_choices p cube.dport)) c.in_ok-protocols.ensures in
    let flags : length c.as_slice-2.result.now ≡ length (cubes_of cube.flags) = ap length (c.as_slice-2.ensures.value ∙ c.in_ok-flags.ensures) in
    let sports : length c.as_slice-3.result.now ≡ length (port_choices (protocols_of cube.proto) cube.sport) =
    ap length c.as_slice-3.ensures.value ∙ sym (length-map c.in_ok-sports.sports.items ports_of) ∙ ap length c.in_ok-sports.ensures
    ∙ ap (λ p. length (port_choices p cube.sport)) c.in_ok-protocols.ensures in
    product_of (length cube.src) (length cube.dst) (length (port_choices (protocols_of cube.proto) cube.sport)) (length (port_choices (protocols_of cube.proto) cube.dport))
    (length (cubes_of cube.flags)) most _ _ _ _
    (c.saturating_mul-count.ensures ∙ (λ k. min (dports k * flags k) most))
    (c.saturating_mul-count-2.ensures ∙ (λ k. min (sports k * c.saturating_mul-count.result) most))
    (c.saturating_mul-count-3.ensures ∙ (λ k. min (length (c.ranges-2.ensures.same k) * c.saturating_mul-count-2.result) most))
    (c.saturating_mul.ensures ∙ (λ k. min (length (c.ranges-3.ensures.same k) * c.saturating_mul-count-3.result) most))
    ∙ ap (λ n. min n most) (sym (choices_count (axes_of cube)))
