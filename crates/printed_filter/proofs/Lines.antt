-- Whether some line of a cube passes: each dimension by itself.
use Rattle.std.proofs.Common.{◌≡◌, List, Bool, ◌&&◌, ◌∙◌, ap}
use Rattle.std.specs.List.{list_any}
use Rattle.interval_set.specs.declared.set.Range.{Range}
use Rattle.dump_print.specs.declared.flags.FlagCube.{FlagCube}
use Rattle.dump_print.specs.Parts.{Axes, Choice, between, choices_in, with_flags, with_dports, with_sports, with_destinations}
use Rattle.dump_print.specs.Ports.{Ports}
use Rattle.printed_filter.proofs.Truths.{any_same, any_and, any_under, any_map, any_flat}

module _ (test : Choice → Bool) (flags : FlagCube → Bool) (dports sports : Ports → Bool) (destination source : Range → Bool)
    (parts : (line : Choice) → test line ≡
    (flags line.flags && (dports line.dports && (sports line.sports && (destination line.destination && source line.source))))) where
  any_flags : (line : Choice) (cubes : List FlagCube) → list_any test (with_flags line cubes) ≡
      (list_any flags cubes && (dports line.dports && (sports line.sports && (destination line.destination && source line.source))))
  any_flags line cubes =
      any_map test (λ cube. record line { flags = cube }) cubes
      ∙ any_same (λ cube. test (record line { flags = cube }))
      (λ cube. flags cube && (dports line.dports && (sports line.sports && (destination line.destination && source line.source)))) cubes
      (λ cube. parts (record line { flags = cube }))
      ∙ any_and flags (dports line.dports && (sports line.sports && (destination line.destination && source line.source))) cubes

  any_dports : (line : Choice) (axes : Axes) → list_any test (with_dports line axes) ≡
      (list_any flags axes.flags && (list_any dports axes.dports && (sports line.sports && (destination line.destination && source line.source))))
  any_dports line axes =
      any_flat test (λ ports. with_flags (record line { dports = ports }) axes.flags) axes.dports
      ∙ any_same (λ ports. list_any test (with_flags (record line { dports = ports }) axes.flags))
      (λ ports. list_any flags axes.flags && (dports ports && (sports line.sports && (destination line.destination && source line.source)))) axes.dports
      (λ ports. any_flags (record line { dports = ports }) axes.flags)
      ∙ any_under (list_any flags axes.flags) (λ ports. dports ports && (sports line.sports && (destination line.destination && source line.source))) axes.dports
      ∙ ap (λ b. list_any flags axes.flags && b) (any_and dports (sports line.sports && (destination line.destination && source line.source)) axes.dports)

  any_sports : (line : Choice) (axes : Axes) → list_any test (with_sports line axes) ≡
      (list_any flags axes.flags && (list_any dports axes.dports && (list_any sports axes.sports && (destination line.destination && source line.source))))
  any_sports line axes =
      any_flat test (λ ports. with_dports (record line { sports = ports }) axes) axes.sports
      ∙ any_same (λ ports. list_any test (with_dports (record line { sports = ports }) axes))
      (λ ports. list_any flags axes.flags && (list_any dports axes.dports && (sports ports && (destination line.destination && source line.source)))) axes.sports
      (λ ports. any_dports (record line { sports = ports }) axes)
      ∙ any_under (list_any flags axes.flags) (λ ports. list_any dports axes.dports && (sports ports && (destination line.destination && source line.source))) axes.sports
      ∙ ap (λ b. list_any flags axes.flags && b)
      (any_under (list_any dports axes.dports) (λ ports. sports ports && (destination line.destination && source line.source)) axes.sports
      ∙ ap (λ b. list_any dports axes.dports && b) (any_and sports (destination line.destination && source line.source) axes.sports))

  any_destinations : (from : Range) (axes : Axes) → list_any test (with_destinations from axes) ≡
      (list_any flags axes.flags && (list_any dports axes.dports && (list_any sports axes.sports && (list_any destination axes.destinations && source from))))
  any_destinations from axes =
      any_flat test (λ to. with_sports (between from to) axes) axes.destinations
      ∙ any_same (λ to. list_any test (with_sports (between from to) axes))
      (λ to. list_any flags axes.flags && (list_any dports axes.dports && (list_any sports axes.sports && (destination to && source from)))) axes.destinations
      (λ to. any_sports (between from to) axes)
      ∙ any_under (list_any flags axes.flags) (λ to. list_any dports axes.dports && (list_any sports axes.sports && (destination to && source from))) axes.destinations
      ∙ ap (λ b. list_any flags axes.flags && b)
      (any_under (list_any dports axes.dports) (λ to. list_any sports axes.sports && (destination to && source from)) axes.destinations
      ∙ ap (λ b. list_any dports axes.dports && b)
      (any_under (list_any sports axes.sports) (λ to. destination to && source from) axes.destinations
      ∙ ap (λ b. list_any sports axes.sports && b) (any_and destination (source from) axes.destinations)))

  pub any_line : (axes : Axes) → list_any test (choices_in axes) ≡
      (list_any flags axes.flags && (list_any dports axes.dports && (list_any sports axes.sports && (list_any destination axes.destinations && list_any source axes.sources))))
  any_line axes =
      any_flat test (λ from. with_destinations from axes) axes.sources
      ∙ any_same (λ from. list_any test (with_destinations from axes))
      (λ from. list_any flags axes.flags && (list_any dports axes.dports && (list_any sports axes.sports && (list_any destination axes.destinations && source from)))) axes.sources
      (λ from. any_destinations from axes)
      ∙ any_under (list_any flags axes.flags) (λ from. list_any dports axes.dports && (list_any sports axes.sports && (list_any destination axes.destinations && source from))) axes.sources
      ∙ ap (λ b. list_any flags axes.flags && b)
      (any_under (list_any dports axes.dports) (λ from. list_any sports axes.sports && (list_any destination axes.destinations && source from)) axes.sources
      ∙ ap (λ b. list_any dports axes.dports && b)
      (any_under (list_any sports axes.sports) (λ from. list_any destination axes.destinations && source from) axes.sources
      ∙ ap (λ b. list_any sports axes.sports && b) (any_under (list_any destination axes.destinations) source axes.sources)))
