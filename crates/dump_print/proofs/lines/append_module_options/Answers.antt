use Rattle.std.proofs.Common.{◌≡◌, ◌∙◌, ◌++◌, codes, List}
use Rattle.std.proofs.lemmas.Result.{on_ok_weaker}
use Rattle.dump_grammar.specs.Lines.{Word}
use Rattle.dump_print.specs.Numbers.{protocols_of, types_of}
use Rattle.dump_print.specs.Parts.{iprange_words, listed_words, own_module_words, own_words, state_words, type_words}
use Rattle.dump_print.specs.Ports.{ports_of}
use Rattle.dump_print.specs.Spelling.{spaced}
use Rattle.dump_print.proofs.SpacedLemmas.{spaced_grown}
use Rattle.dump_print.proofs.lines.append_module_options.Goals as goal

pub returns : goal.returns
returns g c =
    let frame = c.args.frame.now in
    let protocols_are : frame.protocols ≡ protocols_of frame.cube.now.proto = c.requires.frame.0 in
    let types_are : frame.types ≡ types_of frame.cube.now.icmp = c.requires.frame.1 in
    let ranges : List Word = iprange_words g.F.Family.text_of g.row.W c.args.line.source c.args.line.destination in
    let own : List Word = own_words (ports_of c.args.line.sports) (ports_of c.args.line.dports) c.args.line.flags in
    let tests : List Word = own_module_words frame.protocols own in
    let types : List Word = type_words frame.protocols frame.types in
    let sports : List Word = listed_words (codes "--sports") (ports_of c.args.line.sports) in
    let dports : List Word = listed_words (codes "--dports") (ports_of c.args.line.dports) in
    let states : List Word = state_words frame.cube.now.state in
    on_ok_weaker c.append_state_words.result
    (λ h. spaced_grown ranges (tests ++ (types ++ (sports ++ (dports ++ states)))) _ _ _ c.in_ok-append_ranges.ensures
    (spaced_grown tests (types ++ (sports ++ (dports ++ states))) _ _ _ c.in_ok-append_own_module.ensures
    (spaced_grown types (sports ++ (dports ++ states)) _ _ _ c.in_ok-append_types.ensures
    (spaced_grown sports (dports ++ states) _ _ _ c.in_ok-append_listed.ensures
    (spaced_grown dports states _ _ _ c.in_ok-append_listed-2.ensures h))))
    ∙ (λ k. c.args.out.now.items
    ++ spaced (ranges ++ (own_module_words (protocols_are k) own ++ (type_words (protocols_are k) (types_are k) ++ (sports ++ (dports ++ states)))))))
    c.append_state_words.ensures
