use Rattle.std.proofs.Common.{◌∙◌, ◌++◌, ap, codes, List}
use Rattle.std.proofs.lemmas.Result.{on_ok_weaker}
use Rattle.dump_grammar.specs.Lines.{Word}
use Rattle.dump_print.specs.Addresses.{net_words}
use Rattle.dump_print.specs.Parts.{name_words, protocol_words}
use Rattle.dump_print.specs.Spelling.{spaced}
use Rattle.dump_print.proofs.SpacedLemmas.{spaced_grown}
use Rattle.dump_print.proofs.lines.append_base_options.Goals as goal

pub returns : goal.returns
returns g c =
    let source : List Word = net_words g.F.Family.text_of g.row.W (codes "-s") c.args.line.source in
    let destination : List Word = net_words g.F.Family.text_of g.row.W (codes "-d") c.args.line.destination in
    let in_name : List Word = name_words (codes "-i") c.args.frame.now.cube.now.in_name in
    let out_name : List Word = name_words (codes "-o") c.args.frame.now.cube.now.out_name in
    let protocols : List Word = protocol_words c.args.frame.now.protocols in
    on_ok_weaker c.append_protocols.result
    (λ h. spaced_grown source (destination ++ (in_name ++ (out_name ++ protocols))) _ _ _ c.in_ok-append_net.ensures
    (spaced_grown destination (in_name ++ (out_name ++ protocols)) _ _ _ c.in_ok-append_net-2.ensures
    (spaced_grown in_name (out_name ++ protocols) _ _ _ c.in_ok-append_names.ensures
    (spaced_grown out_name protocols _ _ _ c.in_ok-append_names-2.ensures h)))
    ∙ ap (λ p. c.args.out.now.items ++ spaced (source ++ (destination ++ (in_name ++ (out_name ++ protocol_words p))))) c.requires.frame.0)
    c.append_protocols.ensures
