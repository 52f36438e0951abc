use Rattle.std.proofs.Common.{◌≡◌, ◌∙◌, ◌++◌, ap, codes, map, ℕ, List}
use Rattle.std.proofs.lemmas.Result.{on_ok_weaker}
use Rattle.dump_grammar.specs.Lines.{Word, bare}
use Rattle.name_set.specs.declared.pattern.Pattern.{Pattern}
use Rattle.dump_print.specs.Helpers.{return_line, returned_numbers, returned_patterns, returned_protocols, returned_types, type_return}
use Rattle.dump_print.specs.Names.{name_word}
use Rattle.dump_print.specs.Numbers.{protocol_text, protocols_of}
use Rattle.dump_print.specs.Spelling.{lines_text}
use Rattle.dump_print.proofs.LineLemmas.{lines_grown}
use Rattle.dump_print.proofs.helpers.append_returns.Goals as goal

pub returns : goal.returns
returns g c =
    let chain = c.args.chain.now in
    let cube = c.args.cube.now in
    let name_line : List ℕ → Pattern → List Word = λ option pattern. return_line chain option (name_word pattern) in
    let protocol_line : ℕ → List Word = λ n. return_line chain (codes "-p") (bare (protocol_text n)) in
    let protocols : List (List Word) = map protocol_line (returned_protocols cube.proto) in
    let types : List (List Word) = map (λ n. type_return chain (protocols_of cube.proto) n) (returned_types cube.icmp) in
    let protocols_are : c.as_slice.result.now ≡ returned_protocols cube.proto =
    c.as_slice.ensures.value ∙ c.in_ok-returned_protocols.ensures ∙ ap (λ said. returned_numbers said cube.proto) c.in_ok-protocols.ensures in
    let types_are : c.as_slice-2.result.now ≡ returned_types cube.icmp =
    c.as_slice-2.ensures.value ∙ c.in_ok-returned_types.ensures ∙ ap (λ said. returned_numbers said cube.icmp) c.in_ok-line_types.ensures in
    on_ok_weaker c.append_type_returns.result
    (λ h. lines_grown (map (name_line (codes "-i")) (returned_patterns cube.in_name)) (map (name_line (codes "-o")) (returned_patterns cube.out_name) ++ (protocols ++ types)) _ _ _
    (c.in_ok-append_name_returns.ensures ∙ ap (λ ps. c.args.out.now.items ++ lines_text (map (name_line (codes "-i")) ps)) c.returned_patterns.ensures)
    (lines_grown (map (name_line (codes "-o")) (returned_patterns cube.out_name)) (protocols ++ types) _ _ _
    (c.in_ok-append_name_returns-2.ensures ∙ ap (λ ps. c.append_name_returns.new.out.items ++ lines_text (map (name_line (codes "-o")) ps)) c.returned_patterns-2.ensures)
    (lines_grown protocols types _ _ _
    (c.in_ok-append_protocol_returns.ensures ∙ ap (λ ns. c.append_name_returns-2.new.out.items ++ lines_text (map protocol_line ns)) protocols_are)
    (h ∙ (λ k. c.append_protocol_returns.new.out.items ++ lines_text (map (λ n. type_return chain (c.in_ok-protocols.ensures k) n) (types_are k)))))))
    c.append_type_returns.ensures
