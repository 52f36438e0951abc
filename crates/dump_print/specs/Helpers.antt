-- Which rules need a helper chain, and what stands in it.
use Rattle.std.specs.Prelude.{ℕ, ◌+◌, ◌&&◌, ◌++◌, ◌∷◌, [], List, Bool, not, Option, Some, None, map, codes, decimal, if◌then◌else◌}
use Rattle.interval_set.specs.declared.set.Range.{Range}
use Rattle.name_set.specs.declared.pattern.Pattern.{Pattern}
use Rattle.name_set.specs.declared.set.NameSet.{NameSet}
use Rattle.box_norm.specs.declared.cube.Cube.{Cube}
use Rattle.box_norm.specs.declared.cube.SimpleRule.{SimpleRule}
use Rattle.dump_grammar.specs.Lines.{Text, Word, bare}
use Rattle.dump_print.specs.Names.{is_plain_names, name_word}
use Rattle.dump_print.specs.declared.numbers.Numbers.{Numbers}
use Rattle.dump_print.specs.Parts.{option_words, protocol_words, rule_words, type_words}
use Rattle.dump_print.specs.Numbers.{are_plain_numbers, lacking, protocol_text, protocols_of, types_of}

-- whether one line can't say the names of an interface, the protocols or the types of messages
abbrev pub needs_helper : {W : ℕ} → Cube W → Bool
needs_helper cube = not (is_plain_names cube.in_name && (is_plain_names cube.out_name
    && (are_plain_numbers (protocols_of cube.proto) && are_plain_numbers (types_of cube.icmp))))

-- a rule, with the number of its helper chain where it needs one
pub record HelpedRule (W : ℕ) : Type 0 where
  pub rule : SimpleRule W
  pub helper : Option ℕ

-- the rules in order; those that need a helper chain number theirs from `next` on
abbrev pub helped_from : {W : ℕ} → ℕ → List (SimpleRule W) → List (HelpedRule W)
helped_from next [] = []
helped_from next (rule ∷ rules) =
    if needs_helper rule.cube
    then record { rule = rule; helper = Some next } ∷ helped_from (next + 1) rules
    else record { rule = rule; helper = None } ∷ helped_from next rules

-- helper chains are C1, C2 and so on
abbrev pub helper_name : ℕ → Text
helper_name n = codes "C" ++ decimal n

-- the target of a verdict
abbrev pub verdict_text : Bool → Text
verdict_text accept = if accept then codes "ACCEPT" else codes "DROP"

-- the excluded patterns, unless a line says them
abbrev pub returned_patterns : NameSet → List Pattern
returned_patterns names = if is_plain_names names then [] else names.excluded

-- the numbers that a set lacks, unless a line says the set
abbrev pub returned_numbers : Numbers → List Range → List ℕ
returned_numbers said set = if are_plain_numbers said then [] else lacking set

abbrev pub returned_protocols : List Range → List ℕ
returned_protocols set = returned_numbers (protocols_of set) set

abbrev pub returned_types : List Range → List ℕ
returned_types set = returned_numbers (types_of set) set

-- packets of which a line says this go back to the asked chain
abbrev pub return_where : Text → List Word → List Word
return_where chain parts = rule_words chain parts (codes "RETURN")

-- packets with this option
abbrev pub return_line : Text → Text → Word → List Word
return_line chain option argument = return_where chain (option_words option argument)

-- messages of this type, where the protocols are one whose messages have types
abbrev pub type_return : Text → Numbers → ℕ → List Word
type_return chain protocols n = return_where chain (protocol_words protocols ++ type_words protocols (Numbers.Only n))

-- the lines by which what the cube excludes goes back to the asked chain
abbrev pub return_lines : {W : ℕ} → Text → Cube W → List (List Word)
return_lines chain cube =
    map (λ pattern. return_line chain (codes "-i") (name_word pattern)) (returned_patterns cube.in_name)
    ++ (map (λ pattern. return_line chain (codes "-o") (name_word pattern)) (returned_patterns cube.out_name)
    ++ (map (λ n. return_line chain (codes "-p") (bare (protocol_text n))) (returned_protocols cube.proto)
    ++ map (λ n. type_return chain (protocols_of cube.proto) n) (returned_types cube.icmp)))

-- the lines of a helper chain: all else gets the verdict
abbrev pub helper_lines : {W : ℕ} → Text → SimpleRule W → List (List Word)
helper_lines chain rule = return_lines chain rule.cube ++ rule_words chain [] (verdict_text rule.accept) ∷ []
