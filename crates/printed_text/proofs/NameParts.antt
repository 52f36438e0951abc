-- The parts of a line that name interfaces.
use Rattle.std.proofs.Common.{◌≡◌, ◌++◌, ◌∷◌, ◌≤◌, ◌||◌, ◌&&◌, [], ℕ, List, Bool, true, false, Some, inl, inr, refl, arith, codes, if◌then◌else◌, length, length-append, map, flat_map}
use Rattle.std.specs.List.{AllByRecursion}
use Rattle.name_set.specs.declared.pattern.Pattern.{Pattern}
use Rattle.name_set.specs.declared.set.NameSet.{NameSet}
use Rattle.match_expr.specs.declared.expr.Expr.TheVariants.{Prim}
use Rattle.primitives.specs.declared.prim.Prim_.{Prim_}
use Rattle.fw_rule.specs.declared.rule.Lit.{Lit}
use Rattle.dump_grammar.specs.ChainLines.{is_among}
use Rattle.dump_grammar.specs.Groups.{Group, arity_of, base_options}
use Rattle.dump_grammar.specs.Lines.{Text, bare}
use Rattle.dump_grammar.specs.Literals.{IsBaseLiteral, IsNameLiteral, IsPattern}
use Rattle.dump_grammar.specs.Printable.{IsPrintable}
use Rattle.dump_print.specs.Names.{has_at_most_one, has_none, is_every_name, is_plain_names, name_word, pattern_name}
use Rattle.dump_print.specs.Parts.{name_words, negated_words, option_words}
use Rattle.printed_filter.specs.Literals.{name_literals, no, yes}
use Rattle.printed_text.specs.Names.{ArePrintableNames}
use Rattle.printed_text.proofs.WordLemmas.{CanStand, code_is_written, name_is_written}
use Rattle.printed_text.proofs.PartLemmas.{arity_is, IsPart, MaybePart, base_part, no_part}

pattern_is : (pattern : Pattern) → IsPrintable pattern → IsPattern (pattern_name pattern) pattern
pattern_is (Pattern.Exact name) is = (refl, is.2)
pattern_is (Pattern.Prefix front) is = refl

pattern_some : (pattern : Pattern) → IsPrintable pattern → 1 ≤ length (pattern_name pattern)
pattern_some (Pattern.Exact name) is = is.0
pattern_some (Pattern.Prefix front) is = omega (arith, length-append front (codes "+"))

pattern_short : (pattern : Pattern) → IsPrintable pattern → length (pattern_name pattern) ≤ 255
pattern_short (Pattern.Exact name) is = is.1
pattern_short (Pattern.Prefix front) is = omega (arith, length-append front (codes "+"), is.0)

module _ {W : ℕ} (Reads : Text → ℕ → Type 0) (Knows : List Group → Type 0) where
  -- the option says which names an interface has
  abbrev pub SaysName : Text → (Pattern → Prim_ W) → Type 0
  SaysName option prim = (negated : Bool) (text : Text) (l : Lit (Prim_ W)) → IsNameLiteral prim text negated l → IsBaseLiteral Reads negated option (text ∷ []) l

  input_says : SaysName (codes "-i") Prim_.InName
  input_says negated text l is = inr (inr (inl (text, (refl, refl, is))))

  output_says : SaysName (codes "-o") Prim_.OutName
  output_says negated text l is = inr (inr (inr (inl (text, (refl, refl, is)))))

  name_literal : (prim : Pattern → Prim_ W) (negated : Bool) (pattern : Pattern) → IsPrintable pattern
      → IsNameLiteral prim (pattern_name pattern) negated (Lit.Known negated (Prim (prim pattern)))
  name_literal prim negated pattern is = (pattern, (pattern_is pattern is, pattern_some pattern is, pattern_short pattern is, refl))

  module _ (option : Text) (prim : Pattern → Prim_ W) (among : is_among base_options option ≡ true) (arity : arity_of [] option ≡ Some 1)
      (says : SaysName option prim) (named : CanStand (bare option)) where
    base_name : (pattern : Pattern) → IsPrintable pattern → IsPart Reads Knows (option ∷ []) (option_words option (name_word pattern)) (yes (prim pattern) ∷ [])
    base_name pattern is = base_part Reads Knows false option (name_word pattern) (yes (prim pattern)) among arity
        (says false (pattern_name pattern) (yes (prim pattern)) (name_literal prim false pattern is)) named (name_is_written pattern is)

    other_name : (pattern : Pattern) → IsPrintable pattern → IsPart Reads Knows (option ∷ []) (negated_words option (name_word pattern)) (no (prim pattern) ∷ [])
    other_name pattern is = base_part Reads Knows true option (name_word pattern) (no (prim pattern)) among arity
        (says true (pattern_name pattern) (no (prim pattern)) (name_literal prim true pattern is)) named (name_is_written pattern is)

    -- the base alone, or the one pattern that is excluded from every name
    names_part_of : (base : Pattern) (excluded : List Pattern) → IsPrintable base → AllByRecursion IsPrintable excluded
        → (every plain : Bool) → (has_none excluded || (every && has_at_most_one excluded)) ≡ plain
        → MaybePart Reads Knows option
        ((if every then [] else option_words option (name_word base)) ++ (if plain then flat_map (λ p. negated_words option (name_word p)) excluded else []))
        ((if every then [] else yes (prim base) ∷ []) ++ (if plain then map (λ pattern. no (prim pattern)) excluded else []))
    names_part_of base excluded is are true false e = record { there = false; part = no_part Reads Knows }
    names_part_of base excluded is are false false e = record { there = true; part = base_name base is }
    names_part_of base [] is are true true e = record { there = false; part = no_part Reads Knows }
    names_part_of base [] is are false true e = record { there = true; part = base_name base is }
    names_part_of base (p ∷ []) is are true true e = record { there = true; part = other_name p are.0 }
    names_part_of base (p ∷ []) is are false true e = let wrong : false ≡ true = e in cc
    names_part_of base (p ∷ q ∷ ps) is are true true e = let wrong : false ≡ true = e in cc
    names_part_of base (p ∷ q ∷ ps) is are false true e = let wrong : false ≡ true = e in cc

    names_part : (names : NameSet) → ArePrintableNames names → MaybePart Reads Knows option (name_words option names) (name_literals prim names)
    names_part names are = names_part_of names.base names.excluded are.base are.excluded (is_every_name names.base) (is_plain_names names) refl

  pub inputs_part : (names : NameSet) → ArePrintableNames names → MaybePart {W = W} Reads Knows (codes "-i") (name_words (codes "-i") names) (name_literals Prim_.InName names)
  inputs_part = names_part (codes "-i") Prim_.InName refl (arity_is [] (codes "-i") 1 refl) input_says (code_is_written (codes "-i") refl)

  pub outputs_part : (names : NameSet) → ArePrintableNames names → MaybePart {W = W} Reads Knows (codes "-o") (name_words (codes "-o") names) (name_literals Prim_.OutName names)
  outputs_part = names_part (codes "-o") Prim_.OutName refl (arity_is [] (codes "-o") 1 refl) output_says (code_is_written (codes "-o") refl)

  pub input_part : (pattern : Pattern) → IsPrintable pattern → IsPart {W = W} Reads Knows (codes "-i" ∷ []) (option_words (codes "-i") (name_word pattern)) (yes (Prim_.InName pattern) ∷ [])
  input_part = base_name (codes "-i") Prim_.InName refl (arity_is [] (codes "-i") 1 refl) input_says (code_is_written (codes "-i") refl)

  pub output_part : (pattern : Pattern) → IsPrintable pattern → IsPart {W = W} Reads Knows (codes "-o" ∷ []) (option_words (codes "-o") (name_word pattern)) (yes (Prim_.OutName pattern) ∷ [])
  output_part = base_name (codes "-o") Prim_.OutName refl (arity_is [] (codes "-o") 1 refl) output_says (code_is_written (codes "-o") refl)
