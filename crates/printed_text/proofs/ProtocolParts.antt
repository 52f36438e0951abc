-- The part of a line that names protocols.
use Rattle.std.proofs.Common.{◌≡◌, ◌∙◌, ◌∷◌, ◌≤◌, ◌==◌, [], ℕ, List, Bool, true, false, Some, inl, inr, refl, ap, arith, codes, decimal, if◌then◌else◌, Contains, lit<}
use Rattle.std.specs.List.{AllByRecursion}
use Rattle.std.proofs.lemmas.Bool.{eqb-true}
use Rattle.match_expr.specs.declared.expr.Expr.TheVariants.{Prim}
use Rattle.primitives.specs.declared.prim.Prim_.{Prim_}
use Rattle.primitives.specs.Tables.{Named, name_of, number_in, proto_names}
use Rattle.primitives.specs.Words.{SpellsProto}
use Rattle.fw_rule.specs.declared.rule.Lit.{Lit}
use Rattle.dump_grammar.specs.Groups.{Base, Group}
use Rattle.dump_grammar.specs.Lines.{Text, bare}
use Rattle.dump_grammar.specs.Literals.{IsBaseLiteral}
use Rattle.dump_print.specs.declared.numbers.Numbers.{Numbers}
use Rattle.dump_print.specs.Parts.{option_words, protocol_words}
use Rattle.dump_print.specs.Numbers.{protocol_text}
use Rattle.printed_filter.specs.Literals.{no, protocol_literals, yes}
use Rattle.printed_text.proofs.NumberLemmas.{IsNumberBut, number_some}
use Rattle.printed_text.proofs.NumberSets.{Sayable}
use Rattle.printed_text.proofs.WordLemmas.{CanStand, clean_decimal, clean_is_written, code_is_written, is_clean, some_decimal}
use Rattle.printed_text.proofs.PartLemmas.{arity_is, IsPart, MaybePart, base_part, no_part}

-- ---- how a protocol is written
-- each name is read as its number, and can stand in a line
abbrev AreNames : List Named → Type 0
AreNames words = AllByRecursion (λ (word : Named). (number_in proto_names word.name ≡ Some word.number) × (is_clean word.name ≡ true)) words

are_names : AreNames proto_names
unfolding proto_names
are_names = (
  (refl, refl),
  (
    (refl, refl),
    (
      (refl, refl),
      (
        (refl, refl),
        (
          (refl, refl),
          (
            (refl, refl),
            ((refl, refl), ((refl, refl), ((refl, refl), ((refl, refl), ((refl, refl), ((refl, refl), tt)))))),
          ),
        ),
      ),
    ),
  ),
)

spells_of : (words : List Named) (n : ℕ) → AreNames words → n ≤ 255 → SpellsProto (name_of words n) n × CanStand (bare (name_of words n))
spells_of [] n are small = (inr (small, refl), clean_is_written (decimal n) (some_decimal n (omega (arith, small))) (clean_decimal n (omega (arith, small))))
spells_of (word ∷ words) n are small = by_case (word.number == n) refl (spells_of words n are.1 small)
  where
    by_case : (b : Bool) → (word.number == n) ≡ b → SpellsProto (name_of words n) n × CanStand (bare (name_of words n))
        → SpellsProto (if b then word.name else name_of words n) n × CanStand (bare (if b then word.name else name_of words n))
    by_case true e rest = (inl (are.0.0 ∙ ap Some (eqb-true word.number n e)), code_is_written word.name are.0.1)
    by_case false e rest = rest

pub protocol_spells : (n : ℕ) → n ≤ 255 → SpellsProto (protocol_text n) n
protocol_spells n small = (spells_of proto_names n are_names small).0

pub protocol_is_written : (n : ℕ) → n ≤ 255 → CanStand (bare (protocol_text n))
protocol_is_written n small = (spells_of proto_names n are_names small).1

-- ---- the part
-- the groups have the option of the one protocol, where the line says one
abbrev pub Knowing : Numbers → List Group → Type 0
Knowing Numbers.Every groups = Unit {0}
Knowing (Numbers.Only n) groups = Contains groups (Base false (codes "-p") (protocol_text n ∷ []))
Knowing (Numbers.AllBut n) groups = Unit {0}
Knowing Numbers.Others groups = Unit {0}

module _ (W : ℕ) (Reads : Text → ℕ → Type 0) where
  pub protocol_says : (negated : Bool) (n : ℕ) → IsNumberBut 0 n → IsBaseLiteral {W = W} Reads negated (codes "-p") (protocol_text n ∷ []) (Lit.Known negated (Prim (Prim_.Proto n)))
  protocol_says negated n is = inr (inr (inr (inr (inl (protocol_text n, (refl, refl, inr (n, (protocol_spells n is.0, number_some n is, refl, refl))))))))

  abbrev pub protocol_part : (Knows : List Group → Type 0) (n : ℕ) → IsNumberBut 0 n → IsPart {W = W} Reads Knows (codes "-p" ∷ []) (option_words (codes "-p") (bare (protocol_text n))) (yes (Prim_.Proto n) ∷ [])
  protocol_part Knows n is = base_part Reads Knows false (codes "-p") (bare (protocol_text n)) (yes (Prim_.Proto n)) refl (arity_is [] (codes "-p") 1 refl)
      (protocol_says false n is) (code_is_written (codes "-p") refl) (protocol_is_written n is.0)

  -- the part, which has the option of the one protocol itself
  pub record HasProtocol (protocols : Numbers) : Type 0 where
    pub maybe : MaybePart {W = W} Reads (Knowing protocols) (codes "-p") (protocol_words protocols) (protocol_literals protocols)
    pub knows : Knowing protocols maybe.part.groups

  pub protocols_part : (protocols : Numbers) → Sayable 0 protocols → HasProtocol protocols
  protocols_part Numbers.Every is = record { maybe = record { there = false; part = no_part Reads (Knowing Numbers.Every) }; knows = tt }
  protocols_part (Numbers.Only n) is = record {
    maybe = record { there = true; part = protocol_part (Knowing (Numbers.Only n)) n is };
    knows = (0, lit< tt, refl);
  }
  protocols_part (Numbers.AllBut n) is = record {
    maybe = record {
      there = true;
      part = base_part Reads (Knowing (Numbers.AllBut n)) true (codes "-p") (bare (protocol_text n)) (no (Prim_.Proto n)) refl (arity_is [] (codes "-p") 1 refl)
          (protocol_says true n is) (code_is_written (codes "-p") refl) (protocol_is_written n is.0);
    };
    knows = tt;
  }
  protocols_part Numbers.Others is = record { maybe = record { there = false; part = no_part Reads (Knowing Numbers.Others) }; knows = tt }
