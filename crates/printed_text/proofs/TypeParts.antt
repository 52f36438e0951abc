-- The part of a line that names types of messages.
use Rattle.std.proofs.Common.{◌≡◌, ◌++◌, ◌∷◌, ◌==◌, [], ℕ, List, Bool, true, false, Some, inl, inr, refl, arith, codes, decimal, if◌then◌else◌, lit≤}
use Rattle.std.proofs.lemmas.Bool.{eqb-true}
use Rattle.match_expr.specs.declared.expr.Expr.TheVariants.{Prim}
use Rattle.fw_rule.specs.declared.rule.Lit.{Lit}
use Rattle.dump_grammar.specs.Groups.{Group, IsOptionName, arity_of, mark_words}
use Rattle.dump_grammar.specs.Lines.{Text, bare}
use Rattle.dump_grammar.proofs.SaidBy.{IsTypeModule, message_type}
use Rattle.dump_print.specs.declared.numbers.Numbers.{Numbers}
use Rattle.dump_print.specs.Parts.{module_words, number_words, option_words, type_words}
use Rattle.printed_filter.specs.Literals.{message, number_literals, type_literals}
use Rattle.printed_text.proofs.NumberLemmas.{IsNumberBut, type_small}
use Rattle.printed_text.proofs.NumberSets.{Sayable}
use Rattle.printed_text.proofs.PartLemmas.{arity_is, IsInner, IsPart, module_part, no_inner, no_part, option_part}
use Rattle.printed_text.proofs.WordLemmas.{CanStand, clean_decimal, clean_is_written, code_is_written, some_decimal}

type_is_written : (k : ℕ) → IsNumberBut 255 k → CanStand (bare (decimal k))
type_is_written k is = clean_is_written (decimal k) (some_decimal k (omega (arith, is.0))) (clean_decimal k (omega (arith, is.0)))

module _ {W : ℕ} (Reads : Text → ℕ → Type 0) (Knows : List Group → Type 0) where
  -- the option of a module that names types of this protocol's messages
  module _ (name option : Text) (n : ℕ) (of : IsTypeModule name option n) (arity : arity_of name option ≡ Some 1) (is_name : IsOptionName option) (named : CanStand (bare option)) where
    type_part : (negated : Bool) (k : ℕ) → IsNumberBut 255 k
        → IsInner {W = W} Reads Knows name (mark_words negated ++ option_words option (bare (decimal k))) (Lit.Known negated (Prim (message n k)) ∷ [])
    type_part negated k is =
        option_part Reads Knows negated name option (bare (decimal k) ∷ []) (Prim (message n k)) arity is_name
        (λ all knows. message_type Reads all negated name n k (decimal k) of refl refl (type_small k is) refl refl) named (type_is_written k is, tt)

    kinds_part : (types : Numbers) → Sayable 255 types → IsInner {W = W} Reads Knows name (number_words option decimal types) (number_literals (message n) types)
    kinds_part Numbers.Every is = no_inner Reads Knows name
    kinds_part (Numbers.Only k) is = type_part false k is
    kinds_part (Numbers.AllBut k) is = type_part true k is
    kinds_part Numbers.Others is = no_inner Reads Knows name

  icmp_part : (n : ℕ) (types : Numbers) → Sayable 255 types → n ≡ 1
      → IsPart {W = W} Reads Knows [] (module_words (codes "icmp") (number_words (codes "--icmp-type") decimal types)) (number_literals (message n) types)
  icmp_part n types is e =
      module_part Reads Knows (codes "icmp") (number_words (codes "--icmp-type") decimal types) (number_literals (message n) types) refl (code_is_written (codes "icmp") refl)
      (kinds_part (codes "icmp") (codes "--icmp-type") n (inl (refl, refl, e)) (arity_is (codes "icmp") (codes "--icmp-type") 1 refl) (refl, lit≤ tt)
      (code_is_written (codes "--icmp-type") refl) types is)

  icmp6_part : (n : ℕ) (types : Numbers) → Sayable 255 types → n ≡ 58
      → IsPart {W = W} Reads Knows [] (module_words (codes "icmp6") (number_words (codes "--icmpv6-type") decimal types)) (number_literals (message n) types)
  icmp6_part n types is e =
      module_part Reads Knows (codes "icmp6") (number_words (codes "--icmpv6-type") decimal types) (number_literals (message n) types) refl (code_is_written (codes "icmp6") refl)
      (kinds_part (codes "icmp6") (codes "--icmpv6-type") n (inr (refl, refl, e)) (arity_is (codes "icmp6") (codes "--icmpv6-type") 1 refl) (refl, lit≤ tt)
      (code_is_written (codes "--icmpv6-type") refl) types is)

  types_by : (n : ℕ) (types : Numbers) → Sayable 255 types → (icmp icmp6 : Bool) → (n == 1) ≡ icmp → (n == 58) ≡ icmp6
      → IsPart {W = W} Reads Knows []
      (if icmp then module_words (codes "icmp") (number_words (codes "--icmp-type") decimal types)
      else if icmp6 then module_words (codes "icmp6") (number_words (codes "--icmpv6-type") decimal types)
      else [])
      (if icmp then number_literals (message n) types else if icmp6 then number_literals (message n) types else [])
  types_by n types is true icmp6 e f = icmp_part n types is (eqb-true n 1 e)
  types_by n types is false true e f = icmp6_part n types is (eqb-true n 58 f)
  types_by n types is false false e f = no_part Reads Knows

  pub types_part : (protocols types : Numbers) → Sayable 255 types → IsPart {W = W} Reads Knows [] (type_words protocols types) (type_literals protocols types)
  types_part Numbers.Every types is = no_part Reads Knows
  types_part (Numbers.Only n) types is = types_by n types is (n == 1) (n == 58) refl refl
  types_part (Numbers.AllBut n) types is = no_part Reads Knows
  types_part Numbers.Others types is = no_part Reads Knows
