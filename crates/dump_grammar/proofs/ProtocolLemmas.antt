-- Protocol 0 is no protocol of its own.
use Rattle.std.proofs.Common.{◌≡◌, ◌≤◌, ◌<◌, ◌∙◌, ℕ, zero, suc, List, Bool, true, false, Some, None, refl, arith, codes, inl, inr, decimal, subst, sym}
use Rattle.std.proofs.lemmas.Fmt.{decimal_digit, decimal_injective, decimal_is_IsNumeral}
use Rattle.std.specs.Str.Parse.{AllDigits}
use Rattle.fw_rule.specs.declared.rule.Lit.{Lit}
use Rattle.primitives.specs.declared.prim.Prim_.{Prim_}
use Rattle.primitives.proofs.WordLemmas.{named_positive}
use Rattle.primitives.specs.Tables.{number_in, proto_names}
use Rattle.primitives.specs.Words.{SpellsProto}
use Rattle.dump_grammar.specs.Lines.{Text}
use Rattle.dump_grammar.specs.Literals.{IsEveryProtocol, IsProtocolLiteral}

by_zero : (text : Text) (n : ℕ) → (IsEveryProtocol text → ⊥) → text ≡ decimal n → 1 ≤ n
by_zero text zero other is = absurd (other (inr (is ∙ decimal_digit 0 (omega arith))))
by_zero text (suc n) other is = omega arith

-- another text than those for every protocol has a number from 1
pub protocol_positive : (text : Text) (n : ℕ) → (IsEveryProtocol text → ⊥) → SpellsProto text n → 1 ≤ n
protocol_positive text n other (inl is) = named_positive text n is
protocol_positive text n other (inr is) = by_zero text n other is.1

no_number : (n : ℕ) → n ≤ 255 → codes "all" ≡ decimal n → ⊥
no_number n small is =
    let digits : AllDigits 10 (codes "all") = subst (AllDigits 10) (sym is) (decimal_is_IsNumeral n (omega (arith, small))).0.1 in
    let first : 10 < 10 = digits.0 in
    omega (arith, first)

pub every_only : (text : Text) (n : ℕ) → IsEveryProtocol text → 1 ≤ n → SpellsProto text n → ⊥
unfolding proto_names
every_only text n (inl is) some (inl spells) = let f : None ≡ Some n = subst (λ (t : Text). number_in proto_names t ≡ Some n) is spells in cc
every_only text n (inr is) some (inl spells) = let f : None ≡ Some n = subst (λ (t : Text). number_in proto_names t ≡ Some n) is spells in cc
every_only text n (inl is) some (inr spells) = no_number n spells.0 (sym is ∙ spells.1)
every_only text n (inr is) some (inr spells) =
    let small = spells.0 in
    let e : n ≡ 0 = decimal_injective n 0 (omega (arith, small)) (omega arith) (sym spells.1 ∙ is ∙ sym (decimal_digit 0 (omega arith))) in
    omega (arith, e, some)

-- every protocol can't be negated
pub never_negated : (W : ℕ) (text : Text) (negated : Bool) (unknown : Text) (l : Lit (Prim_ W)) → IsEveryProtocol text → negated ≡ true
    → IsProtocolLiteral text negated unknown l → ⊥
never_negated W text negated unknown (Lit.Known neg expr) every is (inl a) = let f : true ≡ false = sym is ∙ a.1 in cc
never_negated W text negated unknown (Lit.Known neg expr) every is (inr a) = every_only text a.0 every a.1.1 a.1.0
never_negated W text negated unknown (Lit.Unknown shown) every is a = a.0 every
