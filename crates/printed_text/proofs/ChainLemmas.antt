-- The names of chains, and the lines that declare them.
use Rattle.std.proofs.Common.{◌≡◌, ◌≢◌, ◌∙◌, ◌+◌, ◌^◌, ◌<◌, ◌%◌, ◌&&◌, ◌||◌, ℕ, [], ◌∷◌, Bool, true, false, Option, Some, None, length, refl, ap, sym, subst, arith, inl, inr, codes, decimal, zero, suc}
use Rattle.std.specs.Prelude.{◌⊎◌, get_or, is_some}
use Rattle.std.specs.List.{AllByRecursion}
use Rattle.std.specs.Str.{bytes_eq}
use Rattle.std.proofs.lemmas.Bool.{ne_eqb, or_cases}
use Rattle.std.proofs.lemmas.Fmt.{decimal_by_steps, decimal_injective}
use Rattle.std.proofs.lemmas.Slice.Eq.{bytes_eq-Decides}
use Rattle.fw_rule.specs.declared.rule.Verdict.{Verdict}
use Rattle.dump_grammar.specs.ChainLines.{IsChainLine, IsCounterText, IsDigit, built_in, is_among, policy_text, target_words}
use Rattle.dump_grammar.specs.Lines.{Text, bare}
use Rattle.dump_print.specs.Helpers.{helper_name}
use Rattle.dump_print.specs.Printed.{chain_words}
use Rattle.dump_print.specs.Written.{KeepsWords}
use Rattle.basics.proofs.Lists.{each_append}
use Rattle.printed_text.proofs.TextLines.{IsPrinted, is_printed}
use Rattle.printed_text.proofs.WordLemmas.{CanStand, IsClean, clean_decimal, clean_from, clean_is_written, code_is_written}

-- ---- the name of a helper chain
abbrev pub AreDigits : Text → Type 0
AreDigits text = AllByRecursion IsDigit text

pub decimal_digits : (n : ℕ) → n < 2 ^ 64 → AreDigits (decimal n)
decimal_digits n small = decimal_by_steps (λ m ds. AreDigits ds)
    (λ m low. ((omega arith, omega arith), tt))
    (λ m ds low front. each_append IsDigit ds ((48 + m % 10) ∷ []) front ((omega arith, omega arith), tt)) n small

-- `C` and digits are no target's word
no_target : (digits : Text) → AreDigits digits → is_among target_words (67 ∷ digits) ≡ false
no_target [] h = refl
no_target (d ∷ digits) h =
    let low = h.0.1 in
    ap (λ (b : Bool). (b && bytes_eq (codes "NNMARK") digits) || false) (ne_eqb 79 d (omega arith))

pub helper_allowed : (n : ℕ) → n < 2 ^ 64 → is_among target_words (helper_name n) ≡ false
helper_allowed n small = no_target (decimal n) (decimal_digits n small)

pub helper_clean : (n : ℕ) → n < 2 ^ 64 → IsClean (helper_name n)
helper_clean n small = (omega arith, clean_decimal n small)

pub helper_once : (m n : ℕ) → m < 2 ^ 64 → n < 2 ^ 64 → helper_name m ≡ helper_name n → m ≡ n
helper_once m n small other e =
    let same : decimal m ≡ decimal n = cc in
    decimal_injective m n small other same

-- ---- the asked chain
equal_true : (a b : Text) → bytes_eq a b ≡ true → a ≡ b
equal_true a b e = (bytes_eq-Decides a b).0 e

-- what holds of the three built-in names
pub asked_by : (P : Text → Type 0) → P (codes "INPUT") → P (codes "FORWARD") → P (codes "OUTPUT") → (chain : Text) → is_among built_in chain ≡ true → P chain
asked_by P input forward output chain e = first (or_cases (bytes_eq (codes "INPUT") chain) _ e)
  where
    third : (bytes_eq (codes "OUTPUT") chain ≡ true) ⊎ (false ≡ true) → P chain
    third (inl o) = subst P (equal_true (codes "OUTPUT") chain o) output
    third (inr wrong) = absurd (cc)

    second : (bytes_eq (codes "FORWARD") chain ≡ true) ⊎ ((bytes_eq (codes "OUTPUT") chain || false) ≡ true) → P chain
    second (inl f) = subst P (equal_true (codes "FORWARD") chain f) forward
    second (inr rest) = third (or_cases (bytes_eq (codes "OUTPUT") chain) false rest)

    first : (bytes_eq (codes "INPUT") chain ≡ true) ⊎ ((bytes_eq (codes "FORWARD") chain || (bytes_eq (codes "OUTPUT") chain || false)) ≡ true) → P chain
    first (inl i) = subst P (equal_true (codes "INPUT") chain i) input
    first (inr rest) = second (or_cases (bytes_eq (codes "FORWARD") chain) (bytes_eq (codes "OUTPUT") chain || false) rest)

pub asked_clean : (chain : Text) → is_among built_in chain ≡ true → IsClean chain
asked_clean = asked_by IsClean (clean_from (codes "INPUT") refl) (clean_from (codes "FORWARD") refl) (clean_from (codes "OUTPUT") refl)

pub asked_allowed : (chain : Text) → is_among built_in chain ≡ true → is_among target_words chain ≡ false
asked_allowed = asked_by (λ chain. is_among target_words chain ≡ false) refl refl refl

asked_named : (chain : Text) → is_among built_in chain ≡ true → chain ≢ []
asked_named = asked_by (λ chain. chain ≢ []) (λ e. cc) (λ e. cc) (λ e. cc)

-- no helper chain has a built-in name
pub asked_no_helper : (n : ℕ) (chain : Text) → is_among built_in chain ≡ true → bytes_eq (helper_name n) chain ≡ false
asked_no_helper n = asked_by (λ chain. bytes_eq (helper_name n) chain ≡ false) refl refl refl

pub helper_no_asked : (n : ℕ) (chain : Text) → is_among built_in chain ≡ true → helper_name n ≢ chain
helper_no_asked n chain asked e =
    let wrong : false ≡ true = sym (asked_no_helper n chain asked) ∙ (bytes_eq-Decides (helper_name n) chain).1 e in cc

-- ---- the lines that declare chains
policy_stands : (policy : Option Verdict) → CanStand (bare (policy_text policy))
policy_stands (Some Verdict.Accept) = code_is_written (codes "ACCEPT") refl
policy_stands (Some Verdict.Drop) = code_is_written (codes "DROP") refl
policy_stands None = code_is_written (codes "-") refl

no_counts : IsCounterText (codes "[0:0]")
no_counts = record {
  packets = codes "0";
  bytes = codes "0";
  packet_digits = (omega arith, λ k d l. digit_zero k d l);
  byte_digits = (omega arith, λ k d l. digit_zero k d l);
  spelled = refl;
}
  where
    digit_zero : (k d : ℕ) → k < length (codes "0") → IsDigit (get_or (codes "0") k d)
    digit_zero zero d l = (omega arith, omega arith)
    digit_zero (suc k) d l = absurd (omega arith)

pub chain_printed : KeepsWords → (name : Text) (policy : Option Verdict) → IsClean name → IsPrinted (chain_words name policy)
chain_printed keeps name policy clean =
    is_printed keeps (bare (58 ∷ name)) (bare (policy_text policy) ∷ bare (codes "[0:0]") ∷ [])
    (clean_is_written (58 ∷ name) (omega arith) (omega arith, clean), (policy_stands policy, (code_is_written (codes "[0:0]") refl, tt)))
    refl

chain_declared : (name : Text) (policy : Option Verdict) → name ≢ [] → is_among target_words name ≡ false → is_among built_in name ≡ is_some policy
    → IsChainLine (chain_words name policy) (record { name = name; policy = policy })
chain_declared name policy named allowed same = record {
  counter = bare (codes "[0:0]") ∷ [];
  counted = (refl, no_counts);
  whole = refl;
  named = named;
  allowed = allowed;
  policy = same;
}

pub asked_declared : (chain : Text) (policy : Verdict) → is_among built_in chain ≡ true → IsChainLine (chain_words chain (Some policy)) (record { name = chain; policy = Some policy })
asked_declared chain policy asked = chain_declared chain (Some policy) (asked_named chain asked) (asked_allowed chain asked) asked

pub helper_declared : (n : ℕ) → n < 2 ^ 64 → IsChainLine (chain_words (helper_name n) None) (record { name = helper_name n; policy = None })
helper_declared n small = chain_declared (helper_name n) None (λ e. cc) (helper_allowed n small) refl
