-- How many lines there are.
use Rattle.std.proofs.Common.{◌≡◌, ◌∙◌, ◌++◌, ◌+◌, ◌*◌, ◌<◌, ◌≤◌, ◌⊎◌, inl, inr, ℕ, zero, suc, List, [], ◌∷◌, codes, length, map, min, refl, ap, sym, arith}
use Rattle.std.proofs.Math.Nat.{min-eq_left, suc-mul}
use Rattle.std.proofs.lemmas.Bool.{cases_lt}
use Rattle.std.proofs.lemmas.List.{length-append, length-map}
use Rattle.std.specs.List.{flat_map}
use Rattle.dump_grammar.specs.Lines.{Text, Word, bare}
use Rattle.name_set.specs.declared.pattern.Pattern.{Pattern}
use Rattle.dump_print.specs.CubeLines.{choices_of}
use Rattle.box_norm.specs.declared.cube.Cube.{Cube}
use Rattle.box_norm.specs.declared.cube.SimpleRule.{SimpleRule}
use Rattle.dump_print.specs.Helpers.{HelpedRule, helped_from, helper_lines, return_line, return_lines, returned_patterns, returned_protocols, returned_types, type_return, verdict_text}
use Rattle.dump_print.specs.Names.{name_word}
use Rattle.dump_print.specs.Numbers.{protocol_text, protocols_of}
use Rattle.dump_print.specs.Parts.{Axes, Choice, between, choices_in, rule_words, with_destinations, with_dports, with_flags, with_sports}
use Rattle.dump_print.specs.Printed.{all_rule_lines, count_lines, lines_of_helper, lines_of_rule}
use Rattle.dump_print.specs.Views.{count_of}
use Rattle.std.specs.List.{sum_by}
use Rattle.std.proofs.lemmas.List.Sums.{sum_by-cons}

-- ---- products that stop at the greatest number
capped_by : (c a m : ℕ) → (m < a) ⊎ (a ≤ m) → min (c * min a m) m ≡ min (c * a) m
capped_by c a m (inr l) = ap (λ x. min (c * x) m) (min-eq_left l)
capped_by zero a m (inl l) = omega arith
capped_by (suc k) a m (inl l) =
    let e : min a m ≡ m = omega arith in
    ap (λ x. min (suc k * x) m) e ∙ omega (arith, suc-mul k m, suc-mul k a)

capped : (c a m : ℕ) → min (c * min a m) m ≡ min (c * a) m
capped c a m = capped_by c a m (cases_lt m a)

pub product_of : (s d p q f m a b c r : ℕ) → a ≡ min (q * f) m → b ≡ min (p * a) m → c ≡ min (d * b) m → r ≡ min (s * c) m →
    r ≡ min (s * (d * (p * (q * f)))) m
product_of s d p q f m a b c r h1 h2 h3 h4 =
    let second : b ≡ min (p * (q * f)) m = h2 ∙ ap (λ e. min (p * e) m) h1 ∙ capped p (q * f) m in
    let third : c ≡ min (d * (p * (q * f))) m = h3 ∙ ap (λ e. min (d * e) m) second ∙ capped d (p * (q * f)) m in
    h4 ∙ ap (λ e. min (s * e) m) third ∙ capped s (d * (p * (q * f))) m

-- ---- sums that stop there
pub sum_of : (a b m x y r : ℕ) → x ≡ min a m → y ≡ min b m → r ≡ min (x + y) m → r ≡ min (a + b) m
sum_of a b m x y r h k e = omega arith

-- ---- the lines of a cube
length_flat : {X A : Type 0} (f : X → List A) (k : ℕ) → ((x : X) → length (f x) ≡ k) → (xs : List X) → length (flat_map f xs) ≡ length xs * k
length_flat f k h [] = omega arith
length_flat f k h (x ∷ xs) =
    length-append (f x) (flat_map f xs) ∙ (λ i. h x i + length_flat f k h xs i) ∙ omega (arith, suc-mul (length xs) k)

flags_count : (line : Choice) (axes : Axes) → length (with_flags line axes.flags) ≡ length axes.flags
flags_count line axes = length-map axes.flags (λ cube. record line { flags = cube })

dports_count : (line : Choice) (axes : Axes) → length (with_dports line axes) ≡ length axes.dports * length axes.flags
dports_count line axes =
    length_flat (λ ports. with_flags (record line { dports = ports }) axes.flags) _ (λ ports. flags_count (record line { dports = ports }) axes) axes.dports

sports_count : (line : Choice) (axes : Axes) → length (with_sports line axes) ≡ length axes.sports * (length axes.dports * length axes.flags)
sports_count line axes =
    length_flat (λ ports. with_dports (record line { sports = ports }) axes) _ (λ ports. dports_count (record line { sports = ports }) axes) axes.sports

pub choices_count : (axes : Axes) →
    length (choices_in axes) ≡ length axes.sources * (length axes.destinations * (length axes.sports * (length axes.dports * length axes.flags)))
choices_count axes =
    length_flat (λ source. with_destinations source axes) _
    (λ source. length_flat (λ destination. with_sports (between source destination) axes) _ (λ destination. sports_count (between source destination) axes) axes.destinations)
    axes.sources

-- ---- the lines of all rules
regrouped : (a b c d : ℕ) → (a + c) + (b + d) ≡ (a + b) + (c + d)
regrouped a b c d = omega arith

both_lengths : {X A : Type 0} (f g : X → List A) (xs : List X) →
    length (flat_map f xs ++ flat_map g xs) ≡ sum_by (λ x. length (f x) + length (g x)) xs
both_lengths f g [] = refl
both_lengths f g (x ∷ xs) =
    length-append (f x ++ flat_map f xs) (g x ++ flat_map g xs)
    ∙ (λ i. length-append (f x) (flat_map f xs) i + length-append (g x) (flat_map g xs) i)
    ∙ regrouped (length (f x)) (length (g x)) (length (flat_map f xs)) (length (flat_map g xs))
    ∙ ap (λ n. (length (f x) + length (g x)) + n) (sym (length-append (flat_map f xs) (flat_map g xs)) ∙ both_lengths f g xs)
    ∙ sym (sum_by-cons (λ y. length (f y) + length (g y)) x xs)

sums_same : {X : Type 0} (f g : X → ℕ) → ((x : X) → f x ≡ g x) → (xs : List X) → sum_by f xs ≡ sum_by g xs
sums_same f g h [] = refl
sums_same f g h (x ∷ xs) = sum_by-cons f x xs ∙ (λ i. h x i + sums_same f g h xs i) ∙ sym (sum_by-cons g x xs)

sum_mapped : {X Y : Type 0} (g : X → Y) (f : Y → ℕ) (xs : List X) → sum_by f (map g xs) ≡ sum_by (λ x. f (g x)) xs
sum_mapped g f [] = refl
sum_mapped g f (x ∷ xs) = sum_by-cons f (g x) (map g xs) ∙ ap (λ n. f (g x) + n) (sum_mapped g f xs) ∙ sym (sum_by-cons (λ y. f (g y)) x xs)

pub rules_count : (text_of : ℕ → Text) (W : ℕ) (chain : Text) {X : Type 0} (g : X → HelpedRule W) (xs : List X) →
    length (all_rule_lines text_of W chain (map g xs)) ≡ sum_by (λ x. count_of (g x)) xs
rules_count text_of W chain g xs =
    both_lengths (lines_of_rule text_of W chain) (λ helped. lines_of_helper helped.rule helped.helper) (map g xs)
    ∙ sums_same (λ helped. length (lines_of_rule text_of W chain helped) + length (lines_of_helper helped.rule helped.helper)) count_of
    (λ helped. ap (λ n. n + length (lines_of_helper helped.rule helped.helper)) (length-map (choices_of helped.rule.cube) _)) (map g xs)
    ∙ sum_mapped g count_of xs

-- what was counted is the number of lines that are printed
pub printed_count : (text_of : ℕ → Text) (W : ℕ) (chain : Text) (rules : List (SimpleRule W)) {X : Type 0} (g : X → HelpedRule W) (xs ys : List X) (m lines : ℕ) →
    lines ≡ min (sum_by (λ x. count_of (g x)) ys) m → ys ≡ xs → map g xs ≡ helped_from 1 rules → lines ≡ min (count_lines text_of W chain rules) m
printed_count text_of W chain rules g xs ys m lines h e made =
    h ∙ ap (λ zs. min (sum_by (λ x. count_of (g x)) zs) m) e
    ∙ ap (λ n. min n m) (sym (rules_count text_of W chain g xs) ∙ ap (λ hs. length (all_rule_lines text_of W chain hs)) made)

-- ---- the lines of a helper chain
pub returns_count : {W : ℕ} (chain : Text) (cube : Cube W) →
    length (return_lines chain cube)
    ≡ length (returned_patterns cube.in_name) + (length (returned_patterns cube.out_name) + (length (returned_protocols cube.proto) + length (returned_types cube.icmp)))
returns_count chain cube =
    let in_line : Pattern → List Word = λ pattern. return_line chain (codes "-i") (name_word pattern) in
    let out_line : Pattern → List Word = λ pattern. return_line chain (codes "-o") (name_word pattern) in
    let protocol_line : ℕ → List Word = λ n. return_line chain (codes "-p") (bare (protocol_text n)) in
    let type_line : ℕ → List Word = λ n. type_return chain (protocols_of cube.proto) n in
    let protocols : List (List Word) = map protocol_line (returned_protocols cube.proto) in
    let types : List (List Word) = map type_line (returned_types cube.icmp) in
    length-append (map in_line (returned_patterns cube.in_name)) _
    ∙ (λ i. length-map (returned_patterns cube.in_name) in_line i
    + (length-append (map out_line (returned_patterns cube.out_name)) (protocols ++ types)
    ∙ (λ j. length-map (returned_patterns cube.out_name) out_line j
    + (length-append protocols types
    ∙ (λ k. length-map (returned_protocols cube.proto) protocol_line k + length-map (returned_types cube.icmp) type_line k)) j)) i)

pub helper_count : {W : ℕ} (chain : Text) (rule : SimpleRule W) → length (helper_lines chain rule) ≡ length (return_lines chain rule.cube) + 1
helper_count chain rule = length-append (return_lines chain rule.cube) (rule_words chain [] (verdict_text rule.accept) ∷ [])
