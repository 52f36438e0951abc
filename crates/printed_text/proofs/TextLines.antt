-- Lines of words as a text.
use Rattle.std.proofs.Common.{◌≡◌, ◌∙◌, ◌++◌, ◌+◌, ◌≢◌, ◌||◌, not, ℕ, List, [], ◌∷◌, Bool, true, false, map, length, refl, ap, sym, inl, append_assoc, arith, add-zero}
use Rattle.std.specs.Prelude.{filter, ◌==◌, if◌then◌else◌}
use Rattle.std.specs.List.{AllByRecursion}
use Rattle.dump_grammar.specs.Lines.{AreLines, HasWords, IsLine, Numbered, Text, Word, is_passed_over, numbered_from}
use Rattle.dump_print.specs.Spelling.{escaped, line_text, lines_text, spaced, spelled}
use Rattle.dump_print.specs.Written.{IsWritten, KeepsWords}
use Rattle.printed_text.proofs.WordLemmas.{CanStand}
use Rattle.basics.proofs.Lists.{each_append, each_weaker}
use Rattle.printed_text.proofs.ListLemmas.{filter_in}

-- a line without its line feed
abbrev pub line_of : List Word → Text
line_of [] = []
line_of (word ∷ words) = spelled word ++ spaced words

ended : (words : List Word) → line_text words ≡ line_of words ++ 10 ∷ []
ended [] = refl
ended (word ∷ words) = sym (append_assoc (spelled word) (spaced words) (10 ∷ []))

text_after : (words : List Word) (rest : Text) → line_text words ++ rest ≡ line_of words ++ 10 ∷ rest
text_after words rest = ap (λ l. l ++ rest) (ended words) ∙ append_assoc (line_of words) (10 ∷ []) rest

-- a line that can be read: it is one line and isn't passed over, and its words are those that were put into it
pub record IsPrinted (words : List Word) : Type 0 where
  pub line : IsLine (line_of words)
  pub shown : is_passed_over (line_of words) ≡ false
  pub kept : HasWords (line_of words) words

pub lines_of_text : (lines : List (List Word)) → AllByRecursion IsPrinted lines → AreLines (map line_of lines) (lines_text lines)
lines_of_text [] each = refl
lines_of_text (words ∷ lines) each =
    (each.0.line, inl (lines_text lines, text_after words (lines_text lines), lines_of_text lines each.1))

pub none_passed : (n : ℕ) (lines : List (List Word)) → AllByRecursion IsPrinted lines →
    filter (λ (line : Numbered). not (is_passed_over line.bytes)) (numbered_from n (map line_of lines)) ≡ numbered_from n (map line_of lines)
none_passed n [] each = refl
none_passed n (words ∷ lines) each =
    filter_in (λ (line : Numbered). not (is_passed_over line.bytes)) (record { number = n; bytes = line_of words }) (numbered_from (n + 1) (map line_of lines)) (ap not each.0.shown)
    ∙ ap (λ (l : List Numbered). record { number = n; bytes = line_of words } ∷ l) (none_passed (n + 1) lines each.1)

pub numbered_joined : (n : ℕ) (a b : List Text) → numbered_from n (a ++ b) ≡ numbered_from n a ++ numbered_from (n + length a) b
numbered_joined n [] b = ap (λ m. numbered_from m b) (sym (add-zero n))
numbered_joined n (x ∷ a) b =
    let same : n + 1 + length a ≡ n + length (x ∷ a) = omega arith in
    ap (λ (l : List Numbered). record { number = n; bytes = x } ∷ l)
    (numbered_joined (n + 1) a b ∙ ap (λ m. numbered_from (n + 1) a ++ numbered_from m b) same)

-- ---- a printed line is one line
escape_one : (c : Bool) (b : ℕ) (rest : Text) → b ≢ 10 → IsLine rest → IsLine (if c then 92 ∷ b ∷ rest else b ∷ rest)
escape_one true b rest n h = (omega arith, (n, h))
escape_one false b rest n h = (n, h)

escaped_line : (text : Text) → IsLine text → IsLine (escaped text)
escaped_line [] h = tt
escaped_line (b ∷ bs) h = escape_one ((b == 34) || (b == 92)) b (escaped bs) h.0 (escaped_line bs h.1)

quoted_line : (quoted : Bool) (text : Text) → IsLine text → IsLine (if quoted then 34 ∷ (escaped text ++ 34 ∷ []) else text)
quoted_line true text h = (omega arith, each_append _ (escaped text) (34 ∷ []) (escaped_line text h) (omega arith, tt))
quoted_line false text h = h

spaced_line : (words : List Word) → AllByRecursion CanStand words → IsLine (spaced words)
spaced_line [] stand = tt
spaced_line (word ∷ words) stand =
    (omega arith, each_append _ (spelled word) (spaced words) (quoted_line word.quoted word.text stand.0.1) (spaced_line words stand.1))

-- words that can stand in a line, the first of which makes it no line that is passed over
pub is_printed : KeepsWords → (word : Word) (words : List Word) → AllByRecursion CanStand (word ∷ words)
    → is_passed_over (spelled word ++ spaced words) ≡ false → IsPrinted (word ∷ words)
is_printed keeps word words stand shown = record {
  line = each_append _ (spelled word) (spaced words) (quoted_line word.quoted word.text stand.0.1) (spaced_line words stand.1);
  shown = shown;
  kept = keeps word words stand.0.0 (each_weaker CanStand IsWritten (λ w s. s.0) words stand.1);
}
