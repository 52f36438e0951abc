-- Fronts of bytes, blanks, and how many words a line can have.
use Rattle.std.proofs.Common.{ℕ, suc, ◌<◌, ◌≤◌, ◌≡◌, Bool, true, false, ◌&&◌, ◌||◌, ◌==◌, List, [], ◌∷◌, ◌++◌, length, get_or, take, drop, refl, sym, ap, subst, ◌∙◌, arith, codes, append_assoc, length-append}
use Rattle.std.proofs.lemmas.Bool.Decides.{nat_tests}
use Rattle.std.specs.Str.{bytes_eq}
use Rattle.std.proofs.Math.Seq.{take-append_seam, drop-append_seam}
use Rattle.std.proofs.lemmas.List.{append-nil, take-append-drop}
use Rattle.dump_token.specs.declared.token.Token.{Token}
use Rattle.dump_token.specs.Words.{is_blank, AreBlanks, BeginsNoBlank, Spells, AreWords}
use Rattle.dump_token.proofs.Once.{BeginsFull, spelled_full}
use Rattle.dump_grammar.specs.Lines.{Text, is_passed_over}
use Rattle.dump_grammar.specs.Tables.{IsCommit}
use Rattle.dump_read.specs.inner.Parts.{FollowsBlanks}
use Rattle.basics.proofs.Lists.{tail_same}
use Rattle.basics.proofs.Truths.{clash}
use Rattle.dump_read.proofs.NameLemmas.{same_bytes, bytes_same}

no_bytes : BeginsFull [] → ⊥
unfolding BeginsFull
no_bytes f = f

-- a word has a byte
word_has_byte : (s r : Text) (w : Token) → Spells s r w → 1 ≤ length s
word_has_byte [] r w h = absurd (no_bytes (spelled_full [] r w h))
word_has_byte (b ∷ s) r w h = omega arith

-- a line has no more words than bytes
pub words_fit : (at : ℕ) (words : List Token) (bytes : Text) → AreWords at words bytes → length words ≤ length bytes
words_fit at [] bytes h = omega arith
words_fit at (w ∷ words) bytes (rest, first, more) =
    let fit = words_fit w.end words rest more in
    let some = word_has_byte first.begins.spelled rest w first.begins.spells in
    omega (arith, fit, some, ap length first.whole, length-append first.gap first.after, ap length first.begins.whole, length-append first.begins.spelled rest)

blank_no_hash : (b : ℕ) → is_blank b ≡ true → (b == 35) ≡ false
blank_no_hash b h = grind (arith, nat_tests)

over_blank : (b : ℕ) (o : Bool) → is_blank b ≡ true → ((is_blank b && o) || (b == 35)) ≡ o
over_blank b o h = rw (h, blank_no_hash b h) (by o)
  where
    by : (x : Bool) → ((true && x) || false) ≡ x
    by true = refl
    by false = refl

over_blanks : (gap rest : Text) → AreBlanks gap → is_passed_over (gap ++ rest) ≡ is_passed_over rest
over_blanks [] rest h = refl
over_blanks (b ∷ gap) rest h = over_blank b (is_passed_over (gap ++ rest)) h.0 ∙ over_blanks gap rest h.1

-- past the blanks in front the first byte decides
pub over_some : (line rest : Text) (b : ℕ) (bs : Text) → FollowsBlanks line rest → rest ≡ b ∷ bs → (b == 35) ≡ is_passed_over line
over_some line rest b bs (gap, (whole, blanks, begins)) e =
    let no : is_blank b ≡ false = subst BeginsNoBlank e begins in
    let here : is_passed_over (b ∷ bs) ≡ (b == 35) = rw no refl in
    sym here ∙ ap is_passed_over (sym e) ∙ sym (over_blanks gap rest blanks) ∙ ap is_passed_over (sym whole)

pub over_none : (line rest : Text) → FollowsBlanks line rest → rest ≡ [] → true ≡ is_passed_over line
over_none line rest (gap, (whole, blanks, begins)) e = ap is_passed_over (sym e) ∙ sym (over_blanks gap rest blanks) ∙ ap is_passed_over (sym whole)

blanks_end : (gap rest : Text) → AreBlanks (gap ++ rest) → BeginsNoBlank rest → rest ≡ []
blanks_end [] [] h n = refl
blanks_end [] (b ∷ rest) h n = absurd (clash (is_blank b) h.0 n)
blanks_end (x ∷ gap) rest h n = blanks_end gap rest h.1 n

-- a line is blank where nothing is left past the blanks in front
pub blank_of : (line rest : Text) → FollowsBlanks line rest → rest ≡ [] → AreBlanks line
blank_of line rest (gap, (whole, blanks, begins)) e = subst AreBlanks (sym (whole ∙ ap (λ z. gap ++ z) e ∙ append-nil gap)) blanks

pub blank_rest : (line rest : Text) → FollowsBlanks line rest → AreBlanks line → rest ≡ []
blank_rest line rest (gap, (whole, blanks, begins)) h = blanks_end gap rest (subst AreBlanks whole h) begins

same_rest : (g h a b : Text) → AreBlanks g → AreBlanks h → BeginsNoBlank a → BeginsNoBlank b → g ++ a ≡ h ++ b → a ≡ b
same_rest [] [] a b p q m n e = e
same_rest [] (y ∷ h) a b p q m n e = absurd (clash (is_blank y) q.0 (subst BeginsNoBlank e m))
same_rest (x ∷ g) [] a b p q m n e = absurd (clash (is_blank x) p.0 (subst BeginsNoBlank (sym e) n))
same_rest (x ∷ g) (y ∷ h) a b p q m n e = same_rest g h a b p.1 q.1 m n (tail_same x y (g ++ a) (h ++ b) e)

pub commit_of : (line rest after : Text) → FollowsBlanks line rest → rest ≡ codes "COMMIT" ++ after → AreBlanks after → IsCommit line
commit_of line rest after (gap, (whole, blanks, begins)) e h =
    (gap, after, (whole ∙ ap (λ z. gap ++ z) e ∙ sym (append_assoc gap (codes "COMMIT") after), blanks, h))

pub commit_rest : (line rest : Text) → FollowsBlanks line rest → IsCommit line → (after : Text) × ((rest ≡ codes "COMMIT" ++ after) × AreBlanks after)
commit_rest line rest (gap, (whole, blanks, begins)) (before, after, (same, front, end)) = (
  after,
  (
    same_rest gap before rest (codes "COMMIT" ++ after) blanks front begins refl
        (sym whole ∙ same ∙ append_assoc before (codes "COMMIT") after),
    end,
  ),
)

not_zero : (n : ℕ) → (suc n == 0) ≡ true → ⊥
not_zero n h = grind (arith, nat_tests)

pub empty_tested : (rest : Text) (b : Bool) → b ≡ (length rest == 0) → b ≡ true → rest ≡ []
empty_tested [] b e t = refl
empty_tested (x ∷ rest) b e t = absurd (not_zero (length rest) (sym e ∙ t))

pub tested_empty : (rest : Text) (b : Bool) → b ≡ (length rest == 0) → rest ≡ [] → b ≡ true
tested_empty rest b e n = e ∙ ap (λ z. length z == 0) n

pub front_taken : (rest word : Text) → bytes_eq (take (length word) rest) word ≡ true → rest ≡ word ++ drop (length word) rest
front_taken rest word h = sym (take-append-drop (length word) rest) ∙ ap (λ z. z ++ drop (length word) rest) (same_bytes (take (length word) rest) word h)

pub front_left : (rest word after : Text) → rest ≡ word ++ after → drop (length word) rest ≡ after
front_left rest word after e = ap (drop (length word)) e ∙ drop-append_seam word after

pub front_differs : (rest word after : Text) → bytes_eq (take (length word) rest) word ≡ false → rest ≡ word ++ after → ⊥
front_differs rest word after h e =
    let same : bytes_eq (take (length word) rest) word ≡ true = bytes_same (take (length word) rest) word (ap (take (length word)) e ∙ take-append_seam word after) in
    clash (bytes_eq (take (length word) rest) word) same h

pub first_got : (rest : Text) (b : ℕ) → 0 < length rest → b ≡ get_or rest 0 b → rest ≡ b ∷ drop 1 rest
first_got [] b lt e = absurd (omega arith)
first_got (x ∷ rest) b lt e = ap (λ z. z ∷ rest) (sym e)

pub none_got : (rest : Text) → length rest ≤ 0 → rest ≡ []
none_got [] h = refl
none_got (x ∷ rest) h = absurd (omega arith)
