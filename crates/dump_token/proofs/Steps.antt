-- From one word of a line to the next.
use Rattle.std.proofs.Common.{ℕ, ◌+◌, ◌-◌, ◌<◌, ◌≤◌, ◌≡◌, ◌≢◌, inl, inr, Bool, true, false, not, cond, List, [], ◌∷◌, ◌++◌, length, take, drop, refl, sym, ap, subst, ◌∙◌, arith, append_assoc, length-append, length-drop, get_or}
use Rattle.std.specs.List.{AllByRecursion, prefix_len}
use Rattle.std.proofs.lemmas.List.{take-append-drop, length-take-le, drop-drop}
use Rattle.std.proofs.lemmas.List.Sums.{prefix_len-le-length}
use Rattle.std.proofs.Math.Seq.{drop-append-add, drop-append_seam}
use Rattle.std.proofs.lemmas.Grind.{common_steps}
use Rattle.std.specs.Prelude.{Result, Ok, Err, Option, Some, None, IfOk, IfErr, IfSome, IfNone}
use Rattle.dump_token.specs.declared.token.Token.{Token}
use Rattle.dump_token.specs.declared.fault.TokenFault.{TokenFault}
use Rattle.dump_token.specs.Faults.{OnQuote, IsLeftOpen, HasNoWords}
use Rattle.dump_token.specs.Words.{is_blank, AreBlanks, HoldsNoBlank, BeginsBlank, BeginsNoBlank, BeginsPlain, Means, Begins, IsFirst, AreWords, IsUnclosed, OpensQuote, AreLeftOpen}
use Rattle.dump_token.proofs.Once.{BeginsFull, spelled_full, not_both}
use Rattle.dump_token.proofs.Reading.{append-nil}

one_more : (n : ℕ) (x : ℕ) (xs : List ℕ) → take (1 + n) (x ∷ xs) ≡ x ∷ take n xs
one_more n x xs = grind (arith, common_steps)

one_less : (n : ℕ) (x : ℕ) (xs : List ℕ) → drop (1 + n) (x ∷ xs) ≡ drop n xs
one_less n x xs = grind (arith, common_steps)

passed_by : (p : ℕ → Bool) (x : ℕ) (xs : List ℕ) (t : Bool) → p x ≡ t → AllByRecursion (λ b. p b ≡ true) (take (prefix_len p xs) xs) →
    AllByRecursion (λ b. p b ≡ true) (take (cond t (1 + prefix_len p xs) 0) (x ∷ xs))
passed_by p x xs true e m = subst (AllByRecursion (λ b. p b ≡ true)) (sym (one_more (prefix_len p xs) x xs)) (e, m)
passed_by p x xs false e m = tt

-- the bytes before the first that fails the test pass it
passed : (p : ℕ → Bool) (xs : List ℕ) → AllByRecursion (λ b. p b ≡ true) (take (prefix_len p xs) xs)
passed p [] = tt
passed p (x ∷ xs) = passed_by p x xs (p x) refl (passed p xs)

-- nothing follows them, or a byte that fails the test
abbrev pub FailsFirst : (ℕ → Bool) → List ℕ → Type 0
FailsFirst p [] = Unit {0}
FailsFirst p (b ∷ bs) = p b ≡ false

failed_by : (p : ℕ → Bool) (x : ℕ) (xs : List ℕ) (t : Bool) → p x ≡ t → FailsFirst p (drop (prefix_len p xs) xs) →
    FailsFirst p (drop (cond t (1 + prefix_len p xs) 0) (x ∷ xs))
failed_by p x xs true e m = subst (FailsFirst p) (sym (one_less (prefix_len p xs) x xs)) m
failed_by p x xs false e m = e

failed : (p : ℕ → Bool) (xs : List ℕ) → FailsFirst p (drop (prefix_len p xs) xs)
failed p [] = tt
failed p (x ∷ xs) = failed_by p x xs (p x) refl (failed p xs)

-- no blank
abbrev pub full : ℕ → Bool
full b = not (is_blank b)

not_true : (t : Bool) → not t ≡ true → t ≡ false
not_true true e = cc
not_true false e = refl

not_false : (t : Bool) → not t ≡ false → t ≡ true
not_false true e = refl
not_false false e = cc

no_blanks : (xs : List ℕ) → AllByRecursion (λ b. full b ≡ true) xs → HoldsNoBlank xs
no_blanks [] p = tt
no_blanks (x ∷ xs) p = (not_true (is_blank x) p.0, no_blanks xs p.1)

begins_blank : (xs : List ℕ) → FailsFirst full xs → BeginsBlank xs
begins_blank [] p = tt
begins_blank (x ∷ xs) p = not_false (is_blank x) p

plain_run_by : (x : ℕ) (xs : List ℕ) (t : Bool) → is_blank x ≡ t → BeginsPlain (x ∷ xs) → BeginsPlain (take (cond (not t) (1 + prefix_len full xs) 0) (x ∷ xs))
plain_run_by x xs true e p = let f = p.1 in cc
plain_run_by x xs false e p = subst BeginsPlain (sym (one_more (prefix_len full xs) x xs)) p

plain_run : (xs : List ℕ) → BeginsPlain xs → BeginsPlain (take (prefix_len full xs) xs)
plain_run [] p = p
plain_run (x ∷ xs) p = plain_run_by x xs (is_blank x) refl p

pub plain_begins : (bytes : List ℕ) (w : Token) (start : ℕ) → BeginsPlain bytes → w.quoted ≡ false → w.text ≡ take (prefix_len full bytes) bytes →
    w.start ≡ start → w.end ≡ start + prefix_len full bytes → (rest : List ℕ) × Begins start w bytes rest
plain_begins bytes w start p q t s e =
    let n : ℕ = prefix_len full bytes in (
      drop n bytes,
      record {
        spelled = take n bytes;
        whole = sym (take-append-drop n bytes);
        spells = inl (record {
          quoted = q;
          text = t;
          first = plain_run bytes p;
          run = no_blanks (take n bytes) (passed full bytes);
          ends = begins_blank (drop n bytes) (failed full bytes);
        });
        starts = s;
        ends = e ∙ ap (λ z. start + z) (sym (length-take-le n bytes (prefix_len-le-length full bytes)));
      },
    )

pub quoted_begins : (bytes rest : List ℕ) (w : Token) (start n : ℕ) → n < length bytes → bytes ≡ take n bytes ++ 34 ∷ rest → Means (take n bytes) w.text →
    w.quoted ≡ true → w.start ≡ start → w.end ≡ start + n + 2 → (rest : List ℕ) × Begins start w (34 ∷ bytes) rest
quoted_begins bytes rest w start n l e m q s f =
    let k : length (take n bytes) ≡ n = length-take-le n bytes (omega arith) in
    let j : length (take n bytes ++ 34 ∷ []) ≡ length (take n bytes) + 1 = length-append (take n bytes) (34 ∷ []) in (
      rest,
      record {
        spelled = 34 ∷ (take n bytes ++ 34 ∷ []);
        whole = ap (λ z. 34 ∷ z) (e ∙ sym (append_assoc (take n bytes) (34 ∷ []) rest));
        spells = inr (record { quoted = q; inner = take n bytes; whole = refl; text = m });
        starts = s;
        ends = omega arith;
      },
    )

spelled_long : (s : List ℕ) → BeginsFull s → 0 < length s
unfolding BeginsFull
spelled_long [] m = absurd m
spelled_long (b ∷ s) m = omega arith

-- where a word ends, the rest begins
pub after_first : (line rest : List ℕ) (at : ℕ) (w : Token) → at ≤ length line → IsFirst at w (drop at line) rest →
    (at < w.end) × (w.end ≤ length line) × (rest ≡ drop w.end line)
after_first line rest at w h f =
    let b = f.begins in
    let whole : drop at line ≡ f.gap ++ (b.spelled ++ rest) = f.whole ∙ ap (λ z. f.gap ++ z) b.whole in
    let long : 0 < length b.spelled = spelled_long b.spelled (spelled_full b.spelled rest w b.spells) in
    let left : length line - at ≡ length f.gap + (length b.spelled + length rest) =
    sym (length-drop at line) ∙ ap length whole ∙ length-append f.gap (b.spelled ++ rest) ∙ ap (λ z. length f.gap + z) (length-append b.spelled rest) in
    let until : w.end ≡ at + (length f.gap + length b.spelled) = omega (arith, b.ends) in
    let there : drop w.end line ≡ rest =
    ap (λ z. drop z line) until ∙ sym (drop-drop (length f.gap + length b.spelled) at line) ∙ ap (drop (length f.gap + length b.spelled)) whole
    ∙ drop-append-add f.gap (b.spelled ++ rest) (length b.spelled) ∙ drop-append_seam b.spelled rest in
    (omega arith, omega arith, sym there)

gap_blanks : (bytes : List ℕ) (n : ℕ) → n ≡ prefix_len is_blank bytes → AreBlanks (take n bytes)
gap_blanks bytes n e = subst (λ z. AreBlanks (take z bytes)) (sym e) (passed is_blank bytes)

gap_length : (bytes : List ℕ) (n : ℕ) → n ≡ prefix_len is_blank bytes → length (take n bytes) ≡ n
gap_length bytes n e = length-take-le n bytes (subst (λ z. z ≤ length bytes) (sym e) (prefix_len-le-length is_blank bytes))

no_blank : (xs : List ℕ) → FailsFirst is_blank xs → BeginsNoBlank xs
no_blank [] p = tt
no_blank (x ∷ xs) p = p

-- after the blanks comes no blank
pub gap_ends : (bytes : List ℕ) (n : ℕ) → n ≡ prefix_len is_blank bytes → BeginsNoBlank (drop n bytes)
gap_ends bytes n e = subst (λ z. BeginsNoBlank (drop z bytes)) (sym e) (no_blank (drop (prefix_len is_blank bytes) bytes) (failed is_blank bytes))

pub next_found : (bytes : List ℕ) (at n : ℕ) (w : Token) → n ≡ prefix_len is_blank bytes →
    ((rest : List ℕ) × Begins (at + n) w (drop n bytes) rest) → (rest : List ℕ) × IsFirst at w bytes rest
next_found bytes at n w e b = (
  b.0,
  record {
    gap = take n bytes;
    after = drop n bytes;
    whole = sym (take-append-drop n bytes);
    blanks = gap_blanks bytes n e;
    begins = subst (λ z. Begins (at + z) w (drop n bytes) b.0) (sym (gap_length bytes n e)) b.1;
  },
)

pub next_open : (bytes : List ℕ) (n : ℕ) → n ≡ prefix_len is_blank bytes → ((rest : List ℕ) × (drop n bytes ≡ 34 ∷ rest) × IsUnclosed rest) → OpensQuote bytes
next_open bytes n e o = record {
  gap = take n bytes;
  rest = o.0;
  whole = sym (take-append-drop n bytes) ∙ ap (λ z. take n bytes ++ z) o.1;
  blanks = gap_blanks bytes n e;
  unclosed = o.2;
}

pub next_none : (bytes : List ℕ) (n : ℕ) → n ≡ prefix_len is_blank bytes → drop n bytes ≡ [] → AreBlanks bytes
next_none bytes n e d =
    let all : take n bytes ≡ bytes = sym (append-nil (take n bytes)) ∙ ap (λ z. take n bytes ++ z) (sym d) ∙ take-append-drop n bytes in
    subst AreBlanks all (gap_blanks bytes n e)

-- what is known of the bytes after the blanks, told of the bytes before them
pub found_after : (bytes after : List ℕ) (at n : ℕ) → n ≡ prefix_len is_blank bytes → after ≡ drop n bytes → (r : Result (Option Token) TokenFault) →
    IfOk r (λ found. IfSome found (λ w. (rest : List ℕ) × Begins (at + n) w after rest)) →
    IfOk r (λ found. IfSome found (λ w. (rest : List ℕ) × IsFirst at w bytes rest))
found_after bytes after at n e f (Ok (Some w)) h = next_found bytes at n w e (subst (λ z. (rest : List ℕ) × Begins (at + n) w z rest) f h)
found_after bytes after at n e f (Ok None) h = tt
found_after bytes after at n e f (Err fault) h = tt

pub none_after : (bytes after : List ℕ) (n : ℕ) → n ≡ prefix_len is_blank bytes → after ≡ drop n bytes → (r : Result (Option Token) TokenFault) →
    IfOk r (λ found. IfNone found (after ≡ [])) → IfOk r (λ found. IfNone found (AreBlanks bytes))
none_after bytes after n e f (Ok (Some w)) h = tt
none_after bytes after n e f (Ok None) h = next_none bytes n e (sym f ∙ h)
none_after bytes after n e f (Err fault) h = tt

pub open_after : (bytes after : List ℕ) (n : ℕ) → n ≡ prefix_len is_blank bytes → after ≡ drop n bytes → (r : Result (Option Token) TokenFault) →
    IfErr r (OnQuote ((rest : List ℕ) × (after ≡ 34 ∷ rest) × IsUnclosed rest)) → IfErr r (OnQuote (OpensQuote bytes))
open_after bytes after n e f (Ok found) h = tt
open_after bytes after n e f (Err TokenFault.Quote) h = next_open bytes n e (h.0, sym f ∙ h.1, h.2)
open_after bytes after n e f (Err TokenFault.Memory) h = tt

pub plain_first : (bytes : List ℕ) → BeginsNoBlank bytes → 0 < length bytes → get_or bytes 0 0 ≢ 34 → BeginsPlain bytes
plain_first [] p l q = omega arith
plain_first (b ∷ bs) p l q = (q, p)

pub quote_first : (bytes : List ℕ) → 0 < length bytes → get_or bytes 0 0 ≡ 34 → bytes ≡ 34 ∷ drop 1 bytes
quote_first [] l q = absurd (omega arith)
quote_first (b ∷ bs) l q = λ i. q i ∷ bs

-- the words that were read, and where the bytes that are left begin
pub record IsRead (line : List ℕ) (words : List Token) (at : ℕ) : Type 0 where
  pub inside : at ≤ length line
  pub words_on : (more : List Token) → AreWords at more (drop at line) → AreWords 0 (words ++ more) line
  pub open_on : (more : List Token) → AreLeftOpen at more (drop at line) → AreLeftOpen 0 (words ++ more) line

pub read_none : (line : List ℕ) → IsRead line [] 0
read_none line = record { inside = omega arith; words_on = λ more p. p; open_on = λ more p. p }

pub read_more : (line rest : List ℕ) (words : List Token) (at : ℕ) (w : Token) → IsRead line words at → IsFirst at w (drop at line) rest → IsRead line (words ++ w ∷ []) w.end
read_more line rest words at w r f =
    let k : (at < w.end) × (w.end ≤ length line) × (rest ≡ drop w.end line) = after_first line rest at w r.inside f in
    let first : IsFirst at w (drop at line) (drop w.end line) = subst (IsFirst at w (drop at line)) k.2 f in
    record {
      inside = k.1;
      words_on = λ more p. subst (λ z. AreWords 0 z line) (sym (append_assoc words (w ∷ []) more)) (r.words_on (w ∷ more) (drop w.end line, first, p));
      open_on = λ more p. subst (λ z. AreLeftOpen 0 z line) (sym (append_assoc words (w ∷ []) more)) (r.open_on (w ∷ more) (drop w.end line, first, p));
    }

no_more : (xs : List Token) → xs ++ [] ≡ xs
no_more [] = refl
no_more (x ∷ xs) = ap (λ z. x ∷ z) (no_more xs)

pub read_all : (line : List ℕ) (words : List Token) (at : ℕ) → IsRead line words at → AreBlanks (drop at line) → AreWords 0 words line
read_all line words at r p = subst (λ z. AreWords 0 z line) (no_more words) (r.words_on [] p)

left_open : (line : List ℕ) (words : List Token) (at : ℕ) → IsRead line words at → OpensQuote (drop at line) → AreLeftOpen 0 words line
left_open line words at r o = subst (λ z. AreLeftOpen 0 z line) (no_more words) (r.open_on [] o)

pub read_open : (line : List ℕ) (words : List Token) (at : ℕ) → IsRead line words at → (fault : TokenFault) → OnQuote (OpensQuote (drop at line)) fault → OnQuote (IsLeftOpen line) fault
read_open line words at r TokenFault.Quote o = (words, left_open line words at r o)
read_open line words at r TokenFault.Memory o = tt

pub read_no_words : (line : List ℕ) (words : List Token) (at : ℕ) → IsRead line words at → (fault : TokenFault) → OnQuote (OpensQuote (drop at line)) fault → OnQuote (HasNoWords line) fault
read_no_words line words at r TokenFault.Quote o = λ other p. not_both 0 other words line p (left_open line words at r o)
read_no_words line words at r TokenFault.Memory o = tt
