-- A text is divided into lines in one way; lines keep their numbers where others follow.
use Rattle.std.proofs.Common.{ℕ, suc, ◌+◌, ◌≡◌, ◌≢◌, ◌⊎◌, inl, inr, List, [], ◌∷◌, ◌++◌, length, refl, sym, ap, subst, ◌∙◌, arith, add-zero}
use Rattle.dump_grammar.specs.Lines.{Text, IsLine, AreLines, numbered_from}
use Rattle.basics.proofs.Lists.{head_same, tail_same, no_cons}

pub no_feed : (x : List ℕ) (r : List ℕ) → IsLine (x ++ 10 ∷ r) → ⊥
no_feed [] r h = h.0 refl
no_feed (b ∷ x) r h = no_feed x r h.1

-- lines that end at the first line feed of one text are one
pub same_line : (x y r s : List ℕ) → IsLine x → IsLine y → x ++ 10 ∷ r ≡ y ++ 10 ∷ s → (x ≡ y) × (r ≡ s)
same_line [] [] r s p q e = (refl, tail_same 10 10 r s e)
same_line [] (b ∷ y) r s p q e = absurd (q.0 (sym (head_same 10 b r (y ++ 10 ∷ s) e)))
same_line (a ∷ x) [] r s p q e = absurd (p.0 (head_same a 10 (x ++ 10 ∷ r) s e))
same_line (a ∷ x) (b ∷ y) r s p q e =
    let first : a ≡ b = head_same a b (x ++ 10 ∷ r) (y ++ 10 ∷ s) e in
    let more : (x ≡ y) × (r ≡ s) = same_line x y r s p.1 q.1 (tail_same a b (x ++ 10 ∷ r) (y ++ 10 ∷ s) e) in
    (λ i. first i ∷ more.0 i, more.1)

pub one_lines : (a b : List Text) (text : Text) → AreLines a text → AreLines b text → a ≡ b
one_lines [] [] text p q = refl
one_lines [] (y ∷ b) text p (l, inl w) = absurd (no_cons y 10 w.0 (sym w.1 ∙ p))
one_lines [] (y ∷ b) text p (l, inr w) = absurd (w.1 (sym w.0 ∙ p))
one_lines (x ∷ a) [] text (k, inl v) q = absurd (no_cons x 10 v.0 (sym v.1 ∙ q))
one_lines (x ∷ a) [] text (k, inr v) q = absurd (v.1 (sym v.0 ∙ q))
one_lines (x ∷ a) (y ∷ b) text (k, inl v) (l, inl w) =
    let same = same_line x y v.0 w.0 k l (sym v.1 ∙ w.1) in
    let more = one_lines a b w.0 (subst (λ r. AreLines a r) same.1 v.2) w.2 in
    λ i. same.0 i ∷ more i
one_lines (x ∷ a) (y ∷ b) text (k, inl v) (l, inr w) = absurd (no_feed x v.0 (subst IsLine (sym w.0 ∙ v.1) l))
one_lines (x ∷ a) (y ∷ b) text (k, inr v) (l, inl w) = absurd (no_feed y w.0 (subst IsLine (sym v.0 ∙ w.1) k))
one_lines (x ∷ a) (y ∷ b) text (k, inr v) (l, inr w) =
    let first : x ≡ y = sym v.0 ∙ w.0 in
    let more : a ≡ b = v.2 ∙ sym w.2 in
    λ i. first i ∷ more i

pub numbered_append : (n : ℕ) (a b : List Text) → numbered_from n (a ++ b) ≡ numbered_from n a ++ numbered_from (n + length a) b
numbered_append n [] b = ap (λ m. numbered_from m b) (sym (add-zero n))
numbered_append n (x ∷ a) b =
    ap (λ z. record { number = n; bytes = x } ∷ z)
    (numbered_append (n + 1) a b ∙ (let e : n + 1 + length a ≡ n + suc (length a) = omega arith in ap (λ m. numbered_from (n + 1) a ++ numbered_from m b) e))

with_feed : (b : ℕ) (text : Text) (lines : List Text) → b ≡ 10 → AreLines lines text → (all : List Text) × AreLines all (b ∷ text)
with_feed b text lines e h = ([] ∷ lines, (tt, inl (text, ap (λ z. z ∷ text) e, h)))

with_byte : (b : ℕ) (text : Text) (lines : List Text) → b ≢ 10 → AreLines lines text → (all : List Text) × AreLines all (b ∷ text)
with_byte b text [] n h = ((b ∷ []) ∷ [], ((n, tt), inr (ap (λ z. b ∷ z) h, (λ e. cc), refl)))
with_byte b text (line ∷ lines) n (is, inl w) = ((b ∷ line) ∷ lines, ((n, is), inl (w.0, ap (λ z. b ∷ z) w.1, w.2)))
with_byte b text (line ∷ lines) n (is, inr w) = ((b ∷ line) ∷ lines, ((n, is), inr (ap (λ z. b ∷ z) w.0, (λ e. cc), w.2)))

feed_or : (b : ℕ) → (b ≡ 10) ⊎ (b ≢ 10)
feed_or b = grind arith

with_any : (b : ℕ) (text : Text) (lines : List Text) → AreLines lines text → (b ≡ 10) ⊎ (b ≢ 10) → (all : List Text) × AreLines all (b ∷ text)
with_any b text lines h (inl e) = with_feed b text lines e h
with_any b text lines h (inr n) = with_byte b text lines n h

-- each text is divided into lines
pub lines_of_text : (text : Text) → (lines : List Text) × AreLines lines text
lines_of_text [] = ([], refl)
lines_of_text (b ∷ text) = let rest = lines_of_text text in with_any b text rest.0 rest.1 (feed_or b)
