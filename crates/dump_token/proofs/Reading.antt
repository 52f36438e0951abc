-- The state of the loop that reads what stands between two quotes.
use Rattle.std.proofs.Common.{ℕ, ◌+◌, ◌<◌, ◌≤◌, ◌≡◌, ◌≢◌, inl, inr, List, [], ◌∷◌, ◌++◌, length, take, drop, get_or, refl, sym, ap, subst, ◌∙◌, arith, add-one, append_assoc, drop-cons}
use Rattle.std.proofs.Math.ListN.{drop_of_length-le}
use Rattle.std.proofs.lemmas.Grind.{common_steps}
use Rattle.std.proofs.lemmas.List.{take-append-drop}
use Rattle.dump_token.specs.Words.{Means}

-- what was read, followed by any reading of what is left, is a reading of the whole, and each reading of the whole is of this kind
pub record Reads (line text : List ℕ) (n : ℕ) : Type 0 where
  pub inside : n ≤ length line
  pub read : (inner more : List ℕ) → Means inner more → Means (take n line ++ inner) (text ++ more)
  pub each : (inner text rest : List ℕ) → line ≡ inner ++ 34 ∷ rest → Means inner text →
      (left : List ℕ) × (more : List ℕ) × (drop n line ≡ left ++ 34 ∷ rest) × Means left more

next_byte : (line : List ℕ) (n : ℕ) → n < length line → drop n line ≡ get_or line n 0 ∷ drop (n + 1) line
next_byte line n h = rw add-one (drop-cons line n 0 h)

took : (line : List ℕ) (n : ℕ) → n < length line → take (n + 1) line ≡ take n line ++ get_or line n 0 ∷ []
took line n h = grind (arith, common_steps)

pub append-nil : (xs : List ℕ) → xs ++ [] ≡ xs
append-nil [] = refl
append-nil (x ∷ xs) = ap (λ z. x ∷ z) (append-nil xs)

heads : (a b : ℕ) (xs ys : List ℕ) → a ∷ xs ≡ b ∷ ys → a ≡ b
heads a b xs ys e = cc

tails : (a b : ℕ) (xs ys : List ℕ) → a ∷ xs ≡ b ∷ ys → xs ≡ ys
tails a b xs ys e = cc

no_room : (a : ℕ) (left rest : List ℕ) → a ≢ 34 → a ∷ [] ≡ left ++ 34 ∷ rest → ⊥
no_room a [] rest h e = h (heads a 34 [] rest e)
no_room a (x ∷ []) rest h e = let f = tails a x [] (34 ∷ rest) e in cc
no_room a (x ∷ (y ∷ left)) rest h e = let f = tails a x [] (y ∷ (left ++ 34 ∷ rest)) e in cc

plain_left : (b : ℕ) (tail left rest more : List ℕ) → b ≢ 34 → b ≢ 92 → b ∷ tail ≡ left ++ 34 ∷ rest → Means left more →
    (left' : List ℕ) × (more' : List ℕ) × (tail ≡ left' ++ 34 ∷ rest) × Means left' more'
plain_left b tail [] rest more q r e m = let f : b ≡ 34 = cc in absurd (q f)
plain_left b tail (x ∷ left) rest more q r e (inl m) = let f : b ≡ 92 = cc (e, m.0) in absurd (r f)
plain_left b tail (x ∷ left) rest more q r e (inr m) = (left, m.2.0, cc, m.2.2)

escaped_left : (b : ℕ) (tail left rest more : List ℕ) → 92 ∷ b ∷ tail ≡ left ++ 34 ∷ rest → Means left more →
    (left' : List ℕ) × (more' : List ℕ) × (tail ≡ left' ++ 34 ∷ rest) × Means left' more'
escaped_left b tail [] rest more e m = absurd (omega (arith, heads 92 34 (b ∷ tail) rest e))
escaped_left b tail (x ∷ []) rest more e (inl m) = elim m.1 [ ]
escaped_left b tail (x ∷ (y ∷ left)) rest more e (inl m) = (left, m.1.0, cc, m.1.2)
escaped_left b tail (x ∷ left) rest more e (inr m) = let f : x ≡ 92 = cc in absurd (m.0 f)

pub start : (line : List ℕ) → Reads line [] 0
start line = record { inside = omega arith; read = λ inner more m. m; each = λ inner text rest e m. (inner, text, e, m) }

pub plain : (line text : List ℕ) (n : ℕ) → Reads line text n → n < length line → get_or line n 0 ≢ 34 → get_or line n 0 ≢ 92 →
    Reads line (text ++ get_or line n 0 ∷ []) (n + 1)
plain line text n r h q s = record {
  inside = omega arith;
  read = λ inner more m. rw (took line n h, append_assoc, append_assoc) (r.read (get_or line n 0 ∷ inner) (get_or line n 0 ∷ more) (inr (s, q, (more, refl, m))));
  each = λ inner t rest e m. let o = r.each inner t rest e m in
      plain_left (get_or line n 0) (drop (n + 1) line) o.0 rest o.1 q s (sym (next_byte line n h) ∙ o.2) o.3;
}

pub escaped : (line text : List ℕ) (n : ℕ) → Reads line text n → n + 1 < length line → get_or line n 0 ≡ 92 →
    Reads line (text ++ get_or line (n + 1) 0 ∷ []) (n + 1 + 1)
escaped line text n r h q =
    let l : n < length line = omega arith in
    let d : drop n line ≡ 92 ∷ get_or line (n + 1) 0 ∷ drop (n + 1 + 1) line = next_byte line n l ∙ (λ i. q i ∷ next_byte line (n + 1) h i) in
    let t : take (n + 1 + 1) line ≡ take n line ++ 92 ∷ get_or line (n + 1) 0 ∷ [] =
    took line (n + 1) h ∙ ap (λ z. z ++ get_or line (n + 1) 0 ∷ []) (took line n l ∙ ap (λ c. take n line ++ c ∷ []) q) ∙ append_assoc (take n line) (92 ∷ []) (get_or line (n + 1) 0 ∷ [])
    in record {
      inside = omega arith;
      read = λ inner more m. rw (t, append_assoc, append_assoc) (r.read (92 ∷ get_or line (n + 1) 0 ∷ inner) (get_or line (n + 1) 0 ∷ more) (inl (refl, (more, refl, m))));
      each = λ inner u rest e m. let o = r.each inner u rest e m in
          escaped_left (get_or line (n + 1) 0) (drop (n + 1 + 1) line) o.0 rest o.1 (sym d ∙ o.2) o.3;
    }

pub closed : (line text : List ℕ) (n : ℕ) → Reads line text n → n < length line → get_or line n 0 ≡ 34 →
    (rest : List ℕ) × (line ≡ take n line ++ 34 ∷ rest) × Means (take n line) text
closed line text n r h q = (
  drop (n + 1) line,
  sym (take-append-drop n line) ∙ ap (λ z. take n line ++ z) (next_byte line n h ∙ ap (λ b. b ∷ drop (n + 1) line) q),
  subst (λ z. Means z text) (append-nil (take n line)) (subst (λ z. Means (take n line ++ []) z) (append-nil text) (r.read [] [] refl)),
)

pub cut_off : (line text : List ℕ) (n : ℕ) → Reads line text n → n + 1 ≡ length line → get_or line n 0 ≡ 92 →
    (inner text rest : List ℕ) → line ≡ inner ++ 34 ∷ rest → Means inner text → ⊥
cut_off line text n r h q inner t rest e m =
    let o = r.each inner t rest e m in
    let d : drop n line ≡ 92 ∷ [] = next_byte line n (omega arith) ∙ (λ i. q i ∷ drop_of_length-le line {i = n + 1} (omega arith) i) in
    no_room 92 o.0 rest (λ f. omega (arith, f)) (sym d ∙ o.2)

pub escaped_to : (line text next : List ℕ) (n : ℕ) → next ≡ text ++ get_or line (n + 1) 0 ∷ [] → Reads line text n → n + 1 < length line → get_or line n 0 ≡ 92 →
    Reads line next (n + 2)
escaped_to line text next n e r h q =
    let two : n + 1 + 1 ≡ n + 2 = omega arith in
    rw e (subst (λ z. Reads line (text ++ get_or line (n + 1) 0 ∷ []) z) two (escaped line text n r h q))
