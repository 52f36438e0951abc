-- A line is divided into words in one way.
use Rattle.std.proofs.Common.{ℕ, ◌+◌, ◌≡◌, inl, inr, Bool, true, false, List, [], ◌∷◌, ◌++◌, length, refl, sym, ap, subst, ◌∙◌, arith, append_assoc}
use Rattle.dump_token.specs.declared.token.Token.{Token}
use Rattle.dump_token.specs.Words.{is_blank, AreBlanks, HoldsNoBlank, BeginsBlank, BeginsPlain, Means, IsQuoted, Spells, Begins, IsFirst, AreWords, OpensQuote, AreLeftOpen}

heads : (a b : ℕ) (xs ys : List ℕ) → a ∷ xs ≡ b ∷ ys → a ≡ b
heads a b xs ys e = cc

tails : (a b : ℕ) (xs ys : List ℕ) → a ∷ xs ≡ b ∷ ys → xs ≡ ys
tails a b xs ys e = cc

both : (b : Bool) → b ≡ true → b ≡ false → ⊥
both b t f = cc

no_backslash : (b : ℕ) → b ≡ 34 → b ≡ 92 → ⊥
no_backslash b q s = omega arith

-- there is a first byte, and it is no blank
unfoldable pub BeginsFull : List ℕ → Type 0
BeginsFull [] = ⊥
BeginsFull (b ∷ bs) = is_blank b ≡ false

pub full_front : (s r : List ℕ) → BeginsFull s → BeginsFull (s ++ r)
unfolding BeginsFull
full_front [] r m = absurd m
full_front (b ∷ s) r m = m

pub full_quote : (r : List ℕ) → BeginsFull (34 ∷ r)
unfolding BeginsFull
full_quote r = refl

pub spelled_full : (s r : List ℕ) (w : Token) → Spells s r w → BeginsFull s
unfolding BeginsFull
spelled_full [] r w (inl p) = p.first
spelled_full (b ∷ s) r w (inl p) = p.first.1
spelled_full [] r w (inr q) = let e = q.whole in cc
spelled_full (b ∷ s) r w (inr q) = ap is_blank (heads b 34 s (q.inner ++ 34 ∷ []) q.whole)

same_gap : (g h a b : List ℕ) → AreBlanks g → AreBlanks h → BeginsFull a → BeginsFull b → g ++ a ≡ h ++ b → (g ≡ h) × (a ≡ b)
unfolding BeginsFull
same_gap [] [] a b p q m n e = (refl, e)
same_gap [] (y ∷ h) a b p q m n e = absurd (both (is_blank y) q.0 (subst BeginsFull e m))
same_gap (x ∷ g) [] a b p q m n e = absurd (both (is_blank x) p.0 (subst BeginsFull (sym e) n))
same_gap (x ∷ g) (y ∷ h) a b p q m n e =
    let first : x ≡ y = heads x y (g ++ a) (h ++ b) e in
    let more : (g ≡ h) × (a ≡ b) = same_gap g h a b p.1 q.1 m n (tails x y (g ++ a) (h ++ b) e) in
    (λ i. first i ∷ more.0 i, more.1)

not_blanks : (g a : List ℕ) → AreBlanks (g ++ a) → BeginsFull a → ⊥
unfolding BeginsFull
not_blanks [] [] p m = m
not_blanks [] (b ∷ a) p m = both (is_blank b) p.0 m
not_blanks (x ∷ g) a p m = not_blanks g a p.1 m

same_run : (s t r u : List ℕ) → HoldsNoBlank s → HoldsNoBlank t → BeginsBlank r → BeginsBlank u → s ++ r ≡ t ++ u → (s ≡ t) × (r ≡ u)
same_run [] [] r u p q m n e = (refl, e)
same_run [] (y ∷ t) r u p q m n e = absurd (both (is_blank y) (subst BeginsBlank e m) q.0)
same_run (x ∷ s) [] r u p q m n e = absurd (both (is_blank x) (subst BeginsBlank (sym e) n) p.0)
same_run (x ∷ s) (y ∷ t) r u p q m n e =
    let first : x ≡ y = heads x y (s ++ r) (t ++ u) e in
    let more : (s ≡ t) × (r ≡ u) = same_run s t r u p.1 q.1 m n (tails x y (s ++ r) (t ++ u) e) in
    (λ i. first i ∷ more.0 i, more.1)

-- a reading ends where the quote closes it
no_quote : (c : ℕ) (t y : List ℕ) → c ≡ 34 → Means (c ∷ t) y → ⊥
no_quote c t y e (inl n) = no_backslash c e n.0
no_quote c t y e (inr n) = n.1 e

same_inner : (s t x y r u : List ℕ) → Means s x → Means t y → s ++ 34 ∷ r ≡ t ++ 34 ∷ u → (s ≡ t) × (x ≡ y) × (r ≡ u)
same_inner [] [] x y r u m n e = (refl, m ∙ sym n, tails 34 34 r u e)
same_inner [] (c ∷ t) x y r u m n e = absurd (no_quote c t y (sym (heads 34 c r (t ++ 34 ∷ u) e)) n)
same_inner (b ∷ s) [] x y r u m n e = absurd (no_quote b s x (heads b 34 (s ++ 34 ∷ r) u e) m)
same_inner (b ∷ s) (c ∷ t) x y r u (inr m) (inr n) e =
    let first : b ≡ c = heads b c (s ++ 34 ∷ r) (t ++ 34 ∷ u) e in
    let more : (s ≡ t) × (m.2.0 ≡ n.2.0) × (r ≡ u) = same_inner s t m.2.0 n.2.0 r u m.2.2 n.2.2 (tails b c (s ++ 34 ∷ r) (t ++ 34 ∷ u) e) in
    (λ i. first i ∷ more.0 i, m.2.1 ∙ (λ i. first i ∷ more.1 i) ∙ sym n.2.1, more.2)
same_inner (b ∷ s) (c ∷ t) x y r u (inl m) (inr n) e = absurd (n.0 (sym (heads b c (s ++ 34 ∷ r) (t ++ 34 ∷ u) e) ∙ m.0))
same_inner (b ∷ s) (c ∷ t) x y r u (inr m) (inl n) e = absurd (m.0 (heads b c (s ++ 34 ∷ r) (t ++ 34 ∷ u) e ∙ n.0))
same_inner (b ∷ []) (c ∷ t) x y r u (inl m) (inl n) e = absurd m.1
same_inner (b ∷ (b' ∷ s)) (c ∷ []) x y r u (inl m) (inl n) e = absurd n.1
same_inner (b ∷ (b' ∷ s)) (c ∷ (c' ∷ t)) x y r u (inl m) (inl n) e =
    let first : b ≡ c = heads b c (b' ∷ (s ++ 34 ∷ r)) (c' ∷ (t ++ 34 ∷ u)) e in
    let later : b' ∷ (s ++ 34 ∷ r) ≡ c' ∷ (t ++ 34 ∷ u) = tails b c (b' ∷ (s ++ 34 ∷ r)) (c' ∷ (t ++ 34 ∷ u)) e in
    let second : b' ≡ c' = heads b' c' (s ++ 34 ∷ r) (t ++ 34 ∷ u) later in
    let more : (s ≡ t) × (m.1.0 ≡ n.1.0) × (r ≡ u) = same_inner s t m.1.0 n.1.0 r u m.1.2 n.1.2 (tails b' c' (s ++ 34 ∷ r) (t ++ 34 ∷ u) later) in
    (λ i. first i ∷ second i ∷ more.0 i, m.1.1 ∙ (λ i. second i ∷ more.1 i) ∙ sym n.1.1, more.2)

pub plain_front : (s r more : List ℕ) → BeginsPlain s → s ++ r ≡ 34 ∷ more → ⊥
plain_front [] r more m e = m
plain_front (b ∷ s) r more m e = m.0 (heads b 34 (s ++ r) more e)

-- what follows the opening quote of a quoted word
inside : (s r : List ℕ) (w : Token) (q : IsQuoted s w) → s ++ r ≡ 34 ∷ (q.inner ++ 34 ∷ r)
inside s r w q = ap (λ z. z ++ r) q.whole ∙ ap (λ z. 34 ∷ z) (append_assoc q.inner (34 ∷ []) r)

same_spelled : (s t r u : List ℕ) (v w : Token) → Spells s r v → Spells t u w → s ++ r ≡ t ++ u →
    (s ≡ t) × (r ≡ u) × (v.text ≡ w.text) × (v.quoted ≡ w.quoted)
same_spelled s t r u v w (inl p) (inl q) e =
    let k : (s ≡ t) × (r ≡ u) = same_run s t r u p.run q.run p.ends q.ends e in
    (k.0, k.1, p.text ∙ k.0 ∙ sym q.text, p.quoted ∙ sym q.quoted)
same_spelled s t r u v w (inl p) (inr q) e = absurd (plain_front s r (q.inner ++ 34 ∷ u) p.first (e ∙ inside t u w q))
same_spelled s t r u v w (inr p) (inl q) e = absurd (plain_front t u (p.inner ++ 34 ∷ r) q.first (sym e ∙ inside s r v p))
same_spelled s t r u v w (inr p) (inr q) e =
    let f : 34 ∷ (p.inner ++ 34 ∷ r) ≡ 34 ∷ (q.inner ++ 34 ∷ u) = sym (inside s r v p) ∙ e ∙ inside t u w q in
    let k : (p.inner ≡ q.inner) × (v.text ≡ w.text) × (r ≡ u) =
    same_inner p.inner q.inner v.text w.text r u p.text q.text (tails 34 34 (p.inner ++ 34 ∷ r) (q.inner ++ 34 ∷ u) f) in
    (p.whole ∙ ap (λ z. 34 ∷ (z ++ 34 ∷ [])) k.0 ∙ sym q.whole, k.2, k.1, p.quoted ∙ sym q.quoted)

same_token : (v w : Token) → v.text ≡ w.text → v.quoted ≡ w.quoted → v.start ≡ w.start → v.end ≡ w.end → v ≡ w
same_token v w t q s e = λ i. record { text = t i; quoted = q i; start = s i; end = e i }

same_begins : (at : ℕ) (v w : Token) (a r u : List ℕ) → Begins at v a r → Begins at w a u → (v ≡ w) × (r ≡ u)
same_begins at v w a r u b c =
    let k : (b.spelled ≡ c.spelled) × (r ≡ u) × (v.text ≡ w.text) × (v.quoted ≡ w.quoted) =
    same_spelled b.spelled c.spelled r u v w b.spells c.spells (sym b.whole ∙ c.whole) in
    (same_token v w k.2 k.3 (b.starts ∙ sym c.starts) (b.ends ∙ ap (λ z. at + length z) k.0 ∙ sym c.ends), k.1)

begins_full : (at : ℕ) (w : Token) (a r : List ℕ) → Begins at w a r → BeginsFull a
begins_full at w a r b = subst BeginsFull (sym b.whole) (full_front b.spelled r (spelled_full b.spelled r w b.spells))

same_first : (at : ℕ) (v w : Token) (a r u : List ℕ) → IsFirst at v a r → IsFirst at w a u → (v ≡ w) × (r ≡ u)
same_first at v w a r u f g =
    let k : (f.gap ≡ g.gap) × (f.after ≡ g.after) = same_gap f.gap g.gap f.after g.after f.blanks g.blanks
    (begins_full _ v f.after r f.begins) (begins_full _ w g.after u g.begins) (sym f.whole ∙ g.whole) in
    let there : Begins (at + length g.gap) v g.after r =
    subst (λ z. Begins (at + length z) v g.after r) k.0 (subst (λ z. Begins (at + length f.gap) v z r) k.1 f.begins) in
    same_begins (at + length g.gap) v w g.after r u there g.begins

no_word : (at : ℕ) (w : Token) (a r : List ℕ) → AreBlanks a → IsFirst at w a r → ⊥
no_word at w a r p f = not_blanks f.gap f.after (subst AreBlanks f.whole p) (begins_full _ w f.after r f.begins)

not_open : (at : ℕ) (w : Token) (a r : List ℕ) → IsFirst at w a r → OpensQuote a → ⊥
not_open at w a r f o =
    let k : (f.gap ≡ o.gap) × (f.after ≡ 34 ∷ o.rest) = same_gap f.gap o.gap f.after (34 ∷ o.rest) f.blanks o.blanks
    (begins_full _ w f.after r f.begins) (full_quote o.rest) (sym f.whole ∙ o.whole) in
    let b = f.begins in
    elim b.spells as (λ _. ⊥) [
      | inl p ↦ plain_front b.spelled r o.rest p.first (sym b.whole ∙ k.1)
      | inr q ↦ o.unclosed q.inner w.text r
          (tails 34 34 o.rest (q.inner ++ 34 ∷ r) (sym k.1 ∙ b.whole ∙ inside b.spelled r w q)) q.text
    ]

pub one_list : (at : ℕ) (a b : List Token) (bytes : List ℕ) → AreWords at a bytes → AreWords at b bytes → a ≡ b
one_list at [] [] bytes p q = refl
one_list at [] (w ∷ b) bytes p q = absurd (no_word at w bytes q.0 p q.1)
one_list at (v ∷ a) [] bytes p q = absurd (no_word at v bytes p.0 q p.1)
one_list at (v ∷ a) (w ∷ b) bytes p q =
    let k : (v ≡ w) × (p.0 ≡ q.0) = same_first at v w bytes p.0 q.0 p.1 q.1 in
    let there : AreWords w.end a q.0 = subst (λ z. AreWords w.end a z) k.1 (subst (λ z. AreWords z.end a p.0) k.0 p.2) in
    let more : a ≡ b = one_list w.end a b q.0 there q.2 in
    λ i. k.0 i ∷ more i

pub not_both : (at : ℕ) (a b : List Token) (bytes : List ℕ) → AreWords at a bytes → AreLeftOpen at b bytes → ⊥
not_both at [] [] bytes p o = not_blanks o.gap (34 ∷ o.rest) (subst AreBlanks o.whole p) (full_quote o.rest)
not_both at [] (w ∷ b) bytes p o = no_word at w bytes o.0 p o.1
not_both at (v ∷ a) [] bytes p o = not_open at v bytes p.0 p.1 o
not_both at (v ∷ a) (w ∷ b) bytes p o =
    let k : (v ≡ w) × (p.0 ≡ o.0) = same_first at v w bytes p.0 o.0 p.1 o.1 in
    let there : AreWords w.end a o.0 = subst (λ z. AreWords w.end a z) k.1 (subst (λ z. AreWords z.end a p.0) k.0 p.2) in
    not_both w.end a b o.0 there o.2
