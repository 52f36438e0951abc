-- Names in two pieces.
use Rattle.std.proofs.Common.{◌≡◌, ◌++◌, ◌<◌, ◌+◌, ℕ, List, [], ◌∷◌, Bool, true, false, not, ◌&&◌, length, take, get_or, refl, ap, sym, ◌∙◌, append_assoc, ◌==◌, ◌||◌, if◌then◌else◌, arith}
use Rattle.std.proofs.lemmas.List.{take_more}
use Rattle.std.specs.List.{list_all}
use Rattle.primitives.specs.Bytes.{is_plain_byte}
use Rattle.dump_print.specs.Names.{begins_plainly}
use Rattle.dump_print.specs.Spelling.{escaped}

escape_step : (quote : Bool) (x : ℕ) (a b c : List ℕ) → c ≡ a ++ b →
    (if quote then 92 ∷ x ∷ c else x ∷ c) ≡ (if quote then 92 ∷ x ∷ a else x ∷ a) ++ b
escape_step true x a b c e = ap (λ (l : List ℕ). 92 ∷ x ∷ l) e
escape_step false x a b c e = ap (λ (l : List ℕ). x ∷ l) e

pub escaped_joined : (a b : List ℕ) → escaped (a ++ b) ≡ escaped a ++ escaped b
escaped_joined [] b = refl
escaped_joined (x ∷ a) b = escape_step ((x == 34) || (x == 92)) x (escaped a) (escaped b) (escaped (a ++ b)) (escaped_joined a b)

and_assoc : (a b c d : Bool) → d ≡ (b && c) → (a && d) ≡ ((a && b) && c)
and_assoc true b c d e = e
and_assoc false b c d e = refl

pub all_joined : (a b : List ℕ) → list_all is_plain_byte (a ++ b) ≡ (list_all is_plain_byte a && list_all is_plain_byte b)
all_joined [] b = refl
all_joined (x ∷ a) b = and_assoc (is_plain_byte x) (list_all is_plain_byte a) (list_all is_plain_byte b) _ (all_joined a b)

pub begins_front : (a b : List ℕ) → 0 < length a → begins_plainly (a ++ b) ≡ begins_plainly a
begins_front [] b l = absurd (omega arith)
begins_front (x ∷ a) b l = refl

pub begins_end : (a b : List ℕ) → length a ≡ 0 → begins_plainly (a ++ b) ≡ begins_plainly b
begins_end [] b e = refl
begins_end (x ∷ a) b e = absurd (omega arith)

pub escaped_more : (xs : List ℕ) (i d : ℕ) → i < length xs → escaped (take (i + 1) xs) ≡ escaped (take i xs) ++ escaped (get_or xs i d ∷ [])
escaped_more xs i d l = ap escaped (take_more xs i d l) ∙ escaped_joined (take i xs) (get_or xs i d ∷ [])

quotes : (old a b : List ℕ) → (((old ++ 34 ∷ []) ++ a) ++ b) ++ 34 ∷ [] ≡ old ++ (34 ∷ ((a ++ b) ++ 34 ∷ []))
quotes old a b =
    append_assoc ((old ++ 34 ∷ []) ++ a) b (34 ∷ []) ∙ append_assoc (old ++ 34 ∷ []) a (b ++ 34 ∷ [])
    ∙ append_assoc old (34 ∷ []) (a ++ (b ++ 34 ∷ [])) ∙ ap (λ l. old ++ (34 ∷ l)) (sym (append_assoc a b (34 ∷ [])))

pub quoted_name : (is_bare : Bool) (old a b p0 p1 p2 p3 : List ℕ) → is_bare ≡ false → p0 ≡ old ++ 34 ∷ [] → p1 ≡ p0 ++ escaped a →
    p2 ≡ p1 ++ escaped b → p3 ≡ p2 ++ 34 ∷ [] → p3 ≡ old ++ (if not is_bare then 34 ∷ (escaped (a ++ b) ++ 34 ∷ []) else a ++ b)
quoted_name true old a b p0 p1 p2 p3 e h0 h1 h2 h3 = absurd (let wrong : true ≡ false = e in cc)
quoted_name false old a b p0 p1 p2 p3 e h0 h1 h2 h3 =
    h3 ∙ ap (λ l. l ++ 34 ∷ []) (h2 ∙ ap (λ l. l ++ escaped b) (h1 ∙ ap (λ l. l ++ escaped a) h0))
    ∙ quotes old (escaped a) (escaped b) ∙ ap (λ l. old ++ (34 ∷ (l ++ 34 ∷ []))) (sym (escaped_joined a b))
