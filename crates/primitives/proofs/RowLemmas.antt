-- The rows of a table, one after another.
use Rattle.std.proofs.Common.{◌≡◌, ◌∙◌, ◌++◌, ◌+◌, ◌<◌, ◌≤◌, ◌==◌, ℕ, List, [], ◌∷◌, Bool, true, false, length, drop, map, filter, take, get_or, codes, decimal, if◌then◌else◌, refl, ap, sym, append_assoc, eq-eqb}
use Rattle.std.proofs.lemmas.List.{append-nil, drop_all, drop_more, map_more}
use Rattle.std.proofs.lemmas.List.Concat.{flat_map-append}
use Rattle.std.specs.List.{join_by, flat_map}
use Rattle.primitives.specs.Holds.{has_bit}
use Rattle.primitives.specs.Tables.{Named, name_of, names_of}
use Rattle.primitives.specs.declared.tables.Word.{Word}
use Rattle.primitives.specs.inner.Rows.{named}
use Rattle.primitives.proofs.Growing.{grown}

-- ---- the name of a number
-- the next row has the number
pub named_here : (words : List Word) (i number : ℕ) (d : Word) → i < length words → (get_or words i d).number ≡ number →
    name_of (map named (drop i words)) number ≡ name_of (map named words) number → (get_or words i d).name.now ≡ name_of (map named words) number
named_here words i number d l e h =
    let rest : List ℕ = name_of (map named (drop (i + 1) words)) number in
    let here : (if (get_or words i d).number == number then (get_or words i d).name.now else rest) ≡ (get_or words i d).name.now =
    ap (λ b. if b then (get_or words i d).name.now else rest) (eq-eqb _ _ e) in
    sym here ∙ ap (λ ws. name_of (map named ws) number) (sym (drop_more words i d l)) ∙ h

-- no row has it
pub named_none : (words : List Word) (i number : ℕ) → length words ≤ i → name_of (map named (drop i words)) number ≡ name_of (map named words) number →
    decimal number ≡ name_of (map named words) number
named_none words i number l h = ap (λ ws. name_of (map named ws) number) (sym (drop_all i words l)) ∙ h

-- ---- the names of bits, with commas between them
abbrev pub is_nil : {A : Type 0} → List A → Bool
is_nil [] = true
is_nil (x ∷ xs) = false

abbrev commas : List (List ℕ) → List ℕ
commas xs = join_by (λ (name : List ℕ). name) (codes ",") xs

-- one part more
commas_push : (xs : List (List ℕ)) (y : List ℕ) → commas (xs ++ y ∷ []) ≡ commas xs ++ (if is_nil xs then y else 44 ∷ y)
commas_push [] y = append-nil y
commas_push (x ∷ xs) y =
    ap (λ l. x ++ l) (flat_map-append (λ (t : List ℕ). codes "," ++ t) xs (y ∷ []) ∙ ap (λ l. flat_map (λ (t : List ℕ). codes "," ++ t) xs ++ l) (append-nil (44 ∷ y)))
    ∙ sym (append_assoc x (flat_map (λ (t : List ℕ). codes "," ++ t) xs) (44 ∷ y))

is_nil_push : (xs : List (List ℕ)) (y : List ℕ) → is_nil (xs ++ y ∷ []) ≡ false
is_nil_push [] y = refl
is_nil_push (x ∷ xs) y = refl

names_cons : (here : Bool) (w : Named) (ws : List Named) (more rest : List (List ℕ)) →
    more ≡ map (λ (v : Named). v.name) ws ++ rest →
    (if here then w.name ∷ more else more) ≡ map (λ (v : Named). v.name) (if here then w ∷ ws else ws) ++ rest
names_cons true w ws more rest e = ap (λ l. w.name ∷ l) e
names_cons false w ws more rest e = e

here_last : (here : Bool) (w : Named) → map (λ (v : Named). v.name) (if here then w ∷ [] else []) ≡ (if here then w.name ∷ [] else [])
here_last true w = refl
here_last false w = refl

map_if : (here : Bool) (w : Named) (ws : List Named) →
    map (λ (v : Named). v.name) (if here then w ∷ ws else ws) ≡ (if here then w.name ∷ map (λ (v : Named). v.name) ws else map (λ (v : Named). v.name) ws)
map_if true w ws = refl
map_if false w ws = refl

names_push : (ws : List Named) (w : Named) (bits : ℕ) →
    names_of (ws ++ w ∷ []) bits ≡ names_of ws bits ++ (if has_bit bits w.number then w.name ∷ [] else [])
names_push [] w bits = here_last (has_bit bits w.number) w
names_push (v ∷ ws) w bits =
    map_if (has_bit bits v.number) v (filter (λ (u : Named). has_bit bits u.number) (ws ++ w ∷ []))
    ∙ names_cons (has_bit bits v.number) v (filter (λ (u : Named). has_bit bits u.number) ws) _ _ (names_push ws w bits)

-- a row adds its name where its bit is set
names_more : (rows : List Word) (bits i : ℕ) (d : Word) (here : Bool) → i < length rows → has_bit bits (get_or rows i d).number ≡ here →
    names_of (map named (take (i + 1) rows)) bits ≡ names_of (map named (take i rows)) bits ++ (if here then (get_or rows i d).name.now ∷ [] else [])
names_more rows bits i d here l e =
    ap (λ ws. names_of ws bits) (map_more named rows i d l) ∙ names_push (map named (take i rows)) (named (get_or rows i d)) bits
    ∙ ap (λ b. names_of (map named (take i rows)) bits ++ (if b then (get_or rows i d).name.now ∷ [] else [])) e

pub row_added : (rows : List Word) (bits i : ℕ) (d : Word) → i < length rows → has_bit bits (get_or rows i d).number ≡ true →
    names_of (map named (take (i + 1) rows)) bits ≡ names_of (map named (take i rows)) bits ++ (get_or rows i d).name.now ∷ []
row_added rows bits i d l e = names_more rows bits i d true l e

pub row_passed : (rows : List Word) (bits i : ℕ) (d : Word) → i < length rows → has_bit bits (get_or rows i d).number ≡ false →
    names_of (map named (take (i + 1) rows)) bits ≡ names_of (map named (take i rows)) bits
row_passed rows bits i d l e = names_more rows bits i d false l e ∙ append-nil (names_of (map named (take i rows)) bits)

pub part_added : (names more : List (List ℕ)) (part : List ℕ) (is_first : Bool) (old mid new : List ℕ) → more ≡ names ++ part ∷ [] → is_first ≡ is_nil names →
    mid ≡ old ++ commas names → new ≡ mid ++ (if is_first then part else 44 ∷ part) → (new ≡ old ++ commas more) × (false ≡ is_nil more)
part_added names more part is_first old mid new m f h k = (
  grown old (commas names) mid _ new _ h k (ap commas m ∙ commas_push names part ∙ ap (λ b. commas names ++ (if b then part else 44 ∷ part)) (sym f)),
  sym (ap is_nil m ∙ is_nil_push names part),
)

pub part_passed : (names more : List (List ℕ)) (is_first : Bool) (old mid : List ℕ) → more ≡ names → is_first ≡ is_nil names → mid ≡ old ++ commas names →
    (mid ≡ old ++ commas more) × (is_first ≡ is_nil more)
part_passed names more is_first old mid m f h = (h ∙ ap (λ ns. old ++ commas ns) (sym m), f ∙ ap is_nil (sym m))
