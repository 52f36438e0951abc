-- The values that arguments give to a field, one argument after the other.
use Rattle.std.proofs.Common.{◌≡◌, ◌∙◌, ◌++◌, ◌+◌, ◌<◌, ◌≤◌, refl, sym, ap, ℕ, List, [], ◌∷◌, Option, None, Some, Bor, map, take, drop, length, get_or, take-append-drop, append-nil, true, false, subst, option_map}
use Rattle.std.proofs.lemmas.List.{map-append, take_all, take_more}
use Rattle.std.proofs.lemmas.List.Elements.{filter_map-append}
use Rattle.std.specs.List.{cons_option}
use Rattle.std.specs.Option.{IfNone, ok_or, option_to_list}
use Rattle.std.specs.Prelude.{Err, Ok, OnErr, Result, is_some}
use Rattle.request.specs.Fields.{Given, HasTwo, value_after, values_of}

abbrev Texts : Type 0
Texts = List (Bor (List ℕ))

abbrev texts : Texts → List (List ℕ)
texts arguments = map (λ s. s.now) arguments

one_of : (o : Option (List ℕ)) → cons_option o [] ≡ option_to_list o
one_of None = refl
one_of (Some value) = refl

one_value : (field argument : List ℕ) → values_of field (argument ∷ []) ≡ option_to_list (value_after field argument)
unfolding values_of
one_value field argument = one_of (value_after field argument)

-- one argument more
pub values_more : (field : List ℕ) (arguments : Texts) (i : ℕ) (d : Bor (List ℕ)) → i < length arguments
    → values_of field (texts (take (i + 1) arguments)) ≡ values_of field (texts (take i arguments)) ++ option_to_list (value_after field ((get_or arguments i d).now))
unfolding values_of
values_more field arguments i d inside =
    let x = get_or arguments i d in
    ap (λ (xs : Texts). values_of field (texts xs)) (take_more arguments i d inside)
    ∙ ap (values_of field) (map-append (λ (s : Bor (List ℕ)). s.now) (take i arguments) (x ∷ []))
    ∙ filter_map-append (value_after field) (texts (take i arguments)) (x.now ∷ [])
    ∙ ap (λ (vs : List (List ℕ)). values_of field (texts (take i arguments)) ++ vs) (one_value field x.now)

-- what a step of the search finds
pub step : (field : List ℕ) (arguments : Texts) (i : ℕ) (d : Bor (List ℕ)) (text : List ℕ) (values : List (List ℕ)) (o : Option (List ℕ)) → i < length arguments
    → text ≡ (get_or arguments i d).now → o ≡ value_after field text → values_of field (texts (take i arguments)) ≡ values
    → values_of field (texts (take (i + 1) arguments)) ≡ values ++ option_to_list o
step field arguments i d text values o inside here value is =
    values_more field arguments i d inside ∙ ap (λ (vs : List (List ℕ)). vs ++ option_to_list (value_after field ((get_or arguments i d).now))) is
    ∙ ap (λ (t : List ℕ). values ++ option_to_list (value_after field t)) (sym here) ∙ ap (λ (v : Option (List ℕ)). values ++ option_to_list v) (sym value)

-- the texts behind an option
abbrev pub texts_in : Option (Bor (List ℕ)) → List (List ℕ)
texts_in o = option_to_list (option_map (λ (s : Bor (List ℕ)). s.now) o)

-- a first value is kept
pub first_kept : (before now given : Option (Bor (List ℕ))) (values : List (List ℕ)) → is_some before ≡ false → given ≡ now
    → values ≡ texts_in before ++ texts_in given → values ≡ texts_in now
first_kept None now given values none same is = is ∙ ap texts_in same
first_kept (Some s) now given values none same is = absurd (cc)

-- what was found stays where the argument gives no value
pub none_more : (before now given : Option (Bor (List ℕ))) (values : List (List ℕ)) → given ≡ None → now ≡ before
    → values ≡ texts_in before ++ texts_in given → values ≡ texts_in now
none_more before now given values none same is =
    is ∙ ap (λ (o : Option (Bor (List ℕ))). texts_in before ++ texts_in o) none ∙ append-nil (texts_in before) ∙ ap texts_in (sym same)

-- two values stay
two_stay : (field : List ℕ) (arguments : Texts) (n : ℕ) (a b : List ℕ) → values_of field (texts (take n arguments)) ≡ a ∷ b ∷ [] → HasTwo (values_of field (texts arguments))
unfolding values_of
two_stay field arguments n a b is =
    let rest = texts (drop n arguments) in (
      a,
      b,
      values_of field rest,
      ap (λ (xs : Texts). values_of field (texts xs)) (sym (take-append-drop n arguments))
          ∙ ap (values_of field) (map-append (λ (s : Bor (List ℕ)). s.now) (take n arguments) (drop n arguments))
          ∙ filter_map-append (value_after field) (texts (take n arguments)) rest
          ∙ ap (λ (vs : List (List ℕ)). vs ++ values_of field rest) is,
    )

-- a second value is one too many
pub second_found : (field : List ℕ) (arguments : Texts) (n : ℕ) (before given : Option (Bor (List ℕ))) (s : Bor (List ℕ)) → is_some before ≡ true → given ≡ Some s
    → values_of field (texts (take n arguments)) ≡ texts_in before ++ texts_in given → HasTwo (values_of field (texts arguments))
second_found field arguments n None given s some found is = absurd (cc)
second_found field arguments n (Some t) given s some found is =
    two_stay field arguments n t.now s.now (is ∙ ap (λ (o : Option (Bor (List ℕ))). t.now ∷ texts_in o) found)

-- a value that says nothing leaves the field without a meaning
pub says_nothing : {A : Type 0} (Says : List ℕ → A → Type 0) (default : A) (values : List (List ℕ)) (value : List ℕ) → values ≡ value ∷ []
    → ((x : A) → Says value x → ⊥) → (x : A) → Given Says default values x → ⊥
says_nothing Says default values value is none x given = none x (subst (λ (vs : List (List ℕ)). Given Says default vs x) is given)

pub values_all : (field : List ℕ) (arguments : Texts) (i : ℕ) (values : List (List ℕ)) → length arguments ≤ i → values_of field (texts (take i arguments)) ≡ values
    → values_of field (texts arguments) ≡ values
values_all field arguments i values all is = ap (λ (xs : Texts). values_of field (texts xs)) (sym (take_all i arguments all)) ∙ is

pub no_values : (field : List ℕ) → values_of field [] ≡ []
unfolding values_of
no_values field = refl

-- nor does one that isn't read
pub not_said : {E : Type 0} (Says : List ℕ → ℕ → Type 0) (default : ℕ) (values : List (List ℕ)) (value : List ℕ) (o : Option ℕ) (e : E) (r : Result ℕ E) → values ≡ value ∷ []
    → IfNone o ((x : ℕ) → Says value x → ⊥) → r ≡ ok_or o e → OnErr r ((x : ℕ) → Given Says default values x → ⊥)
not_said Says default values value (Some n) e (Ok x) is none from = tt
not_said Says default values value (Some n) e (Err f) is none from = absurd (cc)
not_said Says default values value None e (Ok x) is none from = absurd (cc)
not_said Says default values value None e (Err f) is none from = says_nothing Says default values value is none
