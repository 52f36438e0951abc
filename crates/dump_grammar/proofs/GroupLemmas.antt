-- What stands at the front of the words of a group.
use Rattle.std.proofs.Common.{◌≡◌, ◌≢◌, ◌∙◌, ◌++◌, ◌∷◌, [], ℕ, List, Bool, true, false, ◌&&◌, ◌||◌, not, Option, Some, None, Result, Ok, Err, IfSome, IfNone, IfOk, length, refl, sym, ap, subst, arith, codes}
use Rattle.std.specs.List.{AllByRecursion}
use Rattle.std.specs.Str.{bytes_eq}
use Rattle.std.proofs.lemmas.Slice.Eq.{bytes_eq-Decides}
use Rattle.dump_grammar.specs.ChainLines.{is_among}
use Rattle.dump_grammar.specs.Groups.{BeginsWithStop, Group, Base, Module, ModuleOption, IsGroup, IsOptionName, Takes, arity_in, arity_of, base_options, begins_with_dashes, mark_words, stops}
use Rattle.dump_grammar.specs.Lines.{Text, Word, bare, texts}

pub if_some : {A : Type 0} (r : Option A) (P Q : A → Type 0) → IfSome r P → ((x : A) → P x → Q x) → IfSome r Q
if_some None P Q p f = tt
if_some (Some x) P Q p f = f x p

pub if_none : {A : Type 0} (r : Option A) (P Q : Type 0) → IfNone r P → (P → Q) → IfNone r Q
if_none None P Q p f = f p
if_none (Some x) P Q p f = tt

same_text : (x y : Text) → bare x ≡ bare y → x ≡ y
same_text x y e = ap (λ (w : Word). w.text) e

pub mark_once : (a b : Bool) (x y : Text) (xs ys : List Word) → x ≢ codes "!" → y ≢ codes "!"
    → mark_words a ++ bare x ∷ xs ≡ mark_words b ++ bare y ∷ ys → (a ≡ b) × (x ≡ y) × (xs ≡ ys)
mark_once true true x y xs ys p q e = (refl, same_text x y (let h : bare x ≡ bare y = cc in h), let h : xs ≡ ys = cc in h)
mark_once true false x y xs ys p q e = absurd (q (sym (same_text (codes "!") y (let h : bare (codes "!") ≡ bare y = cc in h))))
mark_once false true x y xs ys p q e = absurd (p (same_text x (codes "!") (let h : bare x ≡ bare (codes "!") = cc in h)))
mark_once false false x y xs ys p q e = (refl, same_text x y (let h : bare x ≡ bare y = cc in h), let h : xs ≡ ys = cc in h)

base_mark : (o : Text) → is_among base_options o ≡ true → o ≢ codes "!"
base_mark o h same = let f : false ≡ true = subst (λ (t : Text). is_among base_options t ≡ true) same h in cc

option_mark : (o : Text) → IsOptionName o → o ≢ codes "!"
option_mark o h same = let f : false ≡ true = subst (λ (t : Text). begins_with_dashes t ≡ true) same h.0 in cc

module_mark : (o : Text) → o ≡ codes "-m" → o ≢ codes "!"
module_mark o is same = let f : codes "-m" ≡ codes "!" = sym is ∙ same in cc

abbrev none_dashed : List Text → Bool
none_dashed [] = true
none_dashed (name ∷ names) = not (begins_with_dashes name) && none_dashed names

among_plain : (names : List Text) (o : Text) → none_dashed names ≡ true → is_among names o ≡ true → begins_with_dashes o ≡ false
among_plain [] o h is = let f : false ≡ true = is in cc
among_plain (name ∷ names) o h is = by_cases (bytes_eq name o) refl (λ k. among_plain names o (grind (arith, h)) k) is
  where
    by_cases : (b : Bool) → bytes_eq name o ≡ b → (is_among names o ≡ true → begins_with_dashes o ≡ false) → (b || is_among names o) ≡ true
        → begins_with_dashes o ≡ false
    by_cases true e more k = subst (λ (t : Text). begins_with_dashes t ≡ false) ((bytes_eq-Decides name o).0 e) (grind (arith, h))
    by_cases false e more k = more k

base_plain : (o : Text) → is_among base_options o ≡ true → IsOptionName o → ⊥
base_plain o is name = let e = among_plain base_options o refl is in let f : false ≡ true = sym e ∙ name.0 in cc

module_no_base : (o : Text) → o ≡ codes "-m" → is_among base_options o ≡ true → ⊥
module_no_base o is h = let f : false ≡ true = subst (λ (t : Text). is_among base_options t ≡ true) is h in cc

module_no_option : (o : Text) → o ≡ codes "-m" → IsOptionName o → ⊥
module_no_option o is h = let f : false ≡ true = subst (λ (t : Text). begins_with_dashes t ≡ true) is h.0 in cc

-- a group begins with an unquoted word that is no `!`, after one at most
pub group_front : (current : Option Text) (words : List Word) (g : Group) (rest : List Word) → IsGroup current words g rest
    → (negated : Bool) × (option : Text) × (more : List Word) × (option ≢ codes "!") × (words ≡ mark_words negated ++ bare option ∷ more)
group_front current words (Base negated option arguments) rest is = (negated, option, is.0 ++ rest, base_mark option is.1.1, is.1.0)
group_front current words (Module name) rest is = (false, codes "-m", is.0 ∷ rest, module_mark (codes "-m") refl, is.1.0)
group_front current words (ModuleOption named negated option arguments) rest is = (negated, option, is.0 ++ rest, option_mark option is.1.2, is.1.0)

-- words are parted in one way by how many come first
cut_once : (a b x y : List Word) → a ++ b ≡ x ++ y → length a ≡ length x → (a ≡ x) × (b ≡ y)
cut_once [] b [] y e long = (refl, e)
cut_once [] b (z ∷ x) y e long = absurd (omega (arith, long))
cut_once (z ∷ a) b [] y e long = absurd (omega (arith, long))
cut_once (z ∷ a) b (w ∷ x) y e long =
    let rest = cut_once a b x y (let h : a ++ b ≡ x ++ y = cc in h) (omega (arith, long)) in
    (let h : z ≡ w = cc in let f = rest.0 in cc, rest.1)

stopped : (b x y : List Word) (z : Word) → b ≡ z ∷ (x ++ y) → stops z ≡ false → BeginsWithStop b → ⊥
stopped b x y z e pass stop = let f : stops z ≡ true = subst BeginsWithStop e stop in let g : false ≡ true = sym pass ∙ f in cc

-- words are parted in one way by the first that stops an option
run_once : (a b x y : List Word) → a ++ b ≡ x ++ y → AllByRecursion (λ w. stops w ≡ false) a → BeginsWithStop b
    → AllByRecursion (λ w. stops w ≡ false) x → BeginsWithStop y → (a ≡ x) × (b ≡ y)
run_once [] b [] y e p s q t = (refl, e)
run_once [] b (z ∷ x) y e p s q t = absurd (stopped b x y z e q.0 s)
run_once (z ∷ a) b [] y e p s q t = absurd (stopped y a b z (sym e) p.0 t)
run_once (z ∷ a) b (w ∷ x) y e p s q t =
    let rest = run_once a b x y (let h : a ++ b ≡ x ++ y = cc in h) p.1 s q.1 t in
    (let h : z ≡ w = cc in let f = rest.0 in cc, rest.1)

takes_once : (arity : Option ℕ) (a b x y : List Word) → a ++ b ≡ x ++ y → Takes arity a b → Takes arity x y → (a ≡ x) × (b ≡ y)
takes_once (Some count) a b x y e p q = cut_once a b x y e (p ∙ sym q)
takes_once None a b x y e p q = run_once a b x y e p.0 p.1 q.0 q.1

some_once : (m n : ℕ) (r s : Option ℕ) → r ≡ s → r ≡ Some m → s ≡ Some n → m ≡ n
some_once m n r s e f g = let h : Some m ≡ Some n = sym f ∙ e ∙ g in cc

-- words begin with at most one group
pub one_group : (current : Option Text) (words : List Word) (g : Group) (rest : List Word) (h : Group) (end : List Word)
    → IsGroup current words g rest → IsGroup current words h end → (g ≡ h) × (rest ≡ end)
one_group current words (Base n o a) rest (Base m p b) end is same =
    let once = mark_once n m o p (is.0 ++ rest) (same.0 ++ end) (base_mark o is.1.1) (base_mark p same.1.1) (sym is.1.0 ∙ same.1.0) in
    let long = some_once (length is.0) (length same.0) _ _ (ap (arity_of []) once.1) is.1.2 same.1.2 in
    let cut = cut_once is.0 rest same.0 end once.2 long in
    let args : a ≡ b = sym is.1.3 ∙ ap texts cut.0 ∙ same.1.3 in
    let mark = once.0 in
    let name = once.1 in
    (cc, cut.1)
one_group current words (Base n o a) rest (Module name) end is same =
    let once = mark_once n false o (codes "-m") (is.0 ++ rest) (same.0 ∷ end) (base_mark o is.1.1) (module_mark (codes "-m") refl) (sym is.1.0 ∙ same.1.0) in
    absurd (module_no_base o once.1 is.1.1)
one_group current words (Base n o a) rest (ModuleOption k m p b) end is same =
    let once = mark_once n m o p (is.0 ++ rest) (same.0 ++ end) (base_mark o is.1.1) (option_mark p same.1.2) (sym is.1.0 ∙ same.1.0) in
    absurd (base_plain o is.1.1 (subst IsOptionName (sym once.1) same.1.2))
one_group current words (Module name) rest (Base m p b) end is same =
    let once = mark_once false m (codes "-m") p (is.0 ∷ rest) (same.0 ++ end) (module_mark (codes "-m") refl) (base_mark p same.1.1) (sym is.1.0 ∙ same.1.0) in
    absurd (module_no_base p (sym once.1) same.1.1)
one_group current words (Module name) rest (Module other) end is same =
    let once = mark_once false false (codes "-m") (codes "-m") (is.0 ∷ rest) (same.0 ∷ end) (module_mark (codes "-m") refl) (module_mark (codes "-m") refl) (sym is.1.0 ∙ same.1.0) in
    let e = once.2 in
    let word : is.0 ≡ same.0 = cc in
    let named : name ≡ other = sym is.1.1 ∙ ap (λ (w : Word). w.text) word ∙ same.1.1 in
    (ap Module named, let f : rest ≡ end = cc in f)
one_group current words (Module name) rest (ModuleOption k m p b) end is same =
    let once = mark_once false m (codes "-m") p (is.0 ∷ rest) (same.0 ++ end) (module_mark (codes "-m") refl) (option_mark p same.1.2) (sym is.1.0 ∙ same.1.0) in
    absurd (module_no_option p (sym once.1) same.1.2)
one_group current words (ModuleOption c n o a) rest (Base m p b) end is same =
    let once = mark_once n m o p (is.0 ++ rest) (same.0 ++ end) (option_mark o is.1.2) (base_mark p same.1.1) (sym is.1.0 ∙ same.1.0) in
    absurd (base_plain p same.1.1 (subst IsOptionName once.1 is.1.2))
one_group current words (ModuleOption c n o a) rest (Module name) end is same =
    let once = mark_once n false o (codes "-m") (is.0 ++ rest) (same.0 ∷ end) (option_mark o is.1.2) (module_mark (codes "-m") refl) (sym is.1.0 ∙ same.1.0) in
    absurd (module_no_option o once.1 is.1.2)
one_group current words (ModuleOption c n o a) rest (ModuleOption k m p b) end is same =
    let once = mark_once n m o p (is.0 ++ rest) (same.0 ++ end) (option_mark o is.1.2) (option_mark p same.1.2) (sym is.1.0 ∙ same.1.0) in
    let cut = takes_once (arity_in current o) is.0 rest same.0 end once.2 is.1.3 (subst (λ (t : Text). Takes (arity_in current t) same.0 end) (sym once.1) same.1.3) in
    let args : a ≡ b = sym is.1.4 ∙ ap texts cut.0 ∙ same.1.4 in
    let mark = once.0 in
    let name = once.1 in
    let now : c ≡ k = is.1.1 ∙ sym same.1.1 in
    (cc, cut.1)

-- what follows where nothing is found
pub ok_none : {A E : Type 0} (r : Result (Option A) E) (P Q : Type 0) → IfOk r (λ o. IfNone o P) → (P → Q) → IfOk r (λ o. IfNone o Q)
ok_none (Ok o) P Q p f = if_none o P Q p f
ok_none (Err e) P Q p f = tt

-- what follows of what is found
pub ok_some : {A E : Type 0} (r : Result (Option A) E) (P Q : A → Type 0) → IfOk r (λ o. IfSome o P) → ((x : A) → P x → Q x) → IfOk r (λ o. IfSome o Q)
ok_some (Ok o) P Q p f = if_some o P Q p f
ok_some (Err e) P Q p f = tt
