-- Names of which none stands twice.
use Rattle.std.proofs.Common.{◌≡◌, Bool, true, false, not, ◌&&◌, ◌||◌, List, [], ◌∷◌, ◌++◌, refl, sym, ◌∙◌}
use Rattle.std.specs.Str.{bytes_eq}
use Rattle.std.proofs.lemmas.Slice.Eq.{bytes_eq-Decides}
use Rattle.std.proofs.lemmas.List.Folds.{list_any-append}
use Rattle.dump_grammar.specs.Lines.{Text}
use Rattle.dump_grammar.specs.ChainLines.{is_among}
use Rattle.dump_grammar.specs.Groups.{all_differ}

pub and_left : (a b : Bool) → (a && b) ≡ true → a ≡ true
and_left true b h = refl
and_left false b h = h

pub and_right : (a b : Bool) → (a && b) ≡ true → b ≡ true
and_right true b h = h
and_right false b h = cc

pub or_left : (a b : Bool) → (a || b) ≡ false → a ≡ false
or_left true b h = h
or_left false b h = refl

pub or_right : (a b : Bool) → (a || b) ≡ false → b ≡ false
or_right true b h = cc
or_right false b h = h

pub not_true : (a : Bool) → not a ≡ true → a ≡ false
not_true true h = cc
not_true false h = refl

pub same_bytes : (a b : Text) → bytes_eq a b ≡ true → a ≡ b
same_bytes a b h = (bytes_eq-Decides a b).0 h

pub bytes_same : (a b : Text) → a ≡ b → bytes_eq a b ≡ true
bytes_same a b h = (bytes_eq-Decides a b).1 h

flip : (a b : Text) (x y : Bool) → bytes_eq a b ≡ x → bytes_eq b a ≡ y → x ≡ y
flip a b true true p q = refl
flip a b false false p q = refl
flip a b true false p q = sym (bytes_same b a (sym (same_bytes a b p))) ∙ q
flip a b false true p q = sym p ∙ bytes_same a b (sym (same_bytes b a q))

pub bytes_flip : (a b : Text) → bytes_eq a b ≡ bytes_eq b a
bytes_flip a b = flip a b (bytes_eq a b) (bytes_eq b a) refl refl

both : (a b : Bool) → a ≡ true → b ≡ true → (a && b) ≡ true
both a b p q = cc

either : (a b : Bool) → a ≡ false → b ≡ false → (a || b) ≡ false
either a b p q = cc

nots : (a : Bool) → a ≡ false → not a ≡ true
nots a p = cc

-- a name that isn't among names that differ goes behind them
pub differ_push : (ns : List Text) (n : Text) → all_differ ns ≡ true → is_among ns n ≡ false → all_differ (ns ++ n ∷ []) ≡ true
differ_push [] n h k = refl
differ_push (x ∷ ns) n h k =
    let first : is_among ns x ≡ false = not_true (is_among ns x) (and_left (not (is_among ns x)) (all_differ ns) h) in
    let more : all_differ (ns ++ n ∷ []) ≡ true = differ_push ns n (and_right (not (is_among ns x)) (all_differ ns) h) (or_right (bytes_eq x n) (is_among ns n) k) in
    let other : bytes_eq n x ≡ false = bytes_flip n x ∙ or_left (bytes_eq x n) (is_among ns n) k in
    let last : is_among (ns ++ n ∷ []) x ≡ false = list_any-append (λ name. bytes_eq name x) ns (n ∷ []) ∙ either (is_among ns x) (bytes_eq n x || false) first (either (bytes_eq n x) false other refl) in
    both (not (is_among (ns ++ n ∷ []) x)) (all_differ (ns ++ n ∷ [])) (nots (is_among (ns ++ n ∷ []) x) last) more

-- of names that differ none stands among those before it
pub differ_middle : (xs : List Text) (y : Text) (zs : List Text) → all_differ (xs ++ y ∷ zs) ≡ true → is_among xs y ≡ false
differ_middle [] y zs h = refl
differ_middle (x ∷ xs) y zs h =
    let all : is_among (xs ++ y ∷ zs) x ≡ false = not_true (is_among (xs ++ y ∷ zs) x) (and_left (not (is_among (xs ++ y ∷ zs) x)) (all_differ (xs ++ y ∷ zs)) h) in
    let part : (is_among xs x || (bytes_eq y x || is_among zs x)) ≡ false = sym (list_any-append (λ name. bytes_eq name x) xs (y ∷ zs)) ∙ all in
    let there : bytes_eq y x ≡ false = or_left (bytes_eq y x) (is_among zs x) (or_right (is_among xs x) (bytes_eq y x || is_among zs x) part) in
    either (bytes_eq x y) (is_among xs y) (bytes_flip x y ∙ there)
    (differ_middle xs y zs (and_right (not (is_among (xs ++ y ∷ zs) x)) (all_differ (xs ++ y ∷ zs)) h))

-- what a test of two texts says
pub same_tested : (a b c : Text) → false ≡ not (bytes_eq a b) → b ≡ c → a ≡ c
same_tested a b c h e = same_bytes a b (not_false (bytes_eq a b) h) ∙ e
  where
    not_false : (t : Bool) → false ≡ not t → t ≡ true
    not_false true h = refl
    not_false false h = cc

pub differ_tested : (a b c : Text) → true ≡ not (bytes_eq a b) → b ≡ c → a ≡ c → ⊥
differ_tested a b c h e d = by (bytes_eq a b) h (bytes_same a b (d ∙ sym e))
  where
    by : (t : Bool) → true ≡ not t → t ≡ true → ⊥
    by true h k = cc
    by false h k = cc
