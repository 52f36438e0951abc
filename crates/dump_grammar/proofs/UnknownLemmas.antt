-- The text of a group that isn't understood, put together from its front.
use Rattle.std.proofs.Common.{◌≡◌, ◌∙◌, ◌++◌, ◌∷◌, [], List, refl, sym, ap, append_assoc, append-nil}
use Rattle.std.specs.List.{flat_map, join_with_byte}
use Rattle.std.proofs.lemmas.Grind.{flat_map-append}
use Rattle.dump_grammar.specs.Lines.{Text}

abbrev pub ended : List Text → Text
ended ts = flat_map (λ (t : Text). t ++ 32 ∷ []) ts

abbrev pub begun : List Text → Text
begun ts = flat_map (λ (t : Text). 32 ∷ t) ts

joined_rest : (o : Text) (as' : List Text) → join_with_byte 32 (o ∷ as') ≡ o ++ begun as'
joined_rest o [] = sym (append-nil o)
joined_rest o (a ∷ as') = ap (λ (t : Text). o ++ (32 ∷ t)) (joined_rest a as')

joined_front : (xs : List Text) (o : Text) (as' : List Text) → join_with_byte 32 (xs ++ o ∷ as') ≡ ended xs ++ join_with_byte 32 (o ∷ as')
joined_front [] o as' = refl
joined_front (x ∷ []) o as' = let j = join_with_byte 32 (o ∷ as') in
    let e : ((x ++ 32 ∷ []) ++ []) ++ j ≡ x ++ (32 ∷ j) = ap (λ (t : Text). t ++ j) (append-nil (x ++ 32 ∷ [])) ∙ append_assoc x (32 ∷ []) j in sym e
joined_front (x ∷ y ∷ xs) o as' = let j = join_with_byte 32 (o ∷ as') in
    let e : ((x ++ 32 ∷ []) ++ ended (y ∷ xs)) ++ j ≡ x ++ (32 ∷ (ended (y ∷ xs) ++ j)) =
    append_assoc (x ++ 32 ∷ []) (ended (y ∷ xs)) j ∙ append_assoc x (32 ∷ []) (ended (y ∷ xs) ++ j) in
    ap (λ (t : Text). x ++ (32 ∷ t)) (joined_front (y ∷ xs) o as') ∙ sym e

-- the parts that are put together one after another are the whole
pub joined_is : (a b c d e : Text) (ms ks : List Text) (o : Text) (as' : List Text) → a ≡ [] → b ≡ a ++ ended ms → c ≡ b ++ ended ks → d ≡ c ++ o
    → e ≡ d ++ begun as' → e ≡ join_with_byte 32 (ms ++ (ks ++ o ∷ as'))
joined_is a b c d e ms ks o as' f0 f1 f2 f3 f4 =
    f4 ∙ ap (λ (t : Text). t ++ begun as') (f3 ∙ ap (λ (t : Text). t ++ o) (f2 ∙ ap (λ (t : Text). t ++ ended ks) (f1 ∙ ap (λ (t : Text). t ++ ended ms) f0)))
    ∙ append_assoc (ended ms ++ ended ks) o (begun as')
    ∙ ap (λ (t : Text). t ++ (o ++ begun as')) (sym (flat_map-append (λ (t : Text). t ++ 32 ∷ []) ms ks))
    ∙ ap (λ (t : Text). ended (ms ++ ks) ++ t) (sym (joined_rest o as'))
    ∙ sym (joined_front (ms ++ ks) o as')
    ∙ ap (join_with_byte 32) (append_assoc ms ks (o ∷ as'))
