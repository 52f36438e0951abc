-- Some words are groups and a target in one way.
use Rattle.std.proofs.Common.{◌≡◌, ◌∙◌, ◌++◌, ◌∷◌, [], List, Bool, true, false, Option, refl, sym, ap, subst, codes, inl, inr}
use Rattle.dump_grammar.specs.ChainLines.{is_among}
use Rattle.dump_grammar.specs.Groups.{AreGroups, EndsGroups, Group, Base, Module, ModuleOption, IsGroup, IsOptionName, base_options, begins_with_dashes, current_after, mark_words}
use Rattle.dump_grammar.specs.Lines.{Text, Word, bare}
use Rattle.dump_grammar.proofs.GroupLemmas.{one_group}

no_end : (negated : Bool) (o : Text) (ws : List Word) → (o ≡ codes "-j" → ⊥) → (o ≡ codes "-g" → ⊥) → EndsGroups (mark_words negated ++ bare o ∷ ws) → ⊥
no_end true o ws p q (inl e) = let f : codes "!" ≡ codes "-j" = ap (λ (w : Word). w.text) e in cc
no_end true o ws p q (inr e) = let f : codes "!" ≡ codes "-g" = ap (λ (w : Word). w.text) e in cc
no_end false o ws p q (inl e) = p (ap (λ (w : Word). w.text) e)
no_end false o ws p q (inr e) = q (ap (λ (w : Word). w.text) e)

base_no : (o target : Text) → is_among base_options o ≡ true → is_among base_options target ≡ false → o ≡ target → ⊥
base_no o target h e same = let f : false ≡ true = sym e ∙ subst (λ (t : Text). is_among base_options t ≡ true) same h in cc

option_no : (o target : Text) → IsOptionName o → begins_with_dashes target ≡ false → o ≡ target → ⊥
option_no o target h e same = let f : false ≡ true = sym e ∙ subst (λ (t : Text). begins_with_dashes t ≡ true) same h.0 in cc

module_no : (target : Text) → is_among (codes "-m" ∷ []) target ≡ false → codes "-m" ≡ target → ⊥
module_no target e same = let f : false ≡ true = sym e ∙ subst (λ (t : Text). is_among (codes "-m" ∷ []) t ≡ true) same refl in cc

ends_no_group : (current : Option Text) (words : List Word) (g : Group) (rest : List Word) → IsGroup current words g rest → EndsGroups words → ⊥
ends_no_group current words (Base n o a) rest is ends =
    no_end n o (is.0 ++ rest) (base_no o (codes "-j") is.1.1 refl) (base_no o (codes "-g") is.1.1 refl) (subst EndsGroups is.1.0 ends)
ends_no_group current words (Module name) rest is ends =
    no_end false (codes "-m") (is.0 ∷ rest) (module_no (codes "-j") refl) (module_no (codes "-g") refl) (subst EndsGroups is.1.0 ends)
ends_no_group current words (ModuleOption m n o a) rest is ends =
    no_end n o (is.0 ++ rest) (option_no o (codes "-j") is.1.2 refl) (option_no o (codes "-g") is.1.2 refl) (subst EndsGroups is.1.0 ends)

pub one_division_of : (current : Option Text) (words : List Word) (groups others : List Group) (target end : List Word) → AreGroups current words groups target
    → EndsGroups target → AreGroups current words others end → EndsGroups end → (groups ≡ others) × (target ≡ end)
one_division_of current words [] [] target end a p b q = (refl, sym a ∙ b)
one_division_of current words [] (h ∷ hs) target end a p b q =
    absurd (ends_no_group current words h b.0 b.1.0 (subst EndsGroups (sym a) p))
one_division_of current words (g ∷ gs) [] target end a p b q =
    absurd (ends_no_group current words g a.0 a.1.0 (subst EndsGroups (sym b) q))
one_division_of current words (g ∷ gs) (h ∷ hs) target end a p b q =
    let one = one_group current words g a.0 h b.0 a.1.0 b.1.0 in
    let moved = subst (λ (c : Option Text). AreGroups c b.0 hs end) (ap (current_after current) (sym one.0)) b.1.1 in
    let same = subst (λ (ws : List Word). AreGroups (current_after current g) ws hs end) (sym one.1) moved in
    let rest = one_division_of (current_after current g) a.0 gs hs target end a.1.1 p same q in
    let first = one.0 in
    let more = rest.0 in
    (cc, rest.1)
