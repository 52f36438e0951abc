-- A text spells one protocol, and a line names one.
use Rattle.std.proofs.Common.{◌≡◌, ◌∙◌, ◌≤◌, ◌<◌, ◌+◌, ◌++◌, ℕ, zero, suc, List, [], ◌∷◌, Bool, true, false, ◌&&◌, not, Some, refl, sym, ap, subst, arith, codes, inl, inr, ◌⊎◌, decimal, get_or, length, take, Contains}
use Rattle.std.proofs.lemmas.List.{map-append, take_all, take_more}
use Rattle.std.proofs.lemmas.List.Elements.{Contains-append_cases}
use Rattle.std.proofs.lemmas.Slice.Eq.{bytes_eq-Decides}
use Rattle.primitives.specs.Ports.{HasPorts}
use Rattle.primitives.proofs.WordLemmas.{proto_once}
use Rattle.primitives.specs.Words.{SpellsProto}
use Rattle.dump_grammar.specs.declared.grouping.GroupWords.{GroupWords}
use Rattle.dump_grammar.specs.Arguments.{LineProtocol}
use Rattle.dump_grammar.specs.ChainLines.{is_among}
use Rattle.dump_grammar.specs.GroupWords.{group_of, groups_of}
use Rattle.dump_grammar.specs.Groups.{Group, Base, Module, ModuleOption, all_differ, base_of}
use Rattle.dump_grammar.specs.Lines.{Text}
use Rattle.dump_grammar.proofs.BaseLemmas.{same_only}

contains_cases : (g : Group) (gs : List Group) (x : Group) → Contains (g ∷ gs) x → (g ≡ x) ⊎ Contains gs x
contains_cases g gs x (zero, inside, is) = inl is
contains_cases g gs x (suc k, inside, is) = inr (k, omega (arith, inside), is)

in_base : (gs : List Group) (n : Bool) (o : Text) (a : List Text) → Contains gs (Base n o a) → is_among (base_of gs) o ≡ true
in_base [] n o a has = let f = has.1 in absurd (omega (arith, f))
in_base (g ∷ gs) n o a has = by_cases g (contains_cases g gs (Base n o a) has) (in_base gs n o a)
  where
    by_cases : (g : Group) → (g ≡ Base n o a) ⊎ Contains gs (Base n o a) → (Contains gs (Base n o a) → is_among (base_of gs) o ≡ true) → is_among (base_of (g ∷ gs)) o ≡ true
    by_cases (Base m p b) (inl is) rest = let e : p ≡ o = cc in let f = (bytes_eq-Decides p o).1 e in grind (arith, f)
    by_cases (Base m p b) (inr has) rest = let e = rest has in grind (arith, e)
    by_cases (Module name) (inl is) rest = cc
    by_cases (Module name) (inr has) rest = rest has
    by_cases (ModuleOption c m p b) (inl is) rest = cc
    by_cases (ModuleOption c m p b) (inr has) rest = rest has

rest_differs : (g : Group) (gs : List Group) → all_differ (base_of (g ∷ gs)) ≡ true → all_differ (base_of gs) ≡ true
rest_differs (Base n o a) gs h = grind (arith, h)
rest_differs (Module name) gs h = h
rest_differs (ModuleOption c n o a) gs h = h

not_twice : (gs : List Group) (g : Group) (n m : Bool) (o : Text) (a b : List Text) → all_differ (base_of (g ∷ gs)) ≡ true → g ≡ Base n o a → Contains gs (Base m o b) → ⊥
not_twice gs g n m o a b h is has =
    let twice = in_base gs m o b has in
    let once : (not (is_among (base_of gs) o) && all_differ (base_of gs)) ≡ true = subst (λ (x : Group). all_differ (base_of (x ∷ gs)) ≡ true) is h in
    absurd (grind (arith, twice, once))

-- an option that needs no module has one list of arguments
one_base : (gs : List Group) (n m : Bool) (o : Text) (a b : List Text) → all_differ (base_of gs) ≡ true → Contains gs (Base n o a) → Contains gs (Base m o b) → a ≡ b
one_base [] n m o a b h p q = let f = p.1 in absurd (omega (arith, f))
one_base (g ∷ gs) n m o a b h p q = by_cases (contains_cases g gs (Base n o a) p) (contains_cases g gs (Base m o b) q) (one_base gs n m o a b (rest_differs g gs h))
  where
    by_cases : (g ≡ Base n o a) ⊎ Contains gs (Base n o a) → (g ≡ Base m o b) ⊎ Contains gs (Base m o b) → (Contains gs (Base n o a) → Contains gs (Base m o b) → a ≡ b) → a ≡ b
    by_cases (inl e) (inl f) rest = let same : Base n o a ≡ Base m o b = sym e ∙ f in cc
    by_cases (inl e) (inr has) rest = absurd (not_twice gs g n m o a b h e has)
    by_cases (inr has) (inl f) rest = absurd (not_twice gs g m n o b a h f has)
    by_cases (inr p) (inr q) rest = rest p q

pub line_once : (gs : List Group) (n m : ℕ) → all_differ (base_of gs) ≡ true → LineProtocol gs n → LineProtocol gs m → n ≡ m
line_once gs n m h (name, (has, spells, ports)) (other, (has', spells', ports')) =
    let args : name ∷ [] ≡ other ∷ [] = one_base gs false false (codes "-p") (name ∷ []) (other ∷ []) h has has' in
    let same : name ≡ other = cc in
    proto_once name n m spells (subst (λ (t : Text). SpellsProto t m) (sym same) spells')

-- where the one argument names no protocol with ports, the group names none
pub no_protocol_here : (g : Group) (negated : Bool) (option : Text) (arguments : List Text) (text : Text) → g ≡ Base negated option arguments → arguments ≡ text ∷ []
    → ((n : ℕ) → SpellsProto text n → HasPorts n → ⊥)
    → (name : Text) (n : ℕ) → g ≡ Base false (codes "-p") (name ∷ []) → SpellsProto name n → HasPorts n → ⊥
no_protocol_here g negated option arguments text here one none name n is spells ports =
    let same : Base negated option arguments ≡ Base false (codes "-p") (name ∷ []) = sym here ∙ is in
    let args : arguments ≡ name ∷ [] = cc in
    none n (subst (λ (t : Text). SpellsProto t n) (same_only arguments name text args one) spells) ports

-- one group more that names none
pub line_none_more : (gs : List GroupWords) (i : ℕ) (g : GroupWords) → i < length gs → g ≡ get_or gs i g → ((n : ℕ) → LineProtocol (groups_of (take i gs)) n → ⊥)
    → ((name : Text) (n : ℕ) → group_of g ≡ Base false (codes "-p") (name ∷ []) → SpellsProto name n → HasPorts n → ⊥)
    → (n : ℕ) → LineProtocol (groups_of (take (i + 1) gs)) n → ⊥
line_none_more gs i g inside is before none n (name, (has, spells, ports)) =
    let x = Base false (codes "-p") (name ∷ []) in
    let e : groups_of (take (i + 1) gs) ≡ groups_of (take i gs) ++ group_of g ∷ [] =
    ap groups_of (take_more gs i g inside ∙ ap (λ (v : GroupWords). take i gs ++ v ∷ []) (sym is)) ∙ map-append group_of (take i gs) (g ∷ []) in
    by_cases x refl (Contains-append_cases (groups_of (take i gs)) (group_of g ∷ []) x (subst (λ (xs : List Group). Contains xs x) e has))
  where
    by_cases : (x : Group) → x ≡ Base false (codes "-p") (name ∷ []) → Contains (groups_of (take i gs)) x ⊎ Contains (group_of g ∷ []) x → ⊥
    by_cases x same (inl left) = before n (name, (subst (λ (y : Group). Contains (groups_of (take i gs)) y) same left, spells, ports))
    by_cases x same (inr right) = last x same (contains_cases (group_of g) [] x right)
      where
        last : (x : Group) → x ≡ Base false (codes "-p") (name ∷ []) → (group_of g ≡ x) ⊎ Contains [] x → ⊥
        last x same (inl it) = none name n (it ∙ same) spells ports
        last x same (inr nowhere) = let f = nowhere.1 in absurd (omega (arith, f))

pub line_none_begin : (gs : List GroupWords) (n : ℕ) → LineProtocol (groups_of (take 0 gs)) n → ⊥
line_none_begin gs n (name, (has, spells, ports)) = let f = has.1 in absurd (omega (arith, f))

pub line_none_all : (gs : List GroupWords) (i : ℕ) → length gs ≤ i → ((n : ℕ) → LineProtocol (groups_of (take i gs)) n → ⊥) → (n : ℕ) → LineProtocol (groups_of gs) n → ⊥
line_none_all gs i all none n line = none n (subst (λ (xs : List GroupWords). LineProtocol (groups_of xs) n) (sym (take_all i gs all)) line)
