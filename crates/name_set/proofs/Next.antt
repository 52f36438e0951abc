-- The search for the next name.
use Rattle.std.proofs.Common.{◌≡◌, ◌+◌, ◌<◌, ◌≤◌, ℕ, List, [], ◌∷◌, Bool, true, false, ◌&&◌, Option, Some, None, length, drop, get_or, refl, sym, ◌∙◌, ap, subst, arith}
use Rattle.std.specs.Prelude.{if◌then◌else◌}
use Rattle.std.specs.Str.{bytes_eq}
use Rattle.std.proofs.lemmas.Bool.Decides.{nat_tests}
use Rattle.std.proofs.lemmas.Slice.Eq.{bytes_eq-Decides}
use Rattle.std.proofs.lemmas.List.{at_drop_more}
use Rattle.name_set.specs.declared.pattern.Pattern.{Pattern}
use Rattle.name_set.specs.Continuations.{IsNext, has_exact, is_after, is_ahead, is_left, left_count, nearer_of}
use Rattle.name_set.specs.Least.{is_before}
use Rattle.name_set.proofs.Order.{before_itself, before_trans}

abbrev IsKept : List ℕ → List Pattern → Option (List ℕ) → Option (List ℕ) → Type 0
IsKept text ps last None = Unit {0}
IsKept text ps last (Some next) = (has_exact ps next ≡ true) × (is_left text last next ≡ true)

-- the names that are left and stand before the next one so far are in the rest of the patterns
pub record Sees (text : List ℕ) (ps : List Pattern) (last next : Option (List ℕ)) (rest : List Pattern) : Type 0 where
  pub kept : IsKept text ps last next
  pub seen : (name : List ℕ) → has_exact ps name ≡ true → is_left text last name ≡ true → is_ahead next name ≡ true → has_exact rest name ≡ true
  pub inside : (name : List ℕ) → has_exact rest name ≡ true → has_exact ps name ≡ true

pub sees_none : (text : List ℕ) (ps : List Pattern) (last : Option (List ℕ)) → Sees text ps last None ps
sees_none text ps last = record { kept = tt; seen = λ name h k l. h; inside = λ name h. h }

same : (t n : List ℕ) → bytes_eq t n ≡ true → t ≡ n
same t n = (bytes_eq-Decides t n).0

one_of : (u : List ℕ) (rest : List Pattern) → has_exact (Pattern.Exact u ∷ rest) u ≡ true
one_of u rest = let f : bytes_eq u u ≡ true = (bytes_eq-Decides u u).1 refl in grind (arith, f)

ahead_trans : (u name : List ℕ) (next : Option (List ℕ)) → is_ahead next u ≡ true → is_before name u ≡ true → is_ahead next name ≡ true
ahead_trans u name None h k = refl
ahead_trans u name (Some m) h k = before_trans name u m k h

-- a nearer name is taken
pub sees_nearer : (text : List ℕ) (ps : List Pattern) (last next : Option (List ℕ)) (u : List ℕ) (rest : List Pattern) →
    Sees text ps last next (Pattern.Exact u ∷ rest) → (is_left text last u && is_ahead next u) ≡ true → Sees text ps last (Some u) rest
sees_nearer text ps last next u rest s near =
    let left : is_left text last u ≡ true = grind (arith, near) in
    let ahead : is_ahead next u ≡ true = grind (arith, near) in
    record {
      kept = (s.inside u (one_of u rest), left);
      seen = λ name h k l. other (bytes_eq u name) name refl (s.seen name h k (ahead_trans u name next ahead l)) l;
      inside = λ name h. s.inside name (grind (arith, h));
    }
  where
    other : (c : Bool) (name : List ℕ) → bytes_eq u name ≡ c → has_exact (Pattern.Exact u ∷ rest) name ≡ true → is_before name u ≡ true → has_exact rest name ≡ true
    other true name e h k = let f = before_itself name in let g : is_before name name ≡ true = rw (same u name e) at k in absurd (grind (arith, f, g))
    other false name e h k = grind (arith, e, h)

-- another name is passed
pub sees_other : (text : List ℕ) (ps : List Pattern) (last next : Option (List ℕ)) (u : List ℕ) (rest : List Pattern) →
    Sees text ps last next (Pattern.Exact u ∷ rest) → (is_left text last u && is_ahead next u) ≡ false → Sees text ps last next rest
sees_other text ps last next u rest s far = record {
  kept = s.kept;
  seen = λ name h k l. other (bytes_eq u name) name refl (s.seen name h k l) k l;
  inside = λ name h. s.inside name (grind (arith, h));
}
  where
    other : (c : Bool) (name : List ℕ) → bytes_eq u name ≡ c → has_exact (Pattern.Exact u ∷ rest) name ≡ true →
        is_left text last name ≡ true → is_ahead next name ≡ true → has_exact rest name ≡ true
    other true name e h k l = let f : (is_left text last name && is_ahead next name) ≡ false = rw (same u name e) at far in absurd (grind (arith, f, k, l))
    other false name e h k l = grind (arith, e, h)

pub sees_more : (text : List ℕ) (ps : List Pattern) (last next : Option (List ℕ)) (p : Pattern) (rest : List Pattern) →
    Sees text ps last next (p ∷ rest) → Sees text ps last (nearer_of text last next p) rest
sees_more text ps last next (Pattern.Prefix u) rest s = record { kept = s.kept; seen = s.seen; inside = s.inside }
sees_more text ps last next (Pattern.Exact u) rest s = by_cases (is_left text last u && is_ahead next u) refl
  where
    by_cases : (c : Bool) → (is_left text last u && is_ahead next u) ≡ c → Sees text ps last (if c then Some u else next) rest
    by_cases true e = sees_nearer text ps last next u rest s e
    by_cases false e = sees_other text ps last next u rest s e

pub sees_turn : (text : List ℕ) (ps : List Pattern) (last next next' : Option (List ℕ)) (i : ℕ) (p : Pattern) → i < length ps → p ≡ get_or ps i p →
    next' ≡ nearer_of text last next p → Sees text ps last next (drop i ps) → Sees text ps last next' (drop (i + 1) ps)
sees_turn text ps last next next' i p h at is s =
    let e : drop i ps ≡ p ∷ drop (i + 1) ps = at_drop_more (λ l. l) ps i p h ∙ ap (λ q. q ∷ drop (i + 1) ps) (sym at) in
    subst (λ n. Sees text ps last n (drop (i + 1) ps)) (sym is)
    (sees_more text ps last next p (drop (i + 1) ps) (subst (Sees text ps last next) e s))

-- where no pattern is left, the next name is found
pub sees_all : (text : List ℕ) (ps : List Pattern) (last next : Option (List ℕ)) → Sees text ps last next [] → IsNext text ps last next
sees_all text ps last None s = λ name h. off name (is_left text last name) refl h
  where
    off : (name : List ℕ) (c : Bool) → is_left text last name ≡ c → has_exact ps name ≡ true → c ≡ false
    off name true e h = absurd (let f = s.seen name h e refl in grind (arith, f))
    off name false e h = refl
sees_all text ps last (Some next) s = (s.kept.0, s.kept.1, λ name h k. off name (is_before name next) refl h k)
  where
    off : (name : List ℕ) (c : Bool) → is_before name next ≡ c → has_exact ps name ≡ true → is_left text last name ≡ true → c ≡ false
    off name true e h k = absurd (let f = s.seen name h k e in grind (arith, f))
    off name false e h k = refl

-- fewer names are left after the next one
left_after : (text name next : List ℕ) (last : Option (List ℕ)) → is_after last next ≡ true → is_left text (Some next) name ≡ true → is_left text last name ≡ true
left_after text name next None h k = grind (arith, k)
left_after text name next (Some last) h k = let f = before_trans last next name h in grind (arith, f, k)

no_more : (text next : List ℕ) (last : Option (List ℕ)) (ps : List Pattern) → is_after last next ≡ true → left_count text (Some next) ps ≤ left_count text last ps
no_more text next last [] h = omega arith
no_more text next last (Pattern.Exact name ∷ ps) h =
    let ih = no_more text next last ps h in
    let f = left_after text name next last h in
    grind (arith, nat_tests, ih, f)
no_more text next last (Pattern.Prefix name ∷ ps) h = no_more text next last ps h

pub fewer : (text next : List ℕ) (last : Option (List ℕ)) (ps : List Pattern) → is_left text last next ≡ true → has_exact ps next ≡ true →
    left_count text (Some next) ps < left_count text last ps
fewer text next last [] h k = absurd (grind (arith, k))
fewer text next last (Pattern.Exact name ∷ ps) h k = here (λ j. fewer text next last ps h j) (bytes_eq name next) refl
  where
    after : is_after last next ≡ true
    after = grind (arith, h)

    here : (has_exact ps next ≡ true → left_count text (Some next) ps < left_count text last ps) → (c : Bool) → bytes_eq name next ≡ c →
        left_count text (Some next) (Pattern.Exact name ∷ ps) < left_count text last (Pattern.Exact name ∷ ps)
    here rest true e =
        let f : is_left text last name ≡ true = rw (same name next e) h in
        let g : is_left text (Some next) name ≡ false = rw (same name next e) (let i = before_itself next in grind (arith, i)) in
        let m = no_more text next last ps after in
        grind (arith, nat_tests, f, g, m)
    here rest false e =
        let m = rest (grind (arith, e, k)) in
        let f = left_after text name next last after in
        grind (arith, nat_tests, f, m)
fewer text next last (Pattern.Prefix name ∷ ps) h k = fewer text next last ps h k
