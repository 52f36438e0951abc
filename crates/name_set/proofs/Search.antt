-- The search for the least name that is longer than the text.
use Rattle.std.proofs.Common.{◌≡◌, ◌<◌, ◌≤◌, ℕ, List, [], ◌∷◌, ◌++◌, Bool, true, false, Option, Some, None, nat_lt, length, inl, inr, refl, sym, subst, arith}
use Rattle.std.proofs.lemmas.Bool.Decides.{nat_tests}
use Rattle.std.proofs.lemmas.Slice.Eq.{bytes_eq-Decides}
use Rattle.name_set.specs.declared.pattern.Pattern.{Pattern}
use Rattle.name_set.specs.declared.set.NameSet.{NameSet}
use Rattle.name_set.specs.Continuations.{IsNext, has_exact, is_after, is_left}
use Rattle.name_set.specs.Bytes.{AreBytes}
use Rattle.name_set.specs.Least.{IsLeast, is_before, is_below}
use Rattle.name_set.specs.Names.{has_name, some_fits}
use Rattle.name_set.specs.Patterns.{begins, fits, text_of}
use Rattle.name_set.proofs.Candidates.{from_candidates}
use Rattle.name_set.proofs.Continuations.{begins_snoc}
use Rattle.name_set.proofs.Order.{before_itself, before_one, grows_after, longer_after}
use Rattle.name_set.proofs.Patterns.{begins_append, begins_trans, fits_text}

-- with each byte more the name is excluded
abbrev IsClosed : List Pattern → List ℕ → Type 0
IsClosed ps u = (b : ℕ) → b < 256 → some_fits ps (u ++ b ∷ []) ≡ true

-- the names up to the last one have no byte more that gives a name of the set
pub record Tried (text : List ℕ) (ps : List Pattern) (last : Option (List ℕ)) : Type 0 where
  pub closed : (u : List ℕ) → has_exact ps u ≡ true → begins text u ≡ true → is_after last u ≡ false → IsClosed ps u

pub tried_none : (text : List ℕ) (ps : List Pattern) → Tried text ps None
tried_none text ps = record { closed = λ u h k l. absurd (grind (arith, l)) }

pub tried_more : (text : List ℕ) (ps : List Pattern) (last : Option (List ℕ)) (name : List ℕ) → Tried text ps last → IsNext text ps last (Some name) →
    IsClosed ps name → Tried text ps (Some name)
tried_more text ps last name t next closed = record { closed = λ u h k l. by_cases u (is_after last u) refl h k l }
  where
    by_cases : (u : List ℕ) (c : Bool) → is_after last u ≡ c → has_exact ps u ≡ true → begins text u ≡ true → is_before name u ≡ false → IsClosed ps u
    by_cases u false e h k l = t.closed u h k e
    by_cases u true e h k l =
        let same : u ≡ name = before_one u name (next.2 u h (grind (arith, e, k))) l in
        subst (IsClosed ps) (sym same) closed

module _ (text : List ℕ) (ps : List Pattern) (last : Option (List ℕ)) (t : Tried text ps last) (taken : some_fits ps text ≡ true) where
  abbrev S : NameSet
  S = record { base = Pattern.Prefix text; excluded = ps }

  text_out : has_name S text ≡ true → ⊥
  text_out h = absurd (grind (arith, h, taken))

  -- an excluded name, of which a byte more is in the set, stands after the last one
  after_last : (u : List ℕ) (b : ℕ) → has_exact ps u ≡ true → b < 256 → has_name S (u ++ b ∷ []) ≡ true → is_left text last u ≡ true
  after_last u b h small k = elim (begins_snoc text u b (grind (arith, k))) [
    | inl e ↦ absurd (text_out (subst (λ n. has_name S n ≡ true) (sym e) k))
    | inr e ↦ by_cases (is_after last u) refl e
  ]
    where
      by_cases : (c : Bool) → is_after last u ≡ c → begins text u ≡ true → is_left text last u ≡ true
      by_cases true e f = grind (arith, e, f)
      by_cases false e f = let g = t.closed u h f e b small in absurd (grind (arith, g, k))

  pub none_left : IsNext text ps last None → IsLeast S None
  none_left next = λ name bytes. off name (has_name S name) refl bytes
    where
      closed : (u : List ℕ) (b : ℕ) → has_exact ps u ≡ true → b < 256 → has_name S (u ++ b ∷ []) ≡ true → ⊥
      closed u b h small k = let f = after_last u b h small k in let g = next u h in absurd (grind (arith, f, g))

      off : (name : List ℕ) (c : Bool) → has_name S name ≡ c → AreBytes name → c ≡ false
      off name true e bytes = absurd (from_candidates (λ n. ⊥) text ps (λ n b h. h) text_out closed (length name) name (omega arith) bytes e)
      off name false e bytes = refl

  pub least_found : (name : List ℕ) (b : ℕ) → IsNext text ps last (Some name) → AreBytes (name ++ b ∷ []) → some_fits ps (name ++ b ∷ []) ≡ false →
      ((k : ℕ) → k < b → some_fits ps (name ++ k ∷ []) ≡ true) → IsLeast S (Some (name ++ b ∷ []))
  least_found name b next bytes free first = (
    bytes,
    (let f = begins_trans text name (name ++ b ∷ []) begun (begins_append name (b ∷ [])) in grind (arith, f, free)),
    λ n are h. from_candidates After text ps (λ m k g. grows_after m (name ++ b ∷ []) k g) (λ k. absurd (text_out k)) later (length n) n (omega arith) are h,
  )
    where
      After : List ℕ → Type 0
      After n = is_before n (name ++ b ∷ []) ≡ false

      begun : begins text name ≡ true
      begun = let f = next.1 in grind (arith, f)

      not_earlier : (c : Bool) (k : ℕ) → nat_lt k b ≡ c → some_fits ps (name ++ k ∷ []) ≡ false → c ≡ false
      not_earlier true k e h = absurd (let f = first k (grind (arith, nat_tests, e)) in grind (arith, f, h))
      not_earlier false k e h = refl

      later : (u : List ℕ) (k : ℕ) → has_exact ps u ≡ true → k < 256 → has_name S (u ++ k ∷ []) ≡ true → After (u ++ k ∷ [])
      later u k h small is = longer_after u name k b (next.2 u h (after_last u k h small is))
          (λ same. not_earlier (nat_lt k b) k refl (let f : some_fits ps (u ++ k ∷ []) ≡ false = grind (arith, is) in subst (λ v. some_fits ps (v ++ k ∷ []) ≡ false) same f))

begins_length : (t n : List ℕ) → begins t n ≡ true → length t ≤ length n
begins_length [] n h = omega arith
begins_length (x ∷ t) [] h = absurd (grind (arith, h))
begins_length (x ∷ t) (y ∷ n) h = let ih = begins_length t n (grind (arith, h)) in omega arith

begins_above : (t n : List ℕ) → begins t n ≡ true → is_below n t ≡ false
begins_above [] [] h = refl
begins_above [] (y ∷ n) h = refl
begins_above (x ∷ t) [] h = absurd (grind (arith, h))
begins_above (x ∷ t) (y ∷ n) h = let ih = begins_above t n in grind (arith, nat_tests, ih, h)

-- no name of a pattern stands before its text
text_first : (p : Pattern) (n : List ℕ) → fits p n ≡ true → is_before n (text_of p) ≡ false
text_first (Pattern.Exact t) n h = let e : t ≡ n = (bytes_eq-Decides t n).0 h in subst (λ m. is_before n m ≡ false) (sym e) (before_itself n)
text_first (Pattern.Prefix t) n h = let l = begins_length t n h in let b = begins_above t n h in grind (arith, nat_tests, l, b)

-- the base's text is the least name where it is in the set
pub text_least : (s : NameSet) → AreBytes (text_of s.base) → has_name s (text_of s.base) ≡ true → IsLeast s (Some (text_of s.base))
text_least s are h = (are, h, λ n bytes k. text_first s.base n (grind (arith, k)))

-- where it isn't, an excluded pattern matches it
pub text_taken : (s : NameSet) → has_name s (text_of s.base) ≡ false → some_fits s.excluded (text_of s.base) ≡ true
text_taken s h = let f = fits_text s.base in grind (arith, f, h)

-- a set has one least name
pub least_once : (s : NameSet) (a b : List ℕ) → IsLeast s (Some a) → IsLeast s (Some b) → a ≡ b
least_once s a b h k = before_one a b (k.2 a h.0 h.1) (h.2 b k.0 k.1)
