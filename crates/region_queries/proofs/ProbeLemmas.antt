-- The chains of a probe.
use Rattle.std.specs.Prelude.{ℕ, zero, suc, ◌+◌, ◌<◌, ◌≡◌, ◌==◌, Bool, true, false, List, [], ◌∷◌, ◌++◌, Option, None, Some, length, drop, map, nat_lt, slice_get, get_or, if◌then◌else◌, refl}
use Rattle.std.proofs.Common.{subst, sym, ap, ◌∙◌, arith, add-zero, zero-add, append_assoc}
use Rattle.std.specs.Option.{option_map}
use Rattle.std.proofs.lemmas.Bool.Decides.{nat_tests}
use Rattle.std.proofs.lemmas.List.{length-map}
use Rattle.std.proofs.lemmas.Option.{slice_get-map}
use Rattle.fw_rule.specs.declared.rule.Rule.{Rule}
use Rattle.fw_rule.specs.declared.rule.Chain.{Chain}
use Rattle.fw_rule.specs.declared.rule.Dump.{Dump}
use Rattle.fw_rule.specs.declared.rule.Step.{Step}
use Rattle.fw_rule.specs.Walk.{Path}
use Rattle.region_queries.specs.Probe.{barred, barred_chain, copied_rules, copies_of, copy_of, entry_of, next_copy, own_action, probe_of, with_action}

module _ {A : Type 0} where
  pub slice_left : (xs ys : List A) (k : ℕ) → k < length xs → slice_get (xs ++ ys) k ≡ slice_get xs k
  slice_left [] ys k h = absurd (omega arith)
  slice_left (x ∷ xs) ys zero h = refl
  slice_left (x ∷ xs) ys (suc k) h = slice_left xs ys k (omega arith)

  pub slice_right : (xs ys : List A) (k j : ℕ) → j ≡ length xs + k → slice_get (xs ++ ys) j ≡ slice_get ys k
  slice_right [] ys k j e = let q : j ≡ k = omega arith in rw q refl
  slice_right (x ∷ xs) ys k zero e = absurd (omega arith)
  slice_right (x ∷ xs) ys k (suc j) e = slice_right xs ys k j (omega arith)

  pub length_snoc : (xs : List A) (y : A) → length (xs ++ y ∷ []) ≡ length xs + 1
  length_snoc [] y = refl
  length_snoc (x ∷ xs) y = let h = length_snoc xs y in omega (arith, h)

-- the number of the next copy, as the code finds it
pub next_is : (number end : ℕ) (rest : Path) → end ≡ number + length rest → (if nat_lt number end then Some number else None) ≡ next_copy number rest
next_is number end [] e = let h : nat_lt number end ≡ false = grind (arith, nat_tests) in rw h refl
next_is number end (s ∷ rest) e = let h : nat_lt number end ≡ true = grind (arith, nat_tests) in rw h refl

module _ {P : Type 0} where
  -- the rule `j` of a copy
  pub copied_at : (own : ℕ) (next : Option ℕ) (n : ℕ) (rules : List (Rule P)) (j : ℕ) → slice_get (copied_rules own next n rules) j
      ≡ option_map (λ (rule : Rule P). with_action (if n + j == own then own_action next else barred) rule) (slice_get rules j)
  copied_at own next n [] j = refl
  copied_at own next n (rule ∷ rules) zero = rw add-zero refl
  copied_at own next n (rule ∷ rules) (suc j) =
      let e : n + 1 + j ≡ n + suc j = omega arith in
      subst (λ (k : ℕ). slice_get (copied_rules own next (n + 1) rules) j ≡ option_map (λ (r : Rule P). with_action (if k == own then own_action next else barred) r) (slice_get rules j))
      e (copied_at own next (n + 1) rules j)

  module _ (chains : List (Chain P)) where
    -- the copies for these steps stand among the chains, the first with the number `n`
    abbrev pub Stand : List (Chain P) → ℕ → Path → Type 0
    Stand all n [] = Unit {0}
    Stand all n (s ∷ steps) = (slice_get all n ≡ Some (copy_of chains s (next_copy (n + 1) steps))) × Stand all (n + 1) steps

    pub they_stand : (before : List (Chain P)) (n : ℕ) (steps : Path) (all : List (Chain P)) → n ≡ length before → all ≡ before ++ copies_of chains n steps → Stand all n steps
    they_stand before n [] all e is = tt
    they_stand before n (s ∷ steps) all e is =
        let copy = copy_of chains s (next_copy (n + 1) steps) in
        let rest = copies_of chains (n + 1) steps in (
          ap (λ (xs : List (Chain P)). slice_get xs n) is ∙ slice_right before (copy ∷ rest) 0 n (omega arith),
          they_stand (before ++ copy ∷ []) (n + 1) steps all (let l = length_snoc before copy in omega (arith, l))
              (is ∙ sym (append_assoc before (copy ∷ []) rest)),
        )

    -- one more copy
    pub copies_on : (all all' whole : List (Chain P)) (steps rest : Path) (n : ℕ) (s : Step) (copy : Chain P) (next : Option ℕ) → steps ≡ s ∷ rest → copy ≡ copy_of chains s next →
        next ≡ next_copy (n + 1) rest → all' ≡ all ++ copy ∷ [] → all ++ copies_of chains n steps ≡ whole → all' ++ copies_of chains (n + 1) rest ≡ whole
    copies_on all all' whole steps rest n s copy next steps_are copy_is next_is' all_are before =
        let one : copy ≡ copy_of chains s (next_copy (n + 1) rest) = copy_is ∙ ap (copy_of chains s) next_is' in
        ap (λ (xs : List (Chain P)). xs ++ copies_of chains (n + 1) rest) all_are
        ∙ append_assoc all (copy ∷ []) (copies_of chains (n + 1) rest)
        ∙ ap (λ (x : Chain P). all ++ x ∷ copies_of chains (n + 1) rest) one
        ∙ ap (λ (xs : Path). all ++ copies_of chains n xs) (sym steps_are)
        ∙ before

  -- a chain of the dump, barred
  pub barred_at : (dump : Dump P) (visit : Path) (c : ℕ) → c < length dump.chains → slice_get (probe_of dump visit).chains c ≡ option_map barred_chain (slice_get dump.chains c)
  barred_at dump visit c h =
      slice_left (map barred_chain dump.chains) (copies_of dump.chains (entry_of dump) visit) c (let l = length-map dump.chains (barred_chain {P = P}) in omega (arith, l))
      ∙ slice_get-map barred_chain dump.chains c

  pub copies_stand : (dump : Dump P) (visit : Path) → Stand dump.chains (probe_of dump visit).chains (entry_of dump) visit
  copies_stand dump visit = they_stand dump.chains (map barred_chain dump.chains) (entry_of dump) visit (probe_of dump visit).chains (sym (length-map dump.chains (barred_chain {P = P}))) refl
