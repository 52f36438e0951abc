-- The ranges of a class, and the classes one after another.
use Rattle.std.proofs.Common.{ℕ, zero, suc, ◌+◌, ◌-◌, ◌^◌, ◌<◌, ◌≤◌, ◌≡◌, ◌≢◌, ◌↔◌, inl, inr, List, [], ◌∷◌, ◌++◌, Bool, true, false, ◌||◌, refl, sym, ◌∙◌, ap, subst, arith, length, get_or, take, drop}
use Rattle.std.specs.List.{AllByRecursion}
use Rattle.std.proofs.Math.Seq.{take-length}
use Rattle.std.proofs.lemmas.Bool.{cases_order}
use Rattle.std.proofs.lemmas.Bool.Decides.{nat_tests}
use Rattle.basics.proofs.Lists.{each_more}
use Rattle.basics.proofs.Truths.{or_left, or_right, or_true}
use Rattle.interval_set.specs.declared.set.Range.{Range}
use Rattle.interval_set.specs.Numbers.{has, is_within, IsWidth}
use Rattle.interval_set.proofs.Lists.{has-snoc}
use Rattle.interval_set.proofs.Spelling.{power}
use Rattle.ip_partition.specs.inner.Atoms.{AreLasts, AreLeaders, InAtom, IsClass}
use Rattle.ip_partition.specs.Boundaries.{Ascend}
use Rattle.ip_partition.specs.inner.Classes.{AreClasses, AreStarts, EachIsClass, IsAtomOf, IsUsual, PutAtom}
use Rattle.ip_partition.proofs.Sorted.{In, contains_of, in_append, in_of, rises}

pub default_off : (xs : List ℕ) (k d e : ℕ) → k < length xs → get_or xs k d ≡ get_or xs k e
default_off [] k d e h = absurd (omega (arith, h))
default_off (x ∷ xs) zero d e h = refl
default_off (x ∷ xs) (suc k) d e h = default_off xs k d e (omega (arith, h))

pub default_past : (xs : List ℕ) (k d : ℕ) → length xs ≤ k → get_or xs k d ≡ d
default_past [] zero d h = refl
default_past [] (suc k) d h = refl
default_past (x ∷ xs) zero d h = absurd (omega (arith, h))
default_past (x ∷ xs) (suc k) d h = default_past xs k d (omega (arith, h))

pub next_above : (k : ℕ) (starts : List ℕ) → Ascend 0 starts → k + 1 < length starts → get_or starts k 0 < get_or starts (k + 1) 0
next_above k starts a h = rises 0 k (k + 1) starts 0 a (omega arith) h

or_after : (x a b c : Bool) → a ≡ (b || c) → (x || a) ≡ ((x || b) || c)
or_after true a b c e = refl
or_after false a b c e = e

none_taken : (m n : ℕ) → has (take m (drop (suc zero) [])) n ≡ false
none_taken zero n = refl
none_taken (suc m) n = refl

-- the starts of the next atom, or the end of all numbers
next_start : (w : ℕ) (starts : List ℕ) (k : ℕ) → AreStarts w starts → k < length starts → (get_or starts k 0 < get_or starts (k + 1) (2 ^ w)) × (get_or starts (k + 1) (2 ^ w) ≤ 2 ^ w)
next_start w starts k s h = elim (cases_order (k + 1) (length starts)) [
  | inl e ↦ let p = default_past starts (k + 1) (2 ^ w) (omega (arith, e)) in (omega (arith, p, s.below k), omega (arith, p))
  | inr o ↦ elim o [
    | inl l ↦ let p = default_off starts (k + 1) (2 ^ w) 0 l in (omega (arith, p, next_above k starts s.ascend l), omega (arith, p, s.below (k + 1)))
    | inr g ↦ absurd (omega (arith, g, h))
  ]
]

top_next : (w : ℕ) → IsWidth w → (2 ^ w - 1) + 1 ≡ 2 ^ w
top_next w i = omega (arith, power w i)

hi_is : (w : ℕ) (starts : List ℕ) (k : ℕ) (r : Range) → IsWidth w → IsAtomOf (2 ^ w - 1) starts k r → get_or starts (k + 1) (2 ^ w) ≡ r.hi + 1
hi_is w starts k r i a = ap (λ d. get_or starts (k + 1) d) (sym (top_next w i)) ∙ a.1

usual : (w : ℕ) (starts : List ℕ) (k : ℕ) (r : Range) → IsWidth w → AreStarts w starts → k < length starts → IsAtomOf (2 ^ w - 1) starts k r → IsUsual w r
usual w starts k r i s h a =
    let e = hi_is w starts k r i a in
    let n = next_start w starts k s h in
    (omega (arith, a.0, e, n.0), omega (arith, e, n.1))

within_atom : (w : ℕ) (starts : List ℕ) (k : ℕ) (r : Range) (n : ℕ) → IsWidth w → k < length starts → IsAtomOf (2 ^ w - 1) starts k r → (is_within r n ≡ true) ↔ InAtom w starts k n
within_atom w starts k r n i h a =
    let e = hi_is w starts k r i a in
    let f = a.0 in
    let d = default_off starts k (2 ^ w) 0 h in (
      λ t. let x : (r.lo ≤ n) × (n ≤ r.hi) = (grind (arith, nat_tests, t), grind (arith, nat_tests, t)) in (omega (arith, d, f, x.0), omega (arith, e, x.1)),
      λ t. let x : r.lo ≤ n = omega (arith, d, f, t.0) in let y : n ≤ r.hi = omega (arith, e, t.1) in grind (arith, nat_tests, x, y),
    )

-- the ranges of the atoms of a class up to this one
pub record Gathered (w : ℕ) (starts leaders : List ℕ) (leader at : ℕ) (ranges : List Range) : Type 0 where
  pub usual : AllByRecursion (IsUsual w) ranges
  pub numbers : (n : ℕ) → (has ranges n ≡ true) ↔ ((k : ℕ) × (k < at) × (get_or leaders k 0 ≡ leader) × InAtom w starts k n)

pub none_gathered : (w : ℕ) (starts leaders : List ℕ) (leader : ℕ) → AreLeaders leaders → leader < length leaders → Gathered w starts leaders leader leader []
none_gathered w starts leaders leader a h = record {
  usual = tt;
  numbers = λ n. (λ t. cc, λ p. absurd (omega (arith, p.1, p.2, h, a.earlier p.0 (omega (arith, p.1, h)))));
}

pub one_gathered : (w : ℕ) (starts leaders : List ℕ) (leader at : ℕ) (ranges more : List Range) → IsWidth w → AreStarts w starts → at < length starts → Gathered w starts leaders leader at ranges →
    PutAtom (2 ^ w - 1) starts leaders leader at ranges more → Gathered w starts leaders leader (at + 1) more
one_gathered w starts leaders leader at ranges more i s h g (inl p) =
    let P : List Range → Type 0 = λ rs. Gathered w starts leaders leader (at + 1) rs in
    subst P (sym p.1) (record {
      usual = g.usual;
      numbers = λ n. let v = g.numbers n in (
        λ t. let q = v.0 t in (q.0, omega (arith, q.1), q.2, q.3),
        λ q. elim (cases_order q.0 at) [
          | inl e ↦ absurd (p.0 (ap (λ k. get_or leaders k 0) (sym e) ∙ q.2))
          | inr o ↦ elim o [ inl l ↦ v.1 (q.0, l, q.2, q.3) | inr l ↦ absurd (omega (arith, l, q.1)) ]
        ],
      );
    })
one_gathered w starts leaders leader at ranges more i s h g (inr p) =
    let r = p.1 in
    let P : List Range → Type 0 = λ rs. Gathered w starts leaders leader (at + 1) rs in
    subst P (sym p.3) (record {
      usual = each_more (IsUsual w) ranges r g.usual (usual w starts at r i s h p.2);
      numbers = λ n.
          let v = g.numbers n in
          let u = within_atom w starts at r n i h p.2 in (
            λ t. elim (or_true (has ranges n) (is_within r n) (sym (has-snoc ranges r n) ∙ t)) [
              | inl x ↦ let q = v.0 x in (q.0, omega (arith, q.1), q.2, q.3)
              | inr x ↦ (at, omega arith, p.0, u.0 x)
            ],
            λ q. has-snoc ranges r n ∙ elim (cases_order q.0 at) [
              | inl e ↦ let Q : ℕ → Type 0 = λ k. InAtom w starts k n in or_right (has ranges n) (is_within r n) (u.1 (subst Q e q.3))
              | inr o ↦ elim o [ inl l ↦ or_left (has ranges n) (is_within r n) (v.1 (q.0, l, q.2, q.3)) | inr l ↦ absurd (omega (arith, l, q.1)) ]
            ],
          );
    })

pub all_gathered : (w : ℕ) (starts leaders lasts : List ℕ) (leader at : ℕ) (ranges : List Range) → AreLeaders leaders → AreLasts leaders lasts → length leaders ≡ length starts →
    leader < length leaders → at ≡ get_or lasts leader 0 + 1 → Gathered w starts leaders leader at ranges → IsClass w starts leaders leader ranges
all_gathered w starts leaders lasts leader at ranges a b c h e g n =
    let v = g.numbers n in (
      λ t. let q = v.0 t in (q.0, omega (arith, q.1, e, b.within leader h, c), q.2, q.3),
      λ q.
          let l = b.later q.0 (omega (arith, q.1, c)) in
          let f = ap (λ k. get_or lasts k 0) q.2 in
          v.1 (q.0, omega (arith, l, f, e), q.2, q.3),
    )

-- classes one after another
ascend_snoc : (from : ℕ) (ns : List ℕ) (n : ℕ) → Ascend from ns → from ≤ n → ((k : ℕ) → In ns k → k < n) → Ascend from (ns ++ n ∷ [])
ascend_snoc from [] n a h b = (h, tt)
ascend_snoc from (m ∷ ms) n a h b = (a.0, ascend_snoc (m + 1) ms n a.1 (omega (arith, b m (inl refl))) (λ k i. b k (inr i)))

each_snoc : (w : ℕ) (starts leaders heads : List ℕ) (h : ℕ) (sets : List (List Range)) (set : List Range) → EachIsClass w starts leaders heads sets → IsClass w starts leaders h set →
    EachIsClass w starts leaders (heads ++ h ∷ []) (sets ++ set ∷ [])
each_snoc w starts leaders [] h [] set e c = (c, tt)
each_snoc w starts leaders [] h (s ∷ ss) set e c = absurd e
each_snoc w starts leaders (g ∷ gs) h [] set e c = absurd e
each_snoc w starts leaders (g ∷ gs) h (s ∷ ss) set e c = (e.0, each_snoc w starts leaders gs h ss set e.1 c)

pub no_class : (w : ℕ) (starts leaders : List ℕ) → AreClasses w starts leaders 0 []
no_class w starts leaders = record {
  heads = [];
  ascend = tt;
  all = λ h. (λ c. absurd (omega (arith, c.1)), λ p. absurd (omega (arith, p.0)));
  each = tt;
}

pub other_atom : (w : ℕ) (starts leaders : List ℕ) (at : ℕ) (sets : List (List Range)) → get_or leaders at 0 ≢ at → AreClasses w starts leaders at sets → AreClasses w starts leaders (at + 1) sets
other_atom w starts leaders at sets f c = record {
  heads = c.heads;
  ascend = c.ascend;
  all = λ h. (
    λ i. let p = (c.all h).0 i in (omega (arith, p.0), p.1),
    λ p. elim (cases_order h at) [
      | inl e ↦ absurd (f (ap (λ k. get_or leaders k 0) (sym e) ∙ p.1 ∙ e))
      | inr o ↦ elim o [ inl l ↦ (c.all h).1 (l, p.1) | inr l ↦ absurd (omega (arith, l, p.0)) ]
    ],
  );
  each = c.each;
}

pub leading_atom : (w : ℕ) (starts leaders : List ℕ) (at : ℕ) (sets : List (List Range)) (set : List Range) (more : List (List Range)) → get_or leaders at 0 ≡ at → IsClass w starts leaders at set →
    more ≡ sets ++ set ∷ [] → AreClasses w starts leaders at sets → AreClasses w starts leaders (at + 1) more
leading_atom w starts leaders at sets set more f k e c =
    let P : List (List Range) → Type 0 = λ ss. AreClasses w starts leaders (at + 1) ss in
    let below : (h : ℕ) → In c.heads h → h < at = λ h i. ((c.all h).0 (contains_of c.heads h i)).0 in
    subst P (sym e) (record {
      heads = c.heads ++ at ∷ [];
      ascend = ascend_snoc 0 c.heads at c.ascend (omega arith) below;
      all = λ h. let v = in_append c.heads (at ∷ []) h in (
        λ i. elim (v.0 (in_of (c.heads ++ at ∷ []) h i)) [
          | inl j ↦ let p = (c.all h).0 (contains_of c.heads h j) in (omega (arith, p.0), p.1)
          | inr j ↦ elim j [ inl x ↦ (omega (arith, x), ap (λ n. get_or leaders n 0) x ∙ f ∙ sym x) | inr x ↦ absurd x ]
        ],
        λ p. contains_of (c.heads ++ at ∷ []) h (v.1 (elim (cases_order h at) [
          | inl x ↦ inr (inl x)
          | inr o ↦ elim o [ inl l ↦ inl (in_of c.heads h ((c.all h).1 (l, p.1))) | inr l ↦ absurd (omega (arith, l, p.0)) ]
        ])),
      );
      each = each_snoc w starts leaders c.heads at sets set c.each k;
    })

-- the same, where the code reads the top and the leaders
pub one_more : (w : ℕ) (starts leaders : List ℕ) (leader at : ℕ) (ranges more : List Range) (top : ℕ) (read : List ℕ) → IsWidth w → AreStarts w starts → at < length starts →
    Gathered w starts leaders leader at ranges → top ≡ 2 ^ w - 1 → read ≡ leaders → PutAtom top starts read leader at ranges more → Gathered w starts leaders leader (at + 1) more
one_more w starts leaders leader at ranges more top read i s h g t r p =
    let P : ℕ → Type 0 = λ x. PutAtom x starts read leader at ranges more in
    let Q : List ℕ → Type 0 = λ x. PutAtom (2 ^ w - 1) starts x leader at ranges more in
    one_gathered w starts leaders leader at ranges more i s h g (subst Q r (subst P t p))

-- the ranges of a run of them
drop_none : (k : ℕ) → drop {A = Range} k [] ≡ []
drop_none zero = refl
drop_none (suc k) = refl

drop_more : (i k : ℕ) (rs : List Range) → drop (i + k) rs ≡ drop k (drop i rs)
drop_more zero k [] = drop_none (zero + k) ∙ sym (drop_none k)
drop_more zero k (r ∷ rs) = ap (λ j. drop j (r ∷ rs)) (omega arith)
drop_more (suc i) k [] = drop_none (suc i + k) ∙ sym (drop_none k)
drop_more (suc i) k (r ∷ rs) = let e : suc i + k ≡ suc (i + k) = omega arith in ap (λ j. drop j (r ∷ rs)) e ∙ drop_more i k rs

split_run : (k m : ℕ) (rs : List Range) (n : ℕ) → has (take (k + m) rs) n ≡ (has (take k rs) n || has (take m (drop k rs)) n)
split_run zero m [] n = ap (λ j. has (take j []) n) (omega arith)
split_run zero m (r ∷ rs) n = ap (λ j. has (take j (r ∷ rs)) n) (omega arith)
split_run (suc k) m [] n = let e : suc k + m ≡ suc (k + m) = omega arith in let f : has (take m (drop (suc k) [])) n ≡ false = none_taken m n in ap (λ j. has (take j []) n) e ∙ sym f
split_run (suc k) m (r ∷ rs) n =
    let e : suc k + m ≡ suc (k + m) = omega arith in
    let f = ap (λ j. has (take j (r ∷ rs)) n) e in
    let ih = split_run k m rs n in
    f ∙ or_after (is_within r n) (has (take (k + m) rs) n) (has (take k rs) n) (has (take m (drop k rs)) n) ih

-- the numbers of both halves of a run
pub halves : (from half count : ℕ) (rs : List Range) (n : ℕ) (a b : Bool) → half ≤ count → a ≡ has (take half (drop from rs)) n → b ≡ has (take (count - half) (drop (from + half) rs)) n →
    (a || b) ≡ has (take count (drop from rs)) n
halves from half count rs n a b h e f =
    let g : b ≡ has (take (count - half) (drop half (drop from rs))) n = f ∙ ap (λ xs. has (take (count - half) xs) n) (drop_more from half rs) in
    let u : (a || b) ≡ (has (take half (drop from rs)) n || has (take (count - half) (drop half (drop from rs))) n) = λ j. e j || g j in
    let c : half + (count - half) ≡ count = omega arith in
    u ∙ sym (split_run half (count - half) (drop from rs) n) ∙ ap (λ k. has (take k (drop from rs)) n) c

pub one_in_run : (rs : List Range) (from : ℕ) (d : Range) (n : ℕ) → from < length rs → has (take 1 (drop from rs)) n ≡ (is_within (get_or rs from d) n || false)
one_in_run [] from d n h = absurd (omega (arith, h))
one_in_run (r ∷ rs) zero d n h = refl
one_in_run (r ∷ rs) (suc from) d n h = one_in_run rs from d n (omega (arith, h))

pub whole_run : (rs : List Range) (n : ℕ) → has (take (length rs) (drop 0 rs)) n ≡ has rs n
whole_run [] n = refl
whole_run (r ∷ rs) n = ap (λ xs. has xs n) (take-length (r ∷ rs))

pub usual_at : (w : ℕ) (rs : List Range) (from : ℕ) (d : Range) → AllByRecursion (IsUsual w) rs → from < length rs → IsUsual w (get_or rs from d)
usual_at w [] from d a h = absurd (omega (arith, h))
usual_at w (r ∷ rs) zero d a h = a.0
usual_at w (r ∷ rs) (suc from) d a h = usual_at w rs from d a.1 (omega (arith, h))
