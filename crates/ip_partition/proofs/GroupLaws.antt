-- The classes of atoms are the groups of the sets.
use Rattle.std.proofs.Common.{ℕ, zero, suc, ◌+◌, ◌-◌, ◌^◌, ◌<◌, ◌≤◌, ◌≡◌, ◌↔◌, inl, inr, List, [], ◌∷◌, Some, refl, sym, ◌∙◌, ap, subst, arith, length, get_or, slice_get, Contains}
use Rattle.std.specs.List.{AllByRecursion, flat_map}
use Rattle.std.proofs.lemmas.Bool.{cases_order}
use Rattle.basics.proofs.Lists.{in_bounds}
use Rattle.limits.specs.declared.TheConstants.{MOST_BOUNDARIES}
use Rattle.interval_set.specs.declared.set.Range.{Range}
use Rattle.interval_set.specs.Numbers.{has, IsSet, IsWidth}
use Rattle.interval_set.proofs.Spelling.{power}
use Rattle.ip_partition.specs.declared.fault.GroupFault.{GroupFault}
use Rattle.ip_partition.specs.inner.Atoms.{AreLeaders, InAtom, IsClass}
use Rattle.ip_partition.specs.Boundaries.{Ascend, HasFewBoundaries}
use Rattle.ip_partition.specs.inner.Classes.{AreClasses, AreStarts, EachIsClass}
use Rattle.ip_partition.specs.Groups.{AreGroups, LieAlike, RefusesGroups}
use Rattle.ip_partition.specs.Partition.{IsIn, IsPartition}
use Rattle.ip_partition.specs.inner.Starts.{ends, starts_of, PassesLimit}
use Rattle.ip_partition.proofs.Dividing.{same_or_not}
use Rattle.ip_partition.proofs.Ends.{boundaries, each_end, ends_there, starts_added, starts_begin}
use Rattle.ip_partition.proofs.Gathering.{default_off, default_past}
use Rattle.ip_partition.proofs.Sorted.{In, contains_of, in_append, in_from, in_of, rises}

-- numbers without a boundary between them lie alike
alike_refl : (sets : List (List Range)) (a : ℕ) → LieAlike sets a a
alike_refl [] a = tt
alike_refl (s ∷ ss) a = (refl, alike_refl ss a)

alike_trans : (sets : List (List Range)) (a b c : ℕ) → LieAlike sets a b → LieAlike sets b c → LieAlike sets a c
alike_trans [] a b c h k = tt
alike_trans (s ∷ ss) a b c h k = (h.0 ∙ k.0, alike_trans ss a b c h.1 k.1)

alike_sym : (sets : List (List Range)) (a b : ℕ) → LieAlike sets a b → LieAlike sets b a
alike_sym [] a b h = tt
alike_sym (s ∷ ss) a b h = (sym h.0, alike_sym ss a b h.1)

still : (w : ℕ) (sets : List (List Range)) (m n : ℕ) → n ≡ m + 1 → n ≤ 2 ^ w - 1 → AllByRecursion (IsSet w) sets → (In (flat_map (ends (2 ^ w - 1)) sets) n → ⊥) → LieAlike sets m n
still w [] m n e l a f = tt
still w (s ∷ ss) m n e l a f =
    let v = in_append (ends (2 ^ w - 1) s) (flat_map (ends (2 ^ w - 1)) ss) n in (
      elim (same_or_not (has s m) (has s n)) [
        | inl q ↦ q
        | inr q ↦ absurd (f (v.1 (inl (ends_there (2 ^ w - 1) 0 s m n e a.0.1 l q))))
      ],
      still w ss m n e l a.1 (λ i. f (v.1 (inr i))),
    )

steady : (w : ℕ) (sets : List (List Range)) (s d : ℕ) → AllByRecursion (IsSet w) sets → s + d ≤ 2 ^ w - 1 →
    ((n : ℕ) → s < n → n ≤ s + d → In (flat_map (ends (2 ^ w - 1)) sets) n → ⊥) → LieAlike sets s (s + d)
steady w sets s zero a l f = let e : s ≡ s + zero = omega arith in let P : ℕ → Type 0 = λ n. LieAlike sets s n in subst P e (alike_refl sets s)
steady w sets s (suc d) a l f =
    let ih = steady w sets s d a (omega (arith, l)) (λ n h k. f n h (omega (arith, k))) in
    let step = still w sets (s + d) (s + suc d) (omega arith) l a (f (s + suc d) (omega arith) (omega arith)) in
    alike_trans sets s (s + d) (s + suc d) ih step

below_power : (w : ℕ) (sets : List (List Range)) → IsWidth w → AllByRecursion (IsSet w) sets → (n : ℕ) → In (starts_of w sets) n → n < 2 ^ w
below_power w sets i a n j = elim (((starts_added w sets).numbers n).0 j) [
  | inl e ↦ elim (cases_order n 0) [
    | inl z ↦ omega (arith, z, power w i)
    | inr o ↦ elim o [ inl z ↦ absurd (omega (arith, z)) | inr z ↦ (each_end w sets n a z e).2.1 ]
  ]
  | inr e ↦ elim e [ inl z ↦ omega (arith, z, power w i) | inr z ↦ absurd z ]
]

-- the atoms of some starts
module _ (w : ℕ) (starts : List ℕ) (st : AreStarts w starts) where
  place_within : (k n : ℕ) → n < 2 ^ w → InAtom w starts k n → k < length starts
  place_within k n h i = elim (cases_order k (length starts)) [
    | inl e ↦ absurd (omega (arith, default_past starts k (2 ^ w) (omega (arith, e)), i.0, h))
    | inr o ↦ elim o [ inl l ↦ l | inr l ↦ absurd (omega (arith, default_past starts k (2 ^ w) (omega (arith, l)), i.0, h)) ]
  ]

  at_most : (k : ℕ) → get_or starts k (2 ^ w) ≤ 2 ^ w
  at_most k = elim (cases_order k (length starts)) [
    | inl e ↦ omega (arith, default_past starts k (2 ^ w) (omega (arith, e)))
    | inr o ↦ elim o [ inl l ↦ omega (arith, default_off starts k (2 ^ w) 0 l, st.below k) | inr l ↦ omega (arith, default_past starts k (2 ^ w) (omega (arith, l))) ]
  ]

  below_all : (k n : ℕ) → InAtom w starts k n → n < 2 ^ w
  below_all k n i = omega (arith, i.1, at_most (k + 1))

  -- a number in an atom is below the start of a later one
  before_later : (j k n : ℕ) → j < k → k < length starts → InAtom w starts j n → n < get_or starts k 0
  before_later j k n h l i = elim (cases_order (j + 1) k) [
    | inl e ↦ omega (arith, i.1, ap (λ x. get_or starts x (2 ^ w)) e, default_off starts k (2 ^ w) 0 l)
    | inr o ↦ elim o [
      | inl m ↦ omega (arith, i.1, default_off starts (j + 1) (2 ^ w) 0 (omega (arith, m, l)), rises 0 (j + 1) k starts 0 st.ascend m l)
      | inr m ↦ absurd (omega (arith, m, h))
    ]
  ]

  one_atom : (j k n : ℕ) → InAtom w starts j n → InAtom w starts k n → j ≡ k
  one_atom j k n x y =
      let h = below_all j n x in
      let a = place_within j n h x in
      let b = place_within k n h y in
      elim (cases_order j k) [
        | inl e ↦ e
        | inr o ↦ elim o [
          | inl l ↦ absurd (omega (arith, before_later j k n l b x, y.0, default_off starts k (2 ^ w) 0 b))
          | inr l ↦ absurd (omega (arith, before_later k j n l a y, x.0, default_off starts j (2 ^ w) 0 a))
        ]
      ]

  start_in : (k : ℕ) → k < length starts → InAtom w starts k (get_or starts k 0)
  start_in k h = (
    omega (arith, default_off starts k (2 ^ w) 0 h),
    elim (cases_order (k + 1) (length starts)) [
      | inl e ↦ omega (arith, default_past starts (k + 1) (2 ^ w) (omega (arith, e)), st.below k)
      | inr o ↦ elim o [
        | inl l ↦ omega (arith, default_off starts (k + 1) (2 ^ w) 0 l, rises 0 k (k + 1) starts 0 st.ascend (omega arith) l)
        | inr l ↦ absurd (omega (arith, l, h))
      ]
    ],
  )

  -- nothing starts inside an atom
  no_start : (k n m : ℕ) → InAtom w starts k n → get_or starts k 0 < m → m ≤ n → In starts m → ⊥
  no_start k n m i h l s =
      let c = contains_of starts m s in
      let e : get_or starts c.0 0 ≡ m = default_off starts c.0 0 m c.1 ∙ c.2 in
      let a = place_within k n (below_all k n i) i in
      elim (cases_order c.0 k) [
        | inl x ↦ omega (arith, ap (λ j. get_or starts j 0) x, e, h)
        | inr o ↦ elim o [
          | inl x ↦ omega (arith, rises 0 c.0 k starts 0 st.ascend x a, e, h)
          | inr x ↦ omega (arith, before_later k c.0 n x c.1 i, e, l)
        ]
      ]

-- each number is in an atom
atom_of : (w s : ℕ) (ss : List ℕ) (n : ℕ) → s ≤ n → n < 2 ^ w → (k : ℕ) × (k < length (s ∷ ss)) × InAtom w (s ∷ ss) k n
atom_of w s [] n h l = (0, omega arith, (h, l))
atom_of w s (t ∷ ts) n h l = elim (cases_order n t) [
  | inl e ↦ let r = atom_of w t ts n (omega (arith, e)) l in let f : suc r.0 + 1 ≡ suc (r.0 + 1) = omega arith in
      (suc r.0, omega (arith, r.1), (r.2.0, let P : ℕ → Type 0 = λ j. n < get_or (s ∷ t ∷ ts) j (2 ^ w) in subst P (sym f) r.2.1))
  | inr o ↦ elim o [
    | inl m ↦ (0, omega arith, (h, m))
    | inr m ↦ let r = atom_of w t ts n (omega (arith, m)) l in let f : suc r.0 + 1 ≡ suc (r.0 + 1) = omega arith in
        (suc r.0, omega (arith, r.1), (r.2.0, let P : ℕ → Type 0 = λ j. n < get_or (s ∷ t ∷ ts) j (2 ^ w) in subst P (sym f) r.2.1))
  ]
]

pub some_atom : (w : ℕ) (starts : List ℕ) (n : ℕ) → get_or starts 0 1 ≡ 0 → n < 2 ^ w → (k : ℕ) × (k < length starts) × InAtom w starts k n
some_atom w [] n e h = let f : 1 ≡ 0 = e in absurd (omega (arith, f))
some_atom w (s ∷ ss) n e h = atom_of w s ss n (omega (arith, e)) h

-- classes by their places
class_at : (w : ℕ) (starts leaders heads : List ℕ) (sets : List (List Range)) (g : ℕ) (class : List Range) → EachIsClass w starts leaders heads sets → slice_get sets g ≡ Some class →
    (h : ℕ) × (slice_get heads g ≡ Some h) × IsClass w starts leaders h class
class_at w starts leaders [] [] g class e f = cc
class_at w starts leaders [] (s ∷ ss) g class e f = absurd e
class_at w starts leaders (h ∷ hs) [] g class e f = absurd e
class_at w starts leaders (h ∷ hs) (s ∷ ss) zero class e f =
    let q : s ≡ class = cc in
    let P : List Range → Type 0 = λ x. IsClass w starts leaders h x in (h, refl, subst P q e.0)
class_at w starts leaders (h ∷ hs) (s ∷ ss) (suc g) class e f = class_at w starts leaders hs ss g class e.1 f

head_at : (w : ℕ) (starts leaders heads : List ℕ) (sets : List (List Range)) (h : ℕ) → EachIsClass w starts leaders heads sets → In heads h →
    (g : ℕ) × (class : List Range) × (slice_get sets g ≡ Some class) × IsClass w starts leaders h class
head_at w starts leaders [] sets h e i = absurd i
head_at w starts leaders (k ∷ ks) [] h e i = absurd e
head_at w starts leaders (k ∷ ks) (s ∷ ss) h e (inl q) = let P : ℕ → Type 0 = λ x. IsClass w starts leaders x s in (0, s, refl, subst P (sym q) e.0)
head_at w starts leaders (k ∷ ks) (s ∷ ss) h e (inr i) = let r = head_at w starts leaders ks ss h e.1 i in (suc r.0, r.1, r.2, r.3)

has_head : (heads : List ℕ) (g h : ℕ) → slice_get heads g ≡ Some h → In heads h
has_head [] g h e = cc
has_head (k ∷ ks) zero h e = let q : h ≡ k = cc in inl q
has_head (k ∷ ks) (suc g) h e = inr (has_head ks g h e)

head_from : (from g h : ℕ) (heads : List ℕ) → Ascend from heads → slice_get heads g ≡ Some h → from ≤ h
head_from from g h heads a e = in_from from heads h a (has_head heads g h e)

heads_rise : (from i j h k : ℕ) (heads : List ℕ) → Ascend from heads → i < j → slice_get heads i ≡ Some h → slice_get heads j ≡ Some k → h < k
heads_rise from i j h k [] a l e f = cc
heads_rise from i zero h k (n ∷ ns) a l e f = absurd (omega (arith, l))
heads_rise from zero (suc j) h k (n ∷ ns) a l e f = let q : n ≡ h = cc in let r = head_from (n + 1) j k ns a.1 f in omega (arith, q, r)
heads_rise from (suc i) (suc j) h k (n ∷ ns) a l e f = heads_rise (n + 1) i j h k ns a.1 (omega (arith, l)) e f

past_sets : (sets : List (List Range)) (g : ℕ) → g < length sets → (class : List Range) × (slice_get sets g ≡ Some class)
past_sets [] g h = absurd (omega (arith, h))
past_sets (s ∷ ss) zero h = (s, refl)
past_sets (s ∷ ss) (suc g) h = past_sets ss g (omega (arith, h))

-- the starts of the atoms of some sets
pub starts_are : (w : ℕ) (sets : List (List Range)) → IsWidth w → AllByRecursion (IsSet w) sets → AreStarts w (starts_of w sets)
starts_are w sets i a =
    let b = starts_begin w sets in
    let t = starts_added w sets in
    record {
      ascend = t.ascend;
      zero = ap (λ ns. get_or ns 0 1) b.is;
      below = λ k. elim (cases_order k (length (starts_of w sets))) [
        | inl e ↦ omega (arith, default_past (starts_of w sets) k 0 (omega (arith, e)), power w i)
        | inr o ↦ elim o [
          | inl l ↦ below_power w sets i a (get_or (starts_of w sets) k 0) (in_of (starts_of w sets) (get_or (starts_of w sets) k 0) (k, l, default_off (starts_of w sets) k (get_or (starts_of w sets) k 0) 0 l))
          | inr l ↦ omega (arith, default_past (starts_of w sets) k 0 (omega (arith, l)), power w i)
        ]
      ];
    }

-- what the code found
pub record Found (w : ℕ) (sets : List (List Range)) (starts leaders : List ℕ) (groups : List (List Range)) : Type 0 where
  pub given : AllByRecursion (IsSet w) sets
  pub width : IsWidth w
  pub begins : starts ≡ starts_of w sets
  pub from_zero : AreStarts w starts
  pub leading : AreLeaders leaders
  pub count : length leaders ≡ length starts
  pub alike : (i j : ℕ) → i < length starts → j < length starts → (get_or leaders i 0 ≡ get_or leaders j 0) ↔ LieAlike sets (get_or starts i 0) (get_or starts j 0)
  pub classes : AreClasses w starts leaders (length starts) groups
  pub made : AllByRecursion (IsSet w) groups

module _ (w : ℕ) (sets : List (List Range)) (starts leaders : List ℕ) (groups : List (List Range)) (f : Found w sets starts leaders groups) where
  atom_at : (n : ℕ) → n < 2 ^ w → (k : ℕ) × (k < length starts) × InAtom w starts k n
  atom_at n h = some_atom w starts n f.from_zero.zero h

  -- a number lies like the first one of its atom
  like_start : (k n : ℕ) → InAtom w starts k n → LieAlike sets (get_or starts k 0) n
  like_start k n i =
      let h = below_all w starts f.from_zero k n i in
      let l = place_within w starts f.from_zero k n h i in
      let s : ℕ = get_or starts k 0 in
      let e : s + (n - s) ≡ n = omega (arith, i.0, default_off starts k (2 ^ w) 0 l) in
      let P : ℕ → Type 0 = λ m. LieAlike sets s m in
      subst P e (steady w sets s (n - s) f.given (omega (arith, e, h)) (λ m x y j.
      let Q : List ℕ → Type 0 = λ ns. In ns m in
      no_start w starts f.from_zero k n m i x (omega (arith, y, e)) (subst Q (sym f.begins) (((starts_added w sets).numbers m).1 (inl j)))))

  -- the leader of a number in a group, which the group's place has
  led : (g n : ℕ) → IsIn groups g n → (h : ℕ) × (slice_get f.classes.heads g ≡ Some h) × ((k : ℕ) × (k < length starts) × (get_or leaders k 0 ≡ h) × InAtom w starts k n)
  led g n i =
      let c = class_at w starts leaders f.classes.heads groups g i.0 f.classes.each i.1 in
      (c.0, c.1, (c.2 n).0 i.2)

  lies_in : (k n : ℕ) → k < length starts → InAtom w starts k n → (g : ℕ) × IsIn groups g n
  lies_in k n h i =
      let l = f.leading.earlier k (omega (arith, h, f.count)) in
      let o = f.leading.own k (omega (arith, h, f.count)) in
      let r = head_at w starts leaders f.classes.heads groups (get_or leaders k 0) f.classes.each (in_of f.classes.heads (get_or leaders k 0) ((f.classes.all (get_or leaders k 0)).1 (omega (arith, l, h), o))) in
      (r.0, (r.1, r.2, (r.3 n).1 (k, h, refl, i)))

  -- heads at one place are one
  one_head : (i j h k : ℕ) → h ≡ k → slice_get f.classes.heads i ≡ Some h → slice_get f.classes.heads j ≡ Some k → i ≡ j
  one_head i j h k e x y = elim (cases_order i j) [
    | inl q ↦ q
    | inr o ↦ elim o [
      | inl l ↦ absurd (omega (arith, heads_rise 0 i j h k f.classes.heads f.classes.ascend l x y, e))
      | inr l ↦ absurd (omega (arith, heads_rise 0 j i k h f.classes.heads f.classes.ascend l y x, e))
    ]
  ]

  same_head : (i h k : ℕ) → slice_get f.classes.heads i ≡ Some h → slice_get f.classes.heads i ≡ Some k → h ≡ k
  same_head i h k x y = cc

  head_is : (g h : ℕ) → slice_get f.classes.heads g ≡ Some h → (h < length starts) × (get_or leaders h 0 ≡ h)
  head_is g h e = (f.classes.all h).0 (contains_of f.classes.heads h (has_head f.classes.heads g h e))

  first_in : (g : ℕ) (class : List Range) → slice_get groups g ≡ Some class → (h : ℕ) × (slice_get f.classes.heads g ≡ Some h) × IsIn groups g (get_or starts h 0)
  first_in g class e =
      let c = class_at w starts leaders f.classes.heads groups g class f.classes.each e in
      let p = head_is g c.0 c.1 in
      (c.0, c.1, (class, e, (c.2 (get_or starts c.0 0)).1 (c.0, p.0, p.1, start_in w starts f.from_zero c.0 p.0)))

  apart : (i j n : ℕ) → IsIn groups i n → IsIn groups j n → i ≡ j
  apart i j n x y =
      let a = led i n x in
      let b = led j n y in
      let e = one_atom w starts f.from_zero a.2.0 b.2.0 n a.2.3 b.2.3 in
      one_head i j a.0 b.0 (sym a.2.2 ∙ ap (λ k. get_or leaders k 0) e ∙ b.2.2) a.1 b.1

  ordered : (i j n : ℕ) → i < j → IsIn groups j n → (m : ℕ) × IsIn groups i m × (m < n)
  ordered i j n l y =
      let b = led j n y in
      let p = past_sets groups i (omega (arith, l, in_bounds groups j y.0 y.1)) in
      let a = first_in i p.0 p.1 in
      let r = heads_rise 0 i j a.0 b.0 f.classes.heads f.classes.ascend l a.1 b.1 in
      let q = f.leading.earlier b.2.0 (omega (arith, b.2.1, f.count)) in
      let s = rises 0 a.0 b.2.0 starts 0 f.from_zero.ascend (omega (arith, r, q, b.2.2)) b.2.1 in
      (get_or starts a.0 0, a.2, omega (arith, s, b.2.3.0, default_off starts b.2.0 (2 ^ w) 0 b.2.1))

  partition : IsPartition w groups
  partition = record {
    sets = f.made;
    some = λ i h. let p = past_sets groups i h in let a = first_in i p.0 p.1 in (get_or starts a.0 0, a.2);
    covers = λ n h. let a = atom_at n h in lies_in a.0 n a.1 a.2;
    apart = apart;
    ordered = ordered;
  }

  together : (a b : ℕ) → a < 2 ^ w → b < 2 ^ w → ((i : ℕ) × IsIn groups i a × IsIn groups i b) ↔ LieAlike sets a b
  together a b h l =
      let x = atom_at a h in
      let y = atom_at b l in
      let p = like_start x.0 a x.2 in
      let q = like_start y.0 b y.2 in
      let v = f.alike x.0 y.0 x.1 y.1 in (
        λ t.
            let c = led t.0 a t.1 in
            let d = led t.0 b t.2 in
            let i = one_atom w starts f.from_zero c.2.0 x.0 a c.2.3 x.2 in
            let j = one_atom w starts f.from_zero d.2.0 y.0 b d.2.3 y.2 in
            let e : get_or leaders x.0 0 ≡ get_or leaders y.0 0 =
            ap (λ k. get_or leaders k 0) (sym i) ∙ c.2.2 ∙ same_head t.0 c.0 d.0 c.1 d.1 ∙ sym d.2.2 ∙ ap (λ k. get_or leaders k 0) j in
            alike_trans sets a (get_or starts x.0 0) b (alike_sym sets (get_or starts x.0 0) a p) (alike_trans sets (get_or starts x.0 0) (get_or starts y.0 0) b (v.0 e) q),
        λ t.
            let e = v.1 (alike_trans sets (get_or starts x.0 0) a (get_or starts y.0 0) p (alike_trans sets a b (get_or starts y.0 0) t (alike_sym sets (get_or starts y.0 0) b q))) in
            let m = lies_in x.0 a x.1 x.2 in
            let c = m.1 in
            let k = class_at w starts leaders f.classes.heads groups m.0 c.0 f.classes.each c.1 in
            let r = (k.2 a).0 c.2 in
            let i = one_atom w starts f.from_zero r.0 x.0 a r.3 x.2 in
            let z : get_or leaders y.0 0 ≡ k.0 = sym e ∙ ap (λ j. get_or leaders j 0) (sym i) ∙ r.2 in
            (m.0, c, (c.0, c.1, (k.2 b).1 (y.0, y.1, z, y.2))),
      )

  pub are_groups : AreGroups w sets groups
  are_groups = record { partition = partition; together = together }

-- what holds of each element holds of the list
pub each_at : {X : Type 0} (Q : X → Type 0) (xs : List X) → ((k : ℕ) (d : X) → k < length xs → Q (get_or xs k d)) → AllByRecursion Q xs
each_at Q [] each = tt
each_at Q (x ∷ xs) each = (each 0 x (omega arith), each_at Q xs (λ k d below. each (suc k) d (omega (arith, below))))

-- starts that are read from a vector
pub starts_at : (w : ℕ) (sets : List (List Range)) (starts : List ℕ) → IsWidth w → AllByRecursion (IsSet w) sets → starts ≡ starts_of w sets → AreStarts w starts
starts_at w sets starts i a e = let P : List ℕ → Type 0 = λ ns. AreStarts w ns in subst P (sym e) (starts_are w sets i a)

pub few_boundaries : (w : ℕ) (sets : List (List Range)) (starts : List ℕ) → AllByRecursion (IsSet w) sets → starts ≡ starts_of w sets → length starts ≤ MOST_BOUNDARIES + 1 → HasFewBoundaries w (Contains sets)
few_boundaries w sets starts a e l = (length (starts_of w sets) - 1, boundaries w sets a, omega (arith, ap length e, l))

pub refused : (w : ℕ) (sets : List (List Range)) (fault : GroupFault) → AllByRecursion (IsSet w) sets → PassesLimit (starts_of w sets) fault → RefusesGroups w sets fault
refused w sets GroupFault.Atoms a l = (length (starts_of w sets) - 1, boundaries w sets a, omega (arith, l))
refused w sets GroupFault.Memory a l = tt
