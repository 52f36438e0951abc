-- How the classes of atoms are divided.
use Rattle.std.proofs.Common.{ℕ, ◌+◌, ◌<◌, ◌≤◌, ◌≡◌, ◌≢◌, ◌⊎◌, inl, inr, List, [], ◌∷◌, ◌++◌, Bool, true, false, refl, sym, ◌∙◌, ap, subst, arith, length, get_or, length-append}
use Rattle.std.proofs.Math.ListN.{get_or-append}
use Rattle.std.proofs.Math.Seq.{get_or-append_seam}
use Rattle.std.proofs.lemmas.Bool.{cases_order}
use Rattle.std.proofs.lemmas.Bool.Decides.{nat_tests}
use Rattle.ip_partition.specs.inner.Atoms.{is_in, AreLasts, AreLeaders, IsNewLeader, Noted, SplitBy}

pub same_or_not : (a b : Bool) → (a ≡ b) ⊎ (a ≢ b)
same_or_not true true = inl refl
same_or_not true false = inr (λ e. cc)
same_or_not false true = inr (λ e. cc)
same_or_not false false = inl refl

third_side : (a b c : Bool) → a ≢ c → b ≢ c → a ≡ b
third_side true true c h k = refl
third_side true false true h k = absurd (h refl)
third_side true false false h k = absurd (k refl)
third_side false true true h k = absurd (k refl)
third_side false true false h k = absurd (h refl)
third_side false false c h k = refl

-- where each leader in a run has its whole class there, a class is in the run or out of it
pub closed : (leaders lasts : List ℕ) (first end : ℕ) → AreLeaders leaders → AreLasts leaders lasts → end ≤ length leaders →
    ((k : ℕ) → first ≤ k → k < end → (first ≤ get_or leaders k 0) × (get_or lasts (get_or leaders k 0) 0 < end)) →
    (k : ℕ) → k < length leaders → is_in first end k ≡ is_in first end (get_or leaders k 0)
closed leaders lasts first end a b bound test k h =
    let lead : ℕ = get_or leaders k 0 in
    let e = a.earlier k h in
    let l = b.later k h in
    let within : first ≤ k → k < end → first ≤ lead = λ x y. (test k x y).0 in
    let without : first ≤ lead → lead < end → k < end = λ x y.
    let t = (test lead x y).1 in
    let o = ap (λ c. get_or lasts c 0) (a.own k h) in
    omega (arith, t, o, l) in
    grind (arith, nat_tests, within, without, e)

-- the first atoms up to `i` are divided
pub record Dividing (leaders : List ℕ) (inside : List Bool) (others next : List ℕ) (i : ℕ) : Type 0 where
  pub made : length next ≡ i
  pub room : length others ≡ length leaders
  pub same_side : (k : ℕ) → k < i → get_or inside k false ≡ get_or inside (get_or leaders k 0) false → get_or next k 0 ≡ get_or leaders k 0
  pub other_side : (k : ℕ) → k < i → get_or inside k false ≢ get_or inside (get_or leaders k 0) false →
      (get_or next k 0 ≡ get_or others (get_or leaders k 0) 0) × (0 < get_or others (get_or leaders k 0) 0) × (get_or others (get_or leaders k 0) 0 ≤ k)
  pub others_are : (c : ℕ) → 0 < get_or others c 0 → (get_or others c 0 < i) × (get_or leaders (get_or others c 0) 0 ≡ c) × (get_or inside (get_or others c 0) false ≢ get_or inside c false)

pub below_next : (P : ℕ → Type 0) (i : ℕ) → ((k : ℕ) → k < i → P k) → P i → (k : ℕ) → k < i + 1 → P k
below_next P i below here k h = elim (cases_order k i) [
  | inl e ↦ subst P (sym e) here
  | inr o ↦ elim o [ inl l ↦ below k l | inr g ↦ absurd (omega (arith, g, h)) ]
]

pub at_end : (xs : List ℕ) (x i : ℕ) → length xs ≡ i → get_or (xs ++ x ∷ []) i 0 ≡ x
at_end xs x i e = ap (λ k. get_or (xs ++ x ∷ []) k 0) (sym e) ∙ get_or-append_seam xs x [] 0

-- an atom on the side of its leader
pub kept_side : (leaders : List ℕ) (inside : List Bool) (others next more : List ℕ) (i : ℕ) → Dividing leaders inside others next i →
    get_or inside i false ≡ get_or inside (get_or leaders i 0) false → more ≡ next ++ get_or leaders i 0 ∷ [] → Dividing leaders inside others more (i + 1)
kept_side leaders inside others next more i d s e =
    let before : (k : ℕ) → k < i → get_or more k 0 ≡ get_or next k 0 = λ k h. ap (λ xs. get_or xs k 0) e ∙ get_or-append next (get_or leaders i 0 ∷ []) 0 k (omega (arith, h, d.made)) in
    let here : get_or more i 0 ≡ get_or leaders i 0 = ap (λ xs. get_or xs i 0) e ∙ at_end next (get_or leaders i 0) i d.made in
    record {
      made = ap length e ∙ length-append next (get_or leaders i 0 ∷ []) ∙ omega (arith, d.made);
      room = d.room;
      same_side = below_next (λ k. get_or inside k false ≡ get_or inside (get_or leaders k 0) false → get_or more k 0 ≡ get_or leaders k 0) i
          (λ k h t. before k h ∙ d.same_side k h t) (λ t. here);
      other_side = below_next (λ k. get_or inside k false ≢ get_or inside (get_or leaders k 0) false →
          (get_or more k 0 ≡ get_or others (get_or leaders k 0) 0) × (0 < get_or others (get_or leaders k 0) 0) × (get_or others (get_or leaders k 0) 0 ≤ k)) i
          (λ k h t. let o = d.other_side k h t in (before k h ∙ o.0, o.1, o.2)) (λ t. absurd (t s));
      others_are = λ c h. let o = d.others_are c h in (omega (arith, o.0), o.1, o.2);
    }

-- an atom on the other side
pub turned_side : (leaders : List ℕ) (inside : List Bool) (others noted next more : List ℕ) (i : ℕ) → AreLeaders leaders → i < length leaders → Dividing leaders inside others next i →
    get_or inside i false ≢ get_or inside (get_or leaders i 0) false → Noted leaders others noted i → more ≡ next ++ get_or noted (get_or leaders i 0) 0 ∷ [] →
    Dividing leaders inside noted more (i + 1)
turned_side leaders inside others noted next more i a within d s t e =
    let lead : ℕ = get_or leaders i 0 in
    let new : ℕ = get_or noted lead 0 in
    let apart : lead ≢ i = λ f. s (ap (λ k. get_or inside k false) (sym f)) in
    let early = a.earlier i within in
    let before : (k : ℕ) → k < i → get_or more k 0 ≡ get_or next k 0 = λ k h. ap (λ xs. get_or xs k 0) e ∙ get_or-append next (new ∷ []) 0 k (omega (arith, h, d.made)) in
    let here : get_or more i 0 ≡ new = ap (λ xs. get_or xs i 0) e ∙ at_end next new i d.made in
    let kept : (c : ℕ) → 0 < get_or others c 0 → get_or noted c 0 ≡ get_or others c 0 = λ c h. elim (cases_order c lead) [
      | inl f ↦
          let g : get_or others c 0 ≡ get_or others lead 0 = ap (λ k. get_or others k 0) f in
          let n : get_or noted c 0 ≡ new = ap (λ k. get_or noted k 0) f in
          elim t.here [ inl p ↦ absurd (omega (arith, p.0, g, h)) | inr p ↦ n ∙ p.1 ∙ sym g ]
      | inr o ↦ t.elsewhere c (elim o [ inl l ↦ omega (arith, l) | inr l ↦ omega (arith, l) ])
    ] in
    let is_new : (0 < new) × (new ≤ i) × (get_or leaders new 0 ≡ lead) × (get_or inside new false ≢ get_or inside lead false) = elim t.here [
      | inl p ↦ (
        omega (arith, p.1, early, apart),
        omega (arith, p.1),
        ap (λ k. get_or leaders k 0) p.1,
        λ q. s (ap (λ k. get_or inside k false) (sym p.1) ∙ q),
      )
      | inr p ↦ let o = d.others_are lead p.0 in (
        omega (arith, p.0, p.1),
        omega (arith, o.0, p.1),
        ap (λ k. get_or leaders k 0) p.1 ∙ o.1,
        λ q. o.2 (ap (λ k. get_or inside k false) (sym p.1) ∙ q),
      )
    ] in
    record {
      made = ap length e ∙ length-append next (new ∷ []) ∙ omega (arith, d.made);
      room = t.room;
      same_side = below_next (λ k. get_or inside k false ≡ get_or inside (get_or leaders k 0) false → get_or more k 0 ≡ get_or leaders k 0) i
          (λ k h q. before k h ∙ d.same_side k h q) (λ q. absurd (s q));
      other_side = below_next (λ k. get_or inside k false ≢ get_or inside (get_or leaders k 0) false →
          (get_or more k 0 ≡ get_or noted (get_or leaders k 0) 0) × (0 < get_or noted (get_or leaders k 0) 0) × (get_or noted (get_or leaders k 0) 0 ≤ k)) i
          (λ k h q. let o = d.other_side k h q in let f = kept (get_or leaders k 0) o.1 in (before k h ∙ o.0 ∙ sym f, omega (arith, o.1, f), omega (arith, o.2, f)))
          (λ q. (here, is_new.0, is_new.1));
      others_are = λ c h. elim (cases_order c lead) [
        | inl f ↦
            let n : get_or noted c 0 ≡ new = ap (λ k. get_or noted k 0) f in (
              omega (arith, is_new.1, n),
              ap (λ k. get_or leaders k 0) n ∙ is_new.2 ∙ sym f,
              λ q. is_new.3 (ap (λ k. get_or inside k false) (sym n) ∙ q ∙ ap (λ k. get_or inside k false) f),
            )
        | inr o ↦
            let n = t.elsewhere c (elim o [ inl l ↦ omega (arith, l) | inr l ↦ omega (arith, l) ]) in
            let q = d.others_are c (omega (arith, h, n)) in (
              omega (arith, q.0, n),
              ap (λ k. get_or leaders k 0) n ∙ q.1,
              λ r. q.2 (ap (λ k. get_or inside k false) (sym n) ∙ r),
            )
      ];
    }

pub next_atom : (leaders : List ℕ) (inside : List Bool) (others noted next more : List ℕ) (i leader : ℕ) → AreLeaders leaders → i < length leaders → Dividing leaders inside others next i →
    IsNewLeader leaders inside others noted i leader → more ≡ next ++ leader ∷ [] → Dividing leaders inside noted more (i + 1)
next_atom leaders inside others noted next more i leader a h d (inl p) e =
    let P : List ℕ → Type 0 = λ xs. Dividing leaders inside xs more (i + 1) in
    subst P (sym p.2) (kept_side leaders inside others next more i d p.0 (e ∙ ap (λ x. next ++ x ∷ []) p.1))
next_atom leaders inside others noted next more i leader a h d (inr p) e =
    turned_side leaders inside others noted next more i a h d p.0 p.2 (e ∙ ap (λ x. next ++ x ∷ []) p.1)

module _ (leaders : List ℕ) (inside : List Bool) (others next : List ℕ) (i : ℕ) (all : i ≡ length leaders) (a : AreLeaders leaders) (d : Dividing leaders inside others next i) where
  abbrev lead : ℕ → ℕ
  lead k = get_or leaders k 0

  abbrev side : ℕ → Bool
  side k = get_or inside k false

  earlier_next : (k : ℕ) → k < length leaders → get_or next k 0 ≤ k
  earlier_next k h = elim (same_or_not (side k) (side (lead k))) [
    | inl s ↦ omega (arith, d.same_side k (omega (arith, h, all)) s, a.earlier k h)
    | inr s ↦ let o = d.other_side k (omega (arith, h, all)) s in omega (arith, o.0, o.2)
  ]

  own_next : (k : ℕ) → k < length leaders → get_or next (get_or next k 0) 0 ≡ get_or next k 0
  own_next k h = elim (same_or_not (side k) (side (lead k))) [
    | inl s ↦
        let e = d.same_side k (omega (arith, h, all)) s in
        let o = a.own k h in
        let l = a.earlier k h in
        let f = d.same_side (lead k) (omega (arith, h, all, l)) (ap side (sym o)) in
        ap (λ c. get_or next c 0) e ∙ f ∙ o ∙ sym e
    | inr s ↦
        let o = d.other_side k (omega (arith, h, all)) s in
        let new : ℕ = get_or others (lead k) 0 in
        let q = d.others_are (lead k) o.1 in
        let r = d.other_side new (omega (arith, q.0)) (λ t. q.2 (t ∙ ap side q.1)) in
        ap (λ c. get_or next c 0) o.0 ∙ r.0 ∙ ap (λ c. get_or others c 0) q.1 ∙ sym o.0
  ]

  pub divided_leaders : AreLeaders next
  divided_leaders = record {
    earlier = λ k h. earlier_next k (omega (arith, h, d.made, all));
    own = λ k h. own_next k (omega (arith, h, d.made, all));
  }

  -- an atom on the side of its leader has another leader than one on the other side
  mixed : (j k : ℕ) → j < length leaders → k < length leaders → side j ≡ side (lead j) → side k ≢ side (lead k) → get_or next j 0 ≢ get_or next k 0
  mixed j k h l s t e =
      let x = d.same_side j (omega (arith, h, all)) s in
      let y = d.other_side k (omega (arith, l, all)) t in
      let q = d.others_are (lead k) y.1 in
      let f : lead j ≡ get_or others (lead k) 0 = sym x ∙ e ∙ y.0 in
      let g : lead j ≡ lead k = sym (a.own j h) ∙ ap lead f ∙ q.1 in
      q.2 (ap side (sym f ∙ g))

  together : (j k : ℕ) → j < length leaders → k < length leaders → get_or next j 0 ≡ get_or next k 0 → (lead j ≡ lead k) × (side j ≡ side k)
  together j k h l e = elim (same_or_not (side j) (side (lead j))) [
    | inl s ↦ elim (same_or_not (side k) (side (lead k))) [
      | inl t ↦
          let f : lead j ≡ lead k = sym (d.same_side j (omega (arith, h, all)) s) ∙ e ∙ d.same_side k (omega (arith, l, all)) t in
          (f, s ∙ ap side f ∙ sym t)
      | inr t ↦ absurd (mixed j k h l s t e)
    ]
    | inr s ↦ elim (same_or_not (side k) (side (lead k))) [
      | inl t ↦ absurd (mixed k j l h t s (sym e))
      | inr t ↦
          let x = d.other_side j (omega (arith, h, all)) s in
          let y = d.other_side k (omega (arith, l, all)) t in
          let p = d.others_are (lead j) x.1 in
          let q = d.others_are (lead k) y.1 in
          let f : lead j ≡ lead k = sym p.1 ∙ ap lead (sym x.0 ∙ e ∙ y.0) ∙ q.1 in
          (f, third_side (side j) (side k) (side (lead k)) (λ r. s (r ∙ ap side (sym f))) t)
    ]
  ]

  joined : (j k : ℕ) → j < length leaders → k < length leaders → lead j ≡ lead k → side j ≡ side k → get_or next j 0 ≡ get_or next k 0
  joined j k h l f g = elim (same_or_not (side j) (side (lead j))) [
    | inl s ↦
        let t : side k ≡ side (lead k) = sym g ∙ s ∙ ap side f in
        d.same_side j (omega (arith, h, all)) s ∙ f ∙ sym (d.same_side k (omega (arith, l, all)) t)
    | inr s ↦
        let t : side k ≢ side (lead k) = λ r. s (g ∙ r ∙ ap side (sym f)) in
        (d.other_side j (omega (arith, h, all)) s).0 ∙ ap (λ c. get_or others c 0) f ∙ sym (d.other_side k (omega (arith, l, all)) t).0
  ]

  pub divided_same : SplitBy (λ k. get_or inside k false) leaders next
  divided_same = record {
    count = d.made ∙ all;
    same = λ j k h l. (λ e. together j k h l e, λ p. joined j k h l p.0 p.1);
  }
