-- Hops that are gone through by length: each one's prefix decides anew.
use Rattle.std.proofs.Common.{ℕ, zero, suc, ◌+◌, ◌≤◌, ◌≡◌, ◌⊎◌, inl, inr, Bool, true, false, List, [], ◌∷◌, length, arith, refl, sym, ap, ◌∙◌}
use Rattle.std.specs.Prelude.{Some, slice_get, if◌then◌else◌}
use Rattle.std.proofs.lemmas.Bool.{cases_lt}
use Rattle.std.proofs.lemmas.Option.{same_Some, slice_get_within}
use Rattle.interval_set.specs.declared.set.Range.{Range}
use Rattle.interval_set.specs.Numbers.{has, IsSet, IsWidth}
use Rattle.interval_set.proofs.Spelling.{spelled}
use Rattle.iface_space.specs.declared.hop.Hop.{Hop}
use Rattle.iface_space.specs.Routes.{AreCleared, AreHops, IsNext, PrefixesDiffer, holds, is_target, targets_of}
use Rattle.iface_space.specs.inner.Longest.{IsDone, Told}
use Rattle.iface_space.proofs.Passing.{none_passes}
use Rattle.iface_space.proofs.Prefixes.{one_hop, next_is_target, none_is_target}

done_more : (len i k : ℕ) (hop : Hop) → IsDone len i k hop → IsDone len (i + 1) k hop
done_more len i k hop done = elim done [ inl l ↦ inl l | inr q ↦ let m = q.1 in inr (q.0, omega arith) ]

module _ (w : ℕ) (hops : List Hop) (named : List ℕ → Bool) where
  pub told_start : IsWidth w → Told w hops named 0 0 []
  told_start width = record {
    set = (width, tt);
    one = λ d k hop at done h longest. absurd (elim done [ inl l ↦ omega arith | inr q ↦ let m = q.1 in omega arith ]);
    none = λ d none. refl;
  }

  -- only which hops are done counts
  told_along : (len i more j : ℕ) (found : List Range) →
      ((k : ℕ) (hop : Hop) → slice_get hops k ≡ Some hop → IsDone len i k hop → IsDone more j k hop) →
      ((k : ℕ) (hop : Hop) → slice_get hops k ≡ Some hop → IsDone more j k hop → IsDone len i k hop) →
      Told w hops named len i found → Told w hops named more j found
  told_along len i more j found to back t = record {
    set = t.set;
    one = λ d k hop at done h longest. t.one d k hop at (back k hop at done) h (λ n other there was has_it. longest n other there (to n other there was) has_it);
    none = λ d none. t.none d (λ k hop at done h. none k hop at (to k hop at done) h);
  }

  not_this : (len i k : ℕ) (hop other : Hop) → slice_get hops i ≡ Some hop → slice_get hops k ≡ Some other → (hop.len ≡ len → ⊥) →
      IsDone len (i + 1) k other → IsDone len i k other
  not_this len i k hop other at there apart done = elim done [
    | inl l ↦ inl l
    | inr q ↦ elim (cases_lt k i) [
      | inl before ↦ inr (q.0, before)
      | inr after ↦
          let m = q.1 in
          let same : i ≡ k = omega arith in
          let e : hop ≡ other = same_Some hop other (sym at ∙ ap (slice_get hops) same ∙ there) in
          absurd (apart (ap (λ (x : Hop). x.len) e ∙ q.0))
    ]
  ]

  -- one hop more, of another length
  pub told_same : (len i : ℕ) (found : List Range) (hop : Hop) → slice_get hops i ≡ Some hop → (hop.len ≡ len → ⊥) →
      Told w hops named len i found → Told w hops named len (i + 1) found
  told_same len i found hop at apart t = told_along len i len (i + 1) found
      (λ k other there done. done_more len i k other done)
      (λ k other there done. not_this len i k hop other at there apart done) t

  -- all hops of a length
  pub told_next : (len i : ℕ) (found : List Range) → length hops ≤ i → Told w hops named len i found → Told w hops named (len + 1) 0 found
  told_next len i found l t = told_along len i (len + 1) 0 found
      (λ k other there done. elim done [ inl a ↦ inl (omega arith) | inr q ↦ let e = q.0 in inl (omega arith) ])
      (λ k other there done. elim done [
        | inl a ↦ elim (cases_lt other.len len) [
          | inl below ↦ inl below
          | inr above ↦ inr (omega arith, let m = slice_get_within hops k other there in omega arith)
        ]
        | inr q ↦ let m = q.1 in absurd (omega arith)
      ]) t

module _ (w : ℕ) (hops : List Hop) (named : List ℕ → Bool) (cleared : AreCleared w hops) (differ : PrefixesDiffer hops) where
  one_more : (len i : ℕ) (found next : List Range) (hop : Hop) → slice_get hops i ≡ Some hop → hop.len ≡ len →
      Told w hops named len i found → (d k : ℕ) (other : Hop) (c : Bool) → holds w d hop ≡ c →
      has next d ≡ (if c then named hop.name else has found d) →
      slice_get hops k ≡ Some other → IsDone len (i + 1) k other → holds w d other ≡ true →
      ((j : ℕ) (x : Hop) → slice_get hops j ≡ Some x → IsDone len (i + 1) j x → holds w d x ≡ true → x.len ≤ other.len) →
      has next d ≡ named other.name
  one_more len i found next hop at e t d k other true f is there done h longest =
      let below = longest i hop at (inr (e, omega arith)) f in
      let above : other.len ≤ len = elim done [ inl l ↦ omega arith | inr q ↦ let m = q.0 in omega arith ] in
      let same : hop ≡ other = one_hop w hops cleared differ d i k hop other at there f h (omega arith) in
      is ∙ ap (λ (x : Hop). named x.name) same
  one_more len i found next hop at e t d k other false f is there done h longest =
      let was : IsDone len i k other = elim done [
        | inl l ↦ inl l
        | inr q ↦ elim (cases_lt k i) [
          | inl before ↦ inr (q.0, before)
          | inr after ↦
              let m = q.1 in
              let same : i ≡ k = omega arith in
              let x : hop ≡ other = same_Some hop other (sym at ∙ ap (slice_get hops) same ∙ there) in
              let y : holds w d hop ≡ true = ap (holds w d) x ∙ h in
              absurd (cc)
        ]
      ] in
      is ∙ t.one d k other there was h (λ j x over done_x has_it. longest j x over (done_more len i j x done_x) has_it)

  none_more : (len i : ℕ) (found next : List Range) (hop : Hop) → slice_get hops i ≡ Some hop → hop.len ≡ len →
      Told w hops named len i found → (d : ℕ) (c : Bool) → holds w d hop ≡ c →
      has next d ≡ (if c then named hop.name else has found d) →
      ((k : ℕ) (x : Hop) → slice_get hops k ≡ Some x → IsDone len (i + 1) k x → holds w d x ≡ true → ⊥) → has next d ≡ false
  none_more len i found next hop at e t d true f is none = absurd (none i hop at (inr (e, omega arith)) f)
  none_more len i found next hop at e t d false f is none =
      is ∙ t.none d (λ k x there done h. none k x there (done_more len i k x done) h)

  -- one hop more, of the length
  pub told_more : (len i : ℕ) (found next : List Range) (hop : Hop) → slice_get hops i ≡ Some hop → hop.len ≡ len → IsSet w next →
      ((d : ℕ) → has next d ≡ (if holds w d hop then named hop.name else has found d)) →
      Told w hops named len i found → Told w hops named len (i + 1) next
  told_more len i found next hop at e set is t = record {
    set = set;
    one = λ d k other there done h longest.
        one_more len i found next hop at e t d k other (holds w d hop) refl (is d) there done h longest;
    none = λ d none. none_more len i found next hop at e t d (holds w d hop) refl (is d) none;
  }

-- a hop with the address, and no longer one with it
pub record HasNext (w d : ℕ) (hops : List Hop) : Type 0 where
  pub hop : Hop
  pub next : IsNext w hops d hop

-- none with the address
pub record NoneHas (w d : ℕ) (hops : List Hop) : Type 0 where
  pub none : (k : ℕ) (hop : Hop) → slice_get hops k ≡ Some hop → holds w d hop ≡ true → ⊥

longest_of : (w d : ℕ) (hop : Hop) (hops : List Hop) (place : ℕ) (best : Hop) → slice_get (hop ∷ hops) place ≡ Some best → holds w d best ≡ true →
    (holds w d hop ≡ true → hop.len ≤ best.len) →
    ((j : ℕ) (other : Hop) → slice_get hops j ≡ Some other → holds w d other ≡ true → other.len ≤ best.len) → HasNext w d (hop ∷ hops)
longest_of w d hop hops place best at h first others = record {
  hop = best;
  next = record { place = place; at = at; has_it = h; longest = over };
} where
  over : (j : ℕ) (other : Hop) → slice_get (hop ∷ hops) j ≡ Some other → holds w d other ≡ true → other.len ≤ best.len
  over zero other there k =
      let same = same_Some hop other there in
      let l = first (ap (holds w d) same ∙ k) in
      let e : hop.len ≡ other.len = ap (λ (x : Hop). x.len) same in omega arith
  over (suc j) other there k = others j other there k

longest_by : (w d : ℕ) (hop : Hop) (hops : List Hop) (c : Bool) → holds w d hop ≡ c → HasNext w d hops ⊎ NoneHas w d hops →
    HasNext w d (hop ∷ hops) ⊎ NoneHas w d (hop ∷ hops)
longest_by w d hop hops true h (inl n) = elim (cases_lt n.hop.len hop.len) [
  | inl shorter ↦ inl (longest_of w d hop hops 0 hop refl h (λ k. omega arith)
      (λ j other at k. let l = n.next.longest j other at k in omega arith))
  | inr longer ↦ inl (longest_of w d hop hops (suc n.next.place) n.hop n.next.at n.next.has_it (λ k. longer) n.next.longest)
]
longest_by w d hop hops true h (inr n) =
    inl (longest_of w d hop hops 0 hop refl h (λ k. omega arith) (λ j other at k. absurd (n.none j other at k)))
longest_by w d hop hops false h (inl n) =
    inl (longest_of w d hop hops (suc n.next.place) n.hop n.next.at n.next.has_it (λ k. absurd (cc)) n.next.longest)
longest_by w d hop hops false h (inr n) = inr (record { none = none_of }) where
  none_of : (k : ℕ) (other : Hop) → slice_get (hop ∷ hops) k ≡ Some other → holds w d other ≡ true → ⊥
  none_of zero other at k = let same = same_Some hop other at in let l = ap (holds w d) same ∙ k in cc
  none_of (suc j) other at k = n.none j other at k

longest_in : (w d : ℕ) (hops : List Hop) → HasNext w d hops ⊎ NoneHas w d hops
longest_in w d [] = inr (record { none = λ k hop at h. cc })
longest_in w d (hop ∷ hops) = longest_by w d hop hops (holds w d hop) refl (longest_in w d hops)

module _ (w : ℕ) (hops : List Hop) (named : List ℕ → Bool) (fit : AreHops w hops) (cleared : AreCleared w hops) (differ : PrefixesDiffer hops) where
  told_at : (found : List Range) → Told w hops named (w + 1) 0 found → (d : ℕ) → has found d ≡ is_target w hops named d
  told_at found t d = elim (longest_in w d hops) [
    | inl n ↦ t.one d n.next.place n.hop n.next.at (inl (let q = (fit n.next.place n.hop n.next.at).len in omega arith)) n.next.has_it
        (λ j other at done h. n.next.longest j other at h)
        ∙ sym (next_is_target w hops cleared differ named d n.hop n.next)
    | inr n ↦ t.none d (λ k hop at done h. n.none k hop at h)
        ∙ sym (none_is_target w hops named d (none_passes (holds w d) hops n.none))
  ]

  -- after all lengths
  pub told_all : (found : List Range) → Told w hops named (w + 1) 0 found → found ≡ targets_of w hops named
  told_all found t = spelled w found (is_target w hops named) t.set (λ d l. told_at found t d)
