-- Names under others: a set that is cut keeps what misses it.
use Rattle.std.proofs.Common.{◌≡◌, List, [], ◌∷◌, ◌++◌, Bool, true, false, not, ◌||◌, Option, None, Some, refl, sym, ◌∙◌, ap, subst, arith, inl, inr}
use Rattle.std.specs.Prelude.{IfSome, if◌then◌else◌, option_to_list}
use Rattle.std.specs.List.{AllByRecursion, filter, flat_map}
use Rattle.basics.proofs.Lists.{each_append}
use Rattle.basics.proofs.Truths.{or_left, or_right, or_true}
use Rattle.name_set.specs.declared.pattern.Pattern.{Pattern}
use Rattle.name_set.specs.declared.set.NameSet.{NameSet}
use Rattle.name_set.specs.Names.{cut_not_of, cut_of, cut_under, narrower, some_covers}
use Rattle.name_set.specs.Patterns.{covers, have_common, text_of}
use Rattle.name_set.proofs.Patterns.{fits_text, one_covers, under_exact, under_fits}
use Rattle.box_norm.specs.Overlaps.{cut_by_each, names_common, names_less, without_each}
use Rattle.region_cut.specs.inner.Misses.{names_miss}

-- patterns
covers_self : (p : Pattern) → covers p p ≡ true
covers_self p = under_exact p p (fits_text p) (λ f. f)

covers_on : (a b c : Pattern) → covers a b ≡ true → covers b c ≡ true → covers a c ≡ true
covers_on a b c h k = under_exact a c (under_fits a b (text_of c) h (under_fits b c (text_of c) k (fits_text c))) (λ f. under_fits a b _ h (under_fits b c _ k f))

share : (a b q : Pattern) → covers a q ≡ true → covers b q ≡ true → have_common a b ≡ true
share a b q h k = one_covers a b (text_of q) (under_fits a q (text_of q) h (fits_text q)) (under_fits b q (text_of q) k (fits_text q))

-- of two patterns that share a name the narrower one: both cover it, and it covers what both do
narrower_by : (u : Bool) (a b : Pattern) → covers a b ≡ u → have_common a b ≡ true → (covers a (if u then b else a) ≡ true) × (covers b (if u then b else a) ≡ true)
narrower_by true a b e h = (e, covers_self b)
narrower_by false a b e h = (covers_self a, grind (arith, e, h))

narrower_under : (a b : Pattern) → have_common a b ≡ true → (covers a (narrower a b) ≡ true) × (covers b (narrower a b) ≡ true)
narrower_under a b h = narrower_by (covers a b) a b refl h

narrower_over : (u : Bool) (a b q : Pattern) → covers a q ≡ true → covers b q ≡ true → covers (if u then b else a) q ≡ true
narrower_over true a b q h k = k
narrower_over false a b q h k = h

-- exclusions
covers_more : (ps : List Pattern) (p q : Pattern) → covers p q ≡ true → some_covers ps p ≡ true → some_covers ps q ≡ true
covers_more [] p q h k = k
covers_more (x ∷ ps) p q h k = let ih = covers_more ps p q h in let f = λ (l : covers x p ≡ true). covers_on x p q l h in grind (arith, ih, f, k)

covers_filter : (keep : Pattern → Bool) (ps : List Pattern) (q : Pattern) → ((p : Pattern) → covers p q ≡ true → keep p ≡ true) →
    some_covers (filter keep ps) q ≡ some_covers ps q
covers_filter keep [] q h = refl
covers_filter keep (p ∷ ps) q h = let ih = covers_filter keep ps q h in let f = h p in
    elim (keep p) as (λ b. (covers p q ≡ true → b ≡ true) → some_covers (if b then p ∷ filter keep ps else filter keep ps) q ≡ some_covers (p ∷ ps) q) [
      | true ↦ λ g. grind (arith, ih)
      | false ↦ λ g. grind (arith, ih, g)
    ] f

covers_last : (ps : List Pattern) (by q : Pattern) → some_covers (ps ++ by ∷ []) q ≡ (some_covers ps q || covers by q)
covers_last [] by q = grind arith
covers_last (p ∷ ps) by q = let ih = covers_last ps by q in grind (arith, ih)

-- The base covers the other's, and of the patterns that this one covers, its exclusions cover those that the exclusions of the first do.
pub record NamesUnder (a s : NameSet) : Type 0 where
  pub base : covers a.base s.base ≡ true
  pub excluded : (q : Pattern) → covers s.base q ≡ true → some_covers a.excluded q ≡ true → some_covers s.excluded q ≡ true

pub names_self : (a : NameSet) → NamesUnder a a
names_self a = record { base = covers_self a.base; excluded = λ q h k. k }

module _ (a s : NameSet) (u : NamesUnder a s) (by : Pattern) where
  excluded_cut : (base : Pattern) → covers s.base base ≡ true → (q : Pattern) → covers base q ≡ true → some_covers a.excluded q ≡ true →
      some_covers (filter (λ p. have_common p base) s.excluded) q ≡ true
  excluded_cut base n q h k =
      covers_filter (λ p. have_common p base) s.excluded q (λ p l. share p base q l h) ∙ u.excluded q (covers_on s.base base q n h) k

  cut_by : (t : Bool) (base : Pattern) → covers s.base base ≡ true → IfSome (if t then None else Some (record { base = base; excluded = filter (λ p. have_common p base) s.excluded })) (NamesUnder a)
  cut_by true base n = tt
  cut_by false base n = record { base = covers_on a.base s.base base u.base n; excluded = excluded_cut base n }

  common_by : (t : Bool) → have_common s.base by ≡ t → IfSome (if t then cut_under (narrower s.base by) s.excluded else None) (NamesUnder a)
  common_by true e = cut_by (some_covers s.excluded (narrower s.base by)) (narrower s.base by) (narrower_under s.base by e).0
  common_by false e = tt

  pub cut_stays : IfSome (cut_of s by) (NamesUnder a)
  cut_stays = common_by (have_common s.base by) refl

  excluded_more : (q : Pattern) → covers s.base q ≡ true → some_covers a.excluded q ≡ true → some_covers (filter (λ p. not (covers by p)) s.excluded ++ by ∷ []) q ≡ true
  excluded_more q h k =
      let e = covers_last (filter (λ p. not (covers by p)) s.excluded) by q in
      let f = λ (g : covers by q ≡ false). covers_filter (λ p. not (covers by p)) s.excluded q (λ p l. let m = λ (n : covers by p ≡ true). covers_on by p q n l in grind (arith, m, g)) in
      let was = u.excluded q h k in
      grind (arith, e, f, was)

  without_by : (t : Bool) → IfSome (if t then Some s else Some (record { base = s.base; excluded = filter (λ p. not (covers by p)) s.excluded ++ by ∷ [] })) (NamesUnder a)
  without_by true = u
  without_by false = record { base = u.base; excluded = excluded_more }

  shared_by : (t : Bool) → IfSome (if t then (if some_covers s.excluded by then Some s else Some (record { base = s.base; excluded = filter (λ p. not (covers by p)) s.excluded ++ by ∷ [] })) else Some s) (NamesUnder a)
  shared_by true = without_by (some_covers s.excluded by)
  shared_by false = u

  covered_by : (t : Bool) → IfSome (if t then None else if have_common by s.base then (if some_covers s.excluded by then Some s else Some (record { base = s.base; excluded = filter (λ p. not (covers by p)) s.excluded ++ by ∷ [] })) else Some s) (NamesUnder a)
  covered_by true = tt
  covered_by false = shared_by (have_common by s.base)

  pub cut_not_stays : IfSome (cut_not_of s by) (NamesUnder a)
  cut_not_stays = covered_by (covers by s.base)

-- what two sets have in common, and what one has without the other
module _ (a : NameSet) where
  without_stays : (o : Option NameSet) (ps : List Pattern) → IfSome o (NamesUnder a) → IfSome (without_each o ps) (NamesUnder a)
  without_stays None ps u = tt
  without_stays (Some s) [] u = u
  without_stays (Some s) (p ∷ ps) u = without_stays (cut_not_of s p) ps (cut_not_stays a s u p)

  pub common_stays : (s b : NameSet) → NamesUnder a s → IfSome (names_common s b) (NamesUnder a)
  common_stays s b u = without_stays (cut_of s b.base) b.excluded (cut_stays a s u b.base)

  one_stays : (o : Option NameSet) → IfSome o (NamesUnder a) → AllByRecursion (NamesUnder a) (option_to_list o)
  one_stays None u = tt
  one_stays (Some s) u = (u, tt)

  each_stays : (s : NameSet) (ps : List Pattern) → NamesUnder a s → AllByRecursion (NamesUnder a) (flat_map (λ p. option_to_list (cut_of s p)) ps)
  each_stays s [] u = tt
  each_stays s (p ∷ ps) u = each_append (NamesUnder a) (option_to_list (cut_of s p)) (flat_map (λ p. option_to_list (cut_of s p)) ps)
      (one_stays (cut_of s p) (cut_stays a s u p)) (each_stays s ps u)

  cuts_stay : (o : Option NameSet) (ps : List Pattern) → IfSome o (NamesUnder a) → AllByRecursion (NamesUnder a) (cut_by_each o ps)
  cuts_stay None ps u = tt
  cuts_stay (Some s) ps u = each_stays s ps u

  pub less_stay : (s b : NameSet) → NamesUnder a s → AllByRecursion (NamesUnder a) (names_less s b)
  less_stay s b u = each_append (NamesUnder a) (option_to_list (cut_not_of s b.base)) (cut_by_each (cut_of s b.base) b.excluded)
      (one_stays (cut_not_of s b.base) (cut_not_stays a s u b.base)) (cuts_stay (cut_of s b.base) b.excluded (cut_stays a s u b.base))

-- what misses a set misses what is under it
miss_by : (t : Bool) (a s b : NameSet) → NamesUnder a s → names_miss a b ≡ true → have_common s.base b.base ≡ t →
    (if t then some_covers s.excluded (narrower s.base b.base) || some_covers b.excluded (narrower s.base b.base) else true) ≡ true
miss_by false a s b u h e = refl
miss_by true a s b u h e =
    let q = narrower s.base b.base in
    let n = narrower_under s.base b.base e in
    let wide = covers_on a.base s.base q u.base n.0 in
    let both = share a.base b.base q wide n.1 in
    let w = narrower a.base b.base in
    let was : (some_covers a.excluded w || some_covers b.excluded w) ≡ true = subst (λ t. (if t then some_covers a.excluded w || some_covers b.excluded w else true) ≡ true) both h in
    let under = narrower_over (covers a.base b.base) a.base b.base q wide n.1 in
    elim (or_true (some_covers a.excluded w) (some_covers b.excluded w) was) [
      | inl l ↦ or_left (some_covers s.excluded q) (some_covers b.excluded q) (u.excluded q n.0 (covers_more a.excluded w q under l))
      | inr r ↦ or_right (some_covers s.excluded q) (some_covers b.excluded q) (covers_more b.excluded w q under r)
    ]

pub names_miss_under : (a s b : NameSet) → NamesUnder a s → names_miss a b ≡ true → names_miss s b ≡ true
names_miss_under a s b u h = miss_by (have_common s.base b.base) a s b u h refl

-- names that miss one another have none in common
abbrev HasBase : Pattern → Option NameSet → Type 0
HasBase q o = IfSome o (λ s. s.base ≡ q)

kept_base : (t v : Bool) (q : Pattern) (s : NameSet) (more : List Pattern) → s.base ≡ q → HasBase q (if t then (if v then Some s else Some (record { base = s.base; excluded = more })) else Some s)
kept_base true true q s more h = h
kept_base true false q s more h = h
kept_base false v q s more h = h

or_second : (a b : Bool) → a ≡ false → (a || b) ≡ true → b ≡ true
or_second a b h k = grind (arith, h, k)

gone_by : (t : Bool) (s : NameSet) (p : Pattern) (ps : List Pattern) (q : Pattern) → covers p s.base ≡ t → s.base ≡ q → some_covers (p ∷ ps) q ≡ true →
    ((o : Option NameSet) → HasBase q o → some_covers ps q ≡ true → without_each o ps ≡ None) →
    without_each (if t then None else if have_common p s.base then (if some_covers s.excluded p then Some s else Some (record { base = s.base; excluded = filter (λ x. not (covers p x)) s.excluded ++ p ∷ [] })) else Some s) ps ≡ None
gone_by true s p ps q e h k later = refl
gone_by false s p ps q e h k later =
    later _ (kept_base (have_common p s.base) (some_covers s.excluded p) q s (filter (λ x. not (covers p x)) s.excluded ++ p ∷ []) h)
    (or_second (covers p q) (some_covers ps q) (ap (covers p) (sym h) ∙ e) k)

gone : (o : Option NameSet) (ps : List Pattern) (q : Pattern) → HasBase q o → some_covers ps q ≡ true → without_each o ps ≡ None
gone None ps q h k = refl
gone (Some s) [] q h k = absurd (grind (arith, k))
gone (Some s) (p ∷ ps) q h k = gone_by (covers p s.base) s p ps q refl h k (λ o. gone o ps q)

cut_base : (v : Bool) (q : Pattern) (more : List Pattern) → HasBase q (if v then None else Some (record { base = q; excluded = more }))
cut_base true q more = tt
cut_base false q more = refl

none_by : (t : Bool) (a b : NameSet) → (if t then some_covers a.excluded (narrower a.base b.base) || some_covers b.excluded (narrower a.base b.base) else true) ≡ true →
    without_each (if t then cut_under (narrower a.base b.base) a.excluded else None) b.excluded ≡ None
none_by false a b h = refl
none_by true a b h = elim (or_true (some_covers a.excluded (narrower a.base b.base)) (some_covers b.excluded (narrower a.base b.base)) h) [
  | inl l ↦ ap (λ v. without_each (if v then None else Some (record { base = narrower a.base b.base; excluded = filter (λ p. have_common p (narrower a.base b.base)) a.excluded })) b.excluded) l
  | inr r ↦ gone (cut_under (narrower a.base b.base) a.excluded) b.excluded (narrower a.base b.base)
      (cut_base (some_covers a.excluded (narrower a.base b.base)) (narrower a.base b.base) (filter (λ p. have_common p (narrower a.base b.base)) a.excluded)) r
]

pub missed_names : (a b : NameSet) → names_miss a b ≡ true → names_common a b ≡ None
missed_names a b h = none_by (have_common a.base b.base) a b h
