-- Groups that are joined, one after another.
use Rattle.std.proofs.Common.{◌≡◌, ℕ, zero, suc, ◌+◌, ◌-◌, ◌^◌, ◌<◌, ◌≤◌, nat_lt, Bool, true, false, ◌&&◌, ◌||◌, ◌⊎◌, inl, inr, List, [], ◌∷◌, ◌++◌, length, Option, None, Some, IfSome, IsNone, ◌↔◌, unwrap_or, slice_get, get_or, drop, drop-cons, add-one, set, refl, sym, ◌∙◌, ap, subst, arith}
use Rattle.std.proofs.lemmas.Bool.Decides.{nat_tests}
use Rattle.std.proofs.lemmas.Option.{get_or_from_slice_get}
use Rattle.std.specs.List.{AllByRecursion}
use Rattle.basics.proofs.Lists.{each_at, each_both, each_more, each_weaker}
use Rattle.interval_set.specs.declared.set.Range.{Range}
use Rattle.interval_set.specs.Numbers.{has, IsSet, IsLeast, IsWidth}
use Rattle.interval_set.specs.Spelling.{set_or}
use Rattle.interval_set.proofs.Spelling.{or_has, power, where_ascends}
use Rattle.ip_partition.specs.Partition.{IsIn}
use Rattle.service_matrix.specs.declared.classes.Class.{Class}
use Rattle.service_matrix.specs.inner.Classes.{Differ, HasSameAt, wider, Put, addresses_of, Distinct, Rising, InSome, Ordered, IsGroup, IsClass, AreClasses}
use Rattle.service_matrix.proofs.OneMatrix.{set_below}
use Rattle.service_matrix.proofs.Partitions.{head_has, rest_ordered}

each_set : {X : Type 0} (Q : X → Type 0) (xs : List X) (i : ℕ) (x : X) → AllByRecursion Q xs → Q x → AllByRecursion Q (set xs i x)
each_set Q [] i x h q = tt
each_set Q (y ∷ xs) zero x h q = (q, h.1)
each_set Q (y ∷ xs) (suc i) x h q = (h.0, each_set Q xs i x h.1 q)

pub drop_at : {X : Type 0} (xs : List X) (i : ℕ) (x : X) → i < length xs → x ≡ get_or xs i x → drop i xs ≡ x ∷ drop (i + 1) xs
drop_at xs i x h e = rw (add-one, drop-cons xs i x) (ap (λ z. z ∷ drop (suc i) xs) (sym e))

-- one more that was looked at
pub each_passed : {X : Type 0} (Q : X → Type 0) (xs : List X) (i : ℕ) (x : X) → i < length xs → x ≡ get_or xs i x → Q x →
    (AllByRecursion Q (drop i xs) → AllByRecursion Q xs) → AllByRecursion Q (drop (i + 1) xs) → AllByRecursion Q xs
each_passed Q xs i x h e q f rest = f (subst (λ z. AllByRecursion Q z) (sym (drop_at xs i x h e)) (q, rest))

or_set : (w : ℕ) (a b : List Range) → IsWidth w → IsSet w (set_or w a b)
unfolding set_or
or_set w a b h = let p = power w h in (h, where_ascends (λ n. has a n || has b n) (2 ^ w) (2 ^ w - 1) (omega (arith, p)))

or_cases : (t x y : Bool) → (t && (x || y)) ≡ true → (x ≡ true) ⊎ (y ≡ true)
or_cases true true y e = inl refl
or_cases true false y e = inr e
or_cases false x y e = absurd (grind (arith, e))

pub under_test : (n bound : ℕ) (x y : Bool) → (n < bound → x ≡ y) → (nat_lt n bound && x) ≡ (nat_lt n bound && y)
under_test n bound x y f = by (nat_lt n bound) refl
  where
    by : (b : Bool) → nat_lt n bound ≡ b → (b && x) ≡ (b && y)
    by true e = f (grind (arith, nat_tests, e))
    by false e = refl

pub below_true : (n bound : ℕ) (x : Bool) → n < bound → (nat_lt n bound && x) ≡ x
below_true n bound x h = let e : nat_lt n bound ≡ true = grind (arith, nat_tests, h) in ap (λ (b : Bool). b && x) e

-- a class in its place takes more addresses
module _ {W : ℕ} (new class : Class W) where
  distinct_set : (i : ℕ) (cs : List (Class W)) → slice_get cs i ≡ Some class → Distinct cs → Distinct (set cs i (wider class new))
  distinct_set i [] e h = tt
  distinct_set zero (c ∷ cs) e h = let f : c ≡ class = cc (e) in (subst (λ (z : Class W). AllByRecursion (λ (x : Class W). Differ z x) cs) f h.0, h.1)
  distinct_set (suc i) (c ∷ cs) e h = (each_set (λ (x : Class W). Differ c x) cs i (wider class new) h.0 (each_at (λ (x : Class W). Differ c x) cs i class h.0 e), distinct_set i cs e h.1)

  rising_set : (i : ℕ) (cs : List (Class W)) → slice_get cs i ≡ Some class → Rising cs → Rising (set cs i (wider class new))
  rising_set i [] e h = tt
  rising_set zero (c ∷ cs) e h = let f : c ≡ class = cc (e) in (subst (λ (z : Class W). AllByRecursion (λ (x : Class W). z.least < x.least) cs) f h.0, h.1)
  rising_set (suc i) (c ∷ cs) e h = (each_set (λ (x : Class W). c.least < x.least) cs i (wider class new) h.0 (each_at (λ (x : Class W). c.least < x.least) cs i class h.0 e), rising_set i cs e h.1)

  in_wider : (n : ℕ) → n < 2 ^ W → (has class.addresses n || has new.addresses n) ≡ true → has (set_or W class.addresses new.addresses) n ≡ true
  in_wider n h e = or_has W class.addresses new.addresses n ∙ below_true n (2 ^ W) (has class.addresses n || has new.addresses n) h ∙ e

  out_wider : (n : ℕ) → has (set_or W class.addresses new.addresses) n ≡ true → (has class.addresses n ≡ true) ⊎ (has new.addresses n ≡ true)
  out_wider n e = or_cases (nat_lt n (2 ^ W)) (has class.addresses n) (has new.addresses n) (sym (or_has W class.addresses new.addresses n) ∙ e)

  wider_left : IsSet W class.addresses → (n : ℕ) → has class.addresses n ≡ true → has (set_or W class.addresses new.addresses) n ≡ true
  wider_left s n h = in_wider n (set_below W class.addresses n s h) (ap (λ (b : Bool). b || has new.addresses n) h)

  wider_right : IsSet W new.addresses → (n : ℕ) → has new.addresses n ≡ true → has (set_or W class.addresses new.addresses) n ≡ true
  wider_right s n h = in_wider n (set_below W new.addresses n s h) (grind (arith, h))

  stays_set : IsSet W class.addresses → (i : ℕ) (cs : List (Class W)) → slice_get cs i ≡ Some class → (n j : ℕ) → IsIn (addresses_of cs) j n → IsIn (addresses_of (set cs i (wider class new))) j n
  stays_set r i [] e n j x = x
  stays_set r zero (c ∷ cs) e n zero x =
      let f : c ≡ class = cc (e) in
      let g : x.0 ≡ c.addresses = cc (x.1) in
      let h : has c.addresses n ≡ true = subst (λ (z : List Range). has z n ≡ true) g x.2 in
      let k : has class.addresses n ≡ true = subst (λ (z : Class W). has z.addresses n ≡ true) f h in
      (set_or W class.addresses new.addresses, refl, wider_left r n k)
  stays_set r zero (c ∷ cs) e n (suc j) x = x
  stays_set r (suc i) (c ∷ cs) e n zero x = x
  stays_set r (suc i) (c ∷ cs) e n (suc j) x = stays_set r i cs e n j x

  put_there : IsSet W new.addresses → (i : ℕ) (cs : List (Class W)) → slice_get cs i ≡ Some class → (n : ℕ) → has new.addresses n ≡ true → IsIn (addresses_of (set cs i (wider class new))) i n
  put_there r i [] e n h = let f : None ≡ Some class = e in absurd (cc f)
  put_there r zero (c ∷ cs) e n h = (set_or W class.addresses new.addresses, refl, wider_right r n h)
  put_there r (suc i) (c ∷ cs) e n h = put_there r i cs e n h

  module _ (f : ℕ → ℕ → Bool) (ic : IsClass f class) (inew : IsClass f new) (row : class.row ≡ new.row) (column : class.column ≡ new.column)
      (later : (n : ℕ) → has new.addresses n ≡ true → class.least < n) where
    least_wider : (k : ℕ) → (has class.addresses k ≡ true) ⊎ (has new.addresses k ≡ true) → class.least ≤ k
    least_wider k (inl x) = (ic.first).1 k x
    least_wider k (inr y) = let h = later k y in omega (arith, h)

    row_wider : (s d : ℕ) → (has class.addresses s ≡ true) ⊎ (has new.addresses s ≡ true) → has class.row d ≡ (nat_lt d (2 ^ W) && f s d)
    row_wider s d (inl x) = ic.from s d x
    row_wider s d (inr y) = ap (λ (z : List Range). has z d) row ∙ inew.from s d y

    column_wider : (s d : ℕ) → (has class.addresses d ≡ true) ⊎ (has new.addresses d ≡ true) → has class.column s ≡ (nat_lt s (2 ^ W) && f s d)
    column_wider s d (inl x) = ic.to s d x
    column_wider s d (inr y) = ap (λ (z : List Range). has z s) column ∙ inew.to s d y

    wider_class : IsClass f (wider class new)
    wider_class = record {
      range = or_set W class.addresses new.addresses (ic.range).0;
      first = (wider_left ic.range class.least (ic.first).0, λ k h. least_wider k (out_wider k h));
      from = λ s d h. row_wider s d (out_wider s h);
      to = λ s d h. column_wider s d (out_wider d h);
    }

-- a class in its place that was written
pub put_at : {W : ℕ} (cs : List (Class W)) (new : Class W) (place : ℕ) → HasSameAt cs new place → (x y : Class W) (wide : List Range) → x ≡ get_or cs place x → y ≡ get_or cs place y →
    wide ≡ set_or W x.addresses new.addresses → Put cs new (set cs place (record { addresses = wide; least = y.least; row = y.row; column = y.column }))
put_at {W} cs new place s x y wide ex ey e =
    let fx : x ≡ s.class = ex ∙ get_or_from_slice_get cs place s.class x s.there in
    let fy : y ≡ s.class = ey ∙ get_or_from_slice_get cs place s.class y s.there in
    let fw : wide ≡ set_or W (s.class).addresses new.addresses = e ∙ ap (λ (z : Class W). set_or W z.addresses new.addresses) fx in
    inr (place, s, ap (λ (z : Class W). set cs place z) (λ i. record { addresses = fw i; least = (fy i).least; row = (fy i).row; column = (fy i).column }))

-- a class behind all
module _ {W : ℕ} (new : Class W) where
  distinct_more : (cs : List (Class W)) → AllByRecursion (λ (x : Class W). Differ x new) cs → Distinct cs → Distinct (cs ++ new ∷ [])
  distinct_more [] d h = (tt, tt)
  distinct_more (c ∷ cs) d h = (each_more (λ (x : Class W). Differ c x) cs new h.0 d.0, distinct_more cs d.1 h.1)

  rising_more : (cs : List (Class W)) → AllByRecursion (λ (x : Class W). x.least < new.least) cs → Rising cs → Rising (cs ++ new ∷ [])
  rising_more [] d h = (tt, tt)
  rising_more (c ∷ cs) d h = (each_more (λ (x : Class W). c.least < x.least) cs new h.0 d.0, rising_more cs d.1 h.1)

  stays_more : (cs : List (Class W)) (n j : ℕ) → IsIn (addresses_of cs) j n → IsIn (addresses_of (cs ++ new ∷ [])) j n
  stays_more [] n j x = let f : None ≡ Some x.0 = x.1 in absurd (cc f)
  stays_more (c ∷ cs) n zero x = x
  stays_more (c ∷ cs) n (suc j) x = stays_more cs n j x

  last_more : (cs : List (Class W)) (n : ℕ) → has new.addresses n ≡ true → InSome (addresses_of (cs ++ new ∷ [])) n
  last_more [] n h = (0, (new.addresses, refl, h))
  last_more (c ∷ cs) n h = let t = last_more cs n h in (suc t.0, t.1)

-- a group by itself
pub least_is : (group : List Range) (o : Option ℕ) (n : ℕ) → n ≡ unwrap_or o 0 → IfSome o (IsLeast group) → (IsNone o ↔ (group ≡ [])) → (k : ℕ) × (has group k ≡ true) → IsLeast group n
least_is group (Some x) n e l none some = subst (IsLeast group) (sym e) l
least_is group None n e l none some = let f : false ≡ true = subst (λ (z : List Range). has z some.0 ≡ true) (none.0 refl) some.1 in absurd (cc f)

pub lone_class : {W : ℕ} (f : ℕ → ℕ → Bool) (group addresses row column : List Range) (n : ℕ) → IsGroup W f group → addresses ≡ group → IsLeast group n →
    ((d : ℕ) → has row d ≡ (nat_lt d (2 ^ W) && f n d)) → ((s : ℕ) → has column s ≡ (nat_lt s (2 ^ W) && f s n)) →
    IsClass {W = W} f (record { addresses = addresses; least = n; row = row; column = column })
lone_class {W} f group addresses row column n is e l r c = record {
  range = subst (IsSet W) (sym e) is.range;
  first = subst (λ (z : List Range). IsLeast z n) (sym e) l;
  from = λ s d h. r d ∙ under_test d (2 ^ W) (f n d) (f s d) (λ small. is.from n s d l.0 (subst (λ (z : List Range). has z s ≡ true) e h) small);
  to = λ s d h. c s ∙ under_test s (2 ^ W) (f s n) (f s d) (λ small. is.to s n d l.0 (subst (λ (z : List Range). has z d ≡ true) e h) small);
}

-- one more group
module _ {W : ℕ} (f : ℕ → ℕ → Bool) (groups : List (List Range)) where
  pub none_yet : Ordered W groups → AllByRecursion (IsGroup W f) groups → AreClasses {W = W} f groups groups []
  none_yet o a = record { order = o; alike = a; each = tt; distinct = tt; rising = tt; before = tt; all = λ n x. inl x }

  module _ (left : List (List Range)) (group : List Range) (cs : List (Class W)) (new : Class W) (h : AreClasses f groups (group ∷ left) cs) (inew : IsClass f new) (is : new.addresses ≡ group) where
    in_new : (n : ℕ) → has new.addresses n ≡ true → InSome (group ∷ left) n
    in_new n x = (0, (group, refl, subst (λ (z : List Range). has z n ≡ true) is x))

    abbrev Before : Class W → Type 0
    Before class = (n : ℕ) → InSome left n → class.least < n

    later : (class : Class W) → ((n : ℕ) → InSome (group ∷ left) n → class.least < n) → Before class
    later class b n x = b n (suc x.0, x.1)

    still_before : AllByRecursion Before cs
    still_before = each_weaker (λ (class : Class W). (n : ℕ) → InSome (group ∷ left) n → class.least < n) Before later cs h.before

    new_before : Before new
    new_before n x =
        let m = (h.order).ordered 0 (suc x.0) n (omega arith) x.1 in
        let t : has new.addresses m.0 ≡ true = subst (λ (z : List Range). has z m.0 ≡ true) (sym is) (head_has group left m.0 m.1) in
        let low : new.least ≤ m.0 = (inew.first).1 m.0 t in
        omega (arith, low, m.2)

    rest_order : Ordered W left
    rest_order = rest_ordered W group left h.order

    pub added : AllByRecursion (λ (class : Class W). Differ class new) cs → AreClasses f groups left (cs ++ new ∷ [])
    added d = record {
      order = rest_order;
      alike = (h.alike).1;
      each = each_more (IsClass f) cs new h.each inew;
      distinct = distinct_more new cs d h.distinct;
      rising = rising_more new cs (each_weaker (λ (class : Class W). (n : ℕ) → InSome (group ∷ left) n → class.least < n) (λ (x : Class W). x.least < new.least)
          (λ x b. b new.least (in_new new.least (inew.first).0)) cs h.before) h.rising;
      before = each_more Before cs new still_before new_before;
      all = λ n x. somewhere n (h.all n x);
    }
      where
        in_left : (n i : ℕ) → IsIn (group ∷ left) i n → InSome left n ⊎ InSome (addresses_of (cs ++ new ∷ [])) n
        in_left n zero x = inr (last_more new cs n (subst (λ (z : List Range). has z n ≡ true) (sym is) (head_has group left n x)))
        in_left n (suc i) x = inl (i, x)

        somewhere : (n : ℕ) → InSome (group ∷ left) n ⊎ InSome (addresses_of cs) n → InSome left n ⊎ InSome (addresses_of (cs ++ new ∷ [])) n
        somewhere n (inl x) = in_left n x.0 x.1
        somewhere n (inr x) = inr (x.0, stays_more new cs n x.0 x.1)

    module _ (place : ℕ) (s : HasSameAt cs new place) where
      ic : IsClass f s.class
      ic = each_at (IsClass f) cs place s.class h.each s.there

      new_later : (n : ℕ) → has new.addresses n ≡ true → (s.class).least < n
      new_later n x = each_at (λ (class : Class W). (n : ℕ) → InSome (group ∷ left) n → class.least < n) cs place s.class h.before s.there n (in_new n x)

      pub widened : AreClasses f groups left (set cs place (wider s.class new))
      widened = record {
        order = rest_order;
        alike = (h.alike).1;
        each = each_set (IsClass f) cs place (wider s.class new) h.each (wider_class new s.class f ic inew s.row s.column new_later);
        distinct = distinct_set new s.class place cs s.there h.distinct;
        rising = rising_set new s.class place cs s.there h.rising;
        before = each_set Before cs place (wider s.class new) still_before (each_at Before cs place s.class still_before s.there);
        all = λ n x. somewhere n (h.all n x);
      }
        where
          in_left : (n i : ℕ) → IsIn (group ∷ left) i n → InSome left n ⊎ InSome (addresses_of (set cs place (wider s.class new))) n
          in_left n zero x = inr (place, put_there new s.class inew.range place cs s.there n (subst (λ (z : List Range). has z n ≡ true) (sym is) (head_has group left n x)))
          in_left n (suc i) x = inl (i, x)

          somewhere : (n : ℕ) → InSome (group ∷ left) n ⊎ InSome (addresses_of cs) n → InSome left n ⊎ InSome (addresses_of (set cs place (wider s.class new))) n
          somewhere n (inl x) = in_left n x.0 x.1
          somewhere n (inr x) = inr (x.0, stays_set new s.class ic.range place cs s.there n x.0 x.1)

    pub one_more : (after : List (Class W)) → Put cs new after → AreClasses f groups left after
    one_more after (inl p) = subst (λ (z : List (Class W)). AreClasses f groups left z) (sym p.1) (added p.0)
    one_more after (inr p) = subst (λ (z : List (Class W)). AreClasses f groups left z) (sym p.2) (widened p.0 p.1)
