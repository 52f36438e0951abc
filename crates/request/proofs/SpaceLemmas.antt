-- Sets of ranges, one range after the other, and what bounds claims and routes.
use Rattle.std.proofs.Common.{◌≡◌, ◌∙◌, ◌+◌, ◌<◌, ◌^◌, ◌-◌, ℕ, zero, suc, List, [], ◌∷◌, ◌++◌, ◌||◌, Some, add-one, arith, refl, ap, subst, sym, length, get_or, take, slice_get}
use Rattle.std.specs.List.{AllByRecursion}
use Rattle.std.specs.Prelude.{Err, IfOk, Ok, OnOk, Result}
use Rattle.std.specs.Result.{IsErrOf}
use Rattle.std.proofs.Math.Seq.{take-suc}
use Rattle.std.proofs.lemmas.Bool.Decides.{nat_tests}
use Rattle.interval_set.specs.declared.set.Range.{Range}
use Rattle.interval_set.specs.Numbers.{IsWidth, has}
use Rattle.interval_set.specs.Spelling.{set_or}
use Rattle.interval_set.proofs.Lists.{has-snoc}
use Rattle.interval_set.proofs.Spelling.{or_has, power, spelled, where_ascends, where_has}
use Rattle.iface_space.specs.declared.hop.Hop.{Hop}
use Rattle.iface_space.specs.declared.routes.RouteFault.{RouteFault}
use Rattle.iface_space.specs.declared.zones.ZoneFault.{ZoneFault}
use Rattle.iface_space.specs.declared.zones.Zone.{Zone}
use Rattle.iface_space.specs.Routes.{PrefixesDiffer, Refuses as RefusesRoutes}
use Rattle.iface_space.specs.Zones.{AreApart, NamesDiffer, Refuses as RefusesZones}
use Rattle.request.specs.Spaces.{AreZones, HavePrefixes, routes_of, set_of, zones_of}
use Rattle.request.specs.declared.types.Claim.{Claim}
use Rattle.request.specs.declared.types.SpellFault.{SpellFault}

-- one range more
pub no_range : (w : ℕ) → IsWidth w → [] ≡ set_of w []
no_range w width = spelled w [] (has []) (width, tt) (λ k below. refl)

one_more_range : (w : ℕ) → IsWidth w → (done : List Range) (r : Range) → set_or w (set_of w done) (r ∷ []) ≡ set_of w (done ++ r ∷ [])
unfolding set_or
one_more_range w width done r =
    let p = power w width in
    spelled w (set_or w (set_of w done) (r ∷ [])) (has (done ++ r ∷ [])) (width, where_ascends (λ n. has (set_of w done) n || has (r ∷ []) n) (2 ^ w) (2 ^ w - 1) (omega (arith, p)))
    (λ k below. let a = or_has w (set_of w done) (r ∷ []) k in
    let b = where_has (has done) (2 ^ w) k in
    let c = has-snoc done r k in
    grind (arith, nat_tests, a, b, c, below))

-- the items before the next one, and it
pub take_next : {A : Type 0} (xs : List A) (i : ℕ) (d : A) → i < length xs → take (i + 1) xs ≡ take i xs ++ get_or xs i d ∷ []
take_next xs i d below = rw add-one (take-suc xs i d below)

pub next_range : (w : ℕ) → IsWidth w → (ranges : List Range) (i : ℕ) (d : Range) → i < length ranges → (set one next : List Range) → set ≡ set_of w (take i ranges)
    → one ≡ record { lo = (get_or ranges i d).lo; hi = (get_or ranges i d).hi } ∷ [] → next ≡ set_or w set one → next ≡ set_of w (take (i + 1) ranges)
next_range w width ranges i d below set one next is one_is next_is =
    next_is ∙ ap (λ (s : List Range). set_or w s one) is ∙ ap (set_or w (set_of w (take i ranges))) one_is
    ∙ one_more_range w width (take i ranges) (get_or ranges i d) ∙ ap (set_of w) (sym (take_next ranges i d below))

-- what holds of each item holds of the item at a place
pub each_at : {A : Type 0} (P : A → Type 0) (xs : List A) (i : ℕ) (x : A) → AllByRecursion P xs → slice_get xs i ≡ Some x → P x
each_at P [] i x all at = absurd (cc)
each_at P (y ∷ xs) zero x all at = let same : y ≡ x = cc in subst P same all.0
each_at P (y ∷ xs) (suc i) x all at = each_at P xs i x all.1 at

-- claims that are refused, but for want of memory, are no zones
module _ (w : ℕ) (claims : List Claim) (fault : ZoneFault) (refused : RefusesZones (zones_of w claims) fault) where
  pub no_names : (at : ℕ) → fault ≡ ZoneFault.Repeated at → AreZones w claims → ⊥
  no_names at is are = are.0 at (subst (RefusesZones (zones_of w claims)) is refused).0

  pub no_addresses : (at : ℕ) → fault ≡ ZoneFault.Overlap at → AreZones w claims → ⊥
  no_addresses at is are = are.1 at (subst (RefusesZones (zones_of w claims)) is refused).1.0

-- and such hops are no table
pub no_prefixes : (w : ℕ) (hops : List Hop) (fault : RouteFault) → RefusesRoutes (routes_of w hops) fault → (at : ℕ) → fault ≡ RouteFault.Repeated at
    → HavePrefixes w hops → ⊥
no_prefixes w hops fault refused at is are = are at (subst (RefusesRoutes (routes_of w hops)) is refused).0

-- what isn't told as a usage
pub not_usage : (r : Result (Unit {0}) SpellFault) → r ≡ Ok tt → IsErrOf r SpellFault.Usage → ⊥
not_usage r is told = let h : Ok tt ≡ Err SpellFault.Usage = sym is ∙ told in absurd (cc)

pub memory_not_usage : (r : Result (Unit {0}) SpellFault) → r ≡ Err SpellFault.Memory → IsErrOf r SpellFault.Usage → ⊥
memory_not_usage r is told = let h : Err SpellFault.Memory ≡ Err SpellFault.Usage = sym is ∙ told in absurd (cc)

-- what was made of the claims' zones, and of the hops
pub on_zones : {A E : Type 0} (w : ℕ) (claims : List Claim) (zones : List (Zone w)) → zones ≡ zones_of w claims → (r : Result A E)
    → IfOk r (λ x. NamesDiffer zones × AreApart zones) → OnOk r (AreZones w claims)
on_zones w claims zones is (Ok x) valid = subst (λ (zs : List (Zone w)). NamesDiffer zs × AreApart zs) is valid
on_zones w claims zones is (Err e) valid = tt

pub on_routes : {E : Type 0} (w : ℕ) (hops list : List Hop) → list ≡ hops → (r : Result (List Hop) E) → IfOk r (λ x. x ≡ routes_of w list)
    → IfOk r (λ x. PrefixesDiffer x) → OnOk r (HavePrefixes w hops)
on_routes w hops list is (Ok x) same valid = subst (λ (hs : List Hop). PrefixesDiffer hs) (same ∙ ap (routes_of w) is) valid
on_routes w hops list is (Err e) same valid = tt
