-- One pass over the rules, rule by rule.
use Rattle.std.proofs.Common.{◌≡◌, ℕ, ◌<◌, Bool, true, false, not, ◌&&◌, ◌||◌, List, [], ◌∷◌, ◌++◌, if◌then◌else◌, Option, None, Some, Result, Ok, Err, IfOk, subst, unwrap_or, ◌+◌, ◌^◌, nat_lt, length, get_or, take, drop, refl, sym, ◌∙◌, ap, arith}
use Rattle.std.specs.Option.{option_or}
use Rattle.std.proofs.lemmas.List.{take-append-drop}
use Rattle.interval_set.specs.declared.set.Range.{Range}
use Rattle.interval_set.specs.Numbers.{has}
use Rattle.box_norm.specs.declared.cube.Cube.{Cube}
use Rattle.box_norm.specs.declared.cube.SimpleRule.{SimpleRule}
use Rattle.box_norm.specs.Cubes.{holds_cube}
use Rattle.box_norm.specs.Normal.{first_of}
use Rattle.fw_rule.specs.declared.rule.Verdict.{Verdict}
use Rattle.fw_rule.specs.Answers.{is_accept}
use Rattle.primitives.specs.Holds.{has_bit}
use Rattle.name_set.specs.Names.{has_name}
use Rattle.service_packet.specs.declared.service.Service.{Service}
use Rattle.service_packet.specs.Packets.{opening_flags, opening_type, service_packet}
use Rattle.service_matrix.specs.declared.rows.Fixed.{Fixed}
use Rattle.service_matrix.specs.declared.rows.Part.{Part}
use Rattle.service_matrix.proofs.Joins.{drop_at}
use Rattle.service_matrix.specs.inner.Passes.{AnswerAlike, Tells, packet_at, near, far}
use Rattle.service_matrix.specs.Services.{accepts_service}
use Rattle.primitives.specs.declared.prim.Packet.{Packet}

-- the two addresses put first
moved : (a b c d r : Bool) → (a && (b && (c && (d && r)))) ≡ (c && (d && (a && (b && r))))
moved true true c d r = refl
moved true false true true r = refl
moved true false true false r = refl
moved true false false d r = refl
moved false b true true r = refl
moved false b true false r = refl
moved false b false d r = refl

swapped : (c d r : Bool) → (c && (d && r)) ≡ (d && (c && r))
swapped true true r = refl
swapped true false r = refl
swapped false true r = refl
swapped false false r = refl

module _ {W : ℕ} (cube : Cube W) (service : Service) where
  -- whether the cube has the service's names, protocol, ports, flags, state and type
  abbrev pub fits_service : Bool
  fits_service = has_name cube.in_name [] && (has_name cube.out_name [] && (has cube.proto service.proto && (has cube.sport service.sport
      && (has cube.dport service.dport && (has_bit cube.flags (opening_flags service.proto) && (has_bit cube.state 1 && has cube.icmp (opening_type service.proto)))))))

  pub by_addresses : (fixed : Fixed) (here there : ℕ) → holds_cube cube (packet_at fixed service here there) ≡ (has (near cube fixed) here && (has (far cube fixed) there && fits_service))
  by_addresses Fixed.Source here there =
      moved (has_name cube.in_name []) (has_name cube.out_name []) (has cube.src here) (has cube.dst there)
      (has cube.proto service.proto && (has cube.sport service.sport && (has cube.dport service.dport && (has_bit cube.flags (opening_flags service.proto) && (has_bit cube.state 1 && has cube.icmp (opening_type service.proto))))))
  by_addresses Fixed.Destination here there =
      moved (has_name cube.in_name []) (has_name cube.out_name []) (has cube.src there) (has cube.dst here)
      (has cube.proto service.proto && (has cube.sport service.sport && (has cube.dport service.dport && (has_bit cube.flags (opening_flags service.proto) && (has_bit cube.state 1 && has cube.icmp (opening_type service.proto))))))
      ∙ swapped (has cube.src there) (has cube.dst here) fits_service

  module _ (fixed : Fixed) (here : ℕ) where
    abbrev Holds : ℕ → Bool
    Holds there = holds_cube cube (packet_at fixed service here there)

    -- the fixed address isn't in the cube
    pub far_away : has (near cube fixed) here ≡ false → (there : ℕ) → Holds there ≡ false
    far_away e there = by_addresses fixed here there ∙ ap (λ (b : Bool). b && (has (far cube fixed) there && fits_service)) e

    -- no other address is in it
    pub alone : far cube fixed ≡ [] → (there : ℕ) → Holds there ≡ false
    alone e there = by_addresses fixed here there ∙ ap (λ (set : List Range). has (near cube fixed) here && (has set there && fits_service)) e ∙ none (has (near cube fixed) here)
      where
        none : (b : Bool) → (b && false) ≡ false
        none true = refl
        none false = refl

    -- what holds at one of the other addresses holds at all of them
    at_one : (n f : Bool) (set : List Range) (k : ℕ) → has set k ≡ true → n ≡ true → (b : Bool) → (n && (has set k && f)) ≡ b → f ≡ b
    at_one n f set k h t b e = grind (arith, h, t, e)

    pub some_hold : (k : ℕ) → has (near cube fixed) here ≡ true → has (far cube fixed) k ≡ true → Holds k ≡ true → (there : ℕ) → Holds there ≡ has (far cube fixed) there
    some_hold k n f h there =
        let s : fits_service ≡ true = at_one (has (near cube fixed) here) fits_service (far cube fixed) k f n true (sym (by_addresses fixed here k) ∙ h) in
        by_addresses fixed here there ∙ both (has (near cube fixed) here) (has (far cube fixed) there) fits_service n s
      where
        both : (n b f : Bool) → n ≡ true → f ≡ true → (n && (b && f)) ≡ b
        both n b f x y = grind (arith, x, y)

    pub none_hold : (k : ℕ) → has (near cube fixed) here ≡ true → has (far cube fixed) k ≡ true → Holds k ≡ false → (there : ℕ) → Holds there ≡ false
    none_hold k n f h there =
        let s : fits_service ≡ false = at_one (has (near cube fixed) here) fits_service (far cube fixed) k f n false (sym (by_addresses fixed here k) ∙ h) in
        by_addresses fixed here there ∙ neither (has (near cube fixed) here) (has (far cube fixed) there) fits_service s
      where
        neither : (n b f : Bool) → f ≡ false → (n && (b && f)) ≡ false
        neither n b f x = grind (arith, x)

  -- no source and destination bring a packet of the service into the cube
  pub no_source : cube.src ≡ [] → (s d : ℕ) → holds_cube cube (service_packet service s d) ≡ false
  no_source e s d = far_away Fixed.Source s (ap (λ (set : List Range). has set s) e) d

  pub no_partner : (k : ℕ) → has cube.src k ≡ true → ((there : ℕ) → holds_cube cube (service_packet service k there) ≡ false) → (s d : ℕ) → holds_cube cube (service_packet service s d) ≡ false
  no_partner k h none s d =
      by_addresses Fixed.Source s d ∙ neither (has cube.src k) (has cube.src s) (has cube.dst d && fits_service) h (sym (by_addresses Fixed.Source k d) ∙ none d)
    where
      neither : (n m b : Bool) → n ≡ true → (n && b) ≡ false → (m && b) ≡ false
      neither n m b t e = grind (arith, t, e)

module _ {W : ℕ} where
  -- a rule with an equal cube
  pub copied_rule : (rule : SimpleRule W) (cube : Cube W) → cube ≡ rule.cube → record { cube = cube; accept = rule.accept } ≡ rule
  copied_rule rule cube e = λ i. record { cube = e i; accept = rule.accept }

module _ {W : ℕ} (service : Service) where
  -- the rules that were kept, and then those that are left
  abbrev pub kept_and_left : List (SimpleRule W) → List (SimpleRule W) → ℕ → ℕ → Option Bool
  kept_and_left kept rules s d = option_or (first_of kept (service_packet service s d)) (first_of rules (service_packet service s d))

  first_pushed : (kept rules : List (SimpleRule W)) (rule : SimpleRule W) (p : Packet) → option_or (first_of (kept ++ (rule ∷ [])) p) (first_of rules p) ≡ option_or (first_of kept p) (first_of (rule ∷ rules) p)
  first_pushed [] rules rule p = only (holds_cube rule.cube p)
    where
      only : (b : Bool) → option_or (if b then Some rule.accept else None) (first_of rules p) ≡ (if b then Some rule.accept else first_of rules p)
      only true = refl
      only false = refl
  first_pushed (k ∷ kept) rules rule p = more (holds_cube k.cube p) (first_pushed kept rules rule p)
    where
      more : (b : Bool) → option_or (first_of (kept ++ (rule ∷ [])) p) (first_of rules p) ≡ option_or (first_of kept p) (first_of (rule ∷ rules) p) → option_or (if b then Some k.accept else first_of (kept ++ (rule ∷ [])) p) (first_of rules p) ≡ option_or (if b then Some k.accept else first_of kept p) (first_of (rule ∷ rules) p)
      more true e = refl
      more false e = e

  module _ (rules : List (SimpleRule W)) (i : ℕ) (rule : SimpleRule W) (inside : i < length rules) (is : rule ≡ get_or rules i rule) (kept : List (SimpleRule W)) where
    pub left_out : ((s d : ℕ) → holds_cube rule.cube (service_packet service s d) ≡ false) → (s d : ℕ) → kept_and_left kept (drop (i + 1) rules) s d ≡ kept_and_left kept (drop i rules) s d
    left_out none s d = sym (ap (λ z. kept_and_left kept z s d) (drop_at rules i rule inside is) ∙ rw (none s d) refl)

    pub put_in : (kept' : List (SimpleRule W)) → kept' ≡ (kept ++ (rule ∷ [])) → (s d : ℕ) → kept_and_left kept' (drop (i + 1) rules) s d ≡ kept_and_left kept (drop i rules) s d
    put_in kept' e s d =
        ap (λ z. kept_and_left z (drop (i + 1) rules) s d) e ∙ first_pushed kept (drop (i + 1) rules) rule (service_packet service s d)
        ∙ sym (ap (λ z. kept_and_left kept z s d) (drop_at rules i rule inside is))

  pub same_accepted : (kept rules : List (SimpleRule W)) → AnswerAlike service kept rules → (policy : Verdict) → accepts_service kept policy service ≡ accepts_service rules policy service
  same_accepted kept rules e policy = λ i s d. unwrap_or (e s d i) (is_accept policy)

module _ {W : ℕ} (fixed : Fixed) (otherwise : Bool) (service : Service) (here : ℕ) where
  -- what some rules answer
  abbrev pub answered : List (SimpleRule W) → ℕ → Bool
  answered rules there = unwrap_or (first_of rules (packet_at fixed service here there)) otherwise

  -- what the sets so far and the rules that are left accept
  abbrev pub left : List Range → List Range → List (SimpleRule W) → ℕ → Bool
  left free accepted rules there = has accepted there || (has free there && answered rules there)

  module _ (rule : SimpleRule W) (rules : List (SimpleRule W)) (free accepted : List Range) where
    abbrev Before : ℕ → Bool
    Before there = left free accepted (rule ∷ rules) there

    -- a rule that holds nowhere
    pub passed : ((there : ℕ) → holds_cube rule.cube (packet_at fixed service here there) ≡ false) → (there : ℕ) → Before there ≡ left free accepted rules there
    passed none there = rw (none there) refl

    -- a rule that holds at the addresses of a set
    pub taken : (set free' accepted' : List Range) → ((there : ℕ) → holds_cube rule.cube (packet_at fixed service here there) ≡ has set there) →
        ((n : ℕ) → has free' n ≡ (has free n && not (has set n))) → ((n : ℕ) → has accepted' n ≡ (has accepted n || (rule.accept && (has free n && has set n)))) →
        (there : ℕ) → Before there ≡ left free' accepted' rules there
    taken set free' accepted' is o a there =
        rw (is there, o there, a there) (by (has set there) (has free there) (has accepted there) rule.accept)
      where
        by : (s o a v : Bool) →
            (a || (o && unwrap_or (if s then Some v else first_of rules (packet_at fixed service here there)) otherwise))
            ≡ ((a || (v && (o && s))) || ((o && not s) && answered rules there))
        by true true true v = refl
        by true true false true = refl
        by true true false false = refl
        by true false true true = refl
        by true false true false = refl
        by true false false true = refl
        by true false false false = refl
        by false o true v = refl
        by false true false true = refl
        by false true false false = refl
        by false false false true = refl
        by false false false false = refl

  -- the rules from a place on
  module _ (rules : List (SimpleRule W)) (i : ℕ) (rule : SimpleRule W) (inside : i < length rules) (is : rule ≡ get_or rules i rule) (free accepted : List Range) where
    pub passed_at : ((there : ℕ) → holds_cube rule.cube (packet_at fixed service here there) ≡ false) → (there : ℕ) → left free accepted (drop (i + 1) rules) there ≡ left free accepted (drop i rules) there
    passed_at none there = sym (ap (λ z. left free accepted z there) (drop_at rules i rule inside is) ∙ passed rule (drop (i + 1) rules) free accepted none there)

    pub taken_at : (set free' accepted' : List Range) → ((there : ℕ) → holds_cube rule.cube (packet_at fixed service here there) ≡ has set there) →
        ((n : ℕ) → has free' n ≡ (has free n && not (has set n))) → ((n : ℕ) → has accepted' n ≡ (has accepted n || (rule.accept && (has free n && has set n)))) →
        (there : ℕ) → left free' accepted' (drop (i + 1) rules) there ≡ left free accepted (drop i rules) there
    taken_at set free' accepted' holds o a there = sym (ap (λ z. left free accepted z there) (drop_at rules i rule inside is) ∙ taken rule (drop (i + 1) rules) free accepted set free' accepted' holds o a there)

-- both halves of a list
module _ {W : ℕ} where
  first_of_both : (front back : List (SimpleRule W)) (p : Packet) → first_of (front ++ back) p ≡ option_or (first_of front p) (first_of back p)
  first_of_both [] back p = refl
  first_of_both (rule ∷ front) back p = more (holds_cube rule.cube p) (first_of_both front back p)
    where
      more : (b : Bool) → first_of (front ++ back) p ≡ option_or (first_of front p) (first_of back p) →
          (if b then Some rule.accept else first_of (front ++ back) p) ≡ option_or (if b then Some rule.accept else first_of front p) (first_of back p)
      more true e = refl
      more false e = e

  first_of_halves : (half : ℕ) (rules : List (SimpleRule W)) (p : Packet) → first_of rules p ≡ option_or (first_of (take half rules) p) (first_of (drop half rules) p)
  first_of_halves half rules p = ap (λ z. first_of z p) (sym (take-append-drop half rules)) ∙ first_of_both (take half rules) (drop half rules) p

-- what the first part accepts, and where it tells nothing what the second accepts
told : (n a u c v : Bool) (f g : Option Bool) → ((b : Bool) → (a || (u && b)) ≡ (n && unwrap_or f b)) → ((b : Bool) → (c || (v && b)) ≡ (n && unwrap_or g b)) →
    (b : Bool) → ((a || (u && c)) || ((u && v) && b)) ≡ (n && unwrap_or (option_or f g) b)
told n a u c v None g one two b = grind (arith, one true, one false, two b)
told n a u c v (Some x) g one two b = grind (arith, one true, one false)

-- the first part leaves nothing
told_at_once : (n a u : Bool) (f g : Option Bool) → u ≡ false → ((b : Bool) → (a || (u && b)) ≡ (n && unwrap_or f b)) → (b : Bool) → (a || (u && b)) ≡ (n && unwrap_or (option_or f g) b)
told_at_once n a u None g e one b = grind (arith, e, one true, one false)
told_at_once n a u (Some x) g e one b = one b

module _ {W : ℕ} (fixed : Fixed) (rules : List (SimpleRule W)) (service : Service) (here half : ℕ) (first : Part W) (one : Tells fixed (take half rules) service here first) where
  of_all : (there : ℕ) (b : Bool) → (nat_lt there (2 ^ W) && unwrap_or (option_or (first_of (take half rules) (packet_at fixed service here there)) (first_of (drop half rules) (packet_at fixed service here there))) b)
      ≡ (nat_lt there (2 ^ W) && unwrap_or (first_of rules (packet_at fixed service here there)) b)
  of_all there b = ap (λ z. nat_lt there (2 ^ W) && unwrap_or z b) (sym (first_of_halves half rules (packet_at fixed service here there)))

  -- the first half leaves nothing
  pub first_tells : first.undecided ≡ [] → Tells fixed rules service here first
  first_tells e there b =
      told_at_once _ _ _ (first_of (take half rules) (packet_at fixed service here there)) (first_of (drop half rules) (packet_at fixed service here there))
      (ap (λ (set : List Range). has set there) e) (one there) b
      ∙ of_all there b

  -- both halves together
  pub both_tell : {E : Type 0} (second : Part W) → Tells fixed (drop half rules) service here second → (r : Result (Part W) E) →
      IfOk r (λ part. (n : ℕ) → has part.accepted n ≡ (has first.accepted n || (has first.undecided n && has second.accepted n))) →
      IfOk r (λ part. (n : ℕ) → has part.undecided n ≡ (has first.undecided n && has second.undecided n)) → IfOk r (Tells fixed rules service here)
  both_tell second two (Ok part) a u = λ there b.
      rw (a there, u there) (told _ _ _ _ _ (first_of (take half rules) (packet_at fixed service here there)) (first_of (drop half rules) (packet_at fixed service here there)) (one there) (two there) b)
      ∙ of_all there b
  both_tell second two (Err e) a u = tt

-- what is told of a result with one function holds with an equal one
pub over_ok : {X E F : Type 0} (r : Result X E) (Q : F → X → Type 0) {f g : F} → f ≡ g → IfOk r (Q f) → IfOk r (Q g)
over_ok r Q e h = subst (λ (z : _). IfOk r (Q z)) e h
