-- What a matrix with zones or routes says of the dump itself.
use Rattle.std.proofs.Common.{◌≡◌, ◌∙◌, ◌==◌, ◌↔◌, ℕ, Bool, true, false, List, [], ◌∷◌, Contains, refl, sym, ap, subst, length, inl, inr}
use Rattle.basics.proofs.Lists.{contained, map_contains}
use Rattle.primitives.specs.declared.prim.Packet.{Packet}
use Rattle.primitives.specs.declared.prim.Prim_.{Prim_}
use Rattle.primitives.specs.Holds.{IsValid, holds_of}
use Rattle.fw_rule.specs.declared.rule.Dump.{Dump}
use Rattle.fw_rule.specs.declared.rule.Lit.{Lit}
use Rattle.fw_rule.specs.declared.rule.Rule.{Rule}
use Rattle.fw_rule.specs.declared.side.Side.{Side}
use Rattle.fw_rule.specs.Answers.{IsAccepted}
use Rattle.fw_rule.specs.Walk.{hidden_literal, literal_holds, mapped_by}
use Rattle.fw_laws.specs.Packets.{KnownAlike}
use Rattle.fw_laws.proofs.Mapping.{same_stays}
use Rattle.fw_laws.proofs.TwoPackets.{same_answers}
use Rattle.ip_partition.specs.Partition.{IsIn}
use Rattle.iface_space.specs.declared.hop.Hop.{Hop}
use Rattle.iface_space.specs.Assigned.{assigned, assigned_test}
use Rattle.iface_space.specs.Replaced.{replaced_literal}
use Rattle.iface_space.specs.Routed.{routed, routed_test}
use Rattle.iface_space.specs.Routes as route_list
use Rattle.iface_space.specs.Zones as zone_list
use Rattle.iface_space.proofs.Arriving as arriving
use Rattle.iface_space.proofs.Choosing.{are_cleared}
use Rattle.iface_space.proofs.Respecting as leaving
use Rattle.request.specs.Spaces.{AreZones, HavePrefixes, routes_of, zones_of}
use Rattle.request.specs.declared.types.Claim.{Claim}
use Rattle.simple_filter.specs.Hidden.{hidden, is_name, is_out_name, stands_in}
use Rattle.simple_filter.specs.declared.hiding.Hide.{Hide}
use Rattle.service_packet.specs.declared.service.Service.{Service}
use Rattle.service_packet.specs.Packets.{service_packet}
use Rattle.service_matrix.specs.Matrices.{has_edge}
use Rattle.service_matrix.specs.Services.{Edge, IsBetween}
use Rattle.fffuu_run.specs.Matrices.{IsMatrixText}
use Rattle.fffuu_run.specs.Respecting.{RespectsRoutes, RespectsZones, is_in_name, seen_by, with_routes, with_spaces, with_zones}
use Rattle.fffuu_run.specs.inner.Plain.{HasPlainLiterals, IsPlainLiteral}
use Rattle.fffuu_run.proofs.HiddenRules.{rule_from}
use Rattle.fffuu_run.proofs.MappedTwice.{accepted_same, mapped_twice}
use Rattle.fffuu_run.proofs.PlainTests.{AlikeTest, known_alike, literal_same, no_ports, nothing_hidden, replaced_twice}

module _ {W : ℕ} where
  -- where there are some
  pub some_zones : (claims : List Claim) (dump : Dump (Prim_ W)) (b : Bool) → b ≡ (length claims == 0) → b ≡ false → with_zones claims dump ≡ assigned (zones_of W claims) dump
  some_zones [] dump b test off = absurd (let e : true ≡ false = sym test ∙ off in cc)
  some_zones (claim ∷ claims) dump b test off = refl

  pub some_routes : (hops : List Hop) (dump : Dump (Prim_ W)) (b : Bool) → b ≡ (length hops == 0) → b ≡ false → with_routes hops dump ≡ routed (routes_of W hops) dump
  some_routes [] dump b test off = absurd (let e : true ≡ false = sym test ∙ off in cc)
  some_routes (hop ∷ hops) dump b test off = refl

module _ {W : ℕ} where
  -- the test that stands in place of another
  abbrev image : List Claim → List Hop → Prim_ W → Prim_ W
  image [] [] = λ x. x
  image (claim ∷ claims) [] = assigned_test (zones_of W (claim ∷ claims))
  image [] (hop ∷ hops) = routed_test (routes_of W (hop ∷ hops))
  image (claim ∷ claims) (hop ∷ hops) = λ x. routed_test (routes_of W (hop ∷ hops)) (assigned_test (zones_of W (claim ∷ claims)) x)

  -- a literal with it, and with the tests of names hidden
  abbrev nameless : List Claim → List Hop → Lit (Prim_ W) → Lit (Prim_ W)
  nameless claims hops lit = hidden_literal (stands_in is_name) (replaced_literal (image claims hops) lit)

  -- what is left after hiding is a mapping of the dump
  left_dump : (claims : List Claim) (hops : List Hop) (dump : Dump (Prim_ W)) → (claims ≡ [] → hops ≡ [] → ⊥)
      → hidden Hide.BothNames (with_spaces claims hops dump) ≡ mapped_by (nameless claims hops) dump
  left_dump [] [] dump some = absurd (some refl refl)
  left_dump (claim ∷ claims) [] dump some =
      mapped_twice (hidden_literal (stands_in is_name)) (replaced_literal (image (claim ∷ claims) [])) (nameless (claim ∷ claims) []) (λ lit. refl) dump
  left_dump [] (hop ∷ hops) dump some =
      mapped_twice (hidden_literal (stands_in is_name)) (replaced_literal (image [] (hop ∷ hops))) (nameless [] (hop ∷ hops)) (λ lit. refl) dump
  left_dump (claim ∷ claims) (hop ∷ hops) dump some =
      let r = routed_test (routes_of W (hop ∷ hops)) in
      let z = assigned_test (zones_of W (claim ∷ claims)) in
      ap (mapped_by (hidden_literal (stands_in is_name)))
      (mapped_twice (replaced_literal r) (replaced_literal z) (replaced_literal (image (claim ∷ claims) (hop ∷ hops))) (replaced_twice r z) dump)
      ∙ mapped_twice (hidden_literal (stands_in is_name)) (replaced_literal (image (claim ∷ claims) (hop ∷ hops))) (nameless (claim ∷ claims) (hop ∷ hops)) (λ lit. refl) dump

  module _ (p : Packet) (valid : IsValid W p) where
    zones_alike : (claims : List Claim) → AreZones W claims → zone_list.Respects (zones_of W claims) p → (x : Prim_ W) → AlikeTest (assigned_test (zones_of W claims)) is_out_name p x
    zones_alike claims are respects (Prim_.InName pattern) = inr (refl, refl, leaving.test_same (zones_of W claims) are.1 p respects valid (Prim_.InName pattern))
    zones_alike claims are respects (Prim_.OutName pattern) = inl (refl, refl)
    zones_alike claims are respects (Prim_.Src set) = inr (refl, refl, refl)
    zones_alike claims are respects (Prim_.Dst set) = inr (refl, refl, refl)
    zones_alike claims are respects (Prim_.Proto proto) = inr (refl, refl, refl)
    zones_alike claims are respects (Prim_.SrcPorts ports) = inr (refl, refl, refl)
    zones_alike claims are respects (Prim_.DstPorts ports) = inr (refl, refl, refl)
    zones_alike claims are respects (Prim_.Flags mask comp) = inr (refl, refl, refl)
    zones_alike claims are respects (Prim_.State states) = inr (refl, refl, refl)
    zones_alike claims are respects (Prim_.IcmpKind m) = inr (refl, refl, refl)
    zones_alike claims are respects Prim_.Always = inr (refl, refl, refl)

    routes_alike : (hops : List Hop) → HavePrefixes W hops → route_list.Respects W (routes_of W hops) p → (x : Prim_ W) → AlikeTest (routed_test (routes_of W hops)) is_in_name p x
    routes_alike hops differ respects (Prim_.InName pattern) = inl (refl, refl)
    routes_alike hops differ respects (Prim_.OutName pattern) = inr (refl, refl, arriving.test_same (routes_of W hops) (are_cleared W hops) differ p respects valid (Prim_.OutName pattern))
    routes_alike hops differ respects (Prim_.Src set) = inr (refl, refl, refl)
    routes_alike hops differ respects (Prim_.Dst set) = inr (refl, refl, refl)
    routes_alike hops differ respects (Prim_.Proto proto) = inr (refl, refl, refl)
    routes_alike hops differ respects (Prim_.SrcPorts ports) = inr (refl, refl, refl)
    routes_alike hops differ respects (Prim_.DstPorts ports) = inr (refl, refl, refl)
    routes_alike hops differ respects (Prim_.Flags mask comp) = inr (refl, refl, refl)
    routes_alike hops differ respects (Prim_.State states) = inr (refl, refl, refl)
    routes_alike hops differ respects (Prim_.IcmpKind m) = inr (refl, refl, refl)
    routes_alike hops differ respects Prim_.Always = inr (refl, refl, refl)

    both_alike : (claims : List Claim) (hops : List Hop) → AreZones W claims → zone_list.Respects (zones_of W claims) p → HavePrefixes W hops
        → route_list.Respects W (routes_of W hops) p → (x : Prim_ W) → AlikeTest (λ x. routed_test (routes_of W hops) (assigned_test (zones_of W claims) x)) (λ x. false) p x
    both_alike claims hops are respects differ keeps (Prim_.InName pattern) =
        inr (refl, refl, leaving.test_same (zones_of W claims) are.1 p respects valid (Prim_.InName pattern))
    both_alike claims hops are respects differ keeps (Prim_.OutName pattern) = inr (refl, refl, arriving.test_same (routes_of W hops) (are_cleared W hops) differ p keeps valid (Prim_.OutName pattern))
    both_alike claims hops are respects differ keeps (Prim_.Src set) = inr (refl, refl, refl)
    both_alike claims hops are respects differ keeps (Prim_.Dst set) = inr (refl, refl, refl)
    both_alike claims hops are respects differ keeps (Prim_.Proto proto) = inr (refl, refl, refl)
    both_alike claims hops are respects differ keeps (Prim_.SrcPorts ports) = inr (refl, refl, refl)
    both_alike claims hops are respects differ keeps (Prim_.DstPorts ports) = inr (refl, refl, refl)
    both_alike claims hops are respects differ keeps (Prim_.Flags mask comp) = inr (refl, refl, refl)
    both_alike claims hops are respects differ keeps (Prim_.State states) = inr (refl, refl, refl)
    both_alike claims hops are respects differ keeps (Prim_.IcmpKind m) = inr (refl, refl, refl)
    both_alike claims hops are respects differ keeps Prim_.Always = inr (refl, refl, refl)

  -- what is accepted of such a packet with the tests of names hidden is what is accepted of it in the dump itself
  module _ (dump : Dump (Prim_ W)) (plain : HasPlainLiterals dump) (side : Side) (chain : ℕ) (p : Packet) (valid : IsValid W p) where
    seen_alike : (claims : List Claim) (hops : List Hop) → (claims ≡ [] → hops ≡ [] → ⊥) → AreZones W claims → HavePrefixes W hops → RespectsZones W claims p
        → RespectsRoutes W hops p → IsAccepted holds_of side (mapped_by (nameless claims hops) dump) chain p ↔ IsAccepted holds_of side (seen_by claims hops dump) chain p
    seen_alike [] [] some are differ respects keeps = absurd (some refl refl)
    seen_alike (claim ∷ claims) [] some are differ respects keeps =
        accepted_same (nameless (claim ∷ claims) []) (hidden_literal (stands_in is_out_name)) p
        (literal_same (image (claim ∷ claims) []) is_out_name (no_ports is_out_name (λ n rs. refl) (λ n rs. refl)) p (zones_alike p valid (claim ∷ claims) are respects))
        dump plain side chain
    seen_alike [] (hop ∷ hops) some are differ respects keeps =
        accepted_same (nameless [] (hop ∷ hops)) (hidden_literal (stands_in is_in_name)) p
        (literal_same (image [] (hop ∷ hops)) is_in_name (no_ports is_in_name (λ n rs. refl) (λ n rs. refl)) p (routes_alike p valid (hop ∷ hops) differ keeps))
        dump plain side chain
    seen_alike (claim ∷ claims) (hop ∷ hops) some are differ respects keeps =
        let none : Prim_ W → Bool = λ x. false in
        let f = nameless (claim ∷ claims) (hop ∷ hops) in
        let alike = accepted_same f (λ lit. lit) p
        (λ m place lit is. literal_same (image (claim ∷ claims) (hop ∷ hops)) none (no_ports none (λ n rs. refl) (λ n rs. refl)) p
        (both_alike p valid (claim ∷ claims) (hop ∷ hops) are respects differ keeps) m place lit is
        ∙ ap (literal_holds holds_of p m place) (nothing_hidden lit is)) dump plain side chain in
        subst (λ (d : Dump (Prim_ W)). IsAccepted holds_of side (mapped_by f dump) chain p ↔ IsAccepted holds_of side d chain p) (same_stays dump (λ lit. lit) (λ lit. refl)) alike

    -- with the tests of names hidden the names of a packet don't count
    module _ (claims : List Claim) (hops : List Hop) (q : Packet) (same : (x : Prim_ W) → is_name x ≡ false → holds_of x q ≡ holds_of x p) where
      left_known : KnownAlike (holds_of {W = W}) (mapped_by (nameless claims hops) dump) chain q p
      left_known c rule neg expr reach of there =
          let (first, of_first, is) = rule_from (nameless claims hops) dump c rule of in
          let (lit, inside, mapped) = map_contains (nameless claims hops) first.lits (Lit.Known neg expr) (subst (λ (r : Rule (Prim_ W)). Contains r.lits (Lit.Known neg expr)) (sym is) there) in
          known_alike (image claims hops) q p same neg expr lit (contained IsPlainLiteral first.lits lit (plain c first of_first) inside) mapped

      names_alike : (on : Side) → IsAccepted holds_of on (mapped_by (nameless claims hops) dump) chain q ↔ IsAccepted holds_of on (mapped_by (nameless claims hops) dump) chain p
      names_alike Side.Upper = (same_answers holds_of (mapped_by (nameless claims hops) dump) chain q p left_known).0
      names_alike Side.Lower = (same_answers holds_of (mapped_by (nameless claims hops) dump) chain q p left_known).1

module _ {W : ℕ} (service : Service) (s d : ℕ) (p : Packet) (between : IsBetween service s d p) where
  other_tests : (x : Prim_ W) → is_name x ≡ false → holds_of x (service_packet service s d) ≡ holds_of x p
  other_tests (Prim_.InName pattern) none = let e : true ≡ false = none in absurd (cc)
  other_tests (Prim_.OutName pattern) none = let e : true ≡ false = none in absurd (cc)
  other_tests (Prim_.Src set) none = sym (ap (λ (z : Packet). holds_of {W = W} (Prim_.Src set) z) between)
  other_tests (Prim_.Dst set) none = sym (ap (λ (z : Packet). holds_of {W = W} (Prim_.Dst set) z) between)
  other_tests (Prim_.Proto proto) none = sym (ap (λ (z : Packet). holds_of {W = W} (Prim_.Proto proto) z) between)
  other_tests (Prim_.SrcPorts ports) none = sym (ap (λ (z : Packet). holds_of {W = W} (Prim_.SrcPorts ports) z) between)
  other_tests (Prim_.DstPorts ports) none = sym (ap (λ (z : Packet). holds_of {W = W} (Prim_.DstPorts ports) z) between)
  other_tests (Prim_.Flags mask comp) none = sym (ap (λ (z : Packet). holds_of {W = W} (Prim_.Flags mask comp) z) between)
  other_tests (Prim_.State states) none = sym (ap (λ (z : Packet). holds_of {W = W} (Prim_.State states) z) between)
  other_tests (Prim_.IcmpKind m) none = sym (ap (λ (z : Packet). holds_of {W = W} (Prim_.IcmpKind m) z) between)
  other_tests Prim_.Always none = refl

module _ {W : ℕ} (text_of : ℕ → List ℕ) (side : Side) (service : Service) (dump : Dump (Prim_ W)) (plain : HasPlainLiterals dump) (chain : ℕ) where
  -- so an edge tells of the dump itself
  module _ (claims : List Claim) (hops : List Hop) (some : claims ≡ [] → hops ≡ [] → ⊥) (are : AreZones W claims) (differ : HavePrefixes W hops) where
    edge_tells : (s d : ℕ) (p : Packet) → IsValid W p → IsBetween service s d p → RespectsZones W claims p → RespectsRoutes W hops p
        → Edge side (with_spaces claims hops dump) chain service s d ↔ IsAccepted holds_of side (seen_by claims hops dump) chain p
    edge_tells s d p valid between respects keeps =
        let names = names_alike dump plain side chain p valid claims hops (service_packet service s d) (other_tests service s d p between) side in
        let seen = seen_alike dump plain side chain p valid claims hops some are differ respects keeps in
        subst (λ (other : Dump (Prim_ W)). IsAccepted holds_of side other chain (service_packet service s d) ↔ IsAccepted holds_of side (seen_by claims hops dump) chain p)
        (sym (left_dump claims hops dump some)) (λ x. seen.0 (names.0 x), λ x. names.1 (seen.1 x))

    told : (written : List ℕ) (m : IsMatrixText text_of side service [] [] (with_spaces claims hops dump) chain written) (i j s d : ℕ)
        → IsIn m.matrix.classes i s → IsIn m.matrix.classes j d → (p : Packet) → IsValid W p → IsBetween service s d p → RespectsZones W claims p → RespectsRoutes W hops p
        → (has_edge m.matrix.edges i j ≡ true) ↔ IsAccepted holds_of side (seen_by claims hops dump) chain p
    told written m i j s d x y p valid between respects keeps =
        let edge = m.right.edges_are i j s d x y in
        let tells = edge_tells s d p valid between respects keeps in
        (λ h. tells.0 (edge.0 h), λ h. edge.1 (tells.1 h))

  pub matrix_with : (claims : List Claim) (hops : List Hop) → AreZones W claims → HavePrefixes W hops → (written : List ℕ)
      → IsMatrixText text_of side service [] [] (with_spaces claims hops dump) chain written → IsMatrixText text_of side service claims hops dump chain written
  matrix_with [] [] are differ written m = m
  matrix_with (claim ∷ claims) [] are differ written m = record {
    matrix = m.matrix;
    right = m.right;
    coarsest = m.coarsest;
    says = told (claim ∷ claims) [] (λ e f. absurd (cc)) are differ written m;
    written_is = m.written_is;
  }
  matrix_with [] (hop ∷ hops) are differ written m = record {
    matrix = m.matrix;
    right = m.right;
    coarsest = m.coarsest;
    says = told [] (hop ∷ hops) (λ e f. absurd (cc)) are differ written m;
    written_is = m.written_is;
  }
  matrix_with (claim ∷ claims) (hop ∷ hops) are differ written m = record {
    matrix = m.matrix;
    right = m.right;
    coarsest = m.coarsest;
    says = told (claim ∷ claims) (hop ∷ hops) (λ e f. absurd (cc)) are differ written m;
    written_is = m.written_is;
  }
