-- No edge tells the addresses of a group apart.
use Rattle.std.proofs.Common.{◌≡◌, ℕ, zero, suc, ◌^◌, ◌<◌, inl, inr, ◌↔◌, Bool, true, List, [], ◌∷◌, length, None, Some, slice_get, Contains, refl, subst, arith}
use Rattle.std.specs.List.{AllByRecursion}
use Rattle.basics.proofs.Lists.{contained, each_at, each_placed, in_bounds}
use Rattle.basics.proofs.Truths.{same_truth}
use Rattle.interval_set.specs.declared.set.Range.{Range}
use Rattle.interval_set.specs.Numbers.{has, IsSet}
use Rattle.ip_partition.specs.Boundaries.{HasBoundaries}
use Rattle.ip_partition.specs.Groups.{AreGroups, LieAlike}
use Rattle.ip_partition.specs.Partition.{IsIn}
use Rattle.primitives.specs.declared.prim.Packet.{Packet}
use Rattle.primitives.specs.declared.prim.Prim_.{Prim_}
use Rattle.primitives.specs.Holds.{IsValid, holds_of}
use Rattle.fw_rule.specs.declared.rule.Dump.{Dump}
use Rattle.fw_rule.specs.declared.rule.Verdict.{Verdict}
use Rattle.fw_rule.specs.declared.side.Side.{Side}
use Rattle.box_norm.specs.declared.cube.SimpleRule.{SimpleRule}
use Rattle.fw_rule.specs.Answers.{IsAccepted}
use Rattle.simple_filter.specs.Closed.{Accepts}
use Rattle.service_packet.specs.declared.service.Service.{Service}
use Rattle.service_packet.specs.Packets.{service_packet}
use Rattle.service_matrix.specs.inner.AddressSets.{AreAddressSets}
use Rattle.service_matrix.specs.inner.Classes.{IsGroup}
use Rattle.service_matrix.specs.Laws.{PassAlike}
use Rattle.service_matrix.specs.Refusals.{IsAddressSet}
use Rattle.service_matrix.specs.Services.{accepts_service}
use Rattle.service_matrix.proofs.Alike.{answered_alike}
use Rattle.service_matrix.proofs.OneMatrix.{set_below}

member : (groups : List (List Range)) (i : ℕ) (group : List Range) → i < length groups → slice_get groups i ≡ Some group → (n : ℕ) → IsIn groups i n → has group n ≡ true
member groups i group h e n x = let same : x.0 ≡ group = cc (x.1, e) in subst (λ (z : List Range). has z n ≡ true) same x.2

module _ {W : ℕ} (dump : Dump (Prim_ W)) (chain : ℕ) where
  -- packets that pass alike are accepted alike
  pub accepted_alike : (side : Side) (p q : Packet) → PassAlike dump chain p q → IsAccepted holds_of side dump chain p → IsAccepted holds_of side dump chain q
  accepted_alike Side.Upper p q alike h = ((answered_alike dump chain p q).may alike).0 h
  accepted_alike Side.Lower p q alike h = ((answered_alike dump chain p q).must alike).0 h

  module _ (sets : List (List Range)) (are : AreAddressSets dump chain sets) where
    -- the boundaries of the sets in reach are those of the listed ones
    pub boundaries : (count : ℕ) → HasBoundaries W (Contains sets) count → HasBoundaries W (IsAddressSet dump chain) count
    boundaries count h = record {
      numbers = h.numbers;
      ascend = h.ascend;
      all = λ n. (
        λ c. let t = (h.all n).0 c in (t.0, (are t.0).0 t.1, t.2),
        λ t. (h.all n).1 (t.0, (are t.0).1 t.1, t.2),
      );
      count_is = h.count_is;
    }

    module _ (service : Service) where
      from_alike : (s t d : ℕ) → LieAlike sets s t → PassAlike dump chain (service_packet service s d) (service_packet service t d)
      from_alike s t d lie (Prim_.Src set) k = contained (λ set. has set s ≡ has set t) sets set lie ((are set).1 (Prim_.Src set, k, inl refl))
      from_alike s t d lie (Prim_.Dst set) k = refl
      from_alike s t d lie (Prim_.InName pattern) k = refl
      from_alike s t d lie (Prim_.OutName pattern) k = refl
      from_alike s t d lie (Prim_.Proto proto) k = refl
      from_alike s t d lie (Prim_.SrcPorts ports) k = refl
      from_alike s t d lie (Prim_.DstPorts ports) k = refl
      from_alike s t d lie (Prim_.Flags mask comp) k = refl
      from_alike s t d lie (Prim_.State states) k = refl
      from_alike s t d lie (Prim_.IcmpKind m) k = refl
      from_alike s t d lie Prim_.Always k = refl

      to_alike : (s d e : ℕ) → LieAlike sets d e → PassAlike dump chain (service_packet service s d) (service_packet service s e)
      to_alike s d e lie (Prim_.Src set) k = refl
      to_alike s d e lie (Prim_.Dst set) k = contained (λ set. has set d ≡ has set e) sets set lie ((are set).1 (Prim_.Dst set, k, inr refl))
      to_alike s d e lie (Prim_.InName pattern) k = refl
      to_alike s d e lie (Prim_.OutName pattern) k = refl
      to_alike s d e lie (Prim_.Proto proto) k = refl
      to_alike s d e lie (Prim_.SrcPorts ports) k = refl
      to_alike s d e lie (Prim_.DstPorts ports) k = refl
      to_alike s d e lie (Prim_.Flags mask comp) k = refl
      to_alike s d e lie (Prim_.State states) k = refl
      to_alike s d e lie (Prim_.IcmpKind m) k = refl
      to_alike s d e lie Prim_.Always k = refl

      module _ (groups : List (List Range)) (h : AreGroups W sets groups) (side : Side) (policy : Verdict) (rules : List (SimpleRule W)) (accepts : Accepts side dump chain policy rules)
          (valid : (s d : ℕ) → s < 2 ^ W → d < 2 ^ W → IsValid W (service_packet service s d)) where
        abbrev F : ℕ → ℕ → Bool
        F = accepts_service rules policy service

        pub means : (s d : ℕ) → s < 2 ^ W → d < 2 ^ W → (F s d ≡ true) ↔ IsAccepted holds_of side dump chain (service_packet service s d)
        means s d x y = accepts (service_packet service s d) (valid s d x y)

        module _ (i : ℕ) (group : List Range) (e : slice_get groups i ≡ Some group) where
          small : (n : ℕ) → has group n ≡ true → n < 2 ^ W
          small n x = set_below W group n (each_at (IsSet W) groups i group h.partition.sets e) x

          lie : (a b : ℕ) → has group a ≡ true → has group b ≡ true → LieAlike sets a b
          lie a b x y = (h.together a b (small a x) (small b y)).0 (i, (group, e, x), (group, e, y))

          same_from : (s t d : ℕ) → has group s ≡ true → has group t ≡ true → d < 2 ^ W → F s d ≡ true → F t d ≡ true
          same_from s t d x y z k = (means t d (small t y) z).1 (accepted_alike side (service_packet service s d) (service_packet service t d) (from_alike s t d (lie s t x y)) ((means s d (small s x) z).0 k))

          same_to : (s d t : ℕ) → has group d ≡ true → has group t ≡ true → s < 2 ^ W → F s d ≡ true → F s t ≡ true
          same_to s d t x y z k = (means s t z (small t y)).1 (accepted_alike side (service_packet service s d) (service_packet service s t) (to_alike s d t (lie d t x y)) ((means s d z (small d x)).0 k))

        pub are_groups : AllByRecursion (IsGroup W F) groups
        are_groups = each_placed (IsGroup W F) groups (λ i group e. let inside = in_bounds groups i group e in let n = h.partition.some i inside in record {
          range = each_at (IsSet W) groups i group h.partition.sets e;
          some = (n.0, member groups i group inside e n.0 n.1);
          from = λ s t d x y z. same_truth (F s d) (F t d) (same_from i group e s t d x y z) (same_from i group e t s d y x z);
          to = λ s d t x y z. same_truth (F s d) (F s t) (same_to i group e s d t x y z) (same_to i group e s t d y x z);
        })
