use Rattle.std.proofs.Common.{IsTrue, arith, subst}
use Rattle.std.proofs.lemmas.Bool.Decides.{nat_tests}
use Rattle.region_cut.specs.inner.Misses.{DestinationPorts, Flags, Misses, Protocols, SourcePorts, Sources, States, Types}
use Rattle.region_cut.proofs.UnderLaws.{no_bits_both}
use Rattle.region_cut.proofs.apart.are_apart_by_numbers.Goals as goal
use Rattle.region_cut.proofs.apart.are_apart_by_numbers.Goals.{then-a-b-eq0, else-a-b-eq0, then-a-b-eq0-2, else-a-b-eq0-2, then-sets_are_apart, else-sets_are_apart}
use Rattle.region_cut.proofs.apart.are_apart_by_numbers.Goals.{then-sets_are_apart-2, else-sets_are_apart-2, then-sets_are_apart-3, else-sets_are_apart-3, then-sets_are_apart-4, else-sets_are_apart-4}

pub returns-then-sets_are_apart-5 : goal.returns-then-sets_are_apart-5
returns-then-sets_are_apart-5 g c =
    let a = c.args.a.now in
    let b = c.args.b.now in
    let bits : IsTrue c.if-a-b-eq0.value → Misses a b = elim c.if-a-b-eq0.branch [
      | then-a-b-eq0 w ↦ λ t. States (no_bits_both a.state b.state w.if-a-b-eq0.true)
      | else-a-b-eq0 w ↦ λ t. Flags (no_bits_both a.flags b.flags (grind (arith, nat_tests, w.value-is, t)))
    ] in
    let proto : IsTrue c.if-a-b-eq0-2.value → Misses a b = elim c.if-a-b-eq0-2.branch [
      | then-a-b-eq0-2 w ↦ λ t. bits w.if-a-b-eq0-2.true
      | else-a-b-eq0-2 w ↦ λ t. Protocols (w.sets_are_apart.ensures (subst IsTrue w.value-is t))
    ] in
    let icmp : IsTrue c.if-sets_are_apart.value → Misses a b = elim c.if-sets_are_apart.branch [
      | then-sets_are_apart w ↦ λ t. proto w.if-sets_are_apart.true
      | else-sets_are_apart w ↦ λ t. Types (w.sets_are_apart-else-sets_are_apart.ensures (subst IsTrue w.value-is t))
    ] in
    let sport : IsTrue c.if-sets_are_apart-2.value → Misses a b = elim c.if-sets_are_apart-2.branch [
      | then-sets_are_apart-2 w ↦ λ t. icmp w.if-sets_are_apart-2.true
      | else-sets_are_apart-2 w ↦ λ t. SourcePorts (w.sets_are_apart-else-sets_are_apart-2.ensures (subst IsTrue w.value-is t))
    ] in
    let dport : IsTrue c.if-sets_are_apart-3.value → Misses a b = elim c.if-sets_are_apart-3.branch [
      | then-sets_are_apart-3 w ↦ λ t. sport w.if-sets_are_apart-3.true
      | else-sets_are_apart-3 w ↦ λ t. DestinationPorts (w.sets_are_apart-else-sets_are_apart-3.ensures (subst IsTrue w.value-is t))
    ] in
    elim c.if-sets_are_apart-4.branch [
      | then-sets_are_apart-4 w ↦ λ t. dport w.if-sets_are_apart-4.true
      | else-sets_are_apart-4 w ↦ λ t. Sources (w.sets_are_apart-else-sets_are_apart-4.ensures (subst IsTrue w.value-is t))
    ]
