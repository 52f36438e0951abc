use Rattle.std.proofs.Common.{◌≡◌, ◌<◌, ◌==◌, ℕ, Bool, true, false, List, [], if◌then◌else◌, sym, ◌∙◌, subst, arith}
use Rattle.name_set.specs.Bytes.{AreBytes}
use Rattle.service_packet.specs.Packets.{opening_flags}
use Rattle.service_packet.proofs.service.opening_packet.Goals as goal

few_flags : (proto flags : ℕ) → flags ≡ opening_flags proto → flags < 64
few_flags proto flags e = let small = by (proto == 6) in omega (arith, e, small)
  where
    by : (b : Bool) → (if b then 2 else 0) < 64
    by true = omega arith
    by false = omega arith

pub returns-clause-valid : goal.returns-clause-valid
returns-clause-valid c W hs hd = record {
  in_name = subst AreBytes (sym (c.of.ensures ∙ c.new.ensures.items)) tt;
  out_name = subst AreBytes (sym (c.of-2.ensures ∙ c.new-2.ensures.items)) tt;
  src = hs;
  dst = hd;
  proto = omega arith;
  sport = omega arith;
  dport = omega arith;
  flags = few_flags _ c.opening_flags.result c.opening_flags.ensures;
  state = omega arith;
  icmp = omega arith;
}
