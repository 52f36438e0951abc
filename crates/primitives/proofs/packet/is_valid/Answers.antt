use Rattle.std.proofs.Common.{arith, subst}
use Rattle.std.proofs.lemmas.Bool.Decides.{nat_tests}
use Rattle.name_set.specs.Bytes.{AreBytes}
use Rattle.name_set.proofs.ByteLists.{bytes_of}
use Rattle.primitives.proofs.packet.is_valid.Goals as goal

pub returns : goal.returns
returns g c = (
  λ is. record {
    in_name = subst AreBytes c.requires.input (bytes_of c.args.in_name.now c.type_inv.in_name);
    out_name = subst AreBytes c.requires.output (bytes_of c.args.out_name.now c.type_inv.out_name);
    src = c.fits.ensures.0 c.if-not-fits.false;
    dst = c.fits-2.ensures.0 c.if-not-fits-2.false;
    proto = omega arith;
    sport = omega arith;
    dport = omega arith;
    flags = c.if-p-ge64.false;
    state = grind (arith, nat_tests, is);
    icmp = omega arith;
  },
  λ v. let small = v.state in grind (arith, nat_tests, small),
)
