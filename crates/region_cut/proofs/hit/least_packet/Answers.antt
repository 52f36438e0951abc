use Rattle.region_cut.proofs.LeastLaws.{low_bit}
use Rattle.region_cut.proofs.hit.least_packet.Goals as goal

pub returns : goal.returns
returns g c = (
  record {
    in_name = rw c.in-Some.is at c.in_ok-in_name.ensures;
    out_name = rw c.in-Some-2.is at c.in_ok-out_name.ensures;
    src = c.in-Some-least_number.ensures.least;
    dst = c.in-Some-least_number-2.ensures.least;
    proto = c.in-Some-least_number-3.ensures.least;
    sport = c.in-Some-least_number-4.ensures.least;
    dport = c.in-Some-least_number-5.ensures.least;
    flags = c.in-Some-least_bit.ensures.least;
    state = c.in-Some-least_bit-2.ensures.least;
    icmp = c.in-Some-least_number-6.ensures.least;
  },
  record {
    in_name = (rw c.in-Some.is at c.in_ok-in_name.ensures).0;
    out_name = (rw c.in-Some-2.is at c.in_ok-out_name.ensures).0;
    src = c.in-Some-least_number.ensures.below;
    dst = c.in-Some-least_number-2.ensures.below;
    proto = c.in-Some-least_number-3.ensures.below;
    sport = c.in-Some-least_number-4.ensures.below;
    dport = c.in-Some-least_number-5.ensures.below;
    flags = c.in-Some-least_bit.ensures.below;
    state = low_bit c.args.cube.now.state c.in-Some-least_bit-2.state c.requires c.in-Some-least_bit-2.ensures.least.0;
    icmp = c.in-Some-least_number-6.ensures.below;
  },
)
