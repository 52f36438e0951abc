use Rattle.std.proofs.Common.{ap, arith, length}
use Rattle.box_norm.specs.Pieces.{pieces_of}
use Rattle.box_norm.specs.Regular.{IsRegular}
use Rattle.box_norm.proofs.Loops.{pieces_turn}
use Rattle.box_norm.proofs.RegularLaws.{all_append, all_item, pieces_regular}
use Rattle.box_norm.proofs.cuts.pieces_where.Goals as goal

pub loop-cube-preserved : goal.loop-cube-preserved
loop-cube-preserved g c =
    let x = c.cube-item.result in
    record {
      pieces = rw c.in_ok-push_pieces.ensures.pieces (pieces_turn (pieces_of c.args.holds c.args.x.now) c.args.list.now c.loop-cube.cube-index x c.loop-cube.out.items c.loop-cube-test.true c.cube-item.is c.loop-cube.invariant.pieces);
      small = omega (arith, ap length c.in_ok-push_pieces.ensures.pieces, c.len.ensures, c.if-len-gt-MOST_CUBES.false);
      regular = λ h. rw c.in_ok-push_pieces.ensures.pieces (all_append IsRegular c.loop-cube.out.items (pieces_of c.args.holds c.args.x.now x) (c.loop-cube.invariant.regular h)
          (pieces_regular c.args.holds c.args.x.now x c.in_ok-push_pieces.ensures.sound (all_item IsRegular c.args.list.now c.loop-cube.cube-index x c.loop-cube-test.true c.cube-item.is h)));
    }
