use Rattle.std.proofs.Common.{◌≡◌, ◌∙◌, ◌++◌, ap, length, ℕ, List, [], arith, append-nil, refl, sym, subst, take, drop, rules}
use Rattle.std.specs.Io.KnownBytes.{Consumes}
use Rattle.std.proofs.KnownBytes.{Consumes-nil}
use Rattle.fffuu_run.proofs.Feeding.{ended_now, take_front, fed_next, gives_too_long, gives_whole, too_long, whole}
use Rattle.fffuu_run.proofs.reading.read_through.Goals as goal

pub loop-count-init : goal.loop-count-init
loop-count-init g c = (
  omega arith,
  refl,
  (
    [],
    record {
      fed = c.requires.empty;
      taken = Consumes-nil (g.S.Source.left c.args.source.now);
      given = sym (append-nil (g.S.Source.given c.args.source.now));
      size_is = refl;
    },
  ),
)

pub returns-then-count-eq0-clause-whole : goal.returns-then-count-eq0-clause-whole
returns-then-count-eq0-clause-whole g c =
    let text = c.loop-count.invariant.2.0 in
    let so_far = c.loop-count.invariant.2.1 in (
      text,
      (
        so_far.fed,
        (
          whole (g.T.Taker.taken c.loop-count.taker) text c.loop-count.size (g.S.Source.left c.args.source.now) (g.S.Source.left c.loop-count.source) (g.S.Source.left c.read.new.self)
              (g.S.Source.given c.args.source.now) (g.S.Source.given c.loop-count.source) (g.S.Source.given c.read.new.self) so_far c.loop-count.invariant.0
              (subst (λ (n : ℕ). Consumes (g.S.Source.left c.loop-count.source) (g.S.Source.left c.read.new.self) (take n c.read.new.buf)) c.if-count-eq0.true c.in-Ok.ensures.bytes.0)
              (c.in-Ok.ensures.bytes.1 c.if-count-eq0.true (search rules)),
          gives_whole (g.T.Taker.taken c.loop-count.taker) text c.loop-count.size (g.S.Source.left c.args.source.now) (g.S.Source.left c.loop-count.source) (g.S.Source.left c.read.new.self)
              (g.S.Source.given c.args.source.now) (g.S.Source.given c.loop-count.source) (g.S.Source.given c.read.new.self) so_far (g.S.Source.ended c.args.source.now) (g.S.Source.ended c.read.new.self) c.loop-count.invariant.0
              (subst (λ (n : ℕ). g.S.Source.given c.read.new.self ≡ g.S.Source.given c.loop-count.source ++ take n c.read.new.buf) c.if-count-eq0.true c.in-Ok.ensures.gives)
              (ended_now (g.S.Source.ended c.loop-count.source) c.in-Ok.count c.read.new.buf (g.S.Source.ended c.read.new.self) c.in-Ok.ensures.ends c.if-count-eq0.true (search rules)),
        ),
      ),
    )

pub returns-then-size-count-clause-too_long : goal.returns-then-size-count-clause-too_long
returns-then-size-count-clause-too_long g c = λ is. (
  c.loop-count.invariant.2.0 ++ take c.in-Ok.count c.read.new.buf,
  too_long (g.T.Taker.taken c.loop-count.taker) c.loop-count.invariant.2.0 c.loop-count.size (g.S.Source.left c.args.source.now) (g.S.Source.left c.loop-count.source) (g.S.Source.left c.read.new.self)
      (g.S.Source.given c.args.source.now) (g.S.Source.given c.loop-count.source) (g.S.Source.given c.read.new.self) c.loop-count.invariant.2.1
      c.read.new.buf c.in-Ok.count c.in-Ok.ensures.bound.0 c.in-Ok.ensures.bytes.0 c.in-Ok.ensures.gives c.loop-count.invariant.0 c.if-size-count.true (search rules),
)

pub returns-then-size-count-clause-gives_too_much : goal.returns-then-size-count-clause-gives_too_much
returns-then-size-count-clause-gives_too_much g c = λ is. (
  c.loop-count.invariant.2.0 ++ take c.in-Ok.count c.read.new.buf,
  gives_too_long (g.T.Taker.taken c.loop-count.taker) c.loop-count.invariant.2.0 c.loop-count.size (g.S.Source.left c.args.source.now) (g.S.Source.left c.loop-count.source) (g.S.Source.left c.read.new.self)
      (g.S.Source.given c.args.source.now) (g.S.Source.given c.loop-count.source) (g.S.Source.given c.read.new.self) c.loop-count.invariant.2.1
      c.read.new.buf c.in-Ok.count c.in-Ok.ensures.bound.0 c.in-Ok.ensures.bytes.0 c.in-Ok.ensures.gives (g.S.Source.ended c.args.source.now) (g.S.Source.ended c.read.new.self)
      c.loop-count.invariant.0 c.if-size-count.true (search rules),
)

pub loop-count-preserved : goal.loop-count-preserved
loop-count-preserved g c = (
  omega (arith, c.if-size-count.false, c.loop-count.invariant.0),
  c.in-Ok.ensures.steady ∙ c.loop-count.invariant.1,
  (
    c.loop-count.invariant.2.0 ++ take c.in-Ok.count c.read.new.buf,
    fed_next (g.T.Taker.taken c.loop-count.taker) c.loop-count.invariant.2.0 c.loop-count.size (g.S.Source.left c.args.source.now) (g.S.Source.left c.loop-count.source) (g.S.Source.left c.read.new.self)
        (g.S.Source.given c.args.source.now) (g.S.Source.given c.loop-count.source) (g.S.Source.given c.read.new.self) c.loop-count.invariant.2.1
        c.read.new.buf c.in-Ok.count c.in-Ok.ensures.bound.0 c.in-Ok.ensures.bytes.0 c.in-Ok.ensures.gives (g.T.Taker.taken c.take.new.self) (subst (λ (piece : List ℕ). g.T.Taker.taken c.take.new.self (c.loop-count.invariant.2.0 ++ piece))
        (take_front c.in-Ok.count c.read.new.buf (drop c.min-room.result c.loop-count.buffer) c.in-Ok.ensures.bound.0) (c.in_ok-take.ensures.takes c.loop-count.invariant.2.0 c.loop-count.invariant.2.1.fed)),
  ),
)

pub take-requires : goal.take-requires
take-requires g c =
    let so_far = c.loop-count.invariant.2.1 in
    let piece = take_front c.in-Ok.count c.read.new.buf (drop c.min-room.result c.loop-count.buffer) c.in-Ok.ensures.bound.0 in
    record {
      fits = (
        c.loop-count.invariant.2.0,
        (so_far.fed, omega (arith, so_far.size_is, c.in-Ok.ensures.bound, ap length piece, c.if-size-count.false, c.loop-count.invariant.0)),
      );
    }
