use Rattle.std.proofs.Common.{◌≡◌, ◌∙◌, false, true, sym, subst, arith, rules}
use Rattle.dump_grammar.specs.ChainLines.{IsDigits}
use Rattle.dump_grammar.proofs.CounterLemmas.{counter_halves, counter_parted, one_last, some_last, spelled_as}
use Rattle.dump_grammar.proofs.counters.is_counter_text.Goals as goal

pub returns-in_default-parted : goal.returns-in_default-parted
returns-in_default-parted c = (
  λ t. let e : false ≡ true = t in cc,
  λ counter. absurd (counter_parted _ _ _ c.in-Some.ensures.some c.in_default-parted.ensures.none counter),
)

pub returns-in_default-last_byte : goal.returns-in_default-last_byte
returns-in_default-last_byte c = (
  λ t. let e : false ≡ true = t in cc,
  λ counter.
      let halves = counter_halves _ _ _ _ _ c.in-Some.ensures.some c.in-Some-parted.ensures.some.0 c.in-Some-parted.ensures.some.1 counter in
      absurd (some_last counter.bytes 93 (sym c.in_default-last_byte.ensures.none ∙ halves.1)),
)

pub returns-then-close-ne93 : goal.returns-then-close-ne93
returns-then-close-ne93 c = (
  λ t. let e : false ≡ true = t in cc,
  λ counter.
      let halves = counter_halves _ _ _ _ _ c.in-Some.ensures.some c.in-Some-parted.ensures.some.0 c.in-Some-parted.ensures.some.1 counter in
      let last = one_last _ counter.bytes _ 93 (sym c.in-Some-last_byte.ensures.some ∙ halves.1) in
      absurd (c.if-close-ne93.true last.1),
)

pub returns-then-not-is_digits : goal.returns-then-not-is_digits
returns-then-not-is_digits c = (
  λ t. let e : false ≡ true = t in cc,
  λ counter.
      let halves = counter_halves _ _ _ _ _ c.in-Some.ensures.some c.in-Some-parted.ensures.some.0 c.in-Some-parted.ensures.some.1 counter in
      let is = c.is_digits.ensures.1 (subst IsDigits (sym halves.0) counter.packet_digits) in
      grind (arith, is, c.if-not-is_digits.true),
)

pub returns : goal.returns
returns c = (
  λ t. record {
    packets = _;
    bytes = _;
    packet_digits = c.is_digits.ensures.0 (search rules);
    byte_digits = c.is_digits-2.ensures.0 t;
    spelled = spelled_as _ _ _ _ _ _ _ c.in-Some.ensures.some c.if-bracket-ne91.false c.in-Some-parted.ensures.some.0 c.in-Some-last_byte.ensures.some c.if-close-ne93.false;
  },
  λ counter.
      let halves = counter_halves _ _ _ _ _ c.in-Some.ensures.some c.in-Some-parted.ensures.some.0 c.in-Some-parted.ensures.some.1 counter in
      let last = one_last _ counter.bytes _ 93 (sym c.in-Some-last_byte.ensures.some ∙ halves.1) in
      c.is_digits-2.ensures.1 (subst IsDigits (sym last.0) counter.byte_digits),
)
