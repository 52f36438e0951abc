use Rattle.std.proofs.Common.{◌∙◌, sym, subst}
use Rattle.name_set.specs.Bytes.{AreBytes}
use Rattle.name_set.proofs.Laws.{covered_shared, covers_shared, one_or_apart}
use Rattle.name_set.proofs.pattern.Pattern.has_common.Goals as goal

pub returns-then-covers_text-clause-some : goal.returns-then-covers_text-clause-some
returns-then-covers_text-clause-some c = λ is.
    covers_shared c.args.self.now c.args.other.now (subst AreBytes c.text.ensures c.covers_text.ensures.bytes) (sym c.covers_text.ensures.value ∙ is)

pub returns-then-covers_text-clause-law : goal.returns-then-covers_text-clause-law
returns-then-covers_text-clause-law c = one_or_apart c.args.self.now c.args.other.now

pub returns-else-covers_text-clause-some : goal.returns-else-covers_text-clause-some
returns-else-covers_text-clause-some c = λ is.
    let text = c.text-else-covers_text.ensures in
    let back = c.covers_text-else-covers_text.ensures in
    covered_shared c.args.self.now c.args.other.now (subst AreBytes text back.bytes) (sym back.value ∙ is)

pub returns-else-covers_text-clause-law : goal.returns-else-covers_text-clause-law
returns-else-covers_text-clause-law c = one_or_apart c.args.self.now c.args.other.now
