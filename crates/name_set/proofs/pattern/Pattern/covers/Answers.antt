use Rattle.std.proofs.Common.{◌∙◌, sym, subst}
use Rattle.name_set.specs.Bytes.{AreBytes}
use Rattle.name_set.proofs.Laws.{covers_only}
use Rattle.name_set.proofs.Patterns.{under_fits}
use Rattle.name_set.proofs.pattern.Pattern.covers.Goals as goal

pub returns-clause-every : goal.returns-clause-every
returns-clause-every c = λ is name h. under_fits c.args.self.now c.args.other.now name (sym c.covers_text.ensures.value ∙ is) h

pub returns-clause-only : goal.returns-clause-only
returns-clause-only c = λ every. c.covers_text.ensures.value ∙ covers_only c.args.self.now c.args.other.now (subst AreBytes c.text.ensures c.covers_text.ensures.bytes) every
