use Rattle.std.proofs.Common.{Some, sym, subst}
use Rattle.std.specs.Option.{option_copied}
use Rattle.name_set.specs.declared.pattern.Pattern.{Pattern}
use Rattle.name_set.specs.declared.set.NameSet.{NameSet}
use Rattle.name_set.specs.Bytes.{AreBytes}
use Rattle.name_set.specs.Least.{IsLeast}
use Rattle.name_set.proofs.Next.{fewer}
use Rattle.name_set.proofs.Search.{least_found, none_left, tried_more}
use Rattle.name_set.proofs.least.least_longer.Goals as goal

pub returns-in-Some-free_byte : goal.returns-in-Some-free_byte
returns-in-Some-free_byte c =
    let set : NameSet = record { base = Pattern.Prefix c.args.text.now; excluded = c.args.patterns.now } in
    let name = c.in-Some.name.now in
    let byte = c.in-Some-free_byte.byte in
    let found = c.in_ok-longer.ensures in
    subst (λ m. IsLeast set (Some m)) (sym found.value)
    (least_found c.args.text.now c.args.patterns.now (option_copied c.loop-name.last) c.loop-name.invariant c.requires name byte c.in-Some.ensures
    (subst AreBytes found.value found.bytes) c.in-Some-free_byte.ensures.some c.in-Some-free_byte.ensures.first)

pub loop-name-smaller : goal.loop-name-smaller
loop-name-smaller c = fewer c.args.text.now c.in-Some.name.now (option_copied c.loop-name.last) c.args.patterns.now c.in-Some.ensures.1 c.in-Some.ensures.0

pub loop-name-preserved : goal.loop-name-preserved
loop-name-preserved c = tried_more c.args.text.now c.args.patterns.now (option_copied c.loop-name.last) c.in-Some.name.now c.loop-name.invariant c.in-Some.ensures c.in_default-free_byte.ensures.none

pub returns : goal.returns
returns c = none_left c.args.text.now c.args.patterns.now (option_copied c.loop-name.last) c.loop-name.invariant c.requires c.in_default.ensures
