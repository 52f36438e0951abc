use Rattle.std.proofs.Common.{◌≡◌, Some, slice_get, get_or, unwrap_or, arith, subst, sym, ◌∙◌, ap, ℕ, Option}
use Rattle.std.proofs.lemmas.Option.{slice_get-get_or}
use Rattle.closure.specs.declared.ends.Ends.{Ends}
use Rattle.closure.specs.inner.Ends.{AreOver, end_in}
use Rattle.closure.proofs.ends.end_of.Goals as goal

pub returns : goal.returns
returns g c =
    let none : Ends = record { hard = 0; soft = 0 } in
    let long = c.requires.table.long in
    let there : slice_get c.args.table.now c.args.chain ≡ Some (get_or c.args.table.now c.args.chain none) = slice_get-get_or c.args.table.now c.args.chain none (omega (arith, long, c.requires.inside)) in
    let same = c.entry-ends.ensures ∙ ap (λ (o : Option Ends). unwrap_or o none) there in
    subst (λ (n : ℕ). AreOver c.args.side c.args.dump.now c.args.chain c.args.mode n) (sym (c.end_in.ensures ∙ ap (λ (e : Ends). end_in e c.args.mode) same))
    (c.requires.table.each c.args.chain (get_or c.args.table.now c.args.chain none) there c.args.mode)
