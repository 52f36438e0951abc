use Rattle.std.proofs.Common.{sym, subst, List}
use Rattle.match_expr.specs.declared.expr.FlatRule.{FlatRule}
use Rattle.rewriting.specs.declared.rows.Mode.TheVariants.{Hard}
use Rattle.fw_rule.specs.Walk.{Here}
use Rattle.closure.specs.Rewriting.{greatest_depth}
use Rattle.closure.specs.Sides.{ClosesTo}
use Rattle.closure.specs.Sources.{AreKnown}
use Rattle.closure.proofs.Exact.{closes}
use Rattle.closure.proofs.RankReads.{is_settled, within_limit}
use Rattle.closure.proofs.SourceLemmas.{list_known}
use Rattle.closure.proofs.flat_lists.flat.Goals as goal

pub returns-clause-closes : goal.returns-clause-closes
returns-clause-closes g c policy is =
    subst (λ (rules : List (FlatRule g.row.P.Denot)). ClosesTo g.P.Primitive.meaning c.args.side c.args.dump.now c.args.chain policy rules) (sym c.in_ok-rules.ensures)
    (closes g.P.Primitive.meaning c.args.dump.now c.args.chain greatest_depth (is_settled c.args.dump.now c.args.chain c.args.ranked.now c.requires)
    (within_limit c.args.dump.now c.args.chain c.args.ranked.now c.requires c.args.chain Here) policy is c.args.side)

pub returns-clause-sources : goal.returns-clause-sources
returns-clause-sources g c =
    subst (λ (rules : List (FlatRule g.row.P.Denot)). AreKnown c.args.dump.now c.args.chain rules) (sym c.in_ok-rules.ensures) (list_known c.args.side c.args.dump.now greatest_depth c.args.chain Hard)
