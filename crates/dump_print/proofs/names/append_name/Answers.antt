use Rattle.std.proofs.Common.{◌∙◌, sym}
use Rattle.dump_print.proofs.NameLemmas.{quoted_name}
use Rattle.dump_print.proofs.names.append_name.Goals as goal

pub returns-clause-ok : goal.returns-clause-ok
returns-clause-ok c =
    quoted_name _ c.args.out.now.items c.args.front.now c.args.end.now _ _ _ _ (sym c.is_bare_name.ensures ∙ c.if-is_bare_name.false)
    c.in_ok-push.ensures.items c.in_ok-append_escaped.ensures.ok c.in_ok-append_escaped-2.ensures.ok c.in_ok-push-2.ensures.items
