use Rattle.std.proofs.Common.{◌∙◌, List, ap, arith}
use Rattle.iface_space.specs.declared.hop.Hop.{Hop}
use Rattle.iface_space.specs.Unnamed.{unnamed_outputs}
use Rattle.fffuu_run.specs.Checks.{IsCheckOver}
use Rattle.fffuu_run.specs.Spaces.{IsRoutesText, routes_text}
use Rattle.fffuu_run.proofs.RankLemmas.{of_entry}
use Rattle.fffuu_run.proofs.Texts.{answers_texts, refuses_texts}
use Rattle.fffuu_run.proofs.routing.routes_text.Goals as goal

pub returns-clause-ok : goal.returns-clause-ok
returns-clause-ok g c =
    let dump = c.in_ok-dump.field-0.dump in
    let chain = c.in_ok-dump.field-0.chain in
    let ranks = c.in-Ok.ranked.ranks in
    let written = c.in_ok-text_of.ensures ∙ ap (routes_text g.F.Family.text_of g.row.W c.in_ok-routes.routes) (c.as_slice.ensures ∙ c.in_ok-unnamed.ensures)
    ∙ ap (λ (told : List (Hop)). routes_text g.F.Family.text_of g.row.W told (unnamed_outputs dump ranks told)) c.in_ok-routes.ensures.same in
    answers_texts g.F.Family.Reads c.args.read c.args.name.now (λ dump chain. IsCheckOver dump chain) dump chain
    (λ dump chain. IsRoutesText g.F.Family.text_of g.row.W c.args.hops.now dump chain c.in_ok-text_of.field-0.items) c.in_ok-dump.ensures.asked c.in-Ok.ensures.within
    (ranks, (c.in-Ok.ensures.ok.ranks, written))

pub unnamed_out-requires : goal.unnamed_out-requires
unnamed_out-requires g c = (omega arith, (omega arith, of_entry c.in_ok-dump.field-0.dump c.in_ok-dump.field-0.chain c.in-Ok.ranked c.in-Ok.ensures.ok))

pub returns-in-Err-clause-refused : goal.returns-in-Err-clause-refused
returns-in-Err-clause-refused g c = refuses_texts g.F.Family.Reads c.args.read c.args.name.now (λ dump chain. IsCheckOver dump chain)
    c.in_ok-dump.field-0.dump c.in_ok-dump.field-0.chain c.in-Err.refusal c.told.result c.in_ok-dump.ensures.asked c.in-Err.ensures.refused c.told.ensures
