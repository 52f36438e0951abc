use Rattle.std.proofs.Common.{◌∙◌, List, ap, arith}
use Rattle.iface_space.specs.declared.zones.Zone.{Zone}
use Rattle.iface_space.specs.Unnamed.{unnamed_inputs}
use Rattle.fffuu_run.specs.Checks.{IsCheckOver}
use Rattle.fffuu_run.specs.Spaces.{IsZonesText, zones_text}
use Rattle.fffuu_run.proofs.RankLemmas.{of_entry}
use Rattle.fffuu_run.proofs.Texts.{answers_texts, refuses_texts}
use Rattle.fffuu_run.proofs.zoning.zones_text.Goals as goal

pub returns-clause-ok : goal.returns-clause-ok
returns-clause-ok g c =
    let dump = c.in_ok-dump.field-0.dump in
    let chain = c.in_ok-dump.field-0.chain in
    let ranks = c.in-Ok.ranked.ranks in
    let written = c.in_ok-text_of.ensures ∙ ap (zones_text g.F.Family.text_of c.in_ok-zones.zones) (c.as_slice.ensures ∙ c.in_ok-unnamed.ensures)
    ∙ ap (λ (told : List (Zone g.row.W)). zones_text g.F.Family.text_of told (unnamed_inputs dump ranks told)) c.in_ok-zones.ensures.same in
    answers_texts g.F.Family.Reads c.args.read c.args.name.now (λ dump chain. IsCheckOver dump chain) dump chain
    (λ dump chain. IsZonesText g.F.Family.text_of c.args.claims.now dump chain c.in_ok-text_of.field-0.items) c.in_ok-dump.ensures.asked c.in-Ok.ensures.within
    (ranks, (c.in-Ok.ensures.ok.ranks, written))

pub unnamed_in-requires : goal.unnamed_in-requires
unnamed_in-requires g c = (omega arith, (omega arith, of_entry c.in_ok-dump.field-0.dump c.in_ok-dump.field-0.chain c.in-Ok.ranked c.in-Ok.ensures.ok))

pub returns-in-Err-clause-refused : goal.returns-in-Err-clause-refused
returns-in-Err-clause-refused g c = refuses_texts g.F.Family.Reads c.args.read c.args.name.now (λ dump chain. IsCheckOver dump chain)
    c.in_ok-dump.field-0.dump c.in_ok-dump.field-0.chain c.in-Err.refusal c.told.result c.in_ok-dump.ensures.asked c.in-Err.ensures.refused c.told.ensures
