use Rattle.std.proofs.Common.{arith, sym}
use Rattle.std.proofs.lemmas.Result.{IfErr-weaker}
use Rattle.fffuu_run.specs.Answers.{ipv4_of}
use Rattle.fffuu_run.specs.Loads.{RefusesLoad}
use Rattle.fffuu_run.proofs.Texts.{of_each_text}
use Rattle.fffuu_run.proofs.Carrying.{routes_bounds, zones_bounds}
use Rattle.fffuu_run.proofs.answering.output.Goals as goal

pub returns-in-Check-clause-refused : goal.returns-in-Check-clause-refused
returns-in-Check-clause-refused g c = rw (c.in-Check.is, sym c.as_slice-name.ensures) c.check_text.ensures.refused

pub returns-in-Upper-clause-refused : goal.returns-in-Upper-clause-refused
returns-in-Upper-clause-refused g c = rw (c.in-Upper.is, sym c.as_slice-name.ensures) c.filter_text.ensures.refused

pub returns-in-Lower-clause-refused : goal.returns-in-Lower-clause-refused
returns-in-Lower-clause-refused g c = rw (c.in-Lower.is, sym c.as_slice-name.ensures) c.filter_text-in-Lower.ensures.refused

pub returns-in-Matrix-clause-refused : goal.returns-in-Matrix-clause-refused
returns-in-Matrix-clause-refused g c = rw (c.in-Matrix.is, sym c.as_slice-zones.ensures, sym c.as_slice-hops.ensures, sym c.as_slice-name.ensures) c.matrix_text.ensures.refused

pub returns-in-Zones-clause-refused : goal.returns-in-Zones-clause-refused
returns-in-Zones-clause-refused g c = rw (c.in-Zones.is, sym c.as_slice-name.ensures) c.zones_text.ensures.refused

pub returns-in-Routes-clause-refused : goal.returns-in-Routes-clause-refused
returns-in-Routes-clause-refused g c = rw (c.in-Routes.is, sym c.as_slice-name.ensures) c.routes_text.ensures.refused

pub returns-in-Spoof-clause-refused : goal.returns-in-Spoof-clause-refused
returns-in-Spoof-clause-refused g c = rw (c.in-Spoof.is, sym c.as_slice.ensures, sym c.as_slice-name.ensures) c.spoof_text.ensures.refused

pub returns-in-Explain-clause-refused : goal.returns-in-Explain-clause-refused
returns-in-Explain-clause-refused g c = rw (c.in-Explain.is, sym c.as_slice-name.ensures) c.explain_text.ensures.refused

pub returns-in-Load-clause-refused : goal.returns-in-Load-clause-refused
returns-in-Load-clause-refused g c = rw (c.in-Load.is, sym c.as_slice-name.ensures)
    (IfErr-weaker c.load_summary.result _ _ (λ s told. of_each_text g.F.Family.Reads c.args.read s (RefusesLoad ipv4_of c.as_slice-name.result.now c.in-Load.n s) told) c.load_summary.ensures.refused)

pub zones_text-requires : goal.zones_text-requires
zones_text-requires g c =
    let bounds = zones_bounds c.args.request.now.six g.row.W c.args.request.now.mode c.in-Zones.claims c.as_slice-in-Zones.result.now c.in-Zones.is
    c.as_slice-in-Zones.ensures c.requires.family c.requires.bounds in
    (omega arith, (c.requires.width, (c.requires.read, (bounds.0, bounds.1))))

pub routes_text-requires : goal.routes_text-requires
routes_text-requires g c =
    let bounds = routes_bounds c.args.request.now.six g.row.W c.args.request.now.mode c.in-Routes.hops c.as_slice-in-Routes.result.now c.in-Routes.is
    c.as_slice-in-Routes.ensures c.requires.family c.requires.bounds in
    (omega arith, (c.requires.width, (c.requires.read, (bounds.0, bounds.1))))
