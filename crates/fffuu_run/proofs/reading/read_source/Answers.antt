use Rattle.fffuu_run.proofs.reading.read_source.Goals as goal

pub returns-clause-whole : goal.returns-clause-whole
returns-clause-whole g c =
    let whole = c.in_ok-reading.ensures.whole in
    (whole.0, (c.finished.ensures whole.0 whole.1.0.1, whole.1.1))
