use Rattle.std.proofs.Common.{◌∙◌, codes}
use Rattle.clap.specs.Words.{found_of}
use Rattle.request.proofs.LineLemmas.{same_parts, str_is, strs_are}
use Rattle.request.proofs.line.line_of.Goals as goal

pub returns : goal.returns
returns c =
    let found = found_of c.args.matches.now in
    same_parts _ _ _ _ _ _ _ _ _ _
    (str_is found (codes "mode") _ c.get_str.ensures)
    (c.in_ok-copied.ensures ∙ strs_are found (codes "args") _ c.get_strs.ensures)
    (str_is found (codes "chain") _ c.get_str-2.ensures)
    (str_is found (codes "family") _ c.get_str-3.ensures)
    (str_is found (codes "side") _ c.get_str-4.ensures)
