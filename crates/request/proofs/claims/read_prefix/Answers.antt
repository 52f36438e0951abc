use Rattle.std.proofs.Common.{ℕ}
use Rattle.addr_text.proofs.TextLemmas.{IsFamily, if_none}
use Rattle.request.specs.Arguments.{IsPrefixOf}
use Rattle.request.proofs.ClaimLemmas.{no_slash, prefix_parts}
use Rattle.request.proofs.claims.read_prefix.Goals as goal

pub returns-in_err-front-clause-none : goal.returns-in_err-front-clause-none
returns-in_err-front-clause-none g c =
    let laws : IsFamily g.F.Family.Reads = record { one = g.met.F.Family.one; plain = g.met.F.Family.plain; not_number = g.met.F.Family.not_number } in
    if_none _ (no_slash g.F.Family.Reads laws g.row.W c.args.text.now c.in_err-front.ensures.none)

pub returns-in_err-address-clause-none : goal.returns-in_err-address-clause-none
returns-in_err-address-clause-none g c =
    let laws : IsFamily g.F.Family.Reads = record { one = g.met.F.Family.one; plain = g.met.F.Family.plain; not_number = g.met.F.Family.not_number } in
    let none : (address len : ℕ) → IsPrefixOf g.F.Family.Reads g.row.W c.args.text.now address len → ⊥ = λ address len is.
    let parts = prefix_parts g.F.Family.Reads laws g.row.W c.args.text.now c.in_ok-front.front.now c.in_ok-front.back.now address len c.in_ok-front.ensures.some is in
    c.in_err-address.ensures.none address parts.0 in
    if_none _ none

pub returns-in_err-length-clause-none : goal.returns-in_err-length-clause-none
returns-in_err-length-clause-none g c =
    let laws : IsFamily g.F.Family.Reads = record { one = g.met.F.Family.one; plain = g.met.F.Family.plain; not_number = g.met.F.Family.not_number } in
    let none : (address len : ℕ) → IsPrefixOf g.F.Family.Reads g.row.W c.args.text.now address len → ⊥ = λ address len is.
    let parts = prefix_parts g.F.Family.Reads laws g.row.W c.args.text.now c.in_ok-front.front.now c.in_ok-front.back.now address len c.in_ok-front.ensures.some is in
    c.in_err-length.ensures.none len parts.2 parts.1 in
    if_none _ none
