use Rattle.std.proofs.Common.{List, ℕ}
use Rattle.addr_text.specs.declared.net.Net.TheVariants.{Prefix, Masked}
use Rattle.addr_text.specs.declared.net.Net.{Net}
use Rattle.addr_text.specs.Nets.{IsLength, IsHole, IsNetOf, IsNetText}
use Rattle.addr_text.proofs.TextLemmas.{IsFamily, if_none, slashed_parts}
use Rattle.addr_text.proofs.nets.read_net.Goals as goal

pub returns-in_err-address-clause-none : goal.returns-in_err-address-clause-none
returns-in_err-address-clause-none g c =
    let laws : IsFamily g.F.Family.Reads = record { one = g.met.F.Family.one; plain = g.met.F.Family.plain; not_number = g.met.F.Family.not_number } in
    let none : (net : Net) → IsNetText g.F.Family.Reads g.row.W c.args.text.now net → ⊥ = λ net is.
    let (address, reads, of) = slashed_parts g.F.Family.Reads laws g.row.W c.args.text.now c.in-Some.front.now c.in-Some.back.now c.in-Some.ensures.some.1 c.in-Some.ensures.some.0 net is in
    c.in_err-address.ensures.none address reads in
    if_none _ none

neither : (Reads : List ℕ → ℕ → Type 0) (width address : ℕ) (text : List ℕ) → ((len : ℕ) → IsLength Reads width text len → ⊥) → (IsHole Reads width text → ⊥)
    → (net : Net) → IsNetOf Reads width address text net → ⊥
neither Reads width address text no_length no_hole (Prefix value len) of = no_length len of.0
neither Reads width address text no_length no_hole Masked of = no_hole of

pub returns-in_err-len-clause-none : goal.returns-in_err-len-clause-none
returns-in_err-len-clause-none g c =
    let laws : IsFamily g.F.Family.Reads = record { one = g.met.F.Family.one; plain = g.met.F.Family.plain; not_number = g.met.F.Family.not_number } in
    let none : (net : Net) → IsNetText g.F.Family.Reads g.row.W c.args.text.now net → ⊥ = λ net is.
    let (address, reads, of) = slashed_parts g.F.Family.Reads laws g.row.W c.args.text.now c.in-Some.front.now c.in-Some.back.now c.in-Some.ensures.some.1 c.in-Some.ensures.some.0 net is in
    neither g.F.Family.Reads g.row.W address c.in-Some.back.now c.in_err-len.ensures.no_length c.in_err-len.ensures.no_hole net of in
    if_none _ none
