use Rattle.addr_text.proofs.TextLemmas.{if_none}
use Rattle.service_packet.specs.declared.service.Service.{Service}
use Rattle.request.specs.Arguments.{IsService}
use Rattle.request.proofs.ServiceLemmas.{dport_of, no_colon, one_colon, proto_of, sport_of}
use Rattle.request.proofs.services.service_of.Goals as goal

pub returns-in_err-proto-clause-none : goal.returns-in_err-proto-clause-none
returns-in_err-proto-clause-none c = if_none _ (no_colon c.args.text.now c.in_err-proto.ensures.none)

pub returns-in_err-sport-clause-none : goal.returns-in_err-sport-clause-none
returns-in_err-sport-clause-none c =
    if_none _ (one_colon c.args.text.now c.in_ok-proto.proto.now c.in_ok-proto.ports.now c.in_ok-proto.ensures.some c.in_err-sport.ensures.none)

pub returns-in_err-read_proto-clause-none : goal.returns-in_err-read_proto-clause-none
returns-in_err-read_proto-clause-none c =
    let none : (s : Service) → IsService c.args.text.now s → ⊥ = λ s is.
    c.in_err-read_proto.ensures.none s.proto (proto_of c.args.text.now c.in_ok-proto.proto.now c.in_ok-proto.ports.now c.in_ok-sport.sport.now c.in_ok-sport.dport.now
    c.in_ok-proto.ensures.some c.in_ok-sport.ensures.some s is) in
    if_none _ none

pub returns-in_err-read_port-clause-none : goal.returns-in_err-read_port-clause-none
returns-in_err-read_port-clause-none c =
    let none : (s : Service) → IsService c.args.text.now s → ⊥ = λ s is.
    c.in_err-read_port.ensures.none s.sport (sport_of c.args.text.now c.in_ok-proto.proto.now c.in_ok-proto.ports.now c.in_ok-sport.sport.now c.in_ok-sport.dport.now
    c.in_ok-proto.ensures.some c.in_ok-sport.ensures.some s is) in
    if_none _ none

pub returns-in_err-read_port-2-clause-none : goal.returns-in_err-read_port-2-clause-none
returns-in_err-read_port-2-clause-none c =
    let none : (s : Service) → IsService c.args.text.now s → ⊥ = λ s is.
    c.in_err-read_port-2.ensures.none s.dport (dport_of c.args.text.now c.in_ok-proto.proto.now c.in_ok-proto.ports.now c.in_ok-sport.sport.now c.in_ok-sport.dport.now
    c.in_ok-proto.ensures.some c.in_ok-sport.ensures.some s is) in
    if_none _ none
