use Rattle.std.proofs.Common.{◌∙◌, ◌++◌, ◌∷◌, ap, arith, sym}
use Rattle.std.proofs.lemmas.List.{append-nil, take_all}
use Rattle.dump_print.specs.Ports.{port_list, port_text}
use Rattle.dump_print.proofs.PortLemmas.{ports_more}
use Rattle.dump_print.proofs.ports.append_ports.Goals as goal

pub loop-range-init : goal.loop-range-init
loop-range-init c = c.in_ok-append_port.ensures ∙ ap (λ t. c.args.out.now.items ++ t) (sym (append-nil (port_text c.args.first)))

pub loop-range-preserved : goal.loop-range-preserved
loop-range-preserved c =
    ports_more c.args.first c.args.rest.now c.loop-range.range-index _ _ _ _ _ (omega arith) c.loop-range.invariant c.in_ok-push.ensures.items
    c.in_ok-append_port-2.ensures

pub returns : goal.returns
returns c = c.loop-range.invariant ∙ ap (λ rs. c.args.out.now.items ++ port_list (c.args.first ∷ rs)) (take_all c.loop-range.range-index c.args.rest.now (omega arith))
