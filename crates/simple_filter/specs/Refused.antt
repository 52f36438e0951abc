-- The refusals of a check of a chain, as refusals of its questions.
use Rattle.chain_graph.specs.declared.graph.GraphFault.{GraphFault}
use Rattle.simple_filter.specs.declared.refusal.Kind.{Kind}
use Rattle.simple_filter.specs.declared.refusal.Refusal.{Refusal}

abbrev pub of_check : GraphFault → Refusal
of_check (GraphFault.Unsupported line name) = Refusal.Unsupported line name
of_check (GraphFault.Loop chain) = Refusal.Loop chain
of_check GraphFault.Depth = Refusal.Limit Kind.Depth
of_check GraphFault.Memory = Refusal.Memory
