use Rattle.std.proofs.Common.{◌∙◌, List, subst, sym, arith}
use Rattle.box_norm.specs.declared.cube.SimpleRule.{SimpleRule}
use Rattle.box_norm.specs.Regular.{EachCube, HasStates}
use Rattle.box_norm.specs.Sets.{HasSets}
use Rattle.box_norm.proofs.StayLaws.{normal_states}
use Rattle.simple_filter.specs.Closed.{Accepts, NamesAreKnown, flat_rules}
use Rattle.simple_filter.proofs.ClosedLaws.{accepts, names}
use Rattle.simple_filter.proofs.Takings.{boxes_keep, boxes_pass, rules_are, rules_keep, rules_pass}
use Rattle.simple_filter.proofs.closing.closed.Goals as goal

pub returns-then-nodes-gt-MOST_NODES-clause-refused : goal.returns-then-nodes-gt-MOST_NODES-clause-refused
returns-then-nodes-gt-MOST_NODES-clause-refused g c = (c.in_ok-ranked.ensures.passes c.requires.policy.0 c.requires.policy.1, omega (arith, c.if-nodes-gt-MOST_NODES.true, c.in_ok-nodes.ensures))

pub returns-then-literals-gt-MOST_LITERALS-clause-refused : goal.returns-then-literals-gt-MOST_LITERALS-clause-refused
returns-then-literals-gt-MOST_LITERALS-clause-refused g c = (c.in_ok-ranked.ensures.passes c.requires.policy.0 c.requires.policy.1, omega (arith, c.if-nodes-gt-MOST_NODES.false, c.in_ok-nodes.ensures), omega (arith, c.if-literals-gt-MOST_LITERALS.true, c.in_ok-literals.ensures))

pub returns-then-has_boxes-clause-refused : goal.returns-then-has_boxes-clause-refused
returns-then-has_boxes-clause-refused g c = (c.in_ok-ranked.ensures.passes c.requires.policy.0 c.requires.policy.1, (record { nodes = omega (arith, c.if-nodes-gt-MOST_NODES.false, c.in_ok-nodes.ensures); literals = omega (arith, c.if-literals-gt-MOST_LITERALS.false, c.in_ok-literals.ensures) }), boxes_pass g.row.W (flat_rules c.args.dump.now c.args.chain c.args.side) c.in_ok-rules.field-0.rules.items c.in_ok-rules.field-0.is_full c.in_ok-rules.field-0.has_boxes c.in_ok-rules.ensures c.if-has_boxes.true)

pub returns-then-is_full-clause-refused : goal.returns-then-is_full-clause-refused
returns-then-is_full-clause-refused g c = (c.in_ok-ranked.ensures.passes c.requires.policy.0 c.requires.policy.1, (record { nodes = omega (arith, c.if-nodes-gt-MOST_NODES.false, c.in_ok-nodes.ensures); literals = omega (arith, c.if-literals-gt-MOST_LITERALS.false, c.in_ok-literals.ensures) }), boxes_keep g.row.W (flat_rules c.args.dump.now c.args.chain c.args.side) c.in_ok-rules.field-0.rules.items c.in_ok-rules.field-0.is_full c.in_ok-rules.field-0.has_boxes c.in_ok-rules.ensures c.if-has_boxes.false, rules_pass g.row.W (flat_rules c.args.dump.now c.args.chain c.args.side) c.in_ok-rules.field-0.rules.items c.in_ok-rules.field-0.is_full c.in_ok-rules.field-0.has_boxes c.in_ok-rules.ensures c.if-has_boxes.false c.if-is_full.true)

pub returns-clause-rules : goal.returns-clause-rules
returns-clause-rules g c = (c.of.ensures ∙ rules_are g.row.W (flat_rules c.args.dump.now c.args.chain c.args.side) c.in_ok-rules.field-0.rules.items c.in_ok-rules.field-0.is_full c.in_ok-rules.field-0.has_boxes c.in_ok-rules.ensures c.if-has_boxes.false c.if-is_full.false)

pub returns-clause-checked : goal.returns-clause-checked
returns-clause-checked g c = c.in_ok-ranked.ensures.passes c.requires.policy.0 c.requires.policy.1

pub returns-clause-small : goal.returns-clause-small
returns-clause-small g c = record {
  tree = (record { nodes = omega (arith, c.if-nodes-gt-MOST_NODES.false, c.in_ok-nodes.ensures); literals = omega (arith, c.if-literals-gt-MOST_LITERALS.false, c.in_ok-literals.ensures) });
  boxes = boxes_keep g.row.W (flat_rules c.args.dump.now c.args.chain c.args.side) c.in_ok-rules.field-0.rules.items c.in_ok-rules.field-0.is_full c.in_ok-rules.field-0.has_boxes c.in_ok-rules.ensures c.if-has_boxes.false;
  rules = rules_keep g.row.W (flat_rules c.args.dump.now c.args.chain c.args.side) c.in_ok-rules.field-0.rules.items c.in_ok-rules.field-0.is_full c.in_ok-rules.field-0.has_boxes c.in_ok-rules.ensures c.if-has_boxes.false c.if-is_full.false;
}

pub returns-clause-sets : goal.returns-clause-sets
returns-clause-sets g c = subst (λ (rules : List (SimpleRule g.row.W)). EachCube HasSets rules) (sym c.of.ensures) c.in_ok-rules.ensures.sets

pub returns-clause-states : goal.returns-clause-states
returns-clause-states g c = subst (λ (rules : List (SimpleRule g.row.W)). EachCube HasStates rules) (sym (c.of.ensures ∙ rules_are g.row.W (flat_rules c.args.dump.now c.args.chain c.args.side) c.in_ok-rules.field-0.rules.items c.in_ok-rules.field-0.is_full c.in_ok-rules.field-0.has_boxes c.in_ok-rules.ensures c.if-has_boxes.false c.if-is_full.false)) (normal_states g.row.W (flat_rules c.args.dump.now c.args.chain c.args.side))

pub returns-clause-names : goal.returns-clause-names
returns-clause-names g c = subst (λ (rules : List (SimpleRule g.row.W)). EachCube (NamesAreKnown c.args.dump.now c.args.chain) rules) (sym (c.of.ensures ∙ rules_are g.row.W (flat_rules c.args.dump.now c.args.chain c.args.side) c.in_ok-rules.field-0.rules.items c.in_ok-rules.field-0.is_full c.in_ok-rules.field-0.has_boxes c.in_ok-rules.ensures c.if-has_boxes.false c.if-is_full.false)) (names c.args.dump.now c.args.chain c.args.side)

pub returns-clause-meaning : goal.returns-clause-meaning
returns-clause-meaning g c policy is = subst (λ (rules : List (SimpleRule g.row.W)). Accepts c.args.side c.args.dump.now c.args.chain policy rules) (sym (c.of.ensures ∙ rules_are g.row.W (flat_rules c.args.dump.now c.args.chain c.args.side) c.in_ok-rules.field-0.rules.items c.in_ok-rules.field-0.is_full c.in_ok-rules.field-0.has_boxes c.in_ok-rules.ensures c.if-has_boxes.false c.if-is_full.false)) (accepts c.args.dump.now c.args.chain c.in_ok-ranked.ranked (record { ranks = c.in_ok-ranked.ensures.ranked; settled = c.in_ok-ranked.ensures.settled; policy = c.requires.policy }) c.args.side policy is)
