use Rattle.std.proofs.Common.{drop}
use Rattle.box_norm.specs.Regular.{EachCube, IsRegular}
use Rattle.box_norm.proofs.Normals.{Normals}
use Rattle.box_norm.proofs.rules.normal_list.Given as goal

abbrev pub invariant-loop-rule : goal.invariant-loop-rule
invariant-loop-rule g l = record {
  normals : Normals l.is_full l.out.items (drop l.rule-index l.rules) l.rules;
  regular : EachCube IsRegular l.out.items;
}
