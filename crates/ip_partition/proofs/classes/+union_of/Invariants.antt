use Rattle.ip_partition.proofs.classes.+union_of.Given as goal

abbrev pub decreases-union_of : goal.decreases-union_of
decreases-union_of g l = l.count
