use Rattle.dump_print.proofs.flags.+add_cubes.Given as goal

abbrev pub decreases-add_cubes : goal.decreases-add_cubes
decreases-add_cubes l = l.count
