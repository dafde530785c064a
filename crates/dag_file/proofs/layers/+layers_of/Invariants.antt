use Rattle.dag_file.proofs.layers.+layers_of.Given as goal

abbrev pub decreases-layers_of : goal.decreases-layers_of
decreases-layers_of g l = l.level
