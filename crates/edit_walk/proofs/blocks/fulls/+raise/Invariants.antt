use Rattle.edit_walk.proofs.blocks.fulls.+raise.Given as goal

abbrev pub decreases-raise : goal.decreases-raise
decreases-raise g l = l.level
