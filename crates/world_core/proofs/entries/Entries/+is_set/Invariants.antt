use Rattle.world_core.proofs.entries.Entries.+is_set.Given as goal

abbrev pub decreases-is_set : goal.decreases-is_set
decreases-is_set l = l.level
