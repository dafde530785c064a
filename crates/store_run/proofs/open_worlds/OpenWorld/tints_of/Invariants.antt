use Rattle.store_run.proofs.open_worlds.OpenWorld.tints_of.Given as goal

abbrev pub ghosts-tints_over : goal.ghosts-tints_over
ghosts-tints_over a = record { name = a.blank.name; parts = a.blank.parts }
