use Rattle.store_run.proofs.open_worlds.OpenWorld.flood.Given as goal

abbrev pub ghosts-region_over : goal.ghosts-region_over
ghosts-region_over a = record { name = a.blank.name; parts = a.blank.parts }
