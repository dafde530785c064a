use Rattle.store_run.proofs.open_worlds.OpenWorld.surface.Given as goal

abbrev pub ghosts-surface_over : goal.ghosts-surface_over
ghosts-surface_over a = record { name = a.blank.name; parts = a.blank.parts }
