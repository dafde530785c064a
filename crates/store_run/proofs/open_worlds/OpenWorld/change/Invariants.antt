use Rattle.store_run.proofs.open_worlds.OpenWorld.change.Given as goal

abbrev pub ghosts-change_over : goal.ghosts-change_over
ghosts-change_over a = record { name = a.blank.name; parts = a.blank.parts }
