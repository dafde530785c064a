use Rattle.store_run.proofs.open_worlds.OpenWorld.forget_fallen.Given as goal

abbrev pub ghosts-fallen_over : goal.ghosts-fallen_over
ghosts-fallen_over a = record { name = a.blank.name; parts = a.blank.parts }
