use Rattle.store_run.proofs.open_worlds.OpenWorld.tint_file.Given as goal

abbrev pub ghosts-tint_file_over : goal.ghosts-tint_file_over
ghosts-tint_file_over a = record { name = a.blank.name; parts = a.blank.parts }
