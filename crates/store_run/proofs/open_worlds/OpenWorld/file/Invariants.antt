use Rattle.store_run.proofs.open_worlds.OpenWorld.file.Given as goal

abbrev pub ghosts-file_over : goal.ghosts-file_over
ghosts-file_over a = record { name = a.blank.name; parts = a.blank.parts }
