use Rattle.tests_core.proofs.stores.worlds.full_world_file.Given as goal

abbrev pub ghosts-filled : goal.ghosts-filled
ghosts-filled a = record { name = a.blank.name; parts = a.blank.parts }
