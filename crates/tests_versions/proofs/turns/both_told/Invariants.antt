use Rattle.tests_versions.proofs.turns.both_told.Given as goal

abbrev pub ghosts-all_told : goal.ghosts-all_told
ghosts-all_told g a = record { name = a.blank.name; parts = a.blank.parts }
