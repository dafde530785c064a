use Rattle.tests_versions.proofs.guards.told_last.Given as goal

abbrev pub ghosts-told_by_turn : goal.ghosts-told_by_turn
ghosts-told_by_turn g a = record { name = a.blank.name; parts = a.blank.parts }
