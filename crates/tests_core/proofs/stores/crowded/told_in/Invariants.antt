use Rattle.tests_core.proofs.stores.crowded.told_in.Given as goal

abbrev pub ghosts-told_behind : goal.ghosts-told_behind
ghosts-told_behind a = record { name = a.blank.name; parts = a.blank.parts }
