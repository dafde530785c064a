use Rattle.tests_core.proofs.reach.floods.region_in.Given as goal

abbrev pub ghosts-stamped : goal.ghosts-stamped
ghosts-stamped a = record { name = a.blank.name; parts = a.blank.parts }
