use Rattle.testkit.proofs.worlds.worlds.StoredWorld.changed_by.Given as goal

abbrev pub ghosts-edit : goal.ghosts-edit
ghosts-edit a = record { name = a.blank.name; parts = a.blank.parts }
