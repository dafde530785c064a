use Rattle.flood.proofs.models.in_world.Given as goal

abbrev pub ghosts-in_store : goal.ghosts-in_store
ghosts-in_store a = record { name = a.blank.name; parts = a.blank.parts }
