use Rattle.session.proofs.world.World.unpin_saves.Given as goal

abbrev pub ghosts-unpin_over : goal.ghosts-unpin_over
ghosts-unpin_over g a = record { name = a.start.blank.name; parts = a.start.blank.parts }
