use Rattle.session.proofs.world.World.unpin.Given as goal

abbrev pub ghosts-unpin_on : goal.ghosts-unpin_on
ghosts-unpin_on g a = record { name = a.start.blank.name; parts = a.start.blank.parts }
