use Rattle.session.proofs.world.World.pin.Given as goal

abbrev pub ghosts-pin_on : goal.ghosts-pin_on
ghosts-pin_on g a = record { name = a.start.blank.name; parts = a.start.blank.parts }
