use Rattle.session.proofs.world.World.ask_version.Given as goal

abbrev pub ghosts-ask_on : goal.ghosts-ask_on
ghosts-ask_on g a = record { name = a.start.blank.name; parts = a.start.blank.parts }
