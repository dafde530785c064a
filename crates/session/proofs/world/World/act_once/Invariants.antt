use Rattle.session.proofs.world.World.act_once.Given as goal

abbrev pub ghosts-act_once_on : goal.ghosts-act_once_on
ghosts-act_once_on g a = record { name = a.start.blank.name; parts = a.start.blank.parts }
