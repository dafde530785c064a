use Rattle.session.proofs.world.World.act.Given as goal

abbrev pub ghosts-act_on : goal.ghosts-act_on
ghosts-act_on g a = record { name = a.start.blank.name; parts = a.start.blank.parts }
