use Rattle.session.proofs.world.World.forget.Given as goal

abbrev pub ghosts-forget_on : goal.ghosts-forget_on
ghosts-forget_on g a = record { name = a.start.blank.name; parts = a.start.blank.parts }
