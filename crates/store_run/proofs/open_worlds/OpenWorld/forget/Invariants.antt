use Rattle.store_run.proofs.open_worlds.OpenWorld.forget.Given as goal

abbrev pub ghosts-forget_over : goal.ghosts-forget_over
ghosts-forget_over a = record { name = a.blank.name; parts = a.blank.parts }
