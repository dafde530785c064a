use Rattle.store_run.proofs.open_worlds.OpenWorld.changes.Given as goal

abbrev pub ghosts-changes_over : goal.ghosts-changes_over
ghosts-changes_over a = record { name = a.blank.name; parts = a.blank.parts }
