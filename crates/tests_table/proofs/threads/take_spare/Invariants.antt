use Rattle.tests_table.proofs.threads.take_spare.Given as goal

abbrev pub ghosts-take_often : goal.ghosts-take_often
ghosts-take_often g a = record { name = a.blank.name; parts = a.blank.parts }
