use Rattle.tests_table.proofs.tests.return_spare.Given as goal

abbrev pub ghosts-return_often : goal.ghosts-return_often
ghosts-return_often g a = record { name = a.blank.name; parts = a.blank.parts }
