use Rattle.tests_table.proofs.nodes.make_spare.Given as goal

abbrev pub ghosts-make_often : goal.ghosts-make_often
ghosts-make_often g a = record { name = a.blank.name; parts = a.blank.parts }
