use Rattle.tests_table.proofs.threads.four_left_nothing.Given as goal

abbrev pub ghosts-left_nothing : goal.ghosts-left_nothing
ghosts-left_nothing g a = record { name = a.blank.name; parts = a.blank.parts }
