use Rattle.tests_table.proofs.shares.are_counted.Given as goal

abbrev pub ghosts-one_counts : goal.ghosts-one_counts
ghosts-one_counts g a = record { name = a.blank.name; parts = a.blank.parts }
