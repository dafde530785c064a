use Rattle.tests_versions.proofs.rows.two_do.Given as goal

abbrev pub ghosts-do_row : goal.ghosts-do_row
ghosts-do_row g a = record { name = a.blank.name; parts = a.blank.parts }
