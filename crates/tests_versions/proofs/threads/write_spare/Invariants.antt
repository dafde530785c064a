use Rattle.tests_versions.proofs.threads.write_spare.Given as goal

abbrev pub ghosts-write_often : goal.ghosts-write_often
ghosts-write_often g a = record { name = a.blank.name; parts = a.blank.parts }
