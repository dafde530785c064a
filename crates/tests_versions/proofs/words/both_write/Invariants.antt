use Rattle.tests_versions.proofs.words.both_write.Given as goal

abbrev pub ghosts-two_write : goal.ghosts-two_write
ghosts-two_write g a = record { name = a.blank.name; parts = a.blank.parts }
