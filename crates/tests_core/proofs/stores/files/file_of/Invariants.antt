use Rattle.tests_core.proofs.stores.files.file_of.Given as goal

abbrev pub ghosts-file_in : goal.ghosts-file_in
ghosts-file_in a = record { name = a.blank.name; parts = a.blank.parts }
