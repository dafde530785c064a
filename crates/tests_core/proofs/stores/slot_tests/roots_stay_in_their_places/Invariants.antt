use Rattle.tests_core.proofs.stores.slot_tests.roots_stay_in_their_places.Given as goal

abbrev pub ghosts-root_of : goal.ghosts-root_of
ghosts-root_of g a = record { name = a.blank.name; parts = a.blank.parts }
