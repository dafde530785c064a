use Rattle.tests_core.proofs.stores.slot_tests.keys_come_into_the_lowest_free_slot.Given as goal

abbrev pub ghosts-table_of : goal.ghosts-table_of
ghosts-table_of g a = record { name = a.blank.name; parts = a.blank.parts }
