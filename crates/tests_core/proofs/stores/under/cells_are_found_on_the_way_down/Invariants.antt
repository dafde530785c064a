use Rattle.tests_core.proofs.stores.under.cells_are_found_on_the_way_down.Given as goal

abbrev pub ghosts-ask_cell : goal.ghosts-ask_cell
ghosts-ask_cell g a = record { name = a.blank.name; parts = a.blank.parts }
