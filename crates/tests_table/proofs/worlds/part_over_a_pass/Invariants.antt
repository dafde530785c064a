use Rattle.tests_table.proofs.worlds.part_over_a_pass.Given as goal

abbrev pub ghosts-part_of_a_box : goal.ghosts-part_of_a_box
ghosts-part_of_a_box g a = record { name = a.blank.name; parts = a.blank.parts }
