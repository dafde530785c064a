use Rattle.tests_table.proofs.nodes.told_of.Given as goal

abbrev pub ghosts-told_once : goal.ghosts-told_once
ghosts-told_once g a = record { name = a.blank.name; parts = a.blank.parts }
