use Rattle.dag_answers.proofs.making.world_of_history.Given as goal

abbrev pub ghosts-world_over : goal.ghosts-world_over
ghosts-world_over a = record { name = a.blank.name; parts = a.blank.parts }
