use Rattle.dag_answers.proofs.making.file_of_history.Given as goal

abbrev pub ghosts-file_over : goal.ghosts-file_over
ghosts-file_over a = record { name = a.blank.name; parts = a.blank.parts }
