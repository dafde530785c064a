use Rattle.tests_edits.proofs.turns.turns_over.Given as goal

abbrev pub ghosts-fills : goal.ghosts-fills
ghosts-fills a = record { name = a.blank.name; parts = a.blank.parts }
