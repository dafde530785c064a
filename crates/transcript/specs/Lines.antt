-- The words of answers, and the text of a transcript.
use Rattle.std.specs.Prelude.{ℕ, true, false, Some, None, List, [], ◌∷◌, ◌++◌, codes}
use Rattle.std.specs.List.{flat_map}
use Rattle.std.specs.Fmt.{decimal}
use Rattle.vw_cell.specs.declared.cells.Cell.{Cell}
use Rattle.transcript.specs.declared.answers.Answer.{Answer}
use Rattle.transcript.specs.declared.answers.Answer.TheVariants.{Done, Forgot, Is, Colour, Count, Faces, Extent, Hit, Same, Head, Saved, Full, NoVersion, Forgotten, IsHead, NothingToUndo, NothingToRedo, LogFull, Stale}
use Rattle.transcript.specs.declared.answers.LineAnswer.{LineAnswer}
use Rattle.plain_text.specs.Parts.{line_of}

-- the three words of a cell, before others
abbrev pub words_of_cell : Cell → List (List ℕ) → List (List ℕ)
words_of_cell c more = decimal c.x ∷ decimal c.y ∷ decimal c.z ∷ more

abbrev pub answer_list : Answer → List (List ℕ)
answer_list Done = codes "ok" ∷ []
answer_list (Forgot v) = codes "forgot" ∷ decimal v ∷ []
answer_list (Is true) = codes "set" ∷ []
answer_list (Is false) = codes "clear" ∷ []
answer_list (Colour tint) = codes "colour" ∷ decimal tint ∷ []
answer_list (Count cells) = codes "count" ∷ decimal cells ∷ []
answer_list (Faces number) = codes "faces" ∷ decimal number ∷ []
answer_list (Extent None) = codes "bounds" ∷ codes "none" ∷ []
answer_list (Extent (Some b)) = codes "bounds" ∷ words_of_cell b.at (words_of_cell b.size [])
answer_list (Hit None) = codes "miss" ∷ []
answer_list (Hit (Some c)) = codes "hit" ∷ words_of_cell c []
answer_list (Same true) = codes "same" ∷ []
answer_list (Same false) = codes "different" ∷ []
answer_list Head = codes "head" ∷ []
answer_list (Saved cells) = codes "saved" ∷ decimal cells ∷ []
answer_list (Full level bucket) = codes "full" ∷ decimal level ∷ decimal bucket ∷ []
answer_list (NoVersion v) = codes "no" ∷ codes "version" ∷ decimal v ∷ []
answer_list (Forgotten v) = codes "forgotten" ∷ decimal v ∷ []
answer_list IsHead = codes "is" ∷ codes "head" ∷ []
answer_list NothingToUndo = codes "nothing" ∷ codes "to" ∷ codes "undo" ∷ []
answer_list NothingToRedo = codes "nothing" ∷ codes "to" ∷ codes "redo" ∷ []
answer_list LogFull = codes "log" ∷ codes "full" ∷ []
answer_list (Stale base) = codes "stale" ∷ decimal base ∷ []

-- `L @n A`
abbrev pub line_list : LineAnswer → List (List ℕ)
line_list l = decimal l.line ∷ (codes "@" ++ decimal l.at) ∷ answer_list l.answer

abbrev pub answer_text : Answer → List ℕ
answer_text answer = line_of (answer_list answer)

abbrev pub cell_text : Cell → List ℕ
cell_text c = line_of (words_of_cell c [])

-- each line has its newline
abbrev pub line_text : LineAnswer → List ℕ
line_text l = line_of (line_list l) ++ codes "\n"

abbrev pub transcript_of : List LineAnswer → List ℕ
transcript_of lines = flat_map line_text lines
