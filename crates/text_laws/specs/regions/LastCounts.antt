-- The number that a transcript ends with.
use Rattle.std.specs.Prelude.{ℕ, ◌-◌, List, [], ◌∷◌, length, Option, Some, None}
use Rattle.std.specs.List.{slice_get}
use Rattle.transcript.specs.declared.answers.Answer.{Answer}
use Rattle.transcript.specs.declared.answers.Answer.TheVariants as answers
use Rattle.transcript.specs.declared.answers.LineAnswer.{LineAnswer}

-- the number that an answer tells, where it is that of a count
abbrev pub count_in_answer : Answer → ℕ
count_in_answer (answers.Count cells) = cells
count_in_answer _ = 0

abbrev pub line_count : Option LineAnswer → ℕ
line_count None = 0
line_count (Some line) = count_in_answer line.answer

-- the number in a transcript's last line
abbrev pub last_count : List LineAnswer → ℕ
last_count lines = line_count (slice_get lines (length lines - 1))

-- those of four transcripts
abbrev pub region_counts : List (List LineAnswer) → List ℕ
region_counts (a ∷ b ∷ c ∷ d ∷ []) =
    last_count a ∷ last_count b ∷ last_count c ∷ last_count d ∷ []
region_counts _ = 0 ∷ 0 ∷ 0 ∷ 0 ∷ []
