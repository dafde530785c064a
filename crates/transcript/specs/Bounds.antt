-- The numbers that an answer can hold.
use Rattle.std.specs.Prelude.{◌^◌, ◌<◌, Some}
use Rattle.transcript.specs.declared.answers.Answer.{Answer}
use Rattle.transcript.specs.declared.answers.Answer.TheVariants.{Forgot, Colour, Count, Faces, Extent, Hit, Saved, Full, NoVersion, Forgotten, Stale}
use Rattle.transcript.specs.declared.answers.LineAnswer.{LineAnswer}
use Rattle.vw_cell.specs.Places.{IsCell}

abbrev pub IsAnswer : Answer → Type 0
IsAnswer (Forgot v) = v < 2 ^ 32
IsAnswer (Colour tint) = tint < 2 ^ 8
IsAnswer (Count cells) = cells < 2 ^ 64
IsAnswer (Faces number) = number < 2 ^ 64
IsAnswer (Extent (Some b)) = IsCell b.at × IsCell b.size
IsAnswer (Hit (Some c)) = IsCell c
IsAnswer (Saved cells) = cells < 2 ^ 64
IsAnswer (Full level bucket) = (level < 2 ^ 8) × (bucket < 2 ^ 16)
IsAnswer (NoVersion v) = v < 2 ^ 32
IsAnswer (Forgotten v) = v < 2 ^ 32
IsAnswer (Stale base) = base < 2 ^ 32
IsAnswer _ = Unit {0}

pub record IsLineAnswer (a : LineAnswer) : Type 0 where
  pub line : a.line < 2 ^ 32
  pub at : a.at < 2 ^ 32
  pub answer : IsAnswer a.answer
