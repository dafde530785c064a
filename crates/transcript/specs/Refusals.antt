-- What a refused transcript says of its text.
use Rattle.std.specs.Prelude.{ℕ, List}
use Rattle.plain_text.specs.Parts.{lines, FirstUnfit, line_of}
use Rattle.plain_text.specs.EachLaws.{AreLinesOf}
use Rattle.transcript.specs.Bounds.{IsLineAnswer}
use Rattle.transcript.specs.Lines.{line_list}
use Rattle.transcript.specs.declared.answers.LineAnswer.{LineAnswer}
use Rattle.transcript.specs.declared.reading.TranscriptFault.{TranscriptFault}
use Rattle.transcript.specs.declared.reading.TranscriptFault.TheVariants.{Line, Memory}

-- the line without its newline
abbrev pub line_words : LineAnswer → List ℕ
line_words a = line_of (line_list a)

-- the lines are those of a transcript
abbrev pub AreTranscriptLines : List (List ℕ) → Type 0
AreTranscriptLines all = AreLinesOf IsLineAnswer line_words all

-- the line is the first that doesn't fit; want of memory says nothing
abbrev pub RefusesTranscript : TranscriptFault → List ℕ → Type 0
RefusesTranscript (Line n) text = FirstUnfit AreTranscriptLines (lines text) n
RefusesTranscript Memory text = Unit {0}
