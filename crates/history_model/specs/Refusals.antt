-- What a refused journal says of its text.
use Rattle.std.specs.Prelude.{◌≡◌, ℕ, ◌+◌, List, ◌∷◌, length, codes}
use Rattle.plain_text.specs.Parts.{lines, FirstUnfit}
use Rattle.history_model.specs.Logs.{Log}
use Rattle.history_model.specs.Entries.{front_lines}
use Rattle.history_model.specs.Following.{IsJournalLines, LinesFollow}
use Rattle.history_model.specs.declared.reading.JournalFault.{JournalFault}
use Rattle.history_model.specs.declared.reading.JournalFault.TheVariants.{Line, Memory}

-- the line is the first that doesn't fit; want of memory says nothing
abbrev pub RefusesJournal : JournalFault → List ℕ → Type 0
RefusesJournal (Line n) text = FirstUnfit IsJournalLines (lines text) n
RefusesJournal Memory text = Unit {0}

-- the same of lines
abbrev pub RefusesLines : JournalFault → List (List ℕ) → Type 0
RefusesLines (Line n) all = FirstUnfit IsJournalLines all n
RefusesLines Memory all = Unit {0}

-- no journal goes on with this line, but for its last
abbrev pub NoEntry : Log → List ℕ → Type 0
NoEntry log line = (more : List (List ℕ)) → LinesFollow log (line ∷ more) → line ≡ codes "end"

-- the same of the line behind those of a history
abbrev pub RefusesEntry : JournalFault → Log → List ℕ → Type 0
RefusesEntry (Line n) log line = (n ≡ length (front_lines log) + 1) × NoEntry log line
RefusesEntry Memory log line = Unit {0}
