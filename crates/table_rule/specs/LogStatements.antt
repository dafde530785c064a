-- What the laws say of each kind of step on the log. In each the seat's view is v, what was found
-- is k, and the new view is w.
use Rattle.std.specs.Prelude.{◌≡◌, ◌≢◌, ℕ, suc, ◌+◌, ◌*◌, ◌^◌, ◌<◌, ◌≤◌, eqb, true, false, Option, Some, None}
use Rattle.std.specs.List.{Contains}
use prog.Atomic.{either}
use Rattle.node_words.specs.declared.shapes.names.Name.{Name}
use Rattle.node_words.specs.shapes.Tree.{Tree, root_of}
use Rattle.node_words.specs.shapes.Weights.{number_of_trees}
use Rattle.node_words.specs.Plans.{Layout}
use Rattle.core_laws.specs.places.WordIds.{WordId, LogTurn, LogLength, Version}
use Rattle.history_model.specs.declared.histories.Record.{Record}
use Rattle.history_model.specs.declared.histories.Mark.{Mark}
use Rattle.core_laws.specs.contents.Versions.{IsUnmarked}
use Rattle.core_laws.specs.Events.{Rests}
use Rattle.core_laws.specs.LogEvents.{Appends, Forgets}
use Rattle.table_rule.specs.LogFacts.{number_seen, SeesAll, IsShownRoot}
use Rattle.table_rule.specs.LogTurnRules.{IsOfLog}
use Rattle.table_rule.specs.LogWords.{mark_of_words}
use Rattle.table_rule.specs.Rules.{MayWrite, MayWriteAmong}
use Rattle.table_rule.specs.Views.{SeatView, known_at}
use Rattle.table_rule.specs.LogChanges.{under_log_turn, met_busy, log_knowing, with_seen_mark, with_found, HasNextWords, IsAppendable, Appended, Forgot, SawNext}

-- the log's turn is exchanged for 1 plus a number of the seat where it is 0: the turn comes, or the
-- number of the other session that has it is noted, which is one of those that have numbers
abbrev pub LogTurnsAreTaken : Type 0
LogTurnsAreTaken = (sessions : ℕ) (p : Layout) (seat : ℕ) (v : SeatView) (number : ℕ)
    → v.log.turn ≡ false → Contains v.numbers number
    → MayWriteAmong sessions p seat v LogTurn (λ n. either (eqb n 0) (1 + number) n) (Rests p)
    (λ k w. (k ≡ 0 → w ≡ under_log_turn v true)
    × ((other : ℕ) → k ≡ suc other → (w ≡ met_busy v other) × (other < sessions)
    × ¬ Contains v.numbers other))

-- 0 is stored in the log's turn, which the seat has
abbrev pub LogTurnsAreGivenBack : Type 0
LogTurnsAreGivenBack = (p : Layout) (seat : ℕ) (v : SeatView) → v.log.turn ≡ true
    → MayWrite p seat v LogTurn (λ _. 0) (Rests p) (λ k w. w ≡ under_log_turn v false)

-- a word of the log is loaded under its turn: it is what was known of it
abbrev pub LogWordsAreLoaded : Type 0
LogWordsAreLoaded = (p : Layout) (seat : ℕ) (v : SeatView) (x : WordId) → v.log.turn ≡ true
    → IsOfLog x
    → MayWrite p seat v x (λ n. n) (Rests p)
    (λ k w. (w ≡ log_knowing v x k)
    × ((n : ℕ) → known_at x v.log.words ≡ Some n → k ≡ n))

-- the last word of the next record, whose other words are known, is loaded: the record is seen
abbrev pub NextRecordsAreSeen : Type 0
NextRecordsAreSeen = (p : Layout) (seat : ℕ) (v : SeatView) (long : ℕ) → v.log.turn ≡ true
    → known_at LogLength v.log.words ≡ Some long → number_seen v < long
    → ((i : ℕ) → i < 4 → known_at (Version (suc (number_seen v)) i) v.log.words ≢ None)
    → MayWrite p seat v (Version (suc (number_seen v)) 4) (λ n. n) (Rests p)
    (λ k w. SawNext v k w)

-- the word of a version's mark is loaded: the version is found without one, or the mark was made
-- later than the version and not behind the last record
abbrev pub MarksAreSought : Type 0
MarksAreSought = (p : Layout) (seat : ℕ) (v : SeatView) (u : ℕ) → SeesAll v → u ≤ number_seen v
    → MayWrite p seat v (Version u 6) (λ n. n) (Rests p)
    (λ k w. (k ≡ 0 → (w ≡ with_found (log_knowing v (Version u 6) k) u)
    × IsUnmarked v.log.seen.marks u)
    × ((at : ℕ) → k ≡ suc at → (w ≡ log_knowing v (Version u 6) k) × (u < at)
    × (at ≤ number_seen v))
    × ((n : ℕ) → known_at (Version u 6) v.log.words ≡ Some n → k ≡ n))

-- the last word of a version that is known to have a mark is loaded: the mark is seen
abbrev pub MarksAreSeen : Type 0
MarksAreSeen = (p : Layout) (seat : ℕ) (v : SeatView) (u at : ℕ) → v.log.turn ≡ true
    → u ≤ number_seen v → known_at (Version u 6) v.log.words ≡ Some (suc at)
    → MayWrite p seat v (Version u 7) (λ n. n) (Rests p)
    (λ k w. (w ≡ with_seen_mark (log_knowing v (Version u 7) k) (mark_of_words u at k))
    × Contains w.log.seen.marks (mark_of_words u at k)
    × ((n : ℕ) → known_at (Version u 7) v.log.words ≡ Some n → k ≡ n))

-- a word of the version behind the last is stored
abbrev pub NextWordsAreStored : Type 0
NextWordsAreStored = (p : Layout) (seat : ℕ) (v : SeatView) (i word : ℕ) → SeesAll v → i < 6
    → MayWrite p seat v (Version (suc (number_seen v)) i) (λ _. word) (Rests p)
    (λ k w. w ≡ log_knowing v (Version (suc (number_seen v)) i) word)

-- the length becomes one more: a record of the seat's is appended, whose words were stored, and its
-- root's share goes to the log
abbrev pub RecordsAreAppended : Type 0
RecordsAreAppended = (p : Layout) (seat : ℕ) (v : SeatView) (r : Record) (root : Tree)
    → v.alive ≡ true → SeesAll v → Contains v.numbers r.session → HasNextWords v r (root_of root)
    → IsAppendable p v r root
    → MayWrite p seat v LogLength (λ _. suc (number_seen v))
    (Appends p v.models seat r (root_of root))
    (λ k w. Appended v r root w)

-- the last word of a version without a mark is stored
abbrev pub MarkWordsAreStored : Type 0
MarkWordsAreStored = (p : Layout) (seat : ℕ) (v : SeatView) (u word : ℕ) → v.log.turn ≡ true
    → known_at (Version u 6) v.log.words ≡ Some 0
    → MayWrite p seat v (Version u 7) (λ _. word) (Rests p)
    (λ k w. w ≡ log_knowing v (Version u 7) word)

-- the word of its mark becomes 1 plus the length: the version is marked, and its root's share comes
abbrev pub VersionsAreForgotten : Type 0
VersionsAreForgotten = (p : Layout) (seat : ℕ) (v : SeatView) (m : Mark) (root : Option Name)
    → v.alive ≡ true → SeesAll v → IsShownRoot v m.version root → m.version < number_seen v
    → m.at ≡ number_seen v → Contains v.numbers m.session → m.line < 2 ^ 32
    → known_at (Version m.version 7) v.log.words ≡ Some (m.session + 2 ^ 16 * m.line)
    → number_of_trees v.held ≤ 4095
    → MayWrite p seat v (Version m.version 6) (λ _. suc m.at) (Forgets p seat m)
    (λ k w. Forgot v m root w)
