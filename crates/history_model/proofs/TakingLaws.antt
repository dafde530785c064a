-- A history with one more line of its journal.
use Rattle.std.specs.Prelude.{◌≡◌, ℕ, suc, Some, None, ◌+◌, ◌-◌, ◌<◌, ◌≤◌, Bool, true, false, List, [], ◌∷◌, ◌++◌, length, codes, refl}
use Rattle.std.proofs.Common.{inl, inr, ap, sym, ◌∙◌, subst, arith, append_assoc, length-append}
use Rattle.std.proofs.lemmas.List.{append-nil}
use Rattle.std.specs.List.{AllByRecursion, join_with_byte, slice_get}
use Rattle.plain_text.specs.Parts.{words, lines, Unfit, FirstUnfit, line_of}
use Rattle.plain_text.specs.PartLaws.{parts_joined, lines_some}
use Rattle.history_model.specs.declared.histories.Record.{Record}
use Rattle.history_model.specs.declared.histories.Mark.{Mark}
use Rattle.history_model.specs.Logs.{Log}
use Rattle.history_model.specs.Journal.{header, journal_of}
use Rattle.history_model.specs.Entries.{IsRecord, IsNextMark, IsSide, AreMarks, HasJournal, record_list, mark_list, side_list, record_texts, mark_texts, front_lines, last_lines, next_version}
use Rattle.history_model.proofs.MarkLaws.{side_small}
use Rattle.history_model.proofs.JournalLaws.{record_words, mark_words, side_words, end_words, journal_joined}
use Rattle.history_model.proofs.GoingOn.{goes_on, headers_once, side_told}
use Rattle.history_model.specs.Following.{IsJournalLines, LinesFollow, RecordIn, NoRecordIn}

-- ---- numbers

record_texts_count : (n : ℕ) (records : List Record)
    → length (record_texts n records) ≡ length records
record_texts_count n [] = refl
record_texts_count n (r ∷ more) = let rest = record_texts_count (n + 1) more in omega (arith, rest)

mark_texts_count : (marks : List Mark) → length (mark_texts marks) ≡ length marks
mark_texts_count [] = refl
mark_texts_count (m ∷ more) = let rest = mark_texts_count more in omega (arith, rest)

marks_below : (count least : ℕ) (marks : List Mark) → least ≤ count → AreMarks count least marks
    → (least + length marks ≤ next_version least marks) × (next_version least marks ≤ count)
marks_below count least [] low are = (omega arith, omega arith)
marks_below count least (m ∷ more) low are =
    let further = marks_below count (m.version + 1) more (omega (arith, are.1)) are.2 in
    (omega (arith, further.0, are.0), further.1)

pub marks_few : (log : Log) → HasJournal log
    → (length log.marks ≤ 65535) × (next_version 0 log.marks ≤ 65535)
marks_few log told =
    let below = marks_below (length log.records) 0 log.marks (omega arith) told.marks in
    (omega (arith, below.0, below.1, told.few), omega (arith, below.1, told.few))

pub line_after : (log : Log) → HasJournal log
    → (length (front_lines log) ≡ length log.records + length log.marks + 2)
    × (length log.marks ≤ 65535)
line_after log told =
    let few = marks_few log told in
    let records = record_texts_count 1 log.records in
    let marks = mark_texts_count log.marks in
    let both = length-append (record_texts 1 log.records) (mark_texts log.marks) in
    (omega (arith, records, marks, both), few.0)

-- ---- one more record, one more mark

abbrev pub with_record : Log → Record → Log
with_record log r =
    record { side = log.side; coloured = log.coloured; records = log.records ++ r ∷ []; marks = log.marks }

abbrev pub with_mark : Log → Mark → Log
with_mark log m =
    record { side = log.side; coloured = log.coloured; records = log.records; marks = log.marks ++ m ∷ [] }

record_texts_more : (n k : ℕ) (records : List Record) (r : Record) → k ≡ n + length records
    → record_texts n (records ++ r ∷ []) ≡ record_texts n records ++ line_of (record_list k r) ∷ []
record_texts_more n k [] r at =
    let e : n ≡ k = omega arith in ap (λ (j : ℕ). line_of (record_list j r) ∷ []) e
record_texts_more n k (s ∷ more) r at =
    ap (λ (ls : List (List ℕ)). line_of (record_list n s) ∷ ls)
    (record_texts_more (n + 1) k more r (omega arith))

mark_texts_more : (marks : List Mark) (m : Mark)
    → mark_texts (marks ++ m ∷ []) ≡ mark_texts marks ++ line_of (mark_list m) ∷ []
mark_texts_more [] m = refl
mark_texts_more (s ∷ more) m =
    ap (λ (ls : List (List ℕ)). line_of (mark_list s) ∷ ls) (mark_texts_more more m)

all_more : (P : Record → Type 0) (records : List Record) (r : Record) → AllByRecursion P records
    → P r → AllByRecursion P (records ++ r ∷ [])
all_more P [] r all here = (here, tt)
all_more P (s ∷ more) r all here = (all.0, all_more P more r all.1 here)

marks_more : (count least : ℕ) (marks : List Mark) (m : Mark) → AreMarks count least marks
    → IsNextMark count (next_version least marks) m → AreMarks count least (marks ++ m ∷ [])
marks_more count least [] m are is = (is.0, is.1, tt)
marks_more count least (s ∷ more) m are is =
    (are.0, are.1, marks_more count (s.version + 1) more m are.2 is)

-- a line by its words
line_by : (line : List ℕ) (ws : List (List ℕ)) → ws ≡ words line → line_of ws ≡ line
line_by line ws same = ap (join_with_byte 32) same ∙ parts_joined 32 line

pub takes_record : (log : Log) (line : List ℕ) (r : Record) → HasJournal log → RecordIn log line r
    → HasJournal (with_record log r) × (front_lines (with_record log r) ≡ front_lines log ++ line ∷ [])
takes_record log line r told here =
    let count = length-append log.records (r ∷ []) in
    let marks : AreMarks (length (log.records ++ r ∷ [])) 0 log.marks = rw (here.unmarked) tt in
    let texts : record_texts 1 (log.records ++ r ∷ []) ≡ record_texts 1 log.records ++ line ∷ [] =
    record_texts_more 1 (length log.records + 1) log.records r (omega arith)
    ∙ ap (λ (l : List ℕ). record_texts 1 log.records ++ l ∷ []) (line_by line _ here.is) in
    let none : mark_texts log.marks ≡ [] = ap mark_texts here.unmarked in
    let entries : record_texts 1 (log.records ++ r ∷ []) ++ mark_texts log.marks ≡ (record_texts 1 log.records ++ mark_texts log.marks) ++ line ∷ [] =
    rw none (append-nil (record_texts 1 (log.records ++ r ∷ [])) ∙ texts
    ∙ ap (λ (ls : List (List ℕ)). ls ++ line ∷ [])
    (sym (append-nil (record_texts 1 log.records)))) in (
      record {
        side = told.side;
        quarter = told.quarter;
        few = omega
            (arith, count, here.few);
        records = all_more
            (IsRecord log.coloured log.side) log.records r told.records here.fits;
        marks = marks;
      },
      ap (λ (ls : List (List ℕ)). header log.coloured ∷ line_of
          (side_list log.coloured log.side) ∷ ls) entries,
    )

pub takes_mark : (log : Log) (line : List ℕ) (m : Mark) → HasJournal log
    → IsNextMark (length log.records) (next_version 0 log.marks) m → mark_list m ≡ words line
    → HasJournal (with_mark log m) × (front_lines (with_mark log m) ≡ front_lines log ++ line ∷ [])
takes_mark log line m told fits is =
    let texts : mark_texts (log.marks ++ m ∷ []) ≡ mark_texts log.marks ++ line ∷ [] =
    mark_texts_more log.marks m
    ∙ ap (λ (l : List ℕ). mark_texts log.marks ++ l ∷ []) (line_by line _ is) in
    let entries : record_texts 1 log.records ++ mark_texts (log.marks ++ m ∷ []) ≡ (record_texts 1 log.records ++ mark_texts log.marks) ++ line ∷ [] =
    ap (λ (ls : List (List ℕ)). record_texts 1 log.records ++ ls) texts
    ∙ sym (append_assoc (record_texts 1 log.records) (mark_texts log.marks) (line ∷ [])) in (
      record { side = told.side; quarter = told.quarter; few = told.few; records = told.records; marks = marks_more (length log.records) 0 log.marks m told.marks fits },
      ap (λ (ls : List (List ℕ)). header log.coloured ∷ line_of
          (side_list log.coloured log.side) ∷ ls) entries,
    )

abbrev pub NoMarkIn : Log → List ℕ → Type 0
NoMarkIn log line =
    (m : Mark) → IsNextMark (length log.records) (next_version 0 log.marks) m
    → mark_list m ≡ words line → ⊥

abbrev tail_of : List (List ℕ) → List (List ℕ)
tail_of [] = []
tail_of (x ∷ more) = more

first_of_lines : (a b : List ℕ) (x y : List (List ℕ)) → a ∷ x ≡ b ∷ y → a ≡ b
first_of_lines a b x y same = cc

pub no_entry_in : (log : Log) (line : List ℕ) → HasJournal log → NoRecordIn log line → NoMarkIn log line
    → (more : List (List ℕ)) → LinesFollow log (line ∷ more) → line ≡ codes "end"
no_entry_in log line told no_record no_mark more (inl last) = first_of_lines _ _ _ _ last
no_entry_in log line told no_record no_mark more (inr (inl g)) =
    let e : line ≡ line_of (record_list (length log.records + 1) g.r) =
    first_of_lines _ _ _ _ g.is in
    let ws : record_list (length log.records + 1) g.r ≡ words line =
    sym (ap words e
    ∙ record_words log.coloured log.side (length log.records + 1) g.r
    (side_small log.side told.side.1) (omega (arith, told.few)) g.fits) in
    absurd (no_record g.r (record { unmarked = g.unmarked; few = g.few; fits = g.fits; is = ws }))
no_entry_in log line told no_record no_mark more (inr (inr g)) =
    let e : line ≡ line_of (mark_list g.m) = first_of_lines _ _ _ _ g.is in
    let ws : mark_list g.m ≡ words line =
    sym (ap words e ∙ mark_words (length log.records) g.m told.few g.fits.1) in
    absurd (no_mark g.m g.fits ws)

-- the version after the last mark
pub last_next : (least : ℕ) (marks : List Mark) (m : Mark)
    → Some m ≡ slice_get marks (length marks - 1) → next_version least marks ≡ m.version + 1
last_next least [] m same = absurd cc
last_next least (s ∷ []) m same = (let e : m ≡ s = cc in ap (λ (x : Mark). x.version + 1) (sym e))
last_next least (s ∷ t ∷ more) m same =
    let e : length (s ∷ t ∷ more) - 1 ≡ suc (length (t ∷ more) - 1) = omega arith in
    last_next (s.version + 1) (t ∷ more) m (same ∙ ap (slice_get (s ∷ t ∷ more)) e)

some_last : (t : Mark) (more : List Mark) → None ≡ slice_get (t ∷ more) (length (t ∷ more) - 1) → ⊥
some_last t [] same = cc
some_last t (u ∷ more) same =
    let e : length (t ∷ u ∷ more) - 1 ≡ suc (length (u ∷ more) - 1) = omega arith in
    some_last u more (same ∙ ap (slice_get (t ∷ u ∷ more)) e)

pub none_next : (marks : List Mark) → None ≡ slice_get marks (length marks - 1)
    → next_version 0 marks ≡ 0
none_next [] same = refl
none_next (s ∷ []) same = absurd cc
none_next (s ∷ t ∷ more) same =
    let e : length (s ∷ t ∷ more) - 1 ≡ suc (length (t ∷ more) - 1) = omega arith in
    absurd (some_last t more (same ∙ ap (slice_get (s ∷ t ∷ more)) e))

-- ---- refusals

-- a history with no records
pub begins_told : (coloured : Bool) (side : ℕ) → IsSide coloured side
    → HasJournal (record { side = side; coloured = coloured; records = []; marks = [] })
begins_told coloured side is =
    record { side = (is.0, is.1); quarter = is.2; few = omega arith; records = tt; marks = tt }

abbrev Kind : List (List ℕ) → Type 0
Kind = IsJournalLines

unfit_by : (front : List (List ℕ)) (line : List ℕ) (after : List (List ℕ))
    → ((more : List (List ℕ)) → Kind (front ++ line ∷ more) → ⊥) → Unfit Kind front (line ∷ after)
unfit_by front line [] none = none []
unfit_by front line (next ∷ more) none = λ other others. none (other ∷ others)

not_short : (tail : List ℕ) (log : Log) → LinesFollow log (tail ∷ []) → ⊥
not_short tail log (inl last) =
    (let e : length (tail ∷ []) ≡ length last_lines = ap length last in omega (arith, e))
not_short tail log (inr (inl g)) =
    (let e : length (tail ∷ []) ≡ suc (length g.more) = ap length g.is in omega (arith, e, g.some))
not_short tail log (inr (inr g)) =
    (let e : length (tail ∷ []) ≡ suc (length g.more) = ap length g.is in omega (arith, e, g.some))

-- a line with no end
pub tail_unfit : (log : Log) (all : List (List ℕ)) (tail : List ℕ) (n : ℕ) → HasJournal log
    → all ≡ front_lines log ++ tail ∷ [] → n ≡ length (front_lines log) + 1 → FirstUnfit Kind all n
tail_unfit log all tail n told whole number =
    record {
      front = front_lines log;
      rest = tail ∷ [];
      whole = whole;
      number = number;
      begun = (codes "end", [] ∷ [], (log, told, refl));
      unfit = λ journal. not_short tail log
          (goes_on log (tail ∷ []) told journal);
    }

-- a line that goes on with no record and no mark
pub line_unfit : (log : Log) (all after : List (List ℕ)) (line : List ℕ) (n : ℕ) → HasJournal log
    → all ≡ front_lines log ++ line ∷ after → n ≡ length (front_lines log) + 1
    → (line ≡ codes "end" → ⊥)
    → ((more : List (List ℕ)) → LinesFollow log (line ∷ more) → line ≡ codes "end") → FirstUnfit Kind all n
line_unfit log all after line n told whole number other only =
    record {
      front = front_lines log;
      rest = line ∷ after;
      whole = whole;
      number = number;
      begun = (codes "end", [] ∷ [], (log, told, refl));
      unfit = unfit_by (front_lines log) line after
          (λ more journal. other (only more (goes_on log (line ∷ more) told journal)));
    }

-- behind the last line only nothing can stand
end_goes : (log : Log) (rest : List (List ℕ)) → HasJournal log → LinesFollow log (codes "end" ∷ rest)
    → rest ≡ [] ∷ []
end_goes log rest told (inl last) = ap tail_of last
end_goes log rest told (inr (inl g)) =
    let e : codes "end" ≡ line_of (record_list (length log.records + 1) g.r) =
    first_of_lines _ _ _ _ g.is in
    let ws : codes "end" ∷ [] ≡ record_list (length log.records + 1) g.r =
    sym end_words ∙ ap words e
    ∙ record_words log.coloured log.side (length log.records + 1) g.r
    (side_small log.side told.side.1) (omega (arith, told.few)) g.fits in
    absurd (let none : []
    ≡ tail_of (record_list (length log.records + 1) g.r) = ap tail_of ws in cc)
end_goes log rest told (inr (inr g)) =
    let e : codes "end" ≡ line_of (mark_list g.m) = first_of_lines _ _ _ _ g.is in
    let ws : codes "end" ∷ [] ≡ mark_list g.m =
    sym end_words ∙ ap words e ∙ mark_words (length log.records) g.m told.few g.fits.1 in
    absurd (let none : [] ≡ tail_of (mark_list g.m) = ap tail_of ws in cc)

unfit_end : (front : List (List ℕ)) (rest : List (List ℕ)) → 0 < length rest → (rest ≡ [] ∷ [] → ⊥)
    → ((more : List (List ℕ)) → Kind (front ++ more) → more ≡ [] ∷ []) → Unfit Kind front rest
unfit_end front [] some other only = absurd (omega arith)
unfit_end front (line ∷ []) some other only = λ journal. other (only (line ∷ []) journal)
unfit_end front (line ∷ next ∷ more) some other only =
    λ second others journal.
    (let e = only (line ∷ second ∷ others) journal in let wrong : second ∷ others
    ≡ [] = ap tail_of e in cc)

not_empty : (after : List ℕ) → 0 < length after → lines after ≡ [] ∷ [] → ⊥
not_empty after some e =
    let nothing : after ≡ [] = sym (parts_joined 10 after) ∙ ap (join_with_byte 10) e in
    let size : length after ≡ 0 = ap length nothing in
    omega (arith, size)

pub end_unfit : (log : Log) (all : List (List ℕ)) (after : List ℕ) (n : ℕ) → HasJournal log
    → all ≡ front_lines log ++ codes "end" ∷ lines after → n ≡ length (front_lines log) + 2
    → 0 < length after → FirstUnfit Kind all n
end_unfit log all after n told whole number some =
    let front : List (List ℕ) = front_lines log ++ codes "end" ∷ [] in
    record {
      front = front;
      rest = lines after;
      whole = whole ∙ sym (append_assoc (front_lines log) (codes "end" ∷ []) (lines after));
      number = omega (arith, number, length-append (front_lines log) (codes "end" ∷ []));
      begun = ([], [], (log, told, append_assoc (front_lines log) (codes "end" ∷ []) ([] ∷ [])));
      unfit = unfit_end front (lines after) (lines_some after) (not_empty after some)
          (λ more journal. end_goes log more told (goes_on log (codes "end" ∷ more) told (subst Kind (append_assoc (front_lines log) (codes "end" ∷ []) more) journal)));
    }

-- ---- the first two lines

abbrev starting : Bool → Log
starting coloured = record { side = 4; coloured = coloured; records = []; marks = [] }

starting_told : (coloured : Bool) → HasJournal (starting coloured)
starting_told coloured = begins_told coloured 4 (omega arith, omega arith, λ _. omega arith)

-- some journal begins so
begun_once : (coloured : Bool) (front : List (List ℕ)) (next : List ℕ) (more : List (List ℕ))
    → front ++ next ∷ more ≡ front_lines (starting coloured) ++ last_lines
    → (part : List ℕ) × (rest : List (List ℕ)) × Kind (front ++ part ∷ rest)
begun_once coloured front next more same =
    (next, more, (starting coloured, starting_told coloured, same))

kind_long : (ls : List (List ℕ)) → Kind ls → 4 ≤ length ls
kind_long ls journal =
    let log : Log = journal.0 in
    let size = ap length journal.2 in
    let both = length-append (front_lines log) last_lines in
    omega (arith, size, both)

pub head_tail : (all : List (List ℕ)) (tail : List ℕ) → all ≡ tail ∷ [] → FirstUnfit Kind all 1
head_tail all tail whole =
    record { front = []; rest = tail ∷ []; whole = whole; number = refl; begun = begun_once false [] _ _ refl; unfit = λ journal. (let long = kind_long (tail ∷ []) journal in omega (arith, long)) }

other_header : (line : List ℕ) (coloured : Bool) → (line ≡ header false → ⊥)
    → (line ≡ header true → ⊥) → line ≡ header coloured → ⊥
other_header line false one two same = one same
other_header line true one two same = two same

pub head_line : (all after : List (List ℕ)) (line : List ℕ) → all ≡ line ∷ after
    → (line ≡ header false → ⊥) → (line ≡ header true → ⊥) → FirstUnfit Kind all 1
head_line all after line whole one two =
    record {
      front = [];
      rest = line ∷ after;
      whole = whole;
      number = refl;
      begun = begun_once false [] _ _ refl;
      unfit = unfit_by [] line after
          (λ more journal. other_header line journal.0.coloured one two
          (first_of_lines _ _ _ _ (journal.2)));
    }

pub side_tail : (coloured : Bool) (all : List (List ℕ)) (tail : List ℕ)
    → all ≡ header coloured ∷ tail ∷ [] → FirstUnfit Kind all 2
side_tail coloured all tail whole =
    record {
      front = header coloured ∷ [];
      rest = tail ∷ [];
      whole = whole;
      number = refl;
      begun = begun_once coloured (header coloured ∷ []) _ _ refl;
      unfit = λ journal.
          (let long = kind_long (header coloured ∷ tail ∷ []) journal in omega (arith, long));
    }

no_second : (coloured : Bool) (line : List ℕ) (after : List (List ℕ))
    → ((exponent : ℕ) → IsSide coloured exponent → side_list coloured exponent ≡ words line → ⊥)
    → Kind (header coloured ∷ line ∷ after) → ⊥
no_second coloured line after none journal =
    let other : Log = journal.0 in
    let alike : coloured ≡ other.coloured =
    headers_once coloured other.coloured (first_of_lines _ _ _ _ journal.2) in
    let second : line ≡ line_of (side_list other.coloured other.side) =
    first_of_lines _ _ _ _ (ap tail_of journal.2) in
    let ws : side_list coloured other.side ≡ words line =
    ap (λ (c : Bool). side_list c other.side) alike
    ∙ sym (side_words other.coloured other.side journal.1.side.1) ∙ ap words (sym second) in
    none other.side
    (subst (λ (c : Bool). IsSide c other.side) (sym alike) (side_told other journal.1)) ws

pub side_line : (coloured : Bool) (all after : List (List ℕ)) (line : List ℕ)
    → all ≡ header coloured ∷ line ∷ after
    → ((exponent : ℕ) → IsSide coloured exponent → side_list coloured exponent ≡ words line → ⊥)
    → FirstUnfit Kind all 2
side_line coloured all after line whole none =
    record {
      front = header coloured ∷ [];
      rest = line ∷ after;
      whole = whole;
      number = refl;
      begun = begun_once coloured (header coloured ∷ []) _ _ refl;
      unfit = unfit_by (header coloured ∷ []) line after
          (λ more journal. no_second coloured line more none journal);
    }

pub side_begun : (coloured : Bool) (all after : List (List ℕ)) (line : List ℕ) (exponent : ℕ)
    → all ≡ header coloured ∷ line ∷ after → side_list coloured exponent ≡ words line
    → all ≡ header coloured ∷ line_of (side_list coloured exponent) ∷ after
side_begun coloured all after line exponent whole is =
    whole ∙ ap (λ (l : List ℕ). header coloured ∷ l ∷ after) (sym (line_by line _ is))

-- ---- as the functions use it

-- the history that stands so in its three parts
pub takes_record_as : (log : Log) (line : List ℕ) (r : Record) (side : ℕ) (coloured : Bool)
    (records : List Record) (marks : List Mark) → side ≡ log.side → coloured ≡ log.coloured
    → records ≡ log.records ++ r ∷ [] → marks ≡ log.marks → HasJournal log → RecordIn log line r
    → HasJournal (record { side = side; coloured = coloured; records = records; marks = marks })
    ×
    (front_lines
    (record { side = side; coloured = coloured; records = records; marks = marks })
    ≡ front_lines log ++ line ∷ [])
takes_record_as log line r side coloured records marks same_side alike more same_marks told here =
    let e : with_record log r ≡ record {
      side =
          side;
      coloured = coloured;
      records = records;
      marks = marks;
    } = cc in
    subst (λ (h : Log). HasJournal h × (front_lines h ≡ front_lines log ++ line ∷ [])) e
    (takes_record log line r told here)

pub takes_mark_as : (log : Log) (line : List ℕ) (m : Mark) (side : ℕ) (coloured : Bool)
    (records : List Record) (marks : List Mark) → side ≡ log.side → coloured ≡ log.coloured
    → records ≡ log.records → marks ≡ log.marks ++ m ∷ [] → HasJournal log
    → IsNextMark (length log.records) (next_version 0 log.marks) m → mark_list m ≡ words line
    → HasJournal (record { side = side; coloured = coloured; records = records; marks = marks })
    ×
    (front_lines
    (record { side = side; coloured = coloured; records = records; marks = marks })
    ≡ front_lines log ++ line ∷ [])
takes_mark_as log line m side coloured records marks same_side alike same_records more told fits is =
    let e : with_mark log m ≡ record {
      side =
          side;
      coloured = coloured;
      records = records;
      marks = marks;
    } = cc in
    subst (λ (h : Log). HasJournal h × (front_lines h ≡ front_lines log ++ line ∷ [])) e
    (takes_mark log line m told fits is)

-- the text of the lines
pub journal_read : (text : List ℕ) (log : Log) → lines text ≡ front_lines log ++ last_lines
    → text ≡ journal_of log
journal_read text log whole =
    sym (parts_joined 10 text) ∙ ap (join_with_byte 10) whole ∙ journal_joined log

-- a line more
pub lines_further : (all before after : List (List ℕ)) (line : List ℕ) (front rest : List (List ℕ))
    → all ≡ front ++ before → before ≡ line ∷ after → rest ≡ front ++ line ∷ []
    → all ≡ rest ++ after
lines_further all before after line front rest whole split more =
    whole ∙ ap (λ (ls : List (List ℕ)). front ++ ls) split
    ∙ sym (append_assoc front (line ∷ []) after)
    ∙ ap (λ (ls : List (List ℕ)). ls ++ after) (sym more)
