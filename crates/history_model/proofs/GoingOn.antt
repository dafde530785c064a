-- How a journal goes on behind the lines of a history: with a record, with a mark, or with its last
-- line.
use Rattle.std.specs.Prelude.{◌≡◌, ℕ, ◌+◌, ◌^◌, ◌<◌, ◌≤◌, Bool, true, false, List, [], ◌∷◌, ◌++◌, length, codes, refl}
use Rattle.std.proofs.Common.{inl, inr, get_or, ap, sym, ◌∙◌, subst, arith, append_assoc, length-append}
use Rattle.std.proofs.lemmas.List.{append-nil}
use Rattle.std.specs.Fmt.{decimal}
use Rattle.std.specs.Char.{digit_value}
use Rattle.std.specs.Str.Parse.{AllDigits}
use Rattle.std.specs.List.{AllByRecursion}
use Rattle.std.proofs.lemmas.Fmt.{decimal_is_IsNumeral}
use Rattle.plain_text.specs.Parts.{words, line_of}
use Rattle.history_model.specs.declared.histories.Record.{Record}
use Rattle.history_model.specs.declared.histories.Mark.{Mark}
use Rattle.history_model.specs.Logs.{Log}
use Rattle.history_model.specs.Reach.{ActLiesIn}
use Rattle.history_model.specs.Journal.{header}
use Rattle.history_model.specs.Following.{IsJournalLines, LinesFollow}
use Rattle.history_model.specs.Entries.{IsRecord, IsMark, IsSide, AreMarks, HasJournal, record_list, mark_list, side_list, record_texts, mark_texts, front_lines, last_lines, next_version}
use Rattle.history_model.proofs.EntryLaws.{records_once}
use Rattle.history_model.proofs.MarkLaws.{marks_once, sides_once, side_small}
use Rattle.history_model.proofs.JournalLaws.{record_words, mark_words, side_words, end_words}

-- a line that is no record's
abbrev pub NoRecord : List (List ℕ) → Type 0
NoRecord tail =
    (line : List ℕ) (others : List (List ℕ)) (coloured : Bool) (side n : ℕ) (r : Record)
    → 2 ^ side ≤ 4096 → n < 2 ^ 32 → IsRecord coloured side r → tail ≡ line ∷ others
    → line ≡ line_of (record_list n r) → ⊥

abbrev pub first : List (List ℕ) → List ℕ
first ls = get_or ls 0 []

abbrev pub rest_of : List (List ℕ) → List (List ℕ)
rest_of [] = []
rest_of (x ∷ more) = more

no_digits : (n : ℕ) → n < 2 ^ 32 → codes "mark" ≡ decimal n → ⊥
no_digits n small same =
    let digits : AllDigits 10 (codes "mark") =
    subst (AllDigits 10) (sym same) (decimal_is_IsNumeral n (omega arith)).0.1 in
    let first_digit : digit_value 109 < 10 = digits.0 in
    omega (arith, first_digit)

pub tail_no_record : (count least : ℕ) (marks : List Mark) → count ≤ 65535
    → AreMarks count least marks → NoRecord (mark_texts marks ++ last_lines)
tail_no_record count least [] few are line others coloured side n r low small is at same =
    let e : codes "end" ≡ line_of (record_list n r) = ap first at ∙ same in
    let ws : codes "end" ∷ [] ≡ record_list n r =
    sym end_words ∙ ap words e ∙ record_words coloured side n r low small is in
    let none : [] ≡ rest_of (record_list n r) = ap rest_of ws in
    cc
tail_no_record count least (m ∷ more) few are line others coloured side n r low small is at same =
    let e : line_of (mark_list m) ≡ line_of (record_list n r) = ap first at ∙ same in
    let ws : mark_list m ≡ record_list n r =
    sym (mark_words count m few are.1) ∙ ap words e
    ∙ record_words coloured side n r low small is in
    no_digits n small (ap first ws)

-- both histories have our records
pub record Peeled (theirs ours : List Record) (tail rest : List (List ℕ)) (k : ℕ) : Type 0 where
  pub more : List Record
  pub whole : theirs ≡ ours ++ more
  pub behind : record_texts k more ++ tail ≡ rest

pub peel_records : (coloured : Bool) (side other n k : ℕ) (theirs ours : List Record)
    (tail rest : List (List ℕ)) → k ≡ n + length ours → 2 ^ side ≤ 4096 → 2 ^ other ≤ 4096
    → n + length ours ≤ 65536 → AllByRecursion (IsRecord coloured other) theirs
    → AllByRecursion (IsRecord coloured side) ours → NoRecord tail
    → record_texts n theirs ++ tail ≡ record_texts n ours ++ rest → Peeled theirs ours tail rest k
peel_records coloured side other n k theirs [] tail rest at low low_other few of_theirs of_ours none same =
    let e : n ≡ k = omega arith in
    record {
      more = theirs;
      whole = refl;
      behind = subst
          (λ (j : ℕ). record_texts j theirs ++ tail ≡ rest) e same;
    }
peel_records coloured side other n k []
    (r ∷ ours) tail rest at low low_other few of_theirs of_ours none same =
    absurd (none (line_of (record_list n r))
    (record_texts (n + 1) ours ++ rest) coloured side n r low (omega arith) of_ours.0 same refl)
peel_records coloured side other n k (t ∷ theirs)
    (r ∷ ours) tail rest at low low_other few of_theirs of_ours none same =
    let e : line_of (record_list n t) ≡ line_of (record_list n r) = ap first same in
    let ws : record_list n t ≡ record_list n r =
    sym (record_words coloured other n t low_other (omega arith) of_theirs.0) ∙ ap words e
    ∙ record_words coloured side n r low (omega arith) of_ours.0 in
    let one : t ≡ r =
    records_once coloured other side n t r low_other low
    (omega arith) of_theirs.0 of_ours.0 ws in
    let p =
    peel_records coloured side other (n + 1) k theirs ours tail rest
    (omega arith) low low_other (omega arith) of_theirs.1 of_ours.1 none
    (ap rest_of same) in
    record {
      more = p.more;
      whole = ap (λ (x : Record). x ∷ theirs) one
          ∙ ap (λ (xs : List Record). r ∷ xs) p.whole;
      behind = p.behind;
    }

-- both have our marks
pub record PeeledMarks (count least : ℕ) (ours : List Mark) (rest : List (List ℕ)) : Type 0 where
  pub more : List Mark
  pub are : AreMarks count (next_version least ours) more
  pub behind : mark_texts more ++ last_lines ≡ rest

peel_marks : (count least : ℕ) (theirs ours : List Mark) (rest : List (List ℕ)) → count ≤ 65535
    → AreMarks count least theirs → AreMarks count least ours
    → mark_texts theirs ++ last_lines ≡ mark_texts ours ++ rest → PeeledMarks count least ours rest
peel_marks count least theirs [] rest few of_theirs of_ours same =
    record { more = theirs; are = of_theirs; behind = same }
peel_marks count least [] (m ∷ ours) rest few of_theirs of_ours same =
    let e : codes "end" ≡ line_of (mark_list m) = ap first same in
    let ws : codes "end" ∷ [] ≡ mark_list m =
    sym end_words ∙ ap words e ∙ mark_words count m few of_ours.1 in
    absurd (let none : [] ≡ rest_of (mark_list m) = ap rest_of ws in cc)
peel_marks count least (t ∷ theirs) (m ∷ ours) rest few of_theirs of_ours same =
    let e : line_of (mark_list t) ≡ line_of (mark_list m) = ap first same in
    let ws : mark_list t ≡ mark_list m =
    sym (mark_words count t few of_theirs.1) ∙ ap words e ∙ mark_words count m few of_ours.1 in
    let one : t ≡ m =
    marks_once count least least t m few (of_theirs.0, of_theirs.1) (of_ours.0, of_ours.1) ws in
    let of_more : AreMarks count (m.version + 1) theirs =
    subst (λ (x : Mark). AreMarks count (x.version + 1) theirs) one of_theirs.2 in
    let p =
    peel_marks count (m.version + 1) theirs ours rest few of_more of_ours.2 (ap rest_of same) in
    record { more = p.more; are = p.are; behind = p.behind }

-- ---- going on

marks_left : (marks : List Mark) → 0 < length (mark_texts marks ++ last_lines)
marks_left [] = omega arith
marks_left (m ∷ more) = omega arith

records_left : (n : ℕ) (records : List Record) (marks : List Mark)
    → 0 < length (record_texts n records ++ (mark_texts marks ++ last_lines))
records_left n [] marks = marks_left marks
records_left n (r ∷ more) marks = omega arith

goes_mark : (log : Log) (rest : List (List ℕ)) (more : List Mark)
    → AreMarks (length log.records) (next_version 0 log.marks) more
    → mark_texts more ++ last_lines ≡ rest → LinesFollow log rest
goes_mark log rest [] are behind = inl (sym behind)
goes_mark log rest (m ∷ more) are behind =
    inr
    (inr (record {
      m = m;
      more = mark_texts more ++ last_lines;
      fits =
          (are.0, are.1);
      is = sym behind;
      some = marks_left more;
    }))

pub last_is : (P : Record → Type 0) (ours : List Record) (r : Record) (more : List Record)
    → AllByRecursion P (ours ++ r ∷ more) → P r
last_is P [] r more all = all.0
last_is P (s ∷ ours) r more all = last_is P ours r more all.1

pub next_is : (log other : Log) (r : Record) (more : List Record) → other.coloured ≡ log.coloured
    → HasJournal other → other.records ≡ log.records ++ r ∷ more → IsRecord log.coloured other.side r
next_is log other r more alike told_other whole =
    let theirs : AllByRecursion (IsRecord log.coloured other.side) other.records =
    subst (λ (c : Bool). AllByRecursion
    (IsRecord c other.side) other.records) alike told_other.records in
    let all : AllByRecursion (IsRecord log.coloured other.side) (log.records ++ r ∷ more) =
    subst (AllByRecursion (IsRecord log.coloured other.side)) whole theirs in
    last_is (IsRecord log.coloured other.side) log.records r more all

goes_record : (log other : Log) (rest : List (List ℕ)) (r : Record) (more : List Record)
    (marks : List Mark) → other.coloured ≡ log.coloured → log.marks ≡ marks → HasJournal log
    → HasJournal other → 2 ^ other.side ≡ 2 ^ log.side → other.records ≡ log.records ++ r ∷ more
    → line_of (record_list (length log.records + 1) r) ∷
    (record_texts (length log.records + 1 + 1) more ++ (mark_texts other.marks ++ last_lines))
    ≡ mark_texts marks ++ rest → LinesFollow log rest
goes_record log other rest r more [] alike unmarked told told_other sides whole behind =
    let theirs : IsRecord log.coloured other.side r =
    next_is log other r more alike told_other whole in
    let fits : IsRecord log.coloured log.side r =
    (theirs.0, theirs.1, subst (λ (n : ℕ). ActLiesIn n r.act) sides theirs.2, theirs.3) in
    let few : length log.records < 65535 =
    omega (arith, told_other.few, ap length whole, length-append log.records (r ∷ more)) in
    inr (inl (record {
      r = r;
      more = record_texts (length log.records + 1 + 1) more ++
          (mark_texts other.marks ++ last_lines);
      unmarked = unmarked;
      fits = fits;
      few = few;
      is = sym behind;
      some = records_left _ more other.marks;
    }))
goes_record log other rest r more (m ∷ ours) alike marked told told_other sides whole behind =
    let theirs : IsRecord log.coloured other.side r =
    next_is log other r more alike told_other whole in
    let is_mark : IsMark (length log.records) m =
    (subst (AreMarks (length log.records) 0) marked told.marks).1 in
    let small : length log.records + 1 < 2 ^ 32 = omega (arith, told.few) in
    let ws : record_list (length log.records + 1) r ≡ mark_list m =
    sym (record_words log.coloured other.side (length log.records + 1) r
    (side_small other.side told_other.side.1) small theirs) ∙ ap words (ap first behind)
    ∙ mark_words (length log.records) m told.few is_mark in
    absurd (no_digits (length log.records + 1) small (sym (ap first ws)))

-- their records behind ours, and their marks
goes : (log other : Log) (rest : List (List ℕ)) (more : List Record) → other.coloured ≡ log.coloured
    → HasJournal log → HasJournal other → 2 ^ other.side ≡ 2 ^ log.side
    → other.records ≡ log.records ++ more
    → record_texts (length log.records + 1) more ++
    (mark_texts other.marks ++ last_lines) ≡ mark_texts log.marks ++ rest → LinesFollow log rest
goes log other rest [] alike told told_other sides whole behind =
    let same : other.records ≡ log.records = whole ∙ append-nil log.records in
    let marks : AreMarks (length log.records) 0 other.marks =
    subst (λ (rs : List Record). AreMarks (length rs) 0 other.marks) same told_other.marks in
    let p =
    peel_marks (length log.records) 0 other.marks log.marks rest told.few marks told.marks behind in
    goes_mark log rest p.more p.are p.behind
goes log other rest (r ∷ more) alike told told_other sides whole behind =
    goes_record log other rest r more log.marks alike refl told told_other sides whole behind

-- a header tells whether the history is coloured
pub headers_once : (a b : Bool) → header a ≡ header b → a ≡ b
headers_once false false same = refl
headers_once true true same = refl
headers_once false true same =
    (let wrong : 49
    ≡ 50 = ap (λ (text : List ℕ). get_or text 15 0) same in absurd (omega (arith, wrong)))
headers_once true false same =
    (let wrong : 50
    ≡ 49 = ap (λ (text : List ℕ). get_or text 15 0) same in absurd (omega (arith, wrong)))

pub side_told : (log : Log) → HasJournal log → IsSide log.coloured log.side
side_told log told = (told.side.0, told.side.1, told.quarter)

-- how any journal goes on behind the lines of a history
pub goes_on : (log : Log) (rest : List (List ℕ)) → HasJournal log
    → IsJournalLines (front_lines log ++ rest) → LinesFollow log rest
goes_on log rest told journal =
    let other : Log = journal.0 in
    let told_other : HasJournal other = journal.1 in
    let alike : other.coloured ≡ log.coloured =
    headers_once other.coloured log.coloured (ap first (sym journal.2)) in
    let side_line : line_of (side_list other.coloured other.side) ≡ line_of (side_list log.coloured log.side) = ap (λ (ls : List (List ℕ)). first (rest_of ls)) (sym journal.2) in
    let side_ws : side_list other.coloured other.side ≡ side_list log.coloured log.side =
    sym (side_words other.coloured other.side told_other.side.1) ∙ ap words side_line
    ∙ side_words log.coloured log.side told.side.1 in
    let of_other : IsSide log.coloured other.side =
    subst (λ (c : Bool). IsSide c other.side) alike (side_told other told_other) in
    let sides : 2 ^ other.side ≡ 2 ^ log.side =
    sides_once log.coloured other.side log.side of_other (side_told log told)
    (ap (λ (c : Bool). side_list c other.side) (sym alike) ∙ side_ws) in
    let theirs : AllByRecursion (IsRecord log.coloured other.side) other.records =
    subst (λ (c : Bool). AllByRecursion
    (IsRecord c other.side) other.records) alike told_other.records in
    let entries : (record_texts 1 other.records ++ mark_texts other.marks) ++ last_lines ≡ (record_texts 1 log.records ++ mark_texts log.marks) ++ rest = ap (λ (ls : List (List ℕ)). rest_of (rest_of ls)) (sym journal.2) in
    let lined : record_texts 1 other.records ++ (mark_texts other.marks ++ last_lines) ≡ record_texts 1 log.records ++ (mark_texts log.marks ++ rest) =
    sym (append_assoc (record_texts 1 other.records) (mark_texts other.marks) last_lines) ∙ entries
    ∙ append_assoc (record_texts 1 log.records) (mark_texts log.marks) rest in
    let p =
    peel_records log.coloured log.side other.side 1
    (length log.records + 1) other.records log.records
    (mark_texts other.marks ++ last_lines) (mark_texts log.marks ++ rest) (omega arith)
    (side_small log.side told.side.1) (side_small other.side told_other.side.1)
    (omega (arith, told.few)) theirs told.records
    (tail_no_record (length other.records) 0 other.marks told_other.few told_other.marks) lined in
    goes log other rest p.more alike told told_other sides p.whole p.behind
