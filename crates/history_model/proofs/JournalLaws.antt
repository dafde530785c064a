-- The lines of a journal, and how they go on.
use Rattle.std.specs.Prelude.{◌≡◌, ℕ, ◌+◌, ◌^◌, ◌<◌, ◌≤◌, Bool, true, false, not, List, [], ◌∷◌, ◌++◌, length, codes, refl}
use Rattle.std.proofs.Common.{eqb, leb, ap, sym, ◌∙◌, arith, append_assoc}
use Rattle.std.specs.Fmt.{decimal}
use Rattle.std.specs.List.{AllByRecursion, join_with_byte, list_all, flat_map}
use Rattle.std.proofs.lemmas.Bool.{and_parts, eqb-true, leb-true}
use Rattle.vw_cell.specs.declared.cells.Cell.{Cell}
use Rattle.vw_cell.specs.declared.boxes.Boxed.{Boxed}
use Rattle.vw_cell.specs.declared.balls.Ball as balls
use Rattle.vw_cell.specs.Counts.{cell_at}
use Rattle.plain_text.specs.Parts.{words, lines, line_of}
use Rattle.plain_text.specs.PartLaws.{Free, decimal_free, joined_parts, joined_free}
use Rattle.history_model.specs.declared.acts.Act.{Act}
use Rattle.history_model.specs.declared.acts.Act.TheVariants.{Fill, Erase, Ball, Carve, Copy, Stamp, Tint, Undo, Redo}
use Rattle.history_model.specs.declared.acts.TintAct.{TintAct}
use Rattle.history_model.specs.declared.acts.TintAct.TheVariants as tints
use Rattle.history_model.specs.declared.histories.Record.{Record}
use Rattle.history_model.specs.declared.histories.Mark.{Mark}
use Rattle.history_model.specs.Logs.{Log}
use Rattle.history_model.specs.Journal.{tint_words, act_words, record_line, record_lines, mark_line, header, journal_side, journal_of}
use Rattle.history_model.specs.Spelling.{cell_list, box_list, ball_list, tint_list, act_list, IsSmallCell, IsSmallBox, IsSmallTint, IsSmall}
use Rattle.history_model.specs.Entries.{IsRecord, IsMark, AreMarks, HasJournal, record_list, mark_list, side_list, record_texts, mark_texts, front_lines, last_lines}
use Rattle.history_model.proofs.EntryLaws.{lies_small}
use Rattle.history_model.proofs.MarkLaws.{side_small, world_small}

-- ---- no words have a space, and no lines a newline

not_true : (test : Bool) → not test ≡ true → test ≡ false
not_true true other = absurd cc
not_true false other = refl

free_text : (separator : ℕ) (text : List ℕ) → list_all (λ b. not (eqb b separator)) text ≡ true
    → Free separator text
free_text separator [] all = tt
free_text separator (b ∷ rest) all =
    let both = and_parts _ _ all in
    (not_true (eqb b separator) both.0, free_text separator rest both.1)

apart : (separator b : ℕ) (test : Bool) → eqb b separator ≡ test → separator < b → test ≡ false
apart separator b true same low = absurd (omega (arith, eqb-true b separator same))
apart separator b false same low = refl

-- fixed words have letters alone
letters_free : (separator : ℕ) (text : List ℕ) → separator < 48
    → list_all (λ b. leb 48 b) text ≡ true → Free separator text
letters_free separator [] low all = tt
letters_free separator (b ∷ rest) low all =
    let both = and_parts _ _ all in (
      apart separator b (eqb b separator) refl
          (omega (arith, leb-true 48 b both.0)),
      letters_free separator rest low both.1,
    )

abbrev AllFree : ℕ → List (List ℕ) → Type 0
AllFree separator ws = AllByRecursion (Free separator) ws

number_free : (separator n : ℕ) → separator < 48 → n < 2 ^ 32 → Free separator (decimal n)
number_free separator n low small = decimal_free separator n low (omega arith)

cell_free : (separator : ℕ) (c : Cell) (more : List (List ℕ)) → separator < 48 → IsSmallCell c
    → AllFree separator more → AllFree separator (cell_list c more)
cell_free separator c more low small free = (
  number_free separator c.x low small.0,
  (number_free separator c.y low small.1, (number_free separator c.z low small.2, free)),
)

box_free : (separator : ℕ) (b : Boxed) (more : List (List ℕ)) → separator < 48 → IsSmallBox b
    → AllFree separator more → AllFree separator (box_list b more)
box_free separator b more low small free =
    cell_free separator b.at (cell_list b.size more) low small.0
    (cell_free separator b.size more low small.1 free)

ball_free : (separator : ℕ) (b : balls.Ball) → separator < 48 → IsSmallCell b.centre
    → b.radius < 2 ^ 32 → AllFree separator (ball_list b)
ball_free separator b low centre radius =
    cell_free separator b.centre (decimal b.radius ∷ []) low centre
    (number_free separator b.radius low radius, tt)

tint_free : (separator : ℕ) (t : TintAct) → separator < 48 → IsSmallTint t
    → AllFree separator (tint_list t)
tint_free separator (tints.Fill b c) low small =
    (letters_free separator (codes "fill") low refl, box_free separator b (decimal c ∷ []) low small.0 (number_free separator c low small.1, tt))
tint_free separator (tints.Erase b) low small =
    (letters_free separator (codes "erase") low refl, box_free separator b [] low small tt)
tint_free separator (tints.Ball b c) low small =
    (letters_free separator (codes "ball") low refl, cell_free separator b.centre (decimal b.radius ∷ decimal c ∷ []) low small.0 (number_free separator b.radius low small.1, (number_free separator c low small.2, tt)))
tint_free separator (tints.Carve b) low small =
    (letters_free separator (codes "carve") low refl, ball_free separator b low small.0 small.1)
tint_free separator (tints.Copy b to) low small =
    (letters_free separator (codes "copy") low refl, box_free separator b (codes "to" ∷ cell_list to []) low small.0 (letters_free separator (codes "to") low refl, cell_free separator to [] low small.1 tt))
tint_free separator (tints.Stamp m at) low small =
    (letters_free separator (codes "stamp") low refl, (number_free separator m low small.0, cell_free separator at [] low small.1 tt))

act_free : (separator : ℕ) (act : Act) → separator < 48 → IsSmall act
    → AllFree separator (act_list act)
act_free separator (Fill b) low small =
    (letters_free separator (codes "fill") low refl, box_free separator b [] low small tt)
act_free separator (Erase b) low small =
    (letters_free separator (codes "erase") low refl, box_free separator b [] low small tt)
act_free separator (Ball b) low small =
    (letters_free separator (codes "ball") low refl, ball_free separator b low small.0 small.1)
act_free separator (Carve b) low small =
    (letters_free separator (codes "carve") low refl, ball_free separator b low small.0 small.1)
act_free separator (Copy b to) low small =
    (letters_free separator (codes "copy") low refl, box_free separator b (codes "to" ∷ cell_list to []) low small.0 (letters_free separator (codes "to") low refl, cell_free separator to [] low small.1 tt))
act_free separator (Stamp m at) low small =
    (letters_free separator (codes "stamp") low refl, (number_free separator m low small.0, cell_free separator at [] low small.1 tt))
act_free separator (Tint t) low small = tint_free separator t low small
act_free separator Undo low small = (letters_free separator (codes "undo") low refl, tt)
act_free separator Redo low small = (letters_free separator (codes "redo") low refl, tt)

record_free : (coloured : Bool) (separator side n : ℕ) (r : Record) → separator < 48
    → 2 ^ side ≤ 4096 → n < 2 ^ 32 → IsRecord coloured side r → AllFree separator (record_list n r)
record_free coloured separator side n r low few small is =
    cell_free separator (cell_at n r.session r.line) (act_list r.act) low
    (small, omega (arith, is.0), is.1)
    (act_free separator r.act low (lies_small (2 ^ side) r.act few is.2))

mark_free : (separator count : ℕ) (m : Mark) → separator < 48 → count ≤ 65535 → IsMark count m
    → AllFree separator (mark_list m)
mark_free separator count m low few is =
    (letters_free separator (codes "mark") low refl, cell_free separator (cell_at m.version m.at m.session) (decimal m.line ∷ []) low (omega (arith, is), omega (arith, is), omega (arith, is)) (number_free separator m.line low is.3, tt))

side_free : (coloured : Bool) (separator exponent : ℕ) → separator < 48 → exponent ≤ 12
    → AllFree separator (side_list coloured exponent)
side_free coloured separator exponent low few =
    (letters_free separator (codes "side") low refl, (number_free separator (journal_side coloured exponent) low (world_small coloured exponent few), tt))

-- ---- the words of each line

words_back : (w : List ℕ) (ws : List (List ℕ)) → AllFree 32 (w ∷ ws)
    → words (line_of (w ∷ ws)) ≡ w ∷ ws
words_back w ws free = joined_parts 32 w ws free.0 free.1

pub record_words : (coloured : Bool) (side n : ℕ) (r : Record) → 2 ^ side ≤ 4096 → n < 2 ^ 32
    → IsRecord coloured side r → words (line_of (record_list n r)) ≡ record_list n r
record_words coloured side n r few small is =
    words_back _ _ (record_free coloured 32 side n r (omega arith) few small is)

pub mark_words : (count : ℕ) (m : Mark) → count ≤ 65535 → IsMark count m
    → words (line_of (mark_list m)) ≡ mark_list m
mark_words count m few is = words_back _ _ (mark_free 32 count m (omega arith) few is)

pub side_words : (coloured : Bool) (exponent : ℕ) → exponent ≤ 12
    → words (line_of (side_list coloured exponent)) ≡ side_list coloured exponent
side_words coloured exponent few = words_back _ _ (side_free coloured 32 exponent (omega arith) few)

pub end_words : words (codes "end") ≡ codes "end" ∷ []
end_words = refl

-- ---- the lines are the text

join_cons : (line : List ℕ) (rest : List (List ℕ)) → 0 < length rest
    → join_with_byte 10 (line ∷ rest) ≡ line ++ 10 ∷ join_with_byte 10 rest
join_cons line [] some = absurd (omega arith)
join_cons line (next ∷ more) some = refl

-- the text of an act, and of its words
tint_joined : (t : TintAct) → line_of (tint_list t) ≡ tint_words t
tint_joined (tints.Fill b c) = simp append_assoc refl
tint_joined (tints.Erase b) = simp append_assoc refl
tint_joined (tints.Ball b c) = simp append_assoc refl
tint_joined (tints.Carve b) = simp append_assoc refl
tint_joined (tints.Copy b to) = simp append_assoc refl
tint_joined (tints.Stamp m at) = refl

words_joined : (act : Act) → line_of (act_list act) ≡ act_words act
words_joined (Fill b) = simp append_assoc refl
words_joined (Erase b) = simp append_assoc refl
words_joined (Ball b) = simp append_assoc refl
words_joined (Carve b) = simp append_assoc refl
words_joined (Copy b to) = simp append_assoc refl
words_joined (Stamp m at) = refl
words_joined (Tint t) = tint_joined t
words_joined Undo = refl
words_joined Redo = refl

tint_some : (t : TintAct) → 0 < length (tint_list t)
tint_some (tints.Fill b c) = omega arith
tint_some (tints.Erase b) = omega arith
tint_some (tints.Ball b c) = omega arith
tint_some (tints.Carve b) = omega arith
tint_some (tints.Copy b to) = omega arith
tint_some (tints.Stamp m at) = omega arith

act_some : (act : Act) → 0 < length (act_list act)
act_some (Fill b) = omega arith
act_some (Erase b) = omega arith
act_some (Ball b) = omega arith
act_some (Carve b) = omega arith
act_some (Copy b to) = omega arith
act_some (Stamp m at) = omega arith
act_some (Tint t) = tint_some t
act_some Undo = omega arith
act_some Redo = omega arith

words_cons : (word : List ℕ) (rest : List (List ℕ)) → 0 < length rest
    → line_of (word ∷ rest) ≡ word ++ 32 ∷ line_of rest
words_cons word [] some = absurd (omega arith)
words_cons word (next ∷ more) some = refl

record_is : (n : ℕ) (r : Record) (rest : List ℕ)
    → line_of (record_list n r) ++ 10 ∷ rest ≡ record_line n r ++ rest
record_is n r rest =
    let act =
    words_cons (decimal r.line) (act_list r.act) (act_some r.act)
    ∙ ap (λ (text : List ℕ). decimal r.line ++ 32 ∷ text) (words_joined r.act) in
    rw act (simp append_assoc refl)

mark_is : (m : Mark) (rest : List ℕ) → line_of (mark_list m) ++ 10 ∷ rest ≡ mark_line m ++ rest
mark_is m rest = simp append_assoc refl

marks_some : (marks : List Mark) → 0 < length (mark_texts marks ++ last_lines)
marks_some [] = omega arith
marks_some (m ∷ more) = omega arith

marks_are : (marks : List Mark)
    → join_with_byte 10 (mark_texts marks ++ last_lines) ≡ flat_map mark_line marks ++ codes "end\n"
marks_are [] = refl
marks_are (m ∷ more) =
    join_cons (line_of (mark_list m)) (mark_texts more ++ last_lines) (marks_some more)
    ∙ ap (λ (text : List ℕ). line_of (mark_list m) ++ 10 ∷ text) (marks_are more)
    ∙ mark_is m (flat_map mark_line more ++ codes "end\n")
    ∙ sym (append_assoc (mark_line m) (flat_map mark_line more) (codes "end\n"))

records_some : (n : ℕ) (records : List Record) (tail : List (List ℕ)) → 0 < length tail
    → 0 < length (record_texts n records ++ tail)
records_some n [] tail some = some
records_some n (r ∷ more) tail some = omega arith

records_are : (n : ℕ) (records : List Record) (tail : List (List ℕ)) → 0 < length tail
    → join_with_byte 10
    (record_texts n records ++ tail) ≡ record_lines n records ++ join_with_byte 10 tail
records_are n [] tail some = refl
records_are n (r ∷ more) tail some =
    join_cons (line_of (record_list n r)) (record_texts (n + 1) more ++ tail)
    (records_some (n + 1) more tail some)
    ∙ ap (λ (text : List ℕ). line_of (record_list n r) ++ 10 ∷ text)
    (records_are (n + 1) more tail some)
    ∙ record_is n r (record_lines (n + 1) more ++ join_with_byte 10 tail)
    ∙ sym (append_assoc (record_line n r) (record_lines (n + 1) more) (join_with_byte 10 tail))

-- all lines of a history, record by record and mark by mark
abbrev entry_lines : Log → List (List ℕ)
entry_lines log = record_texts 1 log.records ++ (mark_texts log.marks ++ last_lines)

all_lines : (log : Log)
    → front_lines log ++ last_lines ≡ header log.coloured ∷ line_of
    (side_list log.coloured log.side) ∷ entry_lines log
all_lines log =
    ap
    (λ (ls : List (List ℕ)). header log.coloured ∷ line_of
    (side_list log.coloured log.side) ∷ ls)
    (append_assoc (record_texts 1 log.records) (mark_texts log.marks) last_lines)

pub journal_joined : (log : Log)
    → join_with_byte 10 (front_lines log ++ last_lines) ≡ journal_of log
journal_joined log =
    let some =
    records_some 1 log.records (mark_texts log.marks ++ last_lines) (marks_some log.marks) in
    let entries : join_with_byte 10 (entry_lines log) ≡ record_lines 1 log.records ++ (flat_map mark_line log.marks ++ codes "end\n") =
    records_are 1 log.records (mark_texts log.marks ++ last_lines) (marks_some log.marks)
    ∙ ap (λ (text : List ℕ). record_lines 1 log.records ++ text) (marks_are log.marks) in
    let side : line_of (side_list log.coloured log.side) ++ 10 ∷ join_with_byte 10 (entry_lines log) ≡ line_of (side_list log.coloured log.side) ++ 10 ∷ (record_lines 1 log.records ++ (flat_map mark_line log.marks ++ codes "end\n")) =
    ap (λ (text : List ℕ). line_of (side_list log.coloured log.side) ++ 10 ∷ text) entries in
    ap (join_with_byte 10) (all_lines log)
    ∙ ap (λ (text : List ℕ). header log.coloured ++ 10 ∷ text)
    (join_cons (line_of (side_list log.coloured log.side)) (entry_lines log) some ∙ side)
    ∙ simp append_assoc refl

-- ---- no line has a newline

record_texts_free : (coloured : Bool) (side n : ℕ) (records : List Record) (tail : List (List ℕ))
    → 2 ^ side ≤ 4096 → n + length records ≤ 65536 → AllByRecursion (IsRecord coloured side) records
    → AllFree 10 tail → AllFree 10 (record_texts n records ++ tail)
record_texts_free coloured side n [] tail few small are free = free
record_texts_free coloured side n (r ∷ more) tail few small are free = (
  joined_free 10 32 (record_list n r) refl
      (record_free coloured 10 side n r (omega arith) few
      (omega arith) are.0),
  record_texts_free coloured side (n + 1) more tail few
      (omega arith) are.1 free,
)

mark_texts_free : (count least : ℕ) (marks : List Mark) → count ≤ 65535 → AreMarks count least marks
    → AllFree 10 (mark_texts marks ++ last_lines)
mark_texts_free count least [] few are =
    (letters_free 10 (codes "end") (omega arith) refl, (tt, tt))
mark_texts_free count least (m ∷ more) few are = (
  joined_free 10 32 (mark_list m) refl
      (mark_free 10 count m (omega arith) few are.1),
  mark_texts_free count
      (m.version + 1) more few are.2,
)

header_free : (coloured : Bool) → Free 10 (header coloured)
header_free false = free_text 10 (codes "voxdag journal 1") refl
header_free true = free_text 10 (codes "voxdag journal 2") refl

pub journal_lines : (log : Log) → HasJournal log
    → lines (journal_of log) ≡ front_lines log ++ last_lines
journal_lines log told =
    let few = side_small log.side told.side.1 in
    let entries : AllFree 10 (entry_lines log) =
    record_texts_free log.coloured log.side 1 log.records
    (mark_texts log.marks ++ last_lines) few (omega (arith, told.few)) told.records
    (mark_texts_free (length log.records) 0 log.marks told.few told.marks) in
    let side : Free 10 (line_of (side_list log.coloured log.side)) =
    joined_free 10 32 (side_list log.coloured log.side) refl
    (side_free log.coloured 10 log.side (omega arith) told.side.1) in
    ap lines (sym (journal_joined log) ∙ ap (join_with_byte 10) (all_lines log))
    ∙ joined_parts 10 (header log.coloured)
    (line_of (side_list log.coloured log.side) ∷ entry_lines log) (header_free log.coloured)
    (side, entries)
    ∙ sym (all_lines log)
