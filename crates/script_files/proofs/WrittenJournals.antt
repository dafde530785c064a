-- A legal history whose text is a journal's can be read back, however large its numbers are at first.
use Rattle.std.specs.Prelude.{◌≡◌, ℕ, zero, suc, ◌+◌, ◌/◌, ◌^◌, ◌<◌, ◌≤◌, Bool, true, false, List, [], ◌∷◌, ◌++◌, length, codes, refl}
use Rattle.std.proofs.Common.{get_or, drop, ap, sym, ◌∙◌, subst, arith, append_assoc}
use Rattle.std.proofs.Math.Nat.{pow-suc}
use lib.Pow.{pow_mono}
use Rattle.std.specs.Fmt.{decimal}
use Rattle.std.specs.Str.Parse.{AllDigits}
use Rattle.std.specs.List.{AllByRecursion, flat_map}
use Rattle.std.proofs.lemmas.Fmt.{decimal_is_IsNumeral}
use Rattle.std.proofs.lemmas.Str.Parse.{digit_from_value}
use Rattle.std.proofs.lemmas.List.Elements.{All-from_recursion}
use Rattle.vw_cell.specs.declared.cells.Cell.{Cell}
use Rattle.vw_cell.specs.declared.boxes.Boxed.{Boxed}
use Rattle.vw_cell.specs.declared.balls.Ball as balls
use Rattle.plain_text.specs.PartLaws.{Free, free_append}
use Rattle.vox_read.specs.Contents.{Content, AreModels}
use Rattle.vox_scene.proofs.Ends.{same_exponent}
use Rattle.history_model.specs.declared.acts.Act.{Act}
use Rattle.history_model.specs.declared.acts.Act.TheVariants.{Fill, Erase, Ball, Carve, Copy, Stamp, Tint, Undo, Redo}
use Rattle.history_model.specs.declared.acts.TintAct.{TintAct}
use Rattle.history_model.specs.declared.acts.TintAct.TheVariants as tints
use Rattle.history_model.specs.declared.histories.Record.{Record}
use Rattle.history_model.specs.declared.histories.Mark.{Mark}
use Rattle.history_model.specs.Logs.{Log, IsLegal, SuitsTints}
use Rattle.history_model.specs.Signing.{IsSigned}
use Rattle.history_model.specs.Journal.{cell_words, box_words, ball_words, tint_words, act_words, header, journal_side, side_text, record_line, record_lines, mark_line, journal_of}
use Rattle.history_model.specs.Entries.{IsRecord, IsMark, IsSide, AreMarks, HasJournal}
use Rattle.history_model.proofs.MarkLaws.{world_small}
use Rattle.history_model.proofs.GoingOn.{side_told}
use Rattle.history_model.proofs.Telling.{can_be_told}
use Rattle.script_files.proofs.WrittenNumbers.{number_free, text_free, parted, numbers_parted}

-- ---- no act's words have a newline

number_words : (n : ℕ) → Free 10 (decimal n)
number_words n = number_free 10 n (omega arith)

-- a space between two texts
spaced : (a b : List ℕ) → Free 10 a → Free 10 b → Free 10 (a ++ (codes " " ++ b))
spaced a b of_a of_b = free_append 10 a (codes " " ++ b) of_a (refl, of_b)

cell_free : (c : Cell) → Free 10 (cell_words c)
cell_free c =
    spaced (decimal c.x) (decimal c.y ++ (codes " " ++ decimal c.z)) (number_words c.x)
    (spaced (decimal c.y) (decimal c.z) (number_words c.y) (number_words c.z))

box_free : (b : Boxed) → Free 10 (box_words b)
box_free b = spaced (cell_words b.at) (cell_words b.size) (cell_free b.at) (cell_free b.size)

ball_free : (b : balls.Ball) → Free 10 (ball_words b)
ball_free b =
    spaced (cell_words b.centre) (decimal b.radius) (cell_free b.centre) (number_words b.radius)

behind : (word text : List ℕ) → Free 10 word → Free 10 text → Free 10 (word ++ text)
behind word text of_word of_text = free_append 10 word text of_word of_text

copy_free : (b : Boxed) (to : Cell) → Free 10 (box_words b ++ (codes " to " ++ cell_words to))
copy_free b to =
    behind (box_words b) (codes " to " ++ cell_words to) (box_free b)
    (behind (codes " to ") (cell_words to) (text_free 10 (codes " to ") refl) (cell_free to))

stamp_free : (m : ℕ) (at : Cell) → Free 10 (decimal m ++ (codes " " ++ cell_words at))
stamp_free m at = spaced (decimal m) (cell_words at) (number_words m) (cell_free at)

tint_free : (t : TintAct) → Free 10 (tint_words t)
tint_free (tints.Fill b c) =
    behind (codes "fill ") (box_words b ++ (codes " " ++ decimal c))
    (text_free 10 (codes "fill ") refl)
    (spaced (box_words b) (decimal c) (box_free b) (number_words c))
tint_free (tints.Erase b) =
    behind (codes "erase ") (box_words b) (text_free 10 (codes "erase ") refl) (box_free b)
tint_free (tints.Ball b c) =
    behind (codes "ball ") (ball_words b ++ (codes " " ++ decimal c))
    (text_free 10 (codes "ball ") refl)
    (spaced (ball_words b) (decimal c) (ball_free b) (number_words c))
tint_free (tints.Carve b) =
    behind (codes "carve ") (ball_words b) (text_free 10 (codes "carve ") refl) (ball_free b)
tint_free (tints.Copy b to) =
    behind (codes "copy ") (box_words b ++ (codes " to " ++ cell_words to))
    (text_free 10 (codes "copy ") refl) (copy_free b to)
tint_free (tints.Stamp m at) =
    behind (codes "stamp ") (decimal m ++ (codes " " ++ cell_words at))
    (text_free 10 (codes "stamp ") refl) (stamp_free m at)

act_free : (act : Act) → Free 10 (act_words act)
act_free (Fill b) =
    behind (codes "fill ") (box_words b) (text_free 10 (codes "fill ") refl) (box_free b)
act_free (Erase b) =
    behind (codes "erase ") (box_words b) (text_free 10 (codes "erase ") refl) (box_free b)
act_free (Ball b) =
    behind (codes "ball ") (ball_words b) (text_free 10 (codes "ball ") refl) (ball_free b)
act_free (Carve b) =
    behind (codes "carve ") (ball_words b) (text_free 10 (codes "carve ") refl) (ball_free b)
act_free (Copy b to) =
    behind (codes "copy ") (box_words b ++ (codes " to " ++ cell_words to))
    (text_free 10 (codes "copy ") refl) (copy_free b to)
act_free (Stamp m at) =
    behind (codes "stamp ") (decimal m ++ (codes " " ++ cell_words at))
    (text_free 10 (codes "stamp ") refl) (stamp_free m at)
act_free (Tint t) = tint_free t
act_free Undo = text_free 10 (codes "undo") refl
act_free Redo = text_free 10 (codes "redo") refl

-- ---- the first two lines

headers_alike : (a b : Bool) (x y : List ℕ) → header a ++ (codes "\n" ++ x) ≡ header b ++ (codes "\n" ++ y)
    → (a ≡ b) × (x ≡ y)
headers_alike false false x y same = (refl, ap (λ (text : List ℕ). drop 17 text) same)
headers_alike true true x y same = (refl, ap (λ (text : List ℕ). drop 17 text) same)
headers_alike false true x y same =
    (let wrong : 49 ≡ 50 = ap (λ (text : List ℕ). get_or text 15 0) same in
    absurd (omega (arith, wrong)))
headers_alike true false x y same =
    (let wrong : 50 ≡ 49 = ap (λ (text : List ℕ). get_or text 15 0) same in
    absurd (omega (arith, wrong)))

side_is : (n : ℕ) (x : List ℕ) → side_text n ++ x ≡ codes "side " ++ (decimal n ++ 10 ∷ x)
side_is n x = ap (λ (text : List ℕ). codes "side " ++ text) (append_assoc (decimal n) (codes "\n") x)

sides_alike : (n m : ℕ) (x y : List ℕ) → m < 2 ^ 32 → side_text n ++ x ≡ side_text m ++ y
    → (n ≡ m) × (x ≡ y)
sides_alike n m x y small same =
    numbers_parted 10 n m x y (omega arith) (omega arith)
    (ap (λ (text : List ℕ). drop 5 text) (sym (side_is n x) ∙ same ∙ side_is m y))

large : (b : ℕ) → 4 ≤ b → 4 ≤ 2 ^ b / 4
large b low = (let more : 2 ^ 4 ≤ 2 ^ b = pow_mono low in omega (arith, more))

-- the exponents of two quarters that are one number
quarters : (a b : ℕ) → 4 ≤ b → 2 ^ a / 4 ≡ 2 ^ b / 4 → a ≡ b
quarters zero b low same = absurd (omega (arith, same, large b low))
quarters (suc zero) b low same = absurd (omega (arith, same, large b low))
quarters (suc (suc k)) zero low same = absurd (omega (arith, low))
quarters (suc (suc k)) (suc zero) low same = absurd (omega (arith, low))
quarters (suc (suc k)) (suc (suc m)) low same =
    let a = pow-suc 2 (suc k) in
    let more_a = pow-suc 2 k in
    let b = pow-suc 2 (suc m) in
    let more_b = pow-suc 2 m in
    same_exponent (suc (suc k)) (suc (suc m)) (omega (arith, same, a, more_a, b, more_b))

side_alike : (coloured : Bool) (a b : ℕ) → IsSide coloured b
    → journal_side coloured a ≡ journal_side coloured b → a ≡ b
side_alike false a b is same = same_exponent a b same
side_alike true a b is same = quarters a b (is.2 refl) same

-- ---- records

-- the first byte isn't a digit
abbrev NoDigitFirst : List ℕ → Type 0
NoDigitFirst text = 58 ≤ get_or text 0 0

digits_first : (ds rest : List ℕ) → 0 < length ds → AllDigits 10 ds → get_or (ds ++ rest) 0 0 < 58
digits_first [] rest some all = absurd (omega arith)
digits_first (d ∷ ds) rest some all =
    (let range = digit_from_value d all.0 in omega (arith, range))

number_first : (n : ℕ) (rest : List ℕ) → n < 2 ^ 64 → get_or (decimal n ++ rest) 0 0 < 58
number_first n rest small =
    (let is = decimal_is_IsNumeral n small in digits_first (decimal n) rest is.0.0 is.0.1)

-- what stands behind a record's numbers
abbrev acted : Record → List ℕ → List ℕ
acted r x = act_words r.act ++ 10 ∷ x

record_is : (n : ℕ) (r : Record) (x : List ℕ)
    → record_line n r ++ x ≡ decimal n ++ 32 ∷ (decimal r.session ++ 32 ∷ (decimal r.line ++ 32 ∷ acted r x))
record_is n r x = simp append_assoc refl

records_are : (n : ℕ) (r : Record) (more : List Record) (x : List ℕ)
    → record_lines n (r ∷ more) ++ x ≡ decimal n ++ 32 ∷ (decimal r.session ++ 32 ∷ (decimal r.line ++ 32 ∷ acted r (record_lines (n + 1) more ++ x)))
records_are n r more x =
    append_assoc (record_line n r) (record_lines (n + 1) more) x
    ∙ record_is n r (record_lines (n + 1) more ++ x)

no_record : (n : ℕ) (r : Record) (more : List Record) (x y : List ℕ) → n < 2 ^ 64 → NoDigitFirst x
    → x ≡ record_lines n (r ∷ more) ++ y → ⊥
no_record n r more x y small none same =
    let first : get_or x 0 0 < 58 =
    subst (λ (text : List ℕ). get_or text 0 0 < 58) (sym (same ∙ records_are n r more y))
    (number_first n _ small) in
    omega (arith, first, none)

-- the same of two lines alike
record_alike : (n : ℕ) (r q : Record) (x y : List ℕ) → q.session < 64 → q.line < 2 ^ 32
    → decimal n ++ 32 ∷ (decimal r.session ++ 32 ∷ (decimal r.line ++ 32 ∷ acted r x)) ≡ decimal n ++ 32 ∷ (decimal q.session ++ 32 ∷ (decimal q.line ++ 32 ∷ acted q y))
    → IsSigned r.session r.line × (x ≡ y)
record_alike n r q x y few short same =
    let number = parted 32 (decimal n) (decimal n) _ _ (number_free 32 n (omega arith))
    (number_free 32 n (omega arith)) same in
    let session = numbers_parted 32 r.session q.session _ _ (omega arith) (omega arith) number.1 in
    let line = numbers_parted 32 r.line q.line _ _ (omega arith) (omega arith) session.1 in
    let act = parted 10 (act_words r.act) (act_words q.act) x y (act_free r.act) (act_free q.act)
    line.1 in (
      record { of_64 = omega (arith, few, session.0); of_32_bits = omega (arith, short, line.0) },
      act.1,
    )

abbrev AreSignedRecords : List Record → Type 0
AreSignedRecords records = AllByRecursion (λ (r : Record). IsSigned r.session r.line) records

records_signed : (coloured : Bool) (side n : ℕ) (xs ys : List Record) (x y : List ℕ)
    → n + length xs ≤ 65536 → n + length ys ≤ 65536 → AllByRecursion (IsRecord coloured side) ys
    → NoDigitFirst x → NoDigitFirst y → record_lines n xs ++ x ≡ record_lines n ys ++ y
    → AreSignedRecords xs × (x ≡ y)
records_signed coloured side n [] [] x y few_xs few_ys are of_x of_y same = (tt, same)
records_signed coloured side n [] (q ∷ ys) x y few_xs few_ys are of_x of_y same =
    absurd (no_record n q ys x y (omega (arith, few_ys)) of_x same)
records_signed coloured side n (r ∷ xs) [] x y few_xs few_ys are of_x of_y same =
    absurd (no_record n r xs y x (omega (arith, few_xs)) of_y (sym same))
records_signed coloured side n (r ∷ xs) (q ∷ ys) x y few_xs few_ys are of_x of_y same =
    let here =
    record_alike n r q (record_lines (n + 1) xs ++ x) (record_lines (n + 1) ys ++ y) are.0.0
    are.0.1 (sym (records_are n r xs x) ∙ same ∙ records_are n q ys y) in
    let others =
    records_signed coloured side (n + 1) xs ys x y (omega (arith, few_xs)) (omega (arith, few_ys))
    are.1 of_x of_y here.1 in
    ((here.0, others.0), others.1)

-- ---- marks

-- the marks' lines and the last one
abbrev marks_text : List Mark → List ℕ
marks_text marks = flat_map mark_line marks ++ codes "end\n"

marks_begin : (marks : List Mark) → NoDigitFirst (marks_text marks)
marks_begin [] = omega arith
marks_begin (m ∷ more) = omega arith

mark_is : (m : Mark) (more : List Mark)
    → marks_text (m ∷ more) ≡ codes "mark " ++ (decimal m.version ++ 32 ∷ (decimal m.at ++ 32 ∷ (decimal m.session ++ 32 ∷ (decimal m.line ++ 10 ∷ marks_text more))))
mark_is m more = simp append_assoc refl

mark_alike : (count : ℕ) (m k : Mark) (x y : List ℕ) → count ≤ 65535 → IsMark count k
    → decimal m.version ++ 32 ∷ (decimal m.at ++ 32 ∷ (decimal m.session ++ 32 ∷ (decimal m.line ++ 10 ∷ x))) ≡ decimal k.version ++ 32 ∷ (decimal k.at ++ 32 ∷ (decimal k.session ++ 32 ∷ (decimal k.line ++ 10 ∷ y)))
    → IsSigned m.session m.line × (x ≡ y)
mark_alike count m k x y few is same =
    let version = numbers_parted 32 m.version k.version _ _ (omega arith)
    (omega (arith, is.0, is.1, few)) same in
    let at = numbers_parted 32 m.at k.at _ _ (omega arith) (omega (arith, is.1, few)) version.1 in
    let session = numbers_parted 32 m.session k.session _ _ (omega arith) (omega (arith, is.2))
    at.1 in
    let line = numbers_parted 10 m.line k.line x y (omega arith) (omega (arith, is.3)) session.1 in (
      record { of_64 = omega (arith, is.2, session.0); of_32_bits = omega (arith, is.3, line.0) },
      line.1,
    )

abbrev AreSignedMarks : List Mark → Type 0
AreSignedMarks marks = AllByRecursion (λ (m : Mark). IsSigned m.session m.line) marks

marks_signed : (count least : ℕ) (xs ys : List Mark) → count ≤ 65535 → AreMarks count least ys
    → marks_text xs ≡ marks_text ys → AreSignedMarks xs
marks_signed count least [] ys few are same = tt
marks_signed count least (m ∷ xs) [] few are same =
    (let wrong : 109 ≡ 101 = ap (λ (text : List ℕ). get_or text 0 0) same in
    absurd (omega (arith, wrong)))
marks_signed count least (m ∷ xs) (k ∷ ys) few are same =
    let here =
    mark_alike count m k (marks_text xs) (marks_text ys) few are.1
    (ap (λ (text : List ℕ). drop 5 text) (sym (mark_is m xs) ∙ same ∙ mark_is k ys)) in
    (here.0, marks_signed count (k.version + 1) xs ys few are.2 here.1)

-- ---- the history

-- the text behind the first two lines
abbrev entries_text : Log → List ℕ
entries_text log = record_lines 1 log.records ++ marks_text log.marks

text_is : (log : Log)
    → journal_of log ≡ header log.coloured ++ (codes "\n" ++ (side_text (journal_side log.coloured log.side) ++ entries_text log))
text_is log = refl

-- a legal history has a journal where its text is that of a history that has one
pub journal_left : (side : ℕ) (models : List Content) (log told : Log) → AreModels models
    → IsLegal side models log → SuitsTints log → HasJournal told → journal_of log ≡ journal_of told
    → HasJournal log
journal_left side models log told are legal suits has same =
    let heads =
    headers_alike log.coloured told.coloured
    (side_text (journal_side log.coloured log.side) ++ entries_text log)
    (side_text (journal_side told.coloured told.side) ++ entries_text told) same in
    let sides =
    sides_alike (journal_side log.coloured log.side) (journal_side told.coloured told.side)
    (entries_text log) (entries_text told) (world_small told.coloured told.side has.side.1)
    heads.1 in
    let of_told : IsSide log.coloured told.side =
    subst (λ (c : Bool). IsSide c told.side) (sym heads.0) (side_told told has) in
    let cells : journal_side log.coloured log.side ≡ journal_side log.coloured told.side =
    sides.0 ∙ ap (λ (c : Bool). journal_side c told.side) (sym heads.0) in
    let one : log.side ≡ told.side = side_alike log.coloured log.side told.side of_told cells in
    let is_side : IsSide log.coloured log.side =
    subst (λ (n : ℕ). IsSide log.coloured n) (sym one) of_told in
    let records =
    records_signed told.coloured told.side 1 log.records told.records (marks_text log.marks)
    (marks_text told.marks) (omega (arith, legal.few)) (omega (arith, has.few)) has.records
    (marks_begin log.marks) (marks_begin told.marks) sides.1 in
    let marks =
    marks_signed (length told.records) 0 log.marks told.marks has.few has.marks records.1 in
    can_be_told side models log is_side are legal
    (record {
      records = All-from_recursion (λ (r : Record). IsSigned r.session r.line) log.records
          records.0;
      marks = All-from_recursion (λ (m : Mark). IsSigned m.session m.line) log.marks marks;
    }) suits
