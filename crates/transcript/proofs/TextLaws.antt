-- The lines of a transcript are those of its answers, and no two lists of answers have one text.
use Rattle.std.specs.Prelude.{◌≡◌, ℕ, ◌^◌, ◌<◌, true, false, List, [], ◌∷◌, ◌++◌, length, map, Some, None, Ok, codes, refl}
use Rattle.std.proofs.Common.{ap, sym, ◌∙◌, arith, append_assoc}
use Rattle.std.specs.Fmt.{decimal}
use Rattle.std.specs.List.{AllByRecursion, join_with_byte}
use Rattle.vw_cell.specs.declared.cells.Cell.{Cell}
use Rattle.plain_text.specs.Parts.{words, lines}
use Rattle.plain_text.specs.PartLaws.{Free, decimal_free, free_append, joined_parts, joined_free, parts_joined}
use Rattle.plain_text.specs.WordLaws.{AllFree, letters_free, words_back}
use Rattle.transcript.specs.declared.answers.Answer.{Answer}
use Rattle.transcript.specs.declared.answers.Answer.TheVariants.{Done, Forgot, Is, Colour, Count, Faces, Extent, Hit, Same, Head, Saved, Full, NoVersion, Forgotten, IsHead, NothingToUndo, NothingToRedo, LogFull, Stale}
use Rattle.transcript.specs.declared.answers.LineAnswer.{LineAnswer}
use Rattle.transcript.specs.Lines.{words_of_cell, answer_list, line_list, transcript_of}
use Rattle.transcript.specs.Bounds.{IsAnswer, IsLineAnswer}
use Rattle.transcript.specs.Rows.{line_spelled}
use Rattle.transcript.specs.Refusals.{line_words}
use Rattle.transcript.proofs.AnswerLaws.{line_again}
use Rattle.vw_cell.specs.Places.{IsCell}

-- ---- no word has a space, and no line a newline

number_free : (separator n : ℕ) → separator < 48 → n < 2 ^ 64 → AllFree separator (decimal n ∷ [])
number_free separator n low small = (decimal_free separator n low small, tt)

cell_free : (separator : ℕ) (c : Cell) (more : List (List ℕ)) → separator < 48 → IsCell c
    → AllFree separator more → AllFree separator (words_of_cell c more)
cell_free separator c more low is free = (
  decimal_free separator c.x low (omega (arith, is.0)),
  (
    decimal_free separator c.y low (omega (arith, is.1)),
    (decimal_free separator c.z low (omega (arith, is.2)), free),
  ),
)

word_free : (separator : ℕ) (text : List ℕ) (more : List (List ℕ)) → Free separator text
    → AllFree separator more → AllFree separator (text ∷ more)
word_free separator text more here free = (here, free)

answer_free : (separator : ℕ) (a : Answer) → separator < 48 → IsAnswer a
    → AllFree separator (answer_list a)
answer_free separator Done low is = (letters_free separator (codes "ok") low refl, tt)
answer_free separator (Forgot v) low is =
    (letters_free separator (codes "forgot") low refl, number_free separator v low (omega arith))
answer_free separator (Is true) low is = (letters_free separator (codes "set") low refl, tt)
answer_free separator (Is false) low is = (letters_free separator (codes "clear") low refl, tt)
answer_free separator (Colour tint) low is =
    (letters_free separator (codes "colour") low refl, number_free separator tint low (omega arith))
answer_free separator (Count cells) low is =
    (letters_free separator (codes "count") low refl, number_free separator cells low is)
answer_free separator (Faces number) low is =
    (letters_free separator (codes "faces") low refl, number_free separator number low is)
answer_free separator (Extent None) low is =
    (letters_free separator (codes "bounds") low refl, (letters_free separator (codes "none") low refl, tt))
answer_free separator (Extent (Some b)) low is =
    (letters_free separator (codes "bounds") low refl, cell_free separator b.at (words_of_cell b.size []) low is.0 (cell_free separator b.size [] low is.1 tt))
answer_free separator (Hit None) low is = (letters_free separator (codes "miss") low refl, tt)
answer_free separator (Hit (Some c)) low is =
    (letters_free separator (codes "hit") low refl, cell_free separator c [] low is tt)
answer_free separator (Same true) low is = (letters_free separator (codes "same") low refl, tt)
answer_free separator (Same false) low is =
    (letters_free separator (codes "different") low refl, tt)
answer_free separator Head low is = (letters_free separator (codes "head") low refl, tt)
answer_free separator (Saved cells) low is =
    (letters_free separator (codes "saved") low refl, number_free separator cells low is)
answer_free separator (Full level bucket) low is =
    (letters_free separator (codes "full") low refl, (decimal_free separator level low (omega (arith, is.0)), number_free separator bucket low (omega (arith, is.1))))
answer_free separator (NoVersion v) low is =
    (letters_free separator (codes "no") low refl, (letters_free separator (codes "version") low refl, number_free separator v low (omega arith)))
answer_free separator (Forgotten v) low is =
    (letters_free separator (codes "forgotten") low refl, number_free separator v low (omega arith))
answer_free separator IsHead low is =
    (letters_free separator (codes "is") low refl, (letters_free separator (codes "head") low refl, tt))
answer_free separator NothingToUndo low is =
    (letters_free separator (codes "nothing") low refl, (letters_free separator (codes "to") low refl, (letters_free separator (codes "undo") low refl, tt)))
answer_free separator NothingToRedo low is =
    (letters_free separator (codes "nothing") low refl, (letters_free separator (codes "to") low refl, (letters_free separator (codes "redo") low refl, tt)))
answer_free separator LogFull low is =
    (letters_free separator (codes "log") low refl, (letters_free separator (codes "full") low refl, tt))
answer_free separator (Stale base) low is =
    (letters_free separator (codes "stale") low refl, number_free separator base low (omega arith))

line_free : (separator : ℕ) (l : LineAnswer) → separator < 48 → IsLineAnswer l
    → AllFree separator (line_list l)
line_free separator l low is =
    let line : l.line < 2 ^ 64 = (let e = is.line in omega (arith, e)) in
    let at : l.at < 2 ^ 64 = (let e = is.at in omega (arith, e)) in
    let moment : Free separator (codes "@" ++ decimal l.at) =
    free_append separator (codes "@") (decimal l.at)
    (letters_free separator (codes "@") low refl) (decimal_free separator l.at low at) in
    (decimal_free separator l.line low line, (moment, answer_free separator l.answer low is.answer))

-- ---- lines and words are parted again

pub words_of_line : (l : LineAnswer) → IsLineAnswer l → words (line_words l) ≡ line_list l
words_of_line l is = words_back _ _ (line_free 32 l (omega arith) is)

no_newline : (l : LineAnswer) → IsLineAnswer l → Free 10 (line_words l)
no_newline l is = joined_free 10 32 (line_list l) refl (line_free 10 l (omega arith) is)

no_newlines : (xs : List LineAnswer) → AllByRecursion IsLineAnswer xs
    → AllByRecursion (Free 10) (map line_words xs ++ [] ∷ [])
no_newlines [] are = (tt, tt)
no_newlines (a ∷ more) are = (no_newline a are.0, no_newlines more are.1)

join_cons : (line : List ℕ) (rest : List (List ℕ)) → 0 < length rest
    → join_with_byte 10 (line ∷ rest) ≡ line ++ 10 ∷ join_with_byte 10 rest
join_cons line [] some = absurd (omega arith)
join_cons line (next ∷ more) some = refl

lines_left : (xs : List LineAnswer) → 0 < length (map line_words xs ++ [] ∷ [])
lines_left [] = omega arith
lines_left (a ∷ more) = omega arith

-- the text is its lines, joined
lines_joined : (xs : List LineAnswer)
    → join_with_byte 10 (map line_words xs ++ [] ∷ []) ≡ transcript_of xs
lines_joined [] = refl
lines_joined (a ∷ more) =
    join_cons (line_words a) (map line_words more ++ [] ∷ []) (lines_left more)
    ∙ ap (λ (rest : List ℕ). line_words a ++ 10 ∷ rest) (lines_joined more)
    ∙ sym (append_assoc (line_words a) (10 ∷ []) (transcript_of more))

parts_again : (xs : List LineAnswer) → AllByRecursion IsLineAnswer xs
    → lines (join_with_byte 10 (map line_words xs ++ [] ∷ [])) ≡ map line_words xs ++ [] ∷ []
parts_again [] are = refl
parts_again (a ∷ more) are =
    joined_parts 10 (line_words a) (map line_words more ++ [] ∷ []) (no_newline a are.0)
    (no_newlines more are.1)

pub transcript_lines : (xs : List LineAnswer) → AllByRecursion IsLineAnswer xs
    → lines (transcript_of xs) ≡ map line_words xs ++ [] ∷ []
transcript_lines xs are = ap lines (sym (lines_joined xs)) ∙ parts_again xs are

pub text_of_lines : (text : List ℕ) (xs : List LineAnswer)
    → lines text ≡ map line_words xs ++ [] ∷ [] → text ≡ transcript_of xs
text_of_lines text xs same =
    sym (parts_joined 10 text) ∙ ap (join_with_byte 10) same ∙ lines_joined xs

-- ---- one reading

answers_once : (a b : LineAnswer) → IsLineAnswer a → IsLineAnswer b → line_words a ≡ line_words b
    → a ≡ b
answers_once a b of_a of_b same =
    let list : line_list a ≡ line_list b =
    sym (words_of_line a of_a) ∙ ap words same ∙ words_of_line b of_b in
    let both : Ok a ≡ Ok b = sym (line_again a of_a) ∙ ap line_spelled list ∙ line_again b of_b in
    cc

abbrev first : List (List ℕ) → List ℕ
first [] = []
first (l ∷ more) = l

abbrev rest_of : List (List ℕ) → List (List ℕ)
rest_of [] = []
rest_of (l ∷ more) = more

lines_once : (xs ys : List LineAnswer) → AllByRecursion IsLineAnswer xs
    → AllByRecursion IsLineAnswer ys → map line_words xs ++ [] ∷ [] ≡ map line_words ys ++ [] ∷ []
    → xs ≡ ys
lines_once [] [] of_xs of_ys same = refl
lines_once [] (b ∷ ys) of_xs of_ys same =
    absurd
    (let none : 0
    ≡ length (map line_words ys ++ [] ∷ []) = ap
    (λ (ls : List (List ℕ)). length
    (rest_of ls)) same in let some = lines_left ys in omega (arith, none, some))
lines_once (a ∷ xs) [] of_xs of_ys same =
    absurd
    (let none : length (map line_words xs ++ [] ∷ [])
    ≡ 0 = ap (λ (ls : List (List ℕ)). length
    (rest_of ls)) same in let some = lines_left xs in omega (arith, none, some))
lines_once (a ∷ xs) (b ∷ ys) of_xs of_ys same =
    let one : a ≡ b = answers_once a b of_xs.0 of_ys.0 (ap first same) in
    ap (λ (x : LineAnswer). x ∷ xs) one
    ∙ ap (λ (xs : List LineAnswer). b ∷ xs) (lines_once xs ys of_xs.1 of_ys.1 (ap rest_of same))

pub transcripts_once : (xs ys : List LineAnswer) → AllByRecursion IsLineAnswer xs
    → AllByRecursion IsLineAnswer ys → transcript_of xs ≡ transcript_of ys → xs ≡ ys
transcripts_once xs ys of_xs of_ys same =
    lines_once xs ys of_xs of_ys
    (sym (transcript_lines xs of_xs) ∙ ap lines same ∙ transcript_lines ys of_ys)
