-- A text of answers that can be read back is that of no other answers, however large their numbers.
use Rattle.std.specs.Prelude.{◌≡◌, ℕ, ◌^◌, ◌<◌, ◌≤◌, Bool, true, false, List, [], ◌∷◌, ◌++◌, length, map, All, Option, Some, None, Result, Ok, Err, codes, refl}
use Rattle.std.proofs.Common.{cond, get_or, drop, ap, sym, ◌∙◌, subst, arith, lit≤, append_assoc, length-append}
use Rattle.std.specs.Fmt.{decimal}
use Rattle.std.specs.List.{AllByRecursion}
use Rattle.std.specs.Option.{ok_or}
use Rattle.std.specs.Str.{bytes_eq}
use Rattle.std.proofs.lemmas.List.Elements.{All-head, All-tail, recursion_from_All}
use Rattle.vw_cell.specs.declared.cells.Cell.{Cell}
use Rattle.vw_cell.specs.Places.{IsCell}
use Rattle.plain_text.specs.declared.faults.WordFault.{WordFault}
use Rattle.plain_text.specs.declared.faults.WordFault.TheVariants.{Number, Extra}
use Rattle.plain_text.specs.Steps.{◌>>=◌, three_words}
use Rattle.plain_text.specs.Numbers.{exact}
use Rattle.plain_text.specs.NumberLaws.{exact_takes}
use Rattle.plain_text.specs.Parts.{words}
use Rattle.plain_text.specs.PartLaws.{Free, free_append, joined_free}
use Rattle.plain_text.specs.WordLaws.{AllFree, letters_free, words_back}
use Rattle.transcript.specs.declared.answers.Answer.{Answer}
use Rattle.transcript.specs.declared.answers.Answer.TheVariants.{Done, Forgot, Is, Colour, Count, Faces, Extent, Hit, Same, Head, Saved, Full, NoVersion, Forgotten, IsHead, NothingToUndo, NothingToRedo, LogFull, Stale}
use Rattle.transcript.specs.declared.answers.LineAnswer.{LineAnswer}
use Rattle.transcript.specs.Bounds.{IsAnswer, IsLineAnswer}
use Rattle.transcript.specs.Lines.{words_of_cell, answer_list, line_list, transcript_of}
use Rattle.transcript.specs.Refusals.{line_words}
use Rattle.transcript.specs.Rows.{limited_number, number_said, word_said, full_said, no_said, way_to, cell_said, hit_said, box_said, bounds_said, long_rows, short_rows, line_spelled}
use Rattle.transcript.proofs.AnswerLaws.{answer_in, answer_again, line_again}
use Rattle.script_files.proofs.WrittenNumbers.{number_free, numbers_once, parted}

-- ---- no word has a space, and no line a newline

cell_free : (separator : ℕ) (c : Cell) (more : List (List ℕ)) → separator < 48
    → AllFree separator more → AllFree separator (words_of_cell c more)
cell_free separator c more low free = (
  number_free separator c.x low,
  (number_free separator c.y low, (number_free separator c.z low, free)),
)

answer_free : (separator : ℕ) (a : Answer) → separator < 48 → AllFree separator (answer_list a)
answer_free separator Done low = (letters_free separator (codes "ok") low refl, tt)
answer_free separator (Forgot v) low =
    (letters_free separator (codes "forgot") low refl, (number_free separator v low, tt))
answer_free separator (Is true) low = (letters_free separator (codes "set") low refl, tt)
answer_free separator (Is false) low = (letters_free separator (codes "clear") low refl, tt)
answer_free separator (Colour tint) low =
    (letters_free separator (codes "colour") low refl, (number_free separator tint low, tt))
answer_free separator (Count cells) low =
    (letters_free separator (codes "count") low refl, (number_free separator cells low, tt))
answer_free separator (Faces number) low =
    (letters_free separator (codes "faces") low refl, (number_free separator number low, tt))
answer_free separator (Extent None) low =
    (letters_free separator (codes "bounds") low refl, (letters_free separator (codes "none") low refl, tt))
answer_free separator (Extent (Some b)) low =
    (letters_free separator (codes "bounds") low refl, cell_free separator b.at (words_of_cell b.size []) low (cell_free separator b.size [] low tt))
answer_free separator (Hit None) low = (letters_free separator (codes "miss") low refl, tt)
answer_free separator (Hit (Some c)) low =
    (letters_free separator (codes "hit") low refl, cell_free separator c [] low tt)
answer_free separator (Same true) low = (letters_free separator (codes "same") low refl, tt)
answer_free separator (Same false) low = (letters_free separator (codes "different") low refl, tt)
answer_free separator Head low = (letters_free separator (codes "head") low refl, tt)
answer_free separator (Saved cells) low =
    (letters_free separator (codes "saved") low refl, (number_free separator cells low, tt))
answer_free separator (Full level bucket) low =
    (letters_free separator (codes "full") low refl, (number_free separator level low, (number_free separator bucket low, tt)))
answer_free separator (NoVersion v) low =
    (letters_free separator (codes "no") low refl, (letters_free separator (codes "version") low refl, (number_free separator v low, tt)))
answer_free separator (Forgotten v) low =
    (letters_free separator (codes "forgotten") low refl, (number_free separator v low, tt))
answer_free separator IsHead low =
    (letters_free separator (codes "is") low refl, (letters_free separator (codes "head") low refl, tt))
answer_free separator NothingToUndo low =
    (letters_free separator (codes "nothing") low refl, (letters_free separator (codes "to") low refl, (letters_free separator (codes "undo") low refl, tt)))
answer_free separator NothingToRedo low =
    (letters_free separator (codes "nothing") low refl, (letters_free separator (codes "to") low refl, (letters_free separator (codes "redo") low refl, tt)))
answer_free separator LogFull low =
    (letters_free separator (codes "log") low refl, (letters_free separator (codes "full") low refl, tt))
answer_free separator (Stale base) low =
    (letters_free separator (codes "stale") low refl, (number_free separator base low, tt))

line_free : (separator : ℕ) (l : LineAnswer) → separator < 48 → AllFree separator (line_list l)
line_free separator l low =
    let moment : Free separator (codes "@" ++ decimal l.at) =
    free_append separator (codes "@") (decimal l.at)
    (letters_free separator (codes "@") low refl) (number_free separator l.at low) in
    (number_free separator l.line low, (moment, answer_free separator l.answer low))

-- ---- an answer whose words are read is in its bounds

-- the number is in its bound, and what stands behind it is read with it
abbrev IsBelow : {X : Type 0} → ℕ → ℕ → (ℕ → Result X WordFault) → X → Type 0
IsBelow bound n f x = (n < bound) × (f n ≡ Ok x)

below_by : {X : Type 0} (bound n : ℕ) (read : Option ℕ) (f : ℕ → Result X WordFault) (x : X)
    → bound ≤ 2 ^ 64 → exact bound (decimal n) ≡ read → (ok_or read Number >>= f) ≡ Ok x
    → IsBelow bound n f x
below_by bound n None f x small is same = absurd cc
below_by bound n (Some m) f x small is same =
    let takes = exact_takes bound (decimal n) m small is in
    let one : n ≡ m = numbers_once n m (omega (arith, takes.1, small)) (sym takes.0) in (
      omega (arith, takes.1, one),
      subst (λ (k : ℕ). f k ≡ Ok x) (sym one) same,
    )

number_below : {X : Type 0} (bound n : ℕ) (f : ℕ → Result X WordFault) (x : X) → bound ≤ 2 ^ 64
    → (limited_number bound (decimal n) >>= f) ≡ Ok x → IsBelow bound n f x
number_below bound n f x small same =
    below_by bound n (exact bound (decimal n)) f x small refl same

abbrev numbers_of : Cell → List ℕ × List ℕ × List ℕ
numbers_of c = (decimal c.x, decimal c.y, decimal c.z)

cell_below : (c d : Cell) → cell_said (numbers_of c) ≡ Ok d → IsCell c × (c ≡ d)
unfolding cell_said
cell_below c d same =
    let x = number_below (2 ^ 16) c.x _ d (lit≤ tt) same in
    let y = number_below (2 ^ 16) c.y _ d (lit≤ tt) x.1 in
    let z = number_below (2 ^ 16) c.z _ d (lit≤ tt) y.1 in
    ((x.0, y.0, z.0), (let e = z.1 in cc))

abbrev IsThere : {X : Type 0} → Cell → (Cell → Result X WordFault) → X → Type 0
IsThere c f x = IsCell c × (f c ≡ Ok x)

there_by : {X : Type 0} (c : Cell) (read : Result Cell WordFault) (f : Cell → Result X WordFault)
    (x : X) → cell_said (numbers_of c) ≡ read → (read >>= f) ≡ Ok x → IsThere c f x
there_by c (Err fault) f x is same = absurd cc
there_by c (Ok d) f x is same =
    let below = cell_below c d is in
    (below.0, subst (λ (e : Cell). f e ≡ Ok x) (sym below.1) same)

cell_there : {X : Type 0} (c : Cell) (f : Cell → Result X WordFault) (x : X)
    → (cell_said (numbers_of c) >>= f) ≡ Ok x → IsThere c f x
cell_there c f x same = there_by c (cell_said (numbers_of c)) f x refl same

box_by : (is_none : Bool) (none box : Result Answer WordFault) (x : Answer)
    → (none ≡ Ok x → ⊥) → cond is_none none box ≡ Ok x → box ≡ Ok x
box_by true none box x never same = absurd (never same)
box_by false none box x never same = same

answer_below : (a b : Answer) → answer_in (answer_list a) ≡ Ok b → IsAnswer a
unfolding long_rows short_rows number_said word_said full_said no_said way_to hit_said box_said bounds_said three_words
answer_below Done b same = tt
answer_below (Forgot v) b same =
    (number_below (2 ^ 32) v (λ n. Ok (Forgot n)) b (lit≤ tt) same).0
answer_below (Is true) b same = tt
answer_below (Is false) b same = tt
answer_below (Colour tint) b same =
    (number_below (2 ^ 8) tint (λ n. Ok (Colour n)) b (lit≤ tt) same).0
answer_below (Count cells) b same =
    (number_below (2 ^ 64) cells (λ n. Ok (Count n)) b (lit≤ tt) same).0
answer_below (Faces number) b same =
    (number_below (2 ^ 64) number (λ n. Ok (Faces n)) b (lit≤ tt) same).0
answer_below (Extent None) b same = tt
answer_below (Extent (Some box)) b same =
    let read =
    box_by (bytes_eq (decimal box.at.x) (codes "none")) (Err Extra) _ b (λ e. absurd cc) same in
    let at = cell_there box.at _ b read in
    let size = cell_there box.size _ b at.1 in
    (at.0, size.0)
answer_below (Hit None) b same = tt
answer_below (Hit (Some c)) b same = (cell_there c (λ d. Ok (Hit (Some d))) b same).0
answer_below (Same true) b same = tt
answer_below (Same false) b same = tt
answer_below Head b same = tt
answer_below (Saved cells) b same =
    (number_below (2 ^ 64) cells (λ n. Ok (Saved n)) b (lit≤ tt) same).0
answer_below (Full level bucket) b same =
    let l = number_below (2 ^ 8) level _ b (lit≤ tt) same in
    let k = number_below (2 ^ 16) bucket _ b (lit≤ tt) l.1 in
    (l.0, k.0)
answer_below (NoVersion v) b same =
    (number_below (2 ^ 32) v (λ n. Ok (NoVersion n)) b (lit≤ tt) same).0
answer_below (Forgotten v) b same =
    (number_below (2 ^ 32) v (λ n. Ok (Forgotten n)) b (lit≤ tt) same).0
answer_below IsHead b same = tt
answer_below NothingToUndo b same = tt
answer_below NothingToRedo b same = tt
answer_below LogFull b same = tt
answer_below (Stale base) b same =
    (number_below (2 ^ 32) base (λ n. Ok (Stale n)) b (lit≤ tt) same).0

-- ---- lines and texts

-- the words behind the line's number and its moment
abbrev behind_two : List (List ℕ) → List (List ℕ)
behind_two ws = drop 2 ws

lines_once : (a b : LineAnswer) → IsLineAnswer b → line_list a ≡ line_list b → a ≡ b
lines_once a b is same =
    let line : a.line ≡ b.line =
    numbers_once a.line b.line (let e = is.line in omega (arith, e))
    (ap (λ (ws : List (List ℕ)). get_or ws 0 []) same) in
    let at : a.at ≡ b.at =
    numbers_once a.at b.at (let e = is.at in omega (arith, e))
    (ap (λ (ws : List (List ℕ)). drop 1 (get_or ws 1 [])) same) in
    let answer : answer_list a.answer ≡ answer_list b.answer = ap behind_two same in
    let below : IsAnswer a.answer =
    answer_below a.answer b.answer (ap answer_in answer ∙ answer_again b.answer is.answer) in
    let of_a : IsLineAnswer a = record {
      line = (let e = is.line in omega (arith, e, line));
      at = (let e = is.at in omega (arith, e, at));
      answer = below;
    } in
    let both : Ok a ≡ Ok b = sym (line_again a of_a) ∙ ap line_spelled same ∙ line_again b is in
    cc

words_of : (l : LineAnswer) → words (line_words l) ≡ line_list l
words_of l = words_back _ _ (line_free 32 l (omega arith))

no_newline : (l : LineAnswer) → Free 10 (line_words l)
no_newline l = joined_free 10 32 (line_list l) refl (line_free 10 l (omega arith))

-- a text, as its first line and what stands behind it
text_is : (a : LineAnswer) (more : List LineAnswer)
    → transcript_of (a ∷ more) ≡ line_words a ++ 10 ∷ transcript_of more
text_is a more = append_assoc (line_words a) (codes "\n") (transcript_of more)

line_some : (a : LineAnswer) (more : List LineAnswer) → transcript_of (a ∷ more) ≡ [] → ⊥
line_some a more same =
    let none : length (line_words a ++ 10 ∷ transcript_of more) ≡ 0 =
    ap (λ (text : List ℕ). length text) (sym (text_is a more) ∙ same) in
    omega (arith, none, length-append (line_words a) (10 ∷ transcript_of more))

answers_once : (xs ys : List LineAnswer) → AllByRecursion IsLineAnswer ys
    → transcript_of xs ≡ transcript_of ys → xs ≡ ys
answers_once [] [] of_ys same = refl
answers_once [] (b ∷ ys) of_ys same = absurd (line_some b ys (sym same))
answers_once (a ∷ xs) [] of_ys same = absurd (line_some a xs same)
answers_once (a ∷ xs) (b ∷ ys) of_ys same =
    let both =
    parted 10 (line_words a) (line_words b) (transcript_of xs) (transcript_of ys) (no_newline a)
    (no_newline b) (sym (text_is a xs) ∙ same ∙ text_is b ys) in
    let one : a ≡ b =
    lines_once a b of_ys.0 (sym (words_of a) ∙ ap words both.0 ∙ words_of b) in
    ap (λ (x : LineAnswer). x ∷ xs) one
    ∙ ap (λ (more : List LineAnswer). b ∷ more) (answers_once xs ys of_ys.1 both.1)

-- texts that are those of transcripts that can be read back are those of no others
pub transcripts_left : (a b : List (List LineAnswer)) → All (All IsLineAnswer) b
    → map transcript_of a ≡ map transcript_of b → a ≡ b
transcripts_left [] [] of_b same = refl
transcripts_left [] (t ∷ b) of_b same =
    let long : 0 ≡ length (map transcript_of (t ∷ b)) =
    ap (λ (ts : List (List ℕ)). length ts) same in
    absurd (omega (arith, long))
transcripts_left (s ∷ a) [] of_b same =
    let long : length (map transcript_of (s ∷ a)) ≡ 0 =
    ap (λ (ts : List (List ℕ)). length ts) same in
    absurd (omega (arith, long))
transcripts_left (s ∷ a) (t ∷ b) of_b same =
    let first : s ≡ t =
    answers_once s t (recursion_from_All IsLineAnswer t (All-head (All IsLineAnswer) t b of_b))
    (ap (λ (ts : List (List ℕ)). get_or ts 0 []) same) in
    let others : a ≡ b =
    transcripts_left a b (All-tail (All IsLineAnswer) t b of_b)
    (ap (λ (ts : List (List ℕ)). drop 1 ts) same) in
    ap (λ (x : List LineAnswer). x ∷ a) first
    ∙ ap (λ (xs : List (List LineAnswer)). t ∷ xs) others
