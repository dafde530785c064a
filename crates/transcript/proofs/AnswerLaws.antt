-- The words of an answer are read as it, and as nothing else.
use Rattle.std.specs.Prelude.{◌≡◌, ℕ, ◌^◌, ◌<◌, ◌≤◌, Bool, true, false, List, [], ◌∷◌, ◌++◌, Option, Some, None, Result, Ok, Err, codes, refl}
use Rattle.std.proofs.Common.{eqb, cond, ap, sym, subst, arith, lit≤}
use Rattle.std.specs.Fmt.{decimal}
use Rattle.std.specs.Char.{digit_value}
use Rattle.std.specs.Str.Parse.{AllDigits}
use Rattle.std.proofs.lemmas.Fmt.{decimal_is_IsNumeral}
use Rattle.std.specs.Option.{ok_or}
use Rattle.std.specs.List.{AllByRecursion}
use Rattle.std.specs.Str.{bytes_eq}
use Rattle.std.proofs.lemmas.Bool.{eqb-true}
use Rattle.std.proofs.lemmas.Slice.Eq.{bytes_eq-Decides}
use Rattle.vw_cell.specs.declared.cells.Cell.{Cell}
use Rattle.plain_text.specs.declared.faults.WordFault.{WordFault}
use Rattle.plain_text.specs.declared.faults.WordFault.TheVariants.{Word, Number, Missing}
use Rattle.plain_text.specs.Steps.{◌>>=◌, three_words}
use Rattle.plain_text.specs.Numbers.{exact}
use Rattle.plain_text.specs.NumberLaws.{exact_again, exact_takes}
use Rattle.transcript.specs.declared.answers.Answer.{Answer}
use Rattle.transcript.specs.declared.answers.Answer.TheVariants.{Done, Forgot, Is, Colour, Count, Faces, Extent, Hit, Same, Head, Saved, Full, NoVersion, Forgotten, IsHead, NothingToUndo, NothingToRedo, LogFull, Stale}
use Rattle.transcript.specs.declared.answers.LineAnswer.{LineAnswer}
use Rattle.transcript.specs.Lines.{answer_list, line_list}
use Rattle.transcript.specs.Bounds.{IsAnswer, IsLineAnswer}
use Rattle.transcript.specs.Rows.{limited_number, nothing_said, number_said, word_said, full_said, no_said, way_told, way_to, cell_said, hit_said, box_said, bounds_said, AnswerRow, answer_row, long_rows, short_rows, answer_read_by, short_spelled, answer_spelled, moment_spelled, line_spelled}
use Rattle.vw_cell.specs.Places.{IsCell}

-- ---- what is written is read

same_bytes : (a b : List ℕ) → bytes_eq a b ≡ true → a ≡ b
same_bytes a b same = (bytes_eq-Decides a b).0 same

number_again : (bound n : ℕ) → bound ≤ 2 ^ 64 → n < bound → limited_number bound (decimal n) ≡ Ok n
number_again bound n small less = let again = exact_again bound n small less in rw again refl

sum_again : (n : ℕ) → n < 2 ^ 64 → limited_number (2 ^ 64) (decimal n) ≡ Ok n
sum_again n less = number_again (2 ^ 64) n (lit≤ tt) less

version_again : (n : ℕ) → n < 2 ^ 32 → limited_number (2 ^ 32) (decimal n) ≡ Ok n
version_again n less = number_again (2 ^ 32) n (lit≤ tt) less

cell_again : (c : Cell) → IsCell c → cell_said (decimal c.x, decimal c.y, decimal c.z) ≡ Ok c
unfolding cell_said
cell_again c is =
    let x = number_again (2 ^ 16) c.x (lit≤ tt) is.0 in
    let y = number_again (2 ^ 16) c.y (lit≤ tt) is.1 in
    let z = number_again (2 ^ 16) c.z (lit≤ tt) is.2 in
    rw (x, y, z) refl

no_digits : (n : ℕ) → n < 2 ^ 64 → codes "none" ≡ decimal n → ⊥
no_digits n small same =
    let digits : AllDigits 10 (codes "none") =
    subst (AllDigits 10) (sym same) (decimal_is_IsNumeral n small).0.1 in
    let first_digit : digit_value 110 < 10 = digits.0 in
    omega (arith, first_digit)

not_none_by : (n : ℕ) (test : Bool) → n < 2 ^ 64 → bytes_eq (decimal n) (codes "none") ≡ test
    → test ≡ false
not_none_by n true small same =
    absurd (no_digits n small (sym (same_bytes (decimal n) (codes "none") same)))
not_none_by n false small same = refl

-- a number isn't `none`
not_none : (n : ℕ) → n < 2 ^ 16 → bytes_eq (decimal n) (codes "none") ≡ false
not_none n small = not_none_by n (bytes_eq (decimal n) (codes "none")) (omega arith) refl

-- the answer of these words
abbrev pub answer_in : List (List ℕ) → Result Answer WordFault
answer_in [] = Err Missing
answer_in (name ∷ words) = answer_spelled name words

pub answer_again : (a : Answer) → IsAnswer a → answer_in (answer_list a) ≡ Ok a
unfolding long_rows short_rows number_said word_said full_said no_said way_to hit_said box_said bounds_said three_words
answer_again Done is = refl
answer_again (Forgot v) is = let again = version_again v is in rw again refl
answer_again (Is true) is = refl
answer_again (Is false) is = refl
answer_again (Colour tint) is = let again = number_again (2 ^ 8) tint (lit≤ tt) is in rw again refl
answer_again (Count cells) is = let again = sum_again cells is in rw again refl
answer_again (Faces number) is = let again = sum_again number is in rw again refl
answer_again (Extent None) is = refl
answer_again (Extent (Some b)) is =
    let other = not_none b.at.x (omega (arith, is.0)) in
    let at = cell_again b.at is.0 in
    let size = cell_again b.size is.1 in
    rw (other, at, size) refl
answer_again (Hit None) is = refl
answer_again (Hit (Some c)) is = let again = cell_again c is in rw again refl
answer_again (Same true) is = refl
answer_again (Same false) is = refl
answer_again Head is = refl
answer_again (Saved cells) is = let again = sum_again cells is in rw again refl
answer_again (Full level bucket) is =
    let l = number_again (2 ^ 8) level (lit≤ tt) is.0 in
    let b = number_again (2 ^ 16) bucket (lit≤ tt) is.1 in
    rw (l, b) refl
answer_again (NoVersion v) is = let again = version_again v is in rw again refl
answer_again (Forgotten v) is = let again = version_again v is in rw again refl
answer_again IsHead is = refl
answer_again NothingToUndo is = refl
answer_again NothingToRedo is = refl
answer_again LogFull is = refl
answer_again (Stale base) is = let again = version_again base is in rw again refl

line_by : (line at : ℕ) (ws : List (List ℕ)) (a : Answer) → line < 2 ^ 32 → at < 2 ^ 32
    → answer_in ws ≡ Ok a
    → line_spelled (decimal line ∷ (codes "@" ++ decimal at) ∷ ws) ≡ Ok
    (record { line = line; at = at; answer = a })
unfolding line_spelled
line_by line at [] a small_line small_at read = absurd cc
line_by line at (name ∷ words) a small_line small_at read =
    let l = version_again line small_line in
    let m = version_again at small_at in
    rw (read, l, m) refl

pub line_again : (l : LineAnswer) → IsLineAnswer l → line_spelled (line_list l) ≡ Ok l
line_again l is =
    line_by l.line l.at (answer_list l.answer) l.answer is.line is.at
    (answer_again l.answer is.answer)

-- ---- and only so

number_of_option : (read : Option ℕ) (n : ℕ) → ok_or read Number ≡ Ok n → read ≡ Some n
number_of_option None n same = absurd cc
number_of_option (Some m) n same = cc

number_takes : (bound : ℕ) (word : List ℕ) (n : ℕ) → bound ≤ 2 ^ 64
    → limited_number bound word ≡ Ok n → (decimal n ≡ word) × (n < bound)
number_takes bound word n small same =
    exact_takes bound word n small (number_of_option (exact bound word) n same)

-- the answer has this first word and these behind it, and numbers that it can hold
abbrev pub IsReading : Answer → List ℕ → List (List ℕ) → Type 0
IsReading a name words = (answer_list a ≡ name ∷ words) × IsAnswer a

moved : (a b : Answer) (name : List ℕ) (words : List (List ℕ)) → a ≡ b → IsReading a name words
    → IsReading b name words
moved a b name words same is = subst (λ (x : Answer). IsReading x name words) same is

abbrev word_by : Bool → Result (Unit {0}) WordFault
word_by test = cond test (Ok tt) (Err Word)

fixed_is : (word fixed : List ℕ) (test : Bool) (rest : Result Answer WordFault) (a : Answer)
    → bytes_eq word fixed ≡ test → (word_by test >>= λ end. rest) ≡ Ok a
    → (word ≡ fixed) × (rest ≡ Ok a)
fixed_is word fixed true rest a is same = ((bytes_eq-Decides word fixed).0 is, same)
fixed_is word fixed false rest a is same = absurd cc

nothing_takes : (answer : Answer) (name : List ℕ) (words : List (List ℕ)) (a : Answer)
    → IsReading answer name [] → nothing_said answer words ≡ Ok a → IsReading a name words
nothing_takes answer name [] a is same = let e : answer ≡ a = cc in moved answer a name [] e is
nothing_takes answer name (w ∷ words) a is same = absurd cc

number_said_takes : (bound : ℕ) (words : List (List ℕ)) (n : ℕ) → bound ≤ 2 ^ 64
    → number_said bound words ≡ Ok n → (decimal n ∷ [] ≡ words) × (n < bound)
unfolding number_said
number_said_takes bound (word ∷ []) n small same =
    let is = number_takes bound word n small same in
    (ap (λ (w : List ℕ). w ∷ []) is.0, is.1)
number_said_takes bound _ n small same = absurd cc

made : (read : Result ℕ WordFault) (make : ℕ → Answer) (a : Answer)
    → (read >>= λ n. Ok (make n)) ≡ Ok a → (n : ℕ) × (read ≡ Ok n) × (make n ≡ a)
made (Ok n) make a same = (n, refl, cc)
made (Err fault) make a same = absurd cc

number_row_takes : (bound : ℕ) (make : ℕ → Answer) (name : List ℕ) (words : List (List ℕ))
    (a : Answer) → bound ≤ 2 ^ 64 → ((n : ℕ) → n < bound → IsReading (make n) name (decimal n ∷ []))
    → (number_said bound words >>= λ n. Ok (make n)) ≡ Ok a → IsReading a name words
number_row_takes bound make name words a small each same =
    let m = made (number_said bound words) make a same in
    let is = number_said_takes bound words m.0 small m.1 in
    moved (make m.0) a name words m.2
    (subst (λ (ws : List (List ℕ)). IsReading (make m.0) name ws) is.0 (each m.0 is.1))

word_takes : (fixed : List ℕ) (answer : Answer) (name : List ℕ) (words : List (List ℕ)) (a : Answer)
    → IsReading answer name (fixed ∷ []) → word_said fixed answer words ≡ Ok a
    → IsReading a name words
unfolding word_said
word_takes fixed answer name (word ∷ []) a is same =
    let named = fixed_is word fixed (bytes_eq word fixed) (Ok answer) a refl same in
    let e : answer ≡ a = (let x = named.1 in cc) in
    moved answer a name (word ∷ []) e
    (subst (λ (w : List ℕ). IsReading answer name (w ∷ [])) (sym named.0) is)
word_takes fixed answer name _ a is same = absurd cc

two_parts : (x y : Result ℕ WordFault) (a : Answer) → (x >>= λ l. (y >>= λ b. Ok (Full l b))) ≡ Ok a
    → (l : ℕ) × (b : ℕ) × (x ≡ Ok l) × (y ≡ Ok b) × (Full l b ≡ a)
two_parts (Ok l) (Ok b) a same = (l, b, refl, refl, cc)
two_parts (Ok l) (Err fault) a same = absurd cc
two_parts (Err fault) y a same = absurd cc

full_takes : (words : List (List ℕ)) (a : Answer) → full_said words ≡ Ok a
    → IsReading a (codes "full") words
unfolding full_said
full_takes (level ∷ bucket ∷ []) a same =
    let parts = two_parts (limited_number (2 ^ 8) level) (limited_number (2 ^ 16) bucket) a same in
    let l = number_takes (2 ^ 8) level parts.0 (lit≤ tt) parts.2 in
    let b = number_takes (2 ^ 16) bucket parts.1 (lit≤ tt) parts.3 in
    let el = l.0 in
    let eb = b.0 in
    moved (Full parts.0 parts.1) a (codes "full") (level ∷ bucket ∷ []) parts.4 (cc, (l.1, b.1))
full_takes _ a same = absurd cc

no_takes : (words : List (List ℕ)) (a : Answer) → no_said words ≡ Ok a
    → IsReading a (codes "no") words
unfolding no_said
no_takes (word ∷ version ∷ []) a same =
    let named =
    fixed_is word (codes "version") (bytes_eq word (codes "version"))
    (limited_number (2 ^ 32) version >>= λ v. Ok (NoVersion v)) a refl same in
    let m = made (limited_number (2 ^ 32) version) NoVersion a named.1 in
    let v = number_takes (2 ^ 32) version m.0 (lit≤ tt) m.1 in
    let ew = named.0 in
    let ev = v.0 in
    moved (NoVersion m.0) a (codes "no") (word ∷ version ∷ []) m.2 (cc, v.1)
no_takes _ a same = absurd cc

way_is : (way : List ℕ) (a : Answer) (test : Bool) → bytes_eq way (codes "undo") ≡ test
    → cond test (Ok NothingToUndo)
    (word_by (bytes_eq way (codes "redo")) >>= λ is. Ok NothingToRedo) ≡ Ok a
    → IsReading a (codes "nothing") (codes "to" ∷ way ∷ [])
way_is way a true is same =
    let e : NothingToUndo ≡ a = cc in
    let w = same_bytes way (codes "undo") is in
    moved NothingToUndo a (codes "nothing") (codes "to" ∷ way ∷ []) e (cc, tt)
way_is way a false is same =
    let named =
    fixed_is way (codes "redo") (bytes_eq way (codes "redo")) (Ok NothingToRedo) a refl same in
    let e : NothingToRedo ≡ a = (let x = named.1 in cc) in
    let w = named.0 in
    moved NothingToRedo a (codes "nothing") (codes "to" ∷ way ∷ []) e (cc, tt)

way_takes : (words : List (List ℕ)) (a : Answer) → way_to words ≡ Ok a
    → IsReading a (codes "nothing") words
unfolding way_to
way_takes (word ∷ way ∷ []) a same =
    let named =
    fixed_is word (codes "to") (bytes_eq word (codes "to")) (way_told way) a refl same in
    subst (λ (w : List ℕ). IsReading a (codes "nothing") (w ∷ way ∷ [])) (sym named.0) (way_is way a (bytes_eq way (codes "undo")) refl named.1)
way_takes _ a same = absurd cc

three_parts : (x y z : Result ℕ WordFault) (c : Cell)
    → (x >>= λ a. (y >>= λ b. (z >>= λ d. Ok (record { x = a; y = b; z = d })))) ≡ Ok c
    → (x ≡ Ok c.x) × (y ≡ Ok c.y) × (z ≡ Ok c.z)
three_parts (Ok a) (Ok b) (Ok d) c same = (
  let e : a ≡ c.x = cc in ap (λ (n : ℕ). Ok n) e,
  let e : b
      ≡ c.y = cc in ap (λ (n : ℕ). Ok n) e,
  let e : d ≡ c.z = cc in ap (λ (n : ℕ). Ok n) e,
)
three_parts (Ok a) (Ok b) (Err fault) c same = absurd cc
three_parts (Ok a) (Err fault) z c same = absurd cc
three_parts (Err fault) y z c same = absurd cc

cell_takes : (x y z : List ℕ) (c : Cell) → cell_said (x, y, z) ≡ Ok c
    → (decimal c.x ≡ x) × (decimal c.y ≡ y) × (decimal c.z ≡ z) × IsCell c
unfolding cell_said
cell_takes x y z c same =
    let parts =
    three_parts (limited_number (2 ^ 16) x) (limited_number (2 ^ 16) y)
    (limited_number (2 ^ 16) z) c same in
    let a = number_takes (2 ^ 16) x c.x (lit≤ tt) parts.0 in
    let b = number_takes (2 ^ 16) y c.y (lit≤ tt) parts.1 in
    let d = number_takes (2 ^ 16) z c.z (lit≤ tt) parts.2 in
    (a.0, b.0, d.0, (a.1, b.1, d.1))

hit_made : (read : Result Cell WordFault) (a : Answer) → (read >>= λ c. Ok (Hit (Some c))) ≡ Ok a
    → (c : Cell) × (read ≡ Ok c) × (Hit (Some c) ≡ a)
hit_made (Ok c) a same = (c, refl, cc)
hit_made (Err fault) a same = absurd cc

hit_takes : (words : List (List ℕ)) (a : Answer) → hit_said words ≡ Ok a
    → IsReading a (codes "hit") words
unfolding hit_said three_words
hit_takes (x ∷ y ∷ z ∷ []) a same =
    let m = hit_made (cell_said (x, y, z)) a same in
    let c = cell_takes x y z m.0 m.1 in
    let ex = c.0 in
    let ey = c.1 in
    let ez = c.2 in
    moved (Hit (Some m.0)) a (codes "hit") (x ∷ y ∷ z ∷ []) m.2 (cc, c.3)
hit_takes _ a same = absurd cc

abbrev box_answer : Cell → Cell → Answer
box_answer at size = Extent (Some (record { at = at; size = size }))

box_made : (x y : Result Cell WordFault) (a : Answer)
    → (x >>= λ c. (y >>= λ d. Ok (box_answer c d))) ≡ Ok a
    → (c : Cell) × (d : Cell) × (x ≡ Ok c) × (y ≡ Ok d) × (box_answer c d ≡ a)
box_made (Ok c) (Ok d) a same = (c, d, refl, refl, cc)
box_made (Ok c) (Err fault) a same = absurd cc
box_made (Err fault) y a same = absurd cc

box_takes : (x : List ℕ) (words : List (List ℕ)) (a : Answer) → box_said x words ≡ Ok a
    → IsReading a (codes "bounds") (x ∷ words)
unfolding box_said three_words
box_takes x (y ∷ z ∷ u ∷ v ∷ w ∷ []) a same =
    let m = box_made (cell_said (x, y, z)) (cell_said (u, v, w)) a same in
    let c = cell_takes x y z m.0 m.2 in
    let d = cell_takes u v w m.1 m.3 in
    let ex = c.0 in
    let ey = c.1 in
    let ez = c.2 in
    let eu = d.0 in
    let ev = d.1 in
    let ew = d.2 in
    moved (box_answer m.0 m.1) a (codes "bounds") (x ∷ y ∷ z ∷ u ∷ v ∷ w ∷ []) m.4 (cc, (c.3, d.3))
box_takes x _ a same = absurd cc

bounds_by : (word : List ℕ) (more : List (List ℕ)) (a : Answer) (test : Bool)
    → bytes_eq word (codes "none") ≡ test
    → cond test (nothing_said (Extent None) more) (box_said word more) ≡ Ok a
    → IsReading a (codes "bounds") (word ∷ more)
bounds_by word [] a true is same =
    let e : Extent None ≡ a = cc in
    let w = same_bytes word (codes "none") is in
    moved (Extent None) a (codes "bounds") (word ∷ []) e (cc, tt)
bounds_by word (next ∷ more) a true is same = absurd cc
bounds_by word more a false is same = box_takes word more a same

bounds_takes : (words : List (List ℕ)) (a : Answer) → bounds_said words ≡ Ok a
    → IsReading a (codes "bounds") words
unfolding bounds_said
bounds_takes [] a same = absurd cc
bounds_takes (word ∷ more) a same = bounds_by word more a (bytes_eq word (codes "none")) refl same

-- ---- all rows

-- what the row reads has its name before the words
pub record Keeps (r : AnswerRow) : Type 0 where
  pub each : (words : List (List ℕ)) (a : Answer) → r.read words ≡ Ok a → IsReading a r.name words

abbrev keeps_nothing : (answer : Answer) (name : List ℕ) → IsReading answer name []
    → Keeps (answer_row name (nothing_said answer))
keeps_nothing answer name is =
    record { each = λ words a same. nothing_takes answer name words a is same }

abbrev keeps_sum : (make : ℕ → Answer) (name : List ℕ)
    → ((n : ℕ) → n < 2 ^ 64 → IsReading (make n) name (decimal n ∷ []))
    → Keeps (answer_row name (λ words. number_said (2 ^ 64) words >>= λ n. Ok (make n)))
keeps_sum make name each =
    record {
      each = λ words a same. number_row_takes (2 ^ 64) make name words a
          (lit≤ tt) each same;
    }

abbrev keeps_version : (make : ℕ → Answer) (name : List ℕ)
    → ((n : ℕ) → n < 2 ^ 32 → IsReading (make n) name (decimal n ∷ []))
    → Keeps (answer_row name (λ words. number_said (2 ^ 32) words >>= λ n. Ok (make n)))
keeps_version make name each =
    record {
      each = λ words a same. number_row_takes (2 ^ 32) make name words a
          (lit≤ tt) each same;
    }

long_keep : AllByRecursion Keeps long_rows
unfolding long_rows
long_keep = (
  record {
    each = λ words a same. number_row_takes (2 ^ 8) Colour (codes "colour") words a (lit≤ tt)
        (λ n less. (refl, less)) same;
  },
  (
    keeps_sum Count (codes "count") (λ n less. (refl, less)),
    (
      keeps_sum Faces (codes "faces") (λ n less. (refl, less)),
      (
        keeps_sum Saved (codes "saved") (λ n less. (refl, less)),
        (
          keeps_version Forgot (codes "forgot") (λ n less. (refl, less)),
          (
            keeps_version Forgotten (codes "forgotten") (λ n less. (refl, less)),
            (
              keeps_version Stale (codes "stale") (λ n less. (refl, less)),
              (
                record { each = no_takes },
                (
                  record { each = bounds_takes },
                  (record { each = hit_takes }, (record { each = full_takes }, tt)),
                ),
              ),
            ),
          ),
        ),
      ),
    ),
  ),
)

short_keep : AllByRecursion Keeps short_rows
unfolding short_rows
short_keep = (
  keeps_nothing Done (codes "ok") (refl, tt),
  (
    keeps_nothing (Is true) (codes "set") (refl, tt),
    (
      keeps_nothing (Is false) (codes "clear") (refl, tt),
      (
        keeps_nothing (Hit None) (codes "miss") (refl, tt),
        (
          keeps_nothing (Same true) (codes "same") (refl, tt),
          (
            keeps_nothing (Same false) (codes "different") (refl, tt),
            (
              keeps_nothing Head (codes "head") (refl, tt),
              (
                record {
                  each = λ words a same. word_takes (codes "head") IsHead
                      (codes "is") words a (refl, tt) same;
                },
                (record { each = λ words a same. word_takes (codes "full") LogFull (codes "log") words a (refl, tt) same }, (record { each = way_takes }, tt)),
              ),
            ),
          ),
        ),
      ),
    ),
  ),
)

row_takes : (r : AnswerRow) (rest : Result Answer WordFault) (name : List ℕ) (words : List (List ℕ))
    (a : Answer) (test : Bool) → bytes_eq name r.name ≡ test → Keeps r
    → (rest ≡ Ok a → IsReading a name words)
    → cond test (r.read words) rest ≡ Ok a → IsReading a name words
row_takes r rest name words a true is keeps others same =
    subst (λ (n : List ℕ). IsReading a n words) (sym (same_bytes name r.name is))
    (keeps.each words a same)
row_takes r rest name words a false is keeps others same = others same

rows_take : (rows : List AnswerRow) (other : Result Answer WordFault) (name : List ℕ)
    (words : List (List ℕ)) (a : Answer) → AllByRecursion Keeps rows
    → (other ≡ Ok a → IsReading a name words)
    → answer_read_by rows other name words ≡ Ok a → IsReading a name words
rows_take [] other name words a keep of_other same = of_other same
rows_take (r ∷ rows) other name words a keep of_other same =
    row_takes r (answer_read_by rows other name words) name words a
    (bytes_eq name r.name) refl keep.0 (rows_take rows other name words a keep.1 of_other) same

no_answer : (name : List ℕ) (words : List (List ℕ)) (a : Answer) → Err Word ≡ Ok a
    → IsReading a name words
no_answer name words a same = absurd cc

answer_takes : (name : List ℕ) (words : List (List ℕ)) (a : Answer)
    → answer_spelled name words ≡ Ok a → IsReading a name words
answer_takes name words a same =
    rows_take long_rows (short_spelled name words) name words a long_keep
    (rows_take short_rows (Err Word) name words a short_keep (no_answer name words a)) same

at_takes : (b : ℕ) (digits : List ℕ) (n : ℕ) (test : Bool) → eqb b 64 ≡ test
    → cond test (limited_number (2 ^ 32) digits) (Err Word) ≡ Ok n
    → (codes "@" ++ decimal n ≡ b ∷ digits) × (n < 2 ^ 32)
at_takes b digits n true is same =
    let e : b ≡ 64 = eqb-true b 64 is in
    let number = number_takes (2 ^ 32) digits n (lit≤ tt) same in
    let ed = number.0 in
    (cc, number.1)
at_takes b digits n false is same = absurd cc

moment_takes : (word : List ℕ) (n : ℕ) → moment_spelled word ≡ Ok n
    → (codes "@" ++ decimal n ≡ word) × (n < 2 ^ 32)
moment_takes [] n same = absurd cc
moment_takes (b ∷ digits) n same = at_takes b digits n (eqb b 64) refl same

line_parts : (answer : Result Answer WordFault) (line at : Result ℕ WordFault) (l : LineAnswer)
    →
    (answer >>= λ a.
    (line >>= λ n. (at >>= λ m. Ok (record { line = n; at = m; answer = a })))) ≡ Ok l
    → (answer ≡ Ok l.answer) × (line ≡ Ok l.line) × (at ≡ Ok l.at)
line_parts (Ok a) (Ok n) (Ok m) l same = (
  let e : a ≡ l.answer = cc in ap (λ (x : Answer). Ok x) e,
  let e : n
      ≡ l.line = cc in ap (λ (x : ℕ). Ok x) e,
  let e : m ≡ l.at = cc in ap (λ (x : ℕ). Ok x) e,
)
line_parts (Ok a) (Ok n) (Err fault) l same = absurd cc
line_parts (Ok a) (Err fault) at l same = absurd cc
line_parts (Err fault) line at l same = absurd cc

pub line_takes : (ws : List (List ℕ)) (l : LineAnswer) → line_spelled ws ≡ Ok l
    → (line_list l ≡ ws) × IsLineAnswer l
unfolding line_spelled
line_takes (first ∷ second ∷ name ∷ words) l same =
    let parts =
    line_parts (answer_spelled name words) (limited_number (2 ^ 32) first)
    (moment_spelled second) l same in
    let answer = answer_takes name words l.answer parts.0 in
    let line = number_takes (2 ^ 32) first l.line (lit≤ tt) parts.1 in
    let at = moment_takes second l.at parts.2 in
    let ea = answer.0 in
    let el = line.0 in
    let em = at.0 in
    (cc, record { line = line.1; at = at.1; answer = answer.1 })
line_takes _ l same = absurd cc
