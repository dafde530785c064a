-- What is written of an act is read as it, and what is read of words in their one form is written
-- so.
use Rattle.std.specs.Prelude.{◌≡◌, ℕ, ◌^◌, ◌<◌, Bool, true, false, List, [], ◌∷◌, Option, Some, None, Result, Ok, Err, codes, refl}
use Rattle.std.proofs.Common.{lit≤, cond, ap, sym, ◌∙◌, subst}
use Rattle.std.specs.Option.{ok_or}
use Rattle.std.proofs.lemmas.Bool.{cond_both}
use Rattle.std.specs.Str.{bytes_eq}
use Rattle.std.proofs.lemmas.Slice.Eq.{bytes_eq-Decides}
use Rattle.std.specs.Fmt.{decimal}
use Rattle.vw_cell.specs.declared.cells.Cell.{Cell}
use Rattle.vw_cell.specs.declared.boxes.Boxed.{Boxed}
use Rattle.vw_cell.specs.declared.balls.Ball as balls
use Rattle.plain_text.specs.declared.faults.WordFault.{WordFault}
use Rattle.plain_text.specs.declared.faults.WordFault.TheVariants.{Word, Number, Missing}
use Rattle.plain_text.specs.Steps.{◌>>=◌, three_words, nothing_more, number_by}
use Rattle.plain_text.specs.Numbers.{exact}
use Rattle.plain_text.specs.NumberLaws.{exact_again, exact_takes}
use Rattle.history_model.specs.declared.acts.Act.{Act}
use Rattle.history_model.specs.declared.acts.Act.TheVariants.{Fill, Erase, Ball, Carve, Copy, Stamp, Tint, Undo, Redo}
use Rattle.history_model.specs.declared.acts.TintAct.{TintAct}
use Rattle.history_model.specs.declared.acts.TintAct.TheVariants as tints
use Rattle.history_model.specs.Worlds.{box_at}
use Rattle.history_model.specs.Spelling.{three_numbers, box_spelled, ball_spelled, copy_spelled, stamp_spelled, act_spelled, tint_fill_spelled, tint_ball_spelled, tint_spelled, spelled_by, tinted_act, cell_list, box_list, ball_list, tint_list, act_list, IsSmallCell, IsSmallBox, IsSmallTint, IsSmall}
use Rattle.history_model.specs.Logs.{suits_tints}

-- ---- again

number_again : (n : ℕ) → n < 2 ^ 32 → number_by (exact (2 ^ 32)) (decimal n) ≡ Ok n
number_again n small = let again = exact_again (2 ^ 32) n (lit≤ tt) small in rw again refl

pub numbers_again : (c : Cell) → IsSmallCell c
    → three_numbers (exact (2 ^ 32)) (decimal c.x, decimal c.y, decimal c.z) ≡ Ok c
unfolding three_numbers
numbers_again c small =
    let x = exact_again (2 ^ 32) c.x (lit≤ tt) small.0 in
    let y = exact_again (2 ^ 32) c.y (lit≤ tt) small.1 in
    let z = exact_again (2 ^ 32) c.z (lit≤ tt) small.2 in
    rw (x, y, z) refl

box_again : (b : Boxed) → IsSmallBox b → box_spelled (exact (2 ^ 32)) (box_list b []) ≡ Ok b
unfolding box_spelled three_words
box_again b small =
    let at = numbers_again b.at small.0 in
    let size = numbers_again b.size small.1 in
    rw (at, size) refl

ball_again : (ball : balls.Ball) → IsSmallCell ball.centre → ball.radius < 2 ^ 32
    → ball_spelled (exact (2 ^ 32)) (ball_list ball) ≡ Ok ball
unfolding ball_spelled three_words
ball_again ball small_centre small_radius =
    let centre = numbers_again ball.centre small_centre in
    let radius = exact_again (2 ^ 32) ball.radius (lit≤ tt) small_radius in
    rw (centre, radius) refl

copy_again : (b : Boxed) (to : Cell) → IsSmallBox b → IsSmallCell to
    → copy_spelled (exact (2 ^ 32)) (box_list b (codes "to" ∷ cell_list to [])) ≡ Ok (Copy b to)
unfolding copy_spelled three_words
copy_again b to small small_to =
    let at = numbers_again b.at small.0 in
    let size = numbers_again b.size small.1 in
    let goal = numbers_again to small_to in
    rw (at, size, goal) refl

stamp_again : (m : ℕ) (at : Cell) → m < 2 ^ 32 → IsSmallCell at
    → stamp_spelled (exact (2 ^ 32)) (decimal m ∷ cell_list at []) ≡ Ok (Stamp m at)
unfolding stamp_spelled three_words
stamp_again m at small_m small_at =
    let model = exact_again (2 ^ 32) m (lit≤ tt) small_m in
    let place = numbers_again at small_at in
    rw (model, place) refl

tint_fill_again : (b : Boxed) (c : ℕ) → IsSmallBox b → c < 2 ^ 32
    → tint_fill_spelled (exact (2 ^ 32)) (box_list b (decimal c ∷ [])) ≡ Ok (Tint (tints.Fill b c))
unfolding tint_fill_spelled three_words
tint_fill_again b c small small_tint =
    let at = numbers_again b.at small.0 in
    let size = numbers_again b.size small.1 in
    let tint = exact_again (2 ^ 32) c (lit≤ tt) small_tint in
    rw (at, size, tint) refl

tint_ball_again : (ball : balls.Ball) (c : ℕ) → IsSmallCell ball.centre → ball.radius < 2 ^ 32
    → c < 2 ^ 32
    → tint_ball_spelled (exact (2 ^ 32))
    (cell_list ball.centre (decimal ball.radius ∷ decimal c ∷ [])) ≡ Ok
    (Tint (tints.Ball ball c))
unfolding tint_ball_spelled three_words
tint_ball_again ball c small_centre small_radius small_tint =
    let centre = numbers_again ball.centre small_centre in
    let radius = exact_again (2 ^ 32) ball.radius (lit≤ tt) small_radius in
    let tint = exact_again (2 ^ 32) c (lit≤ tt) small_tint in
    rw (centre, radius, tint) refl

-- the act of these words, of which the first is its name, in a history that is coloured or not
abbrev pub act_in : Bool → List (List ℕ) → Result Act WordFault
act_in coloured [] = Err Missing
act_in coloured (name ∷ words) = spelled_by coloured (exact (2 ^ 32)) name words

tint_again : (t : TintAct) → IsSmallTint t → act_in true (tint_list t) ≡ Ok (Tint t)
unfolding act_spelled tint_spelled
tint_again (tints.Fill b c) small = tint_fill_again b c small.0 small.1
tint_again (tints.Erase b) small = let again = box_again b small in rw again refl
tint_again (tints.Ball ball c) small = tint_ball_again ball c small.0 small.1 small.2
tint_again (tints.Carve ball) small = let again = ball_again ball small.0 small.1 in rw again refl
tint_again (tints.Copy b to) small = let again = copy_again b to small.0 small.1 in rw again refl
tint_again (tints.Stamp m at) small = let again = stamp_again m at small.0 small.1 in rw again refl

pub act_again : (coloured : Bool) (act : Act) → suits_tints coloured act ≡ true → IsSmall act
    → act_in coloured (act_list act) ≡ Ok act
unfolding act_spelled tint_spelled
act_again false (Fill b) suit small = let again = box_again b small in rw again refl
act_again false (Erase b) suit small = let again = box_again b small in rw again refl
act_again false (Ball ball) suit small =
    let again = ball_again ball small.0 small.1 in rw again refl
act_again false (Carve ball) suit small =
    let again = ball_again ball small.0 small.1 in rw again refl
act_again false (Copy b to) suit small = copy_again b to small.0 small.1
act_again false (Stamp m at) suit small = stamp_again m at small.0 small.1
act_again false (Tint t) suit small = absurd (let no : ⊥ = cc in no)
act_again false Undo suit small = refl
act_again false Redo suit small = refl
act_again true (Fill b) suit small = absurd (let no : ⊥ = cc in no)
act_again true (Erase b) suit small = absurd (let no : ⊥ = cc in no)
act_again true (Ball ball) suit small = absurd (let no : ⊥ = cc in no)
act_again true (Carve ball) suit small = absurd (let no : ⊥ = cc in no)
act_again true (Copy b to) suit small = absurd (let no : ⊥ = cc in no)
act_again true (Stamp m at) suit small = absurd (let no : ⊥ = cc in no)
act_again true (Tint t) suit small = tint_again t small
act_again true Undo suit small = refl
act_again true Redo suit small = refl

-- ---- and only so

same_bytes : (a b : List ℕ) → bytes_eq a b ≡ true → a ≡ b
same_bytes a b same = (bytes_eq-Decides a b).0 same

number_of_option : (read : Option ℕ) (n : ℕ) → ok_or read Number ≡ Ok n → read ≡ Some n
number_of_option None n same = absurd cc
number_of_option (Some m) n same = cc

-- the word is that of a number of 32 bits
abbrev pub IsWord : ℕ → List ℕ → Type 0
IsWord n word = (decimal n ≡ word) × (n < 2 ^ 32)

pub number_takes : (word : List ℕ) (n : ℕ) → number_by (exact (2 ^ 32)) word ≡ Ok n → IsWord n word
number_takes word n same =
    exact_takes (2 ^ 32) word n (lit≤ tt) (number_of_option (exact (2 ^ 32) word) n same)

three_parts : (x y z : Result ℕ WordFault) (c : Cell)
    → (x >>= λ a. (y >>= λ b. (z >>= λ d. Ok (record { x = a; y = b; z = d })))) ≡ Ok c
    → (x ≡ Ok c.x) × (y ≡ Ok c.y) × (z ≡ Ok c.z)
three_parts (Ok a) (Ok b) (Ok d) c same = (
  let e : a ≡ c.x = cc in ap (λ (n : ℕ). Ok n) e,
  let e : b
      ≡ c.y = cc in ap (λ (n : ℕ). Ok n) e,
  let e : d ≡ c.z = cc in ap (λ (n : ℕ). Ok n) e,
)
three_parts (Ok a) (Ok b) (Err fault) c same = absurd cc
three_parts (Ok a) (Err fault) z c same = absurd cc
three_parts (Err fault) y z c same = absurd cc

-- the words are those of a cell whose numbers have 32 bits
abbrev pub IsWords : Cell → List ℕ → List ℕ → List ℕ → Type 0
IsWords c x y z = IsWord c.x x × IsWord c.y y × IsWord c.z z

pub numbers_take : (x y z : List ℕ) (c : Cell) → three_numbers (exact (2 ^ 32)) (x, y, z) ≡ Ok c
    → IsWords c x y z
unfolding three_numbers
numbers_take x y z c same =
    let parts =
    three_parts (number_by (exact (2 ^ 32)) x) (number_by (exact (2 ^ 32)) y)
    (number_by (exact (2 ^ 32)) z) c same in
    (number_takes x c.x parts.0, number_takes y c.y parts.1, number_takes z c.z parts.2)

small_of : (x y z : List ℕ) (c : Cell) → IsWords c x y z → IsSmallCell c
small_of x y z c is = (is.0.1, is.1.1, is.2.1)

list_of : (x y z : List ℕ) (c : Cell) (more rest : List (List ℕ)) → IsWords c x y z → more ≡ rest
    → cell_list c more ≡ x ∷ y ∷ z ∷ rest
list_of x y z c more rest is same = (let ex = is.0.0 in let ey = is.1.0 in let ez = is.2.0 in cc)

box_parts : (at size : Result Cell WordFault) (b : Boxed)
    → (at >>= λ corner. (size >>= λ extent. Ok (box_at corner extent))) ≡ Ok b
    → (at ≡ Ok b.at) × (size ≡ Ok b.size)
box_parts (Ok corner) (Ok extent) b same = (
  let e : corner ≡ b.at = cc in ap (λ (c : Cell). Ok c) e,
  let e : extent
      ≡ b.size = cc in ap (λ (c : Cell). Ok c) e,
)
box_parts (Ok corner) (Err fault) b same = absurd cc
box_parts (Err fault) size b same = absurd cc

box_takes : (ws : List (List ℕ)) (b : Boxed) → box_spelled (exact (2 ^ 32)) ws ≡ Ok b
    → (box_list b [] ≡ ws) × IsSmallBox b
unfolding box_spelled three_words
box_takes (x ∷ y ∷ z ∷ u ∷ v ∷ w ∷ []) b same =
    let parts =
    box_parts (three_numbers (exact (2 ^ 32)) (x, y, z))
    (three_numbers (exact (2 ^ 32)) (u, v, w)) b same in
    let at = numbers_take x y z b.at parts.0 in
    let size = numbers_take u v w b.size parts.1 in (
      list_of x y z b.at (cell_list b.size []) _ at (list_of u v w b.size [] [] size refl),
      (small_of x y z b.at at, small_of u v w b.size size),
    )
box_takes _ b same = absurd cc

ball_parts : (at : Result Cell WordFault) (size : Result ℕ WordFault) (b : balls.Ball)
    →
    (at >>= λ centre. (size >>= λ radius. Ok (record { centre = centre; radius = radius })))
    ≡ Ok b → (at ≡ Ok b.centre) × (size ≡ Ok b.radius)
ball_parts (Ok centre) (Ok radius) b same = (
  let e : centre ≡ b.centre = cc in ap (λ (c : Cell). Ok c) e,
  let e : radius
      ≡ b.radius = cc in ap (λ (n : ℕ). Ok n) e,
)
ball_parts (Ok centre) (Err fault) b same = absurd cc
ball_parts (Err fault) size b same = absurd cc

ball_takes : (ws : List (List ℕ)) (b : balls.Ball) → ball_spelled (exact (2 ^ 32)) ws ≡ Ok b
    → (ball_list b ≡ ws) × IsSmallCell b.centre × (b.radius < 2 ^ 32)
unfolding ball_spelled three_words
ball_takes (x ∷ y ∷ z ∷ r ∷ []) b same =
    let parts =
    ball_parts (three_numbers (exact (2 ^ 32)) (x, y, z))
    (number_by (exact (2 ^ 32)) r) b same in
    let at = numbers_take x y z b.centre parts.0 in
    let radius = number_takes r b.radius parts.1 in (
      list_of x y z b.centre (decimal b.radius ∷ []) (r ∷ []) at
          (ap (λ (word : List ℕ). word ∷ []) radius.0),
      small_of x y z b.centre at,
      radius.1,
    )
ball_takes _ b same = absurd cc

-- the words behind a name are those of an act whose numbers have 32 bits
abbrev pub IsActOf : Act → List ℕ → List (List ℕ) → Type 0
IsActOf act name ws = (act_list act ≡ name ∷ ws) × IsSmall act

copy_parts : (at size to : Result Cell WordFault) (act : Act)
    →
    (at >>= λ corner.
    (size >>= λ extent. (to >>= λ goal. Ok (Copy (box_at corner extent) goal)))) ≡ Ok act
    → (corner : Cell) × (extent : Cell) × (goal : Cell) × (at ≡ Ok corner) × (size ≡ Ok extent)
    × (to ≡ Ok goal) × (Copy (box_at corner extent) goal ≡ act)
copy_parts (Ok corner) (Ok extent) (Ok goal) act same = (corner, extent, goal, refl, refl, refl, cc)
copy_parts (Ok corner) (Ok extent) (Err fault) act same = absurd cc
copy_parts (Ok corner) (Err fault) to act same = absurd cc
copy_parts (Err fault) size to act same = absurd cc

abbrev word_by : Bool → Result (Unit {0}) WordFault
word_by test = cond test (Ok tt) (Err Word)

to_is : (test : Bool) (rest : Result Act WordFault) (act : Act)
    → (word_by test >>= λ end. rest) ≡ Ok act → (test ≡ true) × (rest ≡ Ok act)
to_is true rest act same = (refl, same)
to_is false rest act same = absurd cc

copy_takes : (ws : List (List ℕ)) (act : Act) → copy_spelled (exact (2 ^ 32)) ws ≡ Ok act
    → IsActOf act (codes "copy") ws
unfolding copy_spelled three_words
copy_takes (x ∷ y ∷ z ∷ u ∷ v ∷ w ∷ between ∷ p ∷ q ∷ r ∷ []) act same =
    let word = to_is (bytes_eq between (codes "to")) _ act same in
    let parts =
    copy_parts (three_numbers (exact (2 ^ 32)) (x, y, z))
    (three_numbers (exact (2 ^ 32)) (u, v, w))
    (three_numbers (exact (2 ^ 32)) (p, q, r)) act word.1 in
    let at = numbers_take x y z parts.0 parts.3 in
    let size = numbers_take u v w parts.1 parts.4 in
    let goal = numbers_take p q r parts.2 parts.5 in
    let end : codes "to" ∷ cell_list parts.2 [] ≡ between ∷ p ∷ q ∷ r ∷ [] =
    ap (λ (first : List ℕ). first ∷ cell_list parts.2 []) (sym (same_bytes between (codes "to") word.0)) ∙ ap (λ (more : List (List ℕ)). between ∷ more) (list_of p q r parts.2 [] [] goal refl) in
    subst (λ (a : Act). IsActOf a (codes "copy") (x ∷ y ∷ z ∷ u ∷ v ∷ w ∷ between ∷ p ∷ q ∷ r ∷ [])) parts.6 (
      ap (λ (more : List (List ℕ)). codes "copy" ∷ more) (list_of x y z parts.0 _ _ at (list_of u v w parts.1 _ _ size end)),
      ((small_of x y z parts.0 at, small_of u v w parts.1 size), small_of p q r parts.2 goal),
    )
copy_takes _ act same = absurd cc

stamp_parts : (model : Result ℕ WordFault) (at : Result Cell WordFault) (act : Act)
    → (model >>= λ number. (at >>= λ corner. Ok (Stamp number corner))) ≡ Ok act
    → (number : ℕ) × (corner : Cell) × (model ≡ Ok number) × (at ≡ Ok corner)
    × (Stamp number corner ≡ act)
stamp_parts (Ok number) (Ok corner) act same = (number, corner, refl, refl, cc)
stamp_parts (Ok number) (Err fault) act same = absurd cc
stamp_parts (Err fault) at act same = absurd cc

stamp_takes : (ws : List (List ℕ)) (act : Act) → stamp_spelled (exact (2 ^ 32)) ws ≡ Ok act
    → IsActOf act (codes "stamp") ws
unfolding stamp_spelled three_words
stamp_takes (m ∷ x ∷ y ∷ z ∷ []) act same =
    let parts =
    stamp_parts (number_by (exact (2 ^ 32)) m)
    (three_numbers (exact (2 ^ 32)) (x, y, z)) act same in
    let model = number_takes m parts.0 parts.2 in
    let at = numbers_take x y z parts.1 parts.3 in
    let rest : cell_list parts.1 [] ≡ x ∷ y ∷ z ∷ [] = list_of x y z parts.1 [] [] at refl in
    let first = model.0 in
    subst (λ (a : Act). IsActOf a (codes "stamp") (m ∷ x ∷ y ∷ z ∷ [])) parts.4 (
      ap (λ (word : List ℕ). codes "stamp" ∷ word ∷ cell_list parts.1 []) first ∙ ap (λ (more : List (List ℕ)). codes "stamp" ∷ m ∷ more) rest,
      (model.1, small_of x y z parts.1 at),
    )
stamp_takes _ act same = absurd cc

-- a row of this name, and the rows after it
row : (name fixed : List ℕ) (here others : Result Act WordFault) (act : Act) (P : Type 0)
    → (name ≡ fixed → here ≡ Ok act → P) → (others ≡ Ok act → P)
    → cond (bytes_eq name fixed) here others ≡ Ok act → P
row name fixed here others act P one later same =
    cond_both (bytes_eq name fixed) here others
    (λ (read : Result Act WordFault). read ≡ Ok act → P) (λ is. one (same_bytes name fixed is))
    (λ _. later) same

filled : (make : Boxed → Act) (read : Result Boxed WordFault) (act : Act)
    → (read >>= λ b. Ok (make b)) ≡ Ok act → (b : Boxed) × (read ≡ Ok b) × (make b ≡ act)
filled make (Ok b) act same = (b, refl, cc)
filled make (Err fault) act same = absurd cc

rounded : (make : balls.Ball → Act) (read : Result balls.Ball WordFault) (act : Act)
    → (read >>= λ b. Ok (make b)) ≡ Ok act → (b : balls.Ball) × (read ≡ Ok b) × (make b ≡ act)
rounded make (Ok b) act same = (b, refl, cc)
rounded make (Err fault) act same = absurd cc

of_box : (make : Boxed → Act) (fixed name : List ℕ) (ws : List (List ℕ)) (act : Act)
    → ((b : Boxed) → IsSmallBox b → (act_list (make b) ≡ fixed ∷ box_list b []) × IsSmall (make b))
    → name ≡ fixed
    → (box_spelled (exact (2 ^ 32)) ws >>= λ b. Ok (make b)) ≡ Ok act → IsActOf act name ws
of_box make fixed name ws act made named same =
    let read = filled make (box_spelled (exact (2 ^ 32)) ws) act same in
    let takes = box_takes ws read.0 read.1 in
    let is = made read.0 takes.1 in
    subst (λ (a : Act). IsActOf a name ws) read.2 (
      is.0 ∙ ap (λ (more : List (List ℕ)). fixed ∷ more) takes.0
          ∙ ap (λ (first : List ℕ). first ∷ ws) (sym named),
      is.1,
    )

of_ball : (make : balls.Ball → Act) (fixed name : List ℕ) (ws : List (List ℕ)) (act : Act)
    → ((b : balls.Ball) → IsSmallCell b.centre → b.radius < 2 ^ 32
    → (act_list (make b) ≡ fixed ∷ ball_list b) × IsSmall (make b)) → name ≡ fixed
    → (ball_spelled (exact (2 ^ 32)) ws >>= λ b. Ok (make b)) ≡ Ok act → IsActOf act name ws
of_ball make fixed name ws act made named same =
    let read = rounded make (ball_spelled (exact (2 ^ 32)) ws) act same in
    let takes = ball_takes ws read.0 read.1 in
    let is = made read.0 takes.1 takes.2 in
    subst (λ (a : Act). IsActOf a name ws) read.2 (
      is.0 ∙ ap (λ (more : List (List ℕ)). fixed ∷ more) takes.0
          ∙ ap (λ (first : List ℕ). first ∷ ws) (sym named),
      is.1,
    )

named_so : (fixed name : List ℕ) (ws : List (List ℕ)) (act : Act) → name ≡ fixed
    → IsActOf act fixed ws → IsActOf act name ws
named_so fixed name ws act named is = (is.0 ∙ ap (λ (first : List ℕ). first ∷ ws) (sym named), is.1)

alone_takes : (act : Act) (fixed name : List ℕ) (ws : List (List ℕ)) (read : Act)
    → act_list act ≡ fixed ∷ [] → IsSmall act → name ≡ fixed
    → (nothing_more ws >>= λ end. Ok act) ≡ Ok read → IsActOf read name ws
alone_takes act fixed name [] read listed small named same =
    let e : act ≡ read = cc in
    subst (λ (a : Act). IsActOf a name []) e
    (listed ∙ ap (λ (first : List ℕ). first ∷ []) (sym named), small)
alone_takes act fixed name (w ∷ ws) read listed small named same = absurd cc

plain_takes : (name : List ℕ) (ws : List (List ℕ)) (act : Act)
    → act_spelled (exact (2 ^ 32)) name ws ≡ Ok act → IsActOf act name ws
unfolding act_spelled
plain_takes name ws act =
    let P : Type 0 = IsActOf act name ws in
    row name (codes "fill") _ _ act P (of_box Fill (codes "fill") name ws act (λ b small. (refl, small)))
    (row name (codes "erase") _ _ act P (of_box Erase (codes "erase") name ws act (λ b small. (refl, small)))
    (row name (codes "ball") _ _ act P (of_ball Ball (codes "ball") name ws act (λ b centre radius. (refl, (centre, radius))))
    (row name (codes "carve") _ _ act P (of_ball Carve (codes "carve") name ws act (λ b centre radius. (refl, (centre, radius))))
    (row name (codes "copy") _ _ act P (λ named same. named_so (codes "copy") name ws act named (copy_takes ws act same))
    (row name (codes "stamp") _ _ act P (λ named same. named_so (codes "stamp") name ws act named (stamp_takes ws act same))
    (row name (codes "undo") _ _ act P (alone_takes Undo (codes "undo") name ws act refl tt)
    (row name (codes "redo") _ _ act P (alone_takes Redo (codes "redo") name ws act refl tt)
    (λ same. absurd cc))))))))

-- ---- tinted acts

tint_fill_parts : (at size : Result Cell WordFault) (tint : Result ℕ WordFault) (act : Act)
    →
    (at >>= λ corner.
    (size >>= λ extent.
    (tint >>= λ colour. Ok (Tint (tints.Fill (box_at corner extent) colour))))) ≡ Ok act
    → (corner : Cell) × (extent : Cell) × (colour : ℕ) × (at ≡ Ok corner) × (size ≡ Ok extent)
    × (tint ≡ Ok colour) × (Tint (tints.Fill (box_at corner extent) colour) ≡ act)
tint_fill_parts (Ok corner) (Ok extent) (Ok colour) act same =
    (corner, extent, colour, refl, refl, refl, cc)
tint_fill_parts (Ok corner) (Ok extent) (Err fault) act same = absurd cc
tint_fill_parts (Ok corner) (Err fault) tint act same = absurd cc
tint_fill_parts (Err fault) size tint act same = absurd cc

tint_fill_takes : (ws : List (List ℕ)) (act : Act) → tint_fill_spelled (exact (2 ^ 32)) ws ≡ Ok act
    → IsActOf act (codes "fill") ws
unfolding tint_fill_spelled three_words
tint_fill_takes (x ∷ y ∷ z ∷ u ∷ v ∷ w ∷ k ∷ []) act same =
    let parts =
    tint_fill_parts (three_numbers (exact (2 ^ 32)) (x, y, z))
    (three_numbers (exact (2 ^ 32)) (u, v, w)) (number_by (exact (2 ^ 32)) k) act same in
    let at = numbers_take x y z parts.0 parts.3 in
    let size = numbers_take u v w parts.1 parts.4 in
    let tint = number_takes k parts.2 parts.5 in
    let end : decimal parts.2 ∷ [] ≡ k ∷ [] = ap (λ (word : List ℕ). word ∷ []) tint.0 in
    subst (λ (a : Act). IsActOf a (codes "fill") (x ∷ y ∷ z ∷ u ∷ v ∷ w ∷ k ∷ [])) parts.6 (
      ap (λ (more : List (List ℕ)). codes "fill" ∷ more) (list_of x y z parts.0 _ _ at (list_of u v w parts.1 _ _ size end)),
      ((small_of x y z parts.0 at, small_of u v w parts.1 size), tint.1),
    )
tint_fill_takes _ act same = absurd cc

tint_ball_parts : (at : Result Cell WordFault) (size tint : Result ℕ WordFault) (act : Act)
    →
    (at >>= λ centre.
    (size >>= λ radius.
    (tint >>= λ colour. Ok
    (Tint (tints.Ball (record { centre = centre; radius = radius }) colour)))))
    ≡ Ok act
    → (centre : Cell) × (radius : ℕ) × (colour : ℕ) × (at ≡ Ok centre) × (size ≡ Ok radius)
    × (tint ≡ Ok colour)
    × (Tint (tints.Ball (record { centre = centre; radius = radius }) colour) ≡ act)
tint_ball_parts (Ok centre) (Ok radius) (Ok colour) act same =
    (centre, radius, colour, refl, refl, refl, cc)
tint_ball_parts (Ok centre) (Ok radius) (Err fault) act same = absurd cc
tint_ball_parts (Ok centre) (Err fault) tint act same = absurd cc
tint_ball_parts (Err fault) size tint act same = absurd cc

tint_ball_takes : (ws : List (List ℕ)) (act : Act) → tint_ball_spelled (exact (2 ^ 32)) ws ≡ Ok act
    → IsActOf act (codes "ball") ws
unfolding tint_ball_spelled three_words
tint_ball_takes (x ∷ y ∷ z ∷ r ∷ k ∷ []) act same =
    let parts =
    tint_ball_parts (three_numbers (exact (2 ^ 32)) (x, y, z)) (number_by (exact (2 ^ 32)) r)
    (number_by (exact (2 ^ 32)) k) act same in
    let at = numbers_take x y z parts.0 parts.3 in
    let radius = number_takes r parts.1 parts.4 in
    let tint = number_takes k parts.2 parts.5 in
    let end : decimal parts.1 ∷ decimal parts.2 ∷ [] ≡ r ∷ k ∷ [] =
    ap (λ (word : List ℕ). word ∷ decimal parts.2 ∷ []) radius.0
    ∙ ap (λ (word : List ℕ). r ∷ word ∷ []) tint.0 in
    subst (λ (a : Act). IsActOf a (codes "ball") (x ∷ y ∷ z ∷ r ∷ k ∷ [])) parts.6 (
      ap (λ (more : List (List ℕ)). codes "ball" ∷ more) (list_of x y z parts.0 _ _ at end),
      (small_of x y z parts.0 at, radius.1, tint.1),
    )
tint_ball_takes _ act same = absurd cc

-- a row of this name, and the rows after it, which have another
row_or : (name fixed : List ℕ) (here others : Result Act WordFault) (act : Act) (P : Type 0)
    → (name ≡ fixed → here ≡ Ok act → P) → ((name ≡ fixed → ⊥) → others ≡ Ok act → P)
    → cond (bytes_eq name fixed) here others ≡ Ok act → P
row_or name fixed here others act P one later same =
    cond_both (bytes_eq name fixed) here others
    (λ (read : Result Act WordFault). read ≡ Ok act → P) (λ is. one (same_bytes name fixed is))
    (λ isnt. later
    (λ e. (let is : bytes_eq name fixed
    ≡ true = (bytes_eq-Decides name fixed).1 e in let wrong : true ≡ false = sym is
    ∙ isnt in absurd (let no : ⊥ = cc in no)))) same

first_word : (a b : List ℕ) (x y : List (List ℕ)) → a ∷ x ≡ b ∷ y → b ≡ a
first_word a b x y same = cc

-- the words of a plain act that is no fill and no ball are those of the tinted one
tinted_so : (act : Act) (name : List ℕ) (ws : List (List ℕ)) → (name ≡ codes "fill" → ⊥)
    → (name ≡ codes "ball" → ⊥) → IsActOf act name ws → IsActOf (tinted_act 1 act) name ws
tinted_so (Fill b) name ws fill ball is = absurd (fill (first_word _ _ _ _ is.0))
tinted_so (Erase b) name ws fill ball is = is
tinted_so (Ball b) name ws fill ball is = absurd (ball (first_word _ _ _ _ is.0))
tinted_so (Carve b) name ws fill ball is = is
tinted_so (Copy b to) name ws fill ball is = is
tinted_so (Stamp m at) name ws fill ball is = is
tinted_so (Tint t) name ws fill ball is = is
tinted_so Undo name ws fill ball is = is
tinted_so Redo name ws fill ball is = is

tinted_parts : (read : Result Act WordFault) (act : Act)
    → (read >>= λ a. Ok (tinted_act 1 a)) ≡ Ok act
    → (a : Act) × (read ≡ Ok a) × (tinted_act 1 a ≡ act)
tinted_parts (Ok a) act same = (a, refl, cc)
tinted_parts (Err fault) act same = absurd cc

others_take : (name : List ℕ) (ws : List (List ℕ)) (act : Act) → (name ≡ codes "fill" → ⊥)
    → (name ≡ codes "ball" → ⊥)
    → (act_spelled (exact (2 ^ 32)) name ws >>= λ a. Ok (tinted_act 1 a)) ≡ Ok act
    → IsActOf act name ws
others_take name ws act fill ball same =
    let parts = tinted_parts (act_spelled (exact (2 ^ 32)) name ws) act same in
    subst (λ (a : Act). IsActOf a name ws) parts.2
    (tinted_so parts.0 name ws fill ball (plain_takes name ws parts.0 parts.1))

tint_takes : (name : List ℕ) (ws : List (List ℕ)) (act : Act)
    → tint_spelled (exact (2 ^ 32)) name ws ≡ Ok act → IsActOf act name ws
unfolding tint_spelled
tint_takes name ws act =
    let P : Type 0 = IsActOf act name ws in
    row_or name (codes "fill") _ _ act P (λ named same. named_so (codes "fill") name ws act named (tint_fill_takes ws act same))
    (λ fill. row_or name (codes "ball") _ _ act P (λ named same. named_so (codes "ball") name ws act named (tint_ball_takes ws act same))
    (λ ball same. others_take name ws act fill ball same))

pub act_takes : (coloured : Bool) (name : List ℕ) (ws : List (List ℕ)) (act : Act)
    → spelled_by coloured (exact (2 ^ 32)) name ws ≡ Ok act → IsActOf act name ws
act_takes false name ws act same = plain_takes name ws act same
act_takes true name ws act same = tint_takes name ws act same
