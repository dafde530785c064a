-- A record is read from its words.
use Rattle.std.proofs.Common.{◌≡◌, ℕ, ◌+◌, ◌*◌, ◌^◌, ◌/◌, ◌%◌, ◌<◌, ◌≤◌, Option, Some, None, List, ap, ◌∙◌, arith}
use Rattle.std.specs.Prelude.{slice_index}
use Rattle.std.specs.List.{slice_get}
use Rattle.std.proofs.lemmas.Nat.{div-mul-add, mod-mul-add}
use Rattle.vw_cell.specs.declared.cells.Cell.{Cell}
use Rattle.vw_cell.specs.declared.boxes.Boxed.{Boxed}
use Rattle.vw_cell.specs.declared.balls.Ball as balls
use Rattle.vw_cell.specs.Places.{FitsAt, IsInWorld, IsCell}
use Rattle.vox_read.specs.Contents.{Content}
use Rattle.retain.specs.Act.{Act}
use Rattle.retain.specs.TheVariants.{Fill, Erase, Ball, Carve, Copy, Stamp, Tint, Undo, Redo}
use Rattle.retain.specs.TintAct.{TintAct}
use Rattle.retain.specs.TintVariants as tints
use Rattle.retain.specs.Record.{Record}
use Rattle.retain.specs.Logs.{FitsWorld, FitsModel, TintFits}
use Rattle.retain.specs.Packing.{cell_word, packed, tint_packed, log_words, last_edit}
use Rattle.retain.specs.Positions.{position_after}
use Rattle.table_rule.specs.LogWords.{HasModel, HasNumbers, FitsFields, cell_of_word, box_of_words, ball_of_words, act_of_words, record_of_words}

low_part : (word a b n : ℕ) → word ≡ b * n + a → a < n → word % n ≡ a
low_part word a b n e lt = ap (λ (w : ℕ). w % n) e ∙ mod-mul-add b n a lt

high_part : (word a b n : ℕ) → word ≡ b * n + a → a < n → word / n ≡ b
high_part word a b n e lt = ap (λ (w : ℕ). w / n) e ∙ div-mul-add b n a lt

pub cell_back : (c : Cell) → IsCell c → cell_of_word (cell_word c) ≡ c
cell_back c is =
    let x : cell_word c % 2 ^ 16 ≡ c.x =
    low_part (cell_word c) c.x (c.y + 2 ^ 16 * c.z) (2 ^ 16) (omega arith) is.0 in
    let up : cell_word c / 2 ^ 16 ≡ c.y + 2 ^ 16 * c.z =
    high_part (cell_word c) c.x (c.y + 2 ^ 16 * c.z) (2 ^ 16) (omega arith) is.0 in
    let y : cell_word c / 2 ^ 16 % 2 ^ 16 ≡ c.y =
    ap (λ (w : ℕ). w % 2 ^ 16) up
    ∙ low_part (c.y + 2 ^ 16 * c.z) c.y c.z (2 ^ 16) (omega arith) is.1 in
    let a = is.0 in let b = is.1 in
    let z : cell_word c / 2 ^ 32 % 2 ^ 16 ≡ c.z =
    ap (λ (w : ℕ). w % 2 ^ 16)
    (high_part (cell_word c) (c.x + 2 ^ 16 * c.y) c.z (2 ^ 32) (omega arith) (omega arith))
    ∙ low_part c.z c.z 0 (2 ^ 16) (omega arith) is.2 in
    λ i. record { x = x i; y = y i; z = z i }

in_world_cell : (side : ℕ) (c : Cell) → side ≤ 2 ^ 16 → IsInWorld side c → IsCell c
in_world_cell side c le is =
    let x = is.x in let y = is.y in let z = is.z in (omega arith, omega arith, omega arith)

at_cell : (side : ℕ) (at size : Cell) → side < 2 ^ 16 → FitsAt at size side
    → IsCell at × IsCell size
at_cell side at size le is =
    let x = is.x in let y = is.y in let z = is.z in
    let x0 = x.0 in let x1 = x.1 in let y0 = y.0 in let y1 = y.1 in let z0 = z.0 in
    let z1 = z.1 in
    ((omega arith, omega arith, omega arith), (omega arith, omega arith, omega arith))

box_back : (side : ℕ) (b : Boxed) → side < 2 ^ 16 → FitsAt b.at b.size side
    → box_of_words (cell_word b.at) (cell_word b.size) ≡ b
box_back side b le is =
    let both = at_cell side b.at b.size le is in
    let at = cell_back b.at both.0 in let size = cell_back b.size both.1 in
    λ i. record { at = at i; size = size i }

ball_back : (side : ℕ) (b : balls.Ball) → side < 2 ^ 16 → IsInWorld side b.centre
    → b.radius ≤ 4095 → ball_of_words (cell_word b.centre) b.radius ≡ b
ball_back side b le is few =
    let centre = cell_back b.centre (in_world_cell side b.centre (omega arith) is) in
    let radius : b.radius % 2 ^ 16 ≡ b.radius =
    low_part b.radius b.radius 0 (2 ^ 16) (omega arith) (omega arith) in
    λ i. record { centre = centre i; radius = radius i }

-- the place of a model that fits is a cell
model_cell : (side : ℕ) (model : Option Content) (at : Cell) → side < 2 ^ 16
    → FitsModel side model at → IsCell at
model_cell side None at le is = absurd is
model_cell side (Some model) at le is = (at_cell side at model.size le is).0

-- the first word of an act that isn't looked at
kind_back : (kind now last : ℕ) → kind < 2 ^ 8 → (kind + 2 ^ 8 * now + 2 ^ 32 * last) % 2 ^ 8 ≡ kind
kind_back kind now last lt =
    low_part (kind + 2 ^ 8 * now + 2 ^ 32 * last) kind (now + 2 ^ 24 * last) (2 ^ 8)
    (omega arith) lt

-- the tint of a fill and of a ball
tint_back : (c : ℕ) → c ≤ 255 → c % 2 ^ 8 ≡ c
tint_back c few = low_part c c 0 (2 ^ 8) (omega arith) (omega arith)

tinted_back : (side : ℕ) (models : List Content) (t : TintAct) (now last : ℕ) → side < 2 ^ 16
    → TintFits side models t → HasModel t
    → act_of_words ((slice_index (tint_packed t) 0 + 2 ^ 8 * now + 2 ^ 32 * last) % 2 ^ 8)
    (slice_index (tint_packed t) 1) (slice_index (tint_packed t) 2) (slice_index (tint_packed t) 3)
    ≡ Tint t
tinted_back side models (tints.Fill b c) now last le is small =
    ap (λ (k : ℕ). act_of_words k (cell_word b.at) (cell_word b.size) c)
    (kind_back 8 now last (omega arith))
    ∙ (let box = box_back side b le is.0 in let tint = tint_back c is.1.1 in
    λ i. Tint (tints.Fill (box i) (tint i)))
tinted_back side models (tints.Erase b) now last le is small =
    ap (λ (k : ℕ). act_of_words k (cell_word b.at) (cell_word b.size) 0)
    (kind_back 9 now last (omega arith))
    ∙ (let box = box_back side b le is in λ i. Tint (tints.Erase (box i)))
tinted_back side models (tints.Ball b c) now last le is small =
    ap (λ (k : ℕ). act_of_words k (cell_word b.centre) b.radius c)
    (kind_back 10 now last (omega arith))
    ∙ (let ball = ball_back side b le is.0 is.1 in let tint = tint_back c is.2.1 in
    λ i. Tint (tints.Ball (ball i) (tint i)))
tinted_back side models (tints.Carve b) now last le is small =
    ap (λ (k : ℕ). act_of_words k (cell_word b.centre) b.radius 0)
    (kind_back 11 now last (omega arith))
    ∙ (let ball = ball_back side b le is.0 is.1 in λ i. Tint (tints.Carve (ball i)))
tinted_back side models (tints.Copy b to) now last le is small =
    ap (λ (k : ℕ). act_of_words k (cell_word b.at) (cell_word b.size) (cell_word to))
    (kind_back 12 now last (omega arith))
    ∙ (let box = box_back side b le is.0 in
    let cell = cell_back to (at_cell side to b.size le is.1).0 in
    λ i. Tint (tints.Copy (box i) (cell i)))
tinted_back side models (tints.Stamp m at) now last le is small =
    ap (λ (k : ℕ). act_of_words k (cell_word at) m 0) (kind_back 13 now last (omega arith))
    ∙ (let model : m % 2 ^ 16 ≡ m = low_part m m 0 (2 ^ 16) (omega arith) small in
    let cell = cell_back at (model_cell side (slice_get models m) at le is) in
    λ i. Tint (tints.Stamp (model i) (cell i)))

pub act_back : (side : ℕ) (models : List Content) (act : Act) (now last : ℕ) → side < 2 ^ 16
    → FitsWorld side models act → HasNumbers act
    → act_of_words ((slice_index (packed act) 0 + 2 ^ 8 * now + 2 ^ 32 * last) % 2 ^ 8)
    (slice_index (packed act) 1) (slice_index (packed act) 2) (slice_index (packed act) 3) ≡ act
act_back side models (Fill b) now last le is small =
    ap (λ (k : ℕ). act_of_words k (cell_word b.at) (cell_word b.size) 0)
    (kind_back 0 now last (omega arith))
    ∙ ap Fill (box_back side b le is)
act_back side models (Erase b) now last le is small =
    ap (λ (k : ℕ). act_of_words k (cell_word b.at) (cell_word b.size) 0)
    (kind_back 1 now last (omega arith))
    ∙ ap Erase (box_back side b le is)
act_back side models (Ball b) now last le is small =
    ap (λ (k : ℕ). act_of_words k (cell_word b.centre) b.radius 0)
    (kind_back 2 now last (omega arith))
    ∙ ap Ball (ball_back side b le is.0 is.1)
act_back side models (Carve b) now last le is small =
    ap (λ (k : ℕ). act_of_words k (cell_word b.centre) b.radius 0)
    (kind_back 3 now last (omega arith))
    ∙ ap Carve (ball_back side b le is.0 is.1)
act_back side models (Copy b to) now last le is small =
    ap (λ (k : ℕ). act_of_words k (cell_word b.at) (cell_word b.size) (cell_word to))
    (kind_back 4 now last (omega arith))
    ∙ (let box = box_back side b le is.0 in
    let cell = cell_back to (at_cell side to b.size le is.1).0 in λ i. Copy (box i) (cell i))
act_back side models (Stamp m at) now last le is small =
    ap (λ (k : ℕ). act_of_words k (cell_word at) m 0) (kind_back 5 now last (omega arith))
    ∙ (let model : m % 2 ^ 16 ≡ m = low_part m m 0 (2 ^ 16) (omega arith) small in
    let cell = cell_back at (model_cell side (slice_get models m) at le is) in
    λ i. Stamp (model i) (cell i))
act_back side models (Tint t) now last le is small =
    tinted_back (side / 4) models t now last (omega arith) is small
act_back side models Undo now last le is small =
    ap (λ (k : ℕ). act_of_words k 0 0 0) (kind_back 6 now last (omega arith))
act_back side models Redo now last le is small =
    ap (λ (k : ℕ). act_of_words k 0 0 0) (kind_back 7 now last (omega arith))

-- a record that fits is read from the words that a log keeps of it
pub record_back : (side : ℕ) (models : List Content) (records : List Record) (r : Record)
    → side < 2 ^ 16 → FitsWorld side models r.act → r.session < 2 ^ 16 → FitsFields r
    → record_of_words (slice_index (log_words records r)) ≡ r
record_back side models records r le fits small is =
    let act =
    act_back side models r.act (position_after records).now
    (last_edit records) le fits is.numbers in
    let session : (r.session + 2 ^ 16 * r.line) % 2 ^ 16 ≡ r.session =
    low_part (r.session + 2 ^ 16 * r.line) r.session r.line (2 ^ 16) (omega arith) small in
    let line : (r.session + 2 ^ 16 * r.line) / 2 ^ 16 % 2 ^ 32 ≡ r.line =
    ap (λ (w : ℕ). w % 2 ^ 32)
    (high_part (r.session + 2 ^ 16 * r.line) r.session r.line (2 ^ 16) (omega arith) small)
    ∙ low_part r.line r.line 0 (2 ^ 32) (omega arith) is.line in
    λ i. record { session = session i; line = line i; act = act i }
