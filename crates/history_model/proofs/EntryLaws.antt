-- The words of a record's line are read as it, and as nothing else.
use Rattle.std.specs.Prelude.{◌≡◌, ℕ, ◌/◌, ◌^◌, ◌<◌, ◌≤◌, Bool, true, false, List, ◌∷◌, Result, Ok, Err, refl}
use Rattle.std.proofs.Common.{ap, sym, ◌∙◌, subst, arith}
use Rattle.vw_cell.specs.declared.cells.Cell.{Cell}
use Rattle.vw_cell.specs.Counts.{cell_at}
use Rattle.plain_text.specs.declared.faults.WordFault.{WordFault}
use Rattle.plain_text.specs.Steps.{◌>>=◌, three_words}
use Rattle.plain_text.specs.Numbers.{exact}
use Rattle.history_model.specs.declared.acts.Act.{Act}
use Rattle.history_model.specs.declared.acts.Act.TheVariants.{Fill, Erase, Ball, Carve, Copy, Stamp, Tint, Undo, Redo}
use Rattle.history_model.specs.declared.acts.TintAct.{TintAct}
use Rattle.history_model.specs.declared.acts.TintAct.TheVariants as tints
use Rattle.history_model.specs.declared.histories.Record.{Record}
use Rattle.history_model.specs.declared.spelling.Spelled.{Spelled}
use Rattle.history_model.specs.declared.spelling.Spelled.TheVariants as spelled
use Rattle.history_model.specs.declared.spelling.SpelledTint.{SpelledTint}
use Rattle.history_model.specs.Reach.{ActLiesIn, TintLiesIn}
use Rattle.history_model.specs.Logs.{suits_tints}
use Rattle.history_model.specs.Spelled.{act_of, spelled_act}
use Rattle.history_model.specs.Spelling.{three_numbers, spelled_by, tinted_act, cell_list, act_list, IsSmallCell, IsSmallTint, IsSmall}
use Rattle.history_model.proofs.SpellingLaws.{act_again, act_takes, numbers_again, numbers_take, IsWords, IsActOf}
use Rattle.history_model.specs.Entries.{IsRecord, record_list, entry_spelled}

tint_small : (side : ℕ) (t : TintAct) → side ≤ 1024 → TintLiesIn side t → IsSmallTint t
tint_small side (tints.Fill b c) few lies = (
  ((omega arith, omega arith, omega arith), (omega arith, omega arith, omega arith)),
  omega
      (arith, lies.1),
)
tint_small side (tints.Erase b) few lies =
    ((omega arith, omega arith, omega arith), (omega arith, omega arith, omega arith))
tint_small side (tints.Ball b c) few lies =
    ((omega arith, omega arith, omega arith), omega arith, omega (arith, lies.2))
tint_small side (tints.Carve b) few lies = ((omega arith, omega arith, omega arith), omega arith)
tint_small side (tints.Copy b to) few lies = (
  ((omega arith, omega arith, omega arith), (omega arith, omega arith, omega arith)),
  (omega arith, omega arith, omega arith),
)
tint_small side (tints.Stamp m at) few lies = (omega arith, (omega arith, omega arith, omega arith))

pub lies_small : (side : ℕ) (act : Act) → side ≤ 4096 → ActLiesIn side act → IsSmall act
lies_small side (Fill b) few lies =
    ((omega arith, omega arith, omega arith), (omega arith, omega arith, omega arith))
lies_small side (Erase b) few lies =
    ((omega arith, omega arith, omega arith), (omega arith, omega arith, omega arith))
lies_small side (Ball b) few lies = ((omega arith, omega arith, omega arith), omega arith)
lies_small side (Carve b) few lies = ((omega arith, omega arith, omega arith), omega arith)
lies_small side (Copy b to) few lies = (
  ((omega arith, omega arith, omega arith), (omega arith, omega arith, omega arith)),
  (omega arith, omega arith, omega arith),
)
lies_small side (Stamp m at) few lies = (omega arith, (omega arith, omega arith, omega arith))
lies_small side (Tint t) few lies = tint_small (side / 4) t (omega arith) lies
lies_small side Undo few lies = tt
lies_small side Redo few lies = tt

entry_again : (coloured : Bool) (head : Cell) (act : Act) → suits_tints coloured act ≡ true
    → IsSmallCell head → IsSmall act
    → entry_spelled coloured (cell_list head (act_list act)) ≡ Ok (head, act)
unfolding entry_spelled three_words
entry_again coloured head (Fill b) suit small_head small =
    let a = act_again coloured (Fill b) suit small in let n = numbers_again head small_head in rw
    (a, n) refl
entry_again coloured head (Erase b) suit small_head small =
    let a = act_again coloured (Erase b) suit small in let n = numbers_again head small_head in rw
    (a, n) refl
entry_again coloured head (Ball b) suit small_head small =
    let a = act_again coloured (Ball b) suit small in let n = numbers_again head small_head in rw
    (a, n) refl
entry_again coloured head (Carve b) suit small_head small =
    let a = act_again coloured (Carve b) suit small in let n = numbers_again head small_head in rw
    (a, n) refl
entry_again coloured head (Copy b to) suit small_head small =
    let a = act_again coloured (Copy b to) suit small in let n = numbers_again head small_head in rw
    (a, n) refl
entry_again coloured head (Stamp m at) suit small_head small =
    let a = act_again coloured
    (Stamp m at) suit small in let n = numbers_again head small_head in rw (a, n) refl
entry_again coloured head (Tint (tints.Fill b c)) suit small_head small =
    let a = act_again coloured
    (Tint (tints.Fill b c)) suit small in let n = numbers_again head small_head in rw
    (a, n) refl
entry_again coloured head (Tint (tints.Erase b)) suit small_head small =
    let a = act_again coloured
    (Tint (tints.Erase b)) suit small in let n = numbers_again head small_head in rw (a, n) refl
entry_again coloured head (Tint (tints.Ball b c)) suit small_head small =
    let a = act_again coloured
    (Tint (tints.Ball b c)) suit small in let n = numbers_again head small_head in rw
    (a, n) refl
entry_again coloured head (Tint (tints.Carve b)) suit small_head small =
    let a = act_again coloured
    (Tint (tints.Carve b)) suit small in let n = numbers_again head small_head in rw (a, n) refl
entry_again coloured head (Tint (tints.Copy b to)) suit small_head small =
    let a = act_again coloured
    (Tint (tints.Copy b to)) suit small in let n = numbers_again head small_head in rw
    (a, n) refl
entry_again coloured head (Tint (tints.Stamp m at)) suit small_head small =
    let a = act_again coloured
    (Tint (tints.Stamp m at)) suit small in let n = numbers_again head small_head in rw
    (a, n) refl
entry_again coloured head Undo suit small_head small =
    let a = act_again coloured Undo suit small in let n = numbers_again head small_head in rw
    (a, n) refl
entry_again coloured head Redo suit small_head small =
    let a = act_again coloured Redo suit small in let n = numbers_again head small_head in rw
    (a, n) refl

-- the numbers and the act of a line
abbrev entry : Cell → Act → Cell × Act
entry head act = (head, act)

entry_parts : (read : Result Act WordFault) (numbers : Result Cell WordFault) (head : Cell)
    (act : Act) → (read >>= λ a. (numbers >>= λ h. Ok (entry h a))) ≡ Ok (entry head act)
    → (read ≡ Ok act) × (numbers ≡ Ok head)
entry_parts (Ok a) (Ok h) head act same =
    let pair : entry h a ≡ entry head act = cc in
    (ap (λ (e : Cell × Act). Ok e.1) pair, ap (λ (e : Cell × Act). Ok e.0) pair)
entry_parts (Ok a) (Err fault) head act same = absurd cc
entry_parts (Err fault) numbers head act same = absurd cc

entry_takes : (coloured : Bool) (ws : List (List ℕ)) (head : Cell) (act : Act)
    → entry_spelled coloured ws ≡ Ok (head, act) → cell_list head (act_list act) ≡ ws
unfolding entry_spelled three_words
entry_takes coloured (x ∷ y ∷ z ∷ name ∷ more) head act same =
    let parts =
    entry_parts (spelled_by coloured (exact (2 ^ 32)) name more)
    (three_numbers (exact (2 ^ 32)) (x, y, z)) head act same in
    let takes : IsActOf act name more = act_takes coloured name more act parts.0 in
    let numbers : IsWords head x y z = numbers_take x y z head parts.1 in
    let listed = takes.0 in
    let ex = numbers.0.0 in
    let ey = numbers.1.0 in
    let ez = numbers.2.0 in
    cc
entry_takes coloured _ head act same = absurd cc

record_again : (coloured : Bool) (side n : ℕ) (r : Record) → 2 ^ side ≤ 4096 → n < 2 ^ 32
    → IsRecord coloured side r
    → entry_spelled coloured (record_list n r) ≡ Ok (cell_at n r.session r.line, r.act)
record_again coloured side n r few small is =
    entry_again coloured (cell_at n r.session r.line) r.act is.3 (small, omega (arith, is.0), is.1)
    (lies_small (2 ^ side) r.act few is.2)

-- no record has words that aren't read
pub no_entry : (coloured : Bool) (side n : ℕ) (ws : List (List ℕ)) (fault : WordFault)
    → 2 ^ side ≤ 4096 → n < 2 ^ 32 → entry_spelled coloured ws ≡ Err fault → (r : Record)
    → IsRecord coloured side r → record_list n r ≡ ws → ⊥
no_entry coloured side n ws fault few small read r is same =
    (let again = record_again coloured side n r few small is in let moved = ap
    (entry_spelled coloured) same in let wrong : Ok (entry (cell_at n r.session r.line) r.act)
    ≡ Err fault = sym again ∙ moved ∙ read in cc)

-- and none those of another entry
pub other_entry : (coloured : Bool) (side n : ℕ) (ws : List (List ℕ)) (head : Cell) (act : Act)
    → 2 ^ side ≤ 4096 → n < 2 ^ 32 → entry_spelled coloured ws ≡ Ok (head, act)
    → (head.x ≡ n → head.y < 64 → ActLiesIn (2 ^ side) act → ⊥)
    → (r : Record) → IsRecord coloured side r → record_list n r ≡ ws → ⊥
other_entry coloured side n ws head act few small read other r is same =
    let again = record_again coloured side n r few small is in
    let both : Ok (entry (cell_at n r.session r.line) r.act) ≡ Ok (entry head act) =
    sym again ∙ ap (entry_spelled coloured) same ∙ read in
    let pair : entry (cell_at n r.session r.line) r.act ≡ entry head act = cc in
    let at : cell_at n r.session r.line ≡ head = ap (λ (e : Cell × Act). e.0) pair in
    let acts : r.act ≡ act = ap (λ (e : Cell × Act). e.1) pair in
    other (sym (ap (λ (c : Cell). c.x) at))
    (subst (λ (k : ℕ). k < 64) (ap (λ (c : Cell). c.y) at) is.0)
    (subst (λ (a : Act). ActLiesIn (2 ^ side) a) acts is.2)

-- the words of the entry that was read
pub this_entry : (coloured : Bool) (n : ℕ) (ws : List (List ℕ)) (head : Cell) (r : Record)
    → entry_spelled coloured ws ≡ Ok (head, r.act) → head ≡ cell_at n r.session r.line
    → record_list n r ≡ ws
this_entry coloured n ws head r read same =
    ap (λ (c : Cell). cell_list c (act_list r.act)) (sym same)
    ∙ entry_takes coloured ws head r.act read

-- what a record's words say of it
pub records_once : (coloured : Bool) (side other n : ℕ) (a b : Record) → 2 ^ side ≤ 4096
    → 2 ^ other ≤ 4096 → n < 2 ^ 32 → IsRecord coloured side a → IsRecord coloured other b
    → record_list n a ≡ record_list n b → a ≡ b
records_once coloured side other n a b few few_other small is_a is_b same =
    let both : Ok (entry (cell_at n a.session a.line) a.act) ≡ Ok (entry (cell_at n b.session b.line) b.act) = sym (record_again coloured side n a few small is_a) ∙ ap (entry_spelled coloured) same ∙ record_again coloured other n b few_other small is_b in
    let pair : entry (cell_at n a.session a.line) a.act ≡ entry (cell_at n b.session b.line) b.act =
    cc in
    ap (λ (e : Cell × Act). record { session = e.0.y; line = e.0.z; act = e.1 }) pair

-- an act that was spelled suits its history
plain_suits : (s : Spelled) → suits_tints false (act_of s) ≡ true
plain_suits (spelled.Fill at size) = refl
plain_suits (spelled.Erase at size) = refl
plain_suits (spelled.Ball centre radius) = refl
plain_suits (spelled.Carve centre radius) = refl
plain_suits (spelled.Copy at size to) = refl
plain_suits (spelled.Stamp m at) = refl
plain_suits spelled.Undo = refl
plain_suits spelled.Redo = refl

tint_suits : (c : ℕ) (s : Spelled) → suits_tints true (tinted_act c (act_of s)) ≡ true
tint_suits c (spelled.Fill at size) = refl
tint_suits c (spelled.Erase at size) = refl
tint_suits c (spelled.Ball centre radius) = refl
tint_suits c (spelled.Carve centre radius) = refl
tint_suits c (spelled.Copy at size to) = refl
tint_suits c (spelled.Stamp m at) = refl
tint_suits c spelled.Undo = refl
tint_suits c spelled.Redo = refl

pub told_suits : (coloured : Bool) (s : SpelledTint)
    → suits_tints coloured (spelled_act coloured s) ≡ true
told_suits false s = plain_suits s.act
told_suits true s = tint_suits s.tint s.act
