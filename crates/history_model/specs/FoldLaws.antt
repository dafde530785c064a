-- What one more record adds to the states of a history, and what more records leave as they are,
-- whatever a state is.
use Rattle.std.specs.Prelude.{◌≡◌, ℕ, ◌+◌, ◌-◌, ◌<◌, ◌≤◌, true, false, List, [], ◌∷◌, ◌++◌, length, refl}
use Rattle.std.specs.List.{fold}
use Rattle.std.proofs.Common.{ap, sym, ◌∙◌, arith, length-append}
use Rattle.std.proofs.Math.Seq.{get_or-append_seam}
use Rattle.std.proofs.lemmas.List.{get_or_append_left}
use Rattle.std.proofs.lemmas.List.Sums.{fold_push, fold-append}
use Rattle.history_model.specs.declared.acts.Act.{Act}
use Rattle.history_model.specs.declared.acts.Act.TheVariants.{Fill, Erase, Ball, Carve, Copy, Stamp, Tint, Undo, Redo}
use Rattle.history_model.specs.declared.histories.Record.{Record}
use Rattle.history_model.specs.Worlds.{is_edit}
use Rattle.history_model.specs.Positions.{Position, position_from, position_after}
use Rattle.history_model.specs.Folds.{Stage, first_stage, state_at, newest, next_state, stage_by, stage_after, state_of}

-- the stage that these records make of an earlier one
unfoldable pub stage_on : {W : Type 0} → W → (Act → W → W) → Stage W → List Record → Stage W
stage_on none makes before records = fold (λ s r. stage_by none makes s r.act) before records

-- one more record is one more step
pub stage_of_next : {W : Type 0} (none : W) (makes : Act → W → W) (records : List Record)
    (r : Record)
    → stage_after none makes (records ++ r ∷ [])
    ≡ stage_by none makes (stage_after none makes records) r.act
stage_of_next none makes records r =
    fold_push (λ s q. stage_by none makes s q.act) (first_stage none) records r

-- one more state for each record
states_on : {W : Type 0} (none : W) (makes : Act → W → W) (before : Stage W)
    (records : List Record)
    → length (stage_on none makes before records).states ≡ length before.states + length records
unfolding stage_on
states_on {W} none makes before [] = omega arith
states_on {W} none makes before (r ∷ more) =
    let further = states_on none makes (stage_by none makes before r.act) more in
    omega (arith, further, length-append {A = W})

pub number_of_states : {W : Type 0} (none : W) (makes : Act → W → W) (records : List Record)
    → length (stage_after none makes records).states ≡ length records + 1
unfolding stage_on
number_of_states none makes records =
    let all = states_on none makes (first_stage none) records in omega (arith, all)

-- more records change no version
state_on : {W : Type 0} (none : W) (makes : Act → W → W) (before : Stage W) (more : List Record)
    (v : ℕ) → v < length before.states
    → state_at none (stage_on none makes before more).states v ≡ state_at none before.states v
unfolding stage_on
state_on {W} none makes before [] v lt = refl
state_on {W} none makes before (r ∷ more) v lt =
    let after : Stage W = stage_by none makes before r.act in
    let longer : length after.states ≡ length before.states + 1 = length-append before.states _ in
    state_on none makes after more v (omega arith)
    ∙ get_or_append_left before.states _ none v lt

pub state_stays : {W : Type 0} (none : W) (makes : Act → W → W) (records more : List Record)
    (v : ℕ) → v ≤ length records
    → state_of none makes (records ++ more) v ≡ state_of none makes records v
unfolding stage_on
state_stays {W} none makes records more v le =
    let number : length (stage_after none makes records).states ≡ length records + 1 =
    number_of_states none makes records
    in
    let parts : stage_after none makes (records ++ more)
    ≡ stage_on none makes (stage_after none makes records) more =
    fold-append (λ s r. stage_by none makes s r.act) (first_stage none) records more
    in
    ap (λ (s : Stage W). state_at none s.states v) parts
    ∙ state_on none makes (stage_after none makes records) more v (omega arith)

-- the position of a stage is that of its records
position_on : {W : Type 0} (none : W) (makes : Act → W → W) (before : Stage W)
    (records : List Record)
    → (stage_on none makes before records).position
    ≡ position_from (length before.states) before.position records
unfolding stage_on
position_on {W} none makes before [] = refl
position_on {W} none makes before (r ∷ more) =
    let after : Stage W = stage_by none makes before r.act in
    let longer : length after.states ≡ length before.states + 1 = length-append before.states _ in
    position_on none makes after more
    ∙ ap (λ (n : ℕ). position_from n after.position more) longer

pub position_of_stage : {W : Type 0} (none : W) (makes : Act → W → W) (records : List Record)
    → (stage_after none makes records).position ≡ position_after records
unfolding stage_on
position_of_stage none makes records = position_on none makes (first_stage none) records

-- the newest state is that of the last record
pub newest_of_stage : {W : Type 0} (none : W) (makes : Act → W → W) (records : List Record)
    → newest none (stage_after none makes records).states
    ≡ state_of none makes records (length records)
newest_of_stage none makes records =
    let number : length (stage_after none makes records).states ≡ length records + 1 =
    number_of_states none makes records
    in
    let last : length (stage_after none makes records).states - 1 ≡ length records = omega arith in
    ap (state_at none (stage_after none makes records).states) last

-- the state that one more record makes
pub state_of_next : {W : Type 0} (none : W) (makes : Act → W → W) (records : List Record)
    (r : Record)
    → state_of none makes (records ++ r ∷ []) (length records + 1)
    ≡ next_state none makes (stage_after none makes records).states r.act
    (position_after (records ++ r ∷ [])).now
state_of_next {W} none makes records r =
    let before : Stage W = stage_after none makes records in
    let after : Stage W = stage_by none makes before r.act in
    let next : stage_after none makes (records ++ r ∷ []) ≡ after =
    stage_of_next none makes records r
    in
    let number : length before.states ≡ length records + 1 = number_of_states none makes records in
    let at : after.position.now ≡ (position_after (records ++ r ∷ [])).now =
    ap (λ (s : Stage W). s.position.now) (sym next)
    ∙ ap (λ (q : Position). q.now) (position_of_stage none makes (records ++ r ∷ []))
    in
    ap (λ (s : Stage W). state_at none s.states (length records + 1)) next
    ∙ ap (state_at none after.states) (sym number)
    ∙ get_or-append_seam before.states _ [] none
    ∙ ap (next_state none makes before.states r.act) at

pub next_of_edit : {W : Type 0} (none : W) (makes : Act → W → W) (states : List W) (act : Act)
    (to : ℕ) → is_edit act ≡ true
    → next_state none makes states act to ≡ makes act (newest none states)
next_of_edit none makes states (Fill b) to edit = refl
next_of_edit none makes states (Erase b) to edit = refl
next_of_edit none makes states (Ball b) to edit = refl
next_of_edit none makes states (Carve b) to edit = refl
next_of_edit none makes states (Copy b at) to edit = refl
next_of_edit none makes states (Stamp m at) to edit = refl
next_of_edit none makes states (Tint t) to edit = refl
next_of_edit none makes states Undo to edit = absurd (let no : ⊥ = cc in no)
next_of_edit none makes states Redo to edit = absurd (let no : ⊥ = cc in no)

pub next_of_other : {W : Type 0} (none : W) (makes : Act → W → W) (states : List W) (act : Act)
    (to : ℕ) → is_edit act ≡ false → next_state none makes states act to ≡ state_at none states to
next_of_other none makes states (Fill b) to other = absurd (let no : ⊥ = cc in no)
next_of_other none makes states (Erase b) to other = absurd (let no : ⊥ = cc in no)
next_of_other none makes states (Ball b) to other = absurd (let no : ⊥ = cc in no)
next_of_other none makes states (Carve b) to other = absurd (let no : ⊥ = cc in no)
next_of_other none makes states (Copy b at) to other = absurd (let no : ⊥ = cc in no)
next_of_other none makes states (Stamp m at) to other = absurd (let no : ⊥ = cc in no)
next_of_other none makes states (Tint t) to other = absurd (let no : ⊥ = cc in no)
next_of_other none makes states Undo to other = refl
next_of_other none makes states Redo to other = refl

-- an edit's version is what the edit makes of the one before
pub state_of_edit : {W : Type 0} (none : W) (makes : Act → W → W) (records : List Record)
    (r : Record) → is_edit r.act ≡ true
    → state_of none makes (records ++ r ∷ []) (length records + 1)
    ≡ makes r.act (state_of none makes records (length records))
state_of_edit none makes records r edit =
    state_of_next none makes records r
    ∙ next_of_edit none makes (stage_after none makes records).states r.act
    (position_after (records ++ r ∷ [])).now edit
    ∙ ap (makes r.act) (newest_of_stage none makes records)

-- an undo's or a redo's version is the one gone to
pub state_of_other : {W : Type 0} (none : W) (makes : Act → W → W) (records : List Record)
    (r : Record) → is_edit r.act ≡ false
    → state_of none makes (records ++ r ∷ []) (length records + 1)
    ≡ state_of none makes records (position_after (records ++ r ∷ [])).now
state_of_other none makes records r other =
    state_of_next none makes records r
    ∙ next_of_other none makes (stage_after none makes records).states r.act
    (position_after (records ++ r ∷ [])).now other

-- version 0 is what was there before any record
pub state_at_0 : {W : Type 0} (none : W) (makes : Act → W → W) (records : List Record)
    → state_of none makes records 0 ≡ none
state_at_0 none makes records = state_stays none makes [] records 0 (omega arith)
