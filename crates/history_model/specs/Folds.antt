-- What the records of a history make of a state, version by version, whatever a state is: the cells
-- that are set, the tints of cells, or the cells of a store.
use Rattle.std.specs.Prelude.{ℕ, ◌-◌, List, [], ◌∷◌, ◌++◌, length, slice_index_or}
use Rattle.std.specs.List.{fold}
use Rattle.history_model.specs.declared.acts.Act.{Act}
use Rattle.history_model.specs.declared.acts.Act.TheVariants.{Undo, Redo}
use Rattle.history_model.specs.declared.histories.Record.{Record}
use Rattle.history_model.specs.Positions.{Position, beginning, next_position}

-- what some records have made: the state of version v at place v, and the position
pub record Stage (W : Type 0) : Type 0 where
  pub states : List W
  pub position : Position

-- before any record, version 0 being in this state
abbrev pub first_stage : {W : Type 0} → W → Stage W
first_stage none = record { states = none ∷ []; position = beginning }

abbrev pub state_at : {W : Type 0} → W → List W → ℕ → W
state_at none states v = slice_index_or states v none

abbrev pub newest : {W : Type 0} → W → List W → W
newest none states = state_at none states (length states - 1)

-- the state of the next version: that of the version gone to, or what the edit makes of the newest
abbrev pub next_state : {W : Type 0} → W → (Act → W → W) → List W → Act → ℕ → W
next_state none makes states Undo to = state_at none states to
next_state none makes states Redo to = state_at none states to
next_state none makes states edit to = makes edit (newest none states)

-- after one more record, whose number is that of the states so far
abbrev pub stage_by : {W : Type 0} → W → (Act → W → W) → Stage W → Act → Stage W
stage_by none makes before act =
    let position = next_position (length before.states) act before.position in
    record {
      states = before.states ++ next_state none makes before.states act position.now ∷ [];
      position = position;
    }

-- after all records of a history
abbrev pub stage_after : {W : Type 0} → W → (Act → W → W) → List Record → Stage W
stage_after none makes records =
    fold (λ before r. stage_by none makes before r.act) (first_stage none) records

-- the state of version n
abbrev pub state_of : {W : Type 0} → W → (Act → W → W) → List Record → ℕ → W
state_of none makes records n = state_at none (stage_after none makes records).states n
