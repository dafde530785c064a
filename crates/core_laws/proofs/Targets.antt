-- The version that an undo or a redo goes to is kept, and its root may be appended again.
use Rattle.std.proofs.Common.{◌≡◌, ℕ, ◌+◌, ◌<◌, ◌≤◌, ◌^◌, refl, arith, false, List, [], ◌∷◌, length}
use Rattle.std.specs.Prelude.{All}
use Rattle.core_laws.specs.HistoryModelContents.{Content}
use Rattle.node_words.specs.Plans.{Layout}
use Rattle.core_laws.specs.Act.{Act}
use Rattle.core_laws.specs.ActVariants.{Fill, Erase, Ball, Carve, Copy, Stamp, Tint, Undo, Redo}
use Rattle.core_laws.specs.Record.{Record}
use Rattle.core_laws.specs.Worlds.{is_edit}
use Rattle.core_laws.specs.Positions.{Position, undone, redone, position_after}
use Rattle.core_laws.specs.PositionLaws.{names_below}
use Rattle.core_laws.specs.Logs.{Log, FitsWorld, HasTarget, MayFollow, IsVersionHeld}
use Rattle.core_laws.specs.Stores.{stored_in}
use Rattle.core_laws.specs.States.{State}
use Rattle.core_laws.specs.Soundness.{Sound}
use Rattle.core_laws.specs.contents.Versions.{HoldsVersion}
use Rattle.core_laws.specs.Making.{version_gone_to}
use Rattle.core_laws.specs.LogEvents.{MayAppend}

-- each mark stands at the log's length or before
abbrev AreDated : Log → Type 0
AreDated log = All (λ mark. (mark.version < mark.at) × (mark.at ≤ length log.records)) log.marks

held_kept : (log : Log) (to : ℕ) → AreDated log → to < length log.records + 1
    → IsVersionHeld log.marks (length log.records + 1) to → HoldsVersion log to
held_kept log to dated below held =
    record {
      there = omega arith;
      unmarked =
          λ k m lt same.
          (let at = held k m lt same in let dates = dated k m lt in let late = dates.1 in
          omega arith);
    }

undo_kept : (log : Log) (past : List ℕ) (now : ℕ) (future : List ℕ) → AreDated log
    → All (λ v. v < length log.records + 1) past
    → HasTarget log.marks (length log.records + 1) past → HoldsVersion log (undone past now future).now
undo_kept log [] now future dated below has = absurd has
undo_kept log (to ∷ past) now future dated below has =
    held_kept log to dated (below 0 0 (omega arith)) has

redo_kept : (log : Log) (past : List ℕ) (now : ℕ) (future : List ℕ) → AreDated log
    → All (λ v. v < length log.records + 1) future
    → HasTarget log.marks (length log.records + 1) future → HoldsVersion log (redone past now future).now
redo_kept log past now [] dated below has = absurd has
redo_kept log past now (to ∷ future) dated below has =
    held_kept log to dated (below 0 0 (omega arith)) has

pub target_kept : (log : Log) (act : Act) → AreDated log → is_edit act ≡ false
    → MayFollow log.marks (length log.records + 1) act (position_after log.records)
    → HoldsVersion log (version_gone_to log.records act)
target_kept log (Fill b) dated other may = absurd (let no : ⊥ = cc in no)
target_kept log (Erase b) dated other may = absurd (let no : ⊥ = cc in no)
target_kept log (Ball b) dated other may = absurd (let no : ⊥ = cc in no)
target_kept log (Carve b) dated other may = absurd (let no : ⊥ = cc in no)
target_kept log (Copy b to) dated other may = absurd (let no : ⊥ = cc in no)
target_kept log (Stamp m at) dated other may = absurd (let no : ⊥ = cc in no)
target_kept log (Tint t) dated other may = absurd (let no : ⊥ = cc in no)
target_kept log Undo dated other may = let at : Position = position_after log.records in
    undo_kept log at.past at.now at.future dated (names_below log.records).past may
target_kept log Redo dated other may = let at : Position = position_after log.records in
    redo_kept log at.past at.now at.future dated (names_below log.records).future may

other_fits : (side : ℕ) (models : List Content) (act : Act) → is_edit act ≡ false
    → FitsWorld side models act
other_fits side models (Fill b) other = absurd (let no : ⊥ = cc in no)
other_fits side models (Erase b) other = absurd (let no : ⊥ = cc in no)
other_fits side models (Ball b) other = absurd (let no : ⊥ = cc in no)
other_fits side models (Carve b) other = absurd (let no : ⊥ = cc in no)
other_fits side models (Copy b to) other = absurd (let no : ⊥ = cc in no)
other_fits side models (Stamp m at) other = absurd (let no : ⊥ = cc in no)
other_fits side models (Tint t) other = absurd (let no : ⊥ = cc in no)
other_fits side models Undo other = tt
other_fits side models Redo other = tt

pub may_go : (p : Layout) (models : List Content) (r : Record) (state : State)
    → Sound p models state → length state.log.records < 65535 → is_edit r.act ≡ false
    → MayFollow state.log.marks (length state.log.records + 1) r.act
    (position_after state.log.records)
    → MayAppend p models r (state.root (version_gone_to state.log.records r.act)) state
may_go p models r state s room other may =
    let to : ℕ = version_gone_to state.log.records r.act in
    let kept : HoldsVersion state.log to =
    target_kept state.log r.act s.versions.legal.marked other may in
    record {
      room = room;
      fits = other_fits (2 ^ p.side) models r.act other;
      follows = may;
      level = s.versions.level to;
      cells = stored_in (2 ^ p.side) models state.log.records to;
      shows = s.versions.shown to kept;
      makes = record {
        edit =
            λ edit. absurd (Rattle.std.proofs.lemmas.Bool.both_ways (is_edit r.act) other edit);
        other = λ _. record { each = λ q inside. refl };
      };
    }
