-- How an undo or a redo goes under the log's turn: the target that was found without a mark, and
-- the share of its root, are what its record needs.
use Rattle.std.proofs.Common.{◌≡◌, ◌+◌, ◌^◌, ℕ, false, Option, Some, List, [], ◌∷◌, length, slice_get, sym, ap, subst}
use Rattle.vox_read.specs.Contents.{Content}
use Rattle.history_model.specs.declared.acts.Act.{Act}
use Rattle.history_model.specs.declared.acts.Act.TheVariants.{Fill, Erase, Ball, Carve, Copy, Stamp, Tint, Undo, Redo}
use Rattle.history_model.specs.declared.histories.Record.{Record}
use Rattle.history_model.specs.Logs.{FitsWorld}
use Rattle.history_model.specs.Positions.{position_after}
use Rattle.history_model.specs.Stores.{stored_in}
use Rattle.history_model.specs.Worlds.{is_edit}
use Rattle.node_words.specs.declared.shapes.names.Name.{Name}
use Rattle.node_table.specs.Making.{version_gone_to}
use Rattle.table_rule.specs.LogFacts.{IsShownUnmarked, seen_has}
use Rattle.table_rule.specs.Views.{SeatView}
use Rattle.table_rule.specs.LogChanges.{HasOpenTarget, IsOpenTarget}
use Rattle.version_log.specs.Roots.{HoldsRootOf}
use Rattle.version_log.specs.Targets.{IsMadeNow, act_target}
use Rattle.version_log.proofs.WordLaws.{other_now}

-- an undo and a redo lie in any world
pub other_fits : (side : ℕ) (models : List Content) (act : Act) → is_edit act ≡ false
    → FitsWorld side models act
other_fits side models (Fill b) other = absurd (let no : ⊥ = cc in no)
other_fits side models (Erase b) other = absurd (let no : ⊥ = cc in no)
other_fits side models (Ball b) other = absurd (let no : ⊥ = cc in no)
other_fits side models (Carve b) other = absurd (let no : ⊥ = cc in no)
other_fits side models (Copy b to) other = absurd (let no : ⊥ = cc in no)
other_fits side models (Stamp m at) other = absurd (let no : ⊥ = cc in no)
other_fits side models (Tint t) other = absurd (let no : ⊥ = cc in no)
other_fits side models Undo other = tt
other_fits side models Redo other = tt

first_open : (v : SeatView) (versions : List ℕ) (to : ℕ) → slice_get versions 0 ≡ Some to
    → IsShownUnmarked v to → IsOpenTarget v versions
first_open v [] to e shown = absurd (let no : ⊥ = cc in no)
first_open v (t ∷ others) to e shown =
    subst (IsShownUnmarked v) (let same : to ≡ t = cc in same) shown

pub target_open : (v : SeatView) (act : Act) (to : ℕ) → act_target v.log.seen.records act ≡ Some to
    → IsShownUnmarked v to → HasOpenTarget v act
target_open v (Fill b) to e shown = tt
target_open v (Erase b) to e shown = tt
target_open v (Ball b) to e shown = tt
target_open v (Carve b) to e shown = tt
target_open v (Copy b c) to e shown = tt
target_open v (Stamp m at) to e shown = tt
target_open v (Tint t) to e shown = tt
target_open v Undo to e shown = first_open v (position_after v.log.seen.records).past to e shown
target_open v Redo to e shown = first_open v (position_after v.log.seen.records).future to e shown

-- the root of the version gone to is what the record makes
pub target_made : (v : SeatView) (act : Act) (to : ℕ) (root : Option Name) → is_edit act ≡ false
    → act_target v.log.seen.records act ≡ Some to → HoldsRootOf v root (seen_has v to)
    → IsMadeNow v act root
target_made v act to root other target holds =
    let records : List Record = v.log.seen.records in
    let gone : version_gone_to records act ≡ to =
    other_now records (length records + 1) act to target
    in
    record {
      cells = seen_has v to;
      holds = holds;
      makes = record {
        edit = λ yes. absurd (let no : ⊥ = cc in no);
        other = λ no. record {
          each = λ q inside.
              ap (λ (k : ℕ). stored_in (2 ^ v.plan.side) v.models records k q) (sym gone);
        };
      };
    }
