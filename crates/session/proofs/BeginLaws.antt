-- The sessions of a new world are at rest.
use Rattle.std.proofs.Common.{◌≡◌, ◌<◌, ℕ, zero, suc, List, [], ◌∷◌, length, get_or, Some, refl, sym, ap, subst, arith}
use Rattle.std.specs.List.{slice_get}
use Rattle.std.specs.Prelude.{All}
use Rattle.table_rule.specs.LogViews.{LogView, no_log}
use Rattle.version_log.specs.Seeing.{IsDated}
use Rattle.node_table.specs.Begins.{AreNewPasses, IsNewPass, terms_of}
use Rattle.node_table.specs.Closing.{IsSpare}
use Rattle.node_table.specs.TableStates.{TableState, PassState}
use Rattle.session.specs.Resting.{IsAtRest}

none_dated : (side : ℕ) → IsDated (no_log side)
none_dated side = record { each = λ m c. absurd (let l = c.1 in omega arith) }

new_rests : (t : TableState) (k : ℕ) (s : PassState) → IsNewPass t.id (terms_of t) k s → IsAtRest t s
new_rests t k s n = record {
  of = record { table = n.table_is; plan = n.plan; models = n.models };
  idle = record { bucket = n.turn; log = ap (λ (l : LogView). l.turn) n.log };
  alone = ap (λ (l : LogView). l.taken) n.log;
  side = ap (λ (l : LogView). l.seen.side) n.log;
  dated = subst (λ (l : LogView). IsDated l.seen) (sym n.log) (none_dated t.plan.side);
}

pub get_there : (passes : List PassState) (k : ℕ) (d : PassState) → k < length passes
    → slice_get passes k ≡ Some (get_or passes k d)
get_there [] k d lt = absurd (omega arith)
get_there (p ∷ passes) zero d lt = refl
get_there (p ∷ passes) (suc k) d lt = get_there passes k d (omega arith)

pub all_rest : (t : TableState) (passes : List PassState) → AreNewPasses t.id (terms_of t) passes
    → All (IsAtRest t) passes
all_rest t passes all = λ k d lt.
    new_rests t k (get_or passes k d) (all.each k (get_or passes k d) (get_there passes k d lt))

-- and may be given up
pub all_spare : (t : TableState) (passes : List PassState) → AreNewPasses t.id (terms_of t) passes
    → All (IsSpare t) passes
all_spare t passes all = λ k d lt.
    (let n = all.each k (get_or passes k d) (get_there passes k d lt) in
    record {
      of = record { table = n.table_is; plan = n.plan; models = n.models };
      turn = n.turn;
      log_turn = ap (λ (l : LogView). l.turn) n.log;
      held = n.held;
    })
