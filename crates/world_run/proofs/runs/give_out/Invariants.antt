use Rattle.std.proofs.Common.{◌≡◌, ◌+◌, ◌≤◌, ℕ, Some, drop, length, take, vec_capacity, vec_len}
use Rattle.std.specs.List.{AllZip, slice_get}
use Rattle.std.specs.Prelude.{All}
use Rattle.std.specs.Vec.Iter.{into_iter_items}
use Rattle.node_table.specs.Begins.{IsNewPass, terms_of}
use Rattle.node_table.specs.TableStates.{PassState}
use Rattle.session.specs.Resting.{IsAtRest}
use Rattle.world_run.specs.Works.{AreWorks, IsRoomFor}
use Rattle.world_run.proofs.runs.give_out.Given as goal

abbrev pub invariant-loop-script : goal.invariant-loop-script
invariant-loop-script l = record {
  works : AreWorks l.world 0 (take l.script-index l.scripts) l.works.items;
  new : (k : ℕ) (s : PassState) → slice_get (into_iter_items l.sessions) k ≡ Some s
      → IsNewPass l.world.table.id (terms_of l.world.table) (l.script-index + k) s;
  rest : All (IsAtRest l.world.table) (into_iter_items l.sessions);
  many : l.script-index + length (into_iter_items l.sessions) ≡ length l.scripts;
  rooms : AllZip IsRoomFor (drop l.script-index l.scripts) (into_iter_items l.rooms);
  len : vec_len l.works ≡ l.script-index;
  capacity : length l.scripts ≤ vec_capacity l.works;
}
