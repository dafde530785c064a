use Rattle.std.proofs.Common.{◌≡◌, ◌≤◌, length, take, vec_capacity, vec_len}
use Rattle.std.specs.List.{AllZip}
use Rattle.world_run.specs.Works.{IsRoomFor}
use Rattle.world_run.proofs.rooms.rooms_of.Given as goal

abbrev pub invariant-loop-script : goal.invariant-loop-script
invariant-loop-script l = record {
  rooms : AllZip IsRoomFor (take l.script-index l.scripts) l.rooms.items;
  len : vec_len l.rooms ≡ l.script-index;
  capacity : length l.scripts ≤ vec_capacity l.rooms;
}
