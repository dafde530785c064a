use Rattle.std.proofs.Common.{◌≡◌, ◌≤◌, drop, length, take, vec_capacity, vec_len}
use Rattle.std.specs.Vec.Iter.{into_iter_items}
use Rattle.world_run.proofs.Working.{TakenIn}
use Rattle.world_run.specs.Works.{AreDone}
use Rattle.world_run.proofs.runs.take_in.Given as goal

abbrev pub invariant-loop-script : goal.invariant-loop-script
invariant-loop-script l = record {
  taken : TakenIn l._world (take l.script-index l.scripts) l.transcripts.items l.sessions.items;
  done : AreDone l._world l.script-index (drop l.script-index l.scripts) (into_iter_items l.works);
  sessions : vec_len l.sessions ≡ l.script-index;
  transcripts : vec_len l.transcripts ≡ l.script-index;
  sessions_room : length l.scripts ≤ vec_capacity l.sessions;
  transcripts_room : length l.scripts ≤ vec_capacity l.transcripts;
}
