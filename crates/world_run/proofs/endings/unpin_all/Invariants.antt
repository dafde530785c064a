use Rattle.std.proofs.Common.{◌≡◌, ◌+◌, ◌++◌, ◌≤◌, [], vec_capacity, vec_len}
use Rattle.std.specs.Prelude.{All, length}
use Rattle.std.specs.Vec.Iter.{into_iter_items, into_iter_len}
use Rattle.session.specs.Closes.{session_views}
use Rattle.session.specs.Resting.{IsAtRest}
use Rattle.world_run.specs.Open.{IsSaved, saved_seen}
use Rattle.world_run.proofs.endings.unpin_all.Given as goal

abbrev pub invariant-loop-saved : goal.invariant-loop-saved
invariant-loop-saved g l = record {
  saved : All (IsSaved l.world.tint l.world.table) (into_iter_items l.sessions);
  rest : All (IsAtRest l.world.table) l.spare.items;
  spare : All (λ s. s.view.held ≡ []) l.spare.items;
  seen : session_views l.spare.items ++ saved_seen (into_iter_items l.sessions)
      ≡ saved_seen l.fn.sessions.items;
  many : vec_len l.spare + into_iter_len l.sessions ≡ length l.fn.sessions.items;
  room : vec_len l.spare + into_iter_len l.sessions ≤ vec_capacity l.spare;
}

abbrev pub decreases-loop-saved : goal.decreases-loop-saved
decreases-loop-saved g l = into_iter_len l.sessions
