use Rattle.std.proofs.Common.{◌+◌, arith}
use Rattle.node_words.proofs.GatherLaws.{grows_held}
use Rattle.edit_walk.proofs.OfBlocks.AsideLaws.{aside_numbers}
use Rattle.edit_walk.proofs.OutcomeLaws.{found_number}
use Rattle.edit_walk.proofs.MemoLaws.{joined_built, taken_turns}
use Rattle.edit_walk.proofs.walks.share_of.Goals as goal

pub taken_up-requires-clause-found : goal.taken_up-requires-clause-found
taken_up-requires-clause-found g c =
    let (base, rest, cells, b) = c.requires.task in
    (rest, _, _, _, (c.in-Ok.ensures.walked base rest cells b).found.came)

pub taken_up-requires-clause-room : goal.taken_up-requires-clause-room
taken_up-requires-clause-room g c =
    let (base, rest, cells, b) = c.requires.task in
    omega (
      arith,
      found_number rest _ _ _ _ _ (c.in-Ok.ensures.walked base rest cells b).found.came,
      (aside_numbers _ rest _ b.starts.aside).least,
      c.requires.room,
    )

pub returns-in-Ok-clause-walked : goal.returns-in-Ok-clause-walked
returns-in-Ok-clause-walked g c base rest cells b =
    let w = c.in-Ok.ensures.walked base rest cells b in
    record {
      built = joined_built _ base rest w.found.came.now _ _ _ _ w.found.recalls
          (c.taken_up.ensures.took rest _ _ _ w.found.came);
      grows = grows_held _ _ _ _ w.grows c.taken_up.ensures.only;
    }

pub returns-in-Ok-clause-took : goal.returns-in-Ok-clause-took
returns-in-Ok-clause-took g c =
    taken_turns (c.args.level + 1) (g.T.Task.mixed c.args.level c.args.task.now) c.in-Ok.block _ _ _ _ _
    c.in-Ok.ensures.took c.taken_up.ensures.turns
