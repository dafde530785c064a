use Rattle.std.proofs.Common.{arith}
use Rattle.node_words.proofs.GatherLaws.{grows_held}
use Rattle.edit_walk.proofs.OfBlocks.AsideLaws.{aside_numbers}
use Rattle.edit_walk.proofs.OfBlocks.FreedLaws.{back_turns}
use Rattle.edit_walk.proofs.WalkLaws.{came_number, aside_may, rebuilt_comes, rebuilt_fails}
use Rattle.edit_walk.proofs.MemoLaws.{begins_held, recalls_after}
use Rattle.edit_walk.proofs.walks.rebuild.Goals as goal

pub share_of-requires-clause-task : goal.share_of-requires-clause-task
share_of-requires-clause-task g c =
    let (base, cells, k, m) = c.requires.task in
    (_, _, cells, begins_held _ base _ _ _ cells _ g.T.Task.lasts c.held-held.ensures.trees.named k c.requires.memo m)

pub back_if-requires-clause-held : goal.back_if-requires-clause-held
back_if-requires-clause-held g c =
    let (base, cells, k, m) = c.requires.task in
    let w =
    (c.in-Ok.ensures.walked _ _ cells
    (begins_held _ base _ _ _ cells _ g.T.Task.lasts c.held-held.ensures.trees.named k c.requires.memo m)).built.came in
    (w.aside.tree, w.aside.root, aside_may _ _ _ w.aside)

pub back_if-requires-clause-room : goal.back_if-requires-clause-room
back_if-requires-clause-room g c =
    let (base, cells, k, m) = c.requires.task in
    omega (
      arith,
      came_number _ _ _ _ _ _
          (c.in-Ok.ensures.walked _ _ cells
          (begins_held _ base _ _ _ cells _ g.T.Task.lasts c.held-held.ensures.trees.named k c.requires.memo m)).built.came,
      c.requires.room,
    )

pub back_if-requires-in-Err-clause-held : goal.back_if-requires-in-Err-clause-held
back_if-requires-in-Err-clause-held g c =
    let (base, cells, k, m) = c.requires.task in
    let a =
    (c.in-Err.ensures.walked _ _ cells
    (begins_held _ base _ _ _ cells _ g.T.Task.lasts c.held-held.ensures.trees.named k c.requires.memo m)).aside in
    (a.tree, a.root, aside_may _ _ _ a)

pub back_if-requires-in-Err-clause-room : goal.back_if-requires-in-Err-clause-room
back_if-requires-in-Err-clause-room g c =
    let (base, cells, k, m) = c.requires.task in
    omega (
      arith,
      (aside_numbers _ _ _
          (c.in-Err.ensures.walked _ _ cells
          (begins_held _ base _ _ _ cells _ g.T.Task.lasts c.held-held.ensures.trees.named k c.requires.memo m)).aside).most,
      c.requires.room,
    )

pub returns-in-Ok-clause-made : goal.returns-in-Ok-clause-made
returns-in-Ok-clause-made g c base cells k m =
    let begins =
    begins_held _ base _ _ _ cells _ g.T.Task.lasts c.held-held.ensures.trees.named k c.requires.memo m in
    let walked = c.in-Ok.ensures.walked _ _ cells begins in
    let w = walked.built.came in
    record {
      came = rebuilt_comes _ _ _ _ _ _ _ w
          (c.back_if.ensures.gone w.aside.tree w.aside.root (aside_may _ _ _ w.aside));
      grows = grows_held _ _ _ _ walked.grows c.back_if.ensures.only;
    }

pub returns-in-Err-clause-made : goal.returns-in-Err-clause-made
returns-in-Err-clause-made g c base cells k m =
    let begins =
    begins_held _ base _ _ _ cells _ g.T.Task.lasts c.held-held.ensures.trees.named k c.requires.memo m in
    let stops = c.in-Err.ensures.walked _ _ cells begins in
    let a = stops.aside in
    rebuilt_fails _ _ _ _ _ _ _ stops.refuses c.back_if-in-Err.ensures.only a
    (c.back_if-in-Err.ensures.gone a.tree a.root (aside_may _ _ _ a))

pub returns-in-Ok-clause-turns : goal.returns-in-Ok-clause-turns
returns-in-Ok-clause-turns g c =
    let (base, cells, k, m) = c.requires.task in
    let w =
    (c.in-Ok.ensures.walked _ _ cells
    (begins_held _ base _ _ _ cells _ g.T.Task.lasts c.held-held.ensures.trees.named k c.requires.memo m)).built.came in
    let b =
    back_turns _ c.share_of.new.full.share w.aside.tree _ _ c.back_if.ensures.none
    (λ n e. c.back_if.ensures.turns w.aside.tree n e w.aside.root
    (aside_may _ _ _ w.aside)) w.aside.shape in
    omega (arith, b, c.in-Ok.ensures.took.turns, c.in-Ok.ensures.took.height_is)

pub returns-in-Ok-clause-memo : goal.returns-in-Ok-clause-memo
returns-in-Ok-clause-memo g c =
    let (base, cells, k, m) = c.requires.task in
    let b =
    (c.in-Ok.ensures.walked _ _ cells
    (begins_held _ base _ _ _ cells _ g.T.Task.lasts c.held-held.ensures.trees.named k c.requires.memo m)).built in
    recalls_after _ _ _ _ _ _ _ _ _ b.came
    (c.back_if.ensures.gone b.came.aside.tree b.came.aside.root
    (aside_may _ _ _ b.came.aside)) b.recalls
