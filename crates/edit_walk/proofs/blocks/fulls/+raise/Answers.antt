use Rattle.std.proofs.Common.{arith, ◌≤◌}
use Rattle.node_words.proofs.GatherLaws.{grows_none}
use Rattle.edit_walk.proofs.OfBlocks.AsideLaws.{aside_numbers}
use Rattle.edit_walk.proofs.OfBlocks.JoinLaws.{full_grows, full_refuses, grows_on, refuses_after}
use Rattle.edit_walk.proofs.blocks.fulls.+raise.Goals as goal

pub returns-then-reaches-clause-grows : goal.returns-then-reaches-clause-grows
returns-then-reaches-clause-grows g t c = grows_none _ _

pub returns-in-Err-clause-full : goal.returns-in-Err-clause-full
returns-in-Err-clause-full g t c =
    let one : 1 ≤ c.args.level = omega arith in full_refuses c.args.level _ _ _ _ one c.in-Err.ensures.full

pub raise_once-requires-clause-room : goal.raise_once-requires-clause-room
raise_once-requires-clause-room g t c =
    let (rest, a) = c.requires.aside in
    omega (
      arith,
      (aside_numbers _ rest _ a).least,
      (aside_numbers _ rest _ (c.raise.ensures.rest rest a)).most,
      c.requires.room,
    )

pub returns-in-Ok-raise_once-clause-grows : goal.returns-in-Ok-raise_once-clause-grows
returns-in-Ok-raise_once-clause-grows g t c =
    let one : 1 ≤ c.args.level = omega arith in grows_on _ _ _ _
    (full_grows c.args.level _ _ one c.in-Ok.ensures.grows) c.in-Ok-raise_once.ensures.grows

pub returns-in-Err-raise_once-clause-full : goal.returns-in-Err-raise_once-clause-full
returns-in-Err-raise_once-clause-full g t c =
    let one : 1 ≤ c.args.level = omega arith in refuses_after _ _ _ _ _ _
    (full_grows c.args.level _ _ one c.in-Ok.ensures.grows) c.in-Err-raise_once.ensures.full
