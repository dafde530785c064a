use Rattle.requests.specs.command_line.Texts.{texts}
use Rattle.requests.specs.Words.{request_of}
use Rattle.voxdag_top.proofs.ComingLaws.{promises}
use Rattle.voxdag_top.proofs.Lacking.{lacks}
use Rattle.voxdag_top.proofs.calls.voxdag_gated.Goals as goal

pub returns-in-Ok : goal.returns-in-Ok
returns-in-Ok g c = promises (texts c.args.words.now) _ _ _ _ c.with_line.ensures

pub returns-in-Err : goal.returns-in-Err
returns-in-Err g c =
    promises (texts c.args.words.now) _ _ _ _
    (lacks (request_of (texts c.args.words.now)) (g.S.Shelf.state c.args.shelf.now) _ _ _ _
    c.finish.ensures.line c.finish.ensures.ended)
