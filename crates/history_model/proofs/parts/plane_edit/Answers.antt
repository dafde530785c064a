use Rattle.std.proofs.Common.{false}
use Rattle.history_model.proofs.PartLaws.{fill_made, erase_made, ball_made, carve_made, stamp_made}
use Rattle.history_model.proofs.parts.plane_edit.Goals as goal

pub returns-in-Fill-clause-made : goal.returns-in-Fill-clause-made
returns-in-Fill-clause-made c =
    fill_made _ _ _ _ _ _ _ c.in-Fill.b c.in-Fill.tint c.in-Fill.is c.has.ensures.value c.tells.ensures c.put.ensures.made

pub returns-in-Erase-clause-made : goal.returns-in-Erase-clause-made
returns-in-Erase-clause-made c =
    erase_made _ _ _ _ _ _ false c.in-Erase.b c.in-Erase.is c.has-in-Erase.ensures.value c.put-in-Erase.ensures.made

pub returns-in-Ball-clause-made : goal.returns-in-Ball-clause-made
returns-in-Ball-clause-made c =
    ball_made _ _ _ _ _ _ _ c.in-Ball.ball c.in-Ball.tint c.in-Ball.is c.has-in-Ball.ensures.value c.tells-in-Ball.ensures c.put-in-Ball.ensures.made

pub returns-in-Ball-clause-reads : goal.returns-in-Ball-clause-reads
returns-in-Ball-clause-reads c = c.put-in-Ball.ensures.reads c.args.n c.requires.inside

pub returns-in-Carve-clause-made : goal.returns-in-Carve-clause-made
returns-in-Carve-clause-made c =
    carve_made _ _ _ _ _ _ false c.in-Carve.ball c.in-Carve.is c.has-in-Carve.ensures.value c.put-in-Carve.ensures.made

pub returns-in-Carve-clause-reads : goal.returns-in-Carve-clause-reads
returns-in-Carve-clause-reads c = c.put-in-Carve.ensures.reads c.args.n c.requires.inside

pub returns-in-Stamp-clause-made : goal.returns-in-Stamp-clause-made
returns-in-Stamp-clause-made c =
    stamp_made c.args.models.now c.args.act.now c.args.k c.args.p c.stamped.result c.in-Stamp.m c.in-Stamp.at c.ink.result c.in-Stamp.is c.ink.ensures c.stamped.ensures.made
