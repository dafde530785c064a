use Rattle.std.proofs.Common.{refl, rules}
use Rattle.session.proofs.AttemptLaws.{rests_lent}
use Rattle.session.proofs.VoxelLaws.{box_of_store}
use Rattle.session.proofs.ForgetLaws.{knows_back}
use Rattle.session.proofs.PinLaws.{pinned_count, pinned_walk}
use Rattle.session.proofs.world.World.count_pinned.Goals as goal

pub answer_cells-answer-requires-clause-root : goal.answer_cells-answer-requires-clause-root
answer_cells-answer-requires-clause-root c =
    pinned_walk c.args.self.now.table c.args.s.now c.args.p.now _ (search rules) c.requires.rest
    c.requires.pinned

pub answer_cells-answer-requires-clause-fits : goal.answer_cells-answer-requires-clause-fits
answer_cells-answer-requires-clause-fits c =
    box_of_store c.args.self.now.tint c.args.self.now.table.plan.side c.args.part c.requires.fits

pub returns-clause-cells : goal.returns-clause-cells
returns-clause-cells c =
    pinned_count c.args.self.now.table c.args.s.now c.args.p.now _ (search rules) c.requires.rest
    c.requires.pinned c.args.part c.answer_cells-answer.result c.cells_counted.result
    c.answer_cells-answer.ensures.tells c.cells_counted.ensures

pub returns-clause-knows : goal.returns-clause-knows
returns-clause-knows c =
    knows_back c.args.self.now.table c.answer_cells-answer.new.s
    (rests_lent c.args.self.now.table c.args.self.now.table c.args.s.now c.answer_cells-answer.new.s refl
    c.requires.rest c.answer_cells-answer.ensures.read.stays) c.tell.ensures
