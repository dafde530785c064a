use Rattle.edit_walk.proofs.OfCells.PaintLaws.{old_has}
use Rattle.edit_walk.proofs.octants.Octants.of.Goals as goal

pub octant_names-old-requires-clause-block : goal.octant_names-old-requires-clause-block
octant_names-old-requires-clause-block g c =
    let (base, cells, keeps, m) = c.requires.task in
    let (t, is) = c.old.ensures.block base c.args.level cells m in
    old_has base _ c.args.level t _ keeps is

pub returns-clause-rests : goal.returns-clause-rests
returns-clause-rests g c =
    let on = g.met.B.Blocks.rests_on in
    on _ _ _ c.octant_names-old.ensures.rests
    (on _ _ _ c.octant-a.ensures.rests
    (on _ _ _ c.octant-b.ensures.rests
    (on _ _ _ c.octant-c.ensures.rests
    (on _ _ _ c.octant-d.ensures.rests
    (on _ _ _ c.octant-e.ensures.rests
    (on _ _ _ c.octant-f.ensures.rests
    (on _ _ _ c.octant-g.ensures.rests c.octant-h.ensures.rests)))))))
