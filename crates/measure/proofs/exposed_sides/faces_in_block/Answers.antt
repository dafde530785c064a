use Rattle.std.proofs.Common.{◌∙◌}
use Rattle.node_words.proofs.OfDescent.LookLaws.{block_still}
use Rattle.measure.proofs.FaceLaws.{all_six}
use Rattle.measure.proofs.exposed_sides.faces_in_block.Goals as goal

pub returns-clause-number : goal.returns-clause-number
returns-clause-number g c t o =
    let seen = g.B.Blocks.seen in
    let e1 = c.exposed_towards-low_x.ensures.seen in
    let e2 = c.exposed_towards-high_x.ensures.seen ∙ e1 in
    let e3 = c.exposed_towards-low_y.ensures.seen ∙ e2 in
    let e4 = c.exposed_towards-high_y.ensures.seen ∙ e3 in
    let e5 = c.exposed_towards-low_z.ensures.seen ∙ e4 in
    all_six _ _ _ _ _ _ _ _ _ _ _ _
    (c.exposed_towards-low_x.ensures.number t o)
    (c.exposed_towards-high_x.ensures.number t
    (block_still (seen c.args.store.now) (seen c.exposed_towards-low_x.new.store) _ _ t e1 o))
    (c.exposed_towards-low_y.ensures.number t
    (block_still (seen c.args.store.now) (seen c.exposed_towards-high_x.new.store) _ _ t e2 o))
    (c.exposed_towards-high_y.ensures.number t
    (block_still (seen c.args.store.now) (seen c.exposed_towards-low_y.new.store) _ _ t e3 o))
    (c.exposed_towards-low_z.ensures.number t
    (block_still (seen c.args.store.now) (seen c.exposed_towards-high_y.new.store) _ _ t e4 o))
    (c.exposed_towards-high_z.ensures.number t
    (block_still (seen c.args.store.now) (seen c.exposed_towards-low_z.new.store) _ _ t e5 o))

pub returns-clause-rests : goal.returns-clause-rests
returns-clause-rests g c =
    let on = g.met.B.Blocks.rests_on in
    on _ _ _ (on _ _ _
    (on _ _ _ (on _ _ _
    (on _ _ _ c.exposed_towards-low_x.ensures.rests c.exposed_towards-high_x.ensures.rests) c.exposed_towards-low_y.ensures.rests) c.exposed_towards-high_y.ensures.rests) c.exposed_towards-low_z.ensures.rests) c.exposed_towards-high_z.ensures.rests
