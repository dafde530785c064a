use Rattle.std.proofs.Common.{rules, ◌∙◌, SFits, w16, to_z, of_z}
use Rattle.std.proofs.lemmas.Int.{to_z-of_z}
use Rattle.script.proofs.Fitting.{way_made, same_ways}
use Rattle.dag_answers.proofs.placing.make_way.Goals as goal

pub returns-clause-placed : goal.returns-clause-placed
returns-clause-placed c =
    let dx : SFits w16 c.in_ok-dx.dx = search rules in
    let dy : SFits w16 c.in_ok-dy.dy = search rules in
    let dz : SFits w16 c.in_ok-dz.dz = search rules in
    c.ok_or.ensures.value
    ∙ way_made (to_z w16 (of_z w16 c.in_ok-dx.dx)) (to_z w16 (of_z w16 c.in_ok-dy.dy))
    (to_z w16 (of_z w16 c.in_ok-dz.dz)) c.new.result c.new.ensures.exactly c.new.ensures.value
    ∙ same_ways _ _ _ _ _ _ (to_z-of_z w16 c.in_ok-dx.dx dx ∙ c.in_ok-dx.ensures)
    (to_z-of_z w16 c.in_ok-dy.dy dy ∙ c.in_ok-dy.ensures)
    (to_z-of_z w16 c.in_ok-dz.dz dz ∙ c.in_ok-dz.ensures)
