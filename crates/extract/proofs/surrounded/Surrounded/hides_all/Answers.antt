use Rattle.std.proofs.Common.{Bool, refl, ◌∙◌}
use Rattle.vw_cell.specs.declared.cells.Cell.{Cell}
use Rattle.vw_cell.specs.declared.directions.Direction.TheVariants.{HighX, LowY, HighY, LowZ, HighZ}
use Rattle.measure.specs.Faces.{passes_exposed}
use Rattle.measure.specs.Tallies.{PassesNone}
use Rattle.measure.proofs.WideningLaws.{still_counts}
use Rattle.extract.specs.Sides.{sided}
use Rattle.extract.proofs.SideLaws.{each_way}
use Rattle.extract.proofs.surrounded.Surrounded.hides_all.Goals as goal

pub returns-clause-none : goal.returns-clause-none
returns-clause-none g c all =
    let seen = g.B.Blocks.seen in
    let s = c.args.self.now in
    let e1 = c.hides.ensures.seen in
    let e2 = c.hides-2.ensures.seen ∙ e1 in
    let e3 = c.hides-3.ensures.seen ∙ e2 in
    let e4 = c.hides-4.ensures.seen ∙ e3 in
    let e5 = c.hides-5.ensures.seen ∙ e4 in
    each_way
    (λ d. (test : Cell → Bool)
    → passes_exposed (seen c.args.store.now).held c.args.level (sided s d) test
    → PassesNone c.args.level test)
    (c.if-not-hides.ensures.none refl)
    (λ test p. c.if-not-hides-2.ensures.none refl test
    (still_counts passes_exposed (seen c.args.store.now) (seen c.hides.new.store) c.args.level (sided s HighX) test e1 p))
    (λ test p. c.if-not-hides-3.ensures.none refl test
    (still_counts passes_exposed (seen c.args.store.now) (seen c.hides-2.new.store) c.args.level (sided s LowY) test e2 p))
    (λ test p. c.if-not-hides-4.ensures.none refl test
    (still_counts passes_exposed (seen c.args.store.now) (seen c.hides-3.new.store) c.args.level (sided s HighY) test e3 p))
    (λ test p. c.if-not-hides-5.ensures.none refl test
    (still_counts passes_exposed (seen c.args.store.now) (seen c.hides-4.new.store) c.args.level (sided s LowZ) test e4 p))
    (λ test p. c.if-not-hides-6.ensures.none refl test
    (still_counts passes_exposed (seen c.args.store.now) (seen c.hides-5.new.store) c.args.level (sided s HighZ) test e5 p))
