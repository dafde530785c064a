use Rattle.std.proofs.Common.{refl, sym, ◌∙◌}
use Rattle.std.proofs.lemmas.Bool.{false≢true}
use Rattle.voxdag_c.specs.held.Calls.{WorldTints}
use Rattle.voxdag_c.specs.held.Places.{box_of}
use Rattle.voxdag_c.proofs.OfHeld.Fitting.{box_fits, box_leaves}
use Rattle.voxdag_c.proofs.OfHeld.Kinds.{box_takes, box_tinted, box_tint_outside}
use Rattle.voxdag_c.proofs.held.worlds.CWorld.fill_tint.Goals as goal

pub returns-then-not-tint : goal.returns-then-not-tint
returns-then-not-tint c = WorldTints.other_kind (sym c.tint.ensures ∙ c.if-not-tint.true)

pub returns-in-None : goal.returns-in-None
returns-in-None c =
    WorldTints.bad_tint (sym c.tint.ensures ∙ c.if-not-tint.false) (λ good. false≢true (c.in-None.ensures.exactly.1 good))

pub change-requires-clause-fits : goal.change-requires-clause-fits
change-requires-clause-fits c =
    box_takes c.args.self.now c.args.tint c.in-Some.tint c.in-Some.ensures.value (sym c.tint.ensures ∙ c.if-not-tint.false)
    (c.in-Some.ensures.exactly.0 refl) c.in-Some-box_in.b
    (box_fits c.side.result _ c.side.ensures c.args.part c.in-Some-box_in.b c.in-Some-box_in.ensures.value c.in-Some-box_in.ensures.exactly)

pub returns-in-Some-box_in : goal.returns-in-Some-box_in
returns-in-Some-box_in c =
    box_tinted c.args.self.now c.args.tint c.in-Some.tint c.in-Some.ensures.value (sym c.tint.ensures ∙ c.if-not-tint.false)
    (c.in-Some.ensures.exactly.0 refl) c.in-Some-box_in.b (box_of c.args.part) c.change.result
    c.change.new.self c.in-Some-box_in.ensures.value c.change.ensures

pub returns-in-None-box_in : goal.returns-in-None-box_in
returns-in-None-box_in c =
    box_tint_outside c.args.self.now c.args.tint (sym c.tint.ensures ∙ c.if-not-tint.false) (c.in-Some.ensures.exactly.0 refl)
    (box_of c.args.part)
    (box_leaves c.side.result _ c.side.ensures c.args.part c.in-None-box_in.ensures.exactly)
