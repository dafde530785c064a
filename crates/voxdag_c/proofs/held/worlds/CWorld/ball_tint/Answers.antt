use Rattle.std.proofs.Common.{refl, sym, ◌∙◌}
use Rattle.std.proofs.lemmas.Bool.{false≢true}
use Rattle.voxdag_c.specs.held.Calls.{WorldTints}
use Rattle.voxdag_c.specs.held.Places.{ball_of}
use Rattle.voxdag_c.proofs.OfHeld.Fitting.{ball_fits, ball_leaves}
use Rattle.voxdag_c.proofs.OfHeld.Kinds.{ball_takes, ball_tinted, ball_tint_outside}
use Rattle.voxdag_c.proofs.held.worlds.CWorld.ball_tint.Goals as goal

pub returns-then-not-tint : goal.returns-then-not-tint
returns-then-not-tint c = WorldTints.other_kind (sym c.tint.ensures ∙ c.if-not-tint.true)

pub returns-in-None : goal.returns-in-None
returns-in-None c =
    WorldTints.bad_tint (sym c.tint.ensures ∙ c.if-not-tint.false) (λ good. false≢true (c.in-None.ensures.exactly.1 good))

pub change-requires-clause-fits : goal.change-requires-clause-fits
change-requires-clause-fits c =
    ball_takes c.args.self.now c.args.tint c.in-Some.tint c.in-Some.ensures.value (sym c.tint.ensures ∙ c.if-not-tint.false)
    (c.in-Some.ensures.exactly.0 refl) c.in-Some-ball_in.ball
    (ball_fits c.side.result _ c.side.ensures c.args.centre c.args.radius c.in-Some-ball_in.ball c.in-Some-ball_in.ensures.value c.in-Some-ball_in.ensures.exactly)

pub returns-in-Some-ball_in : goal.returns-in-Some-ball_in
returns-in-Some-ball_in c =
    ball_tinted c.args.self.now c.args.tint c.in-Some.tint c.in-Some.ensures.value (sym c.tint.ensures ∙ c.if-not-tint.false)
    (c.in-Some.ensures.exactly.0 refl) c.in-Some-ball_in.ball (ball_of c.args.centre c.args.radius)
    c.change.result c.change.new.self c.in-Some-ball_in.ensures.value c.change.ensures

pub returns-in-None-ball_in : goal.returns-in-None-ball_in
returns-in-None-ball_in c =
    ball_tint_outside c.args.self.now c.args.tint (sym c.tint.ensures ∙ c.if-not-tint.false) (c.in-Some.ensures.exactly.0 refl)
    (ball_of c.args.centre c.args.radius)
    (ball_leaves c.side.result _ c.side.ensures c.args.centre c.args.radius c.in-None-ball_in.ensures.exactly)
