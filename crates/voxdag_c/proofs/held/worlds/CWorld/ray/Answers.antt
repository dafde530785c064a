use Rattle.std.proofs.Common.{Option, refl, sym, ◌∙◌, ap, subst}
use Rattle.std.proofs.lemmas.Bool.{false≢true}
use Rattle.vw_cell.specs.declared.cells.Cell.{Cell}
use Rattle.history_model.specs.Ways.{Heading, IsHeading, heading_of}
use Rattle.history_model.specs.declared.questions.Question.TheVariants as questions
use Rattle.transcript.specs.declared.answers.Answer.TheVariants as answers
use Rattle.voxdag_c.specs.held.Calls.{WorldAsks, held_side, cells_of_version, tints_at}
use Rattle.voxdag_c.specs.held.Places.{cell_of_c_place}
use Rattle.voxdag_c.proofs.OfHeld.Changing.{asked, not_asked, tells_hit}
use Rattle.voxdag_c.proofs.OfHeld.Fitting.{cell_leaves, cell_lies, same_steps}
use Rattle.voxdag_c.proofs.held.worlds.CWorld.ray.Goals as goal

pub returns-in-None-clause-asks : goal.returns-in-None-clause-asks
returns-in-None-clause-asks c =
    WorldAsks.outside
    (cell_leaves c.side.result _ c.side.ensures c.args.from c.in-None.ensures.exactly)
    (refl, refl)

pub returns-in-None-new-clause-asks : goal.returns-in-None-new-clause-asks
returns-in-None-new-clause-asks c =
    let steps = same_steps c.args.dx c.args.dy c.args.dz c.ranges.dx c.ranges.dy c.ranges.dz in
    WorldAsks.no_way
    (cell_lies c.side.result _ c.side.ensures c.args.from c.in-Some.from c.in-Some.ensures.exactly)
    (λ f. false≢true
    (c.in-None-new.ensures.exactly.1 (subst (λ (h : Heading). IsHeading h) (sym steps) f.1)))
    (refl, refl)

pub returns-in-Ok-clause-asks : goal.returns-in-Ok-clause-asks
returns-in-Ok-clause-asks c =
    let way =
    c.in-Some-new.ensures.value
    ∙ same_steps c.args.dx c.args.dy c.args.dz c.ranges.dx c.ranges.dy c.ranges.dz in
    asked c.args.self.now c.args.version (questions.Ray c.in-Some.from c.in-Some-new.way)
    (questions.Ray (cell_of_c_place c.args.from) (heading_of c.args.dx c.args.dy c.args.dz)) _ _
    (λ i. questions.Ray (c.in-Some.ensures.value i) (way i)) c.in-Ok.answer c.in-Ok.ensures.told (
      tells_hit (held_side c.args.self.now) (cells_of_version c.args.self.now c.args.version)
          (tints_at c.args.self.now c.args.version) c.in-Some.from c.in-Some-new.way c.in-Ok.answer c.in-Ok.ensures.told.tells
          ∙ ap (λ (o : Option Cell). answers.Hit o)
          (sym c.hit_in.ensures ∙ sym c.put_hit.ensures.found),
      c.put_hit.ensures.none,
    )

pub returns-in-Err-clause-asks : goal.returns-in-Err-clause-asks
returns-in-Err-clause-asks c =
    let way =
    c.in-Some-new.ensures.value
    ∙ same_steps c.args.dx c.args.dy c.args.dz c.ranges.dx c.ranges.dy c.ranges.dz in
    not_asked c.args.self.now c.args.version (questions.Ray c.in-Some.from c.in-Some-new.way)
    (questions.Ray (cell_of_c_place c.args.from) (heading_of c.args.dx c.args.dy c.args.dz)) _ _
    (λ i. questions.Ray (c.in-Some.ensures.value i) (way i)) c.in-Err.status c.in-Err.ensures.gone
    (refl, refl)
