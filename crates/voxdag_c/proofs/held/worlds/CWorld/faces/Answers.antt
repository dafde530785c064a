use Rattle.std.proofs.Common.{ℕ, refl, sym, ◌∙◌, ap}
use Rattle.vw_cell.specs.declared.boxes.Boxed.{Boxed}
use Rattle.history_model.specs.declared.questions.Question.TheVariants as questions
use Rattle.transcript.specs.declared.answers.Answer.TheVariants as answers
use Rattle.voxdag_c.specs.held.Calls.{WorldAsks, held_side, cells_of_version, tints_at}
use Rattle.voxdag_c.specs.held.Places.{box_of}
use Rattle.voxdag_c.proofs.OfHeld.Changing.{asked, not_asked, tells_faces}
use Rattle.voxdag_c.proofs.OfHeld.Fitting.{box_leaves}
use Rattle.voxdag_c.proofs.held.worlds.CWorld.faces.Goals as goal

pub returns-in-Ok-clause-asks : goal.returns-in-Ok-clause-asks
returns-in-Ok-clause-asks c =
    asked c.args.self.now c.args.version (questions.Faces c.in-Some.b)
    (questions.Faces (box_of c.args.part)) _ _
    (ap (λ (x : Boxed). questions.Faces x) c.in-Some.ensures.value) c.in-Ok.answer c.in-Ok.ensures.told
    (tells_faces (held_side c.args.self.now) (cells_of_version c.args.self.now c.args.version)
    (tints_at c.args.self.now c.args.version) c.in-Some.b c.in-Ok.answer c.in-Ok.ensures.told.tells
    ∙ ap (λ (x : ℕ). answers.Faces x) (sym c.faces_in.ensures))

pub returns-in-Err-clause-asks : goal.returns-in-Err-clause-asks
returns-in-Err-clause-asks c =
    not_asked c.args.self.now c.args.version (questions.Faces c.in-Some.b)
    (questions.Faces (box_of c.args.part)) _ _
    (ap (λ (x : Boxed). questions.Faces x) c.in-Some.ensures.value) c.in-Err.status c.in-Err.ensures.gone refl

pub returns-in-None-clause-asks : goal.returns-in-None-clause-asks
returns-in-None-clause-asks c =
    WorldAsks.outside
    (box_leaves c.side.result _ c.side.ensures c.args.part c.in-None.ensures.exactly) refl
