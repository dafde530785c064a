use Rattle.std.proofs.Common.{Bool, refl, sym, ◌∙◌, ap}
use Rattle.vw_cell.specs.declared.cells.Cell.{Cell}
use Rattle.history_model.specs.declared.questions.Question.TheVariants as questions
use Rattle.transcript.specs.declared.answers.Answer.TheVariants as answers
use Rattle.voxdag_c.specs.held.Calls.{WorldAsks, held_side, cells_of_version, tints_at}
use Rattle.voxdag_c.specs.held.Places.{cell_of_c_place}
use Rattle.voxdag_c.proofs.OfHeld.Changing.{asked, not_asked, tells_is}
use Rattle.voxdag_c.proofs.OfHeld.Fitting.{cell_leaves}
use Rattle.voxdag_c.proofs.held.worlds.CWorld.get.Goals as goal

pub returns-in-Ok-clause-asks : goal.returns-in-Ok-clause-asks
returns-in-Ok-clause-asks c =
    asked c.args.self.now c.args.version (questions.Get c.in-Some.c)
    (questions.Get (cell_of_c_place c.args.place)) _ _
    (ap (λ (x : Cell). questions.Get x) c.in-Some.ensures.value) c.in-Ok.answer c.in-Ok.ensures.told
    (tells_is (held_side c.args.self.now) (cells_of_version c.args.self.now c.args.version)
    (tints_at c.args.self.now c.args.version) c.in-Some.c c.in-Ok.answer c.in-Ok.ensures.told.tells
    ∙ ap (λ (x : Bool). answers.Is x) (sym c.is_in.ensures))

pub returns-in-Err-clause-asks : goal.returns-in-Err-clause-asks
returns-in-Err-clause-asks c =
    not_asked c.args.self.now c.args.version (questions.Get c.in-Some.c)
    (questions.Get (cell_of_c_place c.args.place)) _ _
    (ap (λ (x : Cell). questions.Get x) c.in-Some.ensures.value) c.in-Err.status c.in-Err.ensures.gone refl

pub returns-in-None-clause-asks : goal.returns-in-None-clause-asks
returns-in-None-clause-asks c =
    WorldAsks.outside
    (cell_leaves c.side.result _ c.side.ensures c.args.place c.in-None.ensures.exactly) refl
