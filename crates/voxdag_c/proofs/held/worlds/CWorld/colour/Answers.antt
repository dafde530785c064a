use Rattle.std.proofs.Common.{ℕ, refl, sym, ◌∙◌, ap}
use Rattle.vw_cell.specs.declared.cells.Cell.{Cell}
use Rattle.history_model.specs.declared.questions.Question.TheVariants as questions
use Rattle.transcript.specs.declared.answers.Answer.TheVariants as answers
use Rattle.voxdag_c.specs.held.Calls.{ByKind, WorldAsks, held_side, cells_of_version, tints_at}
use Rattle.voxdag_c.specs.held.Places.{cell_of_c_place}
use Rattle.voxdag_c.proofs.OfHeld.Changing.{asked, not_asked, tells_colour}
use Rattle.voxdag_c.proofs.OfHeld.Fitting.{cell_leaves}
use Rattle.voxdag_c.proofs.OfHeld.Kinds.{not_tinted}
use Rattle.voxdag_c.proofs.held.worlds.CWorld.colour.Goals as goal

pub returns-then-not-tint-clause-asks : goal.returns-then-not-tint-clause-asks
returns-then-not-tint-clause-asks c =
    ByKind.other_kind (not_tinted c.args.self.now (sym c.tint.ensures ∙ c.if-not-tint.true)) refl

pub returns-in-Ok-clause-asks : goal.returns-in-Ok-clause-asks
returns-in-Ok-clause-asks c =
    ByKind.does 0 (sym c.tint.ensures ∙ c.if-not-tint.false)
    (asked c.args.self.now c.args.version (questions.Colour c.in-Some.c)
    (questions.Colour (cell_of_c_place c.args.place)) _ _
    (ap (λ (x : Cell). questions.Colour x) c.in-Some.ensures.value) c.in-Ok.answer c.in-Ok.ensures.told
    (tells_colour (held_side c.args.self.now) (cells_of_version c.args.self.now c.args.version)
    (tints_at c.args.self.now c.args.version) c.in-Some.c c.in-Ok.answer c.in-Ok.ensures.told.tells
    ∙ ap (λ (x : ℕ). answers.Colour x) (sym c.tint_in_answer.ensures)))

pub returns-in-Err-clause-asks : goal.returns-in-Err-clause-asks
returns-in-Err-clause-asks c =
    ByKind.does c.in-Err.status (sym c.tint.ensures ∙ c.if-not-tint.false)
    (not_asked c.args.self.now c.args.version (questions.Colour c.in-Some.c)
    (questions.Colour (cell_of_c_place c.args.place)) _ _
    (ap (λ (x : Cell). questions.Colour x) c.in-Some.ensures.value) c.in-Err.status c.in-Err.ensures.gone refl)

pub returns-in-None-clause-asks : goal.returns-in-None-clause-asks
returns-in-None-clause-asks c =
    ByKind.does 3 (sym c.tint.ensures ∙ c.if-not-tint.false)
    (WorldAsks.outside
    (cell_leaves c.side.result _ c.side.ensures c.args.place c.in-None.ensures.exactly) refl)
