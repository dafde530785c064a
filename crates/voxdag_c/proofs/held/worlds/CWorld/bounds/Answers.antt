use Rattle.std.proofs.Common.{Option, refl, sym, ◌∙◌, ap}
use Rattle.vw_cell.specs.declared.boxes.Boxed.{Boxed}
use Rattle.history_model.specs.declared.questions.Question.TheVariants as questions
use Rattle.transcript.specs.declared.answers.Answer.TheVariants as answers
use Rattle.voxdag_c.specs.held.Calls.{WorldAsks, held_side, cells_of_version, tints_at}
use Rattle.voxdag_c.proofs.OfHeld.Changing.{asked, tells_extent}
use Rattle.voxdag_c.proofs.held.worlds.CWorld.bounds.Goals as goal

pub returns-in-Ok-clause-asks : goal.returns-in-Ok-clause-asks
returns-in-Ok-clause-asks c =
    asked c.args.self.now c.args.version questions.Bounds questions.Bounds _ _ refl c.in-Ok.answer c.in-Ok.ensures.told (
      tells_extent (held_side c.args.self.now) (cells_of_version c.args.self.now c.args.version)
          (tints_at c.args.self.now c.args.version) c.in-Ok.answer c.in-Ok.ensures.told.tells
          ∙ ap (λ (o : Option Boxed). answers.Extent o)
          (sym c.extent_in.ensures ∙ sym c.put_extent.ensures.found),
      c.put_extent.ensures.none,
    )

pub returns-in-Err-clause-asks : goal.returns-in-Err-clause-asks
returns-in-Err-clause-asks c = WorldAsks.gone c.in-Err.status c.in-Err.ensures.gone (refl, refl)
