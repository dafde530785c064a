use Rattle.std.proofs.Common.{Option, refl, sym, ◌∙◌, ap}
use Rattle.vw_cell.specs.declared.boxes.Boxed.{Boxed}
use Rattle.history_model.specs.declared.questions.Question.TheVariants as questions
use Rattle.transcript.specs.declared.answers.Answer.TheVariants as answers
use Rattle.voxdag_c.specs.held.Files.{FileAsks}
use Rattle.voxdag_c.proofs.OfHeld.FileAsks.{file_told, file_extent}
use Rattle.voxdag_c.proofs.held.files.CFile.bounds.Goals as goal

pub returns-in-Some : goal.returns-in-Some
returns-in-Some c =
    let f = c.args.self.now in
    file_told f c.args.version questions.Bounds questions.Bounds _ _ refl c.in-Some.answer tt c.in-Some.ensures (
      file_extent f.file.bytes f.file.side c.args.version c.in-Some.answer c.in-Some.ensures
          ∙ ap (λ (o : Option Boxed). answers.Extent o)
          (sym c.extent_in.ensures ∙ sym c.put_extent.ensures.found),
      c.put_extent.ensures.none,
    )

pub returns-in-None : goal.returns-in-None
returns-in-None c = FileAsks.no_version tt c.in-None.ensures (refl, refl)
