use Rattle.std.proofs.Common.{ℕ, refl, sym, ◌∙◌, ap}
use Rattle.vw_cell.specs.declared.boxes.Boxed.{Boxed}
use Rattle.history_model.specs.declared.questions.Question.TheVariants as questions
use Rattle.transcript.specs.declared.answers.Answer.TheVariants as answers
use Rattle.voxdag_c.specs.held.Places.{box_of}
use Rattle.voxdag_c.specs.held.Files.{FileAsks}
use Rattle.voxdag_c.proofs.OfHeld.FileAsks.{file_told, file_lacks, file_cells, file_counts}
use Rattle.voxdag_c.proofs.OfHeld.Fitting.{box_fits, box_leaves}
use Rattle.voxdag_c.proofs.held.files.CFile.count.Goals as goal

pub returns-in-Some-ask : goal.returns-in-Some-ask
returns-in-Some-ask c =
    let f = c.args.self.now in
    file_told f c.args.version (questions.Count c.in-Some.b)
    (questions.Count (box_of c.args.part)) _ _
    (ap (λ (x : Boxed). questions.Count x) c.in-Some.ensures.value) c.in-Some-ask.answer
    (box_fits c.side.result _ (file_cells f c.view.result c.side.result c.view.ensures c.side.ensures)
    c.args.part c.in-Some.b c.in-Some.ensures.value c.in-Some.ensures.exactly)
    c.in-Some-ask.ensures
    (file_counts f.file.bytes f.file.side c.args.version c.in-Some-ask.answer c.in-Some.b c.in-Some-ask.ensures
    ∙ ap (λ (x : ℕ). answers.Count x) (sym c.cells_in.ensures))

pub returns-in-None-ask : goal.returns-in-None-ask
returns-in-None-ask c =
    let f = c.args.self.now in
    file_lacks f c.args.version (questions.Count c.in-Some.b)
    (questions.Count (box_of c.args.part)) _ _
    (ap (λ (x : Boxed). questions.Count x) c.in-Some.ensures.value)
    (box_fits c.side.result _ (file_cells f c.view.result c.side.result c.view.ensures c.side.ensures)
    c.args.part c.in-Some.b c.in-Some.ensures.value c.in-Some.ensures.exactly)
    c.in-None-ask.ensures refl

pub returns-in-None : goal.returns-in-None
returns-in-None c =
    FileAsks.outside
    (box_leaves c.side.result _
    (file_cells c.args.self.now c.view.result c.side.result c.view.ensures c.side.ensures)
    c.args.part c.in-None.ensures.exactly) refl
