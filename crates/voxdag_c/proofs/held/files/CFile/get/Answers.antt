use Rattle.std.proofs.Common.{Bool, refl, sym, ◌∙◌, ap}
use Rattle.vw_cell.specs.declared.cells.Cell.{Cell}
use Rattle.history_model.specs.declared.questions.Question.TheVariants as questions
use Rattle.transcript.specs.declared.answers.Answer.TheVariants as answers
use Rattle.voxdag_c.specs.held.Places.{cell_of_c_place}
use Rattle.voxdag_c.specs.held.Files.{FileAsks}
use Rattle.voxdag_c.proofs.OfHeld.FileAsks.{file_told, file_lacks, file_cells, file_is}
use Rattle.voxdag_c.proofs.OfHeld.Fitting.{cell_fits, cell_leaves}
use Rattle.voxdag_c.proofs.held.files.CFile.get.Goals as goal

pub returns-in-Some-ask : goal.returns-in-Some-ask
returns-in-Some-ask c =
    let f = c.args.self.now in
    file_told f c.args.version (questions.Get c.in-Some.c)
    (questions.Get (cell_of_c_place c.args.place)) _ _
    (ap (λ (x : Cell). questions.Get x) c.in-Some.ensures.value) c.in-Some-ask.answer
    (cell_fits c.side.result _ (file_cells f c.view.result c.side.result c.view.ensures c.side.ensures)
    c.args.place c.in-Some.c c.in-Some.ensures.value c.in-Some.ensures.exactly)
    c.in-Some-ask.ensures
    (file_is f.file.bytes f.file.side c.args.version c.in-Some-ask.answer c.in-Some.c c.in-Some-ask.ensures
    ∙ ap (λ (x : Bool). answers.Is x) (sym c.is_in.ensures))

pub returns-in-None-ask : goal.returns-in-None-ask
returns-in-None-ask c =
    let f = c.args.self.now in
    file_lacks f c.args.version (questions.Get c.in-Some.c)
    (questions.Get (cell_of_c_place c.args.place)) _ _
    (ap (λ (x : Cell). questions.Get x) c.in-Some.ensures.value)
    (cell_fits c.side.result _ (file_cells f c.view.result c.side.result c.view.ensures c.side.ensures)
    c.args.place c.in-Some.c c.in-Some.ensures.value c.in-Some.ensures.exactly)
    c.in-None-ask.ensures refl

pub returns-in-None : goal.returns-in-None
returns-in-None c =
    FileAsks.outside
    (cell_leaves c.side.result _
    (file_cells c.args.self.now c.view.result c.side.result c.view.ensures c.side.ensures)
    c.args.place c.in-None.ensures.exactly) refl
