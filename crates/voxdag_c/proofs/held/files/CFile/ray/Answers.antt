use Rattle.std.proofs.Common.{Option, refl, sym, ◌∙◌, ap, subst}
use Rattle.std.proofs.lemmas.Bool.{false≢true}
use Rattle.vw_cell.specs.declared.cells.Cell.{Cell}
use Rattle.history_model.specs.Ways.{Heading, IsHeading, heading_of}
use Rattle.history_model.specs.declared.questions.Question.TheVariants as questions
use Rattle.transcript.specs.declared.answers.Answer.TheVariants as answers
use Rattle.voxdag_c.specs.held.Places.{cell_of_c_place}
use Rattle.voxdag_c.specs.held.Files.{FileAsks}
use Rattle.voxdag_c.proofs.OfHeld.FileAsks.{file_told, file_lacks, file_cells, file_hit}
use Rattle.voxdag_c.proofs.OfHeld.Fitting.{cell_fits, cell_leaves, cell_lies, same_steps}
use Rattle.voxdag_c.proofs.held.files.CFile.ray.Goals as goal

pub returns-in-None : goal.returns-in-None
returns-in-None c =
    FileAsks.outside
    (cell_leaves c.side.result _
    (file_cells c.args.self.now c.view.result c.side.result c.view.ensures c.side.ensures)
    c.args.from c.in-None.ensures.exactly) (refl, refl)

pub returns-in-None-new : goal.returns-in-None-new
returns-in-None-new c =
    let steps = same_steps c.args.dx c.args.dy c.args.dz c.ranges.dx c.ranges.dy c.ranges.dz in
    FileAsks.no_way
    (cell_lies c.side.result _
    (file_cells c.args.self.now c.view.result c.side.result c.view.ensures c.side.ensures)
    c.args.from c.in-Some.from c.in-Some.ensures.exactly)
    (λ f. false≢true
    (c.in-None-new.ensures.exactly.1 (subst (λ (h : Heading). IsHeading h) (sym steps) f.1)))
    (refl, refl)

pub returns-in-Some-ask : goal.returns-in-Some-ask
returns-in-Some-ask c =
    let f = c.args.self.now in
    let way =
    c.in-Some-new.ensures.value
    ∙ same_steps c.args.dx c.args.dy c.args.dz c.ranges.dx c.ranges.dy c.ranges.dz in
    file_told f c.args.version (questions.Ray c.in-Some.from c.in-Some-new.way)
    (questions.Ray (cell_of_c_place c.args.from) (heading_of c.args.dx c.args.dy c.args.dz)) _ _
    (λ i. questions.Ray (c.in-Some.ensures.value i) (way i)) c.in-Some-ask.answer (
      cell_fits c.side.result _ (file_cells f c.view.result c.side.result c.view.ensures c.side.ensures)
          c.args.from c.in-Some.from c.in-Some.ensures.value c.in-Some.ensures.exactly,
      subst (λ (h : Heading). IsHeading h) (sym c.in-Some-new.ensures.value)
          (c.in-Some-new.ensures.exactly.0 refl),
    ) c.in-Some-ask.ensures (
      file_hit f.file.bytes f.file.side c.args.version c.in-Some-ask.answer c.in-Some.from c.in-Some-new.way c.in-Some-ask.ensures
          ∙ ap (λ (o : Option Cell). answers.Hit o)
          (sym c.hit_in.ensures ∙ sym c.put_hit.ensures.found),
      c.put_hit.ensures.none,
    )

pub returns-in-None-ask : goal.returns-in-None-ask
returns-in-None-ask c =
    let f = c.args.self.now in
    let way =
    c.in-Some-new.ensures.value
    ∙ same_steps c.args.dx c.args.dy c.args.dz c.ranges.dx c.ranges.dy c.ranges.dz in
    file_lacks f c.args.version (questions.Ray c.in-Some.from c.in-Some-new.way)
    (questions.Ray (cell_of_c_place c.args.from) (heading_of c.args.dx c.args.dy c.args.dz)) _ _
    (λ i. questions.Ray (c.in-Some.ensures.value i) (way i)) (
      cell_fits c.side.result _ (file_cells f c.view.result c.side.result c.view.ensures c.side.ensures)
          c.args.from c.in-Some.from c.in-Some.ensures.value c.in-Some.ensures.exactly,
      subst (λ (h : Heading). IsHeading h) (sym c.in-Some-new.ensures.value)
          (c.in-Some-new.ensures.exactly.0 refl),
    ) c.in-None-ask.ensures (refl, refl)
