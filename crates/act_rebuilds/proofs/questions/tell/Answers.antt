use Rattle.std.proofs.Common.{ℕ, ◌^◌, sym, subst}
use Rattle.std.specs.Prelude.{option_copied}
use Rattle.history_model.specs.declared.questions.Question.{Question}
use Rattle.history_model.specs.declared.questions.Question.TheVariants.{Colour}
use Rattle.transcript.specs.declared.answers.Answer.TheVariants as answers
use Rattle.conformance.specs.Fitting.{QuestionFits}
use Rattle.act_rebuilds.specs.questions.AnswersByRoots.{AnswersByRoot}
use Rattle.act_rebuilds.proofs.OfQuestions.RootTells.{get_told, colour_told, count_told, bounds_told, faces_told, ray_told}
use Rattle.act_rebuilds.proofs.questions.tell.Goals as goal

pub returns-in-Get-clause-tells : goal.returns-in-Get-clause-tells
returns-in-Get-clause-tells g c =
    let held = (g.B.Blocks.seen c.args.store.now).held in
    let fits = subst (QuestionFits (2 ^ c.args.side)) c.in-Get.is c.requires.fits in
    subst (λ (q : Question). AnswersByRoot held c.args.side (option_copied c.args.root) q
    (answers.Is c.get.result)) (sym c.in-Get.is)
    (get_told held c.args.side
    (option_copied c.args.root) c.in-Get.c c.get.result fits c.get.ensures.value)

pub returns-in-Colour-clause-tells : goal.returns-in-Colour-clause-tells
returns-in-Colour-clause-tells g c =
    let held = (g.B.Blocks.seen c.args.store.now).held in
    let fits = subst (QuestionFits (2 ^ c.args.side)) c.in-Colour.is c.requires.fits in
    subst (λ (q : Question). AnswersByRoot held c.args.side (option_copied c.args.root) q
    (answers.Colour c.tint_of.result)) (sym c.in-Colour.is)
    (subst (λ (n : ℕ). AnswersByRoot held c.args.side (option_copied c.args.root)
    (Colour c.in-Colour.c) (answers.Colour n)) (sym c.tint_of.ensures)
    (colour_told held c.args.side
    (option_copied c.args.root) c.in-Colour.c c.get-in-Colour.result fits c.get-in-Colour.ensures.value))

pub returns-in-Count-clause-tells : goal.returns-in-Count-clause-tells
returns-in-Count-clause-tells g c =
    let held = (g.B.Blocks.seen c.args.store.now).held in
    let fits = subst (QuestionFits (2 ^ c.args.side)) c.in-Count.is c.requires.fits in
    subst (λ (q : Question). AnswersByRoot held c.args.side (option_copied c.args.root) q
    (answers.Count c.count.result)) (sym c.in-Count.is)
    (count_told held c.args.side
    (option_copied c.args.root) c.in-Count.b c.count.result fits c.count.ensures.number)

pub returns-in-Bounds-clause-tells : goal.returns-in-Bounds-clause-tells
returns-in-Bounds-clause-tells g c =
    let held = (g.B.Blocks.seen c.args.store.now).held in
    subst (λ (q : Question). AnswersByRoot held c.args.side (option_copied c.args.root) q
    (answers.Extent c.bounds.result)) (sym c.in-Bounds.is)
    (bounds_told held c.args.side
    (option_copied c.args.root) c.bounds.result c.bounds.ensures.extent)

pub returns-in-Faces-clause-tells : goal.returns-in-Faces-clause-tells
returns-in-Faces-clause-tells g c =
    let held = (g.B.Blocks.seen c.args.store.now).held in
    let fits = subst (QuestionFits (2 ^ c.args.side)) c.in-Faces.is c.requires.fits in
    subst (λ (q : Question). AnswersByRoot held c.args.side (option_copied c.args.root) q
    (answers.Faces c.faces.result)) (sym c.in-Faces.is)
    (faces_told held c.args.side
    (option_copied c.args.root) c.in-Faces.b c.faces.result fits c.faces.ensures.number)

pub returns-in-Ray-clause-tells : goal.returns-in-Ray-clause-tells
returns-in-Ray-clause-tells g c =
    let held = (g.B.Blocks.seen c.args.store.now).held in
    subst (λ (q : Question). AnswersByRoot held c.args.side (option_copied c.args.root) q
    (answers.Hit c.ray.result)) (sym c.in-Ray.is)
    (ray_told held c.args.side
    (option_copied c.args.root) c.in-Ray.from c.in-Ray.way c.ray.result c.ray.ensures.first)
