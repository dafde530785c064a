use Rattle.std.proofs.Common.{◌/◌, ◌^◌, sym, subst}
use Rattle.std.specs.Prelude.{option_copied}
use Rattle.history_model.specs.declared.questions.Question.{Question}
use Rattle.transcript.specs.declared.answers.Answer.TheVariants as answers
use Rattle.conformance.specs.Fitting.{QuestionFits}
use Rattle.act_rebuilds.specs.questions.AnswersByRoots.{AnswersByTints}
use Rattle.act_rebuilds.proofs.OfQuestions.TintTells.{cell_within, cell_quarter, box_within, get_tinted, colour_tinted, count_tinted, bounds_tinted, faces_tinted, ray_tinted}
use Rattle.act_rebuilds.proofs.questions.tinted.answer_tinted.Goals as goal

pub get-requires-clause-cell : goal.get-requires-clause-cell
get-requires-clause-cell g c =
    cell_within c.args.side c.in-Get.c
    (subst (QuestionFits (2 ^ c.args.side / 4)) c.in-Get.is c.requires.fits)

pub tint_at-requires-clause-cell : goal.tint_at-requires-clause-cell
tint_at-requires-clause-cell g c =
    cell_quarter c.args.side c.in-Colour.c c.requires.large
    (subst (QuestionFits (2 ^ c.args.side / 4)) c.in-Colour.is c.requires.fits)

pub count-requires-clause-inside : goal.count-requires-clause-inside
count-requires-clause-inside g c =
    box_within c.args.side c.in-Count.b
    (subst (QuestionFits (2 ^ c.args.side / 4)) c.in-Count.is c.requires.fits)

pub faces-requires-clause-inside : goal.faces-requires-clause-inside
faces-requires-clause-inside g c =
    box_within c.args.side c.in-Faces.b
    (subst (QuestionFits (2 ^ c.args.side / 4)) c.in-Faces.is c.requires.fits)

pub tint_ray-requires-clause-from : goal.tint_ray-requires-clause-from
tint_ray-requires-clause-from g c =
    cell_quarter c.args.side c.in-Ray.from c.requires.large
    (subst (QuestionFits (2 ^ c.args.side / 4)) c.in-Ray.is c.requires.fits).0

pub returns-in-Get-clause-tells : goal.returns-in-Get-clause-tells
returns-in-Get-clause-tells g c =
    let held = (g.B.Blocks.seen c.args.store.now).held in
    let fits = subst (QuestionFits (2 ^ c.args.side / 4)) c.in-Get.is c.requires.fits in
    subst (λ (q : Question). AnswersByTints held c.args.side (option_copied c.args.root) q
    (answers.Is c.get.result)) (sym c.in-Get.is)
    (get_tinted held c.args.side
    (option_copied c.args.root) c.requires.large c.in-Get.c c.get.result fits
    c.get.ensures.value)

pub returns-in-Colour-clause-tells : goal.returns-in-Colour-clause-tells
returns-in-Colour-clause-tells g c =
    let held = (g.B.Blocks.seen c.args.store.now).held in
    let fits = subst (QuestionFits (2 ^ c.args.side / 4)) c.in-Colour.is c.requires.fits in
    subst (λ (q : Question). AnswersByTints held c.args.side (option_copied c.args.root) q
    (answers.Colour c.tint_at.result)) (sym c.in-Colour.is)
    (colour_tinted held c.args.side
    (option_copied c.args.root) c.requires.large c.in-Colour.c c.tint_at.result fits
    c.tint_at.ensures.value)

pub returns-in-Count-clause-tells : goal.returns-in-Count-clause-tells
returns-in-Count-clause-tells g c =
    let held = (g.B.Blocks.seen c.args.store.now).held in
    let fits = subst (QuestionFits (2 ^ c.args.side / 4)) c.in-Count.is c.requires.fits in
    subst (λ (q : Question). AnswersByTints held c.args.side (option_copied c.args.root) q
    (answers.Count c.count.result)) (sym c.in-Count.is)
    (count_tinted held c.args.side
    (option_copied c.args.root) c.requires.large c.in-Count.b c.count.result fits
    c.count.ensures.number)

pub returns-in-Bounds-clause-tells : goal.returns-in-Bounds-clause-tells
returns-in-Bounds-clause-tells g c =
    let held = (g.B.Blocks.seen c.args.store.now).held in
    subst (λ (q : Question). AnswersByTints held c.args.side (option_copied c.args.root) q
    (answers.Extent c.tint_bounds.result)) (sym c.in-Bounds.is)
    (bounds_tinted held c.args.side
    (option_copied c.args.root) c.requires.large c.tint_bounds.result
    c.tint_bounds.ensures.extent)

pub returns-in-Faces-clause-tells : goal.returns-in-Faces-clause-tells
returns-in-Faces-clause-tells g c =
    let held = (g.B.Blocks.seen c.args.store.now).held in
    let fits = subst (QuestionFits (2 ^ c.args.side / 4)) c.in-Faces.is c.requires.fits in
    subst (λ (q : Question). AnswersByTints held c.args.side (option_copied c.args.root) q
    (answers.Faces c.faces.result)) (sym c.in-Faces.is)
    (faces_tinted held c.args.side
    (option_copied c.args.root) c.requires.large c.in-Faces.b c.faces.result fits
    c.faces.ensures.number)

pub returns-in-Ray-clause-tells : goal.returns-in-Ray-clause-tells
returns-in-Ray-clause-tells g c =
    let held = (g.B.Blocks.seen c.args.store.now).held in
    subst (λ (q : Question). AnswersByTints held c.args.side (option_copied c.args.root) q
    (answers.Hit c.tint_ray.result)) (sym c.in-Ray.is)
    (ray_tinted held c.args.side
    (option_copied c.args.root) c.requires.large c.in-Ray.from c.in-Ray.way c.tint_ray.result
    c.tint_ray.ensures.first)
