use Rattle.std.proofs.Common.{rules, IsTrue, ◌≡◌, ◌∙◌, arith, get_or, sym, subst, List}
use Rattle.history_model.specs.Contents.{Content}
use Rattle.script.specs.declared.commands.ScriptLine.{ScriptLine}
use Rattle.conformance.specs.Answers.{LineFits}
use Rattle.audit.proofs.Ordering.{zip_more, zip_at, any_line}
use Rattle.audit.proofs.reruns.Rerun.lines_fit.Goals as goal

pub returns-then-not-line_fits-clause-fits : goal.returns-then-not-line_fits-clause-fits
returns-then-not-line_fits-clause-fits g c =
    let d : ScriptLine = c.index-script-i.result in
    let same : get_or c.args.script.now c.loop-i.i d ≡ c.index-script-i.result =
    sym c.index-script-i.is in
    let models : c.loop-i.self.replay.models ≡ c.args.self.now.replay.models = search rules in
    let wrong : LineFits c.args.judged.now c.loop-i.self.replay.models c.args.log.now c.args.session
    (get_or c.args.script.now c.loop-i.i d) (get_or c.args.transcript.now c.loop-i.i any_line) → ⊥ =
    (λ fits. absurd (let is : IsTrue c.line_fits.result = c.line_fits.ensures.fits.1
    (subst (λ (l : ScriptLine). LineFits c.args.judged.now c.loop-i.self.replay.models c.args.log.now c.args.session
    l (get_or c.args.transcript.now c.loop-i.i any_line)) same fits) in search rules)) in (
      λ t. absurd (let no : ⊥ = cc in no),
      λ all. absurd
          (subst (λ (ms : List Content). LineFits c.args.judged.now ms c.args.log.now c.args.session
          (get_or c.args.script.now c.loop-i.i d)
          (get_or c.args.transcript.now c.loop-i.i any_line) → ⊥) models wrong
          (zip_at (LineFits c.args.judged.now c.args.self.now.replay.models c.args.log.now c.args.session)
          c.args.script.now c.args.transcript.now c.loop-i.i d any_line all (omega arith))),
    )

pub loop-i-preserved : goal.loop-i-preserved
loop-i-preserved g c =
    let d : ScriptLine = c.index-script-i.result in
    let same : get_or c.args.script.now c.loop-i.i d ≡ c.index-script-i.result =
    sym c.index-script-i.is in
    let models : c.loop-i.self.replay.models ≡ c.args.self.now.replay.models = search rules in
    let fits : LineFits c.args.judged.now c.loop-i.self.replay.models c.args.log.now c.args.session
    (get_or c.args.script.now c.loop-i.i d) (get_or c.args.transcript.now c.loop-i.i any_line) =
    (let t : IsTrue c.line_fits.result = search rules in
    subst (λ (l : ScriptLine). LineFits c.args.judged.now c.loop-i.self.replay.models c.args.log.now c.args.session
    l (get_or c.args.transcript.now c.loop-i.i any_line)) (sym same)
    (c.line_fits.ensures.fits.0 t)) in
    record {
      same = c.line_fits.ensures.same ∙ c.loop-i.invariant.same;
      so_far = zip_more
          (LineFits c.args.judged.now c.args.self.now.replay.models c.args.log.now c.args.session)
          c.args.script.now c.args.transcript.now c.loop-i.i d any_line c.loop-i.invariant.so_far
          (omega arith) c.requires.as_many
          (subst (λ (ms : List Content). LineFits c.args.judged.now ms c.args.log.now c.args.session
          (get_or c.args.script.now c.loop-i.i d)
          (get_or c.args.transcript.now c.loop-i.i any_line)) models fits);
    }
