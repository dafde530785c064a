use Rattle.std.proofs.Common.{rules, IsTrue, ◌≡◌, ◌∙◌, arith, get_or, sym, List}
use Rattle.script.specs.declared.commands.ScriptLine.{ScriptLine}
use Rattle.transcript.specs.declared.answers.LineAnswer.{LineAnswer}
use Rattle.audit.proofs.Gathering.{sessions_more, first_at, agrees_as}
use Rattle.audit.proofs.reruns.Rerun.each_fits.Goals as goal

pub returns-then-not-one_fits-clause-fits : goal.returns-then-not-one_fits-clause-fits
returns-then-not-one_fits-clause-fits g c =
    let models : c.loop-i.self.replay.models ≡ c.args.self.now.replay.models = search rules in
    let s : List ScriptLine = c.index-scripts-i.result in
    let t : List LineAnswer = c.index-transcripts-i.result in (
      λ t. absurd (let no : ⊥ = cc in no),
      λ all. absurd (let is : IsTrue c.one_fits.result = c.one_fits.ensures.fits.1
          (agrees_as c.args.judged.now c.args.self.now.replay.models c.loop-i.self.replay.models c.args.log.now c.loop-i.i
          (get_or c.args.scripts.now c.loop-i.i s) s (get_or c.args.transcripts.now c.loop-i.i t) t
          (sym models) (sym c.index-scripts-i.is) (sym c.index-transcripts-i.is)
          (first_at c.args.judged.now c.args.self.now.replay.models c.args.log.now c.loop-i.i
          c.args.scripts.now c.args.transcripts.now s t all (omega arith))) in search rules),
    )

pub loop-i-preserved : goal.loop-i-preserved
loop-i-preserved g c =
    let models : c.loop-i.self.replay.models ≡ c.args.self.now.replay.models = search rules in
    let fits : IsTrue c.one_fits.result = search rules in
    let s : List ScriptLine = c.index-scripts-i.result in
    let t : List LineAnswer = c.index-transcripts-i.result in
    record {
      same = c.one_fits.ensures.same ∙ c.loop-i.invariant.same;
      so_far = sessions_more c.args.judged.now c.args.self.now.replay.models c.args.log.now c.loop-i.i
          c.args.scripts.now c.args.transcripts.now s t c.loop-i.invariant.so_far
          (omega arith) c.requires.as_many
          (agrees_as c.args.judged.now c.loop-i.self.replay.models c.args.self.now.replay.models c.args.log.now c.loop-i.i
          s (get_or c.args.scripts.now c.loop-i.i s) t (get_or c.args.transcripts.now c.loop-i.i t)
          models c.index-scripts-i.is c.index-transcripts-i.is (c.one_fits.ensures.fits.0 fits));
    }
