use Rattle.std.proofs.Common.{rules, IsTrue}
use Rattle.audit.specs.Counts.{ShowAsMany}
use Rattle.audit.proofs.Gathering.{agrees_by}
use Rattle.audit.proofs.reruns.Rerun.agrees.Goals as goal

pub returns-clause-fits : goal.returns-clause-fits
returns-clause-fits g c =
    let t : IsTrue c.show_as_many.result = search rules in
    let many : ShowAsMany c.args.keep c.args.transcripts.now c.args.log.now =
    c.show_as_many.ensures.0 t in
    let by =
    agrees_by c.args.keep c.args.judged.now c.args.self.now.replay.models c.args.log.now c.args.scripts.now
    c.args.transcripts.now c.requires.scripts.rise c.requires.marks c.requires.last in (
      λ fit. by.0 (c.sessions_fit.ensures.fits.0 fit, many),
      λ agrees. c.sessions_fit.ensures.fits.1 (by.1 agrees).0,
    )
