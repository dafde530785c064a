use Rattle.std.proofs.Common.{rules, IsTrue}
use Rattle.std.specs.Prelude.{AllPairs}
use Rattle.conformance.specs.Agreeing.{InOrder}
use Rattle.audit.proofs.reruns.Rerun.session_fits.Goals as goal

pub returns-clause-fits : goal.returns-clause-fits
returns-clause-fits g c =
    let t : IsTrue c.is_in_order.result = search rules in
    let pairs : AllPairs InOrder c.args.transcript.now = c.is_in_order.ensures.0 t in (
      λ fit. record { lines = c.lines_fit.ensures.fits.0 fit; moments = pairs },
      λ agrees. c.lines_fit.ensures.fits.1 agrees.lines,
    )
