use Rattle.conformance.proofs.OfScripts.PlainTargets.{plain_target_wanted, plain_failure_meets_full}
use Rattle.conformance.proofs.scripts.laws.plain_edits_want_their_parts.Goals as goal

pub returns : goal.returns
returns c = record {
  wanted = λ p models records act version target s of part. plain_target_wanted p models records act version target of s part;
  full = λ p models records act version target level bucket old new of fails. plain_failure_meets_full p models records act version target of level bucket old new fails;
}
