use Rattle.std.proofs.Common.{ℕ, subst, arith}
use Rattle.store_run.proofs.Answering.{forgets_head, forget_missing, forget_marked, forgot_version}
use Rattle.transcript.specs.declared.answers.Answer.TheVariants.{Forgot}
use Rattle.conformance.specs.Answers.{mark_of}
use Rattle.store_run.specs.Kept.{log_of, moment_of}
use Rattle.store_run.specs.Changing.{AnswersForget}
use Rattle.store_run.proofs.Answering.{kept_earlier}
use Rattle.store_run.proofs.Changing.{forget_missing_logs, forget_marked_logs, forgets_head_logs, forgot_logs}
use Rattle.store_run.proofs.stored_versions.Versions.forget_version.Goals as goal

pub returns-then-version-at-clause-goes_on : goal.returns-then-version-at-clause-goes_on
returns-then-version-at-clause-goes_on g c =
    forgets_head c.args.self.now c.args.session c.args.line c.requires.are c.args.version
    (omega (arith, c.if-version-at.true, c.moment-at.ensures.value))

pub returns-in-NotThere-clause-goes_on : goal.returns-in-NotThere-clause-goes_on
returns-in-NotThere-clause-goes_on g c =
    forget_missing c.args.self.now c.args.session c.args.line c.requires.are c.args.version c.in-NotThere.ensures

pub returns-in-Marked-clause-goes_on : goal.returns-in-Marked-clause-goes_on
returns-in-Marked-clause-goes_on g c =
    forget_marked c.args.self.now c.args.session c.args.line c.requires.are c.args.version c.in-Marked.ensures

pub returns-else-version-at-clause-goes_on : goal.returns-else-version-at-clause-goes_on
returns-else-version-at-clause-goes_on g c =
    forgot_version c.args.self.now c.forget.new.self c.args.session c.args.line c.args.version c.moment-at.result c.moment-at.ensures.value
    c.forget.ensures.marks

pub returns-then-version-at-clause-logs : goal.returns-then-version-at-clause-logs
returns-then-version-at-clause-logs g c =
    forgets_head_logs c.args.self.now
    (mark_of c.args.version (moment_of c.args.self.now) c.args.session c.args.line)
    (omega (arith, c.if-version-at.true, c.moment-at.ensures.value))

pub returns-in-NotThere-clause-logs : goal.returns-in-NotThere-clause-logs
returns-in-NotThere-clause-logs g c =
    forget_missing_logs c.args.self.now
    (mark_of c.args.version
    (moment_of c.args.self.now) c.args.session c.args.line) c.in-NotThere.ensures

pub returns-in-Marked-clause-logs : goal.returns-in-Marked-clause-logs
returns-in-Marked-clause-logs g c =
    forget_marked_logs c.args.self.now
    (mark_of c.args.version
    (moment_of c.args.self.now) c.args.session c.args.line) c.in-Marked.ensures

pub returns-else-version-at-clause-logs : goal.returns-else-version-at-clause-logs
returns-else-version-at-clause-logs g c =
    subst (λ (n : ℕ). AnswersForget (log_of c.args.self.now)
    (mark_of c.args.version n c.args.session c.args.line) (Forgot c.args.version)
    (log_of c.forget.new.self))
    c.moment-at.ensures.value
    (forgot_logs c.args.self.now
    (mark_of c.args.version c.moment-at.result c.args.session c.args.line) c.forget.new.self c.in-Kept.ensures
    (kept_earlier c.args.self.now c.args.version c.moment-at.result c.in-Kept.ensures c.moment-at.ensures.value (λ e. omega (arith, c.if-version-at.false, e)))
    c.forget.ensures.marks)
