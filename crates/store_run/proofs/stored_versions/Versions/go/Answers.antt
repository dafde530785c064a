use Rattle.std.proofs.Common.{arith, sym, subst, ◌∙◌}
use Rattle.script.specs.declared.commands.Command.TheVariants.{Edit}
use Rattle.transcript.specs.declared.answers.Answer.{Answer}
use Rattle.store_run.specs.Answering.{ExtendsBy}
use Rattle.store_run.proofs.Answering.{go_nowhere, go_forgotten, go_past, go_late, go_done}
use Rattle.store_run.specs.Changing.{Changes}
use Rattle.store_run.specs.Kept.{log_of}
use Rattle.store_run.proofs.Changing.{go_nowhere_logs, go_forgotten_logs, go_past_logs, go_late_logs, go_done_logs}
use Rattle.store_run.proofs.Targets.{may_go_to}
use Rattle.store_run.proofs.stored_versions.Versions.go.Goals as goal

pub returns-in-None-clause-goes_on : goal.returns-in-None-clause-goes_on
returns-in-None-clause-goes_on c once =
    subst (λ (a : Answer). ExtendsBy c.args.self.now c.args.session
    (record { line = c.args.line; command = Edit c.args.act once }) a c.args.self.now)
    (sym c.nothing_to_go_to.ensures)
    (go_nowhere c.args.self.now c.args.session c.args.line c.args.act once c.requires.are c.requires.other
    (sym c.target.ensures ∙ c.in-None.is))

pub returns-in-Marked-clause-goes_on : goal.returns-in-Marked-clause-goes_on
returns-in-Marked-clause-goes_on c once =
    go_forgotten c.args.self.now c.args.session c.args.line c.args.act once c.requires.are c.requires.other c.in-Some.to
    (sym c.target.ensures ∙ c.in-Some.is) c.in-Marked.ensures

pub returns-in-NotThere-clause-goes_on : goal.returns-in-NotThere-clause-goes_on
returns-in-NotThere-clause-goes_on c once =
    go_past c.args.self.now c.args.session c.args.line c.args.act once c.requires.are c.requires.other c.in-Some.to _
    (sym c.target.ensures ∙ c.in-Some.is) c.in-NotThere.ensures

pub returns-then-moment-eq-RECORDS-clause-goes_on : goal.returns-then-moment-eq-RECORDS-clause-goes_on
returns-then-moment-eq-RECORDS-clause-goes_on c once =
    go_late c.args.self.now c.args.session c.args.line c.args.act once c.requires.are c.requires.other c.in-Some.to
    (sym c.target.ensures ∙ c.in-Some.is) c.in-Kept.ensures
    (omega (arith, c.moment.ensures.value, c.if-moment-eq-RECORDS.true))

pub append-requires-clause-may : goal.append-requires-clause-may
append-requires-clause-may c =
    may_go_to c.args.self.now c.share-root.new.self
    (record { session = c.args.session; line = c.args.line; act = c.args.act }) c.in-Some.to c.number-number.result
    c.share-root.result c.share-root.ensures.are c.number-number.ensures.store c.share-root.ensures.shares c.requires.other
    (sym c.target.ensures ∙ c.in-Some.is) c.in-Kept.ensures
    (λ e. omega (arith, c.moment.ensures.value, c.if-moment-eq-RECORDS.false, e))
    (omega (arith, c.moment.ensures.value, c.moment.ensures.few))

pub returns-clause-goes_on : goal.returns-clause-goes_on
returns-clause-goes_on c once =
    go_done c.args.self.now c.share-root.new.self c.append.new.self c.args.session c.args.line c.args.act once c.in-Some.to c.share-root.result
    c.share-root.ensures.shares c.append.ensures.appends

pub returns-in-None-clause-logs : goal.returns-in-None-clause-logs
returns-in-None-clause-logs c =
    subst (λ (a : Answer). Changes (log_of c.args.self.now)
    (record { session = c.args.session; line = c.args.line; act = c.args.act }) a
    (log_of c.args.self.now))
    (sym c.nothing_to_go_to.ensures)
    (go_nowhere_logs c.args.self.now c.args.session c.args.line c.args.act c.requires.other
    (sym c.target.ensures ∙ c.in-None.is))

pub returns-in-Marked-clause-logs : goal.returns-in-Marked-clause-logs
returns-in-Marked-clause-logs c =
    go_forgotten_logs c.args.self.now c.args.session c.args.line c.args.act c.requires.other c.in-Some.to
    (sym c.target.ensures ∙ c.in-Some.is) c.in-Marked.ensures.1

pub returns-in-NotThere-clause-logs : goal.returns-in-NotThere-clause-logs
returns-in-NotThere-clause-logs c =
    go_past_logs c.args.self.now c.args.session c.args.line c.args.act c.requires.other c.in-Some.to _
    (sym c.target.ensures ∙ c.in-Some.is) c.in-NotThere.ensures

pub returns-then-moment-eq-RECORDS-clause-logs : goal.returns-then-moment-eq-RECORDS-clause-logs
returns-then-moment-eq-RECORDS-clause-logs c =
    go_late_logs c.args.self.now c.args.session c.args.line c.args.act c.requires.other c.in-Some.to
    (sym c.target.ensures ∙ c.in-Some.is) c.in-Kept.ensures
    (omega (arith, c.moment.ensures.value, c.if-moment-eq-RECORDS.true))

pub returns-clause-logs : goal.returns-clause-logs
returns-clause-logs c =
    go_done_logs c.args.self.now c.args.session c.args.line c.args.act c.requires.other c.share-root.new.self c.append.new.self c.in-Some.to c.share-root.result
    (sym c.target.ensures ∙ c.in-Some.is) c.in-Kept.ensures
    (λ e. omega (arith, c.moment.ensures.value, c.if-moment-eq-RECORDS.false, e))
    (omega (arith, c.moment.ensures.value, c.moment.ensures.few)) c.share-root.ensures.shares c.append.ensures.appends
