use Rattle.std.proofs.Common.{arith}
use Rattle.store_run.proofs.Answering.{edit_full, edit_late, edit_done}
use Rattle.store_run.proofs.Changing.{edit_full_logs, edit_late_logs, edit_done_logs}
use Rattle.store_run.proofs.stored_versions.Versions.edit.Goals as goal

pub returns-in-Err-clause-goes_on : goal.returns-in-Err-clause-goes_on
returns-in-Err-clause-goes_on g c once =
    edit_full c.args.self.now c.rebuild.new.self c.args.session c.args.line c.args.act once c.requires.are c.requires.edit c.in-Err.full c.in-Err.ensures.meets

pub returns-then-moment-eq-RECORDS-clause-goes_on : goal.returns-then-moment-eq-RECORDS-clause-goes_on
returns-then-moment-eq-RECORDS-clause-goes_on g c once =
    edit_late c.args.self.now c.give_back.new.self c.args.session c.args.line c.args.act once c.requires.are c.requires.edit c.rebuild.new.self c.in-Ok.root
    c.in-Ok.ensures.makes
    (omega (arith, c.moment.ensures.value, c.if-moment-eq-RECORDS.true)) c.give_back.ensures.puts.leaves

pub returns-clause-goes_on : goal.returns-clause-goes_on
returns-clause-goes_on g c once =
    edit_done c.args.self.now c.append.new.self c.args.session c.args.line c.args.act once c.requires.are c.requires.edit c.rebuild.new.self c.in-Ok.root
    c.in-Ok.ensures.makes c.append.ensures.appends

pub returns-in-Err-clause-logs : goal.returns-in-Err-clause-logs
returns-in-Err-clause-logs g c =
    edit_full_logs c.args.self.now c.rebuild.new.self c.args.session c.args.line c.args.act c.requires.edit c.in-Err.full c.in-Err.ensures.meets

pub returns-then-moment-eq-RECORDS-clause-logs : goal.returns-then-moment-eq-RECORDS-clause-logs
returns-then-moment-eq-RECORDS-clause-logs g c =
    edit_late_logs c.args.self.now c.give_back.new.self c.args.session c.args.line c.args.act c.requires.edit c.rebuild.new.self c.in-Ok.root
    c.in-Ok.ensures.makes
    (omega (arith, c.moment.ensures.value, c.if-moment-eq-RECORDS.true)) c.give_back.ensures.puts.leaves

pub returns-clause-logs : goal.returns-clause-logs
returns-clause-logs g c =
    edit_done_logs c.args.self.now c.append.new.self c.args.session c.args.line c.args.act c.requires.edit c.rebuild.new.self c.in-Ok.root
    c.in-Ok.ensures.makes c.append.ensures.appends
    (λ e. omega (arith, c.moment.ensures.value, c.if-moment-eq-RECORDS.false, e))
    (omega (arith, c.moment.ensures.value, c.moment.ensures.few))
