use Rattle.std.proofs.Common.{rules, refl}
use Rattle.voxdag_c.specs.held.GoingOn.{RefusesToGoOn}
use Rattle.voxdag_c.proofs.OfHeld.GoingOn.{boxed_gone, journal_refused, not_boxed_on}
use Rattle.voxdag_c.proofs.held.worlds.CWorld.from_journal.Goals as goal

pub returns-then-not-is_cap_asked-clause-refused : goal.returns-then-not-is_cap_asked-clause-refused
returns-then-not-is_cap_asked-clause-refused c =
    RefusesToGoOn.bad_plan (c.is_cap_asked.ensures.no (search rules)) refl

pub returns-in-Err-clause-refused : goal.returns-in-Err-clause-refused
returns-in-Err-clause-refused c = RefusesToGoOn.no_models _ (c.is_cap_asked.ensures.yes (search rules))
    c.in-Err.ensures.refused refl

pub returns-in-Err-read_journal-clause-refused : goal.returns-in-Err-read_journal-clause-refused
returns-in-Err-read_journal-clause-refused c =
    journal_refused c.args.cap c.args.file.now c.args.journal.now c.in-Ok.models
    c.in-Err-read_journal.fault c.args.line.now c.put_fault.new.line c.put_fault.result
    (c.is_cap_asked.ensures.yes (search rules)) c.in-Ok.ensures.are c.in-Err-read_journal.ensures.refused c.put_fault.ensures

pub returns-in-Ok-behind-clause-gone_on : goal.returns-in-Ok-behind-clause-gone_on
returns-in-Ok-behind-clause-gone_on c =
    boxed_gone c.args.cap c.args.keep c.args.file.now c.args.journal.now c.in-Ok-behind.world
    c.boxed.result c.boxed.ensures.value
    (c.in-Ok-behind.ensures.gone_on c.args.file.now c.args.journal.now
    (record {
      models_are = c.in-Ok.ensures.are;
      has = c.in-Ok-read_journal.ensures.read.0;
      is = c.in-Ok-read_journal.ensures.read.1;
    }))

pub returns-in-Ok-behind-clause-refused : goal.returns-in-Ok-behind-clause-refused
returns-in-Ok-behind-clause-refused c =
    not_boxed_on c.args.cap c.args.file.now c.args.journal.now c.args.line.now
    c.behind.new.line (c.is_cap_asked.ensures.yes (search rules)) c.in-Ok-behind.ensures.line c.boxed.result c.boxed.ensures.refused
