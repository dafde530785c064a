use Rattle.std.proofs.Common.{◌≡◌, true, rules}
use Rattle.version_log.proofs.FallLaws.{at_once, commits_alone, may_here, taken_few, try_came, try_refuses}
use Rattle.version_log.proofs.tries.try_commit.Goals as goal

pub commit_here-requires-clause-turn : goal.commit_here-requires-clause-turn
commit_here-requires-clause-turn c =
    let came : c.try_take_log.result ≡ true = search rules in
    (at_once _ _ _ c.try_take_log.result came c.try_take_log.ensures).turn

pub commit_here-requires-clause-room : goal.commit_here-requires-clause-room
commit_here-requires-clause-room c =
    let came : c.try_take_log.result ≡ true = search rules in
    taken_few _ _ (at_once _ _ _ c.try_take_log.result came c.try_take_log.ensures).takes
    c.requires.room

pub commit_here-requires-clause-may : goal.commit_here-requires-clause-may
commit_here-requires-clause-may c =
    let came : c.try_take_log.result ≡ true = search rules in
    may_here c.args.table.now c.args.pass.now.view c.try_take_log.new.pass.view c.args.base.now
    c.args.act.now c.args.root
    (at_once _ _ _ c.try_take_log.result came c.try_take_log.ensures).takes c.requires.may

pub returns-in-Ok-clause-came : goal.returns-in-Ok-clause-came
returns-in-Ok-clause-came c =
    let came : c.try_take_log.result ≡ true = search rules in
    try_came c.args.table.now c.args.base.now c.args.keep c.args.line c.args.act.now c.args.root
    c.in-Ok.committed c.args.pass.now.view c.try_take_log.new.pass c.commit_here.new.pass.view
    (at_once _ _ _ c.try_take_log.result came c.try_take_log.ensures)
    c.requires.may.pinned.moment c.in-Ok.ensures.came c.commit_here.ensures.back.met_nobody

pub returns-in-Ok-clause-alone : goal.returns-in-Ok-clause-alone
returns-in-Ok-clause-alone c =
    let came : c.try_take_log.result ≡ true = search rules in
    commits_alone c.args.pass.now.view c.commit_here.new.pass.view c.args.keep c.args.line
    c.args.act.now c.args.root c.in-Ok.committed
    (try_came c.args.table.now c.args.base.now c.args.keep c.args.line c.args.act.now c.args.root
    c.in-Ok.committed c.args.pass.now.view c.try_take_log.new.pass c.commit_here.new.pass.view
    (at_once _ _ _ c.try_take_log.result came c.try_take_log.ensures)
    c.requires.may.pinned.moment c.in-Ok.ensures.came c.commit_here.ensures.back.met_nobody).commits

pub returns-in-Err-clause-came : goal.returns-in-Err-clause-came
returns-in-Err-clause-came c =
    let came : c.try_take_log.result ≡ true = search rules in
    rw c.tried.ensures (try_refuses c.args.table.now c.args.base.now c.args.root c.in-Err.refused
    c.args.pass.now.view c.try_take_log.new.pass c.commit_here.new.pass.view
    (at_once _ _ _ c.try_take_log.result came c.try_take_log.ensures)
    c.commit_here.ensures.back.met_nobody c.in-Err.ensures.came)
