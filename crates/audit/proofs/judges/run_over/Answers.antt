use Rattle.std.proofs.Common.{rules, ◌≡◌, List, true, sym, subst}
use Rattle.std.specs.Prelude.{All}
use Rattle.history_model.specs.declared.histories.Record.{Record}
use Rattle.history_model.specs.Logs.{suits_tints}
use Rattle.audit.specs.Audits.{RefusesAlong}
use Rattle.audit.specs.Marks.{TellsMarks}
use Rattle.audit.proofs.Judging.{refused_begun, suits_begun}
use Rattle.audit.proofs.judges.run_over.Goals as goal

pub replay_all-requires-clause-suits : goal.replay_all-requires-clause-suits
replay_all-requires-clause-suits g c =
    let tint : c.in-Ok.replay.tint ≡ c.args.log.now.coloured = search rules in
    let records : c.as_slice-records.result.now ≡ c.args.log.now.records = search rules in
    subst (λ (rs : List Record). All
    (λ (r : Record). suits_tints c.in-Ok.replay.tint r.act ≡ true) rs) (sym records)
    (suits_begun c.in-Ok.replay c.args.log.now.coloured c.args.log.now.records tint
    c.requires.replays.suits)

pub returns-in-Err-replay_all-clause-refused : goal.returns-in-Err-replay_all-clause-refused
returns-in-Err-replay_all-clause-refused g c =
    let replay = c.in-Ok.replay in
    let marks = c.args.log.now.marks in
    let records : c.as_slice-records.result.now ≡ c.args.log.now.records = search rules in
    let tells : TellsMarks marks c.as_slice.result.now = search rules in
    let plan : replay.plan ≡ c.args.replayed.now = search rules in
    let models : replay.models ≡ c.args.models = search rules in
    refused_begun replay c.args.replayed.now c.args.models marks c.args.log.now.records
    c.in-Err-replay_all.refused plan models
    (subst (λ (rs : List Record). RefusesAlong replay.plan replay.models marks rs
    c.in-Err-replay_all.refused) records (c.in-Err-replay_all.ensures.refused marks tells))
