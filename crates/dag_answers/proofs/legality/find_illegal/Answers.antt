use Rattle.std.proofs.Common.{rules, ◌≤◌, ◌^◌, List, [], IsTrue, length, take_all, subst, arith, false}
use Rattle.history_model.specs.declared.histories.Record.{Record}
use Rattle.undo.specs.Trails.{trail_position}
use Rattle.store_run.specs.Replaying.{AreLegalRecords}
use Rattle.dag_answers.proofs.EndLaws.{any_record, below_next, first_found, one_more, next_at}
use Rattle.dag_answers.proofs.legality.find_illegal.Goals as goal

pub can_come-requires-clause-below : goal.can_come-requires-clause-below
can_come-requires-clause-below c =
    below_next (2 ^ c.args.side) c.args.models.now
    (record { side = c.args.side; coloured = false; records = c.args.records.now; marks = [] })
    c.loop-record.record-index c.loop-record.number any_record (trail_position c.loop-record.trail)
    (omega arith) c.loop-record.invariant.number c.loop-record.invariant.position

pub returns-then-not-can_come : goal.returns-then-not-can_come
returns-then-not-can_come c = λ coloured marks tells.
    first_found (2 ^ c.args.side) c.args.models.now
    (record { side = c.args.side; coloured = coloured; records = c.args.records.now; marks = marks })
    c.loop-record.record-index c.loop-record.number any_record (trail_position c.loop-record.trail)
    (omega arith) c.loop-record.invariant.number c.loop-record.invariant.position
    (c.loop-record.invariant.legal marks tells)
    (λ come. (let yes : IsTrue c.can_come.result =
    (c.can_come.ensures.exactly marks tells).1 come in search rules))

pub loop-record-preserved : goal.loop-record-preserved
loop-record-preserved c =
    let yes : IsTrue c.can_come.result = search rules in
    record {
      number = omega (arith, c.loop-record.invariant.number);
      few = c.can_come.ensures.few yes;
      position =
          next_at (2 ^ c.args.side) c.args.models.now
          (record { side = c.args.side; coloured = false; records = c.args.records.now; marks = [] })
          c.loop-record.record-index c.loop-record.number any_record
          (trail_position c.loop-record.trail)
          (omega arith) c.loop-record.invariant.number c.loop-record.invariant.position
          (trail_position c.take.new.self) (search rules);
      legal = λ marks tells.
          one_more (2 ^ c.args.side) c.args.models.now
          (record { side = c.args.side; coloured = false; records = c.args.records.now; marks = marks })
          c.loop-record.record-index c.loop-record.number any_record
          (trail_position c.loop-record.trail)
          (omega arith) c.loop-record.invariant.number c.loop-record.invariant.position
          (c.loop-record.invariant.legal marks tells)
          ((c.can_come.ensures.exactly marks tells).0 yes);
    }

pub returns : goal.returns
returns c = λ coloured marks tells.
    let past : length c.args.records.now ≤ c.loop-record.record-index = search rules in
    subst (λ (rs : List Record). AreLegalRecords (2 ^ c.args.side) c.args.models.now marks rs)
    (take_all c.loop-record.record-index c.args.records.now past)
    (c.loop-record.invariant.legal marks tells)
