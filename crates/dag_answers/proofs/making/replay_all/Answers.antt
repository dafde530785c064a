use Rattle.std.proofs.Common.{rules, ◌≡◌, ◌<◌, ◌≤◌, ◌+◌, ℕ, Bool, List, drop, get_or, length, true, refl, subst, sym, arith}
use Rattle.std.specs.Prelude.{All}
use Rattle.vox_read.specs.Contents.{Content}
use Rattle.history_model.specs.declared.histories.Mark.{Mark}
use Rattle.history_model.specs.declared.histories.Record.{Record}
use Rattle.history_model.specs.Logs.{MayFollow, suits_tints}
use Rattle.history_model.specs.Positions.{position_after}
use Rattle.store_run.specs.Changing.{log_with_record}
use Rattle.store_run.specs.Marked.{replayed}
use Rattle.store_run.specs.Replaying.{RefusesRecord}
use Rattle.dag_answers.specs.Replays.{HasReplayed}
use Rattle.dag_answers.proofs.EndLaws.{any_record}
use Rattle.dag_answers.proofs.ReplayLaws.{all_due, begun_later, has_next, may_come, refuses_next}
use Rattle.dag_answers.proofs.making.replay_all.Goals as goal

pub loop-record-init : goal.loop-record-init
loop-record-init g c = record {
  plan = refl;
  next = omega arith;
  so_far = c.requires.begun;
  later = begun_later c.args.history.now c.args.due.now c.requires.dated.due c.requires.dated.marks;
}

pub take-requires-clause-follows : goal.take-requires-clause-follows
take-requires-clause-follows g c =
    let now = c.loop-record.replay in
    let is : c.deref-record-items.result.now ≡ c.args.history.now.records = search rules in
    subst (λ (rs : List Record). MayFollow now.log.marks (length now.log.records + 1)
    (get_or rs c.loop-record.record-index any_record).act (position_after now.log.records)) (sym is)
    (may_come c.args.replay.now.models c.args.history.now c.args.due.now c.requires.dated.due
    c.loop-record.record-index c.loop-record.next now any_record c.loop-record.invariant.so_far
    (search rules) c.requires.records)

pub take-requires-clause-suits : goal.take-requires-clause-suits
take-requires-clause-suits g c =
    let is : c.deref-record-items.result.now ≡ c.args.history.now.records = search rules in
    subst (λ (b : Bool). suits_tints b
    (get_or c.deref-record-items.result.now c.loop-record.record-index any_record).act ≡ true)
    (sym c.loop-record.invariant.so_far.coloured)
    (subst (λ (rs : List Record). suits_tints c.args.history.now.coloured
    (get_or rs c.loop-record.record-index any_record).act ≡ true)
    (sym is) (c.requires.suits c.loop-record.record-index any_record (search rules)))

pub returns-in-Err-clause-refused : goal.returns-in-Err-clause-refused
returns-in-Err-clause-refused g c =
    let now = c.loop-record.replay in
    let is : c.deref-record-items.result.now ≡ c.args.history.now.records = search rules in
    refuses_next c.args.replay.now.models c.args.history.now c.args.due.now c.requires.dated.due
    c.args.replay.now.plan c.loop-record.record-index c.loop-record.next now any_record c.in-Err.why
    c.loop-record.invariant.so_far (search rules) c.requires.records
    c.loop-record.invariant.plan
    (subst (λ (rs : List Record). RefusesRecord (replayed now)
    (get_or rs c.loop-record.record-index any_record) c.in-Err.why) is c.in-Err.ensures.refused)

pub forget_due-next-requires-clause-so_far : goal.forget_due-next-requires-clause-so_far
forget_due-next-requires-clause-so_far g c =
    let now = c.loop-record.replay in
    let new = c.take.new.self in
    let models = c.args.replay.now.models in
    let is : c.deref-record-items.result.now ≡ c.args.history.now.records = search rules in
    let came : new.log ≡ log_with_record now.log (get_or c.deref-record-items.result.now c.loop-record.record-index any_record) = search rules in
    let next =
    has_next models c.args.history.now c.args.due.now c.requires.dated.due c.loop-record.record-index
    c.loop-record.next now new any_record c.loop-record.invariant.so_far (search rules)
    c.loop-record.invariant.later c.take.ensures.plan c.take.ensures.models
    (subst (λ (rs : List Record). new.log
    ≡ log_with_record now.log (get_or rs c.loop-record.record-index any_record)) is came)
    (search rules) in
    subst (λ (ms : List Content). HasReplayed ms c.args.history.now c.args.due.now
    (length new.log.records) c.loop-record.next new)
    (sym next.models_are)
    (subst (λ (m : ℕ). HasReplayed models c.args.history.now c.args.due.now m c.loop-record.next new) (sym next.many) next)

pub returns-clause-all : goal.returns-clause-all
returns-clause-all g c =
    let now = c.loop-record.replay in
    let models = c.args.replay.now.models in
    let log = c.args.history.now in
    let so = c.loop-record.invariant.so_far in
    let there = so.there in
    let is : c.deref-record-items.result.now ≡ log.records = search rules in
    let past : length log.records ≤ c.loop-record.record-index = search rules in
    let end : c.loop-record.record-index ≡ length log.records = omega (arith, there, past) in
    let of_end =
    subst (λ (n : ℕ). HasReplayed models log c.args.due.now n c.loop-record.next now) end so in
    let later =
    subst (λ (n : ℕ). All (λ (m : Mark). n < m.at) (drop c.loop-record.next c.args.due.now)) end
    c.loop-record.invariant.later in
    let le =
    all_due models log c.args.due.now c.requires.dated.due c.loop-record.next now of_end c.requires.dated.marks later in
    let within = c.loop-record.invariant.next in
    let all : c.loop-record.next ≡ length c.args.due.now = omega (arith, le, within) in
    subst (λ (k : ℕ). HasReplayed models log c.args.due.now (length log.records) k now) all of_end
