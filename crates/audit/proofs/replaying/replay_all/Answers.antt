use Rattle.std.proofs.Common.{◌≡◌, ◌+◌, ◌++◌, ◌∷◌, [], Bool, true, false, List, length, get_or, ◌^◌, Ok, sym, ap, subst, ◌∙◌, refl, arith, length-append, rules, ◌<◌}
use Rattle.std.proofs.lemmas.List.{take_more}
use Rattle.history_model.specs.declared.histories.Record.{Record}
use Rattle.audit.specs.declared.replaying.UndoTargets.{UndoTargets}
use Rattle.audit.specs.Replaying.{Steps}
use Rattle.audit.proofs.Following.{HasReplayed, replayed_stop, replayed_more, refused_along, steps_as, any_record}
use Rattle.audit.proofs.replaying.replay_all.Goals as goal

pub returns-in-Ok-false-clause-all : goal.returns-in-Ok-false-clause-all
returns-in-Ok-false-clause-all g c = λ marks tells. (
    let p = c.args.replay.now.plan in
    let q = c.loop-record.replay.plan in
    let models = c.args.replay.now.models in
    let others = c.loop-record.replay.models in
    let r : Record = get_or c.args.records.now c.loop-record.record-index any_record in
    replayed_stop (2 ^ p.side) models marks c.args.records.now c.loop-record.replay.records
    c.loop-record.record-index c.loop-record.ways.items r any_record
    (c.loop-record.invariant.so_far marks tells) (omega arith) refl
    (steps_as p q models others marks c.loop-record.replay.records c.step.new.replay.records r false
    c.loop-record.invariant.plan c.loop-record.invariant.models
    (subst (λ (b : Bool). Steps (2 ^ q.side) others marks c.loop-record.replay.records r (Ok b)
    c.step.new.replay.records) c.in-Ok-false.field-0-test
    (c.in-Ok-false.ensures.steps marks tells))))

pub returns-in-Err-clause-refused : goal.returns-in-Err-clause-refused
returns-in-Err-clause-refused g c = λ marks tells. (
    let r : Record = get_or c.args.records.now c.loop-record.record-index any_record in
    let lt : c.loop-record.record-index < length c.args.records.now = omega arith in
    refused_along c.args.replay.now.plan c.loop-record.replay c.args.replay.now.models marks
    c.args.records.now c.step.new.replay.records
    c.loop-record.record-index c.loop-record.ways.items r any_record c.in-Err.refused
    c.loop-record.invariant.plan
    c.loop-record.invariant.models (c.loop-record.invariant.so_far marks tells)
    lt c.requires.all.few refl (c.in-Err.ensures.steps marks tells) c.in-Err.ensures.refused)

pub loop-record-preserved : goal.loop-record-preserved
loop-record-preserved g c =
    let p = c.args.replay.now.plan in
    let q = c.loop-record.replay.plan in
    let models = c.args.replay.now.models in
    let others = c.loop-record.replay.models in
    let r : Record = get_or c.args.records.now c.loop-record.record-index any_record in
    let came : c.step.new.replay.records ≡ c.loop-record.replay.records ++ r ∷ [] =
    c.in-Ok-true.ensures.more (ap Ok c.in-Ok-true.field-0-test) in
    let pushed : c.push.new.self.items ≡ c.loop-record.ways.items ++ c.undo_targets_now.result ∷ [] =
    search rules in
    record {
      plan = c.in-Ok-true.ensures.stays.plan ∙ c.loop-record.invariant.plan;
      tint = c.in-Ok-true.ensures.stays.tint ∙ c.loop-record.invariant.tint;
      models = c.in-Ok-true.ensures.stays.models ∙ c.loop-record.invariant.models;
      number = ap (λ (rs : List Record). length rs) came
          ∙ length-append c.loop-record.replay.records (r ∷ [])
          ∙ ap (λ k. k + 1) c.loop-record.invariant.number;
      are = came ∙ ap (λ (rs : List Record). rs ++ r ∷ []) c.loop-record.invariant.are
          ∙ sym (take_more c.args.records.now c.loop-record.record-index any_record (omega arith));
      made = c.in-Ok-true.ensures.made (ap Ok c.in-Ok-true.field-0-test);
      so_far = λ marks tells. (
          let steps =
          steps_as p q models others marks c.loop-record.replay.records c.step.new.replay.records r true
          c.loop-record.invariant.plan c.loop-record.invariant.models
          (subst (λ (b : Bool). Steps (2 ^ q.side) others marks c.loop-record.replay.records r
          (Ok b)
          c.step.new.replay.records)
          c.in-Ok-true.field-0-test (c.in-Ok-true.ensures.steps marks tells)) in
          subst (λ (ws : List UndoTargets). HasReplayed (2 ^ p.side) models marks
          c.args.records.now (c.loop-record.record-index + 1) c.step.new.replay.records ws)
          (sym pushed)
          (replayed_more (2 ^ p.side) models marks c.args.records.now
          c.loop-record.replay.records c.step.new.replay.records c.loop-record.record-index
          c.loop-record.ways.items c.undo_targets_now.result r any_record
          (c.loop-record.invariant.so_far marks tells) (omega arith) refl c.undo_targets_now.ensures
          steps.0 steps.1));
    }
