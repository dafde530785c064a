use Rattle.std.proofs.Common.{List, sym, subst}
use Rattle.vox_read.specs.Contents.{Content}
use Rattle.act_rebuilds.specs.Drawn.{HaveTints}
use Rattle.store_run.proofs.Beginning.{begun_are, begun_log, begun_nothing}
use Rattle.store_run.proofs.stored_versions.Versions.begin.Goals as goal

pub returns-clause-are : goal.returns-clause-are
returns-clause-are c =
    let own = c.in_ok-own_models in
    begun_are _ c.args.plan.now c.side.ensures.value c.in_ok-begin.ensures.plan c.in_ok-begin.ensures.free c.args.tint own.ensures.tint
    c.in_ok-begin.ensures.roots c.in_ok-begin.ensures.told
    c.in_ok-with_capacity.ensures.items c.in_ok-no_marks.ensures c.in_ok-begin-2.ensures c.requires.large
    (subst (λ (ms : List Content). HaveTints c.args.tint ms)
    (sym own.ensures.models) own.ensures.tints)

pub returns-clause-empty : goal.returns-clause-empty
returns-clause-empty c =
    begun_log (record {
      side = c.side.result;
      models = c.in_ok-own_models.field-0;
      store = c.in_ok-begin.field-0;
      records = c.in_ok-with_capacity.field-0;
      marks = c.in_ok-no_marks.field-0;
      trail = c.in_ok-begin-2.field-0;
    })
    c.args.plan.now c.side.ensures.value c.in_ok-begin.ensures.plan c.in_ok-begin.ensures.free c.args.tint c.in_ok-own_models.ensures.tint c.in_ok-begin.ensures.roots c.in_ok-begin.ensures.told
    c.in_ok-with_capacity.ensures.items c.in_ok-no_marks.ensures c.in_ok-begin-2.ensures

pub returns-clause-free : goal.returns-clause-free
returns-clause-free c =
    begun_nothing (record {
      side = c.side.result;
      models = c.in_ok-own_models.field-0;
      store = c.in_ok-begin.field-0;
      records = c.in_ok-with_capacity.field-0;
      marks = c.in_ok-no_marks.field-0;
      trail = c.in_ok-begin-2.field-0;
    })
    c.args.plan.now c.side.ensures.value c.in_ok-begin.ensures.plan c.in_ok-begin.ensures.free c.args.tint c.in_ok-own_models.ensures.tint c.in_ok-begin.ensures.roots c.in_ok-begin.ensures.told
    c.in_ok-with_capacity.ensures.items c.in_ok-no_marks.ensures c.in_ok-begin-2.ensures
