use Rattle.std.proofs.Common.{refl, ◌∙◌}
use Rattle.world_core.specs.Stored.{stored_state}
use Rattle.interleave.proofs.RunLaws.{run_begins, run_ends, run_next, sound_at, roots_at, cells_at, shapes_at, spared_at, leave_at}
use Rattle.interleave.proofs.runs.run_events.Goals as goal

pub loop-event-init : goal.loop-event-init
loop-event-init c = record {
  plan = c.in_ok-core.ensures.plan;
  models = c.in_ok-core.ensures.models;
  run = run_begins _ _ _ _ _ _ refl c.in_ok-replies.ensures.items c.in_ok-core.ensures.begun;
}

pub loop-event-preserved : goal.loop-event-preserved
loop-event-preserved c = record {
  plan = c.in_ok-reply.ensures.plan ∙ c.loop-event.invariant.plan;
  models = c.in_ok-reply.ensures.models ∙ c.loop-event.invariant.models;
  run = run_next c.args.plan.now c.loop-event.core.plan c.args.models.now c.loop-event.core.models c.args.sessions c.args.events.now c.loop-event.event-index
      c.loop-event.replies.items c.push.new.self.items _ _ c.in_ok-reply.reply
      (stored_state c.loop-event.core) (stored_state c.apply.new.self)
      c.loop-event.invariant.plan c.loop-event.invariant.models c.loop-event-test.true refl c.in_ok-push.ensures.items c.loop-event.invariant.run c.in_ok-reply.ensures.answers;
}

pub returns-clause-sound : goal.returns-clause-sound
returns-clause-sound c =
    sound_at c.args.plan.now c.args.models.now c.args.sessions c.args.events.now c.side-low.ensures.plan.side_low

pub returns-clause-roots : goal.returns-clause-roots
returns-clause-roots c =
    roots_at c.args.plan.now c.args.models.now c.args.sessions c.args.events.now c.side-low.ensures.plan.side_low

pub returns-clause-cells : goal.returns-clause-cells
returns-clause-cells c =
    cells_at c.args.plan.now c.args.models.now c.args.sessions c.args.events.now c.side-low.ensures.plan.side_low

pub returns-clause-shares : goal.returns-clause-shares
returns-clause-shares c =
    shapes_at c.args.plan.now c.args.models.now c.args.sessions c.args.events.now c.side-low.ensures.plan.side_low

pub returns-clause-spared : goal.returns-clause-spared
returns-clause-spared c =
    spared_at c.args.plan.now c.args.models.now c.args.sessions c.args.events.now c.side-low.ensures.plan.side_low

pub returns-clause-leaves : goal.returns-clause-leaves
returns-clause-leaves c =
    leave_at c.args.plan.now c.args.models.now c.args.sessions c.args.events.now c.side-low.ensures.plan.side_low

pub returns-clause-run : goal.returns-clause-run
returns-clause-run c =
    run_ends c.args.plan.now c.args.models.now c.args.sessions c.args.events.now c.loop-event.event-index
    c.loop-event.replies.items
    (stored_state c.loop-event.core) c.loop-event-test.false c.loop-event.invariant.run
