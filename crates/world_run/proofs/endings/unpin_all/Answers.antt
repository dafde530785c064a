use Rattle.std.proofs.Common.{◌≡◌, [], arith}
use Rattle.std.proofs.lemmas.List.Elements.{All-push, All-rest, All-same}
use Rattle.node_table.specs.TableStates.{PassState}
use Rattle.session.specs.Resting.{IsAtRest}
use Rattle.world_run.specs.Open.{IsSaved}
use Rattle.world_run.proofs.EndLaws.{first_of, seen_more}
use Rattle.world_run.proofs.endings.unpin_all.Goals as goal

pub unpin_one-session-requires : goal.unpin_one-session-requires
unpin_one-session-requires g c =
    record {
      saved = first_of
          (IsSaved c.args.world.now.tint c.args.world.now.table) c.in-Some.saved _ _ c.in-Some.ensures.items c.loop-saved.invariant.saved;
    }

pub loop-saved-preserved : goal.loop-saved-preserved
loop-saved-preserved g c =
    let room = c.loop-saved.invariant.room in
    let many = c.loop-saved.invariant.many in
    let one = c.in-Some.ensures.len in
    let pushed = c.push_reserved.ensures.len in
    let wide = c.push_reserved.ensures.capacity in
    record {
      saved = All-rest
          (IsSaved c.args.world.now.tint c.args.world.now.table) c.in-Some.saved _ _ c.in-Some.ensures.items c.loop-saved.invariant.saved;
      rest =
          All-same (IsAtRest c.args.world.now.table) _ _ c.push_reserved.ensures.items
          (All-push (IsAtRest c.args.world.now.table) c.loop-saved.spare.items c.unpin_one-session.result c.loop-saved.invariant.rest c.unpin_one-session.ensures.rest);
      spare =
          All-same (λ (s : PassState). s.view.held ≡ []) _ _ c.push_reserved.ensures.items
          (All-push (λ (s : PassState). s.view.held
          ≡ []) c.loop-saved.spare.items c.unpin_one-session.result c.loop-saved.invariant.spare c.unpin_one-session.ensures.none);
      seen = seen_more c.loop-saved.spare.items c.push_reserved.new.self.items c.unpin_one-session.result _ _ c.in-Some.saved _ c.push_reserved.ensures.items c.in-Some.ensures.items c.unpin_one-session.ensures.seen
          c.loop-saved.invariant.seen;
      many = omega arith;
      room = omega arith;
    }
