use Rattle.std.proofs.Common.{◌∙◌, ap, arith, length, refl, subst, sym}
use Rattle.session.specs.SessionWorlds.{AreLinesOfWorld}
use Rattle.world_run.proofs.Working.{done_left, is_saved, many_answered, next_taken, saves_taken}
use Rattle.world_run.proofs.runs.take_in.Goals as goal

pub push_accepted-requires-clause-many : goal.push_accepted-requires-clause-many
push_accepted-requires-clause-many c =
    let both =
    done_left c.args._world.now c.args.scripts.now c.loop-script.script-index c.script-item.result _ _ c.in-Some.work c.loop-script-test.true c.script-item.is c.in-Some.ensures.items c.loop-script.invariant.done
    in
    ap length c.as_slice-in-loop-script.ensures.value
    ∙ many_answered _ c.script-item.result c.in-Some.work.room.answers.items both.0.ran.lines
    ∙ sym (ap length (c.as_slice.ensures.value ∙ c.script.view_is))

pub loop-script-preserved : goal.loop-script-preserved
loop-script-preserved c =
    let i = c.loop-script.script-index in
    let both =
    done_left c.args._world.now c.args.scripts.now c.loop-script.script-index c.script-item.result _ _ c.in-Some.work c.loop-script-test.true c.script-item.is c.in-Some.ensures.items c.loop-script.invariant.done
    in
    let fit : AreLinesOfWorld c.args._world.now c.script-item.result =
    subst (AreLinesOfWorld c.args._world.now) (sym c.script-item.is)
    (c.requires.fit i c.script-item.result c.loop-script-test.true)
    in
    let saves =
    saves_taken c.script-item.result c.as_slice.result.now c.in-Some.work.room.answers.items c.as_slice-in-loop-script.result.now c.in-Some.work.room.saves.items c.push_accepted.new.saves.items both.0.no_save
    (c.as_slice.ensures.value
    ∙ c.script.view_is) c.as_slice-in-loop-script.ensures.value c.push_accepted.ensures
    in
    let pushed = c.push_reserved.ensures.len in
    let wide = c.push_reserved.ensures.capacity in
    let told = c.push_reserved-in-loop-script.ensures.len in
    let far = c.push_reserved-in-loop-script.ensures.capacity in
    let a = c.loop-script.invariant.sessions in
    let b = c.loop-script.invariant.transcripts in
    let d = c.loop-script.invariant.sessions_room in
    let e = c.loop-script.invariant.transcripts_room in
    record {
      taken =
          next_taken c.args._world.now c.args.scripts.now i c.script-item.result c.loop-script.transcripts.items c.push_reserved-in-loop-script.new.self.items c.loop-script.sessions.items c.push_reserved.new.self.items
          c.in-Some.work.room.answers.items _ c.loop-script-test.true c.script-item.is c.push_reserved-in-loop-script.ensures.items c.push_reserved.ensures.items c.loop-script.invariant.taken both.0.ran saves
          (is_saved c.args._world.now c.script-item.result i c.in-Some.work _ both.0 fit refl refl saves);
      done = both.1;
      sessions = omega arith;
      transcripts = omega arith;
      sessions_room = omega arith;
      transcripts_room = omega arith;
    }
