use Rattle.std.proofs.Common.{List, ap, arith, length, refl, subst, sym}
use Rattle.std.proofs.lemmas.List.Elements.{All-rest}
use Rattle.node_table.specs.Begins.{terms_of}
use Rattle.script.specs.Fitting.{RisesFrom}
use Rattle.script.specs.declared.commands.ScriptLine.{ScriptLine}
use Rattle.session.specs.Resting.{IsAtRest}
use Rattle.session.specs.SessionWorlds.{AreLinesOfWorld}
use Rattle.world_run.proofs.EndLaws.{first_of}
use Rattle.world_run.proofs.Working.{is_work, new_here, new_later, rooms_left, works_next}
use Rattle.world_run.proofs.runs.give_out.Goals as goal

pub loop-script-preserved : goal.loop-script-preserved
loop-script-preserved c =
    let i = c.loop-script.script-index in
    let rises : RisesFrom 1 c.script-item.result =
    subst (λ (ls : List ScriptLine). RisesFrom 1 ls) (sym c.script-item.is)
    (c.requires.rise i c.script-item.result c.loop-script-test.true) in
    let fit : AreLinesOfWorld c.args.world.now c.script-item.result =
    subst (AreLinesOfWorld c.args.world.now) (sym c.script-item.is)
    (c.requires.fit i c.script-item.result c.loop-script-test.true)
    in
    let rooms =
    rooms_left c.args.scripts.now i c.script-item.result _ _ c.in-Some-next.room c.loop-script-test.true c.script-item.is c.in-Some-next.ensures.items c.loop-script.invariant.rooms
    in
    let pushed = c.push_reserved.ensures.len in
    let wide = c.push_reserved.ensures.capacity in
    let len = c.loop-script.invariant.len in
    let room = c.loop-script.invariant.capacity in
    let many = c.loop-script.invariant.many in
    let one = ap length c.in-Some.ensures.items in
    record {
      works =
          works_next c.args.world.now c.args.scripts.now i c.script-item.result c.loop-script.works.items c.push_reserved.new.self.items _ c.loop-script-test.true c.script-item.is c.push_reserved.ensures.items
          c.loop-script.invariant.works
          (is_work c.args.world.now i _ refl
          (new_here c.args.world.now.table.id
          (terms_of c.args.world.now.table) i _ _ c.in-Some.session c.in-Some.ensures.items c.loop-script.invariant.new)
          (first_of (IsAtRest c.args.world.now.table) c.in-Some.session _ _ c.in-Some.ensures.items c.loop-script.invariant.rest) rises fit rooms.0);
      new = new_later c.args.world.now.table.id
          (terms_of c.args.world.now.table) i _ _ c.in-Some.session c.in-Some.ensures.items c.loop-script.invariant.new;
      rest = All-rest
          (IsAtRest c.args.world.now.table) c.in-Some.session _ _ c.in-Some.ensures.items c.loop-script.invariant.rest;
      many = omega arith;
      rooms = rooms.1;
      len = omega arith;
      capacity = omega arith;
    }
