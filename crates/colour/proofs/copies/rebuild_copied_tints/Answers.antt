use Rattle.std.proofs.Common.{◌+◌, ◌≡◌, ◌≤◌, suc, ap, sym, ◌∙◌, arith, Ok, Err}
use Rattle.colour.specs.Made.{copy_parts}
use Rattle.colour.proofs.MadeLaws.{first_made, fails_of_more, made_holds, made_as}
use Rattle.colour.proofs.copies.rebuild_copied_tints.Goals as goal

pub returns-in-Err-clause-made : goal.returns-in-Err-clause-made
returns-in-Err-clause-made g c =
    fails_of_more _ _ c.args.side 1 9 _ (copy_parts c.args.side c.args.b c.args.to) _ _
    (omega arith)
    (first_made _ _ c.args.side _ (copy_parts c.args.side c.args.b c.args.to)
    (Err c.in-Err.full) c.in-Err.ensures.made)

pub loop-plane-init : goal.loop-plane-init
loop-plane-init g c = record {
  made = first_made _ _ c.args.side _ (copy_parts c.args.side c.args.b c.args.to)
      (Ok c.in-Ok.root) c.in-Ok.ensures.made;
  rests = c.in-Ok.ensures.rests;
}

pub next_part-requires-clause-may : goal.next_part-requires-clause-may
next_part-requires-clause-may g c =
    let h = made_holds _ _ c.args.side c.loop-plane.plane _ c.loop-plane.now
    (copy_parts c.args.side c.args.b c.args.to) c.requires.may.root_is c.loop-plane.invariant.made in
    let room = c.requires.may.room in
    record {
      side_is = c.requires.may.side_is ∙ sym (ap (λ p. p.side) h.2);
      root_is = h.0;
      room = omega (arith, h.1, room);
    }

pub returns-in-Err-next_part-clause-made : goal.returns-in-Err-next_part-clause-made
returns-in-Err-next_part-clause-made g c =
    let more : suc c.loop-plane.plane ≤ 9 = omega arith in
    fails_of_more _ _ c.args.side (suc c.loop-plane.plane) 9 _
    (copy_parts c.args.side c.args.b c.args.to) _ _ more
    (c.in-Err-next_part.ensures.made _ _ c.loop-plane.invariant.made)

pub loop-plane-preserved : goal.loop-plane-preserved
loop-plane-preserved g c = record {
  made = (let next : suc c.loop-plane.plane ≡ c.loop-plane.plane + 1 = omega arith in
      made_as _ _ c.args.side (suc c.loop-plane.plane) (c.loop-plane.plane + 1) _ _
      (copy_parts c.args.side c.args.b c.args.to) next
      (c.in-Ok-next_part.ensures.made _ _ c.loop-plane.invariant.made));
  rests = g.met.N.Blocks.rests_on _ _ _ c.loop-plane.invariant.rests c.next_part.ensures.rests;
}

pub returns-clause-made : goal.returns-clause-made
returns-clause-made g c =
    let end : c.loop-plane.plane ≡ 9 = omega arith in
    made_as _ _ c.args.side c.loop-plane.plane 9 _ _ (copy_parts c.args.side c.args.b c.args.to) end
    c.loop-plane.invariant.made
