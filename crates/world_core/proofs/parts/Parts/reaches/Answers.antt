use Rattle.std.proofs.Common.{◌∙◌, ap, sym, refl, arith, List, get_or}
use Rattle.node_words.specs.declared.shapes.names.Name.{Name}
use Rattle.world_core.specs.Kept.{stored}
use Rattle.world_core.proofs.LowerLaws.{held_live}
use Rattle.world_core.proofs.UnderLaws.{one_held, seat_names, not_reached}
use Rattle.world_core.proofs.parts.Parts.reaches.Goals as goal

abbrev nobody : Name
nobody = record { level = 0; bucket = 0; slot = 0 }

pub is_under-requires-clause-live : goal.is_under-requires-clause-live
is_under-requires-clause-live c =
    let s = stored c.args.self.now in
    let e = c.names-held.ensures in
    let at =
    seat_names s.held c.args.session c.from-at.result c.names-held.result.now c.from-at.ensures
    (omega (arith, c.if-at-len.false, c.len.ensures, c.args.self.now.held.ok))
    (e ∙ c.index.ensures ∙ ap (λ (d : List Name). get_or s.held c.from-at.result d) (sym e)) in
    held_live s c.args.session
    (get_or c.names-held.result.now c.loop-over.over-index nobody) c.requires
    (one_held s c.args.session c.names-held.result.now c.loop-over.over-index nobody at c.loop-over-test.true)

pub returns-then-is_under : goal.returns-then-is_under
returns-then-is_under c =
    let s = stored c.args.self.now in
    let e = c.names-held.ensures in
    let at =
    seat_names s.held c.args.session c.from-at.result c.names-held.result.now c.from-at.ensures
    (omega (arith, c.if-at-len.false, c.len.ensures, c.args.self.now.held.ok))
    (e ∙ c.index.ensures ∙ ap (λ (d : List Name). get_or s.held c.from-at.result d) (sym e)) in (
      λ _. record {
        over = get_or c.names-held.result.now c.loop-over.over-index nobody;
        held = one_held s c.args.session c.names-held.result.now c.loop-over.over-index nobody at c.loop-over-test.true;
        under = c.if-is_under.ensures.0 refl;
      },
      λ _. refl,
    )

pub returns : goal.returns
returns c =
    let s = stored c.args.self.now in
    let e = c.names-held.ensures in
    let at =
    seat_names s.held c.args.session c.from-at.result c.names-held.result.now c.from-at.ensures
    (omega (arith, c.if-at-len.false, c.len.ensures, c.args.self.now.held.ok))
    (e ∙ c.index.ensures ∙ ap (λ (d : List Name). get_or s.held c.from-at.result d) (sym e)) in (
      λ x. (let no : ⊥ = cc in absurd no),
      λ r. absurd (not_reached s c.args.session c.names-held.result.now c.args.n at
          (λ j d lt u. c.loop-over.invariant j d
          (let h = c.loop-over-test.false in omega arith) u) r),
    )
