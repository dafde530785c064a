use Rattle.std.proofs.Common.{ℕ, ◌≡◌, ◌-◌, ◌^◌, ◌∙◌, refl, subst, arith}
use Rattle.vw_cell.specs.Extents.{IsExtent}
use Rattle.node_words.proofs.OfDescent.BlockLaws.{root_block}
use Rattle.colour.proofs.ReadLaws.{block_as}
use Rattle.store_run.specs.TintChanges.{in_some}
use Rattle.store_run.proofs.TintChanges.{all_planes, extent_ends, more_planes, none_yet, plane_differs, small_plane}
use Rattle.store_run.proofs.tint_changes.tint_changes.Goals as goal

pub loop-bit-init : goal.loop-bit-init
loop-bit-init g c = record {
  so_far = λ s o t p. none_yet (2 ^ (c.args.side - 2)) c.args.side s t;
  same = refl;
  rests = g.met.B.Blocks.rests_itself _;
}

pub joined-found-requires-clause-first : goal.joined-found-requires-clause-first
joined-found-requires-clause-first g c =
    let s = root_block _ c.args.side _ c.requires.before in
    let t = root_block _ c.args.side _ c.requires.after in
    extent_ends (2 ^ (c.args.side - 2))
    (in_some (plane_differs c.args.side s.tree t.tree) c.loop-bit.bit) c.loop-bit.found
    (small_plane c.args.side c.exponent-exponent.result c.requires.large
    c.exponent-exponent.ensures.value c.exponent-exponent.ensures.bounds.1)
    (c.loop-bit.invariant.so_far s.tree s.is_block t.tree t.is_block)

pub joined-found-requires-clause-second : goal.joined-found-requires-clause-second
joined-found-requires-clause-second g c =
    let s = root_block _ c.args.side _ c.requires.before in
    let t = root_block _ c.args.side _ c.requires.after in
    extent_ends (2 ^ (c.args.side - 2))
    (plane_differs c.args.side s.tree t.tree c.loop-bit.bit) c.bit_changes-more.result
    (small_plane c.args.side c.exponent-exponent.result c.requires.large
    c.exponent-exponent.ensures.value c.exponent-exponent.ensures.bounds.1)
    (c.bit_changes-more.ensures.extent s.tree
    (block_as _ _ _ _ s.tree c.loop-bit.invariant.same s.is_block) t.tree
    (block_as _ _ _ _ t.tree c.loop-bit.invariant.same t.is_block))

pub loop-bit-preserved : goal.loop-bit-preserved
loop-bit-preserved g c = record {
  so_far = λ s o t p.
      more_planes (2 ^ (c.args.side - 2)) c.args.side c.loop-bit.bit s t c.loop-bit.found
      c.bit_changes-more.result c.joined-found.result (c.loop-bit.invariant.so_far s o t p)
      (c.bit_changes-more.ensures.extent s
      (block_as _ _ _ _ s c.loop-bit.invariant.same o) t
      (block_as _ _ _ _ t c.loop-bit.invariant.same p)) c.joined-found.ensures;
  same = c.bit_changes-more.ensures.seen ∙ c.loop-bit.invariant.same;
  rests = g.met.B.Blocks.rests_on _ _ _ c.loop-bit.invariant.rests
      c.bit_changes-more.ensures.rests;
}

pub returns-clause-extent : goal.returns-clause-extent
returns-clause-extent g c s o t p =
    let eight : c.loop-bit.bit ≡ 8 = omega (arith, c.loop-bit.auto.bit-end, c.loop-bit-test.false) in
    all_planes c.args.side s t c.loop-bit.found c.requires.large
    (subst (λ (k : ℕ). IsExtent (2 ^ (c.args.side - 2)) (in_some (plane_differs c.args.side s t) k)
    c.loop-bit.found) eight (c.loop-bit.invariant.so_far s o t p))
