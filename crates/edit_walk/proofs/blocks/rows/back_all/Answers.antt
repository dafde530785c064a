use Rattle.std.proofs.Common.{sym, ◌∙◌, arith}
use Rattle.node_words.proofs.HeldLaws.{only_nothing, only_on}
use Rattle.node_words.proofs.GatherLaws.{lose_none, lose_more, may_next, fewer}
use Rattle.edit_walk.proofs.OfBlocks.RowLaws.{none_emptied, one_emptied, all_emptied}
use Rattle.edit_walk.proofs.blocks.rows.back_all.Goals as goal

pub loop-k-init : goal.loop-k-init
loop-k-init g c =
    record {
      gone =
          λ row a. lose_none _ row;
      emptied = none_emptied _;
      long = omega arith;
      only = only_nothing _;
      rests = g.met.N.Blocks.rests_itself _;
    }

pub back_if-requires-clause-held : goal.back_if-requires-clause-held
back_if-requires-clause-held g c =
    let row = c.requires.held.row in let a = c.requires.held.are_held in (
      row c.loop-k.k,
      a.names c.loop-k.k c.loop-k-test.true
          ∙ sym (c.take_at-share.ensures.taken
          ∙ c.loop-k.invariant.emptied.kept c.loop-k.k (omega arith)),
      may_next _ _ _ row c.loop-k.k a c.loop-k-test.true (c.loop-k.invariant.gone row a),
    )

pub back_if-requires-clause-room : goal.back_if-requires-clause-room
back_if-requires-clause-room g c =
    let row = c.requires.held.row in let a = c.requires.held.are_held in omega
    (arith, fewer _ _ row c.loop-k.k (c.loop-k.invariant.gone row a))

pub loop-k-preserved : goal.loop-k-preserved
loop-k-preserved g c = record {
  gone = λ row a. lose_more _ _ _ row c.loop-k.k (c.loop-k.invariant.gone row a)
      (c.back_if.ensures.gone (row c.loop-k.k)
      (a.names c.loop-k.k c.loop-k-test.true
      ∙ sym (c.take_at-share.ensures.taken
      ∙ c.loop-k.invariant.emptied.kept c.loop-k.k (omega arith)))
      (may_next _ _ _ row c.loop-k.k a c.loop-k-test.true (c.loop-k.invariant.gone row a)));
  emptied = one_emptied _ _ _ c.loop-k.k
      (omega arith) c.loop-k.invariant.emptied c.take_at-share.ensures.left;
  long = c.take_at-share.auto.children ∙ c.loop-k.invariant.long;
  only = only_on _ _ _ c.loop-k.invariant.only c.back_if.ensures.only;
  rests = g.met.N.Blocks.rests_on _ _ _ c.loop-k.invariant.rests c.back_if.ensures.rests;
}

pub end_all-requires : goal.end_all-requires
end_all-requires g c =
    λ k lt. all_emptied c.args.children _ c.loop-k.k c.loop-k.invariant.long c.loop-k-test.false c.loop-k.invariant.emptied k
