use Rattle.std.proofs.Common.{sym, ◌∙◌, refl, subst, arith}
use Rattle.node_words.specs.Held.{StoreState}
use Rattle.node_words.specs.descent.Roots.{HasBlock, IsBlockOf}
use Rattle.edit_walk.proofs.OutcomeLaws.{names_more}
use Rattle.edit_walk.proofs.outcomes.is_old.Goals as goal

pub loop-k-init : goal.loop-k-init
loop-k-init g c =
    record {
      names = λ t b j lt. absurd (omega arith);
      seen = refl;
      rests = g.met.B.Blocks.rests_itself _;
    }

pub octant_name-part-requires-clause-block : goal.octant_name-part-requires-clause-block
octant_name-part-requires-clause-block g c =
    subst (λ (v : StoreState). HasBlock v.held c.args.level c.args.old) (sym c.loop-k.invariant.seen)
    c.requires.old

pub loop-k-preserved : goal.loop-k-preserved
loop-k-preserved g c = record {
  names = λ t b.
      names_more t c.args.standing.now c.loop-k.k c.octant_name-part.result
      (c.loop-k.invariant.names t b)
      (c.octant_name-part.ensures.octant t
      (subst (λ (v : StoreState). IsBlockOf v.held c.args.level c.args.old t)
      (sym c.loop-k.invariant.seen) b)).root
      (c.if-not-same_names.ensures.0 refl);
  seen = c.octant_name-part.ensures.seen ∙ c.loop-k.invariant.seen;
  rests = g.met.B.Blocks.rests_on _ _ _ c.loop-k.invariant.rests c.octant_name-part.ensures.rests;
}

pub returns-clause-names : goal.returns-clause-names
returns-clause-names g c h t b k lt = c.loop-k.invariant.names t b k (omega arith)
