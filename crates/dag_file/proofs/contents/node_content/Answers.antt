use Rattle.std.proofs.Common.{rules, ◌∙◌, arith}
use Rattle.dag_file.proofs.IndexLaws.{words_step}
use Rattle.dag_file.proofs.KeyLaws.{still_block}
use Rattle.dag_file.proofs.contents.node_content.Goals as goal

pub loop-k-preserved : goal.loop-k-preserved
loop-k-preserved g c = record {
  words = words_step _ _ c.args.level c.args.node _ _ c.loop-k.k c.from.result c.octant_name-child.result c.word_of.result c.loop-k.words c.loop-k.invariant.same c.loop-k.invariant.words c.octant_name-child.ensures.octant c.word_of.ensures.slot c.word_of.ensures.word c.from.ensures (let eight = c.loop-k.invariant.eight in let in_range = c.loop-k-test.true in omega (arith, eight, in_range));
  eight = search rules;
  block = still_block _ _ c.args.level c.args.node c.octant_name-child.ensures.seen c.loop-k.invariant.block;
  same = c.octant_name-child.ensures.seen ∙ c.loop-k.invariant.same;
  rests = g.met.B.Blocks.rests_on _ _ _ c.loop-k.invariant.rests c.octant_name-child.ensures.rests;
}
