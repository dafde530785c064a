use Rattle.std.proofs.Common.{refl, ◌∙◌, arith}
use Rattle.node_words.proofs.HeldLaws.{keeps_itself, only_nothing, only_on}
use Rattle.edit_walk.proofs.OutcomeLaws.{all_filled, filled_long, filling_empty, filling_reaches, filling_step}
use Rattle.edit_walk.proofs.outcomes.filled.Goals as goal

pub loop-k-init : goal.loop-k-init
loop-k-init g c = record {
  filling = λ rest full target d a. record { finds = a; keeps = keeps_itself _ };
  number = omega arith;
  long = omega arith;
  only = only_nothing _;
  rests = g.met.N.Blocks.rests_itself _;
  turns = omega arith;
}

pub fill_in-requires-clause-reached : goal.fill_in-requires-clause-reached
fill_in-requires-clause-reached g c n e =
    let (rest, full, target, d, a) = c.requires.octants in
    filling_reaches rest a.now _ target _ _ c.loop-k.k _ full n (omega arith) e
    (c.loop-k.invariant.filling rest full target d a)

pub fill_in-requires-clause-empty : goal.fill_in-requires-clause-empty
fill_in-requires-clause-empty g c n e =
    let (rest, full, target, d, a) = c.requires.octants in
    filling_empty rest a.now _ target _ _ c.loop-k.k _ full n (omega arith) e
    (c.loop-k.invariant.filling rest full target d a)

pub loop-k-preserved : goal.loop-k-preserved
loop-k-preserved g c = record {
  filling = λ rest full target d a.
      filling_step rest a.now _ target _ _ _ c.loop-k.k _ _ full _ (omega arith)
      c.loop-k.invariant.long refl c.fill_in.ensures.filled
      (c.loop-k.invariant.filling rest full target d a);
  number = omega arith;
  long = filled_long _ c.loop-k.k _ _ _ _ c.fill_in.ensures.filled ∙ c.loop-k.invariant.long;
  only = only_on _ _ _ c.loop-k.invariant.only c.fill_in.ensures.only;
  rests = g.met.N.Blocks.rests_on _ _ _ c.loop-k.invariant.rests c.fill_in.ensures.rests;
  turns = omega arith;
}

pub returns-clause-filled : goal.returns-clause-filled
returns-clause-filled g c rest full target d a =
    all_filled rest a.now _ target _ _ c.loop-k.k _ full (omega arith)
    (c.loop-k.invariant.filling rest full target d a)
