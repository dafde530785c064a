use Rattle.std.proofs.Common.{◌≡◌, ◌<◌, ◌∙◌, Option, sym, subst, arith}
use Rattle.node_words.specs.declared.shapes.names.Name.{Name}
use Rattle.node_words.specs.Held.{name_in}
use Rattle.node_words.proofs.GatherLaws.{lose_more, may_next, fewer}
use Rattle.node_table.proofs.OnlyShares.{only_on}
use Rattle.node_table.proofs.Taking.{one_emptied}
use Rattle.intern.specs.Nodes.{IsHeldBelow}
use Rattle.intern.proofs.GivingLaws.{next_kept}
use Rattle.intern.proofs.giving.give_row.Goals as goal

pub give_kept-requires-clause-kept : goal.give_kept-requires-clause-kept
give_kept-requires-clause-kept g c =
    let old = c.args.pass.now.view.held in let mid = c.loop-k.pass.view.held in
    let k = c.loop-k.k in let inv = c.loop-k.invariant in let h = c.requires.held in
    let taken : c.take_at-child.result ≡ name_in c.args.children k =
    c.take_at-child.ensures.taken ∙ inv.emptied.kept k (omega arith) in
    subst (λ (o : Option Name). IsHeldBelow mid o) (sym taken)
    (next_kept old mid c.args.children h.row k c.loop-k-test.true h.are_held h.over
    (inv.gone h.row h.are_held))

pub give_kept-requires-clause-room : goal.give_kept-requires-clause-room
give_kept-requires-clause-room g c =
    let h = c.requires.held in
    let less = fewer c.args.pass.now.view.held c.loop-k.pass.view.held h.row c.loop-k.k
    (c.loop-k.invariant.gone h.row h.are_held) in
    let room = c.requires.room in omega arith

pub loop-k-preserved : goal.loop-k-preserved
loop-k-preserved g c =
    let v = c.args.pass.now.view in let m = c.loop-k.pass.view in let k = c.loop-k.k in
    let w = c.give_kept.new.pass.view in
    let inv = c.loop-k.invariant in let lt : k < 8 = c.loop-k-test.true in
    let taken : c.take_at-child.result ≡ name_in c.args.children k =
    c.take_at-child.ensures.taken ∙ inv.emptied.kept k (omega arith) in
    let turns = inv.turns in let more = c.give_kept.ensures.turns in
    record {
      of = c.give_kept.ensures.of;
      only = only_on v m w inv.only c.give_kept.ensures.only;
      emptied = one_emptied c.args.children c.loop-k.rest c.take_at-child.new.children k
          (omega arith) inv.emptied c.take_at-child.ensures.left;
      long = c.take_at-child.auto.children ∙ inv.long;
      gone = λ row are. lose_more v.held m.held w.held row k (inv.gone row are)
          (c.give_kept.ensures.loses (row k) (are.names k lt ∙ sym taken)
          (may_next v.held m.held c.args.children row k are lt (inv.gone row are)));
      turns = omega arith;
    }
