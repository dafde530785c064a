use Rattle.std.proofs.Common.{rules, ◌≡◌, ◌≤◌, ◌+◌, ◌-◌, ◌*◌, ◌<◌, ℕ, Some, None, sym, ap, subst, ◌∙◌, arith}
use Rattle.node_words.specs.declared.shapes.names.Name.{Name}
use Rattle.node_words.specs.shapes.Tree.{Tree, child_of}
use Rattle.node_words.specs.shapes.Weights.{number_of_trees}
use Rattle.node_words.specs.Held.{AreBelow, AreHeld, HoldsChildren, HoldsName, name_in, most_before_freeing}
use Rattle.node_words.proofs.GatherLaws.{may_next}
use Rattle.node_table.specs.Views.{SeatView}
use Rattle.node_table.proofs.OnlyShares.{only_on}
use Rattle.node_table.proofs.Taking.{one_emptied}
use Rattle.release.proofs.ReturnLaws.{gave_left, gave_freed, gave_none, row_goes_on, children_held, children_below, children_room, next_held, row_room, may_is_held}
use Rattle.release.proofs.+back.Goals as goal

pub release-release_row-requires : goal.release-release_row-requires
release-release_row-requires g t c κs within =
    let v = c.args.pass.now.view in let m = c.lower_in_turn.new.pass.view in
    let h = c.requires.held in let n = c.args.share in let children = c.in-Freed.children in
    let e = c.in-Freed.ensures.lowered h.tree h.is_held h.root in
    let tells = c.in-Freed.ensures.tells in
    let of = c.lower_in_turn.ensures.of in
    let idle : m.turn ≡ None = ap (λ (x : SeatView). x.turn) e.0.is in
    let level : c.name-level.result.level ≡ n.level =
    ap (λ (x : Name). x.level) c.name-level.ensures in
    let below : AreBelow c.name-level.result.level children =
    subst (λ (l : ℕ). AreBelow l children) (sym level)
    (children_below v h.tree n children tells h.is_held h.root e.1) in
    let holds : HoldsChildren m.held children =
    record {
      row = λ k. child_of h.tree k;
      are_held = children_held v m h.tree children h.is_held e.0 e.1;
    } in
    let room : number_of_trees m.held + 8 * (c.name-level.result.level - 1) ≤ most_before_freeing =
    subst (λ (l : ℕ). number_of_trees m.held + 8 * (l - 1) ≤ most_before_freeing) (sym level)
    (children_room v m h.tree n tells h.is_held h.root e.0 c.requires.room) in
    search (rules, arith, of, idle, level, below, holds, room)

pub release-returns-in-Left-clause-back : goal.release-returns-in-Left-clause-back
release-returns-in-Left-clause-back g t c = λ u held root.
    gave_left c.args.pass.now.view c.lower_in_turn.new.pass.view u c.args.share c.args.steps.now
    c.lower_in_turn.new.steps root (c.in-Left.ensures.lowered u held root) c.in-Left.ensures.steps

pub release-returns-in-Freed-clause-back : goal.release-returns-in-Freed-clause-back
release-returns-in-Freed-clause-back g t c = λ u held root.
    (let v = c.args.pass.now.view in let m = c.lower_in_turn.new.pass.view in
    let e = c.in-Freed.ensures.lowered u held root in
    gave_freed v m c.release_row.new.pass.view u c.args.share c.args.steps.now
    c.lower_in_turn.new.steps c.release_row.new.steps root held e.0 c.in-Freed.ensures.steps
    (c.release_row.ensures.back (λ k. child_of u k)
    (children_held v m u c.in-Freed.children held e.0 e.1)))

pub release_row-release_some-requires : goal.release_row-release_some-requires
release_row-release_some-requires g t c κs within =
    let v = c.args.pass.now.view in let m = c.loop-k.pass.view in let k = c.loop-k.k in
    let inv = c.loop-k.invariant in let row = c.requires.held.row in
    let are = c.requires.held.are_held in let lt : k < 8 = c.loop-k-test.true in
    let taken : c.take_at-child.result ≡ name_in c.args.children k =
    c.take_at-child.ensures.taken ∙ inv.emptied.kept k (omega arith) in
    let gone = inv.gone row are in
    let held : (n : Name) → c.take_at-child.result ≡ Some n → HoldsName m.held n =
    λ n e. next_held v m c.args.children row k n lt are gone.loses (sym taken ∙ e) in
    let below : (n : Name) → c.take_at-child.result ≡ Some n → n.level + 1 ≡ c.args.level =
    λ n e. c.requires.below.each k n lt (sym taken ∙ e) in
    let room = row_room v m row k (8 * (c.args.level - 1)) gone.loses c.requires.room in
    let of = inv.of in let idle = inv.only.turn in
    search (rules, arith, of, idle, held, below, room)

pub release_row-loop-k-preserved : goal.release_row-loop-k-preserved
release_row-loop-k-preserved g t c =
    let v = c.args.pass.now.view in let m = c.loop-k.pass.view in let k = c.loop-k.k in
    let w = c.release_some.new.pass.view in
    let inv = c.loop-k.invariant in let lt : k < 8 = c.loop-k-test.true in
    let taken : c.take_at-child.result ≡ name_in c.args.children k =
    c.take_at-child.ensures.taken ∙ inv.emptied.kept k (omega arith) in
    let back = λ (row : ℕ → Tree) (are : AreHeld v.held c.args.children row).
    c.release_some.ensures.back (row k) (are.names k lt ∙ sym taken)
    (may_next v.held m.held c.args.children row k are lt (inv.gone row are).loses) in
    record {
      of = c.release_some.ensures.of;
      only = only_on v m w inv.only (back c.requires.held.row c.requires.held.are_held).only;
      emptied = one_emptied c.args.children c.loop-k.rest c.take_at-child.new.children k
          (omega arith) inv.emptied c.take_at-child.ensures.left;
      long = c.take_at-child.auto.children ∙ inv.long;
      gone = λ row are. row_goes_on v m w row k c.args.steps.now c.loop-k.steps
          c.release_some.new.steps (inv.gone row are) (back row are);
    }

pub release_some-returns-in-Some-clause-back : goal.release_some-returns-in-Some-clause-back
release_some-returns-in-Some-clause-back g t c = λ u root may.
    (let e = root ∙ c.in-Some.is in
    c.release.ensures.back u (may_is_held c.args.pass.now.view.held u c.in-Some.share e may) e)

pub release_some-returns-in-None-clause-back : goal.release_some-returns-in-None-clause-back
release_some-returns-in-None-clause-back g t c = λ u root may.
    gave_none c.args.pass.now.view u c.args.steps.now c.requires.idle (root ∙ c.in-None.is)
