use Rattle.std.proofs.Common.{◌≡◌, ◌≢◌, ◌≤◌, ◌∙◌, ap, refl, arith, true, false}
use Rattle.world_core.specs.Answering.{children_in}
use Rattle.world_core.specs.Kept.{stored}
use Rattle.world_core.specs.Stored.{stored_state}
use Rattle.world_core.proofs.UnderLaws.{under_same, leaf_alone, child_live, under_child, not_under}
use Rattle.world_core.proofs.parts.Parts.+is_under.Goals as goal

pub returns-then-is_same : goal.returns-then-is_same
returns-then-is_same t c = (
  λ _. under_same (stored_state (stored c.args.self.now)).key c.args.m c.args.n
      (c.if-is_same.ensures.0 refl),
  λ _. refl,
)

pub returns-then-level-eq0 : goal.returns-then-level-eq0
returns-then-level-eq0 t c =
    let other : c.args.m ≢ c.args.n =
    λ e. (let x : false ≡ true = c.if-is_same.ensures.1 e in (let no : ⊥ = cc in no)) in (
      λ x. (let no : ⊥ = cc in absurd no),
      λ u. absurd (leaf_alone
          (stored c.args.self.now) c.args.n c.args.level c.requires.stored c.requires.live c.requires.level c.args.m c.if-level-eq0.true other u),
    )

pub is_under-requires : goal.is_under-requires
is_under-requires t c =
    let above : 1 ≤ c.args.level = (let h = c.if-level-eq0.false in omega arith) in
    let row = c.children_of-children.ensures ∙ ap children_in c.key_or_empty.ensures in
    let child =
    child_live (stored c.args.self.now) c.args.n c.args.level c.requires.stored c.requires.live c.requires.level c.children_of-children.result c.loop-k.k c.in-Some.child above c.loop-k-test.true row c.in-Some.is in
    (let d = c.decreases in omega arith, (c.requires.stored, (child.0, child.1)))

pub returns-then-is_under : goal.returns-then-is_under
returns-then-is_under t c =
    let above : 1 ≤ c.args.level = (let h = c.if-level-eq0.false in omega arith) in
    let row = c.children_of-children.ensures ∙ ap children_in c.key_or_empty.ensures in (
      λ _. under_child
          (stored c.args.self.now) c.args.n c.args.level c.requires.stored c.requires.live c.requires.level c.children_of-children.result c.loop-k.k c.in-Some.child c.args.m above c.loop-k-test.true row c.in-Some.is (c.if-is_under.ensures.0 refl),
      λ _. refl,
    )

pub returns : goal.returns
returns t c =
    let above : 1 ≤ c.args.level = (let h = c.if-level-eq0.false in omega arith) in
    let other : c.args.m ≢ c.args.n =
    λ e. (let x : false ≡ true = c.if-is_same.ensures.1 e in (let no : ⊥ = cc in no)) in
    let row = c.children_of-children.ensures ∙ ap children_in c.key_or_empty.ensures in (
      λ x. (let no : ⊥ = cc in absurd no),
      λ u. absurd (not_under
          (stored c.args.self.now) c.args.n c.args.level c.requires.stored c.requires.live c.requires.level c.children_of-children.result c.args.m above other row
          (λ j child lt at more. c.loop-k.invariant j child
          (let h = c.loop-k-test.false in omega arith) at more) u),
    )
