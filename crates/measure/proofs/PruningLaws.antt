-- What is remembered of blocks that can't widen a box.
use Rattle.std.proofs.Common.{◌≡◌, ℕ, ◌+◌, ◌-◌, Bool, true, Some, None, Option, List, refl, sym, ap, ◌∙◌, subst, arith}
use Rattle.std.specs.Prelude.{is_some, IfSome}
use Rattle.vw_cell.specs.declared.cells.Cell.{Cell}
use Rattle.vw_cell.specs.declared.boxes.Boxed.{Boxed}
use Rattle.vw_cell.specs.declared.blocks.Block.{Block}
use Rattle.vw_cell.specs.Counts.{cell_at}
use Rattle.vw_cell.specs.Places.{IsInBox, IsInBlock, IsInWorld, block_side}
use Rattle.node_words.specs.shapes.Tree.{Tree}
use Rattle.node_words.specs.Held.{StoreState}
use Rattle.node_words.specs.declared.descent.answers.Known.{Known}
use Rattle.node_words.specs.descent.Answers.{AreRight}
use Rattle.node_words.proofs.OfDescent.LookLaws.{same_cell}
use Rattle.measure.specs.Tallies.{Counting}
use Rattle.measure.specs.Widening.{IsFound, WidensBy, from_corner, ShowsPassed}
use Rattle.measure.specs.declared.pruning.Within.{Within}
use Rattle.measure.specs.Pruning.{LiesWithinPart, tells_within}
use Rattle.measure.proofs.WideningLaws.{widens_same, told_cell, passed_by}

-- the part that is told by a box has the cells that the box has
pub record IsPartAt (b part : Boxed) (place : Block) : Type 0 where
  pub from : (c : Cell) → IsInWorld (block_side place.level) c → IsInBox part c
      → IsInBox b (from_corner place c)
  pub to : (c : Cell) → IsInWorld (block_side place.level) c → IsInBox b (from_corner place c)
      → IsInBox part c

pub known_widens : {S : Type 0} (counts : Counting S) (held : List Tree) (subject : S)
    (place : Block) (b part : Boxed) (found : Option Boxed) → found ≡ Some b
    → IsPartAt b part place → LiesWithinPart counts held place.level subject part
    → WidensBy counts held subject place found found
known_widens counts held subject place b part found e p w cells test counted shows =
    widens_same _ _ found (λ c m.
    let t = told_cell place c m.inside in
    let set : test t.inner ≡ true = sym (passed_by place test cells c t shows) ∙ m.set in
    let there = p.from t.inner t.inside (w.each test t.inner counted t.inside set) in
    subst (λ (f : Option Boxed). IsFound f c) (sym e) (subst (IsInBox b) (sym t.same) there))

-- the cells of the world that the cells of a block are
abbrev placed_test : Block → (Cell → Bool) → Cell → Bool
placed_test place test c =
    test (cell_at (c.x - place.at.x) (c.y - place.at.y) (c.z - place.at.z))

back_again : (place : Block) (test : Cell → Bool)
    → ShowsPassed place test (placed_test place test)
back_again place test = record {
  each = λ c i. ap test (same_cell c (place.at.x + c.x - place.at.x) (place.at.y + c.y - place.at.y)
      (place.at.z + c.z - place.at.z) (omega arith) (omega arith) (omega arith));
}

pub widened_within : {S : Type 0} (counts : Counting S) (held : List Tree) (subject : S)
    (place : Block) (b part : Boxed) (found wide : Option Boxed) → wide ≡ Some b
    → IsPartAt b part place → WidensBy counts held subject place found wide
    → LiesWithinPart counts held place.level subject part
widened_within counts held subject place b part found wide e p widens = record {
  each = λ test c counted i set.
      let shows = back_again place test in
      let all = widens (placed_test place test) test counted shows in
      let inside : IsInBlock place (from_corner place c) =
      record {
        x = (omega arith, omega (arith, i.x));
        y = (omega arith, omega (arith, i.y));
        z = (omega arith, omega (arith, i.z));
      } in
      let is_set : placed_test place test (from_corner place c) ≡ true = sym (shows.each c i) ∙ set in
      p.to c i (subst (λ (f : Option Boxed). IsFound f (from_corner place c)) e
      (all.holds (from_corner place c) (record { inside = inside; set = is_set })));
}

-- what is remembered is right before and after calls that change nothing
pub right_still : {S : Type 0} (counts : Counting S) (a b : StoreState)
    (places : List (Option (Known (Within S)))) → b ≡ a
    → AreRight (tells_within counts) b.held places → AreRight (tells_within counts) a.held places
right_still counts a b places e r =
    subst (λ (s : StoreState). AreRight (tells_within counts) s.held places) e r

pub right_after : {S : Type 0} (counts : Counting S) (a b : StoreState)
    (places : List (Option (Known (Within S)))) → b ≡ a
    → AreRight (tells_within counts) a.held places → AreRight (tells_within counts) b.held places
right_after counts a b places e r = right_still counts b a places (sym e) r

none_some : (found : Option ℕ) (is : Bool) → found ≡ None → is ≡ is_some found → is ≡ true → ⊥
none_some None is n e t = cc
none_some (Some m) is n e t = cc

pub some_holds : (found : Option ℕ) (is : Bool) (P : Type 0) → is ≡ is_some found → is ≡ true
    → IfSome found (λ _. P) → P
some_holds None is P e t h = absurd (none_some None is refl e t)
some_holds (Some n) is P e t h = h
