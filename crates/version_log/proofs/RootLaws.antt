-- Shares of roots that the log's turn has shown.
use Rattle.std.proofs.Common.{◌≡◌, ◌+◌, ◌^◌, ◌≤◌, ℕ, Option, Some, None, false, List, ◌∷◌, refl, sym, ◌∙◌, ap, subst, arith}
use Rattle.vw_cell.specs.declared.cells.Cell.{Cell}
use Rattle.vw_cell.specs.Places.{IsInWorld}
use Rattle.history_model.specs.Worlds.{World}
use Rattle.node_words.specs.declared.shapes.names.Name.{Name}
use Rattle.node_words.specs.shapes.Shape.{ShowsCells}
use Rattle.node_words.specs.shapes.Tree.{Tree, Gone, root_of, shape_of}
use Rattle.node_words.specs.shapes.Weights.{weigh}
use Rattle.node_words.proofs.OfShapes.ShapeLaws.{has-clear}
use Rattle.node_words.proofs.OfShapes.WeightLaws.{weigh-cons, weight_of-there, weight_of-gone}
use Rattle.node_words.specs.Gathering.{MayHold}
use Rattle.node_words.specs.Held.{IsHeld}
use Rattle.node_words.specs.Plans.{Layout, IsPlan}
use Rattle.node_words.proofs.HeldLaws.{held_reached}
use Rattle.core_laws.specs.places.Names.{IsName, named}
use Rattle.core_laws.specs.contents.Aligned.{top, world_block}
use Rattle.core_laws.proofs.OfContents.WorldBlocks.{in_world}
use Rattle.table_rule.specs.LogFacts.{IsShownRoot, seen_has}
use Rattle.table_rule.specs.ViewFacts.{ViewFacts}
use Rattle.table_rule.specs.Views.{SeatView, BucketAt}
use Rattle.table_rule.specs.Changes.{under_turn}
use Rattle.node_table.specs.Acts.{RaisesUnderTurn, left_with}
use Rattle.node_table.specs.Learning.{IsKnownLive}
use Rattle.node_table.specs.Learning.IsKnownLive.{rooted}
use Rattle.version_log.specs.Roots.{HoldsRootOf, GetsRoot}

-- what came is held
pub gained_held : (old : List Tree) (root : Option Name) (new : List Tree)
    → (g : GetsRoot old root new) → MayHold new g.tree
gained_held old root new g =
    record { weighs = λ f. (let e = g.loses.weighs f in omega (arith, e)) }

-- a name that was shown is one of the plan's
pub shown_name : (v : SeatView) (p : Layout) (n : ℕ) (m : Name) → ViewFacts v → v.plan ≡ p
    → IsShownRoot v n (Some m) → IsName p m
shown_name v p n m tells plan shown =
    subst (λ (q : Layout). IsName q m) plan ((tells.roots.named n m shown).1)

-- under a bucket's turn the root is shown still
shown_turned : (v u : SeatView) (b : BucketAt) (n : ℕ) (m : Option Name) → u ≡ under_turn v (Some b)
    → IsShownRoot v n m → IsShownRoot u n m
shown_turned v u b n m from shown =
    subst (λ (x : SeatView). IsShownRoot x n m) (sym from)
    (record {
      unmarked = record {
        turn = shown.unmarked.turn;
        there = shown.unmarked.there;
        unmarked = shown.unmarked.unmarked;
      };
      word = shown.word;
      known = shown.known;
      is = shown.is;
    })

pub shown_live : (v u : SeatView) (b : BucketAt) (n level bucket : ℕ) (m : Name)
    → u ≡ under_turn v (Some b) → level ≡ m.level → bucket ≡ m.bucket
    → IsShownRoot v n (Some m) → IsKnownLive u (named level bucket m.slot)
shown_live v u b n level bucket m from here there shown =
    let at : m ≡ named level bucket m.slot = λ i. named (sym here i) (sym there i) m.slot in
    subst (λ (k : Name). IsKnownLive u k) at (rooted n (shown_turned v u b n (Some m) from shown))

-- what a raise left: one more tree is held
came : (v u w : SeatView) (b : BucketAt) (level bucket : ℕ) (m : Name)
    → u ≡ under_turn v (Some b) → (r : RaisesUnderTurn u (named level bucket m.slot) w)
    → w ≡ left_with v (r.tree ∷ v.held)
came v u w b level bucket m from r =
    r.is ∙ ap (λ (x : SeatView). (let z : SeatView = left_with x (r.tree ∷ x.held) in z)) from

-- and the root is shown still
shown_left : (v w : SeatView) (held : List Tree) (n : ℕ) (m : Option Name) → w ≡ left_with v held
    → IsShownRoot v n m → IsShownRoot w n m
shown_left v w held n m is shown =
    subst (λ (x : SeatView). IsShownRoot x n m) (sym is)
    (record {
      unmarked = record {
        turn = shown.unmarked.turn;
        there = shown.unmarked.there;
        unmarked = shown.unmarked.unmarked;
      };
      word = shown.word;
      known = shown.known;
      is = shown.is;
    })

-- a tree that came, of this name
gains_tree : (old new : List Tree) (t : Tree) (m : Name) → root_of t ≡ Some m → new ≡ t ∷ old
    → GetsRoot old (Some m) new
gains_tree old new t m root is =
    record {
      tree = t;
      name = root;
      loses = record {
        weighs = λ f. ap (λ k. k + weigh f old) (weight_of-there f t m root)
            ∙ sym (weigh-cons f t old) ∙ ap (λ ts. weigh f ts) (sym is);
      };
    }

root_named : (t : Tree) (level bucket : ℕ) (m : Name) → root_of t ≡ Some (named level bucket m.slot)
    → level ≡ m.level → bucket ≡ m.bucket → root_of t ≡ Some m
root_named t level bucket m root here there =
    root ∙ (λ i. Some (named (here i) (there i) m.slot))

-- a share of a shown root came
pub raised_gains : (v u w : SeatView) (held : List Tree) (b : BucketAt) (level bucket : ℕ)
    (m : Name)
    → u ≡ under_turn v (Some b) → level ≡ m.level → bucket ≡ m.bucket
    → RaisesUnderTurn u (named level bucket m.slot) w → held ≡ w.held
    → GetsRoot v.held (Some m) held
raised_gains v u w held b level bucket m from here there r same =
    gains_tree v.held held r.tree m (root_named r.tree level bucket m r.root here there)
    (same ∙ ap (λ (x : SeatView). x.held) (came v u w b level bucket m from r))

tree_held : (held old : List Tree) (t : Tree) → held ≡ t ∷ old → IsHeld held t
tree_held held old t is =
    record {
      weighs = λ f.
          (let e = ap (λ ts. weigh f ts) is ∙ weigh-cons f t old in omega (arith, e));
    }

may_hold : (held : List Tree) (t : Tree) (m : Name) → root_of t ≡ Some m → IsHeld held t
    → MayHold held t
may_hold held t m root h =
    record {
      weighs = λ f.
          (let e = weight_of-there f t m root in let l = h.weighs f in omega (arith, e, l));
    }

-- and shows the cells of its version
root_after : (v w : SeatView) (t : Tree) (n : ℕ) (m : Name) → w ≡ left_with v (t ∷ v.held)
    → root_of t ≡ Some m → IsShownRoot v n (Some m) → ViewFacts w
    → HoldsRootOf w (Some m) (seen_has v n)
root_after v w t n m is root shown tells =
    let now = shown_left v w (t ∷ v.held) n (Some m) is shown in
    let there : IsHeld w.held t = tree_held w.held v.held t (ap (λ (x : SeatView). x.held) is) in
    record {
      tree = t;
      name = root;
      held = may_hold w.held t m root there;
      level = λ k e. (let s : m ≡ k = cc in
          subst (λ (x : Name). x.level ≡ top w.plan.side) s (tells.roots.named n m now).0);
      shows = subst (λ (cells : World). ShowsCells (world_block w.plan.side) (shape_of t) cells)
          (ap (λ (x : SeatView). seen_has x n) is)
          (tells.roots.shows n m t now (held_reached w.held t there) root);
    }

pub raised_root : (v u w z : SeatView) (b : BucketAt) (n level bucket : ℕ) (m : Name)
    → u ≡ under_turn v (Some b) → level ≡ m.level → bucket ≡ m.bucket
    → RaisesUnderTurn u (named level bucket m.slot) w → IsShownRoot v n (Some m) → z ≡ w
    → ViewFacts z → HoldsRootOf z (Some m) (seen_has v n)
raised_root v u w z b n level bucket m from here there r shown same tells =
    root_after v z r.tree n m (same ∙ came v u w b level bucket m from r)
    (root_named r.tree level bucket m r.root here there) shown tells

-- nothing came, and nothing went
pub no_root_gains : (held : List Tree) (root : Option Name) → root ≡ None → GetsRoot held root held
no_root_gains held root none =
    record {
      tree = Gone;
      name = sym none;
      loses = record { weighs = λ f. (let z = weight_of-gone f Gone refl in omega (arith, z)) };
    }

-- a version with no root shows no set cell
clear_shows : (side : ℕ) (cells : World) → 2 ≤ side
    → ((q : Cell) → IsInWorld (2 ^ side) q → cells q ≡ false)
    → ShowsCells (world_block side) (shape_of Gone) cells
unfolding shape_of
clear_shows side cells low none =
    record {
      each = λ c inside.
          has-clear (world_block side).level _ _ _ ∙ sym (none c (in_world side c low inside));
    }

pub no_root_held : (p : Layout) (v : SeatView) (n : ℕ) (root : Option Name) → IsPlan p → v.plan ≡ p
    → ViewFacts v → IsShownRoot v n root → root ≡ None → HoldsRootOf v root (seen_has v n)
no_root_held p v n root plan is tells shown none =
    let shown_none : IsShownRoot v n None =
    subst (λ (r : Option Name). IsShownRoot v n r) none shown in
    let side : v.plan.side ≡ p.side = ap (λ (q : Layout). q.side) is in
    let low = plan.side_low in
    record {
      tree = Gone;
      name = sym none;
      held = record { weighs = λ f. (let z = weight_of-gone f Gone refl in omega (arith, z)) };
      level = λ m e. absurd (let no : ⊥ = cc in no);
      shows = clear_shows v.plan.side (seen_has v n) (omega arith) (tells.roots.none n shown_none);
    }
