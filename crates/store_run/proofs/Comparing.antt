-- Two versions beside each other, each with a share of its root.
use Rattle.std.proofs.Common.{◌≡◌, ℕ, ◌-◌, ◌^◌, ◌≤◌, Bool, Option, Some, List, sym, ◌∙◌, ap, subst, arith}
use Rattle.vw_cell.specs.declared.boxes.Boxed.{Boxed}
use Rattle.vw_cell.specs.Extents.{IsExtent}
use Rattle.history_model.specs.Worlds.{World}
use Rattle.node_words.specs.declared.shapes.names.Name.{Name}
use Rattle.node_words.specs.shapes.Tree.{Tree, shape_of}
use Rattle.node_words.specs.shapes.Weights.{weigh, weight_of, number_of_trees}
use Rattle.node_words.proofs.HeldLaws.{held_reached}
use Rattle.node_words.specs.descent.Roots.{IsBlockOf, ForWorld, cells_of}
use Rattle.measure.specs.Changes.{is_other, differs}
use Rattle.core_laws.specs.contents.Versions.{HoldsVersion, SameWorld}
use Rattle.one_store.specs.Known.{Known, root_tree, stored_root}
use Rattle.one_store.specs.Steps.{SparesRoots}
use Rattle.act_rebuilds.proofs.OfQuestions.SameTells.{extent_same}
use Rattle.store_run.specs.declared.stored_versions.Versions.{Versions}
use Rattle.store_run.specs.Kept.{log_of, world_of, AreStoredVersions, AreVersions, HoldsNothing, HoldsTree, HoldsSame}
use Rattle.store_run.specs.Steps.{LeavesAll, SharesRootOfVersion, PutsDown, DifferIn}
use Rattle.store_run.specs.Worlds.{AreStoredAtRest}
use Rattle.store_run.proofs.Files.{shown_at}
use Rattle.store_run.proofs.Holding.{gained_few}
use Rattle.store_run.proofs.Rebuilding.{shows_plainly, stays_on}
use Rattle.store_run.proofs.Sparing.{stored_same, tree_same}

-- ---- shares beside each other

-- nothing was held, and one share came
pub shared_one : (a v : Versions) (version : ℕ) (base : Option Name)
    → SharesRootOfVersion a version base v → HoldsNothing a.store
    → number_of_trees v.store.told.held ≤ 2048
shared_one a v version base shares free =
    let one =
    gained_few a.store base v.store 0 shares.gains (omega (arith, free.weighs (λ _. 1))) in
    omega (arith, one)

-- a held tree stays held where no less is held
held_still : (old new : Known) (place : ℕ) (root : Option Name) → HoldsTree old root
    → root ≡ stored_root old.roots place → SparesRoots old new
    → ((f : Tree → ℕ) → weigh f old.told.held ≤ weigh f new.told.held) → HoldsTree new root
held_still old new place root holds is spares more = record {
  each = λ n e. record {
    weighs = λ f. (
        let tree : f (root_tree new (Some n)) ≡ f (root_tree old (Some n)) =
        ap f (sym (ap (root_tree new) e) ∙ tree_same old new place root spares is
        ∙ ap (root_tree old) e) in
        omega (arith, (holds.each n e).weighs f, more f, tree));
  };
}

-- another share came beside it
pub beside_tree : (a v : Versions) (version other : ℕ) (root base : Option Name)
    → HoldsTree a.store root → root ≡ stored_root a.store.roots version
    → SharesRootOfVersion a other base v → HoldsTree v.store root
beside_tree a v version other root base holds is shares =
    held_still a.store v.store version root holds is shares.stay.spares
    (λ f. omega (arith, shares.gains.weighs f))

pub beside_root : (a v : Versions) (version other : ℕ) (root base : Option Name)
    → root ≡ stored_root a.store.roots version
    → SharesRootOfVersion a other base v → root ≡ stored_root v.store.roots version
beside_root a v version other root base is shares =
    is ∙ sym (stored_same a.store v.store version shares.stay.spares)

-- as much is held as before
pub still_tree : (a w : Versions) (version : ℕ) (root : Option Name) → HoldsTree a.store root
    → root ≡ stored_root a.store.roots version → LeavesAll a w → HoldsSame a.store w.store
    → HoldsTree w.store root
still_tree a w version root holds is leaves same =
    held_still a.store w.store version root holds is leaves.stay.spares
    (λ f. omega (arith, same.weighs f))

-- a share came, something was done that left what it met, and the share went
pub left_all : (a v u w : Versions) (version : ℕ) (base : Option Name)
    → SharesRootOfVersion a version base v → LeavesAll v u → PutsDown u base w → LeavesAll a w
left_all a v u w version base shares leaves puts = record {
  stay = stays_on a u w (stays_on a v u shares.stay leaves.stay) puts.leaves.stay;
  only = record {
    made = puts.leaves.only.made ∙ leaves.only.made ∙ shares.only.made;
    met = puts.leaves.only.met ∙ leaves.only.met ∙ shares.only.met;
  };
}

pub left_same : (a v u w : Versions) (version : ℕ) (base : Option Name)
    → SharesRootOfVersion a version base v → LeavesAll v u → HoldsSame v.store u.store
    → PutsDown u base w → HoldsSame a.store w.store
left_same a v u w version base shares leaves same puts = record {
  weighs = λ f. (
      let tree =
      ap (weight_of f) (tree_same v.store u.store version base leaves.stay.spares shares.is) in
      omega (arith, shares.gains.weighs f, puts.loses.weighs f, same.weighs f, tree));
}

pub rests_again : (a w : Versions) → HoldsNothing a.store → HoldsSame a.store w.store
    → AreStoredVersions w → AreStoredAtRest w
rests_again a w free same are =
    record { are = are; nothing = record { weighs = λ f. same.weighs f ∙ free.weighs f } }

-- ---- where they differ

-- a root has the cells of its version
pub root_cells : (v : Versions) (version : ℕ) (root : Option Name) → AreVersions v
    → HoldsVersion (log_of v) version → HoldsTree v.store root
    → root ≡ stored_root v.store.roots version
    → (t : Tree) × IsBlockOf v.store.told.held (v.side - 2) root t
    × SameWorld (2 ^ v.side) (cells_of (v.side - 2) (shape_of t)) (world_of v version)
root_cells v version root are kept holds is =
    let s = shows_plainly v version root are kept holds is in (
      s.tree,
      record {
        root = s.is_root.root;
        reached = λ n e. held_reached v.store.told.held s.tree (s.is_root.is_held n e);
        of_level = s.is_root.at;
      },
      record {
        each = λ c inside. shown_at v.side (shape_of s.tree) (world_of v version) s.shows c inside;
      },
    )

-- worlds differ where worlds with the same cells do
same_differs : (side : ℕ) (f g k l : World) → SameWorld side f k → SameWorld side g l
    → SameWorld side (differs f g) (differs k l)
same_differs side f g k l same also = record {
  each = λ c inside.
      ap (λ (set : Bool). is_other set (g c)) (same.each c inside)
      ∙ ap (λ (set : Bool). is_other (k c) set) (also.each c inside);
}

pub roots_differ : (v : Versions) (a b : ℕ) (before after : Option Name) (found : Option Boxed)
    → AreVersions v → HoldsVersion (log_of v) a → HoldsVersion (log_of v) b
    → HoldsTree v.store before → HoldsTree v.store after
    → before ≡ stored_root v.store.roots a → after ≡ stored_root v.store.roots b
    → ForWorld v.store.told.held v.side before (λ old. ForWorld v.store.told.held v.side after
    (λ new. IsExtent (2 ^ v.side) (differs old new) found))
    → DifferIn v a b found
roots_differ v a b before after found are of_a of_b holds also is_a is_b told =
    let s = root_cells v a before are of_a holds is_a in
    let t = root_cells v b after are of_b also is_b in
    extent_same (2 ^ v.side)
    (differs (cells_of (v.side - 2) (shape_of s.0)) (cells_of (v.side - 2) (shape_of t.0)))
    (differs (world_of v a) (world_of v b))
    (same_differs (2 ^ v.side) (cells_of (v.side - 2) (shape_of s.0))
    (cells_of (v.side - 2) (shape_of t.0)) (world_of v a) (world_of v b) s.2 t.2)
    found (told s.0 s.1 t.0 t.1)
