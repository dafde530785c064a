-- What is held beside the roots in places.
use Rattle.std.proofs.Common.{◌≡◌, ℕ, ◌+◌, ◌-◌, ◌≤◌, Some, None, Option, refl, sym, ap, subst, arith}
use Rattle.std.specs.Option.{ForSome}
use Rattle.history_model.specs.Worlds.{World}
use Rattle.node_words.specs.declared.shapes.names.Name.{Name}
use Rattle.node_words.specs.shapes.Shape.{ShowsCells}
use Rattle.node_words.specs.shapes.Tree.{Tree, root_of, shape_of}
use Rattle.node_words.specs.shapes.Weights.{weight_of, number_of_trees}
use Rattle.node_words.proofs.OfShapes.WeightLaws.{weight_of-there, weight_of-gone, weight_of-one}
use Rattle.node_words.specs.Held.{IsHeld, HoldsName}
use Rattle.core_laws.specs.contents.Aligned.{top, world_block}
use Rattle.node_words.specs.descent.Roots.{HoldsRoot}
use Rattle.core_laws.proofs.SeenNodes.{gone_tree}
use Rattle.edit_walk.specs.cells.Worlds.{ShowsWorld}
use Rattle.one_store.specs.entries.Words.{key_in}
use Rattle.one_store.specs.Known.{Known, root_tree}
use Rattle.one_store.proofs.StateLaws.{tree_root}
use Rattle.store_run.specs.Kept.{HoldsTree, GainsTree, LosesTree, HoldsSame}

-- the root of a root's tree
pub root_is : (s : Known) (root : Option Name) → root_of (root_tree s root) ≡ root
root_is s None = ap root_of (gone_tree (key_in s.words) (top s.words.plan.side))
root_is s (Some n) = tree_root (key_in s.words) (top s.words.plan.side) n

pub none_weighs : (s : Known) (f : Tree → ℕ) → weight_of f (root_tree s None) ≡ 0
none_weighs s f = weight_of-gone f (root_tree s None) (root_is s None)

pub some_weighs : (s : Known) (n : Name) (f : Tree → ℕ)
    → weight_of f (root_tree s (Some n)) ≡ f (root_tree s (Some n))
some_weighs s n f = weight_of-there f (root_tree s (Some n)) n (root_is s (Some n))

-- a share that came is held, and is one
pub gained_tree : (old : Known) (root : Option Name) (new : Known) → GainsTree old root new
    → HoldsTree new root
gained_tree old root new gains = record {
  each = λ n e. record {
    weighs = λ f. (
        let same = ap (λ (r : Option Name). weight_of f (root_tree new r)) e in
        omega (arith, gains.weighs f, same, some_weighs new n f));
  };
}

pub gained_few : (old : Known) (root : Option Name) (new : Known) (most : ℕ)
    → GainsTree old root new
    → number_of_trees old.told.held ≤ most → number_of_trees new.told.held ≤ most + 1
gained_few old root new most gains few =
    omega (arith, gains.weighs (λ _. 1), weight_of-one (root_tree new root), few)

pub gained_room : (old : Known) (root : Option Name) (new : Known) → GainsTree old root new
    → number_of_trees old.told.held ≤ 2048 → number_of_trees new.told.held ≤ 4008
gained_room old root new gains few = let one = gained_few old root new 2048 gains few in omega arith

pub tree_name : (s : Known) (n : Name) → HoldsTree s (Some n) → HoldsName s.told.held n
tree_name s n holds =
    record { tree = root_tree s (Some n); is_held = holds.each n refl; root = root_is s (Some n) }

-- such a share may be read from
pub holds_root : (s : Known) (side : ℕ) (root : Option Name) → HoldsTree s root
    → ((n : Name) → root ≡ Some n → n.level ≡ top side) → HoldsRoot s.told.held side root
holds_root s side None holds level = tt
holds_root s side (Some n) holds level = (tree_name s n holds, level n refl)

pub holds_shows : (s : Known) (side : ℕ) (root : Option Name) (world : World) → HoldsTree s root
    → ((n : Name) → root ≡ Some n → n.level ≡ top side)
    → ShowsCells (world_block side) (shape_of (root_tree s root)) world
    → ShowsWorld s.told.held (side - 2) root world
holds_shows s side root world holds level shows = record {
  tree = root_tree s root;
  is_root = record {
    root = root_is s root;
    is_held = λ n e. subst (λ (r : Option Name). IsHeld s.told.held (root_tree s r)) (sym e)
        (holds.each n e);
    at = level;
  };
  shows = shows;
}

pub holds_some : (s : Known) (root : Option Name) → HoldsTree s root
    → ForSome root (λ n. HoldsName s.told.held n)
holds_some s root holds = λ n e. tree_name s n (subst (λ (r : Option Name). HoldsTree s r) e holds)

pub same_held : (s : Known) → HoldsSame s s
same_held s = record { weighs = λ f. refl }

-- what came went again
pub same_again : (a v w : Known) (root : Option Name) → GainsTree a root v → LosesTree v root w
    → HoldsSame a w
same_again a v w root gains loses =
    record { weighs = λ f. omega (arith, gains.weighs f, loses.weighs f) }
