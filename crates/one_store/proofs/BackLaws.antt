-- What is given back on the way down.
use Rattle.std.proofs.Common.{◌≡◌, ℕ, zero, suc, ◌+◌, ◌-◌, ◌*◌, ◌≤◌, ◌<◌, Some, None, Option, List, refl, sym, ◌∙◌, ap, subst, arith}
use Rattle.vw_cell.specs.Sums.{sum_below}
use Rattle.node_words.specs.declared.shapes.names.Name.{Name}
use Rattle.node_words.specs.shapes.Shape.{Shape, branch_of, octant_shape, IsBranch}
use Rattle.node_words.specs.shapes.Tree.{Tree, Gone, node_at, root_of, shape_of}
use Rattle.node_words.specs.shapes.Weights.{weigh, number_of_trees, weight_of, weight_below}
use Rattle.node_words.proofs.OfShapes.TreeEqual.{Name-discrete}
use Rattle.node_words.proofs.OfShapes.TreeLaws.{shape_of-node}
use Rattle.node_words.proofs.OfShapes.WeightLaws.{weight_of-there, weight_below-part, weight_below-same}
use Rattle.node_words.specs.declared.keys.Key.{Key}
use Rattle.node_words.specs.declared.keys.Key.TheVariants.{Leaf, Node}
use Rattle.node_words.specs.Held.{HoldsName, AreBelow, name_in}
use Rattle.node_words.specs.Plans.{Layout}
use Rattle.core_laws.specs.places.Names.{IsName, HasNames}
use Rattle.core_laws.specs.States.{IsLive, tree_at}
use Rattle.core_laws.specs.Counting.{children_weight}
use Rattle.core_laws.specs.Returning.{FreesParts}
use Rattle.core_laws.specs.Soundness.{FitsLevel}
use Rattle.core_laws.proofs.Frees.{frees_nothing, frees_node, frees_octant}
use Rattle.core_laws.proofs.Lives.{child_lives}
use Rattle.core_laws.proofs.SeenNodes.{gone_tree}
use Rattle.one_store.specs.entries.Words.{Written, book_in, key_in}
use Rattle.one_store.specs.entries.Changes.{OtherBooksStay}
use Rattle.one_store.specs.notes.StoreNotes.{StoreNotes}
use Rattle.one_store.specs.notes.Changes.{MakesNothing, HoldsRow}
use Rattle.one_store.specs.Known.{Known, IsStore, core_of, tree_in, trees_below}
use Rattle.one_store.specs.Steps.{Moves, LowersShare, FreesNode, Releases, ReleasesRow, HoldsChild, with_books}
use Rattle.one_store.proofs.StateLaws.{tree_root, row_number, key_few}
use Rattle.one_store.proofs.StoreLaws.{held_name, held_tree, book_moves, same_plan, same_keys}

pub moves_on : (a b c : Known) → Moves a b → Moves b c → Moves a c
moves_on a b c p q =
    record {
      words = q.words
          ∙ ap (λ (w : Written). with_books w c.words.books) p.words;
      roots = q.roots ∙ p.roots;
    }

pub moves_itself : (a : Known) → Moves a a
moves_itself a = record { words = refl; roots = refl }

pub only_on : (a b c : StoreNotes) → MakesNothing a b → MakesNothing b c → MakesNothing a c
only_on a b c p q = record { made = q.made ∙ p.made; met = q.met ∙ p.met }

tree_weight : (v : Known) (n : Name) (f : Tree → ℕ) → weight_of f (tree_in v n) ≡ f (tree_in v n)
tree_weight v n f = weight_of-there f (tree_in v n) n (tree_root (key_in v.words) n.level n)

one_fell : (p : Layout) (before after : Name → ℕ) (n : Name) → OtherBooksStay p n before after
    → after n ≤ before n → (m : Name) → IsName p m → after m ≤ before m
one_fell p before after n o fell m is = elim (Name-discrete m n) [
  | yes e ↦ subst (λ (x : Name). after x ≤ before x) (sym e) fell
  | no other ↦ omega (arith, o.each m is other)
]

-- another reference is left
pub released_left : (old new : Known) (n : Name) (steps now : ℕ) → LowersShare old n new
    → now ≡ steps + 1 → Releases old (tree_in old n) new steps now
released_left old new n steps now r e = record {
  moves = book_moves old new n _ r.words r.roots;
  only = r.told.only;
  loses = record { weighs = λ f. omega (arith, tree_weight old n f, r.told.loses.weighs f) };
  frees = frees_nothing old.words.plan (key_in old.words) (shape_of (tree_in old n)) 1
      (book_in old.words) (book_in new.words) steps now
      (one_fell old.words.plan (book_in old.words) (book_in new.words) n r.words.others
      (omega (arith, r.words.book_is))) (omega arith);
}

-- the key of a leaf
pub record IsLeafKey (k : Key) : Type 0 where
  pub bits : ℕ
  pub is : k ≡ Leaf bits

pub leaf_key : (level : ℕ) (k : Key) → level ≡ 0 → FitsLevel level k → IsLeafKey k
leaf_key zero (Leaf bits) z f = record { bits = bits; is = refl }
leaf_key zero (Node children) z f = absurd f
leaf_key (suc level) k z f = absurd (omega arith)

pub leaf_row : (f : Tree → ℕ) (key : Name → Key) (level bits : ℕ)
    → weight_below f (trees_below key level (Leaf bits)) 8 ≡ 0
unfolding weight_of
leaf_row f key level bits =
    let g : (k : ℕ) → weight_of f (trees_below key level (Leaf bits) k) ≡ 0 =
    λ k. ap (weight_of f) (gone_tree key level) in
    omega (arith, g 0, g 1, g 2, g 3, g 4, g 5, g 6, g 7)

-- a leaf goes
pub released_leaf : (old new : Known) (n : Name) (number steps now : ℕ) → IsStore old number
    → HoldsName old.told.held n → n.level ≡ 0 → book_in old.words n ≡ 1 → FreesNode old n new
    → now ≡ steps + 1 → Releases old (tree_in old n) new steps now
released_leaf old new n number steps now s h z last r e =
    let k = leaf_key n.level (key_in old.words n) z (s.sound.fits n (held_name old number n s h)) in
    record {
      moves = book_moves old new n _ r.words r.roots;
      only = r.told.only;
      loses = record {
        weighs = λ f.
            let none =
            ap (λ (x : Key). weight_below f
            (trees_below (key_in old.words) (n.level - 1) x) 8) k.is
            ∙ leaf_row f (key_in old.words) (n.level - 1) k.bits in
            omega (arith, tree_weight old n f, r.told.parts.weighs f, none);
      };
      frees = frees_nothing old.words.plan (key_in old.words) (shape_of (tree_in old n)) 1
          (book_in old.words) (book_in new.words) steps now
          (one_fell old.words.plan (book_in old.words) (book_in new.words) n r.words.others
          (omega (arith, r.words.book_is))) (omega arith);
    }

pub node_tree : (key : Name → Key) (level : ℕ) (n : Name) → 1 ≤ level
    → tree_at key level (Some n) ≡ node_at n (trees_below key (level - 1) (key n))
unfolding tree_at
node_tree key zero n h = absurd (omega arith)
node_tree key (suc level) n h =
    let z : level ≡ suc level - 1 = omega arith in ap
    (λ (l : ℕ). node_at n (trees_below key l (key n))) z

is_branch : (octants : ℕ → Shape) → IsBranch (branch_of octants)
is_branch octants = tt

-- a node goes, and then its children
pub released_node : (old mid new : Known) (n : Name) (children : List (Option Name))
    (number steps middle now : ℕ) → IsStore old number → HoldsName old.told.held n → 1 ≤ n.level
    → book_in old.words n ≡ 1 → Node children ≡ key_in old.words n → FreesNode old n mid
    → middle ≡ steps + 1
    → ReleasesRow mid
    (trees_below (key_in mid.words) (n.level - 1) (Node children)) 8 new middle now
    → Releases old (tree_in old n) new steps now
released_node old mid new n children number steps middle now s h above last k o e r =
    let live = held_name old number n s h in
    let moves = book_moves old mid n _ o.words o.roots in
    let keys = same_keys old mid moves in
    let row : ℕ → Tree = trees_below (key_in old.words) (n.level - 1) (key_in old.words n) in
    let rows : (j : ℕ) → trees_below (key_in mid.words) (n.level - 1) (Node children) j ≡ row j =
    λ j.
    ap (λ (x : Name → Key). trees_below x (n.level - 1) (Node children) j) keys
    ∙ ap (λ (x : Key). trees_below (key_in old.words) (n.level - 1) x j) k in
    let shape : shape_of (tree_in old n) ≡ branch_of (λ j. shape_of (row j)) =
    ap shape_of (node_tree (key_in old.words) n.level n above) ∙ shape_of-node n row in
    let f1 =
    subst (λ (x : Name → Key). FreesParts mid.words.plan (key_in mid.words)
    (branch_of (λ j. shape_of (trees_below x (n.level - 1) (Node children) j))) 8
    (book_in mid.words) (book_in new.words) middle now) keys r.frees in
    let f2 =
    subst (λ (x : Key). FreesParts mid.words.plan (key_in mid.words)
    (branch_of (λ j. shape_of (trees_below (key_in old.words) (n.level - 1) x j))) 8
    (book_in mid.words) (book_in new.words) middle now) k f1 in
    let f3 =
    subst (λ (x : Shape). FreesParts mid.words.plan (key_in mid.words) x 8 (book_in mid.words)
    (book_in new.words) middle now) (sym shape) f2 in
    let f4 =
    subst (λ (x : Name → Key). FreesParts mid.words.plan x (shape_of (tree_in old n)) 8
    (book_in mid.words) (book_in new.words) middle now) keys f3 in
    let f5 =
    subst (λ (p : Layout). FreesParts p (key_in old.words) (shape_of (tree_in old n)) 8
    (book_in mid.words) (book_in new.words) middle now) (same_plan old mid moves) f4 in
    let f6 =
    subst (λ (x : ℕ). FreesParts old.words.plan (key_in old.words) (shape_of (tree_in old n)) 8
    (book_in mid.words) (book_in new.words) x now) e f5 in
    record {
      moves = moves_on old mid new moves r.moves;
      only = only_on old.told mid.told new.told o.told.only r.only;
      loses = record {
        weighs = λ f. omega (
          arith,
          tree_weight old n f,
          o.told.parts.weighs f,
          r.loses.weighs f,
          weight_below-same f
              (trees_below (key_in mid.words) (n.level - 1) (Node children)) row 8
              (λ j lt. rows j),
        );
      };
      frees = frees_node old.words.plan (core_of old) n (book_in mid.words)
          (book_in new.words) steps now s.sound live.name
          (subst IsBranch (sym shape) (is_branch (λ j. shape_of (row j)))) last
          (record { others = λ m i ne. o.words.others.each m i ne }) o.words.book_is f6;
    }

-- nothing was given back yet
pub row_none : (v : Known) (row : ℕ → Tree) (steps : ℕ) → ReleasesRow v row 0 v steps steps
row_none v row steps = record {
  moves = moves_itself v;
  only = record { made = refl; met = refl };
  loses = record { weighs = λ f. omega arith };
  frees = frees_nothing v.words.plan (key_in v.words) (branch_of (λ j. shape_of (row j))) 0
      (book_in v.words) (book_in v.words) steps steps (λ n i. omega arith) (omega arith);
}

pub octant_branch : (f : ℕ → Shape) (k : ℕ) → k < 8 → octant_shape (branch_of f) k ≡ f k
octant_branch f zero lt = refl
octant_branch f (suc zero) lt = refl
octant_branch f (suc (suc zero)) lt = refl
octant_branch f (suc (suc (suc zero))) lt = refl
octant_branch f (suc (suc (suc (suc zero)))) lt = refl
octant_branch f (suc (suc (suc (suc (suc zero))))) lt = refl
octant_branch f (suc (suc (suc (suc (suc (suc zero)))))) lt = refl
octant_branch f (suc (suc (suc (suc (suc (suc (suc zero))))))) lt = refl
octant_branch f (suc (suc (suc (suc (suc (suc (suc (suc k)))))))) lt = absurd (omega arith)

-- one more child was given back
pub row_more : (old mid new : Known) (level : ℕ) (children : List (Option Name))
    (k steps now last : ℕ) → k < 8
    → ReleasesRow old (trees_below (key_in old.words) level (Node children)) k mid steps now
    → Releases mid (tree_at (key_in mid.words) level (name_in children k)) new now last
    → ReleasesRow old (trees_below (key_in old.words) level (Node children)) (k + 1) new steps last
row_more old mid new level children k steps now last lt a r =
    let keys = same_keys old mid a.moves in
    let row : ℕ → Tree = trees_below (key_in old.words) level (Node children) in
    let at : tree_at (key_in mid.words) level (name_in children k) ≡ row k =
    ap (λ (x : Name → Key). tree_at x level (name_in children k)) keys in
    let f1 =
    subst (λ (t : Tree). FreesParts mid.words.plan (key_in mid.words) (shape_of t) 1
    (book_in mid.words) (book_in new.words) now last) at r.frees in
    let f2 =
    subst (λ (x : Name → Key). FreesParts mid.words.plan x (shape_of (row k)) 1
    (book_in mid.words) (book_in new.words) now last) keys f1 in
    let f3 =
    subst (λ (p : Layout). FreesParts p (key_in old.words) (shape_of (row k)) 1
    (book_in mid.words) (book_in new.words) now last) (same_plan old mid a.moves) f2 in
    let f4 =
    subst (λ (x : Shape). FreesParts old.words.plan (key_in old.words) x 1 (book_in mid.words)
    (book_in new.words) now last) (sym (octant_branch (λ j. shape_of (row j)) k lt)) f3 in
    let z : k + 1 ≡ suc k = omega arith in
    record {
      moves = moves_on old mid new a.moves r.moves;
      only = only_on old.told mid.told new.told a.only r.only;
      loses = record {
        weighs = λ f. omega (
          arith,
          a.loses.weighs f,
          r.loses.weighs f,
          ap (λ (t : Tree). weight_of f t) at,
          ap
              (λ (j : ℕ). weight_below f row j) z,
        );
      };
      frees = frees_octant old.words.plan (key_in old.words) (book_in old.words)
          (book_in mid.words) (book_in new.words)
          (branch_of (λ j. shape_of (row j))) k steps now last a.frees f4;
    }

-- a share of each child that comes is held
pub held_child : (held : List Tree) (t : Tree) (n : Name) → root_of t ≡ Some n
    → ((f : Tree → ℕ) → weight_of f t ≤ weigh f held) → HoldsName held n
held_child held t n e w =
    record {
      tree = t;
      is_held =
          record { weighs = λ f. omega (arith, w f, weight_of-there f t n e) };
      root = e;
    }

pub holds_next : (old mid : Known) (level : ℕ) (children : List (Option Name)) (k steps now : ℕ)
    → k < 8 → HoldsRow old.told.held (trees_below (key_in old.words) level (Node children))
    → AreBelow (level + 1) children
    → ReleasesRow old (trees_below (key_in old.words) level (Node children)) k mid steps now
    → HoldsChild mid.told.held (level + 1) (name_in children k)
holds_next old mid level children k steps now lt h b a =
    let row : ℕ → Tree = trees_below (key_in old.words) level (Node children) in
    record {
      name = λ n e. held_child mid.told.held (row k) n
          (ap (λ (o : Option Name). root_of (tree_at (key_in old.words) level o)) e
          ∙ tree_root (key_in old.words) level n)
          (λ f. omega (arith, h.weighs f, a.loses.weighs f, weight_below-part f row k 8 lt));
      below = λ n e. b.each k n lt e;
    }

pub row_room : (old mid : Known) (row : ℕ → Tree) (k steps now level : ℕ)
    → number_of_trees old.told.held + 8 * level ≤ 8192 → ReleasesRow old row k mid steps now
    → number_of_trees mid.told.held + 8 * level ≤ 8192
row_room old mid row k steps now level h a = omega (arith, h, a.loses.weighs (λ _. 1))

-- no child, nothing given back
pub released_none : (v : Known) (steps level : ℕ)
    → Releases v (tree_at (key_in v.words) level None) v steps steps
unfolding weight_of
released_none v steps level =
    subst (λ (t : Tree). Releases v t v steps steps) (sym (gone_tree (key_in v.words) level))
    (record {
      moves = moves_itself v;
      only = record { made = refl; met = refl };
      loses = record { weighs = λ f. omega arith };
      frees = frees_nothing v.words.plan (key_in v.words) (shape_of Gone) 1 (book_in v.words)
          (book_in v.words) steps steps (λ n i. omega arith) (omega arith);
    })

pub leaf_none : (bits : ℕ) → children_weight (λ _. 1) (Leaf bits) ≡ 0
unfolding children_weight sum_below
leaf_none bits = refl

-- what a node's children are, before they go
pub leaf_number : (v : Known) (number : ℕ) (n : Name) → IsStore v number → HoldsName v.told.held n
    → n.level ≡ 0 → 0 ≡ children_weight (λ _. 1) (key_in v.words n)
leaf_number v number n s h z =
    let k = leaf_key n.level (key_in v.words n) z (s.sound.fits n (held_name v number n s h)) in
    sym (ap (children_weight (λ _. 1)) k.is ∙ leaf_none k.bits)

pub live_names : (v : Known) (number : ℕ) (n : Name) → IsStore v number
    → IsLive v.words.plan (core_of v) n → HasNames v.words.plan (key_in v.words n)
live_names v number n s l =
    record { each = λ k m lt e. (child_lives v.words.plan (core_of v) n m k s.sound l lt e).name }

fits_below : (level : ℕ) (children : List (Option Name)) → FitsLevel level (Node children)
    → AreBelow level children
fits_below zero children f = absurd f
fits_below (suc level) children f = f.1

pub node_below : (v : Known) (number : ℕ) (n : Name) (children : List (Option Name))
    → IsStore v number → HoldsName v.told.held n → Node children ≡ key_in v.words n
    → AreBelow n.level children
node_below v number n children s h e =
    fits_below n.level children
    (subst (λ (k : Key). FitsLevel n.level k) (sym e)
    (s.sound.fits n (held_name v number n s h)))

pub node_holds : (old mid : Known) (number : ℕ) (n : Name) (children : List (Option Name))
    → IsStore old number → HoldsName old.told.held n → Node children ≡ key_in old.words n
    → FreesNode old n mid
    → HoldsRow mid.told.held (trees_below (key_in mid.words) (n.level - 1) (Node children))
node_holds old mid number n children s h k o =
    let keys = same_keys old mid (book_moves old mid n _ o.words o.roots) in
    let t = held_tree old number n s h in
    record {
      weighs = λ f. omega (
        arith,
        t.weighs f,
        o.told.parts.weighs f,
        weight_below-same f (trees_below (key_in mid.words) (n.level - 1) (Node children))
            (trees_below (key_in old.words) (n.level - 1) (key_in old.words n)) 8
            (λ j lt. ap (λ (x : Name → Key). trees_below x (n.level - 1) (Node children) j) keys
            ∙ ap (λ (x : Key). trees_below (key_in old.words) (n.level - 1) x j) k),
      );
    }

pub node_room : (old mid : Known) (n : Name) → 1 ≤ n.level
    → number_of_trees old.told.held + 8 * n.level ≤ 8192 → FreesNode old n mid
    → number_of_trees mid.told.held + 8 * (n.level - 1) ≤ 8192
node_room old mid n above room o =
    omega (
      arith,
      o.told.parts.weighs (λ _. 1),
      row_number (key_in old.words) (n.level - 1)
          (key_in old.words n),
      key_few (key_in old.words n),
    )

pub book_one : (b : ℕ) → 1 ≤ b → b ≤ 1 → b ≡ 1
book_one b h g = omega arith
