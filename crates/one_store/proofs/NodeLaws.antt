-- What the call for a node promises.
use Rattle.std.proofs.Common.{◌≡◌, ◌≢◌, ℕ, zero, suc, ◌+◌, ◌-◌, ◌≤◌, ◌<◌, Some, None, Option, List, ◌∷◌, length, refl, sym, ◌∙◌, ap, subst, arith, inr}
use Rattle.std.proofs.lemmas.List.{ext_get_or}
use Rattle.std.proofs.lemmas.Option.{none-some, same_Some}
use Rattle.node_words.specs.declared.shapes.names.Name.{Name}
use Rattle.node_words.specs.shapes.Buckets.{bucket_of_shape}
use Rattle.node_words.specs.shapes.Shape.{Shape, Clear, branch_of, octant_shape, IsCanonical}
use Rattle.node_words.specs.shapes.Tree.{Tree, node_at, root_of, shape_of}
use Rattle.node_words.specs.shapes.Weights.{weigh, weight_of, weight_below}
use Rattle.node_words.proofs.OfShapes.WeightLaws.{weight_of-there, weight_below-part, weight_below-same}
use Rattle.node_words.proofs.OfShapes.TreeLaws.{gone_from_root, shape_of-node, child_of-node_at}
use Rattle.node_words.specs.declared.keys.Key.{Key}
use Rattle.node_words.specs.declared.keys.Key.TheVariants.{Leaf, Node}
use Rattle.node_words.specs.Keys.{bucket_of_key, ChildFits, of_node}
use Rattle.node_words.specs.Held.{name_in, IsHeld, IsReached, IsSought, Joins, OnlyMeets, Grants, AreHeld, HoldsChildren, HasChild, AreBelow}
use Rattle.node_words.proofs.HeldLaws.{children_canonical}
use Rattle.node_words.proofs.KeyLaws.{key_bucket}
use Rattle.core_laws.specs.places.Names.{HasNames, key_child}
use Rattle.core_laws.specs.places.WordIds.{buckets_at}
use Rattle.core_laws.specs.States.{IsLive, tree_at}
use Rattle.core_laws.specs.Events.{IsMissing}
use Rattle.core_laws.specs.Soundness.{FitsLevel}
use Rattle.core_laws.proofs.Frees.{frees_none}
use Rattle.core_laws.proofs.LiveShapes.{bucket_at, clear_at, not_clear_at}
use Rattle.core_laws.proofs.Lives.{child_level}
use Rattle.core_laws.proofs.SeenNodes.{gone_tree}
use Rattle.core_laws.proofs.Trees.{node_at-same}
use Rattle.one_store.specs.entries.Words.{book_in, key_in, HasEntry}
use Rattle.one_store.specs.notes.Changes.{HoldsRow}
use Rattle.one_store.specs.declared.sought.SoughtKey.{SoughtKey}
use Rattle.one_store.specs.Known.{Known, IsStore, known_state, core_of, tree_in, trees_below}
use Rattle.one_store.specs.Steps.{RaisesShare, ReleasesRow, AddsNode, MeetsFull, IsSoughtKey, sought_key, tree_over, shape_over}
use Rattle.one_store.proofs.StoreLaws.{held_name, held_is, book_moves, same_keys}
use Rattle.one_store.proofs.BackLaws.{held_child, node_tree, octant_branch}
use Rattle.one_store.proofs.TraitLaws.{IsFound, found_live, reached, store_child, store_canonical, sound_after, core_after, met_same}

-- what is asked of a call for a node
pub record Asks (v : Known) (level : ℕ) (names : List (Option Name)) : Type 0 where
  pub eight : length names ≡ 8
  pub above : 1 ≤ level
  pub in_world : level + 2 ≤ v.words.plan.side
  pub some : HasChild names
  pub below : AreBelow level names
  pub holds : HoldsChildren v.told.held names

pub asks : (v : Known) (level : ℕ) (names children : List (Option Name)) → names ≡ children
    → length children ≡ 8 → 1 ≤ level → level + 2 ≤ v.words.plan.side → HasChild children
    → AreBelow level children → HoldsChildren v.told.held children → Asks v level names
asks v level names children e l above world some below holds =
    rw e
    (record { eight = l; above = above; in_world = world; some = some; below = below; holds = holds })

pub held_under : (held : List Tree) (names children : List (Option Name)) (row : ℕ → Tree)
    → names ≡ children → AreHeld held children row → AreHeld held names row
held_under held names children row e a = rw e a

part_held : (held : List Tree) (names : List (Option Name)) (row : ℕ → Tree) (k : ℕ)
    → AreHeld held names row → k < 8 → (f : Tree → ℕ) → weight_of f (row k) ≤ weigh f held
part_held held names row k a lt f = omega (arith, a.weighs f, weight_below-part f row k 8 lt)

fits_node : (level : ℕ) (names : List (Option Name)) → 1 ≤ level → length names ≡ 8
    → AreBelow level names → HasChild names → FitsLevel level (Node names)
fits_node zero names above eight below some = absurd (omega arith)
fits_node (suc level) names above eight below some = (eight, below, some)

pub node_fits : (v : Known) (level : ℕ) (names : List (Option Name)) → Asks v level names
    → FitsLevel level (Node names)
node_fits v level names q = fits_node level names q.above q.eight q.below q.some

-- a child that is held is live
child_live : (v : Known) (number level : ℕ) (names : List (Option Name)) (k : ℕ) (n : Name)
    → IsStore v number → Asks v level names → k < 8 → name_in names k ≡ Some n
    → IsLive v.words.plan (core_of v) n
child_live v number level names k n s q lt e =
    let a = q.holds.are_held in
    held_name v number n s
    (held_child v.told.held (q.holds.row k) n (a.names k lt ∙ e)
    (part_held v.told.held names q.holds.row k a lt))

pub node_names : (v : Known) (number level : ℕ) (names : List (Option Name)) → IsStore v number
    → Asks v level names → HasNames v.words.plan (Node names)
node_names v number level names s q =
    record { each = λ k n lt e. (child_live v number level names k n s q lt e).name }

tree_is : (v : Known) (number level : ℕ) (o : Option Name) (t : Tree) → IsStore v number
    → root_of t ≡ o → ((f : Tree → ℕ) → weight_of f t ≤ weigh f v.told.held)
    → ((n : Name) → o ≡ Some n → n.level + 1 ≡ level) → t ≡ tree_at (key_in v.words) (level - 1) o
tree_is v number level None t s e w b =
    gone_from_root t e ∙ sym (gone_tree (key_in v.words) (level - 1))
tree_is v number level (Some n) t s e w b =
    let h : IsHeld v.told.held t =
    record { weighs = λ f. omega (arith, w f, weight_of-there f t n e) } in
    let l : n.level ≡ level - 1 = omega (arith, b n refl) in
    held_is v number t n s h e ∙ ap (λ (x : ℕ). tree_at (key_in v.words) x (Some n)) l

-- the trees of children that are held are those of their names
pub row_is : (v : Known) (number level : ℕ) (names : List (Option Name)) (row : ℕ → Tree)
    → IsStore v number → Asks v level names → AreHeld v.told.held names row → (k : ℕ) → k < 8
    → row k ≡ trees_below (key_in v.words) (level - 1) (Node names) k
row_is v number level names row s q a k lt =
    tree_is v number level (name_in names k) (row k) s (a.names k lt)
    (part_held v.told.held names row k a lt) (λ n e. q.below.each k n lt e)

pub node_holds_row : (v : Known) (number level : ℕ) (names : List (Option Name)) → IsStore v number
    → Asks v level names
    → HoldsRow v.told.held (trees_below (key_in v.words) (level - 1) (Node names))
node_holds_row v number level names s q =
    let a = q.holds.are_held in
    record {
      weighs = λ f. omega (
        arith,
        a.weighs f,
        weight_below-same f q.holds.row
            (trees_below (key_in v.words) (level - 1) (Node names)) 8
            (row_is v number level names q.holds.row s q a),
      );
    }

pub sought_holds : (v : Known) (number : ℕ) (s : SoughtKey) (level : ℕ) (names : List (Option Name))
    → IsStore v number → Asks v level names → s.level ≡ level → sought_key s ≡ Node names
    → HoldsRow v.told.held (trees_below (key_in v.words) (s.level - 1) (sought_key s))
sought_holds v number s level names st q e k =
    subst (λ (x : Key). HoldsRow v.told.held (trees_below (key_in v.words) (s.level - 1) x)) (sym k)
    (subst (λ (l : ℕ). HoldsRow v.told.held (trees_below (key_in v.words) (l - 1) (Node names)))
    (sym e) (node_holds_row v number level names st q))

pub raised_holds : (old mid : Known) (n : Name) (number level : ℕ) (names : List (Option Name))
    → IsStore old number → Asks old level names → RaisesShare old n mid
    → HoldsRow mid.told.held (trees_below (key_in mid.words) (level - 1) (Node names))
raised_holds old mid n number level names s q r =
    let h = node_holds_row old number level names s q in
    subst (λ (x : Name → Key). HoldsRow mid.told.held (trees_below x (level - 1) (Node names)))
    (sym (same_keys old mid (book_moves old mid n _ r.words r.roots)))
    (record { weighs = λ f. omega (arith, h.weighs f, r.told.gains.weighs f) })

-- the node that was found stands over the row
pub found_tree : (old : Known) (s : SoughtKey) (n : Name) (level : ℕ) (names : List (Option Name))
    → 1 ≤ level → s.level ≡ level → sought_key s ≡ Node names → IsFound old s n
    → tree_in old n ≡ node_at n (trees_below (key_in old.words) (level - 1) (Node names))
found_tree old s n level names above e k f =
    let l : n.level ≡ level = f.1 ∙ e in
    ap (λ (x : ℕ). tree_at (key_in old.words) x (Some n)) l
    ∙ node_tree (key_in old.words) level n above
    ∙ ap (λ (x : Key). node_at n (trees_below (key_in old.words) (level - 1) x))
    (f.0.key_is ∙ k)

pub node_joined : (old mid new : Known) (s : SoughtKey) (n m : Name) (number level steps now : ℕ)
    (names : List (Option Name)) (row : ℕ → Tree) → IsStore old number → Asks old level names
    → s.level ≡ level → sought_key s ≡ Node names → IsFound old s n → RaisesShare old n mid
    → ReleasesRow mid (trees_below (key_in mid.words) (level - 1) (Node names)) 8 new steps now
    → m ≡ n → AreHeld old.told.held names row → Joins old.told.held row m new.told.held
node_joined old mid new s n m number level steps now names row st q e k f r b same a =
    let keys = same_keys old mid (book_moves old mid n _ r.words r.roots) in
    let rows = row_is old number level names row st q a in
    let t : tree_in old n ≡ node_at m row =
    found_tree old s n level names q.above e k f
    ∙ ap (λ (x : Name). node_at x
    (trees_below (key_in old.words) (level - 1) (Node names))) (sym same)
    ∙ node_at-same m (trees_below (key_in old.words) (level - 1) (Node names)) row
    (λ j lt. sym (rows j lt)) in
    record {
      weighs = λ g. omega (
        arith,
        b.loses.weighs g,
        r.told.gains.weighs g,
        ap g t,
        weight_below-same g row (trees_below (key_in old.words) (level - 1) (Node names)) 8 rows,
        ap (λ (x : Name → Key). weight_below g (trees_below x (level - 1) (Node names)) 8) keys,
      );
    }

pub node_turns : (old mid new : Known) (s : SoughtKey) (n : Name)
    (number left level first steps now : ℕ) (names : List (Option Name)) → IsStore old number
    → IsStore new left → Asks old level names → s.level ≡ level → sought_key s ≡ Node names
    → IsFound old s n → RaisesShare old n mid
    → ReleasesRow mid (trees_below (key_in mid.words) (level - 1) (Node names)) 8 new steps now
    → steps ≡ first + 1 → now ≤ first + 9
node_turns old mid new s n number left level first steps now names st sn q e k f r b z =
    let keys = same_keys old mid (book_moves old mid n _ r.words r.roots) in
    let row : ℕ → Tree = trees_below (key_in mid.words) (level - 1) (Node names) in
    let h = q.holds.are_held in
    let rows = row_is old number level names q.holds.row st q h in
    let same : (g : Tree → ℕ) → weight_below g row 8 ≡ weight_below g (trees_below (key_in old.words) (level - 1) (Node names)) 8 = λ g. ap (λ (x : Name → Key). weight_below g (trees_below x (level - 1) (Node names)) 8) keys in
    let held : IsHeld new.told.held (tree_in old n) =
    record {
      weighs = λ g. omega
          (arith, b.loses.weighs g, r.told.gains.weighs g, same g, h.weighs g, weight_below-same g q.holds.row (trees_below (key_in old.words) (level - 1) (Node names)) 8 rows);
    } in
    let shape : shape_of (tree_in old n) ≡ branch_of (λ j. shape_of (row j)) =
    ap shape_of (found_tree old s n level names q.above e k f)
    ∙ shape_of-node n (trees_below (key_in old.words) (level - 1) (Node names))
    ∙ ap (λ (x : Name → Key). branch_of (λ j. shape_of (trees_below x (level - 1) (Node names) j)))
    (sym keys) in
    omega (
      arith,
      z,
      (let s' = sound_after mid new left sn b.moves in
          frees_none mid.words.plan (core_after mid new) (book_in mid.words) new.told.held
          (tree_in old n)
          (branch_of (λ j. shape_of (row j))) 8 steps now s'.0 s'.1 held shape b.frees),
    )

node_above : (key : Name → Key) (level : ℕ) (m : Name) (row : ℕ → Tree)
    → tree_at key level (Some m) ≡ node_at m row → 1 ≤ level
unfolding tree_at
node_above key zero m row e = cc
node_above key (suc level) m row e = omega arith

-- keys of nodes with the same children are one
same_children : (level : ℕ) (x : Key) (names : List (Option Name)) → 1 ≤ level → length names ≡ 8
    → FitsLevel level x → ((k : ℕ) → k < 8 → key_child x k ≡ name_in names k) → x ≡ Node names
same_children zero x names above eight f same = absurd (omega arith)
same_children (suc level) (Leaf b) names above eight f same = absurd f
same_children (suc level) (Node cs) names above eight f same =
    let of_x =
    f.0 in ap Node (ext_get_or None cs names (of_x ∙ sym eight) (λ i lt. same i (omega arith)))

child_below : (level : ℕ) (x : Key) (k : ℕ) (n : Name) → FitsLevel level x → k < 8
    → key_child x k ≡ Some n → n.level + 1 ≡ level
child_below level x k n f lt e = child_level level x n k f lt e

pub record IsThere (o : Option Name) : Type 0 where
  pub name : Name
  pub is : o ≡ Some name

pub some_name : (o : Option Name) → o ≢ None → IsThere o
some_name None ne = absurd (ne refl)
some_name (Some n) ne = record { name = n; is = refl }

-- the name under which a node over the row is reached has the row's names as its key
pub node_named : (v : Known) (number level : ℕ) (names : List (Option Name)) (row : ℕ → Tree)
    (m : Name) → IsStore v number → Asks v level names → AreHeld v.told.held names row
    → IsReached v.told.held (node_at m row) → HasEntry v.words m (Node names) × (m.level ≡ level)
node_named v number level names row m s q a r =
    let l = reached v number (node_at m row) m s r refl in
    let above = node_above (key_in v.words) m.level m row l.1 in
    let each : (k : ℕ) → k < 8 → key_child (key_in v.words m) k ≡ name_in names k = λ k lt.
    store_child v number (node_at m row) m k s above lt r refl
    ∙ ap root_of (child_of-node_at m row k lt) ∙ a.names k lt in
    let fits = s.sound.fits m l.0 in
    let same = same_children m.level (key_in v.words m) names above q.eight fits each in
    let child = some_name (name_in names q.some.octant) q.some.there in
    let low =
    child_level m.level (key_in v.words m) child.name q.some.octant fits q.some.below
    (each q.some.octant q.some.below ∙ child.is) in
    let high = q.below.each q.some.octant child.name q.some.below child.is in
    (record { is_name = l.0.name; live = l.0.book; key_is = same }, omega (arith, low, high))

pub node_hit : (old mid new : Known) (s : SoughtKey) (n m r : Name) (number level steps now : ℕ)
    (names : List (Option Name)) (row : ℕ → Tree) → IsStore old number → Asks old level names
    → s.level ≡ level → sought_key s ≡ Node names → IsFound old s n → RaisesShare old n mid
    → ReleasesRow mid (trees_below (key_in mid.words) (level - 1) (Node names)) 8 new steps now
    → r ≡ n → AreHeld old.told.held names row → IsReached old.told.held (node_at m row)
    → (r ≡ m) × (new.told.made ≡ old.told.made)
node_hit old mid new s n m r number level steps now names row st q e k f a b same h w =
    let l = node_named old number level names row m st q h w in (
      same ∙ st.sound.once n m (found_live old s n f)
          (record { name = l.0.is_name; book = l.0.live }) (f.1 ∙ e ∙ sym l.1)
          (f.0.key_is ∙ k ∙ sym l.0.key_is),
      b.only.made ∙ a.told.only.made,
    )

pub node_missed : (old : Known) (s : SoughtKey) (m : Name) (number level : ℕ)
    (names : List (Option Name)) (row : ℕ → Tree) → IsStore old number → Asks old level names
    → s.level ≡ level → sought_key s ≡ Node names
    → IsMissing old.words.plan (core_of old) s.level (sought_key s)
    → AreHeld old.told.held names row → IsReached old.told.held (node_at m row) → ⊥
node_missed old s m number level names row st q e k w h r =
    let l = node_named old number level names row m st q h r in
    w m (record { name = l.0.is_name; book = l.0.live }) (l.1 ∙ sym e) (l.0.key_is ∙ sym k)

over_node : (key : Name → Key) (level : ℕ) (n : Name) (k : Key) → 1 ≤ level
    → tree_over level key n k ≡ node_at n (trees_below key (level - 1) k)
over_node key zero n k h = absurd (omega arith)
over_node key (suc level) n k h =
    let z : level ≡ suc level - 1 = omega arith in ap (λ (l : ℕ). node_at n (trees_below key l k)) z

shape_node : (key : Name → Key) (level : ℕ) (k : Key) → 1 ≤ level
    → shape_over level key k ≡ branch_of (λ j. shape_of (trees_below key (level - 1) k j))
shape_node key zero k h = absurd (omega arith)
shape_node key (suc level) k h =
    let z : level ≡ suc level - 1 = omega arith in ap
    (λ (l : ℕ). branch_of (λ j. shape_of (trees_below key l k j))) z

branch_same : (row other : ℕ → Tree) → ((k : ℕ) → k < 8 → row k ≡ other k)
    → branch_of (λ j. shape_of (row j)) ≡ branch_of (λ j. shape_of (other j))
branch_same row other h =
    sym (shape_of-node (record { level = 0; bucket = 0; slot = 0 }) row)
    ∙ ap shape_of (node_at-same (record { level = 0; bucket = 0; slot = 0 }) row other h)
    ∙ shape_of-node (record { level = 0; bucket = 0; slot = 0 }) other

sought_row : (old : Known) (s : SoughtKey) (number level : ℕ) (names : List (Option Name))
    (row : ℕ → Tree) → IsStore old number → Asks old level names → s.level ≡ level
    → sought_key s ≡ Node names → AreHeld old.told.held names row → (j : ℕ) → j < 8
    → trees_below (key_in old.words) (s.level - 1) (sought_key s) j ≡ row j
sought_row old s number level names row st q e k a j lt =
    ap (λ (l : ℕ). trees_below (key_in old.words) (l - 1) (sought_key s) j) e
    ∙ ap (λ (x : Key). trees_below (key_in old.words) (level - 1) x j) k
    ∙ sym (row_is old number level names row st q a j lt)

pub node_shape : (old : Known) (s : SoughtKey) (number level : ℕ) (names : List (Option Name))
    (row : ℕ → Tree) → IsStore old number → Asks old level names → s.level ≡ level
    → sought_key s ≡ Node names → AreHeld old.told.held names row
    → shape_over s.level (key_in old.words) (sought_key s) ≡ branch_of (λ j. shape_of (row j))
node_shape old s number level names row st q e k a =
    shape_node (key_in old.words) s.level (sought_key s) (omega (arith, q.above, e))
    ∙ branch_same (trees_below (key_in old.words) (s.level - 1) (sought_key s)) row
    (sought_row old s number level names row st q e k a)

pub node_added : (old new : Known) (s : SoughtKey) (n : Name) (number level : ℕ)
    (names : List (Option Name)) (row : ℕ → Tree) → IsStore old number → Asks old level names
    → s.level ≡ level → sought_key s ≡ Node names → AddsNode old s n new
    → AreHeld old.told.held names row → Joins old.told.held row n new.told.held
node_added old new s n number level names row st q e k a h =
    let rows = sought_row old s number level names row st q e k h in
    let t : tree_over s.level (key_in old.words) n (sought_key s) ≡ node_at n row =
    over_node (key_in old.words) s.level n (sought_key s) (omega (arith, q.above, e))
    ∙ node_at-same n
    (trees_below (key_in old.words) (s.level - 1) (sought_key s)) row rows in
    record {
      weighs = λ f. omega (
        arith,
        a.told.closes.weighs f,
        ap f t,
        weight_below-same f
            (trees_below (key_in old.words) (s.level - 1) (sought_key s)) row 8 rows,
      );
    }

pub node_grants : (old new : Known) (s : SoughtKey) (n : Name) (number level : ℕ)
    (names : List (Option Name)) (row : ℕ → Tree) → IsStore old number → Asks old level names
    → s.level ≡ level → sought_key s ≡ Node names → AddsNode old s n new
    → AreHeld old.told.held names row
    → Grants (known_state old) (branch_of (λ j. shape_of (row j))) (known_state new)
node_grants old new s n number level names row st q e k a h = record {
  plan = a.words.plan;
  made = inr (a.told.made
      ∙ ap (λ (x : Shape). x ∷ old.told.made) (node_shape old s number level names row st q e k h));
  met = a.told.met;
}

branch_some : (octants : ℕ → Shape) → branch_of octants ≢ Clear
branch_some octants e = cc

-- what was sought has its shape's bucket
row_at : (v : Known) (number level : ℕ) (names : List (Option Name)) (row : ℕ → Tree) (l k : ℕ)
    → IsStore v number → Asks v level names → AreHeld v.told.held names row → level ≡ suc l → k < 8
    → octant_shape (branch_of (λ j. shape_of (row j))) k ≡ shape_of
    (tree_at (key_in v.words) l (name_in names k))
row_at v number level names row l k s q a z lt =
    octant_branch (λ j. shape_of (row j)) k lt
    ∙ ap shape_of (row_is v number level names row s q a k lt)
    ∙ (let e : level - 1
    ≡ l = omega arith in ap
    (λ (x : ℕ). shape_of (tree_at (key_in v.words) x (name_in names k))) e)

child_fits : (v : Known) (number level : ℕ) (names : List (Option Name)) (row : ℕ → Tree) (l k : ℕ)
    (o : Option Name) → IsStore v number → Asks v level names → AreHeld v.told.held names row
    → level ≡ suc l → k < 8 → name_in names k ≡ o
    → ChildFits v.words.plan.buckets l (octant_shape (branch_of (λ j. shape_of (row j))) k) o
child_fits v number level names row l k None s q a z lt e = record {
  clear = λ c. row_at v number level names row l k s q a z lt
      ∙ ap (λ (o : Option Name). shape_of (tree_at (key_in v.words) l o)) e
      ∙ clear_at (key_in v.words) l;
  there = λ n c. absurd (none-some n c);
  bucket = λ n c. absurd (none-some n c);
}
child_fits v number level names row l k (Some m) s q a z lt e =
    let at =
    row_at v number level names row l k s q a z lt
    ∙ ap (λ (o : Option Name). shape_of (tree_at (key_in v.words) l o)) e in
    let low = q.below.each k m lt e in
    let live = child_live v number level names k m s q lt e in
    let bucket =
    bucket_at v.words.plan (core_of v) s.sound l m
    (record { live = live; same_level = omega arith })
    ∙ ap (bucket_of_shape v.words.plan.buckets l) (sym at) in
    record {
      clear = λ c. absurd (none-some m (sym c));
      there = λ n c none. not_clear_at (key_in v.words) l m (sym at ∙ none);
      bucket = λ n c. ap (λ (x : Name). x.bucket) (sym (same_Some m n c)) ∙ bucket;
    }

node_sought : (v : Known) (s : SoughtKey) (number level l : ℕ) (names : List (Option Name))
    (row : ℕ → Tree) → IsStore v number → IsSoughtKey v.words.plan s → Asks v level names
    → s.level ≡ level → level ≡ l + 1 → sought_key s ≡ Node names → AreHeld v.told.held names row
    → IsSought v.words.plan
    (record { level = s.level; bucket = s.bucket; shape = branch_of (λ j. shape_of (row j)) })
node_sought v s number level l names row st sk q e z k a =
    let p = v.words.plan in
    let shape : Shape = branch_of (λ j. shape_of (row j)) in
    let up : level ≡ suc l = omega arith in
    let of =
    of_node l shape names
    (λ j lt. child_fits v number level names row l j (name_in names j) st q a up lt refl) in
    let level_is : s.level ≡ l + 1 = e ∙ z in
    let bucket : s.bucket ≡ bucket_of_shape p.buckets (l + 1) shape =
    sk.bucket_is ∙ ap (λ (x : Key). bucket_of_key x (buckets_at p s.level)) k
    ∙ ap (λ (x : ℕ). bucket_of_key (Node names) (buckets_at p x)) level_is
    ∙ key_bucket p.buckets (l + 1) shape (Node names) of in
    record {
      canonical = subst (λ (x : ℕ). IsCanonical x shape) (sym e)
          (children_canonical level v.told.held names row
          (store_canonical v number st) q.above q.some q.below a);
      some = branch_some (λ j. shape_of (row j));
      bucket_is = bucket ∙ ap (λ (x : ℕ). bucket_of_shape p.buckets x shape) (sym level_is);
      bucket_in = sk.bucket_in.bucket_in;
    }

pub node_met : (old new : Known) (s : SoughtKey) (number level at bucket : ℕ)
    (names : List (Option Name)) (row : ℕ → Tree) → IsStore old number
    → IsSoughtKey old.words.plan s → Asks old level names → s.level ≡ level
    → sought_key s ≡ Node names → MeetsFull old s new → at ≡ s.level → bucket ≡ s.bucket
    → AreHeld old.told.held names row
    → OnlyMeets (known_state old) at bucket (branch_of (λ j. shape_of (row j))) (known_state new)
node_met old new s number level at bucket names row st sk q e k m f g h =
    let z : level ≡ (level - 1) + 1 = omega (arith, q.above) in
    met_same old new s at bucket (branch_of (λ j. shape_of (row j))) m f g
    (node_shape old s number level names row st q e k h)
    (node_sought old s number level (level - 1) names row st sk q e z k h)
