-- What the entries of layers say of the store's shapes, and that a file of them keeps all rules.
use Rattle.std.proofs.Common.{◌≡◌, ◌≢◌, ℕ, zero, suc, ◌+◌, ◌-◌, ◌^◌, ◌<◌, ◌≤◌, inl, inr, List, [], length, Option, Some, None, refl, sym, ap, subst, ◌∙◌, arith}
use Rattle.std.specs.Prelude.{slice_index, slice_index_or}
use Rattle.std.specs.List.{Contains}
use Rattle.std.proofs.lemmas.Bool.{cases_eq}
use Rattle.std.proofs.lemmas.List.Elements.{Contains-get_or}
use Rattle.std.proofs.lemmas.List.{get_or_default}
use Rattle.std.proofs.lemmas.Option.{none-some}
use Rattle.node_words.specs.declared.shapes.names.Name.{Name}
use Rattle.node_words.specs.shapes.Shape.{Shape, Clear, Leaf, Branch, IsCanonical, bits_of, octant_shape, branch_of}
use Rattle.node_words.specs.shapes.Tree.{Tree, child_of, shape_of}
use Rattle.node_words.proofs.OfShapes.TreeLaws.{shape_of-child, shape_of-some, shape_of-node}
use Rattle.node_words.proofs.OfShapes.ShapeLaws.{octant_canonical}
use Rattle.node_words.specs.descent.Roots.{IsBlockOf, IsOctantOf}
use Rattle.node_words.proofs.OfDescent.BlockLaws.{clear_block}
use Rattle.dag_file.specs.Places.{leaf_at, node_word_at, count_in, entry_place}
use Rattle.dag_file.specs.Rules.{IsLeafRight, IsNodeRight, IsEntryRight, AreEntriesRight, AreEntriesNamed, IsNamed, HasWord, SortsBefore}
use Rattle.dag_file.specs.Trees.{entry_name, named_index, word_tree}
use Rattle.dag_file.specs.Kept.{entry_shape}
use Rattle.dag_file.specs.Writes.{AreChildren, IsWordOfName, HasByteSlot, file_bytes}
use Rattle.dag_file.specs.Layers.{AreEntriesUpTo, AreLeafEntries, IsLayer, first_node}
use Rattle.dag_file.proofs.TreeLaws.{row_of, tree-node}
use Rattle.dag_file.proofs.KeptLaws.{none_shape, leaf_shape}
use Rattle.dag_file.proofs.KeyLaws.{entry_of, key_block}
use Rattle.dag_file.proofs.ReadLaws.{start-zero}
use Rattle.dag_file.proofs.IndexLaws.{one_place}
use Rattle.dag_file.proofs.OrderLaws.{one_row_place, rows_rise, first_difference}
use Rattle.dag_file.proofs.FileLaws.{IsSized, leaf_is, word_is, count_is, start_is, node_inside, file_length}

-- a key's node is there, with a canonical shape
pub record IsSoundKey (held : List Tree) (level : ℕ) (key : ℕ) : Type 0 where
  pub tree : Tree
  pub is_block : IsBlockOf held level (Some (entry_name level key)) tree
  pub canonical : IsCanonical level (shape_of tree)

abbrev pub AreSound : List Tree → ℕ → List ℕ → Type 0
AreSound held level keys = (j : ℕ) → j < length keys → IsSoundKey held level (slice_index keys j)

-- ---- shapes

leaf_form : (s : Shape) → IsCanonical 0 s → s ≢ Clear
    → (s ≡ Leaf (bits_of s)) × (0 < bits_of s) × (bits_of s < 2 ^ 64)
unfolding IsCanonical
leaf_form Clear c some = absurd (some refl)
leaf_form (Leaf bits) c some = (refl, c.0, c.1)
leaf_form (Branch a b c d e f g h) no_leaf some = absurd no_leaf

branch_form : (level : ℕ) (s : Shape) → IsCanonical (suc level) s → s ≢ Clear
    → s ≡ branch_of (octant_shape s)
unfolding IsCanonical
branch_form level Clear c some = absurd (some refl)
branch_form level (Leaf bits) c some = absurd c.0
branch_form level (Branch a b c d e f g h) k some = refl

branch_part : (level : ℕ) (s : Shape) → IsCanonical (suc level) s → s ≢ Clear
    → (k : ℕ) × (k < 8) × (octant_shape s k ≢ Clear)
unfolding IsCanonical
branch_part level Clear c some = absurd (some refl)
branch_part level (Leaf bits) c some = absurd c.0
branch_part level (Branch a b c d e f g h) k some = k.0

same_branch : (f g : ℕ → Shape) → ((k : ℕ) → k < 8 → f k ≡ g k) → branch_of f ≡ branch_of g
same_branch f g same =
    let a =
    same 0 (omega arith) in let b = same 1 (omega arith) in let c = same 2
    (omega arith) in let d = same 3 (omega arith) in
    let e =
    same 4 (omega arith) in let h = same 5 (omega arith) in let m = same 6
    (omega arith) in let n = same 7 (omega arith) in
    λ i. Branch (a i) (b i) (c i) (d i) (e i) (h i) (m i) (n i)

-- something stands in the block of a name
named_some : (held : List Tree) (level : ℕ) (n : Name) (t : Tree) → IsBlockOf held level (Some n) t
    → shape_of t ≢ Clear
named_some held level n t b = shape_of-some t (λ e. none-some n (sym e ∙ b.root))

-- the nodes below show canonical shapes
pub sound_below : (held : List Tree) (level : ℕ) (keys below : List ℕ)
    → AreSound held (suc level) keys → AreChildren held (suc level) keys below
    → AreSound held level below
sound_below held level keys below sound children j lt =
    let child = children.only (slice_index below j) (Contains-get_or below j 0 lt) in
    let c = child.child in
    let node = sound child.j child.before in
    let under : suc level - 1 ≡ level = omega arith in
    record {
      tree = child_of node.tree c.k;
      is_block = subst
          (λ (l : ℕ). IsBlockOf held l (Some (entry_name l (slice_index below j)))
          (child_of node.tree c.k)) under
          (key_block held (suc level) (entry_name (suc level) (slice_index keys child.j)) 8
          (slice_index below j) node.tree c node.is_block);
      canonical = subst (λ (p : Shape). IsCanonical level p) (sym (shape_of-child node.tree c.k))
          (octant_canonical level (shape_of node.tree) c.k node.canonical);
    }

-- the bits of leaves fit in eight bytes
pub leaves_fit : (held : List Tree) (counts leaves : List ℕ) (nodes : List (List ℕ)) (level : ℕ)
    (keys indices : List ℕ) → AreSound held level keys
    → AreEntriesUpTo held counts leaves nodes level keys indices → (i : ℕ) → i < length leaves
    → slice_index leaves i < 2 ^ 64
unfolding AreEntriesUpTo
leaves_fit held counts leaves nodes zero keys indices sound x i lt =
    let found = x.only (slice_index leaves i) (Contains-get_or leaves i 0 lt) in
    let many = x.contents.many in
    let inside = found.1 in
    let there : found.0 < length keys = omega (arith, inside, many) in
    let is : slice_index x.bits found.0 ≡ slice_index leaves i =
    get_or_default x.bits found.0 0 (slice_index leaves i) found.1 ∙ found.2 in
    let node = sound found.0 there in
    let form =
    (leaf_form (shape_of node.tree) node.canonical
    (named_some held 0
    (entry_name 0 (slice_index keys found.0)) node.tree node.is_block)).2 in
    let bits : slice_index x.bits found.0 ≡ bits_of (shape_of node.tree) =
    x.contents.bits found.0 there node.tree node.is_block in
    omega (arith, is, bits, form)
leaves_fit held counts leaves nodes (suc level) keys indices sound x i lt =
    leaves_fit held counts leaves nodes level x.below x.below_indices
    (sound_below held level keys x.below sound x.children) x.stands i lt

module _ (held : List Tree) (side top : ℕ) (counts leaves : List ℕ) (nodes pairs : List (List ℕ))
    (s : IsSized side top counts leaves nodes pairs) where
  abbrev F : List ℕ
  F = file_bytes side counts leaves nodes pairs

  -- each key has the index of an entry of the level, which shows its shape, and each entry is that
  -- of a key; the entries are right, and those of the levels below have names
  pub record AreWritten (level : ℕ) (keys indices : List ℕ) : Type 0 where
    pub below : (j : ℕ) → j < length keys → slice_index indices j < slice_index counts level
    pub shape : (j : ℕ) → j < length keys → (t : Tree)
        → IsBlockOf held level (Some (entry_name level (slice_index keys j))) t
        → IsCanonical level (shape_of t)
        → shape_of t ≡ entry_shape F (suc top) level (slice_index indices j)
    pub hit : (i : ℕ) → i < slice_index counts level
        → (j : ℕ) × (j < length keys) × (slice_index indices j ≡ i)
    pub right : (l : ℕ) → l ≤ level → AreEntriesRight F (suc top) l (count_in F l)
    pub named : (l : ℕ) → l < level → AreEntriesNamed F (suc top) l (count_in F l)

  -- ---- the leaves

  module _ (keys indices : List ℕ) (sound : AreSound held 0 keys)
      (x : AreLeafEntries held keys indices counts leaves) where
    bits_shape : (j : ℕ) → j < length keys → (t : Tree)
        → IsBlockOf held 0 (Some (entry_name 0 (slice_index keys j))) t → IsCanonical 0 (shape_of t)
        → (shape_of t ≡ Leaf (slice_index x.bits j)) × (0 < slice_index x.bits j)
    bits_shape j lt t b c =
        let form =
        leaf_form (shape_of t) c (named_some held 0 (entry_name 0 (slice_index keys j)) t b) in
        let bits : slice_index x.bits j ≡ bits_of (shape_of t) = x.contents.bits j lt t b in
        let some = form.1 in
        (form.0 ∙ ap Leaf (sym bits), omega (arith, some, bits))

    many : length x.bits ≡ length keys
    many = x.contents.many

    index_below : (j : ℕ) → j < length keys → slice_index indices j < length leaves
    index_below j lt = x.placed.below j (let m = many in omega (arith, lt, m))

    index_there : (j : ℕ) → j < length keys
        → slice_index leaves (slice_index indices j) ≡ slice_index x.bits j
    index_there j lt = x.placed.there j (let m = many in omega (arith, lt, m))

    leaf_shown : (j : ℕ) → j < length keys → (t : Tree)
        → IsBlockOf held 0 (Some (entry_name 0 (slice_index keys j))) t → IsCanonical 0 (shape_of t)
        → shape_of t ≡ entry_shape F (suc top) 0 (slice_index indices j)
    leaf_shown j lt t b c =
        (bits_shape j lt t b c).0
        ∙ ap Leaf
        (sym (index_there j lt)
        ∙ sym (leaf_is side top counts leaves nodes pairs s (slice_index indices j)
        (index_below j lt)))
        ∙ sym (leaf_shape F (suc top) (slice_index indices j))

    leaf_hit : (i : ℕ) → i < length leaves
        → (j : ℕ) × (j < length keys) × (slice_index indices j ≡ i)
    leaf_hit i lt =
        let found = x.only (slice_index leaves i) (Contains-get_or leaves i 0 lt) in
        let m = many in
        let inside = found.1 in
        let there : found.0 < length keys = omega (arith, inside, m) in
        let is : slice_index x.bits found.0 ≡ slice_index leaves i =
        get_or_default x.bits found.0 0 (slice_index leaves i) found.1 ∙ found.2 in (
          found.0,
          there,
          one_place (slice_index indices found.0) i leaves x.rises
              (index_below found.0 there) lt (index_there found.0 there ∙ is),
        )

    leaf_right : (i : ℕ) → i < count_in F 0 → IsLeafRight F (entry_place F (suc top) 0 i) i
    leaf_right i lt =
        let count = count_is side top counts leaves nodes pairs s 0 (omega arith) in
        let c = x.count in
        let inside : i < length leaves = omega (arith, lt, count, c) in
        let here = leaf_is side top counts leaves nodes pairs s i inside in
        record {
          fits = (let start = start_is side top counts leaves nodes pairs s 0 (omega arith) in
              let first = start-zero F (suc top) in
              let l = file_length side top counts leaves nodes pairs s in
              omega (arith, first, l, inside));
          some = (
              let h = leaf_hit i inside in
              let node = sound h.0 h.1 in
              let more = (bits_shape h.0 h.1 node.tree node.is_block node.canonical).1 in
              let at = index_there h.0 h.1 in
              let same : slice_index leaves (slice_index indices h.0) ≡ slice_index leaves i =
              ap (λ (k : ℕ). slice_index leaves k) h.2 in
              λ none. absurd (omega (arith, more, at, same, here, none)));
          rises = λ later. (
              let before : i - 1 + 1 ≡ i = omega (arith, later) in
              let up = x.rises (i - 1) (omega (arith, later, inside)) in
              let next : slice_index leaves (i - 1 + 1) ≡ slice_index leaves i =
              ap (λ (k : ℕ). slice_index leaves k) before in
              let last =
              leaf_is side top counts leaves nodes pairs s (i - 1) (omega (arith, inside)) in
              let place : entry_place F (suc top) 0 i - 8 ≡ entry_place F (suc top) 0 (i - 1) =
              omega (arith, later) in
              let at : leaf_at F (entry_place F (suc top) 0 i - 8) ≡ leaf_at F (entry_place F (suc top) 0 (i - 1)) = ap (leaf_at F) place in
              omega (arith, up, next, last, at, here));
        }

    leaves_written : AreWritten 0 keys indices
    leaves_written = record {
      below = λ j lt. (let c = x.count in let b = index_below j lt in omega (arith, b, c));
      shape = leaf_shown;
      hit = λ i lt. leaf_hit i (let c = x.count in omega (arith, lt, c));
      right = λ l le i lt. (
          let e : 0 ≡ l = omega (arith, le) in
          subst (λ (m : ℕ). i < count_in F m → IsEntryRight F (suc top) m i) e (leaf_right i) lt);
      named = λ l lt. absurd (omega (arith, lt));
    }

  -- ---- the word of a name

  -- the word of what stands in a block names the entry of its shape
  pub word_shows : (level : ℕ) (keys indices : List ℕ) → AreWritten level keys indices
      → (o : Option Name) (word : ℕ) (t : Tree)
      → ((n : Name) → o ≡ Some n → Contains keys (named_index n)) → IsBlockOf held level o t
      → IsCanonical level (shape_of t) → HasByteSlot o → IsWordOfName keys indices o word
      → (shape_of t ≡ shape_of (word_tree F (suc top) level word))
      × (word ≤ slice_index counts level)
  word_shows level keys indices w None word t known b c slot is = (
    clear_block held level t b ∙ sym (none_shape F (suc top) level)
        ∙ ap (λ (v : ℕ). shape_of (word_tree F (suc top) level v)) (sym is),
    omega (arith, is),
  )
  word_shows level keys indices w (Some n) word t known b c slot is =
      let found = known n refl in
      let key : slice_index keys found.0 ≡ named_index n =
      get_or_default keys found.0 0 (named_index n) found.1 ∙ found.2 in
      let word_is : word ≡ slice_index indices found.0 + 1 = is found.0 found.1 key in
      let name : n ≡ entry_name level (slice_index keys found.0) =
      sym (ap (λ (i : ℕ). entry_name level i) key
      ∙ entry_of n level (b.of_level n refl) slot.0) in
      let block : IsBlockOf held level (Some (entry_name level (slice_index keys found.0))) t =
      subst (λ (m : Name). IsBlockOf held level (Some m) t) name b in
      let low = w.below found.0 found.1 in
      let one : suc (slice_index indices found.0) ≡ word = omega (arith, word_is) in (
        w.shape found.0 found.1 t block c
            ∙ ap (λ (v : ℕ). shape_of (word_tree F (suc top) level v)) one,
        omega
            (arith, word_is, low),
      )

  -- ---- a level above

  module _ (level : ℕ) (le : suc level ≤ top) (keys indices : List ℕ)
      (Below : List ℕ → List ℕ → Type 0) (sound : AreSound held (suc level) keys)
      (x : IsLayer held counts nodes level keys indices Below)
      (w : AreWritten level x.below x.below_indices) where
    under : suc level - 1 ≡ level
    under = omega arith

    all_keys : length x.entries.contents ≡ length keys
    all_keys = x.entries.words.many

    place_below : (j : ℕ) → j < length keys → slice_index indices j < length x.sorted
    place_below j lt = x.entries.placed.below j (let m = all_keys in omega (arith, lt, m))

    -- the words of an entry, and of a key's node, stand in the file
    row_there : (i k : ℕ) → i < length x.sorted → k < 8
        → node_word_at F (entry_place F (suc top) (suc level) i) k ≡ slice_index
        (slice_index_or x.sorted i []) k
    row_there i k lt less =
        word_is side top counts leaves nodes pairs s level i k le
        (let c = x.count in omega (arith, lt, c)) less
        ∙ ap (λ (r : List ℕ). slice_index r k) (x.here i lt)

    words_there : (j k : ℕ) → j < length keys → k < 8
        → node_word_at F
        (entry_place F (suc top) (suc level) (slice_index indices j)) k ≡ slice_index
        (slice_index_or x.entries.contents j []) k
    words_there j k lt less =
        row_there (slice_index indices j) k (place_below j lt) less
        ∙ ap (λ (r : List ℕ). slice_index r k)
        (x.entries.placed.there j (let m = all_keys in omega (arith, lt, m)))

    -- what stands in an octant has the shape that the word there names
    octant_shown : (j : ℕ) → j < length keys → (t : Tree)
        → IsBlockOf held (suc level) (Some (entry_name (suc level) (slice_index keys j))) t
        → IsCanonical (suc level) (shape_of t) → (k : ℕ) → k < 8
        → (shape_of (child_of t k)
        ≡ shape_of (word_tree F (suc top) level
        (node_word_at F (entry_place F (suc top) (suc level) (slice_index indices j)) k)))
        × (node_word_at F
        (entry_place F (suc top) (suc level)
        (slice_index indices j)) k ≤ slice_index counts level)
    octant_shown j lt t b c k less =
        let word = x.entries.words.words j lt k less in
        let block =
        subst (λ (l : ℕ). IsBlockOf held l word.child (child_of t k)) under (word.octant t b) in
        let canonical =
        subst (λ (p : Shape). IsCanonical level p) (sym (shape_of-child t k))
        (octant_canonical level (shape_of t) k c) in
        let known : (n : Name) → word.child ≡ Some n → Contains x.below (named_index n) = λ n e.
        x.children.all (named_index n) (record {
          j = j;
          before = lt;
          child = record {
            k = k;
            octant = less;
            name = n;
            child = subst
                (λ (o : Option Name). IsOctantOf held (suc level)
                (Some (entry_name (suc level) (slice_index keys j))) k o) e word.octant;
            slot = subst (λ (o : Option Name). HasByteSlot o) e word.slot;
            is = refl;
          };
        }) in
        subst (λ (v : ℕ). (shape_of (child_of t k) ≡ shape_of (word_tree F (suc top) level v))
        × (v ≤ slice_index counts level)) (sym (words_there j k lt less))
        (word_shows level x.below x.below_indices w word.child
        (slice_index (slice_index_or x.entries.contents j []) k)
        (child_of t k) known block canonical word.slot word.word_is)

    node_shown : (j : ℕ) → j < length keys → (t : Tree)
        → IsBlockOf held (suc level) (Some (entry_name (suc level) (slice_index keys j))) t
        → IsCanonical (suc level) (shape_of t)
        → shape_of t ≡ entry_shape F (suc top) (suc level) (slice_index indices j)
    node_shown j lt t b c =
        branch_form level (shape_of t) c
        (named_some held (suc level) (entry_name (suc level) (slice_index keys j)) t b)
        ∙ same_branch (octant_shape (shape_of t))
        (λ k. shape_of (row_of F (suc top) level (slice_index indices j) k))
        (λ k less. sym (shape_of-child t k) ∙ (octant_shown j lt t b c k less).0)
        ∙ sym
        (ap shape_of (tree-node F (suc top) level (slice_index indices j))
        ∙ shape_of-node (entry_name (suc level) (slice_index indices j))
        (row_of F (suc top) level (slice_index indices j)))

    node_hit : (i : ℕ) → i < length x.sorted
        → (j : ℕ) × (j < length keys) × (slice_index indices j ≡ i)
    node_hit i lt =
        let found =
        x.entries.only (slice_index_or x.sorted i []) (Contains-get_or x.sorted i [] lt) in
        let m = all_keys in
        let inside = found.1 in
        let there : found.0 < length keys = omega (arith, inside, m) in
        let is : slice_index_or x.entries.contents found.0 [] ≡ slice_index_or x.sorted i [] =
        get_or_default x.entries.contents found.0 [] (slice_index_or x.sorted i []) found.1
        ∙ found.2 in (
          found.0,
          there,
          one_row_place (slice_index indices found.0) i x.sorted x.entries.rises
              (place_below found.0 there) lt (x.entries.placed.there found.0 found.1 ∙ is),
        )

    -- the octants of the node that an entry stands for
    octant_at : (i : ℕ) (h : (j : ℕ) × (j < length keys) × (slice_index indices j ≡ i)) (k : ℕ)
        → k < 8
        → (shape_of (child_of (sound h.0 h.1).tree k)
        ≡ shape_of (word_tree F (suc top) level
        (node_word_at F (entry_place F (suc top) (suc level) i) k)))
        × (node_word_at F (entry_place F (suc top) (suc level) i) k ≤ slice_index counts level)
    octant_at i h k less =
        subst (λ (q : ℕ).
        (shape_of (child_of (sound h.0 h.1).tree k)
        ≡ shape_of (word_tree F (suc top) level
        (node_word_at F (entry_place F (suc top) (suc level) q) k)))
        × (node_word_at F (entry_place F (suc top) (suc level) q) k ≤ slice_index counts level)) h.2
        (octant_shown h.0 h.1 (sound h.0 h.1).tree (sound h.0 h.1).is_block
        (sound h.0 h.1).canonical k less)

    node_some : (i : ℕ) (h : (j : ℕ) × (j < length keys) × (slice_index indices j ≡ i))
        → HasWord F (entry_place F (suc top) (suc level) i)
    node_some i h =
        let block = sound h.0 h.1 in
        let part =
        branch_part level (shape_of block.tree) block.canonical
        (named_some held (suc level)
        (entry_name (suc level) (slice_index keys h.0)) block.tree block.is_block) in
        record {
          k = part.0;
          below = part.1;
          there = λ none. part.2 (
              sym (shape_of-child block.tree part.0)
              ∙ (octant_at i h part.0 part.1).0
              ∙ ap (λ (v : ℕ). shape_of (word_tree F (suc top) level v)) none
              ∙ none_shape F (suc top) level);
        }

    -- the words of entries rise
    node_rises : (i : ℕ) → i + 1 < length x.sorted
        → SortsBefore F (entry_place F (suc top) (suc level) i)
        (entry_place F (suc top) (suc level) (i + 1))
    node_rises i lt =
        let eight_of : (q : ℕ) → q < length x.sorted → length (slice_index_or x.sorted q []) ≡ 8 =
        λ q inside.
        ap (λ (r : List ℕ). length r) (sym (x.here q inside))
        ∙ s.eight (first_node counts level + q)
        (node_inside side top counts leaves nodes pairs s level q le
        (let c = x.count in omega (arith, inside, c))) in
        let here : i < length x.sorted = omega (arith, lt) in
        let first = eight_of i here in
        let next = eight_of (i + 1) lt in
        let d =
        first_difference (slice_index_or x.sorted i []) (slice_index_or x.sorted (i + 1) [])
        (first ∙ sym next) (rows_rise x.sorted i x.entries.rises lt) in
        let inside = d.inside in
        let less : d.k < 8 = omega (arith, inside, first) in
        record {
          k = d.k;
          below = less;
          same = λ j lower. row_there i j here (omega (arith, lower, less)) ∙ d.same j lower
              ∙ sym (row_there (i + 1) j lt (omega (arith, lower, less)));
          less = (
              let up = d.less in
              let a = row_there i d.k here less in
              let b = row_there (i + 1) d.k lt less in
              omega (arith, up, a, b));
        }

    node_right : (i : ℕ) → i < count_in F (suc level)
        → IsNodeRight F (entry_place F (suc top) (suc level) i) i (count_in F level)
    node_right i lt =
        let count = count_is side top counts leaves nodes pairs s (suc level) le in
        let c = x.count in
        let inside : i < length x.sorted = omega (arith, lt, count, c) in
        let h = node_hit i inside in
        record {
          fits = (
              let at =
              node_inside side top counts leaves nodes pairs s level i le
              (omega (arith, inside, c)) in
              let start = start_is side top counts leaves nodes pairs s level (omega (arith, le)) in
              let l = file_length side top counts leaves nodes pairs s in
              omega (arith, at, start, l));
          some = node_some i h;
          known = λ k less.
              (let most = (octant_at i h k less).1 in let below = count_is side top counts leaves nodes pairs s level (omega (arith, le)) in omega (arith, most, below));
          rises = λ later. (
              let before : i - 1 + 1 ≡ i = omega (arith, later) in
              let up = node_rises (i - 1) (omega (arith, later, inside)) in
              let place : entry_place F (suc top) (suc level) (i - 1) ≡ entry_place F (suc top) (suc level) i - 32 = omega (arith, later) in
              subst (λ (p : ℕ). SortsBefore F p (entry_place F (suc top) (suc level) i)) place
              (subst (λ (q : ℕ). SortsBefore F (entry_place F (suc top) (suc level) (i - 1))
              (entry_place F (suc top) (suc level) q)) before up));
        }

    -- each entry of the level below is named by a node
    below_named : (i : ℕ) → i < count_in F level → IsNamed F (suc top) level i
    below_named i lt =
        let count = count_is side top counts leaves nodes pairs s level (omega (arith, le)) in
        let h = w.hit i (omega (arith, lt, count)) in
        let child = x.children.only (slice_index x.below h.0) (Contains-get_or x.below h.0 0 h.1) in
        let c = child.child in
        let word = x.entries.words.words child.j child.before c.k c.octant in
        let node = sound child.j child.before in
        let one : word.child ≡ Some c.name =
        sym (word.octant node.tree node.is_block).root
        ∙ (c.child node.tree node.is_block).root in
        let named : IsWordOfName x.below x.below_indices (Some c.name) (slice_index (slice_index_or x.entries.contents child.j []) c.k) = subst (λ (o : Option Name). IsWordOfName x.below x.below_indices o (slice_index (slice_index_or x.entries.contents child.j []) c.k)) one word.word_is in
        let is : slice_index (slice_index_or x.entries.contents child.j []) c.k ≡ slice_index x.below_indices h.0 + 1 = named h.0 h.1 c.is in
        let there = words_there child.j c.k child.before c.octant in
        let hit = h.2 in
        record {
          by = inl (
            (omega (arith, le)),
            record {
              node = slice_index indices child.j;
              below = (let b = place_below child.j child.before in let above = count_is side top counts leaves nodes pairs s (suc level) le in let n = x.count in omega (arith, b, above, n));
              k = c.k;
              octant = c.octant;
              names = (omega (arith, there, is, hit));
            },
          );
        }

    nodes_written : AreWritten (suc level) keys indices
    nodes_written = record {
      below = λ j lt. (let c = x.count in let b = place_below j lt in omega (arith, b, c));
      shape = node_shown;
      hit = λ i lt. node_hit i (let c = x.count in omega (arith, lt, c));
      right = λ l low i lt. elim (cases_eq l (suc level)) [
        | inl at ↦ subst (λ (m : ℕ). i < count_in F m → IsEntryRight F (suc top) m i) (sym at)
            (node_right i) lt
        | inr other ↦ w.right l (omega (arith, low, other)) i lt
      ];
      named = λ l low i lt. elim (cases_eq l level) [
        | inl at ↦ subst (λ (m : ℕ). i < count_in F m → IsNamed F (suc top) m i) (sym at)
            (below_named i) lt
        | inr other ↦ w.named l (omega (arith, low, other)) i lt
      ];
    }

  pub written : (level : ℕ) (keys indices : List ℕ) → level ≤ top → AreSound held level keys
      → AreEntriesUpTo held counts leaves nodes level keys indices → AreWritten level keys indices
  unfolding AreEntriesUpTo
  written zero keys indices le sound x = leaves_written keys indices sound x
  written (suc level) keys indices le sound x =
      nodes_written level le keys indices (AreEntriesUpTo held counts leaves nodes level) sound x
      (written level x.below x.below_indices (omega (arith, le))
      (sound_below held level keys x.below sound x.children) x.stands)
