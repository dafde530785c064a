-- Layers that are made one over the other.
use Rattle.std.proofs.Common.{◌≡◌, ℕ, zero, suc, ◌+◌, ◌-◌, ◌^◌, ◌<◌, ◌≤◌, inl, inr, List, [], ◌∷◌, ◌++◌, length, Option, Some, None, refl, sym, ap, subst, ◌∙◌, arith}
use Rattle.std.specs.Prelude.{slice_index, slice_index_or}
use Rattle.std.specs.List.{Contains}
use Rattle.std.specs.List.Sorted.{IsStrictlyIncreasing, IsStrictlySortedBy}
use Rattle.std.specs.Cmp.Lexicographic.{slice_cmp}
use Rattle.std.specs.Ordering.{nat_cmp}
use Rattle.std.proofs.lemmas.Bool.{cases_lt}
use Rattle.std.proofs.lemmas.List.{length-append, get_or_append_left, get_or-append_right, get_or-append-add, get_or_default, get_or_push}
use Rattle.std.proofs.lemmas.List.Elements.{Contains-get_or}
use Rattle.node_words.specs.declared.shapes.names.Name.{Name}
use Rattle.node_words.specs.shapes.Tree.{Tree}
use Rattle.dag_file.specs.Trees.{entry_name, named_index}
use Rattle.dag_file.specs.Writes.{AreLeaves, AreNodeWords, AreIndices, AreNodeIndices, AreChildren, IsWordOfName, HasByteSlot}
use Rattle.node_words.specs.descent.Roots.{IsOctantOf}
use Rattle.dag_file.specs.Layers.{first_node, AreEntriesUpTo, AreLayers}
use Rattle.dag_file.proofs.FileLaws.{first_below}

-- ---- indices

-- there is an index for each key, below the bound of a level
pub stands_indexed : (held : List Tree) (counts leaves : List ℕ) (nodes : List (List ℕ)) (level : ℕ)
    (keys indices : List ℕ) → AreEntriesUpTo held counts leaves nodes level keys indices
    → (length indices ≡ length keys) × ((j : ℕ) → j < length keys → slice_index indices j < 2 ^ 24)
unfolding AreEntriesUpTo
stands_indexed held counts leaves nodes zero keys indices x =
    let many = x.contents.many in
    let placed = x.placed.many in (
      placed ∙ many,
      λ j lt.
          (let b = x.placed.below j (omega (arith, lt, many)) in let few = x.few in omega
          (arith, b, few)),
    )
stands_indexed held counts leaves nodes (suc level) keys indices x =
    let many = x.entries.words.many in
    let placed = x.entries.placed.many in (
      placed ∙ many,
      λ j lt.
          (let b = x.entries.placed.below j
          (omega (arith, lt, many)) in let few = x.entries.few in omega (arith, b, few)),
    )

pub layers_indexed : (held : List Tree) (level : ℕ) (keys indices counts leaves : List ℕ)
    (nodes : List (List ℕ)) → AreLayers held level keys indices counts leaves nodes
    → length indices ≡ length keys
layers_indexed held level keys indices counts leaves nodes a =
    (stands_indexed held counts leaves nodes level keys indices a.stands).0

pub layers_few : (held : List Tree) (level : ℕ) (keys indices counts leaves : List ℕ)
    (nodes : List (List ℕ)) → AreLayers held level keys indices counts leaves nodes → (j : ℕ)
    → j < length keys → slice_index indices j < 2 ^ 24
layers_few held level keys indices counts leaves nodes a =
    (stands_indexed held counts leaves nodes level keys indices a.stands).1

-- a word of a name that has a key is small
pub word_small : (keys indices : List ℕ) (o : Option Name) (word : ℕ)
    → ((n : Name) → o ≡ Some n → Contains keys (named_index n))
    → ((j : ℕ) → j < length keys → slice_index indices j < 2 ^ 24)
    → IsWordOfName keys indices o word → word ≤ 2 ^ 24
word_small keys indices None word known few is = omega (arith, is)
word_small keys indices (Some n) word known few is =
    let found = known n refl in
    let word_is : word ≡ slice_index indices found.0 + 1 =
    is found.0 found.1 (get_or_default keys found.0 0 (named_index n) found.1 ∙ found.2) in
    let low = few found.0 found.1 in
    omega (arith, word_is, low)

-- ---- the leaves

pub leaf_layer_made : (held : List Tree) (keys bits leaves indices counts : List ℕ)
    (nodes : List (List ℕ)) → AreLeaves held keys (length keys) bits → IsStrictlyIncreasing leaves
    → ((x : ℕ) → Contains leaves x → Contains bits x) → AreIndices bits leaves (length bits) indices
    → length leaves ≤ 2 ^ 24 → counts ≡ length leaves ∷ [] → nodes ≡ []
    → AreLayers held 0 keys indices counts leaves nodes
unfolding AreEntriesUpTo
leaf_layer_made held keys bits leaves indices counts nodes contents rises only placed few counts_are nodes_are = record {
  stands = record { bits = bits; contents = contents; placed = placed; rises = rises; only = only; count = ap (λ (l : List ℕ). slice_index l 0) counts_are; few = few };
  levels = ap (λ (l : List ℕ). length l) counts_are;
  all = none;
  eight = λ i lt. absurd (let z = none in omega (arith, z, lt));
  small = λ i k lt less. absurd (let z = none in omega (arith, z, lt));
} where
  none : 0 ≡ length nodes
  none = sym (ap (λ (l : List (List ℕ)). length l) nodes_are)

-- ---- a level more

first_more : (counts more : List ℕ) (level : ℕ) → level < length counts
    → first_node (counts ++ more) level ≡ first_node counts level
first_more counts more zero lt = refl
first_more counts more (suc level) lt =
    let before = first_more counts more level (omega (arith, lt)) in
    let here : slice_index (counts ++ more) (suc level) ≡ slice_index counts (suc level) =
    get_or_append_left counts more 0 (suc level) lt in
    omega (arith, before, here)

-- what stands stays where more comes behind it
stands_more : (held : List Tree) (counts more leaves : List ℕ) (nodes further : List (List ℕ))
    (level : ℕ) (keys indices : List ℕ) → level < length counts
    → first_node counts level ≤ length nodes
    → AreEntriesUpTo held counts leaves nodes level keys indices
    → AreEntriesUpTo held (counts ++ more) leaves (nodes ++ further) level keys indices
unfolding AreEntriesUpTo
stands_more held counts more leaves nodes further zero keys indices lt low x = record {
  bits = x.bits;
  contents = x.contents;
  placed = x.placed;
  rises = x.rises;
  only = x.only;
  count = get_or_append_left counts more 0 0 lt ∙ x.count;
  few = x.few;
}
stands_more held counts more leaves nodes further (suc level) keys indices lt low x = record {
  below = x.below;
  below_indices = x.below_indices;
  stands = stands_more held counts more leaves nodes further level x.below x.below_indices
      (omega (arith, lt))
      (let up = first_below counts level (suc level) (omega arith) in omega
      (arith, up, low)) x.stands;
  children = x.children;
  sorted = x.sorted;
  entries = x.entries;
  count = get_or_append_left counts more 0 (suc level) lt ∙ x.count;
  here = λ i inside. (
      let c = x.count in
      let first = first_more counts more level (omega (arith, lt)) in
      ap (λ (f : ℕ). slice_index_or (nodes ++ further) (f + i) []) first
      ∙ get_or_append_left nodes further [] (first_node counts level + i)
      (omega (arith, inside, c, low))
      ∙ x.here i inside);
}

module _ (held : List Tree) (level : ℕ) (keys below below_indices indices counts leaves : List ℕ)
    (nodes contents sorted : List (List ℕ))
    (old : AreLayers held level below below_indices counts leaves nodes)
    (children : AreChildren held (suc level) keys below)
    (words : AreNodeWords held (suc level) keys below below_indices
    (length keys) contents)
    (only : (x : List ℕ) → Contains sorted x → Contains contents x) where
  few_below : (j : ℕ) → j < length below → slice_index below_indices j < 2 ^ 24
  few_below = layers_few held level below below_indices counts leaves nodes old

  -- each sorted row is that of a key
  row_of_key : (i : ℕ) → i < length sorted
      → (j : ℕ) × (j < length keys) × (slice_index_or contents j [] ≡ slice_index_or sorted i [])
  row_of_key i lt =
      let found = only (slice_index_or sorted i []) (Contains-get_or sorted i [] lt) in
      let many = words.many in
      let inside = found.1 in (
        found.0,
        omega (arith, inside, many),
        get_or_default contents found.0 []
            (slice_index_or sorted i []) found.1 ∙ found.2,
      )

  row_eight : (i : ℕ) → i < length sorted → length (slice_index_or sorted i []) ≡ 8
  row_eight i lt = let key = row_of_key i lt in sym (ap (λ (r : List ℕ). length r) key.2)
      ∙ words.eight key.0 key.1

  row_small : (i k : ℕ) → i < length sorted → k < 8
      → slice_index (slice_index_or sorted i []) k ≤ 2 ^ 24
  row_small i k lt less =
      let key = row_of_key i lt in
      let word = words.words key.0 key.1 k less in
      subst (λ (r : List ℕ). slice_index r k ≤ 2 ^ 24) key.2
      (word_small below below_indices word.child (slice_index (slice_index_or contents key.0 []) k)
      (λ n e. children.all (named_index n) (record {
        j = key.0;
        before = key.1;
        child = record {
          k = k;
          octant = less;
          name = n;
          child = subst
              (λ (o : Option Name). IsOctantOf held (suc level)
              (Some (entry_name (suc level) (slice_index keys key.0))) k o) e word.octant;
          slot = subst (λ (o : Option Name). HasByteSlot o) e word.slot;
          is = refl;
        };
      }))
      few_below word.word_is)

  pub node_layer_made : (more : List ℕ) (all : List (List ℕ))
      → IsStrictlySortedBy (slice_cmp nat_cmp) sorted
      → AreNodeIndices contents sorted (length contents) indices → length sorted ≤ 2 ^ 24
      → more ≡ counts ++ length sorted ∷ [] → all ≡ nodes ++ sorted
      → AreLayers held (suc level) keys indices more leaves all
  unfolding AreEntriesUpTo
  node_layer_made more all rises placed few more_is all_is =
      subst (λ (m : List ℕ). AreLayers held (suc level) keys indices m leaves all) (sym more_is)
      (subst (λ (ns : List (List ℕ)). AreLayers held (suc level) keys indices
      (counts ++ length sorted ∷ []) leaves ns) (sym all_is)
      (record {
        stands = record {
          below = below;
          below_indices = below_indices;
          stands = stands_more held counts
              (length sorted ∷ []) leaves nodes sorted level below below_indices
              (omega (arith, levels)) (omega (arith, whole)) old.stands;
          children = children;
          sorted = sorted;
          entries = record { contents = contents; words = words; placed = placed; rises = rises; only = only; few = few };
          count = count_here;
          here = λ i lt. ap (λ (f : ℕ). slice_index_or (nodes ++ sorted) (f + i) [])
              (first_more counts (length sorted ∷ []) level (omega (arith, levels)) ∙ whole)
              ∙ get_or-append-add nodes sorted i [];
        };
        levels = (let l = length-append counts (length sorted ∷ []) in omega (arith, l, levels));
        all = (
            let first = first_more counts (length sorted ∷ []) level (omega (arith, levels)) in
            let l = length-append nodes sorted in
            let c = count_here in
            omega (arith, first, whole, l, c));
        eight = λ i lt. elim (cases_lt i (length nodes)) [
          | inl before ↦ ap (λ (r : List ℕ). length r)
              (get_or_append_left nodes sorted [] i before) ∙ old.eight i before
          | inr behind ↦ ap (λ (r : List ℕ). length r)
              (get_or-append_right nodes sorted (length nodes) i [] refl behind)
              ∙ row_eight (i - length nodes)
              (let l = length-append nodes sorted in omega (arith, l, lt, behind))
        ];
        small = λ i k lt less. elim (cases_lt i (length nodes)) [
          | inl before ↦ subst (λ (r : List ℕ). slice_index r k ≤ 2 ^ 24)
              (sym (get_or_append_left nodes sorted [] i before)) (old.small i k before less)
          | inr behind ↦ subst (λ (r : List ℕ). slice_index r k ≤ 2 ^ 24)
              (sym (get_or-append_right nodes sorted (length nodes) i [] refl behind))
              (row_small (i - length nodes) k
              (let l = length-append nodes sorted in omega (arith, l, lt, behind)) less)
        ];
      })) where
        levels : length counts ≡ suc level
        levels = old.levels

        whole : first_node counts level ≡ length nodes
        whole = old.all

        count_here : slice_index (counts ++ length sorted ∷ []) (suc level) ≡ length sorted
        count_here = get_or_push counts (length sorted) 0 (suc level) levels

-- the same of a level that isn't 0
pub node_layer : (held : List Tree) (level : ℕ)
    (keys below below_indices indices counts more leaves : List ℕ)
    (nodes all contents sorted : List (List ℕ)) → 1 ≤ level
    → AreLayers held (level - 1) below below_indices counts leaves nodes
    → AreChildren held level keys below
    → AreNodeWords held level keys below below_indices (length keys) contents
    → ((x : List ℕ) → Contains sorted x → Contains contents x)
    → IsStrictlySortedBy (slice_cmp nat_cmp) sorted
    → AreNodeIndices contents sorted (length contents) indices → length sorted ≤ 2 ^ 24
    → more ≡ counts ++ length sorted ∷ [] → all ≡ nodes ++ sorted
    → AreLayers held level keys indices more leaves all
node_layer held zero keys below below_indices indices counts more leaves nodes all contents sorted some old children words only rises placed few more_is all_is =
    absurd (omega (arith, some))
node_layer held
    (suc level) keys below below_indices indices counts more leaves nodes all contents sorted some old children words only rises placed few more_is all_is =
    let under : suc level - 1 ≡ level = omega arith in
    node_layer_made held level keys below below_indices indices counts leaves nodes contents sorted
    (subst (λ (l : ℕ). AreLayers held l below below_indices counts leaves nodes) under old) children words only more all rises placed few more_is all_is

-- ---- the same by the slices that calls were given

pub leaf_layer_of : (held : List Tree) (keys k1 bits b1 b2 leaves l1 indices none counts : List ℕ)
    (n : ℕ) (nodes : List (List ℕ)) → k1 ≡ keys → b1 ≡ bits → b2 ≡ bits → l1 ≡ leaves
    → AreLeaves held k1 (length k1) bits → IsStrictlyIncreasing leaves
    → ((x : ℕ) → Contains leaves x → Contains b1 x) → length leaves ≤ length b1
    → AreIndices b2 l1 (length b2) indices → length keys ≤ 2 ^ 24 → none ≡ [] → n ≡ length leaves
    → counts ≡ none ++ n ∷ [] → nodes ≡ [] → AreLayers held 0 keys indices counts leaves nodes
leaf_layer_of held keys k1 bits b1 b2 leaves l1 indices none counts n nodes ek eb1 eb2 el contents rises only shorter placed few none_is n_is counts_are nodes_are =
    let leaves_of : AreLeaves held keys (length keys) bits =
    subst (λ (k : List ℕ). AreLeaves held k (length k) bits) ek contents in
    let many = leaves_of.many in
    let same : length b1 ≡ length bits = ap (λ (l : List ℕ). length l) eb1 in
    leaf_layer_made held keys bits leaves indices counts nodes leaves_of rises
    (λ x h. subst (λ (b : List ℕ). Contains b x) eb1 (only x h))
    (subst (λ (b : List ℕ). AreIndices b leaves (length b) indices) eb2
    (subst (λ (l : List ℕ). AreIndices b2 l (length b2) indices) el placed))
    (omega (arith, many, same, shorter, few))
    (counts_are ∙ ap (λ (l : List ℕ). l ++ n ∷ []) none_is
    ∙ ap (λ (m : ℕ). m ∷ []) n_is) nodes_are

pub node_layer_of : (held : List Tree) (level : ℕ)
    (keys k1 below below1 below_indices bi1 indices counts more leaves : List ℕ)
    (nodes all contents c1 c2 sorted s1 s2 : List (List ℕ)) (n : ℕ) → 1 ≤ level → k1 ≡ keys
    → below1 ≡ below → bi1 ≡ below_indices → c1 ≡ contents → c2 ≡ contents → s1 ≡ sorted
    → s2 ≡ sorted → AreLayers held (level - 1) below below_indices counts leaves nodes
    → AreChildren held level keys below → AreNodeWords held level k1 below1 bi1 (length k1) contents
    → ((x : List ℕ) → Contains sorted x → Contains c1 x)
    → IsStrictlySortedBy (slice_cmp nat_cmp) sorted → length sorted ≤ length c1
    → AreNodeIndices c2 s1 (length c2) indices → length keys ≤ 2 ^ 24 → n ≡ length sorted
    → more ≡ counts ++ n ∷ [] → all ≡ nodes ++ s2
    → AreLayers held level keys indices more leaves all
node_layer_of held level keys k1 below below1 below_indices bi1 indices counts more leaves nodes all contents c1 c2 sorted s1 s2 n some ek eb ei ec1 ec2 es1 es2 old children words only rises shorter placed few n_is more_is all_is =
    let words_of : AreNodeWords held level keys below below_indices (length keys) contents =
    subst (λ (k : List ℕ). AreNodeWords held level k below below_indices (length k) contents) ek
    (subst (λ (b : List ℕ). AreNodeWords held level k1 b below_indices (length k1) contents) eb
    (subst (λ (i : List ℕ). AreNodeWords held level k1 below1 i (length k1) contents) ei words)) in
    let many = words_of.many in
    let same : length c1 ≡ length contents = ap (λ (l : List (List ℕ)). length l) ec1 in
    node_layer held level keys below below_indices indices counts more leaves nodes all contents sorted some old children words_of
    (λ x h. subst (λ (b : List (List ℕ)). Contains b x) ec1 (only x h)) rises
    (subst (λ (b : List (List ℕ)). AreNodeIndices b sorted (length b) indices) ec2
    (subst (λ (l : List (List ℕ)). AreNodeIndices c2 l (length c2) indices) es1 placed))
    (omega (arith, many, same, shorter, few)) (more_is ∙ ap (λ (m : ℕ). counts ++ m ∷ []) n_is)
    (all_is ∙ ap (λ (l : List (List ℕ)). nodes ++ l) es2)

pub many_in : (keys k1 indices i1 : List ℕ) → k1 ≡ keys → i1 ≡ indices
    → length indices ≡ length keys → length i1 ≡ length k1
many_in keys k1 indices i1 ek ei many =
    ap (λ (l : List ℕ). length l) ei ∙ many ∙ sym (ap (λ (l : List ℕ). length l) ek)

pub few_in : (keys k1 indices i1 : List ℕ) → k1 ≡ keys → i1 ≡ indices
    → ((j : ℕ) → j < length keys → slice_index indices j < 2 ^ 24) → (j : ℕ) → j < length k1
    → slice_index i1 j < 2 ^ 24
few_in keys k1 indices i1 ek ei few =
    subst (λ (k : List ℕ). (j : ℕ) → j < length k → slice_index i1 j < 2 ^ 24) (sym ek)
    (subst (λ (i : List ℕ). (j : ℕ) → j < length keys → slice_index i j < 2 ^ 24) (sym ei) few)

pub contains_in : {X : Type 0} (words w1 w2 sorted s1 : List X) → w1 ≡ words → w2 ≡ words
    → s1 ≡ sorted → ((x : X) → Contains w1 x → Contains sorted x) → (x : X) → Contains w2 x
    → Contains s1 x
contains_in {X} words w1 w2 sorted s1 e1 e2 es keeps x h =
    subst (λ (l : List X). Contains l x) (sym es)
    (keeps x (subst (λ (l : List X). Contains l x) (e2 ∙ sym e1) h))
