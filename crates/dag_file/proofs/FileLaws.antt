-- What is read of a file that was put together of its parts.
use Rattle.std.proofs.Common.{◌≡◌, ℕ, zero, suc, ◌+◌, ◌*◌, ◌^◌, ◌<◌, ◌≤◌, List, [], ◌∷◌, ◌++◌, length, take, refl, sym, ap, subst, inl, inr, ◌∙◌, arith}
use Rattle.std.specs.Prelude.{slice_index, slice_index_or, codes}
use Rattle.std.specs.List.{flat_map}
use Rattle.std.proofs.lemmas.Bool.{cases_eq}
use Rattle.std.proofs.lemmas.List.{append_assoc, length-append, take_at}
use Rattle.dag_file.specs.Places.{number_at, leaf_at, node_word_at, side_in, versions_in, count_place, count_in, entry_place, start_of, version_place, version_number, version_root_word, versions_end}
use Rattle.dag_file.specs.Rules.{IsMarked}
use Rattle.dag_file.specs.Writes.{word_bytes, leaf_bytes, numbers_bytes, header_bytes, file_bytes}
use Rattle.dag_file.specs.Layers.{first_node}
use Rattle.dag_file.proofs.ReadLaws.{start-zero, start-suc}
use Rattle.dag_file.proofs.RunLaws.{HasPieceAt, first_part, second_part, further, number_there, leaf_there, item_there, items_length}

number_length : (n : ℕ) → length (word_bytes n) ≡ 4
number_length n = refl

leaf_length : (n : ℕ) → length (leaf_bytes n) ≡ 8
leaf_length n = refl

numbers_length : (ns : List ℕ) → length (numbers_bytes ns) ≡ 4 * length ns
numbers_length ns = items_length word_bytes 4 0 ns (λ j l. number_length (slice_index ns j))

-- the numbers of the parts, and that each fits in its bytes
pub record IsSized (side top : ℕ) (counts leaves : List ℕ)
    (nodes pairs : List (List ℕ)) : Type 0 where
  pub levels : length counts ≡ suc top
  pub leaf_count : slice_index counts 0 ≡ length leaves
  pub node_count : first_node counts top ≡ length nodes
  pub eight : (i : ℕ) → i < length nodes → length (slice_index_or nodes i []) ≡ 8
  pub two : (v : ℕ) → v < length pairs → length (slice_index_or pairs v []) ≡ 2
  pub small_side : side ≤ 4096
  pub few_pairs : length pairs ≤ 65536
  pub few : (level : ℕ) → level ≤ top → slice_index counts level ≤ 2 ^ 24
  pub small_leaves : (i : ℕ) → i < length leaves → slice_index leaves i < 2 ^ 64
  pub small_words : (i k : ℕ) → i < length nodes → k < 8
      → slice_index (slice_index_or nodes i []) k ≤ 2 ^ 24
  pub small_pairs : (v k : ℕ) → v < length pairs → k < 2
      → slice_index (slice_index_or pairs v []) k ≤ 2 ^ 24

pub first_below : (counts : List ℕ) (a b : ℕ) → a ≤ b → first_node counts a ≤ first_node counts b
first_below counts a zero le =
    let e = ap (λ (n : ℕ). first_node counts n)
    (let z : a ≡ 0 = omega (arith, le) in z) in omega (arith, e)
first_below counts a (suc b) le = elim (cases_eq a (suc b)) [
  | inl last ↦ (let e = ap (λ (n : ℕ). first_node counts n) last in omega (arith, e))
  | inr other ↦
      (let before = first_below counts a b (omega (arith, le, other)) in omega (arith, before))
]

module _ (side top : ℕ) (counts leaves : List ℕ) (nodes pairs : List (List ℕ))
    (s : IsSized side top counts leaves nodes pairs) where
  abbrev file : List ℕ
  file = file_bytes side counts leaves nodes pairs

  abbrev fields : List ℕ
  fields = 1 ∷ (side ∷ (length pairs ∷ counts))

  parts : file ≡ (codes "VDAG" ++ numbers_bytes fields) ++
      (flat_map leaf_bytes leaves ++
      (flat_map numbers_bytes nodes ++ flat_map numbers_bytes pairs))
  unfolding file_bytes header_bytes
  parts = refl

  header_length : length (codes "VDAG" ++ numbers_bytes fields) ≡ 16 + 4 * suc top
  header_length =
      let l = length-append (codes "VDAG") (numbers_bytes fields) in
      let mark : length (codes "VDAG") ≡ 4 = refl in
      let n = numbers_length fields in
      let many : length fields ≡ 3 + length counts = omega arith in
      let levels = s.levels in
      omega (arith, l, mark, n, many, levels)

  leaves_length : length (flat_map leaf_bytes leaves) ≡ 8 * length leaves
  leaves_length = items_length leaf_bytes 8 0 leaves (λ j l. leaf_length (slice_index leaves j))

  node_length : (j : ℕ) → j < length nodes → length (numbers_bytes (slice_index_or nodes j [])) ≡ 32
  node_length j l = let e = s.eight j l in let n = numbers_length
      (slice_index_or nodes j []) in omega (arith, e, n)

  nodes_length : length (flat_map numbers_bytes nodes) ≡ 32 * length nodes
  nodes_length = items_length numbers_bytes 32 [] nodes node_length

  pair_length : (j : ℕ) → j < length pairs → length (numbers_bytes (slice_index_or pairs j [])) ≡ 8
  pair_length j l = let e = s.two j l in let n = numbers_length
      (slice_index_or pairs j []) in omega (arith, e, n)

  pairs_length : length (flat_map numbers_bytes pairs) ≡ 8 * length pairs
  pairs_length = items_length numbers_bytes 8 [] pairs pair_length

  abbrev L : List ℕ
  L = flat_map leaf_bytes leaves

  abbrev N : List ℕ
  N = flat_map numbers_bytes nodes

  abbrev V : List ℕ
  V = flat_map numbers_bytes pairs

  abbrev H : List ℕ
  H = codes "VDAG" ++ numbers_bytes fields

  pub file_length : length file
      ≡ 16 + 4 * suc top + 8 * length leaves + 32 * length nodes + 8 * length pairs
  file_length =
      let whole : length file ≡ length (H ++ (L ++ (N ++ V))) =
      ap (λ (l : List ℕ). length l) parts in
      let a = length-append H (L ++ (N ++ V)) in
      let b = length-append L (N ++ V) in
      let c = length-append N V in
      let h =
      header_length in let l = leaves_length in let n = nodes_length in let v = pairs_length in
      omega (arith, whole, a, b, c, h, l, n, v)

  -- ---- where the parts stand

  in_file : (p : ℕ) (piece : List ℕ) → HasPieceAt (H ++ (L ++ (N ++ V))) p piece
      → HasPieceAt file p piece
  in_file p piece x = subst (λ (w : List ℕ). HasPieceAt w p piece) (sym parts) x

  fields_there : HasPieceAt file 4 (numbers_bytes fields)
  fields_there = in_file 4 (numbers_bytes fields) (further (H ++ (L ++ (N ++ V))) H (numbers_bytes fields) 0 4 4 (first_part H (L ++ (N ++ V))) (second_part (codes "VDAG") (numbers_bytes fields) 4 refl) refl)

  rest_there : HasPieceAt (H ++ (L ++ (N ++ V))) (16 + 4 * suc top) (L ++ (N ++ V))
  rest_there = second_part H (L ++ (N ++ V)) (16 + 4 * suc top) header_length

  leaves_there : HasPieceAt file (16 + 4 * suc top) L
  leaves_there = in_file (16 + 4 * suc top) L
      (further (H ++ (L ++ (N ++ V))) (L ++ (N ++ V)) L (16 + 4 * suc top) 0
      (16 + 4 * suc top) rest_there (first_part L (N ++ V)) (omega arith))

  behind_leaves : HasPieceAt (H ++ (L ++ (N ++ V))) (16 + 4 * suc top + 8 * length leaves) (N ++ V)
  behind_leaves = further (H ++ (L ++ (N ++ V))) (L ++ (N ++ V)) (N ++ V) (16 + 4 * suc top)
      (8 * length leaves) (16 + 4 * suc top + 8 * length leaves) rest_there
      (second_part L (N ++ V) (8 * length leaves) leaves_length) refl

  nodes_there : HasPieceAt file (16 + 4 * suc top + 8 * length leaves) N
  nodes_there = in_file (16 + 4 * suc top + 8 * length leaves) N
      (further (H ++ (L ++ (N ++ V))) (N ++ V) N (16 + 4 * suc top + 8 * length leaves) 0
      (16 + 4 * suc top + 8 * length leaves) behind_leaves (first_part N V) (omega arith))

  pairs_there : HasPieceAt file (16 + 4 * suc top + 8 * length leaves + 32 * length nodes) V
  pairs_there = in_file (16 + 4 * suc top + 8 * length leaves + 32 * length nodes) V
      (further (H ++ (L ++ (N ++ V))) (N ++ V) V (16 + 4 * suc top + 8 * length leaves)
      (32 * length nodes)
      (16 + 4 * suc top + 8 * length leaves + 32 * length nodes) behind_leaves
      (second_part N V (32 * length nodes) nodes_length) refl)

  -- ---- the fields

  pub is_marked : IsMarked file
  is_marked = ap (λ (l : List ℕ). take 4 l) (parts ∙ append_assoc (codes "VDAG") (numbers_bytes fields) (L ++ (N ++ V))) ∙ take_at (codes "VDAG") (numbers_bytes fields ++ (L ++ (N ++ V))) 4 refl

  field_is : (i p : ℕ) → i < length fields → slice_index fields i < 256 ^ 4 → 4 + 4 * i ≡ p
      → number_at file p ≡ slice_index fields i
  field_is i p lt fits e = number_there file p (slice_index fields i)
      (further file (numbers_bytes fields) (word_bytes (slice_index fields i)) 4
      (4 * i) p fields_there
      (item_there word_bytes 4 0 fields i
      (λ j l. number_length (slice_index fields j)) lt) e) fits

  pub one_is : number_at file 4 ≡ 1
  one_is = field_is 0 4 (omega arith) (omega arith) (omega arith)

  pub side_is : side_in file ≡ side
  side_is = field_is 1 8 (omega arith) (let h = s.small_side in omega (arith, h)) (omega arith)

  pub versions_are : versions_in file ≡ length pairs
  versions_are = field_is 2 12 (omega arith) (let h = s.few_pairs in omega (arith, h)) (omega arith)

  pub count_is : (level : ℕ) → level ≤ top → count_in file level ≡ slice_index counts level
  count_is level le = field_is (suc (suc (suc level))) (count_place level)
      (let levels = s.levels in omega (arith, levels, le))
      (let h = s.few level le in omega (arith, h)) (omega arith)

  -- ---- where the levels begin

  start_first : start_of file (suc top) 0 ≡ 16 + 4 * suc top
  start_first = start-zero file (suc top)

  pub start_is : (level : ℕ) → level ≤ top
      → start_of file (suc top)
      (suc level) ≡ 16 + 4 * suc top + 8 * length leaves + 32 * first_node counts level
  start_is zero le =
      let next = start-suc file (suc top) 0 in
      let first = start_first in
      let count = count_is 0 le in
      let many = s.leaf_count in
      omega (arith, next, first, count, many)
  start_is (suc level) le =
      let next = start-suc file (suc top) (suc level) in
      let before = start_is level (omega (arith, le)) in
      let count = count_is (suc level) le in
      omega (arith, next, before, count)

  pub versions_start : start_of file (suc top)
      (suc top) ≡ 16 + 4 * suc top + 8 * length leaves + 32 * length nodes
  versions_start = let start = start_is top (omega arith) in let all = s.node_count in omega
      (arith, start, all)

  pub ends : length file ≡ versions_end file (suc top)
  ends = let l = file_length in let start = versions_start in let many = versions_are in omega
      (arith, l, start, many)

  -- ---- the entries and versions

  pub leaf_is : (i : ℕ) → i < length leaves
      → leaf_at file (entry_place file (suc top) 0 i) ≡ slice_index leaves i
  leaf_is i lt = leaf_there file (entry_place file (suc top) 0 i) (slice_index leaves i)
      (further file L (leaf_bytes (slice_index leaves i)) (16 + 4 * suc top) (8 * i)
      (entry_place file (suc top) 0 i) leaves_there
      (item_there leaf_bytes 8 0 leaves i (λ j l. leaf_length (slice_index leaves j)) lt)
      (let first = start_first in omega (arith, first)))
      (let h = s.small_leaves i lt in omega (arith, h))

  pub node_inside : (level i : ℕ) → suc level ≤ top → i < slice_index counts (suc level)
      → first_node counts level + i < length nodes
  node_inside level i le lt =
      let up = first_below counts (suc level) top le in
      let all = s.node_count in
      omega (arith, up, all, lt)

  pub word_is : (level i k : ℕ) → suc level ≤ top → i < slice_index counts (suc level) → k < 8
      → node_word_at file (entry_place file (suc top) (suc level) i) k ≡ slice_index
      (slice_index_or nodes (first_node counts level + i) []) k
  word_is level i k le lt less =
      let at : ℕ = first_node counts level + i in
      let inside = node_inside level i le lt in
      number_there file (entry_place file (suc top) (suc level) i + 4 * k)
      (slice_index (slice_index_or nodes (first_node counts level + i) []) k)
      (further file (numbers_bytes (slice_index_or nodes (first_node counts level + i) []))
      (word_bytes (slice_index (slice_index_or nodes (first_node counts level + i) []) k))
      (16 + 4 * suc top + 8 * length leaves + 32 * (first_node counts level + i)) (4 * k)
      (entry_place file (suc top) (suc level) i + 4 * k)
      (further file N (numbers_bytes (slice_index_or nodes (first_node counts level + i) []))
      (16 + 4 * suc top + 8 * length leaves) (32 * (first_node counts level + i))
      (16 + 4 * suc top + 8 * length leaves + 32 *
      (first_node counts level + i)) nodes_there
      (item_there numbers_bytes 32 [] nodes (first_node counts level + i) node_length inside) refl)
      (item_there word_bytes 4 0 (slice_index_or nodes (first_node counts level + i) []) k
      (λ j l. number_length
      (slice_index (slice_index_or nodes (first_node counts level + i) []) j))
      (let e = s.eight (first_node counts level + i) inside in omega (arith, e, less)))
      (let start = start_is level (omega (arith, le)) in omega (arith, start)))
      (let h = s.small_words (first_node counts level + i) k inside less in omega (arith, h))

  pair_is : (v k p : ℕ) → v < length pairs → k < 2 → version_place file (suc top) v + 4 * k ≡ p
      → number_at file p ≡ slice_index (slice_index_or pairs v []) k
  pair_is v k p lt less e =
      number_there file p (slice_index (slice_index_or pairs v []) k)
      (further file (numbers_bytes (slice_index_or pairs v []))
      (word_bytes (slice_index (slice_index_or pairs v []) k))
      (16 + 4 * suc top + 8 * length leaves + 32 * length nodes + 8 * v) (4 * k) p
      (further file V (numbers_bytes (slice_index_or pairs v []))
      (16 + 4 * suc top + 8 * length leaves + 32 * length nodes) (8 * v)
      (16 + 4 * suc top + 8 * length leaves + 32 * length nodes + 8 * v) pairs_there
      (item_there numbers_bytes 8 [] pairs v pair_length lt) refl)
      (item_there word_bytes 4 0 (slice_index_or pairs v []) k
      (λ j l. number_length (slice_index (slice_index_or pairs v []) j))
      (let two = s.two v lt in omega (arith, two, less)))
      (let start = versions_start in omega (arith, start, e)))
      (let h = s.small_pairs v k lt less in omega (arith, h))

  pub version_is : (v : ℕ) → v < length pairs
      → version_number file (suc top) v ≡ slice_index (slice_index_or pairs v []) 0
  version_is v lt = pair_is v 0 (version_place file (suc top) v) lt (omega arith) (omega arith)

  pub root_is : (v : ℕ) → v < length pairs
      → version_root_word file (suc top) v ≡ slice_index (slice_index_or pairs v []) 1
  root_is v lt = pair_is v 1 (version_place file (suc top) v + 4) lt (omega arith) (omega arith)
