-- The file of layers and versions is the file of the list.
use Rattle.std.proofs.Common.{◌≡◌, ℕ, zero, suc, ◌+◌, ◌-◌, ◌*◌, ◌^◌, ◌<◌, ◌≤◌, inl, inr, List, [], ◌∷◌, ◌++◌, length, IsTrue, Option, Some, None, refl, sym, ap, subst, ◌∙◌, arith}
use Rattle.std.specs.Prelude.{slice_index, slice_index_or, slice_get}
use Rattle.std.specs.List.{Contains}
use Rattle.std.proofs.lemmas.Bool.{cases_lt, cases_eq}
use Rattle.std.proofs.lemmas.List.{length-append, get_or_append_left, get_or_push}
use lib.Pow.{pow_mono}
use Rattle.std.proofs.lemmas.List.Elements.{Contains-get_or}
use Rattle.vw_cell.specs.Sides.{is_side}
use Rattle.node_words.specs.declared.shapes.names.Name.{Name}
use Rattle.node_words.specs.shapes.Shape.{IsCanonical}
use Rattle.node_words.specs.shapes.Tree.{Tree, shape_of}
use Rattle.node_words.specs.descent.Roots.{IsBlockOf}
use Rattle.node_words.proofs.OfDescent.BlockLaws.{root_block}
use Rattle.dag_file.specs.Places.{number_at, versions_in, count_in, version_place, version_number, version_root_word}
use Rattle.dag_file.specs.Rules.{IsRight, IsNumberRight, IsRootRight, IsNamed, AreLevelsNamed}
use Rattle.dag_file.specs.Trees.{entry_name, named_index, word_tree}
use Rattle.dag_file.specs.Lists.{Listed, HoldsList, DoNumbersRise, ShowCanonical, AreNumbersSmall, IsFileOfList}
use Rattle.dag_file.specs.Writes.{AreRootKeys, HasByteSlot, file_bytes}
use Rattle.dag_file.specs.Layers.{AreEntriesUpTo, AreLayers, IsPairOf, AreVersionPairs}
use Rattle.dag_file.proofs.KeyLaws.{entry_of}
use Rattle.dag_file.proofs.ListLaws.{there}
use Rattle.dag_file.proofs.ByteRange.{file_is_bytes, power_is_side}
use Rattle.dag_file.proofs.FileLaws.{IsSized, file_length, is_marked, one_is, side_is, versions_are, count_is, versions_start, version_is, root_is, ends}
use Rattle.dag_file.proofs.LayerLaws.{AreSound, AreWritten, written, word_shows, leaves_fit}
use Rattle.dag_file.proofs.MadeLaws.{layers_few, word_small}

-- ---- lists of versions

inside : (list : List Listed) (v : ℕ) (x : Listed) → slice_get list v ≡ Some x → v < length list
inside [] v x e = absurd cc
inside (y ∷ ys) zero x e = omega arith
inside (y ∷ ys) (suc v) x e = let l = inside ys v x e in omega (arith, l)

numbers_from : (list : List Listed) (v : ℕ) (x : Listed) → DoNumbersRise list
    → slice_get list v ≡ Some x → v ≤ x.0
numbers_from list zero x rise e = omega arith
numbers_from list (suc v) x rise e =
    let l = inside list (suc v) x e in
    let before = there list v (omega (arith, l)) in
    let low = numbers_from list v before.0 rise before.1 in
    let up = rise v before.0 x before.1 e in
    omega (arith, low, up)

few_versions : (list : List Listed) → DoNumbersRise list → AreNumbersSmall list
    → length list ≤ 65536
few_versions list rise small = elim (cases_lt 0 (length list)) [
  | inl some ↦ (
      let last = there list (length list - 1) (omega (arith, some)) in
      let low = numbers_from list (length list - 1) last.0 rise last.1 in
      let high = small (length list - 1) last.0 last.1 in
      omega (arith, low, high, some))
  | inr none ↦ omega (arith, none)
]

-- ---- counts of layers

leaf_count : (held : List Tree) (counts leaves : List ℕ) (nodes : List (List ℕ)) (level : ℕ)
    (keys indices : List ℕ) → AreEntriesUpTo held counts leaves nodes level keys indices
    → slice_index counts 0 ≡ length leaves
unfolding AreEntriesUpTo
leaf_count held counts leaves nodes zero keys indices x = x.count
leaf_count held counts leaves nodes (suc level) keys indices x =
    leaf_count held counts leaves nodes level x.below x.below_indices x.stands

counts_few : (held : List Tree) (counts leaves : List ℕ) (nodes : List (List ℕ)) (level : ℕ)
    (keys indices : List ℕ) → AreEntriesUpTo held counts leaves nodes level keys indices → (l : ℕ)
    → l ≤ level → slice_index counts l ≤ 2 ^ 24
unfolding AreEntriesUpTo
counts_few held counts leaves nodes zero keys indices x l le =
    let few = x.few in
    let count = x.count in
    let e : slice_index counts l ≡ slice_index counts 0 =
    ap (λ (i : ℕ). slice_index counts i) (let z : l ≡ 0 = omega (arith, le) in z) in
    omega (arith, few, count, e)
counts_few held counts leaves nodes (suc level) keys indices x l le =
    elim (cases_eq l (suc level)) [
      | inl at ↦ (
          let few = x.entries.few in
          let count = x.count in
          let e : slice_index counts l ≡ slice_index counts (suc level) =
          ap (λ (i : ℕ). slice_index counts i) at in
          omega (arith, few, count, e))
      | inr other ↦ counts_few held counts leaves nodes level x.below x.below_indices x.stands l
          (omega (arith, le, other))
    ]

module _ (held : List Tree) (side top : ℕ) (roots : List Listed)
    (keys indices counts leaves : List ℕ) (nodes pairs : List (List ℕ))
    (low : top ≤ 10) (side_power : side ≡ 2 ^ (top + 2)) (small_side : side ≤ 4096)
    (layers : AreLayers held top keys indices counts leaves nodes)
    (root_keys : AreRootKeys roots keys)
    (versions : AreVersionPairs roots keys indices (length roots) pairs)
    (holds : HoldsList held (suc top) roots) (canonical : ShowCanonical held (suc top) roots)
    (rise : DoNumbersRise roots) (small : AreNumbersSmall roots) where
  under : suc (suc top) - 2 ≡ top
  under = omega arith

  abbrev F : List ℕ
  F = file_bytes side counts leaves nodes pairs

  many : length pairs ≡ length roots
  many = versions.many

  -- the root of a version, by its level
  shows : (v : ℕ) (x : Listed) → slice_get roots v ≡ Some x → (t : Tree) → IsBlockOf held top x.1 t
      → IsCanonical top (shape_of t)
  shows v x e t b =
      subst (λ (l : ℕ). IsCanonical l (shape_of t)) under
      (canonical v x e t (subst (λ (l : ℕ). IsBlockOf held l x.1 t) (sym under) b))

  sound : AreSound held top keys
  sound j lt =
      let h = root_keys.only (slice_index keys j) (Contains-get_or keys j 0 lt) in
      let b =
      root_block held (suc (suc top)) (Some h.name)
      (holds h.v (h.number, Some h.name) h.there) in
      let at : IsBlockOf held top (Some h.name) b.tree =
      subst (λ (l : ℕ). IsBlockOf held l (Some h.name) b.tree) under b.is_block in
      let name : Some h.name ≡ Some (entry_name top (slice_index keys j)) =
      ap Some (sym
      (ap (λ (y : ℕ). entry_name top y) h.is
      ∙ entry_of h.name top (at.of_level h.name refl) h.slot.0)) in
      record {
        tree = b.tree;
        is_block = subst (λ (o : Option Name). IsBlockOf held top o b.tree) name at;
        canonical = shows h.v (h.number, Some h.name) h.there b.tree at;
      }

  pair_of : (v : ℕ) (x : Listed) → slice_get roots v ≡ Some x
      → IsPairOf keys indices x (slice_index_or pairs v [])
  pair_of v x e = versions.each v x (inside roots v x e) e

  known : (v : ℕ) (x : Listed) → slice_get roots v ≡ Some x → (n : Name) → x.1 ≡ Some n
      → Contains keys (named_index n)
  known v x e n is = root_keys.all (named_index n) (record {
    v = v;
    before = inside roots v x e;
    number = x.0;
    name = n;
    there = e ∙ ap (λ (o : Option Name). Some (x.0, o)) is;
    slot = subst (λ (o : Option Name). HasByteSlot o) is (pair_of v x e).slot;
    is = refl;
  })

  few_pairs : length pairs ≤ 65536
  few_pairs = let m = many in let f = few_versions roots rise small in omega (arith, m, f)

  version_there : (v : ℕ) → v < length pairs → (x : Listed) × (slice_get roots v ≡ Some x)
  version_there v lt = there roots v (let m = many in omega (arith, lt, m))

  pair_two : (v : ℕ) → v < length pairs → length (slice_index_or pairs v []) ≡ 2
  pair_two v lt = let x = version_there v lt in (pair_of v x.0 x.1).two

  pair_small : (v k : ℕ) → v < length pairs → k < 2
      → slice_index (slice_index_or pairs v []) k ≤ 2 ^ 24
  pair_small v zero lt less =
      let x = version_there v lt in
      let number = (pair_of v x.0 x.1).number in
      let few = small v x.0 x.1 in
      omega (arith, number, few)
  pair_small v (suc zero) lt less =
      let x = version_there v lt in
      word_small keys indices x.0.1 (slice_index (slice_index_or pairs v []) 1) (known v x.0 x.1)
      (layers_few held top keys indices counts leaves nodes layers) (pair_of v x.0 x.1).word
  pair_small v (suc (suc k)) lt less = absurd (omega (arith, less))

  s : IsSized side top counts leaves nodes pairs
  s = record {
    levels = layers.levels;
    leaf_count = leaf_count held counts leaves nodes top keys indices layers.stands;
    node_count = layers.all;
    eight = layers.eight;
    two = pair_two;
    small_side = small_side;
    few_pairs = few_pairs;
    few = counts_few held counts leaves nodes top keys indices layers.stands;
    small_leaves = leaves_fit held counts leaves nodes top keys indices sound layers.stands;
    small_words = layers.small;
    small_pairs = pair_small;
  }

  w : AreWritten held side top counts leaves nodes pairs s top keys indices
  w = written held side top counts leaves nodes pairs s top keys indices
      (omega arith) sound layers.stands

  -- what stands in a version's block has the shape of its root word
  root_shown : (v : ℕ) (x : Listed) → slice_get roots v ≡ Some x → (t : Tree)
      → IsBlockOf held top x.1 t
      → (shape_of t
      ≡ shape_of (word_tree F (suc top) top (slice_index (slice_index_or pairs v []) 1)))
      × (slice_index (slice_index_or pairs v []) 1 ≤ slice_index counts top)
  root_shown v x e t b =
      let p = pair_of v x e in
      word_shows held side top counts leaves nodes pairs s top keys indices w x.1
      (slice_index (slice_index_or pairs v []) 1) t (known v x e) b
      (shows v x e t b) p.slot p.word

  version_end : (v : ℕ) → v < length pairs → version_place F (suc top) v + 8 ≤ length F
  version_end v lt =
      let l = file_length side top counts leaves nodes pairs s in
      let start = versions_start side top counts leaves nodes pairs s in
      omega (arith, l, start, lt)

  below_all : (v : ℕ) → v < versions_in F → v < length pairs
  below_all v lt = let m = versions_are side top counts leaves nodes pairs s in omega (arith, lt, m)

  number_right : (v : ℕ) → v < versions_in F → IsNumberRight F (version_place F (suc top) v) v
  number_right v lt =
      let here = below_all v lt in
      let x = version_there v here in
      let is = version_is side top counts leaves nodes pairs s v here in
      let number = (pair_of v x.0 x.1).number in
      let few = small v x.0 x.1 in
      record {
        fits = (let end = version_end v here in omega (arith, end));
        few = omega (arith, is, number, few);
        rises = λ later. (
            let u : ℕ = v - 1 in
            let before : v - 1 < length pairs = omega (arith, here) in
            let y = version_there (v - 1) before in
            let next : suc (v - 1) ≡ v = omega (arith, later) in
            let up =
            rise (v - 1) y.0 x.0 y.1
            (subst (λ (i : ℕ). slice_get roots i ≡ Some x.0) (sym next) x.1) in
            let last = version_is side top counts leaves nodes pairs s (v - 1) before in
            let its = (pair_of (v - 1) y.0 y.1).number in
            let place : version_place F (suc top) v - 8 ≡ version_place F (suc top) (v - 1) =
            omega (arith, later) in
            let at : number_at F (version_place F (suc top) v - 8) ≡ version_number F (suc top) (v - 1) = ap (number_at F) place in
            omega (arith, up, last, its, at, is, number));
      }

  one_less : suc top - 1 ≡ top
  one_less = omega arith

  root_right : (v : ℕ) → v < versions_in F
      → IsRootRight F (version_place F (suc top) v) (count_in F (suc top - 1))
  root_right v lt =
      let here = below_all v lt in
      let x = version_there v here in
      let is = root_is side top counts leaves nodes pairs s v here in
      let block = root_block held (suc (suc top)) x.0.1 (holds v x.0 x.1) in
      let most =
      (root_shown v x.0 x.1 block.tree
      (subst (λ (l : ℕ). IsBlockOf held l x.0.1 block.tree) under block.is_block)).1 in
      let count = count_is side top counts leaves nodes pairs s top (omega arith) in
      let at : count_in F (suc top - 1) ≡ count_in F top = ap (λ (l : ℕ). count_in F l) one_less in
      record {
        fits = version_end v here;
        known = omega (arith, is, most, count, at);
      }

  header_fits : 16 + 4 * suc top ≤ length F
  header_fits = let l = file_length side top counts leaves nodes pairs s in omega (arith, l)

  is_right : IsRight F (suc top)
  is_right = record {
    header = record {
      marked = is_marked side top counts leaves nodes pairs s;
      one = (let h = header_fits in omega (arith, h), one_is side top counts leaves nodes pairs s);
      side = (
        let h = header_fits in omega (arith, h),
        subst (λ (n : ℕ). IsTrue (is_side n))
            (sym (side_is side top counts leaves nodes pairs s ∙ side_power))
            (power_is_side top low),
      );
      versions = (
        let h = header_fits in omega (arith, h),
        (let m = versions_are side top counts leaves nodes pairs s in let f = few_pairs in omega
            (arith, m, f)),
      );
    };
    levels_in = record {
      some = (omega arith, omega (arith, low));
      side = side_is side top counts leaves nodes pairs s ∙ side_power
          ∙ ap (λ (n : ℕ). 2 ^ n) (let e : top + 2 ≡ suc top + 1 = omega arith in e);
    };
    counts = λ level lt. (
      (let h = header_fits in omega (arith, h, lt)),
      (let few = counts_few held counts leaves nodes top keys indices layers.stands level
          (omega (arith, lt)) in let is = count_is side top counts leaves nodes pairs s level
          (omega (arith, lt)) in omega (arith, few, is)),
    );
    entries = λ level lt. w.right level (omega (arith, lt));
    versions = record { numbers = number_right; roots = root_right };
  }

  -- each entry of the top level is the root of a version
  top_named : (i : ℕ) → i < count_in F top → IsNamed F (suc top) top i
  top_named i lt =
      let count = count_is side top counts leaves nodes pairs s top (omega arith) in
      let h = w.hit i (omega (arith, lt, count)) in
      let root = root_keys.only (slice_index keys h.0) (Contains-get_or keys h.0 0 h.1) in
      let p = pair_of root.v (root.number, Some root.name) root.there in
      let word_is : slice_index (slice_index_or pairs root.v []) 1 ≡ slice_index indices h.0 + 1 =
      p.word h.0 h.1 root.is in
      let v_in : root.v < length pairs =
      (let m = many in let b = root.before in omega (arith, m, b)) in
      let is = root_is side top counts leaves nodes pairs s root.v v_in in
      let hit = h.2 in
      record {
        by = inr (
          refl,
          record {
            version = root.v;
            below = (let m = versions_are side top counts leaves nodes pairs s in omega
                (arith, m, v_in));
            names = omega (arith, is, word_is, hit);
          },
        );
      }

  all_named : AreLevelsNamed F (suc top) (suc top)
  all_named level lt i inside_level = elim (cases_eq level top) [
    | inl at ↦ subst (λ (l : ℕ). i < count_in F l → IsNamed F (suc top) l i) (sym at)
        (top_named i) inside_level
    | inr other ↦ w.named level (omega (arith, lt, other)) i inside_level
  ]

  pub is_file : IsFileOfList held (suc top) roots F
  is_file = record {
    bytes = file_is_bytes side counts leaves nodes pairs;
    right = record { right = is_right; named = all_named; ends = ends side top counts leaves nodes pairs s };
    many = versions_are side top counts leaves nodes pairs s ∙ many;
    numbers = λ v x e. (
        let l = inside roots v x e in
        let m = many in
        version_is side top counts leaves nodes pairs s v (omega (arith, l, m))
        ∙ (pair_of v x e).number);
    shapes = λ v x e t b. (
        let l = inside roots v x e in
        let m = many in
        let is = root_is side top counts leaves nodes pairs s v (omega (arith, l, m)) in
        let shown = (root_shown v x e t (subst (λ (l : ℕ). IsBlockOf held l x.1 t) under b)).0 in
        ap (λ (l : ℕ). shape_of
        (word_tree F (suc top) l (version_root_word F (suc top) v))) one_less
        ∙ ap (λ (word : ℕ). shape_of (word_tree F (suc top) top word)) is
        ∙ sym shown);
  }

-- ---- in the words of a side's exponent

file_is : (held : List Tree) (exponent top : ℕ) (roots : List Listed)
    (root_list keys indices counts leaves : List ℕ) (nodes pairs : List (List ℕ)) (bytes : List ℕ)
    → (2 ≤ exponent) × (exponent ≤ 12) → top ≡ exponent - 2
    → AreLayers held top keys indices counts leaves nodes → keys ≡ root_list
    → AreRootKeys roots root_list → AreVersionPairs roots keys indices (length roots) pairs
    → HoldsList held (exponent - 1) roots → ShowCanonical held (exponent - 1) roots
    → DoNumbersRise roots → AreNumbersSmall roots
    → bytes ≡ file_bytes (2 ^ exponent) counts leaves nodes pairs
    → IsFileOfList held (exponent - 1) roots bytes
file_is held exponent top roots root_list keys indices counts leaves nodes pairs bytes bounds top_is layers same root_keys versions holds canonical rise small is =
    let levels : exponent - 1 ≡ suc top = omega (arith, bounds, top_is) in
    let most : 2 ^ exponent ≤ 2 ^ 12 = pow_mono {i = exponent} {j = 12} (omega (arith, bounds)) in
    subst (λ (b : List ℕ). IsFileOfList held (exponent - 1) roots b) (sym is)
    (subst (λ (l : ℕ). IsFileOfList held l roots
    (file_bytes (2 ^ exponent) counts leaves nodes pairs)) (sym levels)
    (is_file held (2 ^ exponent) top roots keys indices counts leaves nodes pairs
    (omega (arith, bounds, top_is))
    (ap (λ (e : ℕ). 2 ^ e) (let e : exponent ≡ top + 2 = omega (arith, bounds, top_is) in e))
    (omega (arith, most))
    layers
    (subst (λ (ks : List ℕ). AreRootKeys roots ks) (sym same) root_keys)
    versions
    (subst (λ (l : ℕ). HoldsList held l roots) levels holds)
    (subst (λ (l : ℕ). ShowCanonical held l roots) levels canonical)
    rise small))

few_pairs_of : (roots : List Listed) (keys indices : List ℕ) (pairs : List (List ℕ))
    → DoNumbersRise roots → AreNumbersSmall roots
    → AreVersionPairs roots keys indices (length roots) pairs → length pairs ≤ 65536
few_pairs_of roots keys indices pairs rise small versions =
    let f = few_versions roots rise small in let m = versions.many in omega (arith, f, m)

-- a version more
pub versions_more : (roots : List Listed) (keys indices : List ℕ) (n : ℕ) (item : Listed)
    (words : List ℕ) (old new : List (List ℕ)) → slice_get roots n ≡ Some item
    → AreVersionPairs roots keys indices n old → IsPairOf keys indices item words
    → new ≡ old ++ words ∷ [] → AreVersionPairs roots keys indices (n + 1) new
versions_more roots keys indices n item words old new at before pair is =
    subst (λ (ps : List (List ℕ)). AreVersionPairs roots keys indices (n + 1) ps) (sym is) (record {
      many = (let l = length-append old (words ∷ []) in let m = before.many in omega (arith, l, m));
      each = λ v x lt e. elim (cases_eq v n) [
        | inl last ↦ (
            let same : item ≡ x =
            one_listed item x (sym at ∙ ap (λ (i : ℕ). slice_get roots i) (sym last) ∙ e) in
            subst (λ (y : Listed). IsPairOf keys indices y
            (slice_index_or (old ++ words ∷ []) v [])) same
            (subst (λ (ws : List ℕ). IsPairOf keys indices item ws)
            (sym (get_or_push old words [] v (before.many ∙ sym last))) pair))
        | inr other ↦ (
            let m = before.many in
            subst (λ (ws : List ℕ). IsPairOf keys indices x ws)
            (sym (get_or_append_left old (words ∷ []) [] v (omega (arith, lt, other, m))))
            (before.each v x (omega (arith, lt, other)) e))
      ];
    }) where
      item_or : Option Listed → Listed → Listed
      item_or None d = d
      item_or (Some y) d = y

      one_listed : (a b : Listed) → Some a ≡ Some b → a ≡ b
      one_listed a b e = ap (λ (o : Option Listed). item_or o a) e

-- the same by the slices that calls were given
pub file_of_parts : (held : List Tree) (exponent e top : ℕ) (roots : List Listed)
    (root_list keys k1 indices i1 counts leaves : List ℕ) (nodes pairs p1 : List (List ℕ))
    (bytes : List ℕ) → e ≡ exponent → (2 ≤ e) × (e ≤ 12) → top ≡ e - 2
    → AreLayers held top keys indices counts leaves nodes → keys ≡ root_list
    → AreRootKeys roots root_list → k1 ≡ keys → i1 ≡ indices → p1 ≡ pairs
    → AreVersionPairs roots k1 i1 (length roots) pairs
    → HoldsList held (exponent - 1) roots → ShowCanonical held (exponent - 1) roots
    → DoNumbersRise roots → AreNumbersSmall roots
    → bytes ≡ file_bytes (2 ^ exponent) counts leaves nodes p1
    → IsFileOfList held (exponent - 1) roots bytes
file_of_parts held exponent e top roots root_list keys k1 indices i1 counts leaves nodes pairs p1 bytes ee bounds top_is layers same root_keys ek ei ep versions holds canonical rise small is =
    file_is held exponent top roots root_list keys indices counts leaves nodes pairs bytes
    (omega (arith, bounds, ee), omega (arith, bounds, ee))
    (omega (arith, top_is, ee)) layers same root_keys
    (subst (λ (k : List ℕ). AreVersionPairs roots k indices (length roots) pairs) ek
    (subst (λ (i : List ℕ). AreVersionPairs roots k1 i (length roots) pairs) ei versions))
    holds canonical rise small
    (is ∙ ap (λ (ps : List (List ℕ)). file_bytes (2 ^ exponent) counts leaves nodes ps) ep)

pub few_in_slice : (roots : List Listed) (keys indices : List ℕ) (pairs p1 : List (List ℕ))
    → p1 ≡ pairs → DoNumbersRise roots → AreNumbersSmall roots
    → AreVersionPairs roots keys indices (length roots) pairs → length p1 ≤ 65536
few_in_slice roots keys indices pairs p1 ep rise small versions =
    subst (λ (ps : List (List ℕ)). length ps ≤ 65536) (sym ep)
    (few_pairs_of roots keys indices pairs rise small versions)
