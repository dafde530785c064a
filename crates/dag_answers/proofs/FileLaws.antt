-- The file of the roots of a history's versions is the file of the history.
use Rattle.std.proofs.Common.{◌≡◌, ℕ, suc, ◌-◌, ◌^◌, ◌<◌, ◌≤◌, List, length, get_or, Some, sym, ap, subst, ◌∙◌, arith}
use Rattle.std.specs.Prelude.{slice_get}
use Rattle.std.specs.List.{Contains}
use Rattle.std.proofs.lemmas.Option.{get_or_from_slice_get}
use Rattle.vw_cell.specs.declared.cells.Cell.{Cell}
use Rattle.vw_cell.specs.Places.{IsInWorld, IsInBlock}
use Rattle.vox_read.specs.Contents.{Content}
use Rattle.history_model.specs.Logs.{Log}
use Rattle.history_model.specs.Stores.{store_has}
use Rattle.node_words.specs.shapes.Shape.{Shape, has}
use Rattle.node_words.specs.shapes.Tree.{Tree, shape_of}
use Rattle.node_words.proofs.HeldLaws.{held_reached}
use Rattle.core_laws.specs.contents.Versions.{HoldsVersion, SameWorld}
use Rattle.core_laws.proofs.OfContents.WorldBlocks as blocks
use Rattle.node_words.specs.descent.Roots.{IsBlockOf}
use Rattle.edit_walk.specs.cells.Worlds.{block_at_origin}
use Rattle.store_run.specs.Marked.{Rooted, ShowsVersion, HoldsVersions}
use Rattle.store_run.specs.Taken.{IsFileOfHeld}
use Rattle.store_run.proofs.Listed.{is_in}
use Rattle.dag_file.specs.Kept.{version_shape}
use Rattle.dag_file.specs.Lists.{IsFileOfList}
use Rattle.dag_file.specs.Places.{versions_in}
use Rattle.dag_file.specs.Trees.{IsVersion, HasVersion}
use Rattle.dag_file.proofs.ListLaws.{there}
use Rattle.dag_answers.specs.Histories.{IsFileOfHistory}
use Rattle.dag_answers.specs.Looks.{version_has}

-- ---- lists

one_some : (roots : List Rooted) (v : ℕ) (x y : Rooted) → slice_get roots v ≡ Some x
    → get_or roots v y ≡ y → x ≡ y
one_some roots v x y is at = sym (get_or_from_slice_get roots v x y is) ∙ at

module _ (models : List Content) (log : Log) (held : List Tree) (roots : List Rooted)
    (low : 2 ≤ log.side) (kept : HoldsVersions log.side models log held roots) where
  same_side : log.side ≡ suc (log.side - 1)
  same_side = omega (arith, low)

  -- ---- what the file is then

  module _ (file : List ℕ) (of : IsFileOfList held (log.side - 1) roots file) where
    at_place : (i : ℕ) → i < versions_in file → (x : Rooted) × (slice_get roots i ≡ Some x)
    at_place i lt = there roots i (let many = of.many in omega (arith, lt, many))

    numbered : (v i : ℕ) → IsVersion file (log.side - 1) v i → (x : Rooted)
        → slice_get roots i ≡ Some x → x.0 ≡ v
    numbered v i is x at = sym (of.numbers i x at) ∙ is.is

    has_kept : (v : ℕ) → HasVersion file (log.side - 1) v → HoldsVersion log v
    has_kept v has =
        let found = at_place has.0 has.1.below in
        subst (λ (n : ℕ). HoldsVersion log n) (numbered v has.0 has.1 found.0 found.1)
        (kept.versions.listed found.0 (is_in roots has.0 found.0 found.1))

    kept_has : (v : ℕ) → HoldsVersion log v → HasVersion file (log.side - 1) v
    kept_has v is =
        let all = kept.versions.all v is in
        let i = all.1.0 in
        let lt = all.1.1 in
        let many = of.many in
        let below : i < versions_in file = omega (arith, lt, many) in
        let found = at_place i below in
        let same = one_some roots i found.0 (v, all.0) found.1 all.1.2 in (
          i,
          record {
            below = below;
            is = of.numbers i found.0 found.1
                ∙ ap (λ (x : Rooted). x.0) same;
          },
        )

    -- the tree of a root stands in the root's block
    stands : (x : Rooted) (shows : ShowsVersion log.side models log held x)
        → IsBlockOf held (suc (log.side - 1) - 2) x.1 shows.shows.tree
    stands x shows =
        let root = shows.shows.is_root in
        let same : log.side - 2 ≡ suc (log.side - 1) - 2 = omega (arith, low) in
        record {
          root = root.root;
          reached = λ n e. held_reached held shows.shows.tree (root.is_held n e);
          of_level = λ n e. root.at n e ∙ same;
        }

    shape_is : (i : ℕ) (x : Rooted) (at : slice_get roots i ≡ Some x)
        → version_shape file (log.side - 1) i
        ≡ shape_of (kept.each x (is_in roots i x at)).shows.tree
    shape_is i x at =
        let shows = kept.each x (is_in roots i x at) in
        of.shapes i x at shows.shows.tree (stands x shows)

    from_origin : (a : ℕ) → a ≡ a - 0
    from_origin a = omega arith

    cells_are : (v i : ℕ) → IsVersion file (log.side - 1) v i
        → SameWorld (2 ^ log.side) (version_has file log.side i) (store_has models log v)
    cells_are v i is =
        let found = at_place i is.below in
        let x = found.0 in
        let shows = kept.each x (is_in roots i x found.1) in
        let shape = shape_is i x found.1 in
        let number = numbered v i is x found.1 in
        record {
          each = λ q inside.
              ap (λ (s : Shape). has (log.side - 2) s q.x q.y q.z) shape
              ∙ (λ t. has (log.side - 2) (shape_of shows.shows.tree) (from_origin q.x t)
              (from_origin q.y t) (from_origin q.z t))
              ∙ shows.shows.shows.each q (in_block q inside)
              ∙ ap (λ (n : ℕ). store_has models log n q) number;
        }
      where
        in_block : (q : Cell) → IsInWorld (2 ^ log.side) q
            → IsInBlock (block_at_origin (log.side - 2)) q
        in_block q inside = blocks.in_block log.side q low inside

    pub file_of_kept : IsFileOfHistory models log file
    file_of_kept = record {
      bytes = of.bytes;
      right = of.right;
      versions = λ v. (has_kept v, kept_has v);
      cells = cells_are;
    }

-- the same of the file that a store's versions give
pub file_of_held : (models : List Content) (log : Log) (file : List ℕ)
    → IsFileOfHeld models log file → IsFileOfHistory models log file
file_of_held models log file of =
    file_of_kept models log of.held of.roots of.low of.versions file of.file_is
