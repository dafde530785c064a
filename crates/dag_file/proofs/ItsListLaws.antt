-- A right file is the file of its own list.
use Rattle.std.proofs.Common.{◌≡◌, ℕ, zero, suc, ◌+◌, ◌-◌, ◌<◌, ◌≤◌, List, length, Option, Some, None, refl, ap, sym, subst, ◌∙◌, arith}
use Rattle.std.specs.Prelude.{slice_get}
use Rattle.node_words.specs.declared.shapes.names.Name.{Name}
use Rattle.node_words.specs.shapes.Tree.{Tree, shape_of}
use Rattle.node_words.specs.Held.{AreTrees}
use Rattle.node_words.specs.descent.Roots.{HoldsRoot, IsBlockOf, ForBlock}
use Rattle.node_words.proofs.OfDescent.BlockLaws.{clear_block}
use Rattle.dag_file.specs.Places.{versions_in, version_number, version_root_word}
use Rattle.dag_file.specs.Rules.{IsDagFile, IsRight}
use Rattle.dag_file.specs.Trees.{word_name, version_tree}
use Rattle.dag_file.specs.Kept.{AreBytes, version_shape}
use Rattle.dag_file.specs.Lists.{Listed, version_listed, listed_from, list_in, file_roots, DoNumbersRise, IsOfItsList}
use Rattle.dag_file.proofs.TreeLaws.{are_trees}
use Rattle.dag_file.proofs.VersionLaws.{rises, held_word, block_word}

some_same : {a b : Listed} → Some a ≡ Some b → a ≡ b
some_same e = cc

one_shape : (side : ℕ) (held : List Tree) (level : ℕ) (name : Option Name) (t u : Tree)
    → AreTrees side held → IsBlockOf held level name t → IsBlockOf held level name u
    → shape_of t ≡ shape_of u
one_shape side held level None t u trees bt bu =
    clear_block held level t bt ∙ sym (clear_block held level u bu)
one_shape side held level (Some n) t u trees bt bu =
    ap shape_of (trees.named t u (bt.reached n refl) (bu.reached n refl) (bt.root ∙ sym bu.root))

module _ (bytes : List ℕ) (levels : ℕ) where
  got : (v d i : ℕ) (x : Listed) → slice_get (listed_from bytes levels v d) i ≡ Some x
      → (i < d) × (x ≡ version_listed bytes levels (v + i))
  unfolding listed_from
  got v zero i x e = absurd cc
  got v (suc d) zero x e = (
    omega arith,
    sym (some_same e)
        ∙ ap (version_listed bytes levels) (let z : v ≡ v + zero = omega arith in z),
  )
  got v (suc d) (suc i) x e = let g = got (suc v) d i x e in (
    omega (arith, g.0),
    g.1
        ∙ ap (version_listed bytes levels) (let z : suc v + i ≡ v + suc i = omega arith in z),
  )

  many : (v d : ℕ) → d ≡ length (listed_from bytes levels v d)
  unfolding listed_from
  many v zero = refl
  many v (suc d) = ap suc (many (suc v) d)

  one : (v : ℕ) (x : Listed) → slice_get (list_in bytes levels) v ≡ Some x
      → (v < versions_in bytes) × (x ≡ version_listed bytes levels v)
  one v x e = let g = got 0 (versions_in bytes) v x e in
      (g.0, g.1 ∙ ap (version_listed bytes levels) (let z : 0 + v ≡ v = omega arith in z))

  module _ (ab : AreBytes bytes) (file : IsDagFile bytes levels) where
    low : 2 ≤ suc levels
    low = let some = file.right.levels_in.some.0 in omega (arith, some)

    under : suc levels - 1 ≡ levels
    under = omega arith

    held : (v : ℕ) → v < versions_in bytes
        → HoldsRoot (file_roots bytes levels) (suc levels)
        (word_name (levels - 1) (version_root_word bytes levels v))
    held v lt =
        subst (λ (l : ℕ). HoldsRoot (file_roots bytes l) (suc levels)
        (word_name (l - 1) (version_root_word bytes l v))) under
        (held_word bytes (suc levels) v (version_root_word bytes (suc levels - 1) v) lt low refl)

    block : (v : ℕ) → v < versions_in bytes
        → IsBlockOf (file_roots bytes levels) (suc levels - 2)
        (word_name (levels - 1) (version_root_word bytes levels v))
        (version_tree bytes levels v)
    block v lt =
        subst (λ (l : ℕ). IsBlockOf (file_roots bytes l) (suc levels - 2)
        (word_name (l - 1) (version_root_word bytes l v)) (version_tree bytes l v)) under
        (block_word bytes (suc levels) v (version_root_word bytes (suc levels - 1) v) lt low refl)

    trees : AreTrees (suc levels) (file_roots bytes levels)
    trees =
        subst (λ (l : ℕ). AreTrees (suc levels) (file_roots bytes l)) under
        (are_trees bytes (suc levels) low
        (subst (λ (l : ℕ). IsRight bytes l) (sym under) file.right))

    holds : (v : ℕ) (x : Listed) → slice_get (list_in bytes levels) v ≡ Some x
        → HoldsRoot (file_roots bytes levels) (suc levels) x.1
    holds v x e =
        let g = one v x e in
        subst (λ (y : Listed). HoldsRoot (file_roots bytes levels) (suc levels) y.1) (sym g.1)
        (held v g.0)

    rise : DoNumbersRise (list_in bytes levels)
    rise v x y ex ey =
        let g = one v x ex in
        let h = one (suc v) y ey in
        let nx : x.0 ≡ version_number bytes levels v = ap (λ (z : Listed). z.0) g.1 in
        let ny : y.0 ≡ version_number bytes levels (suc v) = ap (λ (z : Listed). z.0) h.1 in
        let next : v + suc zero ≡ suc v = omega arith in
        let up =
        rises bytes levels (versions_in bytes) v zero file.right.versions
        (omega (arith, h.0)) in
        let at : version_number bytes levels (v + suc zero) ≡ version_number bytes levels (suc v) =
        ap (version_number bytes levels) next in
        omega (arith, nx, ny, up, at)

    shown : (v : ℕ) (x : Listed) → slice_get (list_in bytes levels) v ≡ Some x
        → ForBlock (file_roots bytes levels) (suc levels - 2) x.1
        (λ s. version_shape bytes levels v ≡ s)
    shown v x e t bt =
        let g = one v x e in
        let root : x.1 ≡ word_name (levels - 1) (version_root_word bytes levels v) =
        ap (λ (z : Listed). z.1) g.1 in
        one_shape (suc levels) (file_roots bytes levels) (suc levels - 2)
        (word_name (levels - 1) (version_root_word bytes levels v))
        (version_tree bytes levels v) t
        trees (block v g.0)
        (subst (λ (r : Option Name). IsBlockOf (file_roots bytes levels)
        (suc levels - 2) r t) root bt)

    pub of_its_list : IsOfItsList bytes levels
    of_its_list = record {
      roots = holds;
      rise = rise;
      file = record {
        bytes = ab;
        right = file;
        many = many 0 (versions_in bytes);
        numbers = λ v x e. sym (ap (λ (z : Listed). z.0) (one v x e).1);
        shapes = shown;
      };
    }
