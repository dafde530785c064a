-- A list of versions has one file.
use Rattle.std.proofs.Common.{◌≡◌, ℕ, zero, suc, ◌<◌, List, [], ◌∷◌, length, Some, refl, sym, ◌∙◌, arith}
use Rattle.std.specs.Prelude.{slice_get}
use Rattle.node_words.specs.shapes.Tree.{Tree}
use Rattle.node_words.proofs.OfDescent.BlockLaws.{root_block}
use Rattle.dag_file.specs.Places.{versions_in}
use Rattle.dag_file.specs.Kept.{AreOfOneList}
use Rattle.dag_file.specs.Lists.{Listed, HoldsList, IsFileOfList}
use Rattle.dag_file.proofs.ByteLaws.{same_bytes}

pub there : (list : List Listed) (v : ℕ) → v < length list
    → (x : Listed) × (slice_get list v ≡ Some x)
there [] v lt = absurd (omega arith)
there (x ∷ xs) zero lt = (x, refl)
there (x ∷ xs) (suc v) lt = there xs v (omega arith)

module _ (held : List Tree) (levels : ℕ) (list : List Listed) (a b : List ℕ)
    (roots : HoldsList held levels list) (fa : IsFileOfList held levels list a)
    (fb : IsFileOfList held levels list b) where
  within : (v : ℕ) → v < versions_in a → v < length list
  within v lt = let e = fa.many in omega (arith, e, lt)

  of_one_list : AreOfOneList a b levels
  of_one_list = record {
    versions = fa.many ∙ sym fb.many;
    numbers = λ v lt. (
        let t = there list v (within v lt) in
        fa.numbers v t.0 t.1 ∙ sym (fb.numbers v t.0 t.1));
    shapes = λ v lt. (
        let t = there list v (within v lt) in
        let block = root_block held (suc levels) t.0.1 (roots v t.0 t.1) in
        fa.shapes v t.0 t.1 block.tree block.is_block
        ∙ sym (fb.shapes v t.0 t.1 block.tree block.is_block));
  }

  pub one_file : a ≡ b
  one_file = same_bytes a b levels fa.bytes fb.bytes fa.right fb.right of_one_list
