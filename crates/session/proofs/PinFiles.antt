-- The files of saves.
use Rattle.std.proofs.Common.{◌≡◌, ℕ, ◌-◌, ◌^◌, ◌<◌, ◌≤◌, zero, suc, Bool, Some, None, Option, List, [], ◌∷◌, length, refl, sym, ◌∙◌, ap, subst, arith, get_or}
use Rattle.std.specs.declared.vec.Vec.{Vec}
use Rattle.std.specs.List.{AllZip, sum_by}
use Rattle.std.specs.Prelude.{slice_get, Result, Ok, Err, IfOk}
use Rattle.std.proofs.lemmas.List.Sums.{sum_by-cons}
use Rattle.std.proofs.lemmas.Option.{none-some, same_Some, slice_get-get_or}
use Rattle.vw_cell.specs.declared.boxes.Boxed.{Boxed}
use Rattle.vw_cell.specs.Places.{FitsAt}
use Rattle.history_model.specs.Stores.{store_has}
use Rattle.node_words.specs.declared.shapes.names.Name.{Name}
use Rattle.node_words.specs.shapes.Tree.{Tree, shape_of}
use Rattle.node_words.specs.shapes.Weights.{weight_of}
use Rattle.node_words.proofs.OfShapes.WeightLaws.{weight_of-there}
use Rattle.node_words.specs.Held.{IsHeld}
use Rattle.node_words.proofs.HeldLaws.{held_reached}
use Rattle.node_words.specs.descent.Roots.{IsBlockOf, HoldsRoot, ForWorld, cells_of}
use Rattle.node_table.specs.TableStates.{TableState}
use Rattle.version_log.specs.declared.answers.Pinned.{Pinned}
use Rattle.conformance.specs.sessions.SessionViews.{SessionView}
use Rattle.session.specs.Saves.{HoldsSaves, IsSavedRoot}
use Rattle.history_model.specs.Logs.{side_of_world}
use Rattle.session.specs.Roots.{stored_file}
use Rattle.session.proofs.FileLaws.{shown_at}
use Rattle.session.proofs.VoxelLaws.{file_same}

-- ---- the pin in a place

-- a pin among others, and its tree, which weighs no more than all of them
record HasPinTree (of : TableState) (s : SessionView) (trees : List Tree) (p : Pinned) : Type 0 where
  tree : Tree
  is : IsSavedRoot of s p tree
  weighs : (f : Tree → ℕ) → weight_of f tree ≤ sum_by (weight_of f) trees

pin_there : (of : TableState) (s : SessionView) (pins : List Pinned) (trees : List Tree) (k : ℕ)
    (p : Pinned) → AllZip (IsSavedRoot of s) pins trees
    → slice_get pins k ≡ Some p → HasPinTree of s trees p
pin_there of s [] [] k p are here = absurd (none-some p here)
pin_there of s [] (u ∷ trees) k p are here = absurd are
pin_there of s (q ∷ pins) [] k p are here = absurd are
pin_there of s (q ∷ pins) (u ∷ trees) zero p are here = record {
  tree = u;
  is = subst (λ (r : Pinned). IsSavedRoot of s r u) (same_Some q p here) are.0;
  weighs = λ f. (let both = sum_by-cons (weight_of f) u trees in omega arith);
}
pin_there of s (q ∷ pins) (u ∷ trees) (suc k) p are here =
    let h = pin_there of s pins trees k p are.1 here in
    record {
      tree = h.tree;
      is = h.is;
      weighs = λ f.
          (let both = sum_by-cons (weight_of f) u trees in let w = h.weighs f in omega arith);
    }

module _ (of : TableState) (s : SessionView) (held : List Tree) (pins : List Pinned) (k : ℕ)
    (p : Pinned) (holds : HoldsSaves of s held pins)
    (lt : k < length pins) (read : p ≡ get_or pins k p) where
  here : slice_get pins k ≡ Some p
  here = slice_get-get_or pins k p lt ∙ ap Some (sym read)

  h : HasPinTree of s holds.trees p
  h = pin_there of s pins holds.trees k p holds.are here

  is_held : (n : Name) → p.root ≡ Some n → IsHeld held h.tree
  is_held n e = record {
    weighs = λ f.
        (let a = holds.weighs f in let b = h.weighs f in let c = weight_of-there f h.tree n
        (h.is.name ∙ e) in omega arith);
  }

  pub pin_root : (side : ℕ) (root : Option Name) → side ≡ of.plan.side → root ≡ p.root
      → HoldsRoot held side root
  pin_root side root of_side is = subst (λ (n : ℕ). HoldsRoot held n root) (sym of_side)
      (subst (λ (r : Option Name). HoldsRoot held of.plan.side r) (sym is) (go p.root refl))
    where
      go : (r : Option Name) → p.root ≡ r → HoldsRoot held of.plan.side r
      go None e = tt
      go (Some n) e =
          (record { tree = h.tree; is_held = is_held n e; root = h.is.name ∙ e }, h.is.level n e)

  block : IsBlockOf held (of.plan.side - 2) p.root h.tree
  block = record {
    root = h.is.name;
    reached = λ n e. held_reached held h.tree (is_held n e);
    of_level = h.is.level;
  }

  pub pin_file : {E Z : Type 0} (tint : Bool) (part : Boxed) (result : Result (Vec ℕ Z) E)
      (root : Option Name)
      → FitsAt part.at part.size (side_of_world tint (2 ^ of.plan.side)) → root ≡ p.root
      → IfOk result (λ file. ForWorld held of.plan.side root
      (λ cells. file.items ≡ stored_file tint of.plan.side part cells))
      → IfOk result (λ file. (q : Pinned) → slice_get pins k ≡ Some q
      → file.items ≡ stored_file tint of.plan.side part (store_has of.models s.log q.version))
  pin_file {E} {Z} tint part result root fits is told =
      go result (subst (λ (r : Option Name). IfOk result (λ file. ForWorld held of.plan.side r
      (λ cells. file.items ≡ stored_file tint of.plan.side part cells))) is told)
    where
      go : (r : Result (Vec ℕ Z) E) → IfOk r (λ file. ForWorld held of.plan.side p.root
          (λ cells. file.items ≡ stored_file tint of.plan.side part cells))
          → IfOk r (λ file. (q : Pinned) → slice_get pins k ≡ Some q
          → file.items ≡ stored_file tint of.plan.side part (store_has of.models s.log q.version))
      go (Err e) told = tt
      go (Ok file) told = λ q at.
          told h.tree block
          ∙ file_same tint of.plan.side part (cells_of (of.plan.side - 2) (shape_of h.tree))
          (store_has of.models s.log p.version) fits
          (shown_at of.plan.side (shape_of h.tree) (store_has of.models s.log p.version) h.is.shows)
          ∙ ap
          (λ (r : Pinned). stored_file tint of.plan.side part
          (store_has of.models s.log r.version))
          (same_Some p q (sym here ∙ at))
