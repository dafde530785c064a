-- Roots that a canonical store holds show canonical shapes.
use Rattle.std.proofs.Common.{◌≡◌, ℕ, suc, ◌-◌, List, Option, Some, None, refl, sym, subst, ◌∙◌}
use Rattle.node_words.specs.declared.shapes.names.Name.{Name}
use Rattle.node_words.specs.shapes.Shape.{Shape, IsCanonical}
use Rattle.node_words.specs.shapes.Tree.{Tree, shape_of}
use Rattle.node_words.proofs.OfShapes.ShapeLaws.{clear_canonical}
use Rattle.node_words.specs.Held.{AreTrees, AreCanonical}
use Rattle.node_words.proofs.HeldLaws.{held_reached}
use Rattle.node_words.specs.descent.Roots.{HoldsRoot, IsBlockOf}
use Rattle.node_words.proofs.OfDescent.BlockLaws.{clear_block}
use Rattle.dag_file.specs.Lists.{Listed, HoldsList, ShowCanonical}

root_canonical : (world side : ℕ) (held : List Tree) (level : ℕ) (o : Option Name) (t : Tree)
    → level ≡ side - 2 → AreTrees world held → AreCanonical held → HoldsRoot held side o
    → IsBlockOf held level o t → IsCanonical level (shape_of t)
root_canonical world side held level None t at trees canonical h b =
    subst (λ (s : Shape). IsCanonical level s) (sym (clear_block held level t b))
    (clear_canonical level)
root_canonical world side held level (Some n) t at trees canonical h b =
    let same =
    trees.named t h.0.tree (b.reached n refl) (held_reached held h.0.tree h.0.is_held)
    (b.root ∙ sym h.0.root) in
    subst (λ (l : ℕ). IsCanonical l (shape_of t)) (h.1 ∙ sym at)
    (subst (λ (u : Tree). IsCanonical n.level (shape_of u)) (sym same)
    (canonical.each h.0.tree n h.0.is_held h.0.root))

pub show_canonical : (held : List Tree) (world levels : ℕ) (list : List Listed)
    → AreTrees world held → AreCanonical held → HoldsList held levels list
    → ShowCanonical held levels list
show_canonical held world levels list trees canonical holds v x e t b =
    root_canonical world (suc levels) held (suc levels - 2) x.1 t refl trees canonical
    (holds v x e) b
