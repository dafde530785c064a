-- A code for shapes, so that a list of them can be part of what a contract sees.
use Rattle.std.specs.Prelude.{◌≡◌, ℕ, List, [], ◌∷◌, refl}
use Rattle.std.proofs.Common.{zero, suc, ◌∙◌, ap}
use Rattle.std.specs.Coded.{Coded, code_by, coded_ℕ, coded_list}
use Rattle.node_words.specs.shapes.Shape.{Shape, Clear, Leaf, Branch}

-- a shape as the steps of a stack: 0 puts a clear block, 1 makes a branch of the top eight, n + 2
-- puts the leaf n
abbrev pub shape_steps : Shape → List ℕ → List ℕ
shape_steps Clear more = zero ∷ more
shape_steps (Leaf bits) more = suc (suc bits) ∷ more
shape_steps (Branch a b c d e f g h) more =
    shape_steps a (shape_steps b (shape_steps c (shape_steps d (
    shape_steps e (shape_steps f (shape_steps g (shape_steps h (suc zero ∷ more))))))))

abbrev pub join_top : List Shape → List Shape
join_top (h ∷ g ∷ f ∷ e ∷ d ∷ c ∷ b ∷ a ∷ rest) = Branch a b c d e f g h ∷ rest
join_top rest = rest

abbrev pub run_shape : List ℕ → List Shape → List Shape
run_shape [] stack = stack
run_shape (zero ∷ more) stack = run_shape more (Clear ∷ stack)
run_shape (suc zero ∷ more) stack = run_shape more (join_top stack)
run_shape (suc (suc bits) ∷ more) stack = run_shape more (Leaf bits ∷ stack)

abbrev pub top_shape : List Shape → Shape
top_shape [] = Clear
top_shape (s ∷ stack) = s

pub run_shape-steps : (s : Shape) (more : List ℕ) (stack : List Shape)
    → run_shape (shape_steps s more) stack ≡ run_shape more (s ∷ stack)
run_shape-steps Clear more stack = refl
run_shape-steps (Leaf bits) more stack = refl
run_shape-steps (Branch a b c d e f g h) more stack =
    run_shape-steps a _ _ ∙ run_shape-steps b _ _ ∙ run_shape-steps c _ _
    ∙ run_shape-steps d _ _ ∙ run_shape-steps e _ _ ∙ run_shape-steps f _ _
    ∙ run_shape-steps g _ _ ∙ run_shape-steps h _ _

abbrev pub coded_shape : Coded Shape
coded_shape =
    code_by (List ℕ) (coded_list coded_ℕ) (λ s. shape_steps s [])
    (λ xs. top_shape (run_shape xs [])) (λ s. ap top_shape (run_shape-steps s [] []))
