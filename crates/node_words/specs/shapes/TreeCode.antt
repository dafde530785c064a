-- A code for trees of names, so that a list of them can be part of what a contract sees.
use Rattle.std.specs.Prelude.{◌≡◌, ℕ, List, [], ◌∷◌, refl}
use Rattle.std.proofs.Common.{zero, suc, ◌∙◌, ap}
use Rattle.std.specs.Coded.{Coded, code_by, coded×, coded_ℕ, coded_list}
use Rattle.node_words.specs.declared.shapes.names.Name.{Name}
use Rattle.node_words.specs.shapes.Tree.{Tree, Gone, LeafAt, NodeAt}

abbrev pub name_parts : Name → ℕ × (ℕ × ℕ)
name_parts n = (n.level, (n.bucket, n.slot))

abbrev pub name_of_parts : ℕ × (ℕ × ℕ) → Name
name_of_parts p = record { level = p.0; bucket = p.1.0; slot = p.1.1 }

abbrev pub coded_name : Coded Name
coded_name =
    code_by (ℕ × (ℕ × ℕ)) (coded× coded_ℕ (coded× coded_ℕ coded_ℕ)) name_parts name_of_parts
    (λ _. refl)

-- a step of a stack: 0 puts no node, 1 makes a node of this name over the top eight, n + 2 puts the
-- leaf n of this name
abbrev pub CodeStep : Type 0
CodeStep = ℕ × Name

abbrev pub no_name : Name
no_name = record { level = 0; bucket = 0; slot = 0 }

abbrev pub tree_steps : Tree → List CodeStep → List CodeStep
tree_steps Gone more = (zero, no_name) ∷ more
tree_steps (LeafAt n bits) more = (suc (suc bits), n) ∷ more
tree_steps (NodeAt n a b c d e f g h) more =
    tree_steps a (tree_steps b (tree_steps c (tree_steps d (
    tree_steps e (tree_steps f (tree_steps g (tree_steps h ((suc zero, n) ∷ more))))))))

abbrev pub join_trees : Name → List Tree → List Tree
join_trees n (h ∷ g ∷ f ∷ e ∷ d ∷ c ∷ b ∷ a ∷ rest) = NodeAt n a b c d e f g h ∷ rest
join_trees n rest = rest

abbrev pub run_tree : List CodeStep → List Tree → List Tree
run_tree [] stack = stack
run_tree ((zero, n) ∷ more) stack = run_tree more (Gone ∷ stack)
run_tree ((suc zero, n) ∷ more) stack = run_tree more (join_trees n stack)
run_tree ((suc (suc bits), n) ∷ more) stack = run_tree more (LeafAt n bits ∷ stack)

abbrev pub top_tree : List Tree → Tree
top_tree [] = Gone
top_tree (t ∷ stack) = t

pub run_tree-steps : (t : Tree) (more : List CodeStep) (stack : List Tree)
    → run_tree (tree_steps t more) stack ≡ run_tree more (t ∷ stack)
run_tree-steps Gone more stack = refl
run_tree-steps (LeafAt n bits) more stack = refl
run_tree-steps (NodeAt n a b c d e f g h) more stack =
    run_tree-steps a _ _ ∙ run_tree-steps b _ _ ∙ run_tree-steps c _ _
    ∙ run_tree-steps d _ _ ∙ run_tree-steps e _ _ ∙ run_tree-steps f _ _
    ∙ run_tree-steps g _ _ ∙ run_tree-steps h _ _

abbrev pub coded_tree : Coded Tree
coded_tree =
    code_by (List CodeStep) (coded_list (coded× coded_ℕ coded_name)) (λ t. tree_steps t [])
    (λ xs. top_tree (run_tree xs [])) (λ t. ap top_tree (run_tree-steps t [] []))
