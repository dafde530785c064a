-- Whether two trees are one, as a weight: who has a list of trees can tell by it whether one stands
-- in the list.
use Rattle.std.proofs.Common.{◌≡◌, ℕ, ◌≤◌, refl, ◌∙◌, ap, arith, inl, inr}
use Rattle.std.proofs.lemmas.Bool.{cases_eq}
use Rattle.node_words.specs.declared.shapes.names.Name.{Name}
use Rattle.node_words.specs.shapes.Tree.{Tree, Tree-discrete}

made_name : ℕ → ℕ → ℕ → Name
made_name l b s = record { level = l; bucket = b; slot = s }

pub same_name : (m n : Name) → m.level ≡ n.level → m.bucket ≡ n.bucket → m.slot ≡ n.slot → m ≡ n
unfolding made_name
same_name m n l b s =
    ap (λ (x : ℕ). made_name x m.bucket m.slot) l ∙ ap (λ (x : ℕ). made_name n.level x m.slot) b
    ∙ ap (λ (x : ℕ). made_name n.level n.bucket x) s

pub Name-discrete : (m n : Name) → Dec (m ≡ n)
Name-discrete m n = elim (cases_eq m.level n.level) [
  | inr l ↦ no (λ e. l (ap (λ (x : Name). x.level) e))
  | inl l ↦ elim (cases_eq m.bucket n.bucket) [
    | inr b ↦ no (λ e. b (ap (λ (x : Name). x.bucket) e))
    | inl b ↦ elim (cases_eq m.slot n.slot) [
      | inr s ↦ no (λ e. s (ap (λ (x : Name). x.slot) e))
      | inl s ↦ yes (same_name m n l b s)
    ]
  ]
]

number_discrete : (m n : ℕ) → Dec (m ≡ n)
number_discrete m n = elim (cases_eq m n) [ inl e ↦ yes e | inr ne ↦ no ne ]

one_if : {t u : Tree} → Dec (t ≡ u) → ℕ
one_if (yes e) = 1
one_if (no ne) = 0

-- 1 at the tree itself, and 0 at every other
pub same_tree : Tree → Tree → ℕ
same_tree t u = one_if (Tree-discrete Name-discrete number_discrete t u)

self_one : (t : Tree) (d : Dec (t ≡ t)) → one_if d ≡ 1
unfolding one_if
self_one t (yes e) = refl
self_one t (no ne) = absurd (ne refl)

pub same_tree-self : (t : Tree) → same_tree t t ≡ 1
unfolding same_tree
same_tree-self t = self_one t (Tree-discrete Name-discrete number_discrete t t)

one_same : (t u : Tree) (d : Dec (t ≡ u)) → 1 ≤ one_if d → t ≡ u
unfolding one_if
one_same t u (yes e) h = e
one_same t u (no ne) h = absurd (omega arith)

pub same_tree-some : (t u : Tree) → 1 ≤ same_tree t u → t ≡ u
unfolding same_tree
same_tree-some t u h = one_same t u (Tree-discrete Name-discrete number_discrete t u) h
