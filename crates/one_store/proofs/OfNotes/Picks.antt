-- What may be noted next: lists of trees with a tree, or a row of trees, taken out or put in.
use Rattle.std.proofs.Common.{◌≡◌, ℕ, zero, suc, ◌+◌, ◌≤◌, List, [], ◌∷◌, refl, ap, arith}
use Rattle.node_words.specs.shapes.Tree.{Tree, Gone, LeafAt, NodeAt}
use Rattle.node_words.specs.shapes.Weights.{weigh, weight_of, weight_below}
use Rattle.node_words.proofs.OfShapes.TreeEqual.{same_tree, same_tree-self, same_tree-some}
use Rattle.node_words.proofs.OfShapes.WeightLaws.{weigh-nil, weigh-cons}
use Rattle.node_words.specs.shapes.Shape.{Shape}
use Rattle.node_words.specs.Held.{IsHeld, Wanted}
use Rattle.one_store.proofs.OfNotes.HeldLists.{held_self}
use Rattle.one_store.specs.notes.StoreNotes.{StoreNotes}
use Rattle.one_store.specs.notes.Changes.{HoldsRow, NotesGain, NotesLoss, NotesFreeing, NotesEntry, NotesFull}

drop_if : ℕ → Tree → List Tree → List Tree → List Tree
drop_if zero u less us = u ∷ less
drop_if (suc k) u less us = us

-- without the first t
without : Tree → List Tree → List Tree
without t [] = []
without t (u ∷ us) = drop_if (same_tree t u) u (without t us) us

drop_if-weighs : (f : Tree → ℕ) (k : ℕ) (t u : Tree) (less us : List Tree) → (1 ≤ k → t ≡ u)
    → (k ≡ 0 → weigh f less + f t ≡ weigh f us)
    → weigh f (drop_if k u less us) + f t ≡ weigh f (u ∷ us)
unfolding drop_if
drop_if-weighs f zero t u less us a b =
    omega (arith, b refl, weigh-cons f u less, weigh-cons f u us)
drop_if-weighs f (suc k) t u less us a b = omega (arith, ap f (a (omega arith)), weigh-cons f u us)

without-weighs : (f : Tree → ℕ) (t : Tree) (ts : List Tree) → 1 ≤ weigh (same_tree t) ts
    → weigh f (without t ts) + f t ≡ weigh f ts
unfolding without
without-weighs f t [] h = absurd (omega (arith, weigh-nil (same_tree t)))
without-weighs f t (u ∷ us) h =
    drop_if-weighs f (same_tree t u) t u (without t us) us (same_tree-some t u)
    (λ z. without-weighs f t us (omega (arith, z, weigh-cons (same_tree t) u us)))

with_tree : Tree → List Tree → List Tree
with_tree Gone ts = ts
with_tree (LeafAt n b) ts = LeafAt n b ∷ ts
with_tree (NodeAt n a b c d e f g h) ts = NodeAt n a b c d e f g h ∷ ts

with_tree-weighs : (f : Tree → ℕ) (t : Tree) (ts : List Tree)
    → weigh f (with_tree t ts) ≡ weight_of f t + weigh f ts
unfolding with_tree weight_of
with_tree-weighs f Gone ts = omega arith
with_tree-weighs f (LeafAt n b) ts = weigh-cons f (LeafAt n b) ts
with_tree-weighs f (NodeAt n a b c d e f' g h) ts = weigh-cons f (NodeAt n a b c d e f' g h) ts

with_row : (ℕ → Tree) → ℕ → List Tree → List Tree
with_row row zero ts = ts
with_row row (suc k) ts = with_tree (row k) (with_row row k ts)

with_row-weighs : (f : Tree → ℕ) (row : ℕ → Tree) (k : ℕ) (ts : List Tree)
    → weigh f (with_row row k ts) ≡ weight_below f row k + weigh f ts
unfolding with_row
with_row-weighs f row zero ts = omega arith
with_row-weighs f row (suc k) ts =
    omega (arith, with_tree-weighs f (row k) (with_row row k ts), with_row-weighs f row k ts)

-- what is noted where a share comes, goes, or makes way for a row
pub gained : StoreNotes → Tree → StoreNotes
gained a t = record a { held = t ∷ a.held }

pub gained-notes : (a : StoreNotes) (t : Tree) → NotesGain a t (gained a t)
unfolding gained
gained-notes a t =
    record {
      only = record { made = refl; met = refl };
      gains =
          record { weighs = λ f. weigh-cons f t a.held };
    }

pub lost : StoreNotes → Tree → StoreNotes
lost a t = record a { held = without t a.held }

pub lost-notes : (a : StoreNotes) (t : Tree) → IsHeld a.held t → NotesLoss a t (lost a t)
unfolding lost
lost-notes a t h =
    record {
      only = record { made = refl; met = refl };
      loses =
          record { weighs = λ f. omega (arith, without-weighs f t a.held (held_self a.held t h)) };
    }

pub freed : StoreNotes → Tree → (ℕ → Tree) → StoreNotes
freed a t row = record a { held = with_row row 8 (without t a.held) }

pub freed-notes : (a : StoreNotes) (t : Tree) (row : ℕ → Tree) → IsHeld a.held t
    → NotesFreeing a t row (freed a t row)
unfolding freed
freed-notes a t row h =
    record {
      only = record { made = refl; met = refl };
      parts =
          record {
            weighs = λ f. omega (
              arith,
              without-weighs f t a.held (held_self a.held t h),
              with_row-weighs f row 8
                  (without t a.held),
            );
          };
    }

-- without the trees of a row
without_some : Tree → List Tree → List Tree
without_some Gone ts = ts
without_some (LeafAt n b) ts = without (LeafAt n b) ts
without_some (NodeAt n a b c d e f g h) ts = without (NodeAt n a b c d e f g h) ts

without_some-weighs : (f : Tree → ℕ) (t : Tree) (ts : List Tree)
    → weight_of (same_tree t) t ≤ weigh (same_tree t) ts
    → weigh f (without_some t ts) + weight_of f t ≡ weigh f ts
unfolding without_some weight_of
without_some-weighs f Gone ts h = omega arith
without_some-weighs f (LeafAt n b) ts h =
    without-weighs f (LeafAt n b) ts (omega (arith, h, same_tree-self (LeafAt n b)))
without_some-weighs f (NodeAt n a b c d e f' g h) ts w =
    without-weighs f (NodeAt n a b c d e f' g h) ts
    (omega (arith, w, same_tree-self (NodeAt n a b c d e f' g h)))

without_row : (ℕ → Tree) → ℕ → List Tree → List Tree
without_row row zero ts = ts
without_row row (suc k) ts = without_some (row k) (without_row row k ts)

without_row-weighs : (f : Tree → ℕ) (row : ℕ → Tree) (k : ℕ) (ts : List Tree)
    → ((g : Tree → ℕ) → weight_below g row k ≤ weigh g ts)
    → weigh f (without_row row k ts) + weight_below f row k ≡ weigh f ts
unfolding without_row
without_row-weighs f row zero ts h = omega arith
without_row-weighs f row (suc k) ts h =
    let less : (g : Tree → ℕ) → weight_below g row k ≤ weigh g ts = λ g. omega (arith, h g) in
    let g = same_tree (row k) in
    omega (
      arith,
      without_row-weighs f row k ts less,
      without_some-weighs f (row k)
          (without_row row k ts) (omega (arith, h g, without_row-weighs g row k ts less)),
    )

pub entered : StoreNotes → (ℕ → Tree) → Tree → Shape → StoreNotes
entered a row t shape = record a { held = t ∷ without_row row 8 a.held; made = shape ∷ a.made }

pub entered-notes : (a : StoreNotes) (row : ℕ → Tree) (t : Tree) (shape : Shape) → HoldsRow a.held row
    → NotesEntry a row t shape (entered a row t shape)
unfolding entered
entered-notes a row t shape h =
    record {
      made = refl;
      met = refl;
      closes =
          record {
            weighs = λ f. omega (
              arith,
              weigh-cons f t
                  (without_row row 8 a.held),
              without_row-weighs f row 8 a.held h.weighs,
            );
          };
    }

pub full : StoreNotes → Wanted → StoreNotes
full a w = record a { met = w ∷ a.met }

pub full-notes : (a : StoreNotes) (w : Wanted) → NotesFull a w (full a w)
unfolding full
full-notes a w = record { held = refl; made = refl; met = refl }
