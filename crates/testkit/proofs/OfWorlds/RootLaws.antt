-- Roots that a test holds.
use Rattle.std.proofs.Common.{Bool, ◌≡◌, ℕ, ◌-◌, ◌≤◌, Some, None, Option, List, [], ◌∷◌, refl, sym, subst, ◌∙◌, ap, arith}
use Rattle.std.specs.Prelude.{IfSome, Ok}
use Rattle.vw_cell.specs.declared.cells.Cell.{Cell}
use Rattle.node_words.specs.declared.shapes.names.Name.{Name}
use Rattle.node_words.specs.shapes.Tree.{Tree, Gone, root_of}
use Rattle.node_words.specs.shapes.Weights.{weigh, weight_of, number_of_trees}
use Rattle.node_words.proofs.OfShapes.TreeLaws.{level_of}
use Rattle.node_words.proofs.OfShapes.WeightLaws.{weight_of-there, weight_of-gone, weight_below-one, weigh-nil, weigh-cons}
use Rattle.node_words.specs.Held.{StoreState, HoldsName}
use Rattle.node_words.specs.Gathering.{MayHold, Loses}
use Rattle.node_words.specs.descent.Roots.{HoldsRoot}
use Rattle.edit_walk.specs.Edits.{MayEdit, Edits}
use Rattle.edit_walk.specs.cells.Worlds.{Rebuilt}
use Rattle.edit_walk.proofs.OfCells.WorldLaws.{root_shown}
use Rattle.one_store.specs.Known.{Known, stored_root, root_tree}
use Rattle.one_store.specs.Steps.{GivesRoot}
use Rattle.one_store.proofs.StateLaws.{row_root}
use Rattle.testkit.specs.worlds.Roots.{IsRootOf, HoldsOnly, HoldsTwo}

one_at_most : (t : Tree) → weight_of (λ _. 1) t ≤ 1
one_at_most t = let h = weight_below-one (λ k. t) 1 in omega arith

pub holds_nothing : (level : ℕ) → HoldsOnly [] level None
holds_nothing level =
    record {
      tree = Gone;
      is_root = record { root = refl; at = λ n e. cc };
      weighs = λ f. omega
          (arith, weigh-nil f, weight_of-gone f Gone refl);
    }

root_held : (held : List Tree) (side : ℕ) (name : Option Name) (t : Tree)
    → IsRootOf (side - 2) name t → ((f : Tree → ℕ) → weight_of f t ≤ weigh f held)
    → HoldsRoot held side name
root_held held side None t r w = tt
root_held held side (Some n) t r w = (
  record {
    tree = t;
    is_held =
        record {
          weighs = λ f. omega
              (arith, w f, weight_of-there f t n r.root);
        };
    root = r.root;
  },
  r.at n refl,
)

pub only_root : (held : List Tree) (side : ℕ) (name : Option Name) → HoldsOnly held (side - 2) name
    → HoldsRoot held side name
only_root held side name h =
    root_held held side name h.tree h.is_root (λ f. omega (arith, h.weighs f))

pub only_number : (held : List Tree) (level : ℕ) (name : Option Name) → HoldsOnly held level name
    → number_of_trees held ≤ 1
only_number held level name h = omega (arith, h.weighs (λ _. 1), one_at_most h.tree)

pub two_number : (held : List Tree) (level : ℕ) (old new : Option Name)
    → HoldsTwo held level old new → number_of_trees held ≤ 2
two_number held level old new h =
    omega (arith, h.weighs (λ _. 1), one_at_most h.before, one_at_most h.after)

pub two_old : (held : List Tree) (side : ℕ) (old new : Option Name)
    → HoldsTwo held (side - 2) old new → HoldsRoot held side old
two_old held side old new h =
    root_held held side old h.before h.is_old (λ f. omega (arith, h.weighs f))

pub two_new : (held : List Tree) (side : ℕ) (old new : Option Name)
    → HoldsTwo held (side - 2) old new → HoldsRoot held side new
two_new held side old new h =
    root_held held side new h.after h.is_new (λ f. omega (arith, h.weighs f))

-- both are held after a call that changes nothing
pub two_still : (a b : StoreState) (level : ℕ) (old new : Option Name) → b ≡ a
    → HoldsTwo a.held level old new → HoldsTwo b.held level old new
two_still a b level old new e h = subst (λ (s : StoreState). HoldsTwo s.held level old new) (sym e) h

-- a version came
pub rebuilt_two : (old new : StoreState) (side : ℕ) (root name : Option Name) (world : Cell → Bool)
    → HoldsOnly old.held (side - 2) root → Rebuilt (side - 2) world name old new
    → HoldsTwo new.held (side - 2) root name
rebuilt_two old new side root name world h b =
    record {
      before = h.tree;
      after = b.tree;
      is_old = h.is_root;
      is_new = record {
        root = b.root;
        at = λ n e. level_of (side - 2) b.tree n b.levels
            (b.root ∙ e);
      };
      weighs = λ f. omega (arith, b.weighs f, h.weighs f);
    }

-- the same is held
pub same_only : (old new : List Tree) (level : ℕ) (root : Option Name)
    → ((f : Tree → ℕ) → weigh f new ≡ weigh f old) → HoldsOnly old level root
    → HoldsOnly new level root
same_only old new level root e h =
    record { tree = h.tree; is_root = h.is_root; weighs = λ f. omega (arith, e f, h.weighs f) }

-- what an edit needs, and what it leaves
pub only_edit : (seen : StoreState) (side : ℕ) (root : Option Name) → side ≡ seen.plan.side
    → HoldsOnly seen.held (side - 2) root → MayEdit 3910 seen side root
only_edit seen side root e h = record {
  side_is = e;
  root_is = only_root seen.held side root h;
  room = omega (arith, only_number seen.held (side - 2) root h);
}

pub edited_two : (old new : StoreState) (side : ℕ) (root name : Option Name)
    (edit : (Cell → Bool) → Cell → Bool) → HoldsOnly old.held (side - 2) root
    → Edits old side root edit (Ok name) new → HoldsTwo new.held (side - 2) root name
edited_two old new side root name edit h edits =
    let (before, w) = root_shown old.held side root (only_root old.held side root h) in
    rebuilt_two old new side root name (edit before) h (edits before w).came

-- one of two roots may go back, and then the other is held alone
pub old_may : (held : List Tree) (level : ℕ) (old new : Option Name)
    → (h : HoldsTwo held level old new) → MayHold held h.before
old_may held level old new h = record { weighs = λ f. omega (arith, h.weighs f) }

pub old_gone : (held after : List Tree) (level : ℕ) (old new : Option Name)
    → (h : HoldsTwo held level old new) → Loses held h.before after → HoldsOnly after level new
old_gone held after level old new h l =
    record {
      tree = h.after;
      is_root = h.is_new;
      weighs = λ f. omega
          (arith, h.weighs f, l.weighs f);
    }

pub only_may : (held : List Tree) (level : ℕ) (root : Option Name) → (h : HoldsOnly held level root)
    → MayHold held h.tree
only_may held level root h = record { weighs = λ f. omega (arith, h.weighs f) }

pub only_gone : (held after : List Tree) (level : ℕ) (root : Option Name)
    → (h : HoldsOnly held level root) → Loses held h.tree after → HoldsOnly after level None
only_gone held after level root h l =
    record {
      tree = Gone;
      is_root = record { root = refl; at = λ n e. cc };
      weighs = λ f. omega
          (arith, h.weighs f, l.weighs f, weight_of-gone f Gone refl);
    }

-- nothing is held
nothing_weighs : (held : List Tree) (f : Tree → ℕ) → number_of_trees held ≡ 0 → weigh f held ≡ 0
nothing_weighs [] f e = weigh-nil f
nothing_weighs (t ∷ ts) f e = absurd (omega (arith, e, weigh-cons (λ _. 1) t ts))

level_is : (level : ℕ) (root : Option Name) → IfSome root (λ n. n.level ≡ level) → (n : Name)
    → root ≡ Some n → n.level ≡ level
level_is level None l n e = cc
level_is level (Some m) l n e = let same : m ≡ n = cc in ap (λ (p : Name). p.level) (sym same) ∙ l

-- a root that was taken from its place is held alone, where nothing was held before
pub taken_only : (old new : Known) (place side : ℕ) (root : Option Name)
    → number_of_trees old.told.held ≡ 0 → GivesRoot old place new
    → root ≡ stored_root old.roots place → IfSome root (λ n. n.level ≡ old.words.plan.side - 2)
    → side ≡ old.words.plan.side → HoldsOnly new.told.held (side - 2) root
taken_only old new place side root z g e l q = record {
  tree = root_tree old root;
  is_root = record {
    root = row_root _ _ root;
    at = λ n h. level_is _ root l n h
        ∙ ap (λ (s : ℕ). s - 2) (sym q);
  };
  weighs = λ f. omega (
    arith,
    ap (λ (o : Option Name). weight_of f
        (root_tree old o)) e,
    g.gains.weighs f,
    nothing_weighs old.told.held f z,
  );
}

-- a root that is held alone is held
pub only_holds : (held : List Tree) (level : ℕ) (root : Option Name) (n : Name)
    → HoldsOnly held level root → root ≡ Some n → HoldsName held n
only_holds held level root n h e =
    let r : root_of h.tree ≡ Some n = h.is_root.root ∙ e in
    record {
      tree = h.tree;
      is_held = record
          { weighs = λ f. omega (arith, h.weighs f, weight_of-there f h.tree n r) };
      root = r;
    }
