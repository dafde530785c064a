-- Roots that are taken out of their places, one after the other.
use Rattle.std.proofs.Common.{◌≡◌, ℕ, zero, suc, ◌+◌, ◌<◌, ◌≤◌, ◌^◌, List, [], ◌∷◌, ◌++◌, length, length-append, get_or, Some, None, Option, refl, sym, ap, subst, ◌∙◌, inl, inr, ◌⊎◌, arith}
use Rattle.std.specs.List.{Contains}
use Rattle.std.proofs.lemmas.Bool.{cases_eq}
use Rattle.std.proofs.lemmas.List.Elements.{Contains-get_or, Contains-append_left, Contains-push, Contains-push_cases}
use Rattle.std.proofs.lemmas.List.Quantifiers.{all_pairs_push}
use Rattle.history_model.specs.declared.histories.Mark.{Mark}
use Rattle.history_model.specs.Stores.{stored_in, store_has}
use Rattle.node_words.specs.declared.shapes.names.Name.{Name}
use Rattle.node_words.specs.shapes.Shape.{ShowsCells}
use Rattle.node_words.specs.shapes.Tree.{Tree, shape_of}
use Rattle.node_words.specs.shapes.Weights.{weight_of, number_of_trees}
use Rattle.node_words.proofs.OfShapes.WeightLaws.{weight_of-one}
use Rattle.core_laws.specs.contents.Aligned.{top, world_block}
use Rattle.core_laws.specs.contents.Versions.{HoldsVersion}
use Rattle.core_laws.specs.States.{tree_at}
use Rattle.one_store.specs.entries.Words.{Written, key_in}
use Rattle.one_store.specs.Known.{Known, stored_root, root_tree}
use Rattle.one_store.specs.Steps.{GivesRoot}
use Rattle.store_run.specs.declared.stored_versions.Versions.{Versions}
use Rattle.store_run.specs.Kept.{plan_of, log_of, moment_of, mark_in, AreStoredVersions, HoldsNothing, HoldsTree}
use Rattle.store_run.specs.Marked.{Rooted, HoldsVersions}
use Rattle.store_run.specs.Taken.{rooted_weight, AreTakenRoots}
use Rattle.store_run.proofs.Changing.{marked_gone}
use Rattle.store_run.proofs.Finding.{kept_at, marked_at}
use Rattle.store_run.proofs.Holding.{some_weighs, holds_root, holds_shows}

-- no more trees than roots
weight_few : (s : Known) (roots : List Rooted) → rooted_weight (λ _. 1) s roots ≤ length roots
weight_few s [] = omega arith
weight_few s (x ∷ roots) =
    let rest = weight_few s roots in
    let one = weight_of-one (root_tree s x.1) in
    omega (arith, rest, one)

weight_added : (f : Tree → ℕ) (s : Known) (roots : List Rooted) (x : Rooted)
    → rooted_weight f s (roots ++ x ∷ []) ≡ rooted_weight f s roots + weight_of f (root_tree s x.1)
weight_added f s [] x = omega arith
weight_added f s (y ∷ roots) x = let rest = weight_added f s roots x in omega (arith, rest)

pub taken_few : (v : Versions) (n : ℕ) (s : Known) (roots : List Rooted) → AreTakenRoots v n s roots
    → n ≤ 65536 → number_of_trees s.told.held ≤ 69631
taken_few v n s roots are few =
    omega (arith, are.weighs (λ _. 1), weight_few v.store roots, are.few, few)

pub weight_in : (f : Tree → ℕ) (s : Known) (roots : List Rooted) (x : Rooted) → Contains roots x
    → weight_of f (root_tree s x.1) ≤ rooted_weight f s roots
weight_in f s [] x (i, lt, is) = absurd (omega (arith, lt))
weight_in f s (y ∷ roots) x (zero, lt, is) =
    subst (λ (z : Rooted). weight_of f (root_tree s z.1) ≤ rooted_weight f s (y ∷ roots)) is
    (omega arith)
weight_in f s (y ∷ roots) x (suc i, lt, is) =
    let rest = weight_in f s roots x (i, omega (arith, lt), is) in omega (arith, rest)

-- the tree of a root, where the words are the same
pub tree_of_words : (s t : Known) (root : Option Name) → t.words ≡ s.words
    → root_tree t root ≡ root_tree s root
tree_of_words s t root words =
    ap (λ (x : Written). tree_at (key_in x) (top x.plan.side) root) words

-- ---- one version after the other

pub none_in : (x : Rooted) → Contains [] x → ⊥
none_in x has = omega (arith, has.1)

pub none_taken : (v : Versions) → HoldsNothing v.store → AreTakenRoots v 0 v.store []
none_taken v free = record {
  words = refl;
  only = record { made = refl; met = refl };
  places = λ p le. refl;
  weighs = λ f. free.weighs f;
  few = omega arith;
  rising = λ i j d lt within. absurd (omega (arith, within));
  below = λ x has. absurd (none_in x has);
  listed = λ x has. absurd (none_in x has);
  roots_are = λ x has. absurd (none_in x has);
  all = λ p lt kept. absurd (omega (arith, lt));
  gone = λ x has. absurd (none_in x has);
  others = λ p gone. refl;
}

module _ (v : Versions) (n : ℕ) (s : Known) (roots : List Rooted)
    (are : AreTakenRoots v n s roots) where
  pub one_marked : (HoldsVersion (log_of v) n → ⊥) → AreTakenRoots v (n + 1) s roots
  one_marked gone = record {
    words = are.words;
    only = are.only;
    places = λ p le. are.places p (omega (arith, le));
    weighs = are.weighs;
    few = let few = are.few in omega (arith, few);
    rising = are.rising;
    below = λ x has. (let lt = are.below x has in omega (arith, lt));
    listed = are.listed;
    roots_are = are.roots_are;
    all = λ p lt kept. go p lt kept (cases_eq p n);
    gone = are.gone;
    others = are.others;
  }
    where
      go : (p : ℕ) → p < n + 1 → HoldsVersion (log_of v) p → (p ≡ n) ⊎ (p ≡ n → ⊥)
          → Contains roots (p, stored_root v.store.roots p)
      go p lt kept (inl same) = absurd (gone (subst (λ (q : ℕ). HoldsVersion (log_of v) q) same kept))
      go p lt kept (inr other) = are.all p (omega (arith, lt, other)) kept

  module _ (t : Known) (root : Option Name) (kept : HoldsVersion (log_of v) n)
      (is : root ≡ stored_root s.roots n) (gives : GivesRoot s n t) where
    of_old : root ≡ stored_root v.store.roots n
    of_old = is ∙ are.places n (omega arith)

    abbrev more : List Rooted
    more = roots ++ (n, root) ∷ []

    -- of the elements with one more
    each : (P : Rooted → Type 0) → ((x : Rooted) → Contains roots x → P x) → P (n, root)
        → (x : Rooted) → Contains more x → P x
    each P old new x has = go (Contains-push_cases roots (n, root) x has)
      where
        go : Contains roots x ⊎ ((n, root) ≡ x) → P x
        go (inl there) = old x there
        go (inr same) = subst P same new

    here : Contains more (n, stored_root v.store.roots n)
    here = subst (λ (r : Option Name). Contains more (n, r)) of_old (Contains-push roots (n, root))

    all_more : (p : ℕ) → p < n + 1 → HoldsVersion (log_of v) p → (p ≡ n) ⊎ (p ≡ n → ⊥)
        → Contains more (p, stored_root v.store.roots p)
    all_more p lt kept_p (inl same) =
        subst (λ (q : ℕ). Contains more (q, stored_root v.store.roots q)) (sym same) here
    all_more p lt kept_p (inr other) =
        Contains-append_left roots ((n, root) ∷ []) (p, stored_root v.store.roots p)
        (are.all p (omega (arith, lt, other)) kept_p)

    tree_is : root_tree s (stored_root s.roots n) ≡ root_tree v.store root
    tree_is = tree_of_words v.store s (stored_root s.roots n) are.words
        ∙ ap (root_tree v.store) (sym is)

    pub one_taken : AreTakenRoots v (n + 1) t (roots ++ (n, root) ∷ [])
    one_taken = record {
      words = gives.words ∙ are.words;
      only = record {
        made = gives.only.made ∙ are.only.made;
        met = gives.only.met ∙ are.only.met;
      };
      places = λ p le.
          gives.elsewhere p (λ same. absurd (omega (arith, le, same)))
          ∙ are.places p (omega (arith, le));
      weighs = λ f. (
          let tree = ap (λ (x : Tree). weight_of f x) tree_is in
          omega (
            arith,
            gives.gains.weighs f,
            are.weighs f,
            weight_added f v.store roots
                (n, root),
            tree,
          ));
      few = let few = are.few in let long = length-append roots ((n, root) ∷ []) in omega
          (arith, few, long);
      rising = all_pairs_push (λ a b. a.0 < b.0) roots (n, root) are.rising
          (λ k d lt. are.below (get_or roots k d) (Contains-get_or roots k d lt));
      below = each (λ x. x.0 < n + 1) (λ x has. (let lt = are.below x has in omega (arith, lt)))
          (omega arith);
      listed = each (λ x. HoldsVersion (log_of v) x.0) are.listed kept;
      roots_are = each (λ x. x.1 ≡ stored_root v.store.roots x.0) are.roots_are of_old;
      all = λ p lt kept_p. all_more p lt kept_p (cases_eq p n);
      gone = each (λ x. stored_root t.roots x.0 ≡ None)
          (λ x has. (let lt = are.below x has in
          gives.elsewhere x.0 (λ same. absurd (omega (arith, lt, same))) ∙ are.gone x has))
          gives.here;
      others = λ p gone.
          gives.elsewhere p
          (λ same. absurd (gone (subst (λ (q : ℕ). HoldsVersion (log_of v) q) (sym same) kept)))
          ∙ are.others p gone;
    }

-- ---- all of them

module _ (v : Versions) (s : Known) (roots : List Rooted) (of_v : AreStoredVersions v)
    (are : AreTakenRoots v (moment_of v + 1) s roots) where
  held_tree : (x : Rooted) → Contains roots x → HoldsTree s x.1
  held_tree x has = record {
    each = λ n e. record {
      weighs = λ f. (
          let in_all = weight_in f v.store roots x has in
          let tree = ap (λ (t : Tree). weight_of f t) (tree_of_words v.store s x.1 are.words) in
          let same = ap (λ (r : Option Name). weight_of f (root_tree s r)) e in
          omega (arith, are.weighs f, in_all, tree, same, some_weighs s n f));
    };
  }

  of_top : (x : Rooted) → Contains roots x → (n : Name) → x.1 ≡ Some n
      → n.level ≡ top (plan_of v).side
  of_top x has n e = of_v.sound.level x.0 n (sym (are.roots_are x has) ∙ e)

  shown : (x : Rooted) → Contains roots x
      → ShowsCells (world_block (plan_of v).side) (shape_of (root_tree s x.1))
      (store_has v.models.models (log_of v) x.0)
  shown x has =
      subst (λ (l : ℕ). ShowsCells (world_block (plan_of v).side) (shape_of (root_tree s x.1))
      (stored_in (2 ^ l) v.models.models v.records.items x.0)) (sym of_v.side)
      (subst (λ (t : Tree). ShowsCells (world_block (plan_of v).side) (shape_of t)
      (stored_in (2 ^ (plan_of v).side) v.models.models v.records.items x.0))
      (ap (root_tree v.store) (sym (are.roots_are x has))
      ∙ sym (tree_of_words v.store s x.1 are.words))
      (of_v.sound.shown x.0 (are.listed x has)))

  pub all_taken : HoldsVersions (plan_of v).side v.models.models (log_of v) s.told.held roots
  all_taken = record {
    versions = record {
      rising = are.rising;
      listed = are.listed;
      all = λ p kept. (
        stored_root v.store.roots p,
        are.all p (let there = kept.there in omega (arith, there)) kept,
      );
    };
    each = λ x has. record {
      holds = holds_root s (plan_of v).side x.1 (held_tree x has) (of_top x has);
      shows = holds_shows s (plan_of v).side x.1 (store_has v.models.models (log_of v) x.0)
          (held_tree x has) (of_top x has) (shown x has);
    };
  }

-- ---- one version, by its mark

module _ (v : Versions) (n : ℕ) (s : Known) (roots : List Rooted) (are : AreTakenRoots v n s roots)
    (of_v : AreStoredVersions v) (le : n ≤ moment_of v) where
  pub version_passed : (mark : Mark) → mark_in v.marks.items n ≡ Some mark
      → AreTakenRoots v (n + 1) s roots
  version_passed mark some =
      one_marked v n s roots are (marked_gone v n (marked_at v n mark of_v le some).1)

  pub version_taken : (t : Known) (root : Option Name) → mark_in v.marks.items n ≡ None
      → root ≡ stored_root s.roots n → GivesRoot s n t
      → AreTakenRoots v (n + 1) t (roots ++ (n, root) ∷ [])
  version_taken t root none is gives =
      one_taken v n s roots are t root (kept_at v n of_v le none) is gives
