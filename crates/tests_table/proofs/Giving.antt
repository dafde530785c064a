-- What is held after a share of a leaf came and went.
use Rattle.std.proofs.Common.{◌≡◌, ℕ, zero, suc, ◌+◌, ◌<◌, ◌≤◌, Some, None, List, [], ◌∷◌, ◌++◌, take, All, length, get_or, refl, sym, ap, ◌∙◌, subst, arith}
use Rattle.node_words.specs.declared.shapes.names.Name.{Name}
use Rattle.node_words.specs.shapes.Tree.{Tree, LeafAt, root_of, child_of}
use Rattle.node_words.specs.shapes.Weights.{weigh, weight_below, number_of_trees}
use Rattle.node_words.proofs.OfShapes.WeightLaws.{weight_of-gone, weigh-cons, weigh-nil}
use Rattle.node_words.specs.Held.{IsHeld, Gains, HoldsName, SameHeld}
use Rattle.node_words.specs.Plans.{Layout}
use Rattle.node_words.specs.declared.shares.Full.{Full}
use Rattle.node_words.proofs.HeldLaws.{held_reached, gains_held, came_and_went}
use Rattle.node_table.specs.Names.{IsName}
use Rattle.node_table.specs.WordIds.{Turn, IsWordId}
use Rattle.table_rule.specs.ViewFacts.{ViewFacts}
use Rattle.table_rule.specs.LogViews.{LogView}
use Rattle.table_rule.specs.Views.{SeatView}
use Rattle.node_table.specs.declared.lowering.Lowering.{Lowering}
use Rattle.node_table.specs.declared.lowering.Lowering.TheVariants.{Left, Freed}
use Rattle.node_table.specs.Lowers.{EndsLowered}
use Rattle.node_table.specs.TableStates.{TableState, PassState, BelongsTo}
use Rattle.node_table.proofs.ReadLaws.{has_no_child}
use Rattle.std.specs.List.{slice_get}
use Rattle.node_table.specs.Begins.{AreNewPasses, terms_of}
use Rattle.node_table.specs.Closing.{IsSpare}
use Rattle.intern.specs.Leaves.{InternsLeaf, LeafRefused}

-- the bucket of a held name is one of the table's
pub held_bucket : (t : TableState) (s : PassState) (n : Name) → BelongsTo t s → ViewFacts s.view
    → HoldsName s.view.held n → IsWordId t.plan (Turn n.level n.bucket)
held_bucket t s n of tells h =
    let is = subst (λ (p : Layout). IsName p n) of.plan
    (tells.names h.tree n (held_reached s.view.held h.tree h.is_held) h.root) in
    (is.level_in, is.bucket_in)

no_row : (f : Tree → ℕ) (t : Tree) (k : ℕ) → ((j : ℕ) → root_of (child_of t j) ≡ None)
    → weight_below f (λ j. child_of t j) k ≡ 0
no_row f t zero none = refl
no_row f t (suc k) none =
    omega (arith, no_row f t k none, weight_of-gone f (child_of t k) (none k))

-- a share of a leaf went, whether or not it was the last one
pub leaf_given : (u v w : SeatView) (t : Tree) (n : Name) (end : Lowering) → ViewFacts u
    → u.held ≡ v.held → IsHeld v.held t → root_of t ≡ Some n → n.level ≡ 0
    → EndsLowered v t w end → Gains w.held t v.held
leaf_given u v w t n Left tells same held root level e = record {
  weighs = λ f. e.weighs f ∙ ap (λ ts. f t + weigh f ts) (sym (ap (λ (x : SeatView). x.held) e.is));
}
leaf_given u v w t n (Freed children) tells same held root level e = record {
  weighs = λ f. (
      let here = subst (λ ts. IsHeld ts t) (sym same) held in
      let none = has_no_child u tells t n (held_reached u.held t here) root level in
      let row = no_row f t 8 none in
      let weighs = e.0.weighs f in
      let is = ap (λ (x : SeatView). weigh f x.held) e.0.is in omega arith);
}

-- what was taken and given is as it was
pub taken_and_given : (v m w : SeatView) (n : Name) (bits : ℕ) → InternsLeaf v bits n m
    → ((t : Tree) → IsHeld m.held t → root_of t ≡ Some n → Gains w.held t m.held)
    → SameHeld v.held w.held
taken_and_given v m w n bits came given =
    came_and_went v.held m.held w.held (LeafAt n bits) came.gains
    (given (LeafAt n bits) (gains_held v.held (LeafAt n bits) m.held came.gains) refl)

pub came_held : (v m : SeatView) (n : Name) (bits : ℕ) → InternsLeaf v bits n m → HoldsName m.held n
came_held v m n bits came = record {
  tree = LeafAt n bits;
  is_held = gains_held v.held (LeafAt n bits) m.held came.gains;
  root = refl;
}

pub came_number : (v m : SeatView) (n : Name) (bits k : ℕ) → InternsLeaf v bits n m
    → number_of_trees v.held ≤ k → number_of_trees m.held ≤ k + 1
came_number v m n bits k came le = let e = came.gains.weighs (λ _. 1) in omega arith

pub still_held : (a b : List Tree) (n : Name) → SameHeld a b → HoldsName a n → HoldsName b n
still_held a b n same h = record {
  tree = h.tree;
  is_held = record {
    weighs = λ f.
        (let e = same.weighs f in let w = h.is_held.weighs f in omega arith);
  };
  root = h.root;
}

pub still_few : (a b : List Tree) (k : ℕ) → SameHeld a b → number_of_trees a ≤ k
    → number_of_trees b ≤ k
still_few a b k same le = let e = same.weighs (λ _. 1) in omega arith

-- what is given after nothing else changed
pub given_later : (a b c : List Tree) (t : Tree) → SameHeld a b → Gains c t b → Gains c t a
given_later a b c t same g =
    record { weighs = λ f. (let e = same.weighs f in let w = g.weighs f in omega arith) }

pub nothing_held : (held : List Tree) → SameHeld [] held → held ≡ []
nothing_held [] same = refl
nothing_held (t ∷ held) same =
    absurd (let e = same.weighs (λ _. 1) in let c = weigh-cons (λ _. 1) t held in
    let n = weigh-nil (λ _. 1) in omega arith)

pub refused_same : (v w : SeatView) (bits : ℕ)
    (full : Full) → LeafRefused v bits full w
    → SameHeld v.held w.held
refused_same v w bits full r = record {
  weighs = λ f. ap (λ ts. weigh f ts) r.meets.held;
}

-- a share that came and went, while nothing else changed in between
pub kept_and_given : (v m k w : SeatView) (n : Name) (bits : ℕ) → InternsLeaf v bits n m
    → SameHeld m.held k.held
    → ((t : Tree) → IsHeld k.held t → root_of t ≡ Some n → Gains w.held t k.held)
    → SameHeld v.held w.held
kept_and_given v m k w n bits came same given =
    let t : Tree = LeafAt n bits in
    let h = still_held m.held k.held n same (came_held v m n bits came) in
    let g = given t (record {
      weighs = λ f. (let e = same.weighs f in
          let c = came.gains.weighs f in omega arith);
    }) refl in
    record {
      weighs = λ f. (let e = same.weighs f in let c = came.gains.weighs f in
          let w = g.weighs f in omega arith);
    }

pub same_itself : (a : List Tree) → SameHeld a a
same_itself a = record { weighs = λ f. refl }

pub gone_again : (u v w : SeatView) (t : Tree) (n : Name) (end : Lowering) → ViewFacts u
    → v.held ≡ u.held → IsHeld u.held t → root_of t ≡ Some n → n.level ≡ 0
    → EndsLowered v t w end → Gains w.held t u.held
gone_again u v w t n end tells same held root level e =
    subst (λ ts. Gains w.held t ts) same
    (leaf_given u v w t n end tells (sym same)
    (subst (λ ts. IsHeld ts t) (sym same) held) root level
    e)

-- a loan left the shares that its last call left
pub as_left : (left made : List Tree) (t : Tree) (held : List Tree) → left ≡ made
    → Gains made t held → Gains left t held
as_left left made t held is gains = subst (λ (x : List Tree). Gains x t held) (sym is) gains

get_there : (passes : List PassState) (k : ℕ) (d : PassState) → k < length passes
    → slice_get passes k ≡ Some (get_or passes k d)
get_there [] k d lt = absurd (omega arith)
get_there (p ∷ passes) zero d lt = refl
get_there (p ∷ passes) (suc k) d lt = get_there passes k d (omega arith)

-- new passes are spare
pub new_spare : (t : TableState) (passes : List PassState) → AreNewPasses t.id (terms_of t) passes
    → All (IsSpare t) passes
new_spare t passes all = λ k d lt.
    (let n = all.each k (get_or passes k d) (get_there passes k d lt) in
    record {
      of = record { table = n.table_is; plan = n.plan; models = n.models };
      turn = n.turn;
      log_turn = ap (λ (l : LogView). l.turn) n.log;
      held = n.held;
    })

pub none_held : (held : List Tree) → held ≡ [] → number_of_trees held ≡ 0
none_held held none =
    (let e = ap (λ (ts : List Tree). number_of_trees ts) none in let n = weigh-nil (λ _. 1) in
    omega arith)

pub few_held : (held : List Tree) → held ≡ [] → number_of_trees held ≤ 3000
few_held held none = let e = none_held held none in omega arith

-- what came back is spare
pub back_spare : (t u : TableState) (passes back : List PassState) → All (IsSpare t) passes
    → u ≡ t → back ≡ passes → All (IsSpare u) back
back_spare t u passes back all table same =
    subst (λ (l : List PassState). All (IsSpare u) l) (sym same)
    (subst (λ (x : TableState). All (IsSpare x) passes) (sym table) all)

-- what is written back into a list of as many passes
pub all_written : (P : PassState → Type 0) (n : ℕ) (xs ys : List PassState) → n ≤ length xs
    → All P xs → All P (take n (xs ++ ys))
all_written P zero xs ys le all k d lt = absurd (omega arith)
all_written P (suc n) [] ys le all k d lt = absurd (omega arith)
all_written P (suc n) (x ∷ xs) ys le all zero d lt = all zero d (omega arith)
all_written P (suc n) (x ∷ xs) ys le all (suc k) d lt =
    all_written P n xs ys (omega arith) (λ j e l. all (suc j) e (omega arith)) k d (omega arith)
