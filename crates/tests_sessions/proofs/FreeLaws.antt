-- Sessions that hold nothing.
use Rattle.std.proofs.Common.{◌≡◌, ◌≤◌, Option, List, [], ◌∷◌, ◌++◌, length, length-append, get_or, refl, sym, ◌∙◌, ap, subst, arith}
use Rattle.std.specs.Prelude.{All}
use Rattle.std.proofs.Math.Seq.{get_or-append_seam}
use Rattle.std.proofs.lemmas.List.{get_or_append_left}
use Rattle.std.proofs.lemmas.List.Elements.{All-push}
use Rattle.std.proofs.lemmas.Option.{slice_get-get_or}
use Rattle.node_words.proofs.OfShapes.WeightLaws.{weigh-cons, weight_of-one}
use Rattle.node_words.specs.declared.shapes.names.Name.{Name}
use Rattle.node_words.specs.shapes.Tree.{Tree}
use Rattle.node_words.specs.shapes.Weights.{number_of_trees, weigh}
use Rattle.node_words.specs.Gathering.{MayHold}
use Rattle.node_words.specs.Held.{SameHeld}
use Rattle.edit_walk.specs.blocks.Blocks.{ReturnsShare}
use Rattle.version_log.specs.Roots.{GetsRoot}
use Rattle.node_table.specs.Begins.{AreNewPasses, terms_of}
use Rattle.node_table.specs.TableStates.{PassState}
use Rattle.session.specs.Resting.{IsAtRest}
use Rattle.session.specs.SessionWorlds.{SessionWorld}
use Rattle.tests_sessions.specs.Free.{IsFree}

no_trees : number_of_trees [] ≡ 0
unfolding weigh
no_trees = refl

few_none : (held : List Tree) → held ≡ [] → number_of_trees held ≤ 3900
few_none held none =
    subst (λ (ts : List Tree). number_of_trees ts ≤ 3900) (sym none)
    (let zero = no_trees in omega arith)

pub few_free : (t : SessionWorld) (s : PassState) → IsFree t s → number_of_trees s.view.held ≤ 3900
few_free t s free = few_none s.view.held free.held

none_held : (held : List Tree) → weigh (λ _. 1) held ≡ 0 → held ≡ []
none_held [] e = refl
none_held (t ∷ held) e = absurd (let more = weigh-cons (λ _. 1) t held in omega arith)

pub still_free : (t : SessionWorld) (s z : PassState) → IsFree t s → IsAtRest t.table z
    → SameHeld s.view.held z.view.held → IsFree t z
still_free t s z free rest same =
    record {
      rest = rest;
      held = none_held z.view.held
          (same.weighs (λ _. 1) ∙ ap number_of_trees free.held ∙ no_trees);
    }

-- a version was pinned, and the same is held since
pub pinned_few : (t : SessionWorld) (s z w : PassState) (root : Option Name) → IsFree t s
    → GetsRoot s.view.held root z.view.held → w.view.held ≡ z.view.held
    → number_of_trees w.view.held ≤ 3901
pinned_few t s z w root free g same =
    let e = g.loses.weighs (λ _. 1) in
    let one = weight_of-one g.tree in
    let few = few_free t s free in
    let here : number_of_trees w.view.held ≡ number_of_trees z.view.held =
    ap number_of_trees same
    in
    omega arith

still_held : (held more now : List Tree) (root : Option Name) → (g : GetsRoot held root more)
    → now ≡ more → MayHold now g.tree
still_held held more now root g same =
    subst (λ (ts : List Tree). MayHold ts g.tree) (sym same)
    (record { weighs = λ f. (let e = g.loses.weighs f in omega arith) })

-- and its root goes back
pub unpinned_free : (t : SessionWorld) (s z w x : PassState) (root : Option Name) → IsFree t s
    → GetsRoot s.view.held root z.view.held → w.view.held ≡ z.view.held
    → ReturnsShare root w.view.held x.view.held → IsAtRest t.table x → IsFree t x
unpinned_free t s z w x root free g same back rest =
    let gone = back g.tree g.name
    (still_held s.view.held z.view.held w.view.held root g same)
    in
    let e = g.loses.weighs (λ _. 1) in
    let l = gone.weighs (λ _. 1) in
    let here : weigh (λ _. 1) w.view.held ≡ weigh (λ _. 1) z.view.held =
    ap (weigh (λ _. 1)) same
    in
    let none : number_of_trees s.view.held ≡ 0 = ap number_of_trees free.held ∙ no_trees in
    record { rest = rest; held = none_held x.view.held (omega arith) }

pub all_free : (t : SessionWorld) (passes : List PassState)
    → AreNewPasses t.table.id (terms_of t.table) passes
    → All (IsAtRest t.table) passes → All (IsFree t) passes
all_free t passes new rest = λ k d lt.
    record {
      rest = rest k d lt;
      held = (new.each k (get_or passes k d) (slice_get-get_or passes k d lt)).held;
    }

pub more_free : (t : SessionWorld) (passes more : List PassState) (s : PassState)
    → more ≡ passes ++ s ∷ [] → All (IsFree t) passes → IsFree t s → All (IsFree t) more
more_free t passes more s is free one =
    subst (λ (ps : List PassState). All (IsFree t) ps) (sym is)
    (All-push (IsFree t) passes s free one)

-- the last one is free, and those before it
whole_free : (t : SessionWorld) (passes rest : List PassState) (s : PassState)
    → passes ≡ rest ++ s ∷ [] → All (IsFree t) passes → All (IsFree t) (rest ++ s ∷ [])
whole_free t passes rest s is free = subst (λ (ps : List PassState). All (IsFree t) ps) is free

pub rest_free : (t : SessionWorld) (passes rest : List PassState) (s : PassState)
    → passes ≡ rest ++ s ∷ [] → All (IsFree t) passes → All (IsFree t) rest
rest_free t passes rest s is free = λ k d lt.
    subst (λ (p : PassState). IsFree t p) (get_or_append_left rest (s ∷ []) d k lt)
    (whole_free t passes rest s is free k d (omega (arith, length-append rest (s ∷ []))))

pub last_free : (t : SessionWorld) (passes rest : List PassState) (s : PassState)
    → passes ≡ rest ++ s ∷ [] → All (IsFree t) passes → IsFree t s
last_free t passes rest s is free =
    subst (λ (p : PassState). IsFree t p) (get_or-append_seam rest s [] s)
    (whole_free t passes rest s is free (length rest) s
    (omega (arith, length-append rest (s ∷ []))))
