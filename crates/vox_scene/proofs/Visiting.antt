-- A walk visit by visit.
use Rattle.std.proofs.Common.{◌≡◌, ℕ, zero, suc, ◌+◌, ◌<◌, Bool, true, false, List, [], ◌∷◌, ◌++◌, length, Option, Some, None, Result, Ok, Err, refl, sym, ap, subst, ◌∙◌, arith, add-one}
use Rattle.std.specs.List.{flat_map}
use Rattle.vox_chunk.specs.Frames.{number_at}
use Rattle.vox_scene.specs.declared.faults.SceneFault.{SceneFault}
use Rattle.vox_scene.specs.declared.faults.SceneFault.TheVariants.{ShortNode, TwoNodes, BadRotation, BadTranslation, NoNode, TooDeep, NoModel, TooMany, TooLarge, Memory}
use Rattle.vox_scene.specs.declared.nodes.Kind.{Kind}
use Rattle.vox_scene.specs.declared.nodes.Kind.TheVariants.{Moves, Groups, Shows}
use Rattle.vox_scene.specs.declared.nodes.Node.{Node}
use Rattle.vox_scene.specs.declared.rotations.Rotation.{Rotation}
use Rattle.vox_scene.specs.declared.rotations.Vector.{Vector}
use Rattle.vox_scene.specs.declared.rotations.Pose.{Pose}
use Rattle.vox_scene.specs.Rotations.{posed}
use Rattle.vox_scene.specs.Nodes.{kind_with}
use Rattle.vox_scene.specs.Numbering.{numbers_of}
use Rattle.vox_scene.specs.Walks.{Progress}
use Rattle.vox_scene.specs.Walking.{Visit, visits_below, visits, shown, room_fault, visit_fault, behind_one, behind_visit, unless, walked, AnswersWalk, Enters, rotation_or_identity, vector_or}

-- ---- no visit, and one

pub walked_none : (models : ℕ) (s : Progress) → walked models s [] ≡ Ok s
unfolding walked
walked_none models s = refl

walked_one : (models : ℕ) (s : Progress) (v : Visit) (more : List Visit)
    → walked models s (v ∷ more) ≡ unless (visit_fault models s v)
    (walked models (behind_visit s v) more)
unfolding walked
walked_one models s v more = refl

walked_stop : (models : ℕ) (s : Progress) (v : Visit) (more : List Visit) (fault : SceneFault)
    → visit_fault models s v ≡ Some fault → walked models s (v ∷ more) ≡ Err fault
walked_stop models s v more fault broken = walked_one models s v more
    ∙ ap (λ f. unless f (walked models (behind_visit s v) more)) broken

walked_on : (models : ℕ) (s : Progress) (v : Visit) (more : List Visit)
    → visit_fault models s v ≡ None
    → walked models s (v ∷ more) ≡ walked models (behind_visit s v) more
walked_on models s v more fine = walked_one models s v more
    ∙ ap (λ f. unless f (walked models (behind_visit s v) more)) fine

-- ---- more visits behind some

abbrev pub then : Result Progress SceneFault → (Progress → Result Progress SceneFault)
    → Result Progress SceneFault
then (Ok s) goes_on = goes_on s
then (Err fault) goes_on = Err fault

unless_then : (broken : Option SceneFault) (a : Result Progress SceneFault)
    (goes_on : Progress → Result Progress SceneFault)
    → then (unless broken a) goes_on ≡ unless broken (then a goes_on)
unless_then None a goes_on = refl
unless_then (Some fault) a goes_on = refl

walked_both : (models : ℕ) (s : Progress) (a b : List Visit)
    → walked models s (a ++ b) ≡ then (walked models s a) (λ t. walked models t b)
walked_both models s [] b = ap (λ r. then r (λ t. walked models t b)) (sym (walked_none models s))
walked_both models s (v ∷ more) b =
    walked_one models s v (more ++ b)
    ∙ ap (λ r. unless (visit_fault models s v) r) (walked_both models (behind_visit s v) more b)
    ∙ sym
    (unless_then (visit_fault models s v) (walked models (behind_visit s v) more)
    (λ t. walked models t b))
    ∙ ap (λ r. then r (λ t. walked models t b)) (sym (walked_one models s v more))

-- ---- the visits of a node

deepest : (nodes : List Node) (pose : Pose) (id : ℕ)
    → visits nodes 0 pose id ≡ record
    { id = id; kind = kind_with id nodes; is_deep = true; pose = pose } ∷ []
unfolding visits
deepest nodes pose id = refl

others : (nodes : List Node) (n k : ℕ) (pose : Pose) (id : ℕ) → n ≡ k + 1
    → visits nodes n pose id ≡ record
    { id = id; kind = kind_with id nodes; is_deep = false; pose = pose }
    ∷ visits_below (kind_with id nodes) pose (λ inner child. visits nodes k inner child)
unfolding visits
others nodes n k pose id is = rw (is, add-one) refl

none_fault : (models : ℕ) (s : Progress) (id : ℕ) (kind : Option Kind) (is_deep : Bool)
    (pose : Pose)
    → kind ≡ None
    → visit_fault models s (record { id = id; kind = kind; is_deep = is_deep; pose = pose }) ≡ Some
    (NoNode id)
none_fault models s id kind is_deep pose is = rw is refl

deep_fault : (models : ℕ) (s : Progress) (id : ℕ) (kind : Option Kind) (found : Kind) (pose : Pose)
    → kind ≡ Some found
    → visit_fault models s (record { id = id; kind = kind; is_deep = true; pose = pose }) ≡ Some
    (TooDeep id)
deep_fault models s id kind found pose is = rw is refl

some_fault : (models : ℕ) (s : Progress) (id : ℕ) (kind : Option Kind) (found : Kind) (pose : Pose)
    → kind ≡ Some found
    → visit_fault models s (record { id = id; kind = kind; is_deep = false; pose = pose })
    ≡ room_fault models s id (shown found)
some_fault models s id kind found pose is = rw is refl

-- no node has the id
pub no_node_there : (nodes : List Node) (models n : ℕ) (s : Progress) (pose : Pose) (id : ℕ)
    → kind_with id nodes ≡ None → walked models s (visits nodes n pose id) ≡ Err (NoNode id)
no_node_there nodes models zero s pose id is =
    ap (walked models s) (deepest nodes pose id)
    ∙ walked_stop models s _ [] (NoNode id)
    (none_fault models s id (kind_with id nodes) true pose is)
no_node_there nodes models (suc k) s pose id is =
    ap (walked models s) (others nodes (suc k) k pose id (sym (add-one k)))
    ∙ walked_stop models s _ _ (NoNode id)
    (none_fault models s id (kind_with id nodes) false pose is)

pub node_too_deep : (nodes : List Node) (models n : ℕ) (s : Progress) (pose : Pose) (id : ℕ)
    (kind : Kind)
    → n ≡ 0 → kind_with id nodes ≡ Some kind
    → walked models s (visits nodes n pose id) ≡ Err (TooDeep id)
node_too_deep nodes models n s pose id kind is there =
    ap (λ (m : ℕ). walked models s (visits nodes m pose id)) is
    ∙ ap (walked models s) (deepest nodes pose id)
    ∙ walked_stop models s _ [] (TooDeep id)
    (deep_fault models s id (kind_with id nodes) kind pose there)

pub node_refused : (nodes : List Node) (models n k : ℕ) (s : Progress) (pose : Pose) (id : ℕ)
    (kind : Kind) (fault : SceneFault) → n ≡ k + 1 → kind_with id nodes ≡ Some kind
    → room_fault models s id (shown kind) ≡ Some fault
    → walked models s (visits nodes n pose id) ≡ Err fault
node_refused nodes models n k s pose id kind fault is there broken =
    ap (walked models s) (others nodes n k pose id is)
    ∙ walked_stop models s _ _ fault
    (some_fault models s id (kind_with id nodes) kind pose there ∙ broken)

same_behind : (s : Progress) (id : ℕ) (kind : Option Kind) (found : Kind) (is_deep : Bool)
    (pose : Pose)
    → kind ≡ Some found
    → behind_visit s (record { id = id; kind = kind; is_deep = is_deep; pose = pose })
    ≡ behind_one s pose (shown found)
same_behind s id kind found is_deep pose is = rw is refl

-- the visit of a node that may be visited leads to those below it
pub node_entered : (nodes : List Node) (models n k : ℕ) (s : Progress) (pose : Pose) (id : ℕ)
    (kind : Kind) → n ≡ k + 1 → kind_with id nodes ≡ Some kind
    → room_fault models s id (shown kind) ≡ None
    → walked models s (visits nodes n pose id)
    ≡ walked models (behind_one s pose (shown kind))
    (visits_below (Some kind) pose (λ inner child. visits nodes k inner child))
node_entered nodes models n k s pose id kind is there fine =
    ap (walked models s) (others nodes n k pose id is)
    ∙ walked_on models s _ _ (some_fault models s id (kind_with id nodes) kind pose there ∙ fine)
    ∙ ap
    (λ t. walked models t
    (visits_below (kind_with id nodes) pose (λ inner child. visits nodes k inner child)))
    (same_behind s id (kind_with id nodes) kind false pose there)
    ∙ ap
    (λ found. walked models (behind_one s pose (shown kind))
    (visits_below found pose (λ inner child. visits nodes k inner child))) there

-- ---- what a walk answers

pub walks_along : (a b : Result Progress SceneFault) (r : Result (Unit {0}) SceneFault)
    (new : Progress)
    → a ≡ b → AnswersWalk b r new → AnswersWalk a r new
walks_along a b r new same walks = subst (λ w. AnswersWalk w r new) (sym same) walks

pub walks_refused : (a : Result Progress SceneFault) (fault : SceneFault) (new : Progress)
    → a ≡ Err fault → AnswersWalk a (Err fault) new
walks_refused a (ShortNode at) new is = is
walks_refused a (TwoNodes at) new is = is
walks_refused a (BadRotation at) new is = is
walks_refused a (BadTranslation at) new is = is
walks_refused a (NoNode at) new is = is
walks_refused a (TooDeep at) new is = is
walks_refused a (NoModel at) new is = is
walks_refused a (TooMany at) new is = is
walks_refused a TooLarge new is = is
walks_refused a Memory new is = tt

-- what was refused at the visit
pub enter_refused : (a : Result Progress SceneFault) (broken : Option SceneFault)
    (fault : SceneFault)
    (behind new : Progress) → Enters broken (Err fault) behind new
    → ((f : SceneFault) → broken ≡ Some f → a ≡ Err f) → AnswersWalk a (Err fault) new
enter_refused a broken (ShortNode at) behind new says stops = stops (ShortNode at) says
enter_refused a broken (TwoNodes at) behind new says stops = stops (TwoNodes at) says
enter_refused a broken (BadRotation at) behind new says stops = stops (BadRotation at) says
enter_refused a broken (BadTranslation at) behind new says stops = stops (BadTranslation at) says
enter_refused a broken (NoNode at) behind new says stops = stops (NoNode at) says
enter_refused a broken (TooDeep at) behind new says stops = stops (TooDeep at) says
enter_refused a broken (NoModel at) behind new says stops = stops (NoModel at) says
enter_refused a broken (TooMany at) behind new says stops = stops (TooMany at) says
enter_refused a broken TooLarge behind new says stops = stops TooLarge says
enter_refused a broken Memory behind new says stops = tt

-- what a walk over a beginning answers for the whole: where it stops there the whole does, and
-- where it comes through the rest decides
pub walks_first : (a : Result Progress SceneFault) (goes_on : Progress → Result Progress SceneFault)
    (fault : SceneFault) (new : Progress) → AnswersWalk a (Err fault) new
    → AnswersWalk (then a goes_on) (Err fault) new
walks_first a goes_on (ShortNode at) new walks = rw walks refl
walks_first a goes_on (TwoNodes at) new walks = rw walks refl
walks_first a goes_on (BadRotation at) new walks = rw walks refl
walks_first a goes_on (BadTranslation at) new walks = rw walks refl
walks_first a goes_on (NoNode at) new walks = rw walks refl
walks_first a goes_on (TooDeep at) new walks = rw walks refl
walks_first a goes_on (NoModel at) new walks = rw walks refl
walks_first a goes_on (TooMany at) new walks = rw walks refl
walks_first a goes_on TooLarge new walks = rw walks refl
walks_first a goes_on Memory new walks = tt

-- ---- children, one after the other

pub child_first : (front more : List ℕ) → length front ≡ 4
    → numbers_of (front ++ more) ≡ number_at front 0 ∷ numbers_of more
unfolding numbers_of
child_first (a ∷ b ∷ c ∷ d ∷ []) more long = refl
child_first [] more long = absurd (omega (arith, long))
child_first (a ∷ []) more long = absurd (omega (arith, long))
child_first (a ∷ b ∷ []) more long = absurd (omega (arith, long))
child_first (a ∷ b ∷ c ∷ []) more long = absurd (omega (arith, long))
child_first (a ∷ b ∷ c ∷ d ∷ e ∷ rest) more long = absurd (omega (arith, long))

pub no_child : (rest : List ℕ) → length rest < 4 → numbers_of rest ≡ []
unfolding numbers_of
no_child [] short = refl
no_child (a ∷ []) short = refl
no_child (a ∷ b ∷ []) short = refl
no_child (a ∷ b ∷ c ∷ []) short = refl
no_child (a ∷ b ∷ c ∷ d ∷ rest) short = absurd (omega (arith, short))

-- the walk over the children from some byte on
abbrev pub children_walked : ℕ → Progress → (ℕ → List Visit) → List ℕ → Result Progress SceneFault
children_walked models s of_child bytes = walked models s (flat_map of_child (numbers_of bytes))

first_child : (models : ℕ) (s : Progress) (of_child : ℕ → List Visit) (rest front more : List ℕ)
    → rest ≡ front ++ more → length front ≡ 4
    → children_walked models s of_child rest
    ≡ then (walked models s (of_child (number_at front 0)))
    (λ t. children_walked models t of_child more)
first_child models s of_child rest front more parts long =
    ap (λ bytes. children_walked models s of_child bytes) parts
    ∙ ap (λ numbers. walked models s (flat_map of_child numbers)) (child_first front more long)
    ∙ walked_both models s (of_child (number_at front 0)) (flat_map of_child (numbers_of more))

pub child_walked : (models : ℕ) (s now : Progress) (of_child : ℕ → List Visit)
    (rest front more : List ℕ) → rest ≡ front ++ more → length front ≡ 4
    → walked models s (of_child (number_at front 0)) ≡ Ok now
    → children_walked models s of_child rest ≡ children_walked models now of_child more
child_walked models s now of_child rest front more parts long walks =
    first_child models s of_child rest front more parts long
    ∙ ap (λ r. then r (λ t. children_walked models t of_child more)) walks

pub child_refused : (models : ℕ) (s new : Progress) (of_child : ℕ → List Visit)
    (rest front more : List ℕ) (fault : SceneFault) → rest ≡ front ++ more → length front ≡ 4
    → AnswersWalk (walked models s (of_child (number_at front 0))) (Err fault) new
    → AnswersWalk (children_walked models s of_child rest) (Err fault) new
child_refused models s new of_child rest front more fault parts long walks =
    walks_along _ _ (Err fault) new (first_child models s of_child rest front more parts long)
    (walks_first (walked models s (of_child (number_at front 0)))
    (λ t. children_walked models t of_child more) fault new walks)

pub children_done : (models : ℕ) (s : Progress) (of_child : ℕ → List Visit) (rest : List ℕ)
    → length rest < 4 → children_walked models s of_child rest ≡ Ok s
children_done models s of_child rest short =
    ap (λ numbers. walked models s (flat_map of_child numbers)) (no_child rest short)
    ∙ walked_none models s

-- ---- the three kinds of nodes

module _ (nodes : List Node) (models n k : ℕ) (s new : Progress) (pose : Pose) (id : ℕ)
    (found : Kind) (less : n ≡ k + 1) (there : kind_with id nodes ≡ Some found)
    (enters : (room_fault models s id (shown found) ≡ None)
    × (new ≡ behind_one s pose (shown found))) where
  onward : (kind : Kind) → found ≡ kind → walked models s (visits nodes n pose id)
      ≡ walked models new
      (visits_below (Some kind) pose (λ inner child. visits nodes k inner child))
  onward kind is =
      node_entered nodes models n k s pose id found less there enters.0
      ∙ ap
      (λ t. walked models t
      (visits_below (Some found) pose (λ inner child. visits nodes k inner child)))
      (sym enters.1)
      ∙ ap
      (λ f. walked models new
      (visits_below (Some f) pose (λ inner child. visits nodes k inner child))) is

  pub mover_entered : (child : ℕ) (axis_map : Option Rotation) (shift : Option Vector) (inner : Pose)
      → found ≡ Moves child axis_map shift
      → inner ≡ posed pose (rotation_or_identity axis_map) (vector_or shift)
      → walked models s (visits nodes n pose id) ≡ walked models new (visits nodes k inner child)
  mover_entered child axis_map shift inner is posed_is = onward (Moves child axis_map shift) is
      ∙ ap (λ p. walked models new (visits nodes k p child)) (sym posed_is)

  pub group_entered : (children : List ℕ) (bytes : List ℕ) → found ≡ Groups children
      → numbers_of bytes ≡ children
      → walked models s (visits nodes n pose id) ≡ children_walked models new
      (visits nodes k pose) bytes
  group_entered children bytes is are = onward (Groups children) is
      ∙ ap (λ numbers. walked models new (flat_map (visits nodes k pose) numbers)) (sym are)

  pub shape_entered : (model : Option ℕ) → found ≡ Shows model
      → walked models s (visits nodes n pose id) ≡ Ok new
  shape_entered model is = onward (Shows model) is ∙ walked_none models new
