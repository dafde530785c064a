-- The walk over a scene's nodes, depth first, from node 0 on.
use Rattle.std.specs.Prelude.{◌≡◌, ℕ, zero, suc, ◌+◌, ◌&&◌, ◌||◌, Bool, true, false, List, [], ◌∷◌, ◌++◌, length, Option, Some, None, is_some, Result, Ok, Err, nat_le, if◌then◌else◌}
use Rattle.std.specs.List.{flat_map}
use Rattle.vox_scene.specs.declared.faults.SceneFault.{SceneFault}
use Rattle.vox_scene.specs.declared.faults.SceneFault.TheVariants.{NoNode, TooDeep, NoModel, TooMany, Memory}
use Rattle.vox_scene.specs.declared.nodes.Kind.{Kind}
use Rattle.vox_scene.specs.declared.nodes.Kind.TheVariants.{Moves, Groups, Shows}
use Rattle.vox_scene.specs.declared.nodes.Node.{Node}
use Rattle.vox_scene.specs.declared.rotations.Rotation.{Rotation}
use Rattle.vox_scene.specs.declared.rotations.Vector.{Vector}
use Rattle.vox_scene.specs.declared.rotations.Pose.{Pose}
use Rattle.vox_scene.specs.Walks.{PlacedModel, Progress}
use Rattle.vox_scene.specs.Rotations.{no_rotation, zero_shift, identity_pose, posed}
use Rattle.vox_scene.specs.Nodes.{kind_with}

-- the walk comes to a node of this id: what the node does, where there is one; whether it is the
-- 65th on its path; and how what it shows stands
pub record Visit : Type 0 where
  pub id : ℕ
  pub kind : Option Kind
  pub is_deep : Bool
  pub pose : Pose

abbrev pub rotation_or_identity : Option Rotation → Rotation
rotation_or_identity None = no_rotation
rotation_or_identity (Some axis_map) = axis_map

abbrev pub vector_or : Option Vector → Vector
vector_or None = zero_shift
vector_or (Some vector) = vector

-- the visits below a node, each of whose children has these
abbrev pub visits_below : Option Kind → Pose → (Pose → ℕ → List Visit) → List Visit
visits_below None pose visits = []
visits_below (Some (Moves child axis_map shift)) pose visits =
    visits (posed pose (rotation_or_identity axis_map) (vector_or shift)) child
visits_below (Some (Groups children)) pose visits = flat_map (visits pose) children
visits_below (Some (Shows model)) pose visits = []

-- the visits from a node on, children in order, where this many more can stand below it on a path
unfoldable pub visits : List Node → ℕ → Pose → ℕ → List Visit
visits nodes zero pose id =
    record { id = id; kind = kind_with id nodes; is_deep = true; pose = pose } ∷ []
visits nodes (suc room) pose id =
    record { id = id; kind = kind_with id nodes; is_deep = false; pose = pose }
    ∷ visits_below (kind_with id nodes) pose (λ inner child. visits nodes room inner child)

-- node 0 is the first on each path, and 63 more can stand below it
abbrev pub all_visits : List Node → List Visit
all_visits nodes = visits nodes 64 identity_pose 0

-- ---- how far the walk has come

-- the model that a node shows
abbrev pub shown : Kind → Option ℕ
shown (Shows model) = model
shown (Groups children) = None
shown (Moves child axis_map shift) = None

abbrev pub model_fault : ℕ → ℕ → Option ℕ → Option SceneFault
model_fault models id None = None
model_fault models id (Some model) = if nat_le models model then Some (NoModel id) else None

abbrev pub is_over : Progress → Option ℕ → Bool
is_over so_far model =
    nat_le 65536 so_far.visited || (is_some model && nat_le 1024 (length so_far.placed))

abbrev pub room_fault : ℕ → Progress → ℕ → Option ℕ → Option SceneFault
room_fault models so_far id model =
    if is_over so_far model then Some (TooMany id) else model_fault models id model

-- the rule that a visit breaks, in the order in which the rules are tested
abbrev pub node_rule : ℕ → Progress → ℕ → Bool → Option Kind → Option SceneFault
node_rule models so_far id is_deep None = Some (NoNode id)
node_rule models so_far id true (Some kind) = Some (TooDeep id)
node_rule models so_far id false (Some kind) = room_fault models so_far id (shown kind)

abbrev pub visit_fault : ℕ → Progress → Visit → Option SceneFault
visit_fault models so_far v = node_rule models so_far v.id v.is_deep v.kind

abbrev pub placed_with : Pose → Option ℕ → List PlacedModel
placed_with pose None = []
placed_with pose (Some model) = record { model = model; pose = pose } ∷ []

abbrev pub behind_one : Progress → Pose → Option ℕ → Progress
behind_one so_far pose model = record {
  visited = so_far.visited + 1;
  placed = so_far.placed ++ placed_with pose model;
}

abbrev pub shown_by : Option Kind → Option ℕ
shown_by None = None
shown_by (Some kind) = shown kind

abbrev pub behind_visit : Progress → Visit → Progress
behind_visit so_far v = behind_one so_far v.pose (shown_by v.kind)

abbrev pub unless : Option SceneFault → Result Progress SceneFault → Result Progress SceneFault
unless None goes_on = goes_on
unless (Some fault) goes_on = Err fault

-- the first visit that breaks a rule decides; without one all of them come
unfoldable pub walked : ℕ → Progress → List Visit → Result Progress SceneFault
walked models so_far [] = Ok so_far
walked models so_far (v ∷ more) =
    unless (visit_fault models so_far v) (walked models (behind_visit so_far v) more)

-- what a walk answers, where this is what it has to: want of memory says nothing
abbrev pub AnswersWalk : Result Progress SceneFault → Result (Unit {0}) SceneFault → Progress
    → Type 0
AnswersWalk wanted (Ok done) new = wanted ≡ Ok new
AnswersWalk wanted (Err Memory) new = Unit {0}
AnswersWalk wanted (Err fault) new = wanted ≡ Err fault

-- the same of one visit of a node that may be visited, which breaks this rule, or leads there
abbrev pub Enters : Option SceneFault → Result (Unit {0}) SceneFault → Progress → Progress → Type 0
Enters broken (Ok done) behind new = (broken ≡ None) × (new ≡ behind)
Enters broken (Err Memory) behind new = Unit {0}
Enters broken (Err fault) behind new = broken ≡ Some fault
