-- What a file's nodes tell are matrices, and so each instance's rotation is one; its model is one of
-- the file's, and there are at most 1,024 instances.
use Rattle.std.proofs.Common.{◌≡◌, ◌≢◌, ℕ, zero, suc, ◌+◌, ◌<◌, ◌≤◌, ◌&&◌, Bool, true, false, List, [], ◌∷◌, ◌++◌, length, map, get_or, Option, Some, None, Result, Ok, Err, refl, sym, ap, ◌∙◌, arith, All}
use Rattle.std.specs.Prelude.{nat_le, is_some, ◌||◌, ◌==◌, ◌%◌, ◌/◌, ◌*◌, drop, take, codes, option_to_list, if◌then◌else◌}
use Rattle.std.specs.List.{flat_map}
use Rattle.std.proofs.lemmas.Bool.Decides.{nat_tests}
use Rattle.std.proofs.lemmas.List.{length-map, length-append}
use Rattle.std.proofs.lemmas.List.Elements.{All-push, All-nil, All-map, All-append}
use Rattle.vox_read.specs.Contents.{Content, IsModel}
use Rattle.vox_chunk.specs.Frames.{number_at, id_at, content_at, place_of}
use Rattle.vox_scene.specs.Dicts.{dict_in, value_of}
use Rattle.vox_scene.specs.Numbers.{digits_in}
use Rattle.vox_scene.specs.Numbering.{numbers_of}
use Rattle.vox_scene.specs.Nodes.{if_found, is_node, is_mover, is_group, mover_in, mover_of, group_in, shape_kind_in, kind_in, with_id, node_in, kind_with, dicts_end, shown_end, first_frame, first_shown}
use Rattle.vox_scene.specs.Reading.{nodes_in, nodes_before}
use Rattle.vox_scene.specs.declared.faults.SceneFault.{SceneFault}
use Rattle.vox_scene.specs.declared.faults.SceneFault.TheVariants.{NoModel, TooMany}
use Rattle.vox_scene.specs.declared.nodes.Kind.{Kind}
use Rattle.vox_scene.specs.declared.nodes.Kind.TheVariants.{Moves, Groups, Shows}
use Rattle.vox_scene.specs.declared.nodes.Node.{Node}
use Rattle.vox_scene.specs.declared.rotations.Axis.{Axis}
use Rattle.vox_scene.specs.declared.rotations.Axis.TheVariants.{X, Y, Z}
use Rattle.vox_scene.specs.declared.rotations.Rotation.{Rotation}
use Rattle.vox_scene.specs.declared.rotations.Pose.{Pose}
use Rattle.vox_scene.specs.Walks.{PlacedModel, Progress}
use Rattle.vox_scene.specs.Rotations.{axis_of, remaining, rows_of, with_columns, rotation_of_bits, rotation_of_number, rotation_of_text, no_rotation, row_at, composed_rotation, posed, identity_pose}
use Rattle.vox_scene.specs.Walking.{Visit, visits_below, visits, all_visits, shown, shown_by, placed_with, behind_one, behind_visit, visit_fault, walked, unless, is_over, room_fault, model_fault, rotation_or_identity, vector_or}
use Rattle.vox_scene.specs.Sound.{IsSound}
use Rattle.vox_scene.specs.Placing.{SceneInstance, no_model, instance_of, alone, instances_by, instances_of}
use Rattle.vox_scene.specs.Painted.{IsMatrix}

-- ---- at most 1,024 instances

few_placed : (placed : List PlacedModel) (pose : Pose) (model : Option ℕ)
    → length placed ≤ 1024 → (is_some model && nat_le 1024 (length placed)) ≡ false
    → length (placed ++ placed_with pose model) ≤ 1024
few_placed placed pose None few room = (let e = length-append placed [] in omega (arith, e, few))
few_placed placed pose (Some model) few room =
    let e = length-append placed (record { model = model; pose = pose } ∷ []) in
    grind (arith, nat_tests)

room_left : (a b : Bool) → (a || b) ≡ false → b ≡ false
room_left false b is = is
room_left true b is = absurd (let no : ⊥ = cc in no)

not_over : (models : ℕ) (s : Progress) (id : ℕ) (model : Option ℕ)
    → room_fault models s id model ≡ None → is_over s model ≡ false
not_over models s id model fine = by (is_over s model) refl where
  by : (b : Bool) → is_over s model ≡ b → is_over s model ≡ false
  by false is = is
  by true is = absurd (let no : ⊥ = grind arith in no)

few_behind : (models : ℕ) (s : Progress) (id : ℕ) (kind : Option Kind) (is_deep : Bool)
    (pose : Pose)
    → length s.placed ≤ 1024
    → visit_fault models s (record { id = id; kind = kind; is_deep = is_deep; pose = pose }) ≡ None
    → length (behind_one s pose (shown_by kind)).placed ≤ 1024
few_behind models s id None is_deep pose few fine = absurd (let no : ⊥ = cc in no)
few_behind models s id (Some kind) true pose few fine = absurd (let no : ⊥ = cc in no)
few_behind models s id (Some kind) false pose few fine =
    few_placed s.placed pose (shown kind) few
    (room_left (nat_le 65536 s.visited) (is_some (shown kind) && nat_le 1024 (length s.placed))
    (not_over models s id (shown kind) fine))

goes_on_is : (broken : Option SceneFault) (rest : Result Progress SceneFault) (t : Progress)
    → unless broken rest ≡ Ok t → (broken ≡ None) × (rest ≡ Ok t)
goes_on_is None rest t is = (refl, is)
goes_on_is (Some fault) rest t is = absurd (let no : ⊥ = cc in no)

pub few_walked : (models : ℕ) (s : Progress) (vs : List Visit) (t : Progress)
    → length s.placed ≤ 1024 → walked models s vs ≡ Ok t → length t.placed ≤ 1024
unfolding walked
few_walked models s [] t few is = let e : s ≡ t = cc in rw (← e) few
few_walked models s (v ∷ more) t few is =
    let on = goes_on_is (visit_fault models s v) (walked models (behind_visit s v) more) t is in
    few_walked models (behind_visit s v) more t
    (few_behind models s v.id v.kind v.is_deep v.pose few on.0) on.1

few_by : (models : List Content) (answer : Result Progress SceneFault) (stands : List SceneInstance)
    → ((t : Progress) → answer ≡ Ok t → length t.placed ≤ 1024)
    → instances_by models answer ≡ Ok stands → length stands ≤ 1024
few_by models (Ok t) stands few is =
    let e : map (instance_of models) t.placed ≡ stands = cc in
    rw (← e, length-map t.placed (instance_of models)) (few t refl)
few_by models (Err fault) stands few is = absurd (let no : ⊥ = cc in no)

pub few_stands : (models : List Content) (nodes : List Node) (stands : List SceneInstance)
    → length models ≤ 1024 → instances_of models nodes ≡ Ok stands → length stands ≤ 1024
few_stands models [] stands few is =
    let e : map alone models ≡ stands = cc in rw (← e, length-map models alone) few
few_stands models (first ∷ more) stands few is =
    few_by models
    (walked (length models) (record { visited = 0; placed = [] }) (all_visits (first ∷ more)))
    stands
    (λ t walks. few_walked (length models) (record { visited = 0; placed = [] })
    (all_visits (first ∷ more)) t
    (omega arith) walks) is

-- ---- what a number or a text tells is a matrix

no_rotation_is : IsMatrix no_rotation
no_rotation_is = record {
  first = λ e. (let no : ⊥ = cc in no);
  second = λ e. (let no : ⊥ = cc in no);
  third = λ e. (let no : ⊥ = cc in no);
}

-- what holds of the rotation, where there is one
abbrev pub MatrixIfAny : Option Rotation → Type 0
MatrixIfAny None = Unit {0}
MatrixIfAny (Some r) = IsMatrix r

distinct_rows : (bits : ℕ) (a b : Axis) → MatrixIfAny (rows_of bits a b (remaining a b))
distinct_rows bits X X = tt
distinct_rows bits X Y =
    record {
      first = λ e. (let no : ⊥ = cc in no);
      second = λ e. (let no : ⊥ = cc in no);
      third =
          λ e. (let no : ⊥ = cc in no);
    }
distinct_rows bits X Z =
    record {
      first = λ e. (let no : ⊥ = cc in no);
      second = λ e. (let no : ⊥ = cc in no);
      third =
          λ e. (let no : ⊥ = cc in no);
    }
distinct_rows bits Y X =
    record {
      first = λ e. (let no : ⊥ = cc in no);
      second = λ e. (let no : ⊥ = cc in no);
      third =
          λ e. (let no : ⊥ = cc in no);
    }
distinct_rows bits Y Y = tt
distinct_rows bits Y Z =
    record {
      first = λ e. (let no : ⊥ = cc in no);
      second = λ e. (let no : ⊥ = cc in no);
      third =
          λ e. (let no : ⊥ = cc in no);
    }
distinct_rows bits Z X =
    record {
      first = λ e. (let no : ⊥ = cc in no);
      second = λ e. (let no : ⊥ = cc in no);
      third =
          λ e. (let no : ⊥ = cc in no);
    }
distinct_rows bits Z Y =
    record {
      first = λ e. (let no : ⊥ = cc in no);
      second = λ e. (let no : ⊥ = cc in no);
      third =
          λ e. (let no : ⊥ = cc in no);
    }
distinct_rows bits Z Z = tt

by_columns : (bits : ℕ) (a b : Option Axis) → MatrixIfAny (with_columns bits a b)
by_columns bits None b = tt
by_columns bits (Some a) None = tt
by_columns bits (Some a) (Some b) = distinct_rows bits a b

if_any : (test : Bool) (a : Option Rotation) → MatrixIfAny a → MatrixIfAny (if test then a else None)
if_any true a is = is
if_any false a is = tt

with_number : (number : Option ℕ) → MatrixIfAny (rotation_of_number number)
with_number None = tt
with_number (Some bits) = if_any (nat_le bits 255) (rotation_of_bits bits)
    (by_columns bits (axis_of (bits % 4)) (axis_of (bits / 4 % 4)))

told_is : (text : Option (List ℕ)) → MatrixIfAny (rotation_of_text text)
told_is None = no_rotation_is
told_is (Some text) = with_number (digits_in 3 text)

-- ---- matrices one behind the other

abbrev column_at : Axis → Rotation → Axis
column_at a r = (row_at a r).column

apart_at : (a b : Axis) (r : Rotation) → IsMatrix r → a ≢ b → column_at a r ≢ column_at b r
apart_at X X r is other same = other refl
apart_at X Y r is other same = is.first same
apart_at X Z r is other same = is.second same
apart_at Y X r is other same = is.first (sym same)
apart_at Y Y r is other same = other refl
apart_at Y Z r is other same = is.third same
apart_at Z X r is other same = is.second (sym same)
apart_at Z Y r is other same = is.third (sym same)
apart_at Z Z r is other same = other refl

both_are : (outer inner : Rotation) → IsMatrix outer → IsMatrix inner
    → IsMatrix (composed_rotation outer inner)
both_are outer inner o i = record {
  first = apart_at outer.x.column outer.y.column inner i o.first;
  second = apart_at outer.x.column outer.z.column inner i o.second;
  third = apart_at outer.y.column outer.z.column inner i o.third;
}

or_no_rotation : (axis_map : Option Rotation) → MatrixIfAny axis_map → IsMatrix (rotation_or_identity axis_map)
or_no_rotation None is = no_rotation_is
or_no_rotation (Some r) is = is

-- ---- nodes of a file

abbrev pub TurnsByMatrix : Kind → Type 0
TurnsByMatrix (Moves child axis_map shift) = MatrixIfAny axis_map
TurnsByMatrix (Groups children) = Unit {0}
TurnsByMatrix (Shows model) = Unit {0}

abbrev pub KindIfAny : Option Kind → Type 0
KindIfAny None = Unit {0}
KindIfAny (Some kind) = TurnsByMatrix kind

abbrev pub NodeIfAny : Option Node → Type 0
NodeIfAny None = Unit {0}
NodeIfAny (Some node) = TurnsByMatrix node.kind

kind_if : (test : Bool) (a b : Option Kind) → KindIfAny a → KindIfAny b
    → KindIfAny (if test then a else b)
kind_if true a b of_a of_b = of_a
kind_if false a b of_a of_b = of_b

behind_kind : {A : Type 0} (first : Option A) (more : A → Option Kind)
    → ((a : A) → KindIfAny (more a))
    → KindIfAny (if_found first more)
behind_kind None more is = tt
behind_kind (Some a) more is = is a

mover_is : (bytes : List ℕ) → KindIfAny (mover_in bytes)
mover_is bytes = kind_if (nat_le 16 (length bytes)) _ None
    (behind_kind (dicts_end (number_at bytes 12) (drop 16 bytes))
    (λ end. Some (mover_of (number_at bytes 0) (first_frame (number_at bytes 12) (drop 16 bytes))))
    (λ end. told_is (value_of (codes "_r") (first_frame (number_at bytes 12) (drop 16 bytes))))) tt

group_is : (bytes : List ℕ) → KindIfAny (group_in bytes)
group_is bytes =
    kind_if (nat_le 4 (length bytes) && nat_le (4 + 4 * number_at bytes 0) (length bytes))
    (Some (Groups (numbers_of (take (4 * number_at bytes 0) (drop 4 bytes))))) None tt tt

shape_is : (bytes : List ℕ) → KindIfAny (shape_kind_in bytes)
shape_is bytes = kind_if (nat_le 4 (length bytes)) _ None
    (behind_kind (shown_end (number_at bytes 0) (drop 4 bytes))
    (λ end. Some (Shows (first_shown (number_at bytes 0) (drop 4 bytes)))) (λ end. tt)) tt

kind_is : (id bytes : List ℕ) → KindIfAny (kind_in id bytes)
kind_is id bytes = kind_if (is_mover id) (mover_in bytes) _ (mover_is bytes)
    (kind_if (is_group id) (group_in bytes) (shape_kind_in bytes) (group_is bytes) (shape_is bytes))

with_id_is : (number : ℕ) (kind : Option Kind) → KindIfAny kind → NodeIfAny (with_id number kind)
with_id_is number None is = tt
with_id_is number (Some kind) is = is

node_if : (test : Bool) (a : Option Node) → NodeIfAny a → NodeIfAny (if test then a else None)
node_if true a is = is
node_if false a is = tt

node_is : (id content : List ℕ) → NodeIfAny (node_in id content)
node_is id content = node_if (nat_le 4 (length content)) _
    (with_id_is (number_at content 0) _
    (behind_kind (dict_in (drop 4 content)) (λ d. kind_in id d.rest)
    (λ d. kind_is id d.rest)))

-- each kind that is found turns by a matrix
abbrev pub AllTurn : List Node → Type 0
AllTurn nodes = (id : ℕ) → KindIfAny (kind_with id nodes)

turn_one : (test : Bool) (first : Kind) (more : Option Kind) → TurnsByMatrix first → KindIfAny more
    → KindIfAny (if test then Some first else more)
turn_one true first more a b = a
turn_one false first more a b = b

turn_first : (test : Bool) (kind : Kind) (a b : Option Kind)
    → KindIfAny (if test then Some kind else a)
    → (KindIfAny a → KindIfAny b) → KindIfAny (if test then Some kind else b)
turn_first true kind a b all more = all
turn_first false kind a b all more = more all

turn_at : (nodes : List Node) (option : Option Node) (id : ℕ) → KindIfAny (kind_with id nodes)
    → NodeIfAny option → KindIfAny (kind_with id (nodes ++ option_to_list option))
turn_at [] None id all is = tt
turn_at [] (Some node) id all is = turn_one (node.id == id) node.kind None is tt
turn_at (first ∷ more) option id all is =
    turn_first (first.id == id) first.kind (kind_with id more)
    (kind_with id (more ++ option_to_list option)) all
    (λ found. turn_at more option id found is)

turn_push : (nodes : List Node) (option : Option Node) → AllTurn nodes → NodeIfAny option
    → AllTurn (nodes ++ option_to_list option)
turn_push nodes option all is id = turn_at nodes option id (all id) is

turn_in : (nodes : List Node) (id content : List ℕ) → AllTurn nodes
    → AllTurn (nodes ++ nodes_in id content)
turn_in nodes id content all = by (is_node id) where
  by : (test : Bool) → AllTurn (nodes ++ (if test then option_to_list (node_in id content) else []))
  by true = turn_push nodes (node_in id content) all (node_is id content)
  by false = turn_push nodes None all tt

pub all_turn : (bytes : List ℕ) (first children : ℕ) → AllTurn (nodes_before bytes first children)
all_turn bytes first zero = λ id. tt
all_turn bytes first (suc i) =
    turn_in (nodes_before bytes first i) (id_at bytes (place_of bytes first i))
    (content_at bytes (place_of bytes first i)) (all_turn bytes first i)

-- ---- visits and what they place

abbrev pub AllPosed : List Visit → Type 0
AllPosed [] = Unit {0}
AllPosed (v ∷ more) = IsMatrix v.pose.axis_map × AllPosed more

posed_both : (a b : List Visit) → AllPosed a → AllPosed b → AllPosed (a ++ b)
posed_both [] b of_a of_b = of_b
posed_both (v ∷ more) b of_a of_b = (of_a.0, posed_both more b of_a.1 of_b)

posed_children : (of_child : ℕ → List Visit) (children : List ℕ)
    → ((id : ℕ) → AllPosed (of_child id))
    → AllPosed (flat_map of_child children)
posed_children of_child [] each = tt
posed_children of_child (id ∷ more) each =
    posed_both (of_child id) (flat_map of_child more) (each id) (posed_children of_child more each)

posed_below : (kind : Option Kind) (pose : Pose) (of_child : Pose → ℕ → List Visit) → KindIfAny kind
    → IsMatrix pose.axis_map
    → ((inner : Pose) (id : ℕ) → IsMatrix inner.axis_map → AllPosed (of_child inner id))
    → AllPosed (visits_below kind pose of_child)
posed_below None pose of_child is matrix each = tt
posed_below (Some (Moves child axis_map shift)) pose of_child is matrix each =
    each (posed pose (rotation_or_identity axis_map) (vector_or shift)) child
    (both_are pose.axis_map (rotation_or_identity axis_map) matrix (or_no_rotation axis_map is))
posed_below (Some (Groups children)) pose of_child is matrix each =
    posed_children (of_child pose) children (λ id. each pose id matrix)
posed_below (Some (Shows model)) pose of_child is matrix each = tt

all_posed : (nodes : List Node) (room : ℕ) (pose : Pose) (id : ℕ) → AllTurn nodes
    → IsMatrix pose.axis_map
    → AllPosed (visits nodes room pose id)
unfolding visits
all_posed nodes zero pose id turn matrix = (matrix, tt)
all_posed nodes (suc room) pose id turn matrix = (
  matrix,
  posed_below (kind_with id nodes) pose (λ inner child. visits nodes room inner child)
      (turn id) matrix
      (λ inner child is. all_posed nodes room inner child turn is),
)

-- a placed model is one of the file's, and stands by a matrix
pub record IsSoundly (models : ℕ) (p : PlacedModel) : Type 0 where
  pub model : p.model < models
  pub matrix : IsMatrix p.pose.axis_map

model_there : (models id model : ℕ) → model_fault models id (Some model) ≡ None → model < models
model_there models id model fine = by (nat_le models model) refl where
  by : (test : Bool) → nat_le models model ≡ test → model < models
  by false is = grind (arith, nat_tests)
  by true is = absurd (
      let e : Some (NoModel id) ≡ None =
      sym (ap (λ (t : Bool). if t then Some (NoModel id) else None) is) ∙ fine in
      let no : ⊥ = cc in no)

within_room : (models : ℕ) (s : Progress) (id : ℕ) (model : Option ℕ)
    → room_fault models s id model ≡ None → model_fault models id model ≡ None
within_room models s id model fine =
    sym (ap (λ (t : Bool). if t then Some (TooMany id) else model_fault models id model)
    (not_over models s id model fine)) ∙ fine

soundly_placed : (models id : ℕ) (placed : List PlacedModel) (pose : Pose) (model : Option ℕ)
    → model_fault models id model ≡ None → IsMatrix pose.axis_map → All (IsSoundly models) placed
    → All (IsSoundly models) (placed ++ placed_with pose model)
soundly_placed models id placed pose None fine matrix all =
    All-append (IsSoundly models) placed [] all (All-nil (IsSoundly models))
soundly_placed models id placed pose (Some model) fine matrix all =
    All-push (IsSoundly models) placed (record { model = model; pose = pose }) all
    (record { model = model_there models id model fine; matrix = matrix })

soundly_behind : (models : ℕ) (s : Progress) (id : ℕ) (kind : Option Kind) (is_deep : Bool)
    (pose : Pose)
    → visit_fault models s (record { id = id; kind = kind; is_deep = is_deep; pose = pose }) ≡ None
    → IsMatrix pose.axis_map → All (IsSoundly models) s.placed
    → All (IsSoundly models) (behind_one s pose (shown_by kind)).placed
soundly_behind models s id None is_deep pose fine matrix all = absurd (let no : ⊥ = cc in no)
soundly_behind models s id (Some kind) true pose fine matrix all = absurd (let no : ⊥ = cc in no)
soundly_behind models s id (Some kind) false pose fine matrix all =
    soundly_placed models id s.placed pose (shown kind)
    (within_room models s id (shown kind) fine) matrix all

soundly_walked : (models : ℕ) (s : Progress) (vs : List Visit) (t : Progress) → AllPosed vs
    → All (IsSoundly models) s.placed → walked models s vs ≡ Ok t → All (IsSoundly models) t.placed
unfolding walked
soundly_walked models s [] t poses all is = let e : s ≡ t = cc in rw (← e) all
soundly_walked models s (v ∷ more) t poses all is =
    let on = goes_on_is (visit_fault models s v) (walked models (behind_visit s v) more) t is in
    soundly_walked models (behind_visit s v) more t poses.1
    (soundly_behind models s v.id v.kind v.is_deep v.pose on.0 poses.0 all) on.1

-- ---- instances

stand_is_sound : (models : List Content) (p : PlacedModel) → All IsModel models
    → IsSoundly (length models) p → IsSound (instance_of models p)
stand_is_sound models p all is =
    record { model = all p.model no_model is.model; matrix = is.matrix }

all_stands_sound : (models : List Content) (placed : List PlacedModel) → All IsModel models
    → All (IsSoundly (length models)) placed → All IsSound (map (instance_of models) placed)
all_stands_sound models placed all is =
    All-map IsSound (instance_of models) placed
    (λ k d lt. stand_is_sound models (get_or placed k d) all (is k d lt))

sound_by : (models : List Content) (answer : Result Progress SceneFault) (stands : List SceneInstance)
    → All IsModel models
    → ((t : Progress) → answer ≡ Ok t → All (IsSoundly (length models)) t.placed)
    → instances_by models answer ≡ Ok stands → All IsSound stands
sound_by models (Ok t) stands all sound is =
    let e : map (instance_of models) t.placed ≡ stands = cc in
    rw (← e) (all_stands_sound models t.placed all (sound t refl))
sound_by models (Err fault) stands all sound is = absurd (let no : ⊥ = cc in no)

pub sound_stands : (models : List Content) (nodes : List Node) (stands : List SceneInstance)
    → All IsModel models → AllTurn nodes → instances_of models nodes ≡ Ok stands → All IsSound stands
sound_stands models [] stands all turn is =
    let e : map alone models ≡ stands = cc in
    rw (← e) (All-map IsSound alone models
    (λ k d lt. record { model = all k d lt; matrix = no_rotation_is }))
sound_stands models (first ∷ more) stands all turn is =
    sound_by models
    (walked (length models) (record { visited = 0; placed = [] }) (all_visits (first ∷ more)))
    stands all
    (λ t walks. soundly_walked (length models) (record { visited = 0; placed = [] })
    (all_visits (first ∷ more)) t
    (all_posed (first ∷ more) 64 identity_pose 0 turn no_rotation_is)
    (All-nil (IsSoundly (length models))) walks) is
