-- The nodes of a scene, by the fields of their chunks. What stands behind the fields is passed
-- over.
use Rattle.std.specs.Prelude.{ℕ, zero, suc, ◌+◌, ◌*◌, ◌==◌, ◌&&◌, ◌||◌, Bool, List, [], ◌∷◌, length, take, drop, codes, Option, Some, None, is_some, nat_le, if◌then◌else◌}
use Rattle.std.specs.Str.{bytes_eq}
use Rattle.vox_chunk.specs.Frames.{number_at}
use Rattle.vox_scene.specs.declared.faults.SceneFault.{SceneFault}
use Rattle.vox_scene.specs.declared.faults.SceneFault.TheVariants.{ShortNode, TwoNodes, BadRotation, BadTranslation}
use Rattle.vox_scene.specs.declared.nodes.Kind.{Kind}
use Rattle.vox_scene.specs.declared.nodes.Kind.TheVariants.{Moves, Groups, Shows}
use Rattle.vox_scene.specs.declared.nodes.Node.{Node}
use Rattle.vox_scene.specs.Dicts.{Pair, dict_in, pairs_of, value_of}
use Rattle.vox_scene.specs.Numbering.{numbers_of}
use Rattle.vox_scene.specs.Rotations.{rotation_of_text, shift_of_text}

abbrev pub is_mover : List ℕ → Bool
is_mover id = bytes_eq id (codes "nTRN")

abbrev pub is_group : List ℕ → Bool
is_group id = bytes_eq id (codes "nGRP")

abbrev pub is_shape : List ℕ → Bool
is_shape id = bytes_eq id (codes "nSHP")

abbrev pub is_node : List ℕ → Bool
is_node id = is_mover id || (is_group id || is_shape id)

-- what follows, where something is there
abbrev pub if_found : {A B : Type 0} → Option A → (A → Option B) → Option B
if_found None more = None
if_found (Some a) more = more a

abbrev pub node_made : ℕ → Kind → Node
node_made id kind = record { id = id; kind = kind }

-- ---- a node that moves another one: its child, two numbers that nothing is made of, and a DICT
-- for each of some frames, of which the first one counts

-- what stands behind so many DICTs
unfoldable pub dicts_end : ℕ → List ℕ → Option (List ℕ)
dicts_end zero bytes = Some bytes
dicts_end (suc n) bytes = if_found (dict_in bytes) (λ d. dicts_end n d.rest)

abbrev pub first_frame : ℕ → List ℕ → List Pair
first_frame frames bytes = if frames == 0 then [] else pairs_of (dict_in bytes)

abbrev pub mover_of : ℕ → List Pair → Kind
mover_of child frame = Moves child (rotation_of_text (value_of (codes "_r") frame))
    (shift_of_text (value_of (codes "_t") frame))

abbrev pub mover_in : List ℕ → Option Kind
mover_in bytes = if nat_le 16 (length bytes)
    then if_found (dicts_end (number_at bytes 12) (drop 16 bytes))
    (λ end. Some (mover_of (number_at bytes 0) (first_frame (number_at bytes 12) (drop 16 bytes))))
    else None

-- ---- a group of others: their number, and their ids

abbrev pub group_in : List ℕ → Option Kind
group_in bytes =
    if nat_le 4 (length bytes) && nat_le (4 + 4 * number_at bytes 0) (length bytes)
    then Some (Groups (numbers_of (take (4 * number_at bytes 0) (drop 4 bytes)))) else None

-- ---- a shape: the number of its models, and for each its number and a DICT; the first one counts

-- what stands behind so many numbers, each with its DICT
unfoldable pub shown_end : ℕ → List ℕ → Option (List ℕ)
shown_end zero bytes = Some bytes
shown_end (suc n) bytes =
    if nat_le 4 (length bytes) then if_found (dict_in (drop 4 bytes)) (λ d. shown_end n d.rest)
    else None

abbrev pub first_shown : ℕ → List ℕ → Option ℕ
first_shown models bytes = if models == 0 then None else Some (number_at bytes 0)

abbrev pub shape_kind_in : List ℕ → Option Kind
shape_kind_in bytes = if nat_le 4 (length bytes)
    then if_found (shown_end (number_at bytes 0) (drop 4 bytes))
    (λ end. Some (Shows (first_shown (number_at bytes 0) (drop 4 bytes)))) else None

-- ---- each begins with its id and a DICT

abbrev pub kind_in : List ℕ → List ℕ → Option Kind
kind_in id bytes = if is_mover id then mover_in bytes
    else (if is_group id then group_in bytes else shape_kind_in bytes)

abbrev pub with_id : ℕ → Option Kind → Option Node
with_id number None = None
with_id number (Some kind) = Some (node_made number kind)

-- the node of a chunk with this id and content, where its fields fit
abbrev pub node_in : List ℕ → List ℕ → Option Node
node_in id content = if nat_le 4 (length content)
    then with_id (number_at content 0)
    (if_found (dict_in (drop 4 content)) (λ d. kind_in id d.rest)) else None

-- ---- the rules that a node keeps

abbrev pub kind_fault : ℕ → Kind → Option SceneFault
kind_fault place (Moves child None shift) = Some (BadRotation place)
kind_fault place (Moves child (Some axis_map) None) = Some (BadTranslation place)
kind_fault place (Moves child (Some axis_map) (Some shift)) = None
kind_fault place (Groups children) = None
kind_fault place (Shows model) = None

-- what the first node of this id does
abbrev pub kind_with : ℕ → List Node → Option Kind
kind_with id [] = None
kind_with id (first ∷ more) = if first.id == id then Some first.kind else kind_with id more

-- the rule that the node of the chunk at this place breaks, behind these others
abbrev pub node_fault : ℕ → List Node → Option Node → Option SceneFault
node_fault place before None = Some (ShortNode place)
node_fault place before (Some node) =
    if is_some (kind_with node.id before) then Some (TwoNodes place) else kind_fault place node.kind
