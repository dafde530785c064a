-- The nodes of a file, by the places of MAIN's children: child i stands at `place_of bytes first
-- i`.
use Rattle.std.specs.Prelude.{◌≡◌, ℕ, zero, suc, ◌<◌, ◌≤◌, Bool, true, false, List, [], ◌∷◌, ◌++◌, Option, Some, None, Ok, if◌then◌else◌, option_to_list}
use Rattle.std.specs.Ordering.{nat_cmp}
use Rattle.std.specs.BTreeMap.{get}
use Rattle.vox_chunk.specs.Frames.{Bounds, header_of, place_of, FrameFits, id_at, content_at}
use Rattle.vox_scene.specs.declared.faults.SceneFault.{SceneFault}
use Rattle.vox_scene.specs.declared.faults.SceneFault.TheVariants.{Memory}
use Rattle.vox_scene.specs.declared.nodes.Node.{Node}
use Rattle.vox_scene.specs.declared.reading.Nodes.{Nodes}
use Rattle.vox_scene.specs.Nodes.{is_node, node_in, node_fault, kind_with}

-- the node of a chunk, where it has one
abbrev pub nodes_in : List ℕ → List ℕ → List Node
nodes_in id content = if is_node id then option_to_list (node_in id content) else []

-- the nodes of the children before child i
abbrev pub nodes_before : List ℕ → ℕ → ℕ → List Node
nodes_before bytes first zero = []
nodes_before bytes first (suc i) =
    nodes_before bytes first i ++ nodes_in (id_at bytes (place_of bytes first i))
    (content_at bytes (place_of bytes first i))

-- the rule that a chunk breaks, behind these nodes
abbrev pub chunk_fault : List Node → List ℕ → List ℕ → ℕ → Option SceneFault
chunk_fault before id content place =
    if is_node id then node_fault place before (node_in id content) else None

-- the rule that child i breaks
abbrev pub scene_fault_at : List ℕ → ℕ → ℕ → Option SceneFault
scene_fault_at bytes first i =
    chunk_fault (nodes_before bytes first i) (id_at bytes (place_of bytes first i))
    (content_at bytes (place_of bytes first i)) (place_of bytes first i)

-- the frames of the children before child i fit, and the nodes among them break no rule
pub record NodesAreRead (bytes : List ℕ) (main : Bounds) (i : ℕ) : Type 0 where
  pub frames : (k : ℕ) → k < i → FrameFits bytes main.end (place_of bytes main.first k)
  pub fine : (k : ℕ) → k < i → scene_fault_at bytes main.first k ≡ None

-- no node breaks a rule, and these are all
pub record AreNodes (bytes : List ℕ) (nodes : List Node) : Type 0 where
  pub main : Bounds
  pub header : header_of bytes ≡ Ok main
  pub children : ℕ
  pub read : NodesAreRead bytes main children
  pub ends : main.end ≤ place_of bytes main.first children
  pub are : nodes ≡ nodes_before bytes main.first children

-- the child is the first whose node breaks a rule
pub record IsFirstNodeFault (bytes : List ℕ) (fault : SceneFault) : Type 0 where
  pub main : Bounds
  pub header : header_of bytes ≡ Ok main
  pub child : ℕ
  pub before : NodesAreRead bytes main child
  pub fits : FrameFits bytes main.end (place_of bytes main.first child)
  pub breaks : scene_fault_at bytes main.first child ≡ Some fault

-- what a refusal says of the nodes: want of memory says nothing
abbrev pub RefusesNodes : SceneFault → List ℕ → Type 0
RefusesNodes Memory bytes = Unit {0}
RefusesNodes fault bytes = IsFirstNodeFault bytes fault

abbrev pub is_any : List Node → Bool
is_any [] = false
is_any (first ∷ more) = true

-- each of these nodes is found by its id, and no other
pub record FindsNodes (nodes : List Node) (found : Nodes) : Type 0 where
  pub each : (id : ℕ) → get nat_cmp found.by_id id ≡ kind_with id nodes
  pub any : found.is_any ≡ is_any nodes
