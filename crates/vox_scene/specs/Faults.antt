-- The number and the place of each refusal of a scene.
use Rattle.std.specs.Prelude.{◌≡◌, ℕ, Option, Some}
use Rattle.vox_scene.specs.declared.faults.SceneFault.{SceneFault}
use Rattle.vox_scene.specs.declared.faults.SceneFault.TheVariants.{ShortNode, TwoNodes, BadRotation, BadTranslation, NoNode, TooDeep, NoModel, TooMany, TooLarge, Memory}

abbrev pub scene_kind_of : SceneFault → ℕ
scene_kind_of (ShortNode at) = 1
scene_kind_of (TwoNodes at) = 2
scene_kind_of (BadRotation at) = 3
scene_kind_of (BadTranslation at) = 4
scene_kind_of (NoNode at) = 5
scene_kind_of (TooDeep at) = 6
scene_kind_of (NoModel at) = 7
scene_kind_of (TooMany at) = 8
scene_kind_of TooLarge = 9
scene_kind_of Memory = 10

-- the byte position of a chunk's id, or the id of a node; 0 where the refusal names none
abbrev pub place_of_fault : SceneFault → ℕ
place_of_fault (ShortNode at) = at
place_of_fault (TwoNodes at) = at
place_of_fault (BadRotation at) = at
place_of_fault (BadTranslation at) = at
place_of_fault (NoNode at) = at
place_of_fault (TooDeep at) = at
place_of_fault (NoModel at) = at
place_of_fault (TooMany at) = at
place_of_fault TooLarge = 0
place_of_fault Memory = 0

-- what a refusal says of a rule that was tested: that it is the one broken, and want of memory says
-- nothing
abbrev pub SaysNodeRule : SceneFault → Option SceneFault → Type 0
SaysNodeRule Memory broken = Unit {0}
SaysNodeRule fault broken = broken ≡ Some fault
