-- What a VOX file says: its models, or its first fault.
use Rattle.std.specs.Prelude.{◌≡◌, ℕ, ◌<◌, ◌≤◌, ◌⊎◌, List, Some, None, Result, Ok, Err}
use Rattle.vox_chunk.specs.declared.faults.VoxFault.{VoxFault}
use Rattle.vox_chunk.specs.declared.faults.VoxFault.TheVariants.{Truncated, Memory}
use Rattle.vox_chunk.specs.Frames.{Bounds, header_of, place_of, FrameFits}
use Rattle.vox_read.specs.Contents.{Content}
use Rattle.vox_read.specs.Children.{child_fault, models_before}

-- the children before child i break no rule: the frame of each fits, and so do its fields
pub record AreRead (bytes : List ℕ) (main : Bounds) (i : ℕ) : Type 0 where
  pub frames : (k : ℕ) → k < i → FrameFits bytes main.end (place_of bytes main.first k)
  pub fields : (k : ℕ) → k < i → child_fault bytes main.first k ≡ None

-- child i breaks a rule: its frame doesn't fit, or its frame fits and its fields don't
abbrev pub Breaks : List ℕ → Bounds → ℕ → VoxFault → Type 0
Breaks bytes main i fault =
    ((FrameFits bytes main.end (place_of bytes main.first i) → ⊥)
    × (fault ≡ Truncated (place_of bytes main.first i)))
    ⊎ (FrameFits bytes main.end (place_of bytes main.first i)
    × (child_fault bytes main.first i ≡ Some fault))

-- child i is the first that breaks a rule
pub record IsFirstFault (bytes : List ℕ) (fault : VoxFault) : Type 0 where
  pub main : Bounds
  pub header : header_of bytes ≡ Ok main
  pub child : ℕ
  pub before : AreRead bytes main child
  pub begins : place_of bytes main.first child < main.end
  pub breaks : Breaks bytes main child fault

-- no child breaks a rule, and these are their models
pub record HasModels (bytes : List ℕ) (models : List Content) : Type 0 where
  pub main : Bounds
  pub header : header_of bytes ≡ Ok main
  pub children : ℕ
  pub read : AreRead bytes main children
  pub ends : main.end ≤ place_of bytes main.first children
  pub are : models ≡ models_before bytes main.first children

-- what the bytes say; the header's rules come before those of the children
abbrev pub ReadsModels : List ℕ → Result (List Content) VoxFault → Type 0
ReadsModels bytes (Ok models) = HasModels bytes models
ReadsModels bytes (Err fault) = (header_of bytes ≡ Err fault) ⊎ IsFirstFault bytes fault

-- what a refusal says of the bytes: want of memory says nothing
abbrev pub RefusesFile : VoxFault → List ℕ → Type 0
RefusesFile Memory bytes = Unit {0}
RefusesFile fault bytes = ReadsModels bytes (Err fault)
