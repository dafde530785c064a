-- Outputs that are written one after the other, and what stands on the shelf afterwards.
use Rattle.std.specs.Prelude.{◌≡◌, ◌≤◌, ℕ, List, [], ◌∷◌, ◌++◌, Option, Some, None, Err, if◌then◌else◌}
use Rattle.std.specs.Str.{bytes_eq}
use Rattle.vw_io.specs.declared.shelves.WriteRefused.{WriteRefused}
use Rattle.vw_io.specs.declared.shelves.WriteRefused.TheVariants.{Failed, Memory}
use Rattle.vw_io.specs.Outside.{Files, Rose}
use Rattle.vw_io.specs.Write.{WriteSpec}

-- a name and the bytes that are written under it
pub record Named : Type 0 where
  pub name : List ℕ
  pub bytes : List ℕ

-- the files with these outputs written one after the other
abbrev pub written : List Named → Files → Files
written [] files = files
written (output ∷ others) files =
    written others (λ name. if bytes_eq name output.name then Some output.bytes else files name)

-- name by name, the files are those of before with these outputs written
pub record Leaves (outputs : List Named) (old new : Files) : Type 0 where
  pub each : (name : List ℕ) → new name ≡ written outputs old name

-- the same at optional maps: one that isn't told stays untold, and one that is told stays told
abbrev pub AreWritten : List Named → Option Files → Option Files → Type 0
AreWritten outputs None new = new ≡ None
AreWritten outputs (Some old) None = ⊥
AreWritten outputs (Some old) (Some new) = Leaves outputs old new

-- some of the first outputs are whole, and nothing else has changed
pub record ArePrefix (outputs : List Named) (old new : Option Files) : Type 0 where
  pub first : List Named
  pub others : List Named
  pub parts : outputs ≡ first ++ others
  pub whole : AreWritten first old new

-- the outputs before the one of this name are whole, and its own write failed and left what a
-- failed write leaves
pub record BreaksAt (name : List ℕ) (outputs : List Named) (old new : Option Files) : Type 0 where
  pub output : Named
  pub named : name ≡ output.name
  pub first : List Named
  pub others : List Named
  pub parts : outputs ≡ first ++ output ∷ others
  pub between : Option Files
  pub whole : AreWritten first old between
  pub left : WriteSpec between new output.name output.bytes (Err Failed)

-- what stands on the shelf where not all were written
abbrev pub StopsWith : WriteRefused → List ℕ → List Named → Option Files → Option Files → ℕ → ℕ
    → Type 0
StopsWith Failed name outputs old new faults risen =
    BreaksAt name outputs old new × Rose faults risen
StopsWith Memory name outputs old new faults risen = ArePrefix outputs old new × (faults ≤ risen)
