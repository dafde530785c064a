-- Inputs that are read one after the other, and the first that is not taken.
use Rattle.std.specs.Prelude.{◌≡◌, ℕ, ◌<◌, ◌≤◌, List, [], ◌∷◌, ◌++◌, length, Option, Some, None, IsSomeAnd, ⊤}
use Rattle.vw_io.specs.declared.shelves.ReadRefused.{ReadRefused}
use Rattle.vw_io.specs.declared.shelves.ReadRefused.TheVariants.{Missing, TooLong, Failed, Memory}
use Rattle.vw_io.specs.Outside.{Files, Rose, Stayed}

-- an input's name, and the most bytes that its file may have
pub record WantedInput : Type 0 where
  pub name : List ℕ
  pub limit : ℕ

-- the file of this name has these bytes, where the files are told
abbrev pub FileIs : Option Files → List ℕ → List ℕ → Type 0
FileIs None name bytes = ⊤
FileIs (Some files) name bytes = files name ≡ Some bytes

-- no file has this name, where the files are told
abbrev pub NoFile : Option Files → List ℕ → Type 0
NoFile None name = ⊤
NoFile (Some files) name = files name ≡ None

-- the file of this name has more bytes than the limit, where the files are told
abbrev pub FileIsOver : Option Files → List ℕ → ℕ → Type 0
FileIsOver None name limit = ⊤
FileIsOver (Some files) name limit = IsSomeAnd (files name) (λ bytes. limit < length bytes)

-- an input was taken
pub record Taken (files : Option Files) (input : WantedInput) (bytes : List ℕ) : Type 0 where
  pub is_file : FileIs files input.name bytes
  pub within : length bytes ≤ input.limit

-- all were taken, and these are the bytes of each, in order
abbrev pub AreTaken : Option Files → List WantedInput → List (List ℕ) → Type 0
AreTaken files [] [] = ⊤
AreTaken files [] (bytes ∷ texts) = ⊥
AreTaken files (input ∷ inputs) [] = ⊥
AreTaken files (input ∷ inputs) (bytes ∷ texts) =
    Taken files input bytes × AreTaken files inputs texts

-- this one was asked for, after all before it were taken
pub record GetsTo (files : Option Files) (inputs : List WantedInput)
    (input : WantedInput) : Type 0 where
  pub before : List WantedInput
  pub after : List WantedInput
  pub parts : inputs ≡ before ++ input ∷ after
  pub texts : List (List ℕ)
  pub taken : AreTaken files before texts

-- what stands behind its refusal, where the count of faults was `faults` and is `risen`
abbrev pub RefusesInput : ReadRefused → Option Files → WantedInput → ℕ → ℕ → Type 0
RefusesInput Missing files input faults risen = NoFile files input.name × Stayed faults risen
RefusesInput TooLong files input faults risen =
    FileIsOver files input.name input.limit × Stayed faults risen
RefusesInput Failed files input faults risen = Rose faults risen
RefusesInput Memory files input faults risen = ⊤

-- the first input that was not taken has this name. The count of faults was `at_read` as its read
-- began, which is known exactly where no input was read before: then it is what it was at first
pub record StopsAt (why : ReadRefused) (name : List ℕ) (inputs : List WantedInput)
    (files : Option Files) (faults risen : ℕ) : Type 0 where
  pub input : WantedInput
  pub named : name ≡ input.name
  pub reached : GetsTo files inputs input
  pub at_read : ℕ
  pub before : faults ≤ at_read
  pub first : reached.before ≡ [] → at_read ≡ faults
  pub cause : RefusesInput why files input at_read risen
  pub behind : at_read ≤ risen

-- one more input was taken, and its bytes stand behind those before it
pub record KeepsText (files : Option Files) (input : WantedInput)
    (old new : List (List ℕ)) : Type 0 where
  pub bytes : List ℕ
  pub taken : Taken files input bytes
  pub kept : new ≡ old ++ bytes ∷ []
