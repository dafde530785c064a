-- Laws of what is judged: of the models of a VOX file, and of a command told as one of all.
use Rattle.std.proofs.Common.{◌≡◌, ℕ, List, Result, Ok, Err, refl, sym, subst, ◌∙◌}
use Rattle.vox_chunk.specs.declared.faults.VoxFault.{VoxFault}
use Rattle.vox_read.specs.Contents.{Content}
use Rattle.vox_read.specs.Files.{ReadsModels}
use Rattle.vox_read.specs.Once.{one_reading}
use Rattle.commands.specs.Judging.{FilesAreRead, IsJudged}
use Rattle.commands.specs.Meanings.{Meaning, told_as}
use Rattle.commands.specs.Verdicts.{Verdict, HasVoxFault, JudgesReading, JudgesModels}

-- ---- a VOX file, and what is judged of its models

reading_once : (more : List Content → Verdict → Type 0)
    → ((models : List Content) (v w : Verdict) → more models v → more models w → v ≡ w)
    → (reading : Result (List Content) VoxFault) (v w : Verdict) → JudgesReading more reading v
    → JudgesReading more reading w → v ≡ w
reading_once more once (Err fault) v w of_v of_w = of_v ∙ sym of_w
reading_once more once (Ok models) v w of_v of_w = once models v w of_v of_w

pub models_once : (more : List Content → Verdict → Type 0)
    → ((models : List Content) (v w : Verdict) → more models v → more models w → v ≡ w)
    → (bytes : List ℕ) (v w : Verdict) → JudgesModels more bytes v → JudgesModels more bytes w
    → v ≡ w
models_once more once bytes v w of_v of_w =
    reading_once more once of_w.reading v w
    (subst (λ (r : Result (List Content) VoxFault). JudgesReading more r v)
    (one_reading bytes of_v.reading of_w.reading of_v.says of_w.says) of_v.judged) of_w.judged

reading_computed : (more : List Content → Verdict → Type 0) (bytes : List ℕ)
    → ((models : List Content) → ReadsModels bytes (Ok models) → (v : Verdict) × more models v)
    → (reading : Result (List Content) VoxFault) → ReadsModels bytes reading
    → (v : Verdict) × JudgesModels more bytes v
reading_computed more bytes each (Err fault) says =
    (HasVoxFault fault, record { reading = Err fault; says = says; judged = refl })
reading_computed more bytes each (Ok models) says =
    let of_models = each models says in
    (of_models.0, record { reading = Ok models; says = says; judged = of_models.1 })

pub models_computed : (more : List Content → Verdict → Type 0) (bytes : List ℕ) → FilesAreRead
    → ((models : List Content) → ReadsModels bytes (Ok models) → (v : Verdict) × more models v)
    → (v : Verdict) × JudgesModels more bytes v
models_computed more bytes readings each =
    let reading = readings bytes in reading_computed more bytes each reading.0 reading.1

reading_not_lacking : (more : List Content → Verdict → Type 0) (bytes : List ℕ)
    → ((models : List Content) → ((v : Verdict) → more models v → ⊥) → ⊥)
    → (reading : Result (List Content) VoxFault) → ReadsModels bytes reading
    → ((v : Verdict) → JudgesModels more bytes v → ⊥) → ⊥
reading_not_lacking more bytes each (Err fault) says none =
    none (HasVoxFault fault) (record { reading = Err fault; says = says; judged = refl })
reading_not_lacking more bytes each (Ok models) says none =
    each models
    (λ v judged. none v (record { reading = Ok models; says = says; judged = judged }))

pub models_not_lacking : (more : List Content → Verdict → Type 0) (bytes : List ℕ) → FilesAreRead
    → ((models : List Content) → ((v : Verdict) → more models v → ⊥) → ⊥)
    → ((v : Verdict) → JudgesModels more bytes v → ⊥) → ⊥
models_not_lacking more bytes readings each none =
    let reading = readings bytes in
    reading_not_lacking more bytes each reading.0 reading.1 none

-- what is computed isn't lacking
pub computed_is_some : (judges : Verdict → Type 0) → (v : Verdict) × judges v
    → ((v : Verdict) → judges v → ⊥) → ⊥
computed_is_some judges is none = none is.0 is.1

-- ---- the same command, told as one of all

pub judged_as : {T U : Type 0} (make : T → U) (m : Meaning T) → IsJudged m
    → IsJudged (told_as make m)
judged_as make m laws = record {
  one = laws.one;
  given = λ texts told outputs gives. laws.given texts gives.own outputs gives.given;
  begun = laws.begun;
  refused = laws.refused;
  some = laws.some;
  computed = laws.computed;
}
