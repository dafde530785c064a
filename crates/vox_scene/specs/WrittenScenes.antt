-- The file of models, as it is read.
use Rattle.std.specs.Prelude.{◌+◌, ◌^◌, ◌≤◌, List, Ok}
use Rattle.vox_read.specs.Contents.{Content, AreModels}
use Rattle.vox_read.specs.Files.{ReadsModels}
use Rattle.vox_write.specs.Written.{chunks_length, models_file}

-- a file of models of at most 2^28 bytes says these models
abbrev pub FilesOfModelsAreRead : Type 0
FilesOfModelsAreRead = (models : List Content) → AreModels models
    → 20 + chunks_length models ≤ 2 ^ 28 → ReadsModels (models_file models) (Ok models)
