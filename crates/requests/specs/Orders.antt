-- What a run is asked for.
use Rattle.std.specs.Prelude.{ℕ, ◌-◌, Bool, true, false, if◌then◌else◌, List, Option, Some, None}
use Rattle.node_words.specs.Plans.{Layout, is_number_of_buckets}
use Rattle.history_model.specs.declared.questions.Question.{Question}

-- how the world's store is laid out, whether the world's cells have tints, how many last versions
-- alone are held, or 0 for all, the names of the journal and of the report where they are wanted,
-- and those of the VOX file and of the scripts, of which the first is that of session 0
pub record Asked : Type 0 where
  pub plan : Layout
  pub tint : Bool
  pub keep : ℕ
  pub journal : Option (List ℕ)
  pub report : Option (List ℕ)
  pub file : List ℕ
  pub scripts : List (List ℕ)

-- the exponent of the side of the world that a store of this side keeps: a quarter of the side
-- where cells have tints
abbrev pub world_exponent : Bool → ℕ → ℕ
world_exponent true side = side - 2
world_exponent false side = side

-- that of a run's world
abbrev pub asked_side : Asked → ℕ
asked_side asked = world_exponent asked.tint asked.plan.side

-- what a flood is asked for: the name of the VOX file, the number of its model, the place from
-- which is flooded, and the name of the region's file
pub record FloodAsked : Type 0 where
  pub file : List ℕ
  pub model : ℕ
  pub x : ℕ
  pub y : ℕ
  pub z : ℕ
  pub out : List ℕ

-- what is asked of a scene: the names of the VOX file, of the file of the turned models, and of the
-- script of their stamps
pub record SceneAsked : Type 0 where
  pub file : List ℕ
  pub out : List ℕ
  pub script : List ℕ

-- what an audit is asked for: the number of buckets of each level by which a full one is judged,
-- where it isn't the usual one, how many last versions alone were held, or 0 for all, and the names
-- of the VOX file, of the journal and of the scripts, of which the first is that of session 0
pub record AuditAsked : Type 0 where
  pub buckets : Option ℕ
  pub keep : ℕ
  pub file : List ℕ
  pub journal : List ℕ
  pub scripts : List (List ℕ)

-- a number of buckets in its range
abbrev pub allowed_buckets : ℕ → Option ℕ
allowed_buckets n = if is_number_of_buckets n then Some n else None

-- what is asked for the file of the versions of a journal: the names of the VOX file, of the
-- journal and of that file
pub record DagAsked : Type 0 where
  pub file : List ℕ
  pub journal : List ℕ
  pub out : List ℕ

-- what is asked of a file of many versions: its name, the number of a version, and a question
pub record LookAsked : Type 0 where
  pub dag : List ℕ
  pub version : ℕ
  pub question : Question
