-- What a world that stands open is: versions in a store, with nothing held between two calls.
use Rattle.std.specs.Prelude.{List}
use Rattle.vox_read.specs.Contents.{Content}
use Rattle.history_model.specs.Logs.{Log}
use Rattle.node_words.specs.Plans.{Layout}
use Rattle.conformance.specs.scripts.Keeping.{MadeAndMet}
pub use Rattle.act_rebuilds.specs.Drawn.{size_of}
use Rattle.store_run.specs.declared.stored_versions.Versions.{Versions}
use Rattle.store_run.specs.Kept.{plan_of, log_of, noted_of, AreStoredVersions, AreVersions, HoldsNothing}

pub record WorldState : Type 0 where
  pub plan : Layout
  pub models : List Content
  pub log : Log
  pub noted : MadeAndMet

abbrev pub world_state : Versions → WorldState
world_state v = record {
  plan = plan_of v;
  models = v.models.models;
  log = log_of v;
  noted = noted_of v;
}

-- between two calls
pub record AreVersionsAtRest (v : Versions) : Type 0 where
  pub are : AreVersions v
  pub nothing : HoldsNothing v.store

-- the same of versions whose cells may have tints
pub record AreStoredAtRest (v : Versions) : Type 0 where
  pub are : AreStoredVersions v
  pub nothing : HoldsNothing v.store
