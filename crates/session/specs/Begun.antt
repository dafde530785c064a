-- What a new world is, and its sessions.
use Rattle.std.specs.Prelude.{◌≡◌, ℕ, Bool, List, All, length}
use Rattle.vox_read.specs.Contents.{Content}
use Rattle.node_words.specs.Plans.{Layout}
use Rattle.node_table.specs.Begins.{AreNewPasses, terms_of}
use Rattle.node_table.specs.TableStates.{TableState, PassState}
use Rattle.session.specs.Resting.{IsAtRest}
use Rattle.session.specs.SessionWorlds.{SessionWorld}

-- it has this plan and these models, its cells have tints or have none, and it holds so many last
-- versions alone, or with 0 all
pub record IsNewWorld (plan : Layout) (models : List Content) (tint : Bool) (keep : ℕ)
    (w : SessionWorld) : Type 0 where
  pub plan_is : w.table.plan ≡ plan
  pub models_are : w.table.models ≡ models
  pub tint_is : w.tint ≡ tint
  pub keep_is : w.keep ≡ keep

-- they are so many, all that its table has, new, and at rest
pub record AreNewSessions (number : ℕ) (t : TableState) (sessions : List PassState) : Type 0 where
  pub made : t.made ≡ number
  pub many : length sessions ≡ number
  pub are_new : AreNewPasses t.id (terms_of t) sessions
  pub at_rest : All (IsAtRest t) sessions
