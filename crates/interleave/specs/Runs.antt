-- The states that events lead through, one after another.
use Rattle.std.specs.Prelude.{◌≡◌, ℕ, ◌+◌, ◌<◌, None, List, length, slice_index_or}
use Rattle.vox_read.specs.Contents.{Content}
use Rattle.node_words.specs.Plans.{Layout}
use Rattle.core_laws.specs.States.{State}
use Rattle.world_core.specs.declared.events.Event.{Event}
use Rattle.world_core.specs.declared.events.Event.TheVariants.{Pin}
use Rattle.world_core.specs.declared.events.Reply.{Reply}
use Rattle.world_core.specs.declared.events.Reply.TheVariants.{Unlawful}
use Rattle.world_core.specs.Answering.{Replies}
use Rattle.world_core.specs.Beginning.{HasBegun}

-- the event and the reply at a place, any ones past the end
abbrev pub event_at : List Event → ℕ → Event
event_at events k = slice_index_or events k (Pin 0 None)

abbrev pub reply_at : List Reply → ℕ → Reply
reply_at replies k = slice_index_or replies k Unlawful

-- state 0 is one in which nothing was done, and each event is answered from its state to the next
pub record IsRun (p : Layout) (models : List Content) (sessions : ℕ) (events : List Event)
    (replies : List Reply) (states : ℕ → State) : Type 0 where
  pub begins : HasBegun p sessions (states 0)
  pub as_many : length replies ≡ length events
  pub each : (k : ℕ) → k < length events
      → Replies p models (event_at events k) (reply_at replies k) (states k) (states (k + 1))

-- the events led to this state with these replies
pub record HasRun (p : Layout) (models : List Content) (sessions : ℕ) (events : List Event)
    (replies : List Reply) (last : State) : Type 0 where
  pub states : ℕ → State
  pub run : IsRun p models sessions events replies states
  pub ends : states (length events) ≡ last
