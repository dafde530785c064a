-- Steps of the lists that a core keeps: what happens to the state, and that the lists stay sound.
use Rattle.std.specs.Prelude.{◌≡◌, ℕ, Option, Some, None, length}
use Rattle.node_words.specs.declared.shapes.names.Name.{Name}
use Rattle.node_words.specs.declared.keys.Key.{Key}
use Rattle.bucket_core.specs.Buckets.{HasNone}
use Rattle.world_core.specs.Slots.{bucket_at}
use Rattle.core_laws.specs.Events.{IsMissing, Raises, Adds, Lowers, Frees}
use Rattle.core_laws.specs.States.{IsLive}
use Rattle.core_laws.specs.Soundness.{IsFull}
use Rattle.history_model.specs.declared.histories.Record.{Record}
use Rattle.history_model.specs.declared.histories.Mark.{Mark}
use Rattle.core_laws.specs.LogEvents.{Appends, Forgets}
use Rattle.world_core.specs.Answering.{Happens}
use Rattle.world_core.specs.declared.events.Event.{Event}
use Rattle.world_core.specs.declared.events.Reply.{Reply}
use Rattle.world_core.specs.declared.events.Reply.TheVariants.{Held, Full}
use Rattle.world_core.specs.Effects.{IsLowest, TakesOne, MetFull}
use Rattle.world_core.specs.Stored.{Stored, IsStored, root_in, stored_state}

-- the lists are sound, and the plan, the models and the log are as before
pub record Stays (old new : Stored) : Type 0 where
  pub plan : new.plan ≡ old.plan
  pub models : new.models ≡ old.models
  pub log : new.log ≡ old.log
  pub stored : IsStored new

pub record RaisesEntry (old : Stored) (session : ℕ) (n : Name) (new : Stored) : Type 0 where
  pub raises : Raises old.plan session n (stored_state old) (stored_state new)
  pub stays : Stays old new

pub record LowersEntry (old : Stored) (session : ℕ) (n : Name) (new : Stored) : Type 0 where
  pub lowers : Lowers old.plan session n (stored_state old) (stored_state new)
  pub stays : Stays old new

pub record FreesEntry (old : Stored) (session : ℕ) (n : Name) (new : Stored) : Type 0 where
  pub frees : Frees old.plan session n (stored_state old) (stored_state new)
  pub stays : Stays old new

-- no live entry of the level, and no slot of this bucket, has the key
pub record IsNowhere (s : Stored) (level bucket : ℕ) (key : Key) : Type 0 where
  pub missing : IsMissing s.plan (stored_state s) level key
  pub absent : HasNone (bucket_at s.entries level bucket) key
      (length (bucket_at s.entries level bucket))

-- the live entry n has the key
pub record FindsEntry (s : Stored) (level : ℕ) (key : Key) (n : Name) : Type 0 where
  pub same_level : n.level ≡ level
  pub same_key : (stored_state s).key n ≡ key
  pub live : IsLive s.plan (stored_state s) n

pub record AddsEntry (old : Stored) (session level : ℕ) (key : Key) (n : Name)
    (new : Stored) : Type 0 where
  pub same_level : n.level ≡ level
  pub lowest : IsLowest (stored_state old) n
  pub adds : Adds old.plan session n key (stored_state old) (stored_state new)
  pub stays : Stays old new

-- an entry was made, or no slot was free
abbrev pub AddsOrMeets : Stored → ℕ → ℕ → ℕ → Key → Option Name → Stored → Type 0
AddsOrMeets old session level bucket key None new =
    IsFull old.plan (stored_state old) level bucket × (new ≡ old)
AddsOrMeets old session level bucket key (Some n) new = AddsEntry old session level key n new

pub record TakesShare (old : Stored) (session level : ℕ) (key : Key) (n : Name)
    (new : Stored) : Type 0 where
  pub takes : TakesOne old.plan session level key n (stored_state old) (stored_state new)
  pub stays : Stays old new

-- a share of the key's entry came, or its bucket was full
abbrev pub TakesEntry : Stored → ℕ → ℕ → Key → Reply → Stored → Type 0
TakesEntry old session level key (Held n) new = TakesShare old session level key n new
TakesEntry old session level key (Full full) new =
    MetFull old.plan level key full (stored_state old) × (new ≡ old)
TakesEntry old session level key _ new = ⊥

-- the plan and the models are as before, and the lists are sound
pub record KeepsStored (old new : Stored) : Type 0 where
  pub plan : new.plan ≡ old.plan
  pub models : new.models ≡ old.models
  pub stored : IsStored new

-- the event has happened to the lists
pub record Does (event : Event) (old : Stored) (reply : Reply) (new : Stored) : Type 0 where
  pub happens : Happens old.plan old.models event reply (stored_state old) (stored_state new)
  pub keeps : KeepsStored old new

pub record AppendsRoot (old : Stored) (r : Record) (root : Option Name)
    (new : Stored) : Type 0 where
  pub appends : Appends old.plan old.models r.session r root (stored_state old) (stored_state new)
  pub keeps : KeepsStored old new

-- the version is marked, and its root leaves
pub record MarksRoot (old : Stored) (mark : Mark) (root : Option Name) (new : Stored) : Type 0 where
  pub its_root : root ≡ root_in old.roots mark.version
  pub forgets : Forgets old.plan mark.session mark (stored_state old) (stored_state new)
  pub keeps : KeepsStored old new

-- a share of the root came, where there is one
abbrev pub SharesRoot : Stored → ℕ → Option Name → Stored → Type 0
SharesRoot old session None new = new ≡ old
SharesRoot old session (Some n) new = RaisesEntry old session n new
