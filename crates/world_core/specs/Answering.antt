-- What each reply to an event stands for.
use Rattle.std.specs.Prelude.{◌≡◌, ℕ, ◌+◌, ◌<◌, Option, Some, None, List, [], ◌∷◌, length}
use Rattle.std.specs.List.{Contains}
use Rattle.vox_read.specs.Contents.{Content}
use Rattle.node_words.specs.declared.shapes.names.Name.{Name}
use Rattle.node_words.specs.declared.keys.Key.{Key}
use Rattle.node_words.specs.declared.keys.Key as keys
use Rattle.node_words.specs.Plans.{Layout}
use Rattle.history_model.specs.declared.histories.Mark.{Mark}
use Rattle.core_laws.specs.States.{State}
use Rattle.core_laws.specs.Events.{Raises, Lowers, Frees}
use Rattle.core_laws.specs.LogEvents.{Appends, Forgets, Pins}
use Rattle.world_core.specs.declared.events.Event.{Event}
use Rattle.world_core.specs.declared.events.Event.TheVariants.{Leaf, Node, Raise, Lower, Pin, Append, Forget}
use Rattle.world_core.specs.declared.events.Reply.{Reply}
use Rattle.world_core.specs.declared.events.Reply.TheVariants.{Held, Full, Left, Freed, Pinned, NoVersion, Forgotten, Appended, LogFull, Stale, Forgot, IsHead, Unlawful}
use Rattle.world_core.specs.Effects.{TakesOne, MetFull}
use Rattle.world_core.specs.Lawful.{IsLawful}

-- how many records there are
abbrev pub moment : State → ℕ
moment state = length state.log.records

-- the version that is asked for, the newest where none is named
abbrev pub asked_for : State → Option ℕ → ℕ
asked_for state None = moment state
asked_for state (Some version) = version

-- the children of a key, none of a leaf's
abbrev pub children_in : Key → List (Option Name)
children_in (keys.TheVariants.Leaf bits) =
    None ∷ None ∷ None ∷ None ∷ None ∷ None ∷ None ∷ None ∷ []
children_in (keys.TheVariants.Node children) = children

-- the mark is that of the version
pub record IsMarkOf (state : State) (mark : Mark) (version : ℕ) : Type 0 where
  pub there : Contains state.log.marks mark
  pub its_version : mark.version ≡ version

-- entries change as is said, and the log doesn't
pub record Shares (Changes : Type 0) (old new : State) : Type 0 where
  pub changes : Changes
  pub log : new.log ≡ old.log

-- the state is told so, and stays
pub record TellsOnly (Told : Type 0) (old new : State) : Type 0 where
  pub told : Told
  pub same : new ≡ old

-- the version is kept, and a share of its root comes to the session
pub record PinsRoot (p : Layout) (session version : ℕ) (root : Option Name)
    (old new : State) : Type 0 where
  pub its_root : root ≡ old.root version
  pub pins : Pins p session version old new
  pub log : new.log ≡ old.log

-- the version gets its mark, and the share of its root is the session's
pub record MarksVersion (p : Layout) (session line version : ℕ) (root : Option Name)
    (old new : State) : Type 0 where
  pub its_root : root ≡ old.root version
  pub forgets : Forgets p session
      (record { version = version; at = moment old; session = session; line = line }) old new

-- the act becomes the next record, for which there is room
pub record AppendsRecord (p : Layout) (models : List Content) (session line : ℕ)
    (act : Rattle.history_model.specs.declared.acts.Act.Act) (base number : ℕ) (root : Option Name)
    (old new : State) : Type 0 where
  pub newest : base ≡ moment old
  pub number_is : number ≡ moment old + 1
  pub appends : Appends p models session
      (record { session = session; line = line; act = act }) root old new

-- the event has happened, and this is its reply
abbrev pub Happens : Layout → List Content → Event → Reply → State → State → Type 0
Happens p models (Leaf s bits) (Held n) old new =
    Shares (TakesOne p s 0 (keys.TheVariants.Leaf bits) n old new) old new
Happens p models (Leaf s bits) (Full full) old new =
    TellsOnly (MetFull p 0 (keys.TheVariants.Leaf bits) full old) old new
Happens p models (Node s level children) (Held n) old new =
    Shares (TakesOne p s level (keys.TheVariants.Node children) n old new) old new
Happens p models (Node s level children) (Full full) old new =
    TellsOnly (MetFull p level (keys.TheVariants.Node children) full old) old new
Happens p models (Raise s n) (Held m) old new = Shares ((m ≡ n) × Raises p s n old new) old new
Happens p models (Lower s n) Left old new = Shares (Lowers p s n old new) old new
Happens p models (Lower s n) (Freed children) old new =
    Shares ((children ≡ children_in (old.key n)) × Frees p s n old new) old new
Happens p models (Pin s v) (Pinned version at root) old new =
    (version ≡ asked_for old v) × (at ≡ moment old) × PinsRoot p s version root old new
Happens p models (Pin s v) (NoVersion at) old new =
    TellsOnly ((at ≡ moment old) × (moment old < asked_for old v)) old new
Happens p models (Pin s v) (Forgotten at mark) old new =
    TellsOnly ((at ≡ moment old) × IsMarkOf old mark (asked_for old v)) old new
Happens p models (Append s line act base root) (Appended number) old new =
    AppendsRecord p models s line act base number root old new
Happens p models (Append s line act base root) LogFull old new =
    TellsOnly (moment old ≡ 65535) old new
Happens p models (Append s line act base root) (Stale at) old new =
    TellsOnly ((at ≡ moment old) × (moment old < 65535) × (base < moment old)) old new
Happens p models (Forget s line version) (Forgot at root) old new =
    (at ≡ moment old) × MarksVersion p s line version root old new
Happens p models (Forget s line version) (NoVersion at) old new =
    TellsOnly ((at ≡ moment old) × (moment old < version)) old new
Happens p models (Forget s line version) (IsHead at) old new =
    TellsOnly ((at ≡ moment old) × (version ≡ moment old)) old new
Happens p models (Forget s line version) (Forgotten at mark) old new =
    TellsOnly ((at ≡ moment old) × IsMarkOf old mark version) old new
Happens _ _ _ _ _ _ = ⊥

-- the core's answer: a lawful event happens; one that isn't lawful is told so, and nothing changes
pub data Replies (p : Layout) (models : List Content) (event : Event) (reply : Reply)
    (old new : State) : Type 0 where
  happens : IsLawful p models old event → Happens p models event reply old new
      → Replies p models event reply old new
  refuses : ¬ IsLawful p models old event → reply ≡ Unlawful → new ≡ old
      → Replies p models event reply old new
