-- Each answer is a step of the core's state, or changes nothing.
use Rattle.std.proofs.Common.{◌≡◌, ℕ, inl, inr, List}
use Rattle.std.proofs.Common.{◌⊎◌}
use Rattle.vox_read.specs.Contents.{Content}
use Rattle.node_words.specs.declared.shapes.names.Name.{Name}
use Rattle.node_words.specs.declared.keys.Key.{Key}
use Rattle.node_words.specs.Plans.{Layout}
use Rattle.core_laws.specs.States.{State}
use Rattle.core_laws.specs.Events.{raises, adds, lowers, frees}
use Rattle.core_laws.specs.LogEvents.{Step, stores, pins, appends, forgets}
use Rattle.world_core.specs.declared.events.Event.{Event}
use Rattle.world_core.specs.declared.events.Event.TheVariants.{Leaf, Node, Raise, Lower, Pin, Append, Forget}
use Rattle.world_core.specs.declared.events.Reply.{Reply}
use Rattle.world_core.specs.declared.events.Reply.TheVariants.{Held, Full, Left, Freed, Pinned, NoVersion, Forgotten, Appended, LogFull, Stale, Forgot, IsHead}
use Rattle.world_core.specs.Effects.{TakesOne, finds, opens}
use Rattle.world_core.specs.Answering.{Replies, Happens, happens, refuses}
use Rattle.interleave.specs.Statements.{session_of}

-- nothing changed, or the session took a step
abbrev pub Moves : Layout → List Content → ℕ → State → State → Type 0
Moves p models session old new = (new ≡ old) ⊎ Step p models session old new

takes_step : (p : Layout) (models : List Content) (session level : ℕ) (key : Key) (n : Name)
    (old new : State)
    → TakesOne p session level key n old new → new.log ≡ old.log → Step p models session old new
takes_step p models session level key n old new (finds f) log =
    stores (raises n f.raises) f.raises.roots log
takes_step p models session level key n old new (opens o) log =
    stores (adds n key o.adds) o.adds.roots log

happens_step : (p : Layout) (models : List Content) (e : Event) (r : Reply) (old new : State)
    → Happens p models e r old new → Moves p models (session_of e) old new
happens_step p models (Leaf s bits) (Held n) old new h =
    inr (takes_step p models s 0 _ n old new h.changes h.log)
happens_step p models (Leaf s bits) (Full f) old new h = inl h.same
happens_step p models (Leaf s bits) _ old new h = absurd h
happens_step p models (Node s level children) (Held n) old new h =
    inr (takes_step p models s level _ n old new h.changes h.log)
happens_step p models (Node s level children) (Full f) old new h = inl h.same
happens_step p models (Node s level children) _ old new h = absurd h
happens_step p models (Raise s n) (Held m) old new h =
    inr (stores (raises n h.changes.1) h.changes.1.roots h.log)
happens_step p models (Raise s n) _ old new h = absurd h
happens_step p models (Lower s n) Left old new h =
    inr (stores (lowers n h.changes) h.changes.roots h.log)
happens_step p models (Lower s n) (Freed children) old new h =
    inr (stores (frees n h.changes.1) h.changes.1.roots h.log)
happens_step p models (Lower s n) _ old new h = absurd h
happens_step p models (Pin s v) (Pinned version at root) old new h =
    inr (pins version h.2.pins h.2.log)
happens_step p models (Pin s v) (NoVersion at) old new h = inl h.same
happens_step p models (Pin s v) (Forgotten at mark) old new h = inl h.same
happens_step p models (Pin s v) _ old new h = absurd h
happens_step p models (Append s line act base root) (Appended number) old new h =
    inr (appends _ root h.appends)
happens_step p models (Append s line act base root) LogFull old new h = inl h.same
happens_step p models (Append s line act base root) (Stale at) old new h = inl h.same
happens_step p models (Append s line act base root) _ old new h = absurd h
happens_step p models (Forget s line version) (Forgot at root) old new h =
    inr (forgets _ h.1.forgets)
happens_step p models (Forget s line version) (NoVersion at) old new h = inl h.same
happens_step p models (Forget s line version) (IsHead at) old new h = inl h.same
happens_step p models (Forget s line version) (Forgotten at mark) old new h = inl h.same
happens_step p models (Forget s line version) _ old new h = absurd h

pub answers_step : (p : Layout) (models : List Content) (e : Event) (r : Reply) (old new : State)
    → Replies p models e r old new → Moves p models (session_of e) old new
answers_step p models e r old new (happens lawful h) = happens_step p models e r old new h
answers_step p models e r old new (refuses unlawful told same) = inl same
