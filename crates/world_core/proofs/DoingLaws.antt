-- What was done to the lists is what the event asks for.
use Rattle.std.proofs.Common.{◌≡◌, ◌≢◌, ℕ, ◌<◌, ◌≤◌, sym, ◌∙◌, arith, Some, Option, length}
use Rattle.node_words.specs.declared.shapes.names.Name.{Name}
use Rattle.core_laws.specs.places.WordIds.{versions}
use Rattle.history_model.specs.declared.acts.Act.{Act}
use Rattle.core_laws.specs.LogEvents.{MayAppend}
use Rattle.core_laws.specs.States.{IsLive}
use Rattle.core_laws.proofs.Lives.{root_lives, under_lives}
use Rattle.world_core.specs.Lawful.{MayAskAppend, MayRaise}
use Rattle.world_core.specs.Stored.{Stored, IsStored, root_in, stored_state}
use Rattle.world_core.proofs.LowerLaws.{held_live}

-- a name that may be raised is live
pub raised_live : (s : Stored) (session : ℕ) (n : Name) → IsStored s
    → MayRaise (stored_state s) session n → IsLive s.plan (stored_state s) n
raised_live s session n is may =
    under_lives s.plan (stored_state s) n may.reached.over is.sound.entries
    (held_live s session may.reached.over is may.reached.held) may.reached.under

pub root_live : (s : Stored) (v : ℕ) (root : Option Name) (n : Name) → IsStored s → v < versions
    → root ≡ root_in s.roots v → root ≡ Some n → IsLive s.plan (stored_state s) n
root_live s v root n is lt its some =
    root_lives s.plan (stored_state s) v n is.sound.entries lt (sym its ∙ some)

pub may_append : (s : Stored) (session line : ℕ) (act : Act) (base at : ℕ) (root : Option Name)
    → at ≡ length s.log.records → at ≤ 65535 → at ≢ 65535 → at ≤ base
    → MayAskAppend s.plan s.models (stored_state s) session act base root
    → MayAppend s.plan s.models (record { session = session; line = line; act = act }) root
    (stored_state s)
may_append s session line act base at root of_at le room not_past may =
    let within = may.base_in in
    let newest : base ≡ length s.log.records = omega arith in
    let made = may.made newest in
    record {
      room = omega arith;
      fits = may.fits;
      follows = made.follows;
      level = may.level;
      cells = made.cells;
      shows = made.shows;
      makes = made.makes;
    }
