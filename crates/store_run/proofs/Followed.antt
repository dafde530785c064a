-- A history that is replayed with its marks.
use Rattle.std.proofs.Common.{◌≡◌, ℕ, ◌+◌, ◌<◌, List, [], ◌∷◌, length, Some, None, false, sym, ap, subst, ◌∙◌, arith}
use Rattle.history_model.specs.declared.acts.Act.{Act}
use Rattle.history_model.specs.declared.acts.Act.TheVariants.{Fill, Erase, Ball, Carve, Copy, Stamp, Tint, Undo, Redo}
use Rattle.history_model.specs.declared.histories.Mark.{Mark}
use Rattle.history_model.specs.declared.histories.Record.{Record}
use Rattle.history_model.specs.Logs.{IsVersionHeld, HasTarget, MayFollow}
use Rattle.history_model.specs.Positions.{position_after, first_of}
use Rattle.history_model.specs.Worlds.{is_edit}
use Rattle.node_words.specs.Plans.{Layout}
use Rattle.core_laws.specs.contents.Versions.{HoldsVersion}
use Rattle.conformance.specs.Answers.{target_at}
use Rattle.conformance.proofs.LineKinds.{undo_target, redo_target}
use Rattle.conformance.proofs.OfScripts.Going.{goes_to}
use Rattle.store_run.specs.declared.stored_versions.Versions.{Versions}
use Rattle.store_run.specs.Changing.{LogGainsMark, log_with_record}
use Rattle.store_run.specs.Kept.{log_of, moment_of, AreStoredVersions}
use Rattle.store_run.specs.Marked.{replayed}
use Rattle.store_run.specs.Replaying.{ReplayState, replay_state, MakesOnlyParts, TakesRecord}
use Rattle.store_run.specs.Steps.{GainsMark}
use Rattle.store_run.specs.Worlds.{WorldState, world_state}

-- ---- where an undo or a redo goes that can come next

first_held : (marks : List Mark) (n : ℕ) (vs : List ℕ) (to : ℕ) → first_of vs ≡ Some to
    → HasTarget marks n vs → IsVersionHeld marks n to
first_held marks n [] to is has = absurd has
first_held marks n (v ∷ more) to is has =
    let same : v ≡ to = cc in subst (λ (w : ℕ). IsVersionHeld marks n w) same has

follows_held : (marks : List Mark) (n : ℕ) (act : Act) (records : List Record) (to : ℕ)
    → is_edit act ≡ false → Some to ≡ target_at records (length records) act
    → MayFollow marks n act (position_after records) → IsVersionHeld marks n to
follows_held marks n Undo records to other is may =
    first_held marks n (position_after records).past to (sym (undo_target records) ∙ sym is) may
follows_held marks n Redo records to other is may =
    first_held marks n (position_after records).future to (sym (redo_target records) ∙ sym is) may
follows_held marks n (Fill b) records to other is may = absurd (let no : ⊥ = cc in no)
follows_held marks n (Erase b) records to other is may = absurd (let no : ⊥ = cc in no)
follows_held marks n (Ball b) records to other is may = absurd (let no : ⊥ = cc in no)
follows_held marks n (Carve b) records to other is may = absurd (let no : ⊥ = cc in no)
follows_held marks n (Copy b c) records to other is may = absurd (let no : ⊥ = cc in no)
follows_held marks n (Stamp b c) records to other is may = absurd (let no : ⊥ = cc in no)
follows_held marks n (Tint t) records to other is may = absurd (let no : ⊥ = cc in no)

-- no mark of a legal history is of a later moment, so the version has none
pub followed_kept : (v : Versions) (r : Record) (to : ℕ) → AreStoredVersions v
    → is_edit r.act ≡ false
    → Some to ≡ target_at v.records.items (moment_of v) r.act
    → MayFollow (log_of v).marks (moment_of v + 1) r.act (position_after v.records.items)
    → HoldsVersion (log_of v) to
followed_kept v r to are other goes may =
    let held =
    follows_held (log_of v).marks (moment_of v + 1) r.act v.records.items to other goes may in
    record {
      there = (goes_to (log_of v) r.act to other (sym goes)).there;
      unmarked = λ k m lt same.
          let late = held k m lt same in
          let at = (are.sound.legal.marked k m lt).1 in
          omega (arith, late, at);
    }

none_held : (marks : List Mark) (n : ℕ) (vs : List ℕ) → first_of vs ≡ None → HasTarget marks n vs
    → ⊥
none_held marks n [] is has = has
none_held marks n (v ∷ more) is has = let no : ⊥ = cc in no

-- and there is one
pub target_there : (marks : List Mark) (records : List Record) (n : ℕ) (act : Act)
    → is_edit act ≡ false → None ≡ target_at records (length records) act
    → MayFollow marks n act (position_after records) → ⊥
target_there marks records n Undo other is may =
    none_held marks n (position_after records).past (sym (undo_target records) ∙ sym is) may
target_there marks records n Redo other is may =
    none_held marks n (position_after records).future (sym (redo_target records) ∙ sym is) may
target_there marks records n (Fill b) other is may = let no : ⊥ = cc in no
target_there marks records n (Erase b) other is may = let no : ⊥ = cc in no
target_there marks records n (Ball b) other is may = let no : ⊥ = cc in no
target_there marks records n (Carve b) other is may = let no : ⊥ = cc in no
target_there marks records n (Copy b c) other is may = let no : ⊥ = cc in no
target_there marks records n (Stamp b c) other is may = let no : ⊥ = cc in no
target_there marks records n (Tint t) other is may = let no : ⊥ = cc in no

-- ---- what is seen of a replay

pub log_taken : (w : WorldState) (u v : Versions) (r : Record) → world_state u ≡ w
    → AreStoredVersions u
    → AreStoredVersions v → TakesRecord u r v → log_of v ≡ log_with_record w.log r
log_taken w u v r is of_u of_v takes =
    let side : v.side ≡ u.side =
    of_v.side ∙ ap (λ (p : Layout). p.side) takes.plan ∙ sym of_u.side in
    (λ i. record { side = side i; coloured = takes.tint i; records = takes.records i; marks = takes.marks i })
    ∙ ap (λ (s : WorldState). log_with_record s.log r) is

-- the same of the parts that are seen of versions that only got room
pub world_as : (w : WorldState) (v u : Versions) → world_state v ≡ w
    → u.models.models ≡ v.models.models
    → log_of u ≡ log_of v → u.store ≡ v.store → world_state u ≡ w
world_as w v u is models log store =
    (λ i. record {
      plan = (store i).words.plan;
      models = models i;
      log = log i;
      noted = record { made = (store i).told.made; met = (store i).told.met };
    }) ∙ is

pub follows_as : (w : WorldState) (u : Versions) (act : Act) → world_state u ≡ w
    → MayFollow w.log.marks (length w.log.records + 1) act (position_after w.log.records)
    → MayFollow (log_of u).marks (moment_of u + 1) act (position_after u.records.items)
follows_as w u act is may =
    subst (λ (s : WorldState). MayFollow s.log.marks (length s.log.records + 1) act
    (position_after s.log.records))
    (sym is) may

pub replayed_as : (w : WorldState) (u : Versions) → world_state u ≡ w → replay_state u ≡ replayed w
replayed_as w u is = ap replayed is

-- ---- a mark

pub marks_come : (v w : Versions) (mark : Mark) → AreStoredVersions v → AreStoredVersions w
    → HoldsVersion (log_of v) mark.version → mark.version < moment_of v → GainsMark v mark w
    → LogGainsMark (log_of v) mark (log_of w)
marks_come v w mark of_v of_w kept earlier marks = record {
  kept = kept;
  earlier = earlier;
  side = of_w.side ∙ ap (λ (p : Layout). p.side) marks.only.plan ∙ sym of_v.side;
  coloured = marks.forgets.coloured;
  records = marks.forgets.records;
  marks = marks.forgets.marks;
}

-- nothing is made for it
pub marked_parts : (v w : Versions) (mark : Mark) → GainsMark v mark w
    → MakesOnlyParts (replay_state v) → MakesOnlyParts (replay_state w)
marked_parts v w mark marks only =
    subst (λ (s : ReplayState). MakesOnlyParts s)
    (sym (λ i. record {
      plan = marks.only.plan i;
      tint = marks.forgets.coloured i;
      models = marks.only.models i;
      records = marks.forgets.records i;
      noted = record { made = marks.only.only.made i; met = marks.only.only.met i };
    })) only
