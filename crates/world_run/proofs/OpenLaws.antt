-- One session of an open run makes a file, and all is saved as before.
use Rattle.std.proofs.Common.{◌≡◌, ℕ, zero, suc, ◌<◌, ◌≤◌, ◌^◌, Some, Option, List, [], ◌∷◌, ◌++◌, length, get_or, set, sym, ◌∙◌, ap, subst, arith, inl, inr, true}
use Rattle.std.specs.Prelude.{All, Bool, map, Result, Ok, Err, IfOk}
use Rattle.std.specs.declared.vec.Vec.{Vec}
use Rattle.std.specs.List.{slice_get}
use Rattle.std.specs.Option.{option_map}
use Rattle.std.proofs.lemmas.List.{length-map}
use Rattle.std.proofs.lemmas.Option.{get_or_from_slice_get, same_Some, slice_get-get_or, slice_get-map, slice_get_cases}
use Rattle.vox_read.specs.Contents.{Content}
use Rattle.script.specs.Placing.{is_save_name}
use Rattle.history_model.specs.Logs.{side_of_world}
use Rattle.session.specs.Roots.{stored_file}
use Rattle.history_model.specs.Stores.{store_has}
use Rattle.node_words.specs.Held.{StoreState}
use Rattle.node_table.specs.TableStates.{TableState, PassState}
use Rattle.node_table.specs.LogViews.{LogView}
use Rattle.node_table.specs.Views.{SeatView, seen_of}
use Rattle.session.specs.Seeing.{IsDated}
use Rattle.session.specs.Pinned.{Pinned}
use Rattle.script.specs.Fitting.{SaveFits}
use Rattle.conformance.specs.declared.saves.SavedBox.{SavedBox}
use Rattle.conformance.specs.sessions.LoggedSaves.{LoggedSave, logged_at}
use Rattle.conformance.specs.sessions.Saves.{versions_of}
use Rattle.conformance.specs.sessions.SessionViews.{SessionView}
use Rattle.session.specs.Lendable.{StaysLendable}
use Rattle.session.specs.Resting.{IsAtRest}
use Rattle.session.specs.Saves.{SeatHoldsPins, HoldsSaves, pinned_versions}
use Rattle.session.specs.SessionWorlds.{SessionWorld, log_seen, session_view}
use Rattle.world_run.specs.declared.open_runs.SavedSession.{SavedSession}
use Rattle.world_run.specs.declared.open_runs.SaveIndex.{SaveIndex}
use Rattle.world_run.specs.Open.{HasSave, IsSaved, RunState, SavesAt, logged_in, file_of_save, saved_seen}

-- there are as many pins as saves
pub pins_of_saves : (tint : Bool) (t : TableState) (s : SavedSession) → IsSaved tint t s
    → length s.pins.items ≡ length s.saves.items
pins_of_saves tint t s saved =
    sym (length-map s.pins.items (λ p. p.version)) ∙ ap length saved.versions
    ∙ length-map s.saves.items (λ b. b.version)

-- ---- a session that made a file

seen_by : LogView → StoreState → SessionView
seen_by l s =
    record {
      log = log_seen l;
      records = l.records;
      marks = l.marks;
      found = l.found;
      noted =
          record { made = s.made; met = s.met };
    }

pub same_seen : (v w : SeatView) → w.log ≡ v.log → seen_of w ≡ seen_of v
    → session_view w ≡ session_view v
unfolding seen_by
same_seen v w log seen =
    ap (λ (l : LogView). seen_by l (seen_of w)) log ∙ ap (λ (s : StoreState). seen_by v.log s) seen

still_rests : (t : TableState) (old new : PassState) → IsAtRest t old → StaysLendable t old new
    → IsAtRest t new
still_rests t old new rest stays = record {
  of = stays.ready.of;
  idle = record {
    bucket = stays.ready.idle;
    log = ap (λ (l : LogView). l.turn) stays.log
        ∙ rest.idle.log;
  };
  alone = ap (λ (l : LogView). l.taken) stays.log ∙ rest.alone;
  side = ap (λ (l : LogView). l.seen.side) stays.log ∙ rest.side;
  dated = subst (λ (l : LogView). IsDated l.seen) (sym stays.log) rest.dated;
}

pub still_saved : (tint : Bool) (t : TableState) (old new : SavedSession) → IsSaved tint t old
    → new.saves ≡ old.saves
    → new.pins ≡ old.pins → StaysLendable t old.session new.session
    → seen_of new.session.view ≡ seen_of old.session.view
    → IsSaved tint t new
still_saved tint t old new saved saves pins stays seen =
    let same = same_seen old.session.view new.session.view stays.log seen in
    let boxes : new.saves.items ≡ old.saves.items = ap (λ v. v.items) saves in
    let kept : new.pins.items ≡ old.pins.items = ap (λ v. v.items) pins in
    record {
      rest = still_rests t old.session new.session saved.rest stays;
      holds = subst (λ (ps : List Pinned). SeatHoldsPins t new.session.view ps) (sym kept)
          (subst (λ (z : SessionView). HoldsSaves t z new.session.view.held old.pins.items)
          (sym same)
          (subst (λ (s : StoreState). HoldsSaves t (session_view old.session.view) s.held old.pins.items)
          (sym seen) saved.holds));
      versions = ap pinned_versions kept ∙ saved.versions ∙ ap versions_of (sym boxes);
      fit = subst (λ (bs : List SavedBox). All
          (λ b. SaveFits (side_of_world tint (2 ^ t.plan.side)) b.name b.part) bs)
          (sym boxes) saved.fit;
      few = subst (λ (bs : List SavedBox). length bs ≤ 1024) (sym boxes) saved.few;
    }

-- ---- the file of a save

-- a pin has the version of its save
pin_version : (tint : Bool) (t : TableState) (s : SavedSession) (k : ℕ) (p : Pinned) (b : SavedBox)
    → IsSaved tint t s
    → slice_get s.pins.items k ≡ Some p → slice_get s.saves.items k ≡ Some b → p.version ≡ b.version
pin_version tint t s k p b saved of here =
    same_Some p.version b.version
    (ap (λ (q : Option Pinned). option_map (λ x. x.version) q) (sym of)
    ∙ sym (slice_get-map (λ (x : Pinned). x.version) s.pins.items k)
    ∙ ap (λ (vs : List ℕ). slice_get vs k) saved.versions
    ∙ slice_get-map (λ (x : SavedBox). x.version) s.saves.items k
    ∙ ap (λ (q : Option SavedBox). option_map (λ x. x.version) q) here)

one_file : (tint : Bool) (t : TableState) (s : SavedSession) (k : ℕ) (at : SavedBox)
    (file : List ℕ) → IsSaved tint t s
    → k < length s.saves.items → at ≡ get_or s.saves.items k at
    → ((p : Pinned) → slice_get s.pins.items k ≡ Some p → file
    ≡ stored_file tint t.plan.side at.part
    (store_has t.models (log_seen s.session.view.log) p.version))
    → (b : SavedBox) → slice_get s.saves.items k ≡ Some b
    → file ≡ file_of_save tint t.models (logged_at (log_seen s.session.view.log) b)
one_file tint t s k at file saved lt is told b here =
    let same : at ≡ b = is ∙ get_or_from_slice_get s.saves.items k b at here in
    elim (slice_get_cases s.pins.items k).1 [
      | inl (p, within, of, read) ↦
          told p of
          ∙ ap
          (λ (x : SavedBox). stored_file tint t.plan.side x.part
          (store_has t.models (log_seen s.session.view.log) p.version)) same
          ∙ ap
          (λ (v : ℕ). stored_file tint t.plan.side b.part
          (store_has t.models (log_seen s.session.view.log) v))
          (pin_version tint t s k p b saved of here)
          ∙ ap
          (λ (n : ℕ). stored_file tint n b.part
          (store_has t.models (log_seen s.session.view.log) b.version)) (sym saved.rest.side)
      | inr (past, none) ↦ absurd (let many = pins_of_saves tint t s saved in omega arith)
    ]

pub file_told : {E Z : Type 0} (tint : Bool) (t : TableState) (s : SavedSession) (k : ℕ)
    (at : SavedBox)
    (pins : List Pinned) (result : Result (Vec ℕ Z) E) → IsSaved tint t s → k < length s.saves.items
    → at ≡ get_or s.saves.items k at → pins ≡ s.pins.items
    → IfOk result
    (λ file. (p : Pinned) → slice_get pins k ≡ Some p → file.items
    ≡ stored_file tint t.plan.side at.part
    (store_has t.models (log_seen s.session.view.log) p.version))
    → IfOk result
    (λ file. (b : SavedBox) → slice_get s.saves.items k ≡ Some b → file.items
    ≡ file_of_save tint t.models (logged_at (session_view s.session.view).log b))
file_told tint t s k at pins (Ok file) saved lt is of told =
    one_file tint t s k at file.items saved lt is
    (λ p here. told p (ap (λ (ps : List Pinned). slice_get ps k) of ∙ here))
file_told tint t s k at pins (Err e) saved lt is of told = tt

-- ---- a session in its place

pub seen_set : (sessions : List SavedSession) (i : ℕ) (old new : SavedSession) → i < length sessions
    → old ≡ get_or sessions i old → session_view new.session.view ≡ session_view old.session.view
    → saved_seen (set sessions i new) ≡ saved_seen sessions
seen_set [] i old new lt is seen = absurd (omega arith)
seen_set (s ∷ sessions) zero old new lt is seen =
    ap (λ (z : SessionView). z ∷ saved_seen sessions)
    (seen ∙ ap (λ (z : SavedSession). session_view z.session.view) is)
seen_set (s ∷ sessions) (suc i) old new lt is seen =
    ap (λ (zs : List SessionView). session_view s.session.view ∷ zs)
    (seen_set sessions i old new (omega arith) is seen)

pub kept_set : (sessions : List SavedSession) (i : ℕ) (old new : SavedSession) → i < length sessions
    → old ≡ get_or sessions i old → session_view new.session.view ≡ session_view old.session.view
    → new.saves ≡ old.saves
    → logged_in (set sessions i new) ≡ logged_in sessions
kept_set [] i old new lt is seen saves = absurd (omega arith)
kept_set (s ∷ sessions) zero old new lt is seen saves =
    ap (λ (ks : List LoggedSave). ks ++ logged_in sessions)
    (ap (λ (z : SessionView). map (logged_at z.log) new.saves.items)
    (seen ∙ ap (λ (z : SavedSession). session_view z.session.view) is)
    ∙ ap (λ (bs : List SavedBox). map (logged_at (log_seen s.session.view.log)) bs)
    (ap (λ v. v.items) saves ∙ ap (λ (z : SavedSession). z.saves.items) is))
kept_set (s ∷ sessions) (suc i) old new lt is seen saves =
    ap (λ (ks : List LoggedSave). map (logged_at (log_seen s.session.view.log)) s.saves.items ++ ks)
    (kept_set sessions i old new (omega arith) is seen saves)

abbrev pub run_of : SessionWorld → List SessionView → List LoggedSave → RunState
run_of w sessions kept = record {
  plan = w.table.plan;
  tint = w.tint;
  models = w.table.models;
  sessions = sessions;
  kept = kept;
}

pub run_same : (w : SessionWorld) (sessions more : List SavedSession)
    → saved_seen more ≡ saved_seen sessions → logged_in more ≡ logged_in sessions
    → run_of w (saved_seen more) (logged_in more) ≡ run_of w (saved_seen sessions) (logged_in sessions)
run_same w sessions more seen kept =
    ap (λ (ss : List SessionView). run_of w ss (logged_in more)) seen
    ∙ ap (λ (ks : List LoggedSave). run_of w (saved_seen sessions) ks) kept

-- ---- a save by its number

module _ (sessions : List SavedSession) (k : ℕ) (p : SaveIndex) (s : SavedSession)
    (has : HasSave sessions k p) (of : s ≡ get_or sessions p.session s) where
  session_at : slice_get sessions p.session ≡ Some s
  session_at = slice_get-get_or sessions p.session s has.session ∙ ap Some (sym of)

  save_less : p.save < length s.saves.items
  save_less = (has.each s session_at).0

  pub save_there : (kept : List LoggedSave) (b : SavedBox) → kept ≡ logged_in sessions
      → b ≡ get_or s.saves.items p.save b → SavesAt kept k b
  save_there kept b is at = record {
    seen = log_seen s.session.view.log;
    at = ap (λ (ks : List LoggedSave). slice_get ks k) is
        ∙ (has.each s session_at).1 b
        (slice_get-get_or s.saves.items p.save b save_less ∙ ap Some (sym at));
  }

  pub save_named : (tint : Bool) (t : TableState) (b : SavedBox) → All (IsSaved tint t) sessions
      → b ≡ get_or s.saves.items p.save b → is_save_name b.name ≡ true
  save_named tint t b all at =
      let saved : IsSaved tint t s =
      subst (λ (z : SavedSession). IsSaved tint t z) (sym of) (all p.session s has.session) in
      let fits = saved.fit p.save b save_less in
      ap (λ (x : SavedBox). is_save_name x.name) at ∙ fits.is_name

  one_run_file : (tint : Bool) (t : TableState) (asked : Bool) (models : List Content)
      (kept : List LoggedSave) (file : List ℕ)
      → kept ≡ logged_in sessions → asked ≡ tint → models ≡ t.models
      → ((b : SavedBox) → slice_get s.saves.items p.save ≡ Some b → file
      ≡ file_of_save tint t.models (logged_at (log_seen s.session.view.log) b)) → (q : LoggedSave)
      → slice_get kept k ≡ Some q → file ≡ file_of_save asked models q
  one_run_file tint t asked models kept file is alike same told q at =
      elim (slice_get_cases s.saves.items p.save).1 [
        | inl (b, within, here, read) ↦
            told b here
            ∙ ap (λ (x : LoggedSave). file_of_save tint t.models x)
            (same_Some (logged_at (log_seen s.session.view.log) b) q
            (sym ((has.each s session_at).1 b here)
            ∙ sym (ap (λ (ks : List LoggedSave). slice_get ks k) is) ∙ at))
            ∙ ap (λ (ms : List Content). file_of_save tint ms q) (sym same)
            ∙ ap (λ (b : Bool). file_of_save b models q) (sym alike)
        | inr (past, none) ↦ absurd (let less = save_less in omega arith)
      ]

  pub run_file : {E Z : Type 0} (tint : Bool) (t : TableState) (asked : Bool)
      (models : List Content) (kept : List LoggedSave)
      (result : Result (Vec ℕ Z) E) → kept ≡ logged_in sessions → asked ≡ tint → models ≡ t.models
      → IfOk result
      (λ file. (b : SavedBox) → slice_get s.saves.items p.save ≡ Some b → file.items
      ≡ file_of_save tint t.models (logged_at (session_view s.session.view).log b))
      → IfOk result
      (λ file. (q : LoggedSave) → slice_get kept k ≡ Some q
      → file.items ≡ file_of_save asked models q)
  run_file tint t asked models kept (Ok file) is alike same told =
      one_run_file tint t asked models kept file.items is alike same told
  run_file tint t asked models kept (Err e) is alike same told = tt
