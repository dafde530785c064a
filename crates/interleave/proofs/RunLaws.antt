-- What holds of every run, and how a run goes on.
use Rattle.std.proofs.Common.{◌≡◌, ◌≢◌, ℕ, zero, suc, ◌+◌, ◌<◌, ◌≤◌, Bool, cond, leb, refl, sym, ◌∙◌, ap, subst, arith, inl, inr, List, [], ◌∷◌, ◌++◌, length, get_or, take, ◌^◌}
use Rattle.std.proofs.lemmas.Bool.{cases_lt, le-leb, lt-leb}
use Rattle.std.proofs.lemmas.List.{length-append, get_or_append_left, get_or_push}
use Rattle.vw_cell.specs.declared.cells.Cell.{Cell}
use Rattle.vox_read.specs.Contents.{Content}
use Rattle.node_words.specs.declared.shapes.names.Name.{Name}
use Rattle.node_words.specs.Plans.{Layout}
use Rattle.history_model.specs.Stores.{stored_in}
use Rattle.core_laws.specs.States.{State, Holds, IsLive, IsUnder, tree_of}
use Rattle.core_laws.specs.Soundness.{Sound}
use Rattle.core_laws.specs.StepStatements.{IsSpared}
use Rattle.core_laws.proofs.EntrySteps.{step_keys}
use Rattle.core_laws.proofs.Lives.{held_lives, under_lives}
use Rattle.core_laws.proofs.RootCells.{empty_sound, same_cells, same_root}
use Rattle.core_laws.proofs.StepLaws.{step_sound, of_step, step_cells, tree_kept, step_spares, leaves}
use Rattle.world_core.specs.declared.events.Event.{Event}
use Rattle.world_core.specs.declared.events.Reply.{Reply}
use Rattle.world_core.specs.Answering.{Replies}
use Rattle.world_core.specs.Beginning.{HasBegun}
use Rattle.interleave.specs.Runs.{IsRun, HasRun, event_at, reply_at}
use Rattle.interleave.specs.Statements.{session_of, StatesAreSound, RootsTellCells, VersionsKeepCells, HeldShapesStay, RunsSpareShares, EntriesLeaveByLastShares, LeavesByLastShare}
use Rattle.interleave.proofs.Steps.{Moves, answers_step}

module _ (p : Layout) (models : List Content) (sessions : ℕ) (events : List Event)
    (low : 2 ≤ p.side) where
  moves_sound : (session : ℕ) (old new : State) → Sound p models old
      → Moves p models session old new → Sound p models new
  moves_sound session old new s (inl same) = subst (λ (x : State). Sound p models x) (sym same) s
  moves_sound session old new s (inr step) = step_sound p models session old new low s step

  moves : (replies : List Reply) (states : ℕ → State) (k : ℕ)
      → IsRun p models sessions events replies states
      → k < length events
      → Moves p models (session_of (event_at events k)) (states k) (states (k + 1))
  moves replies states k run lt = answers_step p models (event_at events k) (reply_at replies k)
      (states k) (states (k + 1)) (run.each k lt)

  pub sound_at : StatesAreSound p models sessions events
  sound_at replies states zero run le = empty_sound p models (states 0) run.begins.untouched
  sound_at replies states (suc k) run le =
      let up : k + 1 ≡ suc k = omega arith in
      let before = sound_at replies states k run (omega arith) in
      let step =
      answers_step p models (event_at events k) (reply_at replies k) (states k)
      (states (k + 1)) (run.each k (omega arith)) in
      subst (λ (j : ℕ). Sound p models (states j)) up
      (moves_sound (session_of (event_at events k)) (states k) (states (k + 1)) before step)

  pub roots_at : RootsTellCells p models sessions events
  roots_at replies states k run le v w of_v of_w =
      let s = sound_at replies states k run le in (
        same_cells p models (states k) low s v w of_v of_w,
        same_root p models
            (states k) low s v w of_v of_w,
      )

  moves_cells : (session : ℕ) (old new : State) (v : ℕ) (q : Cell) → Moves p models session old new
      → v ≤ length old.log.records
      → stored_in (2 ^ p.side) models new.log.records v q ≡ stored_in
      (2 ^ p.side) models old.log.records v q
  moves_cells session old new v q (inl same) le = ap
      (λ (x : State). stored_in (2 ^ p.side) models x.log.records v q) same
  moves_cells session old new v q (inr step) le = step_cells p models session old new v q step le

  pub cells_at : VersionsKeepCells p models sessions events
  cells_at replies states k run lt v q le = moves_cells (session_of (event_at events k)) (states k)
      (states (k + 1)) v q
      (moves replies states k run lt) le

  moves_tree : (session : ℕ) (old new : State) (n : Name) → Sound p models old → Sound p models new
      → Moves p models session old new → IsLive p old n → IsLive p new n
      → tree_of new n ≡ tree_of old n
  moves_tree session old new n s t (inl same) of_old of_new = ap (λ (x : State). tree_of x n) same
  moves_tree session old new n s t (inr step) of_old of_new =
      tree_kept p old new n s.entries t.entries
      (step_keys p session old new (of_step p models session old new step)) of_old of_new

  pub shapes_at : HeldShapesStay p models sessions events
  shapes_at replies states k run lt session n before after =
      let s = sound_at replies states k run (omega arith) in
      let t = sound_at replies states (k + 1) run (omega arith) in
      moves_tree (session_of (event_at events k)) (states k) (states (k + 1)) n s t
      (moves replies states k run lt)
      (held_lives p (states k) session n s.entries before)
      (held_lives p (states (k + 1)) session n t.entries after)

  moves_spare : (session other : ℕ) (old new : State) (m n : Name) → Sound p models old
      → Moves p models session old new → other ≢ session → Holds old.held other n
      → IsUnder old.key m n
      → IsSpared p old new m
  moves_spare session other old new m n s (inl same) apart held under =
      subst (λ (x : State). IsSpared p old x m) (sym same) (record {
        live = under_lives p old m n s.entries (held_lives p old other n s.entries held) under;
        tree = refl;
      })
  moves_spare session other old new m n s (inr step) apart held under =
      step_spares p session other n m old new s.entries
      (of_step p models session old new step) apart held under

  pub spared_at : RunsSpareShares p models sessions events
  spared_at replies states k run lt session m n apart held under =
      moves_spare (session_of (event_at events k)) session (states k) (states (k + 1)) m n
      (sound_at replies states k run (omega arith)) (moves replies states k run lt) apart held under

  moves_leave : (event : Event) (old new : State) (n : Name)
      → Moves p models (session_of event) old new
      → IsLive p old n → new.book n ≡ 0 → LeavesByLastShare p n event old new
  moves_leave event old new n (inl same) live none = absurd
      (let book : new.book n
      ≡ old.book n = ap (λ (x : State). x.book n) same in let some = live.book in omega arith)
  moves_leave event old new n (inr step) live none =
      let r =
      leaves p (session_of event) n old new
      (of_step p models (session_of event) old new step) live none in
      record { last = r.last; frees = r.step }

  pub leave_at : EntriesLeaveByLastShares p models sessions events
  leave_at replies states k run lt n live none = moves_leave (event_at events k) (states k)
      (states (k + 1)) n
      (moves replies states k run lt) live none

-- the states so far, and one more
more : (ℕ → State) → ℕ → State → ℕ → State
more states n t k = cond (leb k n) (states k) t

more_before : (states : ℕ → State) (n : ℕ) (t : State) (k : ℕ) → k ≤ n
    → more states n t k ≡ states k
unfolding more
more_before states n t k le = ap (λ (b : Bool). cond b (states k) t) (le-leb k n le)

more_here : (states : ℕ → State) (n : ℕ) (t : State) → more states n t (n + 1) ≡ t
unfolding more
more_here states n t = ap (λ (b : Bool). cond b (states (n + 1)) t) (lt-leb (n + 1) n (omega arith))

pub run_begins : (p : Layout) (models : List Content) (sessions : ℕ) (events : List Event)
    (replies : List Reply) (s : State) → events ≡ [] → replies ≡ [] → HasBegun p sessions s
    → HasRun p models sessions events replies s
run_begins p models sessions events replies s no_event no_reply begun =
    let none : length events ≡ 0 = ap length no_event in
    let told : length replies ≡ 0 = ap length no_reply in
    record {
      states = λ _. s;
      run = record {
        begins = begun;
        as_many = told
            ∙ sym none;
        each = λ k lt. absurd (omega arith);
      };
      ends = refl;
    }

same_answers : (p : Layout) (models : List Content) (e e' : Event) (r r' : Reply)
    (s s' t t' : State)
    → e' ≡ e → r' ≡ r → s' ≡ s → t' ≡ t → Replies p models e r s t → Replies p models e' r' s' t'
same_answers p models e e' r r' s s' t t' of_e of_r of_s of_t answer =
    subst (λ (x : Event). Replies p models x r' s' t') (sym of_e)
    (subst (λ (x : Reply). Replies p models e x s' t') (sym of_r)
    (subst (λ (x : State). Replies p models e r x t') (sym of_s)
    (subst (λ (x : State). Replies p models e r s x) (sym of_t) answer)))

-- one more event
pub run_more : (p : Layout) (models : List Content) (sessions : ℕ) (events : List Event)
    (replies : List Reply) (e : Event) (r : Reply) (s t : State)
    → HasRun p models sessions events replies s
    → Replies p models e r s t → HasRun p models sessions (events ++ e ∷ []) (replies ++ r ∷ []) t
run_more p models sessions events replies e r s t h answer = record {
  states = more h.states (length events) t;
  run = record {
    begins = subst (λ (x : State). HasBegun p sessions x)
        (sym (more_before h.states (length events) t 0 (omega arith))) h.run.begins;
    as_many = let a = length-append events (e ∷ []) in let b = length-append replies
        (r ∷ []) in let same = h.run.as_many in omega arith;
    each = λ k lt. (let wide = length-append events (e ∷ []) in let same = h.run.as_many in
        elim (cases_lt k (length events)) [
          | inl before ↦ same_answers p models (event_at events k) _ (reply_at replies k) _
              (h.states k) _ (h.states (k + 1)) _
              (get_or_append_left events (e ∷ []) _ k before)
              (get_or_append_left replies (r ∷ []) _ k (omega arith))
              (more_before h.states (length events) t k (omega arith))
              (more_before h.states (length events) t (k + 1) (omega arith))
              (h.run.each k before)
          | inr past ↦ (let here : k ≡ length events = omega arith in
              same_answers p models e _ r _ s _ t _
              (get_or_push events e _ k (sym here))
              (get_or_push replies r _ k (omega arith))
              (more_before h.states (length events) t k (omega arith) ∙ ap h.states here ∙ h.ends)
              (ap (λ (j : ℕ). more h.states (length events) t (j + 1)) here
              ∙ more_here h.states (length events) t)
              answer)
        ]);
  };
  ends = let wide : length (events ++ e ∷ []) ≡ length events + 1 = length-append events (e ∷ []) in
      ap (λ (j : ℕ). more h.states (length events) t j) wide ∙ more_here h.states (length events) t;
}

-- the run goes on by the next of the events
pub run_next : (p q : Layout) (models others : List Content) (sessions : ℕ) (events : List Event)
    (k : ℕ)
    (replies told : List Reply) (e d : Event) (r : Reply) (s t : State) → q ≡ p → others ≡ models
    → k < length events → e ≡ get_or events k d → told ≡ replies ++ r ∷ []
    → HasRun p models sessions (take k events) replies s → Replies q others e r s t
    → HasRun p models sessions (take (k + 1) events) told t
run_next p q models others sessions events k replies told e d r s t of_p of_m lt its push h answer =
    let here : Replies p models e r s t = subst (λ (x : Layout). Replies x models e r s t) of_p
    (subst (λ (x : List Content). Replies q x e r s t) of_m answer) in
    let up : take k events ++ e ∷ [] ≡ take (k + 1) events =
    ap (λ (x : Event). take k events ++ x ∷ []) its
    ∙ sym (Rattle.std.proofs.lemmas.List.take_more events k d lt) in
    subst (λ (es : List Event). HasRun p models sessions es told t) up
    (subst (λ (rs : List Reply). HasRun p models sessions (take k events ++ e ∷ []) rs t) (sym push)
    (run_more p models sessions (take k events) replies e r s t h here))

-- all of the events
pub run_ends : (p : Layout) (models : List Content) (sessions : ℕ) (events : List Event) (k : ℕ)
    (replies : List Reply) (s : State) → length events ≤ k
    → HasRun p models sessions (take k events) replies s → HasRun p models sessions events replies s
run_ends p models sessions events k replies s past h =
    subst (λ (es : List Event). HasRun p models sessions es replies s)
    (Rattle.std.proofs.lemmas.List.take_all k events past) h
