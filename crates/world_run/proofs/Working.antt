-- Works that are given out, done and taken in.
use Rattle.std.proofs.Common.{◌≡◌, ℕ, suc, ◌+◌, ◌<◌, ◌≤◌, ◌^◌, Some, List, [], ◌∷◌, ◌++◌, length, take, drop, get_or, refl, sym, ◌∙◌, ap, subst, arith, append-nil, append_assoc}
use Rattle.std.specs.Prelude.{All, Bool, map, vec_capacity}
use Rattle.std.specs.List.{AllZip, slice_get}
use Rattle.std.proofs.lemmas.List.{drop_more, length-take-le, map-append, take_more}
use Rattle.std.proofs.lemmas.Option.{slice_get-get_or}
use Rattle.std.proofs.lemmas.List.Elements.{All-append, All-cons, All-nil}
use Rattle.atomic_table.specs.Seated.{TableId}
use Rattle.gate_run.specs.Runs.{RanEach}
use Rattle.vox_read.specs.Contents.{Content}
use Rattle.history_model.specs.Logs.{side_of_world}
use Rattle.node_words.specs.shapes.Shape.{Shape}
use Rattle.node_words.specs.Held.{Wanted}
use Rattle.node_words.specs.Plans.{Layout}
use Rattle.script.specs.Fitting.{RisesFrom, SaveFits}
use Rattle.script.specs.declared.commands.ScriptLine.{ScriptLine}
use Rattle.transcript.specs.declared.answers.LineAnswer.{LineAnswer}
use Rattle.conformance.specs.scripts.Keeping.{MadeAndMet}
use Rattle.conformance.specs.declared.saves.SavedBox.{SavedBox}
use Rattle.conformance.specs.Saves.{saved_in}
use Rattle.session.specs.Pinned.{Pinned}
use Rattle.node_table.specs.Begins.{AreNewPasses, IsNewPass, terms_of}
use Rattle.node_table.specs.TableStates.{TableState, TermsState, PassState}
use Rattle.node_table.specs.LogViews.{LogView}
use Rattle.conformance.specs.sessions.LoggedSaves.{LoggedSave, logged_at, logged_of}
use Rattle.conformance.specs.sessions.Ran.{IsAnswered, SessionRan, SessionsRanKeeping}
use Rattle.conformance.specs.sessions.Saves.{saves_asked_in, versions_of}
use Rattle.conformance.specs.sessions.SessionViews.{SessionView, none_noted, session_keeping}
use Rattle.session.specs.Resting.{IsAtRest}
use Rattle.session.specs.Saves.{SeatHoldsMore, SeatHoldsPins, pinned_versions}
use Rattle.session.specs.SessionWorlds.{AreLinesOfWorld, SessionWorld, of_world, session_view}
use Rattle.world_run.specs.declared.open_runs.SavedSession.{SavedSession}
use Rattle.world_run.specs.declared.rooms.ScriptRoom.{ScriptRoom}
use Rattle.world_run.specs.declared.works.SessionWork.{SessionWork}
use Rattle.world_run.specs.Open.{IsSaved, logged_in, saved_seen}
use Rattle.world_run.proofs.Accepting.{few_accepted, saves_fit}
use Rattle.world_run.proofs.KeptLaws.{kept_more}
use Rattle.world_run.specs.Works.{AreDone, AreWorks, IsDoneOf, IsRoomFor, IsWorkOf, MayWork, Worked}

-- ---- works that are given out

pub one_more_work : (t : SessionWorld) (first : ℕ) (scripts : List (List ScriptLine))
    (works : List SessionWork) (script : List ScriptLine) (w : SessionWork)
    → AreWorks t first scripts works
    → IsWorkOf t script (first + length scripts) w
    → AreWorks t first (scripts ++ script ∷ []) (works ++ w ∷ [])
one_more_work t first [] [] script w are is =
    (subst (λ (n : ℕ). IsWorkOf t script n w) (let e : first + 0 ≡ first = omega arith in e) is, tt)
one_more_work t first [] (v ∷ works) script w are is = absurd are
one_more_work t first (s ∷ scripts) [] script w are is = absurd are
one_more_work t first (s ∷ scripts) (v ∷ works) script w are is = (
  are.0,
  one_more_work t (first + 1) scripts works script w are.1
      (subst (λ (n : ℕ). IsWorkOf t script n w)
      (let e : first + suc (length scripts)
      ≡ first + 1 + length scripts = omega arith in e) is),
)

pub as_many_works : (t : SessionWorld) (first : ℕ) (scripts : List (List ScriptLine))
    (works : List SessionWork) → AreWorks t first scripts works → length works ≡ length scripts
as_many_works t first [] [] are = refl
as_many_works t first [] (v ∷ works) are = absurd are
as_many_works t first (s ∷ scripts) [] are = absurd are
as_many_works t first (s ∷ scripts) (v ∷ works) are =
    ap suc (as_many_works t (first + 1) scripts works are.1)

pub all_may : (t : SessionWorld) (first : ℕ) (scripts : List (List ScriptLine))
    (works : List SessionWork) → AreWorks t first scripts works → All MayWork works
all_may t first [] [] are = λ k d lt. absurd (omega arith)
all_may t first [] (v ∷ works) are = absurd are
all_may t first (s ∷ scripts) [] are = absurd are
all_may t first (s ∷ scripts) (v ∷ works) are =
    All-cons MayWork v works are.0.may (all_may t (first + 1) scripts works are.1)

-- the work that is given out next
pub is_work : (t : SessionWorld) (number : ℕ) (w : SessionWork) → w.world.now ≡ t
    → IsNewPass t.table.id (terms_of t.table) number w.session
    → IsAtRest w.world.now.table w.session → RisesFrom 1 w.script.now
    → AreLinesOfWorld w.world.now w.script.now
    → IsRoomFor w.script.now w.room → IsWorkOf t w.script.now number w
is_work t number w world new rest rises fit room = record {
  world = world;
  script_is = refl;
  number_is = new.number_is;
  noted = ap (λ (ss : List Shape). record { made = ss; met = w.session.view.met }) new.made
      ∙ ap (λ (ms : List Wanted). record { made = []; met = ms }) new.met;
  may = record {
    rest = rest;
    fresh = record {
      records = ap (λ (l : LogView). l.records) new.log;
      marks = ap
          (λ (l : LogView). l.marks) new.log;
      held = new.held;
    };
    rises = rises;
    fit = fit;
    room = room;
  };
}

-- what is left to be given out when one more was
pub new_later : (id : TableId) (terms : TermsState) (i : ℕ) (all more : List PassState)
    (one : PassState) → all ≡ one ∷ more
    → ((k : ℕ) (s : PassState) → slice_get all k ≡ Some s → IsNewPass id terms (i + k) s)
    → (k : ℕ) (s : PassState) → slice_get more k ≡ Some s → IsNewPass id terms (i + 1 + k) s
new_later id terms i all more one is new k s at =
    subst (λ (n : ℕ). IsNewPass id terms n s) (let e : i + suc k ≡ i + 1 + k = omega arith in e)
    (new (suc k) s (ap (λ (ss : List PassState). slice_get ss (suc k)) is ∙ at))

pub new_here : (id : TableId) (terms : TermsState) (i : ℕ) (all more : List PassState)
    (one : PassState) → all ≡ one ∷ more
    → ((k : ℕ) (s : PassState) → slice_get all k ≡ Some s → IsNewPass id terms (i + k) s)
    → IsNewPass id terms i one
new_here id terms i all more one is new =
    subst (λ (n : ℕ). IsNewPass id terms n one) (let e : i + 0 ≡ i = omega arith in e)
    (new 0 one (ap (λ (ss : List PassState). slice_get ss 0) is))

pub rooms_left : (scripts : List (List ScriptLine)) (i : ℕ) (script : List ScriptLine)
    (rooms more : List ScriptRoom) (room : ScriptRoom) → i < length scripts
    → script ≡ get_or scripts i script → rooms ≡ room ∷ more
    → AllZip IsRoomFor (drop i scripts) rooms
    → IsRoomFor script room × AllZip IsRoomFor (drop (i + 1) scripts) more
rooms_left scripts i script rooms more room lt is rooms_are all =
    subst (λ (ls : List (List ScriptLine)). AllZip IsRoomFor ls (room ∷ more))
    (drop_more scripts i script lt
    ∙ ap (λ (l : List ScriptLine). l ∷ drop (i + 1) scripts) (sym is))
    (subst (λ (rs : List ScriptRoom). AllZip IsRoomFor (drop i scripts) rs) rooms_are all)

pub works_next : (t : SessionWorld) (scripts : List (List ScriptLine)) (i : ℕ)
    (script : List ScriptLine) (works more : List SessionWork) (w : SessionWork)
    → i < length scripts → script ≡ get_or scripts i script → more ≡ works ++ w ∷ []
    → AreWorks t 0 (take i scripts) works → IsWorkOf t script i w
    → AreWorks t 0 (take (i + 1) scripts) more
works_next t scripts i script works more w lt is pushed are one =
    let next : take (i + 1) scripts ≡ take i scripts ++ script ∷ [] =
    take_more scripts i script lt
    ∙ ap (λ (l : List ScriptLine). take i scripts ++ l ∷ []) (sym is) in
    let number : i ≡ 0 + length (take i scripts) =
    (let e = length-take-le i scripts (omega arith) in omega arith) in
    subst (λ (ws : List SessionWork). AreWorks t 0 (take (i + 1) scripts) ws) (sym pushed)
    (subst (λ (ls : List (List ScriptLine)). AreWorks t 0 ls (works ++ w ∷ [])) (sym next)
    (one_more_work t 0 (take i scripts) works script w are
    (subst (λ (n : ℕ). IsWorkOf t script n w) number one)))

-- ---- works that are done

one_ran : (t : SessionWorld) (script : List ScriptLine) (number : ℕ) (old new : SessionWork)
    → IsWorkOf t script number old → Worked old new
    → SessionRan (of_world t number) script new.room.answers.items none_noted
    (session_view new.session.view)
one_ran t script number old new is worked =
    let r = worked.ran number is.number_is in
    let same : new.room.answers.items ≡ r.answers =
    r.pushed ∙ ap (λ (bs : List LineAnswer). bs ++ r.answers) is.may.room.no_answer in
    subst (λ (bs : List LineAnswer). SessionRan (of_world t number) script bs none_noted
    (session_view new.session.view)) (sym same)
    (subst (λ (ls : List ScriptLine). SessionRan (of_world t number) ls r.answers none_noted
    (session_view new.session.view)) is.script_is
    (subst (λ (w : SessionWorld). SessionRan (of_world w number) old.script.now r.answers none_noted
    (session_view new.session.view)) is.world
    (subst (λ (m : MadeAndMet). SessionRan
    (of_world old.world.now number) old.script.now r.answers m
    (session_view new.session.view)) is.noted r.ran)))

one_versions : (t : SessionWorld) (script : List ScriptLine) (number : ℕ) (old new : SessionWork)
    → IsWorkOf t script number old → Worked old new
    → pinned_versions new.room.pins.items ≡ versions_of (saved_in script new.room.answers.items)
one_versions t script number old new is worked =
    let r = worked.ran number is.number_is in
    let same : new.room.answers.items ≡ r.answers =
    r.pushed ∙ ap (λ (bs : List LineAnswer). bs ++ r.answers) is.may.room.no_answer in
    r.saved
    ∙ ap (λ (ps : List Pinned). pinned_versions ps ++ versions_of
    (saved_in old.script.now r.answers)) is.may.room.no_pin
    ∙ ap (λ (ls : List ScriptLine). versions_of (saved_in ls r.answers)) is.script_is
    ∙ ap (λ (bs : List LineAnswer). versions_of (saved_in script bs)) (sym same)

-- all that it holds came in this run
all_hold : (t : TableState) (s : PassState) (were are : List Pinned) → were ≡ []
    → SeatHoldsMore t s.view were are → SeatHoldsPins t s.view are
all_hold t s were are none holds =
    subst (λ (ps : List Pinned). SeatHoldsPins t s.view ps)
    (sym (holds.pushed ∙ ap (λ (ps : List Pinned). ps ++ holds.more) none)) holds.holds

one_done : (t : SessionWorld) (script : List ScriptLine) (number : ℕ) (old new : SessionWork)
    → IsWorkOf t script number old → Worked old new → IsDoneOf t script number new
one_done t script number old new is worked =
    let room : IsRoomFor script old.room =
    subst (λ (ls : List ScriptLine). IsRoomFor ls old.room) is.script_is is.may.room in
    record {
      rest = subst (λ (w : SessionWorld). IsAtRest w.table new.session) is.world worked.rest;
      ran = one_ran t script number old new is worked;
      holds = subst (λ (w : SessionWorld). SeatHoldsPins w.table new.session.view new.room.pins.items)
          is.world
          (all_hold old.world.now.table new.session old.room.pins.items new.room.pins.items
          is.may.room.no_pin worked.holds);
      versions = one_versions t script number old new is worked;
      no_save = ap (λ v. v.items) worked.saves ∙ room.no_save;
      saves = subst (λ (n : ℕ). saves_asked_in script ≤ n)
          (sym (ap (λ v. vec_capacity v) worked.saves)) room.saves;
      few = room.few;
    }

pub all_done : (t : SessionWorld) (first : ℕ) (scripts : List (List ScriptLine))
    (old new : List SessionWork) → AreWorks t first scripts old → length new ≡ length old
    → ((k : ℕ) (d : SessionWork) → k < length old → Worked (get_or old k d) (get_or new k d))
    → AreDone t first scripts new
all_done t first [] [] [] are number each = tt
all_done t first [] [] (n ∷ new) are number each = absurd (omega arith)
all_done t first [] (o ∷ old) new are number each = absurd are
all_done t first (s ∷ scripts) [] new are number each = absurd are
all_done t first (s ∷ scripts) (o ∷ old) [] are number each = absurd (omega arith)
all_done t first (s ∷ scripts) (o ∷ old) (n ∷ new) are number each = (
  one_done t s first o n are.0 (each 0 o (omega arith)),
  all_done t (first + 1) scripts old new are.1 (omega arith)
      (λ k d lt. each (suc k) d (omega arith)),
)

-- ---- works that are taken in

pub one_more_ran : (keep : ℕ) (tint : Bool) (p : Layout) (models : List Content) (first : ℕ)
    (scripts : List (List ScriptLine)) (transcripts : List (List LineAnswer))
    (sessions : List SessionView) (script : List ScriptLine) (answers : List LineAnswer)
    (s : SessionView)
    → SessionsRanKeeping keep tint p models first scripts transcripts sessions
    → SessionRan
    (session_keeping keep tint p models (first + length scripts)) script answers none_noted s
    → SessionsRanKeeping keep tint p models first (scripts ++ script ∷ [])
    (transcripts ++ answers ∷ [])
    (sessions ++ s ∷ [])
one_more_ran keep tint p models first [] [] [] script answers s ran one = (
  subst (λ (n : ℕ). SessionRan (session_keeping keep tint p models n) script answers none_noted s)
      (let e : first + 0 ≡ first = omega arith in e) one,
  tt,
)
one_more_ran keep tint p models first [] [] (z ∷ sessions) script answers s ran one = absurd ran
one_more_ran keep tint p models first [] (t ∷ transcripts) sessions script answers s ran one =
    absurd ran
one_more_ran keep tint p models first (l ∷ scripts) [] sessions script answers s ran one =
    absurd ran
one_more_ran keep tint p models first (l ∷ scripts) (t ∷ transcripts) [] script answers s ran one =
    absurd ran
one_more_ran keep tint p models first (l ∷ scripts) (t ∷ transcripts)
    (z ∷ sessions) script answers s ran one = (
      ran.0,
      one_more_ran keep tint p models
          (first + 1) scripts transcripts sessions script answers s ran.1
          (subst (λ (n : ℕ). SessionRan
          (session_keeping keep tint p models n) script answers none_noted s)
          (let e : first + suc (length scripts)
          ≡ first + 1 + length scripts = omega arith in e) one),
    )

kept_of_more : (keep : ℕ) (tint : Bool) (p : Layout) (models : List Content) (first : ℕ)
    (scripts : List (List ScriptLine)) (transcripts : List (List LineAnswer))
    (sessions : List SessionView) (script : List ScriptLine) (answers : List LineAnswer)
    (s : SessionView)
    → SessionsRanKeeping keep tint p models first scripts transcripts sessions
    → logged_of (scripts ++ script ∷ []) (transcripts ++ answers ∷ [])
    (sessions ++ s ∷ []) ≡ logged_of scripts transcripts sessions ++ map (logged_at s.log)
    (saved_in script answers)
kept_of_more keep tint p models first [] [] [] script answers s ran = append-nil _
kept_of_more keep tint p models first [] [] (z ∷ sessions) script answers s ran = absurd ran
kept_of_more keep tint p models first [] (t ∷ transcripts) sessions script answers s ran =
    absurd ran
kept_of_more keep tint p models first (l ∷ scripts) [] sessions script answers s ran = absurd ran
kept_of_more keep tint p models first (l ∷ scripts) (t ∷ transcripts) [] script answers s ran =
    absurd ran
kept_of_more keep tint p models first (l ∷ scripts) (t ∷ transcripts)
    (z ∷ sessions) script answers s ran =
    ap (λ (ks : List LoggedSave). map (logged_at z.log) (saved_in l t) ++ ks)
    (kept_of_more keep tint p models
    (first + 1) scripts transcripts sessions script answers s ran.1)
    ∙ sym
    (append_assoc (map (logged_at z.log) (saved_in l t)) (logged_of scripts transcripts sessions) _)

-- what was taken in of the first scripts
pub record TakenIn (t : SessionWorld) (scripts : List (List ScriptLine))
    (transcripts : List (List LineAnswer)) (sessions : List SavedSession) : Type 0 where
  pub ran : SessionsRanKeeping t.keep t.tint t.table.plan t.table.models 0 scripts transcripts
      (saved_seen sessions)
  pub kept : logged_in sessions ≡ logged_of scripts transcripts (saved_seen sessions)
  pub saved : All (IsSaved t.tint t.table) sessions

pub none_taken : (t : SessionWorld) → TakenIn t [] [] []
none_taken t = record { ran = tt; kept = refl; saved = λ k d lt. absurd (omega arith) }

pub one_taken : (t : SessionWorld) (scripts : List (List ScriptLine))
    (transcripts : List (List LineAnswer)) (sessions : List SavedSession) (script : List ScriptLine)
    (answers : List LineAnswer) (s : SavedSession)
    → TakenIn t scripts transcripts sessions
    → SessionRan (of_world t (length scripts)) script answers none_noted
    (session_view s.session.view) → s.saves.items ≡ saved_in script answers
    → IsSaved t.tint t.table s
    → TakenIn t (scripts ++ script ∷ []) (transcripts ++ answers ∷ []) (sessions ++ s ∷ [])
one_taken t scripts transcripts sessions script answers s taken ran saves saved =
    let seen = session_view s.session.view in
    let more : saved_seen (sessions ++ s ∷ []) ≡ saved_seen sessions ++ seen ∷ [] =
    map-append (λ (z : SavedSession). session_view z.session.view) sessions (s ∷ []) in
    record {
      ran =
          subst (λ (zs : List SessionView). SessionsRanKeeping t.keep t.tint t.table.plan t.table.models 0
          (scripts ++ script ∷ []) (transcripts ++ answers ∷ []) zs) (sym more)
          (one_more_ran t.keep t.tint t.table.plan t.table.models 0 scripts transcripts
          (saved_seen sessions) script answers seen taken.ran
          (subst (λ (n : ℕ). SessionRan (of_world t n) script answers none_noted seen)
          (let e : length scripts ≡ 0 + length scripts = omega arith in e) ran));
      kept =
          kept_more sessions s
          ∙ ap (λ (ks : List LoggedSave). ks ++ map (logged_at seen.log) s.saves.items) taken.kept
          ∙ ap
          (λ (bs : List SavedBox). logged_of scripts transcripts (saved_seen sessions) ++ map
          (logged_at seen.log) bs) saves
          ∙ sym
          (kept_of_more t.keep t.tint t.table.plan t.table.models 0 scripts transcripts
          (saved_seen sessions) script answers seen taken.ran)
          ∙ ap
          (λ (zs : List SessionView). logged_of (scripts ++ script ∷ [])
          (transcripts ++ answers ∷ []) zs) (sym more);
      saved = All-append (IsSaved t.tint t.table) sessions (s ∷ []) taken.saved
          (All-cons (IsSaved t.tint t.table) s [] saved (All-nil (IsSaved t.tint t.table)));
    }

pub many_answered : (n : ℕ) (script : List ScriptLine) (answers : List LineAnswer)
    → AllZip (IsAnswered n) script answers → length answers ≡ length script
many_answered n [] [] all = refl
many_answered n [] (a ∷ answers) all = absurd all
many_answered n (l ∷ script) [] all = absurd all
many_answered n (l ∷ script) (a ∷ answers) all = ap suc (many_answered n script answers all.1)

pub done_left : (t : SessionWorld) (scripts : List (List ScriptLine)) (i : ℕ)
    (script : List ScriptLine) (works more : List SessionWork) (w : SessionWork)
    → i < length scripts → script ≡ get_or scripts i script → works ≡ w ∷ more
    → AreDone t i (drop i scripts) works
    → IsDoneOf t script i w × AreDone t (i + 1) (drop (i + 1) scripts) more
done_left t scripts i script works more w lt is works_are done =
    subst (λ (ls : List (List ScriptLine)). AreDone t i ls (w ∷ more))
    (drop_more scripts i script lt
    ∙ ap (λ (l : List ScriptLine). l ∷ drop (i + 1) scripts) (sym is))
    (subst (λ (ws : List SessionWork). AreDone t i (drop i scripts) ws) works_are done)

-- the session with its accepted saves
pub is_saved : (t : SessionWorld) (script : List ScriptLine) (number : ℕ) (w : SessionWork)
    (s : SavedSession) → IsDoneOf t script number w
    → AreLinesOfWorld t script
    → s.session ≡ w.session → s.pins.items ≡ w.room.pins.items
    → s.saves.items ≡ saved_in script w.room.answers.items → IsSaved t.tint t.table s
is_saved t script number w s done fit session pins saves = record {
  rest = subst (λ (z : PassState). IsAtRest t.table z) (sym session) done.rest;
  holds = subst (λ (ps : List Pinned). SeatHoldsPins t.table s.session.view ps) (sym pins)
      (subst (λ (z : PassState). SeatHoldsPins t.table z.view w.room.pins.items) (sym session)
      done.holds);
  versions = ap pinned_versions pins ∙ done.versions ∙ ap versions_of (sym saves);
  fit = subst (λ (bs : List SavedBox). All
      (λ b. SaveFits (side_of_world t.tint (2 ^ t.table.plan.side)) b.name b.part) bs) (sym saves)
      (saves_fit t.tint (2 ^ t.table.plan.side) t.table.models script w.room.answers.items fit);
  few =
      (let same = ap length saves in
      let least = few_accepted script w.room.answers.items in
      let most = done.few in
      omega arith);
}

pub next_taken : (t : SessionWorld) (scripts : List (List ScriptLine)) (i : ℕ)
    (script : List ScriptLine) (transcripts more_transcripts : List (List LineAnswer))
    (sessions more_sessions : List SavedSession) (answers : List LineAnswer)
    (s : SavedSession) → i < length scripts → script ≡ get_or scripts i script → more_transcripts
    ≡ transcripts ++ answers ∷ [] → more_sessions ≡ sessions ++ s ∷ []
    → TakenIn t (take i scripts) transcripts sessions
    → SessionRan (of_world t i) script answers none_noted (session_view s.session.view)
    → s.saves.items ≡ saved_in script answers → IsSaved t.tint t.table s
    → TakenIn t (take (i + 1) scripts) more_transcripts more_sessions
next_taken t scripts i script transcripts more_transcripts sessions more_sessions answers s lt is told kept taken ran saves saved =
    let next : take (i + 1) scripts ≡ take i scripts ++ script ∷ [] =
    take_more scripts i script lt
    ∙ ap (λ (l : List ScriptLine). take i scripts ++ l ∷ []) (sym is) in
    let number : i ≡ length (take i scripts) = sym (length-take-le i scripts (omega arith)) in
    subst (λ (ls : List (List ScriptLine)). TakenIn t ls more_transcripts more_sessions) (sym next)
    (subst (λ (ts : List (List LineAnswer)). TakenIn t
    (take i scripts ++ script ∷ []) ts more_sessions) (sym told)
    (subst (λ (ss : List SavedSession). TakenIn t (take i scripts ++ script ∷ [])
    (transcripts ++ answers ∷ []) ss) (sym kept)
    (one_taken t (take i scripts) transcripts sessions script answers s taken
    (subst (λ (n : ℕ). SessionRan (of_world t n) script answers none_noted
    (session_view s.session.view)) number ran) saves saved)))

pub saves_taken : (script lines : List ScriptLine) (answers told : List LineAnswer)
    (old new : List SavedBox) → old ≡ [] → lines ≡ script → told ≡ answers
    → new ≡ old ++ saved_in lines told → new ≡ saved_in script answers
saves_taken script lines answers told old new none of is pushed =
    pushed ∙ ap (λ (bs : List SavedBox). bs ++ saved_in lines told) none
    ∙ ap (λ (ls : List ScriptLine). saved_in ls told) of
    ∙ ap (λ (bs : List LineAnswer). saved_in script bs) is

pub new_held : (id : TableId) (terms : TermsState) (passes : List PassState)
    → AreNewPasses id terms passes → All (λ s. s.view.held ≡ []) passes
new_held id terms passes are =
    λ k d lt. (are.each k (get_or passes k d) (slice_get-get_or passes k d lt)).held

-- all works are done
pub works_done : (t : SessionWorld) (scripts : List (List ScriptLine)) (old new : List SessionWork)
    → AreWorks t 0 scripts old → RanEach Worked old new → AreDone t 0 scripts new
works_done t scripts old new are ran = all_done t 0 scripts old new are ran.number ran.each

pub works_many : (t : SessionWorld) (scripts : List (List ScriptLine)) (old new : List SessionWork)
    → AreWorks t 0 scripts old → RanEach Worked old new → length new ≡ length scripts
works_many t scripts old new are ran = ran.number ∙ as_many_works t 0 scripts old are
