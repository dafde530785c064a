-- What each call tells of its session, for the responder.
use Rattle.std.proofs.Common.{◌≡◌, ℕ, ◌+◌, ◌-◌, ◌≤◌, Option, Result, Ok, Err, List, [], ◌∷◌, ◌++◌, drop, length, length-append, take, ap, sym, subst, ◌∙◌, arith}
use Rattle.std.proofs.lemmas.List.{drop-append-le, drop_all, length-drop, map_push, take-append-drop, take-append-le, take_all}
use Rattle.node_words.specs.shapes.Tree.{Tree}
use Rattle.node_words.specs.shapes.Weights.{weigh, number_of_trees}
use Rattle.node_words.specs.Held.{SameHeld}
use Rattle.table_rule.specs.Views.{SeatView}
use Rattle.node_table.specs.TableStates.{TableState, PassState, SamePass}
use Rattle.version_log.specs.declared.answers.Pinned.{Pinned}
use Rattle.session.specs.Responders.{IsReadyResponder}
use Rattle.session.specs.Resting.{IsAtRest}
use Rattle.session.specs.Saves.{AddsPin, SeatHoldsMore, SeatHoldsPins, pinned_versions}
use Rattle.session.specs.SessionWorlds.{SessionWorld, of_world, session_view}
use Rattle.session.proofs.SaveLaws.{few_held, no_pins, one_more, still_held}
use Rattle.history_model.specs.declared.acts.Act.{Act}
use Rattle.history_model.specs.declared.questions.Question.{Question}
use Rattle.vw_cell.specs.declared.boxes.Boxed.{Boxed}
use Rattle.conformance.specs.declared.sessions.calls.ActAnswer.{ActAnswer}
use Rattle.conformance.specs.declared.sessions.calls.ActAnswer.TheVariants as acts
use Rattle.conformance.specs.declared.sessions.calls.OnceAnswer.{OnceAnswer}
use Rattle.conformance.specs.declared.sessions.calls.OnceAnswer.TheVariants as onces
use Rattle.conformance.specs.declared.sessions.calls.AskedAt.{AskedAt}
use Rattle.conformance.specs.declared.sessions.calls.SavedAt.{SavedAt}
use Rattle.retain.specs.declared.refusals.PinRefused.{PinRefused}
use Rattle.retain.specs.declared.refusals.PinRefused.TheVariants as pins
use Rattle.retain.specs.declared.refusals.ForgetRefused.{ForgetRefused}
use Rattle.retain.specs.declared.refusals.ForgetRefused.TheVariants as forgets
use Rattle.retain.specs.declared.comparing.SameAt.{SameAt}
use Rattle.retain.specs.declared.comparing.SameRefused.{SameRefused}
use Rattle.retain.specs.declared.comparing.SameRefused.TheVariants as sames
use Rattle.conformance.specs.sessions.Calls.{FollowsHistory}
use Rattle.conformance.specs.Answers.{asked_version}
use Rattle.script.specs.declared.commands.ScriptLine.{ScriptLine}
use Rattle.transcript.specs.declared.answers.LineAnswer.{LineAnswer}
use Rattle.conformance.specs.sessions.Runs.{RunsScript}
use Rattle.conformance.specs.sessions.Saves.{version_saved}
use Rattle.conformance.specs.sessions.SessionViews.{SessionOf, SessionView}
use Rattle.conformance.specs.sessions.CallSpecs.{ActSpec, AskSpec, ForgetSpec, HeadSpec, OnceSpec, PinIsRefused, SameSpec, SaveSpec}

module _ (of : SessionOf) (old new : SessionView) where
  pub act_sees : (line : ℕ) (act : Act) (answer : ActAnswer) → ActSpec of line act old new answer
      → FollowsHistory old new
  act_sees line act (acts.Done n) told = told.appends.sees
  act_sees line act (acts.Full at full) told = told.nothing.sees
  act_sees line act acts.LogFull told = told.nothing.sees
  act_sees line act (acts.NothingToUndo at) told = told.nothing.sees
  act_sees line act (acts.NothingToRedo at) told = told.nothing.sees
  act_sees line act (acts.Forgotten at mark) told = told.nothing.sees

  pub once_sees : (line : ℕ) (act : Act) (answer : OnceAnswer) → OnceSpec of line act old new answer
      → FollowsHistory old new
  once_sees line act (onces.Done n) told = told.appends.sees
  once_sees line act (onces.Full at full) told = told.nothing.sees
  once_sees line act onces.LogFull told = told.nothing.sees
  once_sees line act (onces.Stale at base) told = told.nothing.sees

  refused_sees : (version : Option ℕ) (refused : PinRefused) → PinIsRefused version old new refused
      → FollowsHistory old new
  refused_sees version (pins.NoVersion at) told = told.only.nothing.sees
  refused_sees version (pins.Forgotten at mark) told = told.only.nothing.sees

  pub ask_sees : (version : Option ℕ) (question : Question) (answer : Result AskedAt PinRefused)
      → AskSpec of version question old new answer → FollowsHistory old new
  ask_sees version question (Ok a) told = told.only.nothing.sees
  ask_sees version question (Err refused) told = refused_sees version refused told

  pub save_sees : (version : Option ℕ) (part : Boxed) (answer : Result SavedAt PinRefused)
      → SaveSpec of version part old new answer → FollowsHistory old new
  save_sees version part (Ok a) told = told.only.nothing.sees
  save_sees version part (Err refused) told = refused_sees version refused told

  pub forget_sees : (line version : ℕ) (answer : Result ℕ ForgetRefused)
      → ForgetSpec of line version old new answer → FollowsHistory old new
  forget_sees line version (Ok at) told = told.forgets.sees
  forget_sees line version (Err (forgets.NoVersion at)) told = told.only.nothing.sees
  forget_sees line version (Err (forgets.IsHead at)) told = told.only.nothing.sees
  forget_sees line version (Err (forgets.Forgotten at mark)) told = told.only.nothing.sees

  pub same_sees : (v w : ℕ) (answer : Result SameAt SameRefused) → SameSpec of v w old new answer
      → FollowsHistory old new
  same_sees v w (Ok a) told = told.only.nothing.sees
  same_sees v w (Err (sames.NoVersion at version)) told = told.only.nothing.sees
  same_sees v w (Err (sames.Forgotten at mark)) told = told.only.nothing.sees

  pub head_sees : (at : ℕ) → HeadSpec old new at → FollowsHistory old new
  head_sees at told = told.only.nothing.sees

-- ---- what holds of the responder between two lines

module _ (w : TableState) (number first most : ℕ) (s : PassState) (saves : List Pinned)
    (capacity : ℕ) (d : IsReadyResponder w number first most s saves capacity) where
  -- there is room for the shares of one call
  pub few_shares : number_of_trees s.view.held ≤ 3900
  few_shares =
      let few = few_held w (session_view s.view) s.view.held (drop first saves) d.holds in
      let own = length-drop first saves in
      let a = d.few in
      let b = d.fewer in
      omega arith

  same_number : (z : PassState) → SamePass s z → z.view.numbers ≡ number ∷ []
  same_number z same = same.session.numbers ∙ d.mine

  pub desk_goes_on : (z : PassState) → IsAtRest w z → SamePass s z → SameHeld s.view.held z.view.held
      → FollowsHistory (session_view s.view) (session_view z.view)
      → IsReadyResponder w number first most z saves capacity
  desk_goes_on z rest same held sees = record {
    rest = rest;
    mine = same_number z same;
    begun = d.begun;
    holds = still_held w (session_view s.view)
        (session_view z.view) s.view.held z.view.held (drop first saves) d.holds held sees;
    few = d.few;
    fewer = d.fewer;
    room = d.room;
  }

  pub desk_saves : (z : PassState) (p : Pinned) (more : List Pinned) → 1 ≤ most - length saves
      → IsAtRest w z → SamePass s z → AddsPin w (session_view z.view) s.view.held z.view.held p
      → FollowsHistory (session_view s.view) (session_view z.view) → more ≡ saves ++ p ∷ []
      → (wide : ℕ) → wide ≡ capacity → IsReadyResponder w number first most z more wide
  desk_saves z p more room rest same adds sees is wide as_wide = record {
    rest = rest;
    mine = same_number z same;
    begun = (let long = ap length is in let one = length-append saves (p ∷ []) in
        let there = d.begun in omega arith);
    holds = one_more w (session_view s.view) (session_view z.view) s.view.held z.view.held
        (drop first saves) (drop first more) p d.holds sees adds
        (ap (λ (ps : List Pinned). drop first ps) is
        ∙ drop-append-le first saves (p ∷ []) d.begun);
    few = (let long = ap length is in let one = length-append saves (p ∷ []) in omega arith);
    fewer = d.fewer;
    room = (let all = d.room in omega arith);
  }

pub same_if : (old new : List Tree) → new ≡ old → SameHeld old new
same_if old new e = record { weighs = λ f. ap (weigh f) e }

-- ---- a session that begins, and what it saves

pub desk_begins : (w : TableState) (number first most : ℕ) (s : PassState) (saves : List Pinned)
    (capacity : ℕ) → IsAtRest w s → s.view.numbers ≡ number ∷ [] → s.view.held ≡ []
    → first ≡ length saves → length saves ≤ most → most ≤ first + 3900 → most ≤ capacity
    → IsReadyResponder w number first most s saves capacity
desk_begins w number first most s saves capacity rest mine held all few fewer room = record {
  rest = rest;
  mine = mine;
  begun = omega arith;
  holds = no_pins w (session_view s.view) s.view.held (drop first saves) held
      (drop_all first saves (omega arith));
  few = few;
  fewer = fewer;
  room = room;
}

-- a pin that comes behind them leaves the first ones where they are
pub first_stay : (first : ℕ) (saves more : List Pinned) (p : Pinned) → first ≤ length saves
    → more ≡ saves ++ p ∷ [] → take first more ≡ take first saves
first_stay first saves more p begun is =
    ap (λ (ps : List Pinned). take first ps) is ∙ take-append-le first saves (p ∷ []) begun

pub pins_more : (saves more : List Pinned) (p : Pinned) (version : Option ℕ) (a : SavedAt)
    → more ≡ saves ++ p ∷ [] → p.version ≡ asked_version version a.at
    → pinned_versions more ≡ pinned_versions saves ++ version_saved version (Ok a)
pins_more saves more p version a is asked =
    ap pinned_versions is ∙ map_push (λ (q : Pinned). q.version) saves p
    ∙ ap (λ (n : ℕ). pinned_versions saves ++ n ∷ []) asked

-- the session has one number
pub one_number : (ns : List ℕ) (m n : ℕ) → ns ≡ m ∷ [] → ns ≡ n ∷ [] → m ≡ n
one_number ns m n first second = cc

-- what the lines made of the session, as the lender of session and list sees it
pub script_ran : (w : SessionWorld) (mine : ℕ) (script lines : List ScriptLine)
    (before after : List LineAnswer) (old : PassState) (new last : SessionView)
    (were are saved : List Pinned) → lines ≡ script → last ≡ new → saved ≡ are
    → old.view.numbers ≡ mine ∷ []
    → RunsScript (of_world w mine) lines before after (session_view old.view) new
    (pinned_versions were) (pinned_versions are)
    → (number : ℕ) → old.view.numbers ≡ number ∷ []
    → RunsScript (of_world w number) script before after (session_view old.view) last
    (pinned_versions were) (pinned_versions saved)
script_ran w mine script lines before after old new last were are saved of session list one ran number other =
    subst (λ (n : ℕ). RunsScript (of_world w n) script before after (session_view old.view) last
    (pinned_versions were) (pinned_versions saved))
    (one_number old.view.numbers mine number one other)
    (subst (λ (ls : List ScriptLine). RunsScript (of_world w mine) ls before after
    (session_view old.view) last (pinned_versions were) (pinned_versions saved)) of
    (subst (λ (ps : List Pinned). RunsScript (of_world w mine) lines before after
    (session_view old.view) last (pinned_versions were) (pinned_versions ps)) (sym list)
    (subst (λ (z : SessionView). RunsScript (of_world w mine) lines before after
    (session_view old.view) z (pinned_versions were) (pinned_versions are))
    (sym session) ran)))

-- the first pins are those that were there, and the roots of the others are held
pub script_holds : (w x : TableState) (new last : SeatView) (m n : ℕ) (were are saved : List Pinned)
    → x ≡ w → last ≡ new → saved ≡ are → m ≡ length were → n ≡ m → take m are ≡ take m were
    → SeatHoldsPins x new (drop n are) → SeatHoldsMore w last were saved
script_holds w x new last m n were are saved world session list all first kept holds =
    subst (λ (ps : List Pinned). SeatHoldsMore w last were ps) (sym list) (record {
      more = drop m are;
      pushed = sym (take-append-drop m are)
          ∙ ap (λ (ps : List Pinned). ps ++ drop m are)
          (kept ∙ take_all m were (omega arith));
      holds = subst (λ (i : ℕ). SeatHoldsPins w last (drop i are)) first
          (subst (λ (t : TableState). SeatHoldsPins t last (drop n are)) world
          (subst (λ (v : SeatView). SeatHoldsPins x v (drop n are)) (sym session) holds));
    })

pub script_rests : (w x : TableState) (new last : PassState) → x ≡ w → last ≡ new → IsAtRest x new
    → IsAtRest w last
script_rests w x new last world session rest =
    subst (λ (t : TableState). IsAtRest t last) world
    (subst (λ (z : PassState). IsAtRest x z) (sym session) rest)

pub script_same : (old new last : PassState) → last ≡ new → SamePass old new → SamePass old last
script_same old new last session same = subst (λ (z : PassState). SamePass old z) (sym session) same
