-- What a closed world tells.
use Rattle.std.proofs.Common.{◌≡◌, ℕ, ◌+◌, ◌-◌, ◌<◌, ◌≤◌, ◌^◌, List, [], ◌∷◌, ◌++◌, take, refl, sym, ◌∙◌, ap, subst, arith, append_assoc}
use Rattle.std.specs.Prelude.{All, Bool, Result, Ok, Err, IfErr, IfOk}
use Rattle.std.proofs.lemmas.List.{map_push}
use Rattle.std.proofs.lemmas.List.Elements.{All-head}
use Rattle.vox_read.specs.Contents.{Content}
use Rattle.history_model.specs.Logs.{Log, IsLegal}
use Rattle.core_laws.specs.places.WordIds.{levels}
use Rattle.core_laws.specs.contents.Aligned.{top}
use Rattle.report.proofs.RootLaws.{log_side}
use Rattle.report.specs.Numbers.{AreNumbers}
use Rattle.report.specs.Roots.{AreKeptRoots, TellsReport}
use Rattle.node_table.specs.Closing.{EndsTable}
use Rattle.node_table.specs.TableStates.{TableState, PassState}
use Rattle.node_table.specs.Closed.{Closed}
use Rattle.node_words.specs.Plans.{Layout}
use Rattle.conformance.specs.sessions.Ran.{ClosesWorld}
use Rattle.conformance.specs.sessions.SessionViews.{SessionView}
use Rattle.session.specs.Closes.{HadHistory, session_views}
use Rattle.session.specs.SessionWorlds.{session_view}
use Rattle.world_run.specs.declared.open_runs.SavedSession.{SavedSession}
use Rattle.world_run.specs.Open.{saved_seen}
use Rattle.world_run.specs.declared.endings.WorldRan.{WorldRan}
use Rattle.world_run.specs.Ends.{IsEndOf}
use Rattle.world_run.proofs.Telling.{closed_tells}

module _ (t : TableState) (closed : Closed) (low : 2 ≤ t.plan.side) (high : t.plan.side ≤ 12)
    (ends : EndsTable t closed) where
  legal : IsLegal (2 ^ t.plan.side) t.models closed.history
  legal = subst (λ (log : Log). IsLegal (2 ^ t.plan.side) t.models log)
      (sym ends.history) ends.sound.versions.legal

  side_is : closed.history.side ≡ t.plan.side
  side_is = log_side t.plan t.models closed.history legal

  pub numbers_are : (numbers : List ℕ) (n : ℕ) → n ≡ t.plan.side - 2
      → numbers ≡ take (n + 1) closed.live → AreNumbers t.models closed.history numbers
  numbers_are numbers n is told =
      let same : take (levels t.plan) closed.live ≡ numbers =
      ap (λ (k : ℕ). take k closed.live) (let e : t.plan.side - 1 ≡ n + 1 = omega arith in e)
      ∙ sym told in
      subst (λ (ns : List ℕ). AreNumbers t.models closed.history ns) same
      (closed_tells t closed low high ends).are_numbers

  world_numbers : AreNumbers t.models closed.history
      (take (top closed.history.side + 1) closed.live)
  world_numbers = numbers_are (take (top closed.history.side + 1) closed.live)
      (top closed.history.side) (ap (λ (s : ℕ). s - 2) side_is) refl

  pub tells_report : TellsReport t.models closed
  tells_report = record {
    roots = subst (λ (log : Log). AreKeptRoots log closed.roots.items) (sym ends.history)
        (record { rising = ends.roots.rising; kept = ends.roots.kept; all = ends.roots.all });
    worlds = (closed_tells t closed low high ends).roots_tell;
    numbers = world_numbers;
  }

  pub is_end : (tint : Bool) → closed.history.coloured ≡ tint
      → IsEndOf tint t.models closed.history closed
  is_end tint coloured = record {
    history = refl;
    coloured = coloured;
    numbers = world_numbers;
    as_many = ends.live.as_many;
    above = λ level over. ends.live.above level (past level over);
  }
    where
      past : (level : ℕ) → top closed.history.side < level → levels t.plan ≤ level
      past level over =
          let over_is : t.plan.side - 2 < level =
          subst (λ (s : ℕ). s - 2 < level) side_is over in
          omega (arith, over_is, low)

-- ---- sessions that are given up, or come to the end

pub seen_more : (spare more : List PassState) (session : PassState) (all left : List SavedSession)
    (saved : SavedSession) (whole : List SessionView) → more ≡ spare ++ session ∷ []
    → all ≡ saved ∷ left
    → session_view session.view ≡ session_view saved.session.view
    → session_views spare ++ saved_seen all ≡ whole → session_views more ++ saved_seen left ≡ whole
seen_more spare more session all left saved whole pushed is same so_far =
    ap (λ (ss : List PassState). session_views ss ++ saved_seen left) pushed
    ∙ ap (λ (zs : List SessionView). zs ++ saved_seen left)
    (map_push (λ (s : PassState). session_view s.view) spare session)
    ∙ append_assoc (session_views spare) (session_view session.view ∷ []) (saved_seen left)
    ∙ ap (λ (z : SessionView). session_views spare ++ z ∷ saved_seen left) same
    ∙ ap (λ (ss : List SavedSession). session_views spare ++ saved_seen ss) (sym is)
    ∙ so_far

-- ---- lists whose first item is taken

pub first_of : {X : Type 0} (P : X → Type 0) (x : X) (xs ys : List X) → ys ≡ x ∷ xs → All P ys → P x
first_of {X} P x xs ys is all = All-head P x xs (subst (λ (zs : List X). All P zs) is all)

-- a world that was closed, but of which there was no memory to tell, had that history
pub ran_or_had : {E : Type 0} (p : Layout) (models : List Content) (tint : Bool)
    (sessions : List SessionView)
    (log : Log) → ClosesWorld tint p models sessions log → (result : Result WorldRan E)
    → IfErr result (λ _. HadHistory tint p models sessions)
ran_or_had p models tint sessions log closes (Ok r) = tt
ran_or_had p models tint sessions log closes (Err e) = record { log = log; closes = closes }

-- ---- what a run tells whose world was closed

module _ {E : Type 0} (t : TableState) (closed : Closed) (low : 2 ≤ t.plan.side)
    (high : t.plan.side ≤ 12) (ends : EndsTable t closed) where
  pub ran_ends : (tint : Bool) → closed.history.coloured ≡ tint → (result : Result WorldRan E)
      → IfOk result (λ r. r.ended ≡ closed)
      → IfOk result (λ r. IsEndOf tint t.models r.ended.history r.ended)
  ran_ends tint coloured (Ok r) same =
      subst (λ (c : Closed). IsEndOf tint t.models c.history c) (sym same)
      (is_end t closed low high ends tint coloured)
  ran_ends tint coloured (Err e) same = tt

  pub ran_tells : (result : Result WorldRan E) → IfOk result (λ r. r.ended ≡ closed)
      → IfOk result (λ r. TellsReport t.models r.ended)
  ran_tells (Ok r) same = subst (λ (c : Closed). TellsReport t.models c) (sym same)
      (tells_report t closed low high ends)
  ran_tells (Err e) same = tt

  pub ran_numbers : (result : Result WorldRan E) (n : ℕ) → n ≡ t.plan.side - 2
      → IfOk result (λ r. r.ended ≡ closed)
      → IfOk result (λ r. r.numbers.items ≡ take (n + 1) closed.live)
      → IfOk result (λ r. AreNumbers t.models r.ended.history r.numbers.items)
  ran_numbers (Ok r) n is same told = subst
      (λ (c : Closed). AreNumbers t.models c.history r.numbers.items) (sym same)
      (numbers_are t closed low high ends r.numbers.items n is told)
  ran_numbers (Err e) n is same told = tt
