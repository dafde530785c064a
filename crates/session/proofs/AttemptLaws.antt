-- What an attempt at an edit leaves, for each of its outcomes.
use Rattle.std.proofs.Common.{◌≡◌, ◌≤◌, ℕ, Option, List, length, sym, ◌∙◌, ap, subst, arith}
use Rattle.history_model.specs.declared.acts.Act.{Act}
use Rattle.act_rebuilds.specs.Drawn.{WorldModels}
use Rattle.node_words.specs.declared.shapes.names.Name.{Name}
use Rattle.node_words.specs.shapes.Tree.{Tree}
use Rattle.node_words.specs.shapes.Weights.{number_of_trees}
use Rattle.node_words.specs.declared.shares.Full.{Full}
use Rattle.node_words.specs.Held.{SameHeld}
use Rattle.edit_walk.specs.blocks.Blocks.{ReturnsShare}
use Rattle.table_rule.specs.LogViews.{LogView}
use Rattle.table_rule.specs.Views.{SeatView}
use Rattle.node_table.specs.LogTurns.{HasNoTurn}
use Rattle.node_table.specs.TableStates.{TableState, PassState, BelongsTo, SamePass}
use Rattle.version_log.specs.Commits.{RefusesCommit}
use Rattle.version_log.specs.Falling.{CommitsNext}
use Rattle.version_log.specs.declared.answers.Committed.{Committed}
use Rattle.version_log.specs.Roots.{GetsRoot}
use Rattle.version_log.specs.Seeing.{IsDated, OnlyReadsLog}
use Rattle.version_log.specs.declared.answers.CommitRefused.{CommitRefused}
use Rattle.version_log.specs.declared.answers.CommitRefused.TheVariants.{LogFull, Stale}
use Rattle.version_log.specs.declared.answers.Pinned.{Pinned}
use Rattle.conformance.specs.declared.sessions.calls.ActAnswer.TheVariants as acts
use Rattle.session.specs.Lendable.{StaysLendable}
use Rattle.session.specs.Attempts.{AnswersAct, FailsToMake, HasPinnedHead, IsLate, IsMaker, MakesNextRoot}
use Rattle.session.specs.Resting.{IsAtRest}
use Rattle.session.specs.SessionWorlds.{SessionWorld, session_view}
use Rattle.session.proofs.CommitLaws.{back_same, few_gained, full_answers, held_by, late_answers}
use Rattle.session.proofs.KeepLaws.{commits_knows, commits_session, fallen_room, kept_answers, pushed_held}
use Rattle.session.proofs.SeenLaws.{rests}
use Rattle.session.proofs.WorkLaws.{answers_after, answers_still, looks_work, works_on}

-- a session that may be lent again and knows the same of the log is at rest again; the table is the
-- world's
pub rests_lent : (t u : TableState) (v w : PassState) → u ≡ t → IsAtRest t v → StaysLendable u v w
    → IsAtRest t w
rests_lent t u v w same r stays =
    record {
      of = subst (λ (x : TableState). BelongsTo x w) same stays.ready.of;
      idle = record {
        bucket = stays.ready.idle;
        log = ap (λ (l : LogView). l.turn) stays.log ∙ r.idle.log;
      };
      alone = ap (λ (l : LogView). l.taken) stays.log ∙ r.alone;
      side = ap (λ (l : LogView). l.seen.side) stays.log ∙ r.side;
      dated = subst (λ (l : LogView). IsDated l.seen) (sym stays.log) r.dated;
    }

-- and so is one whose record was accepted
pub rests_committed : (t u : TableState) (v w : PassState) (keep line : ℕ) (act : Act)
    (root : Option Name) (c : Committed) → u ≡ t → IsAtRest t v → BelongsTo u w → HasNoTurn w.view
    → CommitsNext v.view keep line act root c w.view → IsAtRest t w
rests_committed t u v w keep line act root c same r of idle made =
    rests t v w r (subst (λ (x : TableState). BelongsTo x w) same of) idle
    (commits_knows keep v.view w.view line act root c made)

pub same_committed : (t u : TableState) (v w : PassState) (keep line : ℕ) (act : Act)
    (root : Option Name) (c : Committed) → u ≡ t → IsAtRest t v → BelongsTo u w
    → CommitsNext v.view keep line act root c w.view → SamePass v w
same_committed t u v w keep line act root c same r of made =
    record {
      table = of.table ∙ ap (λ (x : TableState). x.id) same ∙ sym r.of.table;
      session = commits_session keep v.view w.view line act root c made;
    }

-- the same of one that looked at the log
pub same_looked : (t u : TableState) (v w : PassState) → u ≡ t → IsAtRest t v → BelongsTo u w
    → OnlyReadsLog v.view w.view → SamePass v w
same_looked t u v w same r of looks =
    record {
      table = of.table ∙ ap (λ (x : TableState). x.id) same ∙ sym r.of.table;
      session = looks.session;
    }

-- the same of a refusal that is equal
pub refused_as : (base : Pinned) (root : Option Name) (e d : CommitRefused) (x : SeatView)
    → e ≡ d → RefusesCommit base root e x → RefusesCommit base root d x
refused_as base root e d x same h =
    subst (λ (y : CommitRefused). RefusesCommit base root y x) same h

module _ (t : SessionWorld) (line : ℕ) (act : Act) (drawn : WorldModels) (base : Pinned)
    (v w : PassState) (maker : IsMaker t.table drawn act)
    (head : HasPinnedHead v.view base)
    (stays : StaysLendable t.table v w) where
  pub full_comes : (full : Full) → FailsToMake t.table act full v.view w.view
      → SameHeld v.view.held w.view.held
      × AnswersAct t line act (acts.Full base.moment full) v.view w.view
  full_comes full fails = (
    fails.held,
    full_answers t line act base.moment full v.view w.view
        (head.now ∙ sym (ap (λ (l : LogView). length l.seen.records) stays.log)) fails,
  )

  module _ (root : Option Name) (makes : MakesNextRoot t.table act root v.view w.view) where
    pub made_room : number_of_trees v.view.held ≤ 3901 → number_of_trees w.view.held ≤ 4095
    made_room few =
        let more = few_gained v.view.held w.view.held root makes.gains in omega arith

    pub done_comes : (x y : SeatView) (c : Committed)
        → CommitsNext w.view t.keep line act root c x → session_view y ≡ session_view x
        → ReturnsShare c.fallen x.held y.held
        → SameHeld v.view.held y.held × AnswersAct t line act (acts.Done c.n) v.view y
    done_comes x y c made seen back = (
      pushed_held t.keep line act root c v.view.held w.view x y.held makes.gains made back,
      answers_after t line act (acts.Done c.n) v.view w.view y makes.works
          (kept_answers t line act root c w.view x y made seen),
    )

    pub done_room : (x : SeatView) (c : Committed) → CommitsNext w.view t.keep line act root c x
        → number_of_trees v.view.held ≤ 3901 → number_of_trees x.held ≤ 4008
    done_room x c made few =
        fallen_room t.keep line act root c v.view.held w.view x makes.gains made (omega arith)

    pub late_room : (x : SeatView) → x.held ≡ w.view.held
        → number_of_trees v.view.held ≤ 3901 → number_of_trees x.held ≤ 4008
    late_room x kept few =
        let more = few_gained v.view.held w.view.held root makes.gains in
        let same : number_of_trees x.held ≡ number_of_trees w.view.held =
        ap number_of_trees kept
        in
        omega arith

    pub late_comes : (x y : SeatView) (back : Option Name) → OnlyReadsLog w.view x
        → x.held ≡ w.view.held → RefusesCommit base root (LogFull back) x
        → session_view y ≡ session_view x → ReturnsShare back x.held y.held
        → SameHeld v.view.held y.held × AnswersAct t line act acts.LogFull v.view y
    late_comes x y back looks kept refused seen gone = (
      back_same v.view.held w.view.held x.held y.held root makes.gains
          (held_by w.view.held x.held kept)
          (subst (λ (r : Option Name). ReturnsShare r x.held y.held) refused.0 gone),
      answers_still t line act acts.LogFull v.view x y seen
          (late_answers t line act v.view x maker.edit
          (works_on t.table act v.view w.view x makes.works (looks_work t.table act w.view x looks))
          refused.1),
    )

    pub stale_comes : (x : SeatView) (now : ℕ) (back : Option Name) → OnlyReadsLog w.view x
        → x.held ≡ w.view.held → RefusesCommit base root (Stale now back) x
        → IsLate t.table act base (record { at = now; root = back }) v.view x
    stale_comes x now back looks kept refused =
        record {
          works = works_on t.table act v.view w.view x makes.works
              (looks_work t.table act w.view x looks);
          gains = subst (λ (r : Option Name). GetsRoot v.view.held r x.held) (sym refused.0)
              (subst (λ (ts : List Tree). GetsRoot v.view.held root ts) (sym kept) makes.gains);
          at_is = refused.1;
          over = refused.2;
          room = refused.3;
        }
