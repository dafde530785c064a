-- A version that is forgotten, as a session tells it.
use Rattle.std.proofs.Common.{◌≡◌, ◌≤◌, List, [], ◌∷◌, ℕ, refl, sym, ◌∙◌, ap, subst, arith, Ok, Err, Some}
use Rattle.std.specs.List.{Contains}
use Rattle.history_model.specs.declared.histories.Mark.{Mark}
use Rattle.node_words.proofs.OfShapes.WeightLaws.{weight_of-one}
use Rattle.node_words.specs.shapes.Shape.{Shape}
use Rattle.node_words.specs.shapes.Weights.{number_of_trees, weigh}
use Rattle.node_words.specs.Gathering.{MayHold}
use Rattle.node_words.specs.Held.{OnlyHeldChanges, SameHeld, Wanted}
use Rattle.edit_walk.specs.blocks.Blocks.{ReturnsShare, MayGoBack}
use Rattle.conformance.specs.Answers.{mark_of}
use Rattle.table_rule.specs.LogFacts.{number_seen}
use Rattle.table_rule.specs.LogViews.{LogView}
use Rattle.table_rule.specs.ViewFacts.{ViewFacts}
use Rattle.table_rule.specs.Views.{SeatView, seen_of}
use Rattle.node_table.specs.LogTurns.{HasNoTurn}
use Rattle.node_table.specs.TableStates.{TableState, PassState}
use Rattle.version_log.specs.Forgets.{ForgetsVersion, IsOwnMark, RefusesForget}
use Rattle.version_log.specs.Seeing.{IsDated, OnlyReadsLog}
use Rattle.version_log.specs.declared.answers.Forgot.{Forgot}
use Rattle.retain.specs.declared.refusals.ForgetRefused.{ForgetRefused}
use Rattle.retain.specs.declared.refusals.ForgetRefused.TheVariants.{NoVersion, IsHead, Forgotten}
use Rattle.conformance.specs.sessions.SessionViews.{SessionView}
use Rattle.conformance.specs.sessions.CallSpecs.{ForgetSpec}
use Rattle.session.specs.Lendable.{StaysLendable}
use Rattle.session.specs.Resting.{IsAtRest}
use Rattle.session.specs.SessionWorlds.{KnowsItself, SessionWorld, log_seen, of_world, session_view}
use Rattle.session.proofs.SeenLaws.{knows_itself, only_sees, same_noted, sees_more}

made_mark : ℕ → ℕ → ℕ → ℕ → Mark
made_mark version at session line =
    record { version = version; at = at; session = session; line = line }

pub head_is : (m n : ℕ) → m ∷ [] ≡ n ∷ [] → m ≡ n
head_is m n e = ap (λ (ns : List ℕ). first_of ns) e
  where
    first_of : List ℕ → ℕ
    first_of [] = 0
    first_of (k ∷ ks) = k

pub own_mark : (v : SeatView) (version at line number : ℕ) (m : Mark) → v.numbers ≡ number ∷ []
    → IsOwnMark v version at line m → m ≡ mark_of version at number line
unfolding made_mark
own_mark v version at line number m one own =
    ap (λ (x : ℕ). made_mark x m.at m.session m.line) own.version_is
    ∙ ap (λ (x : ℕ). made_mark version x m.session m.line) own.at_is
    ∙ ap (λ (x : ℕ). made_mark version at x m.line)
    (head_is m.session number (sym own.session ∙ one))
    ∙ ap (λ (x : ℕ). made_mark version at number x) own.line_is

-- what came with the mark goes back, and the same trees are held
comes_held : (v w : SeatView) (version line : ℕ) (f : Forgot)
    (is : ForgetsVersion v version line f w)
    → MayHold w.held is.tree
comes_held v w version line f is = record {
  weighs = λ g. (let e = is.loses.weighs g in omega arith);
}

pub may_go : (v w : SeatView) (version line : ℕ) (f : Forgot) → ForgetsVersion v version line f w
    → MayGoBack w.held f.root
may_go v w version line f is = (is.tree, is.name, comes_held v w version line f is)

pub few_held : (v w : SeatView) (version line : ℕ) (f : Forgot) → ForgetsVersion v version line f w
    → number_of_trees v.held ≤ 3900 → number_of_trees w.held ≤ 4008
few_held v w version line f is few =
    let e = is.loses.weighs (λ _. 1) in
    let one = weight_of-one is.tree in
    omega arith

pub same_held : (v w z : SeatView) (version line : ℕ) (f : Forgot)
    → ForgetsVersion v version line f w
    → ReturnsShare f.root w.held z.held → SameHeld v.held z.held
same_held v w z version line f is back =
    let gone = back is.tree is.name (comes_held v w version line f is) in
    record {
      weighs = λ g.
          (let a = is.loses.weighs g in let b = gone.weighs g in
          let same : weigh g z.held ≡ weigh g v.held = omega arith in same);
    }

seen_as : LogView → List Shape → List Wanted → SessionView
seen_as l made met = record {
  log = log_seen l;
  records = l.records;
  marks = l.marks;
  found = l.found;
  noted = record { made = made; met = met };
}

pub same_seen : (w z : SeatView) → z.log ≡ w.log → z.made ≡ w.made → z.met ≡ w.met
    → session_view z ≡ session_view w
unfolding seen_as
same_seen w z log made met =
    ap (λ (l : LogView). seen_as l z.made z.met) log ∙ ap (λ ms. seen_as w.log ms z.met) made
    ∙ ap (λ ws. seen_as w.log w.made ws) met

module _ (t : SessionWorld) (number line version : ℕ) where
  forgets_here : (v w : SeatView) (f : Forgot) → v.numbers ≡ number ∷ []
      → ForgetsVersion v version line f w
      → ForgetSpec (of_world t number) line version (session_view v) (session_view w) (Ok f.at)
  forgets_here v w f one is =
      let mark : is.mark ≡ mark_of version (number_seen w) number line =
      own_mark v version f.at line number is.mark one is.own
      ∙ ap (λ (n : ℕ). mark_of version n number line) is.at
      in
      record {
        at_is = is.at;
        forgets = record {
          sees = sees_more v w is.sees;
          records = is.records;
          marks = is.marks ∙ ap (λ (m : Mark). m ∷ v.log.marks) mark;
          listed = subst (λ (m : Mark). Contains w.log.seen.marks m) mark is.comes;
          noted = same_noted v w is.made is.met;
        };
      }

  pub forgot_told : (v : SeatView) (w z : PassState) (f : Forgot) → v.numbers ≡ number ∷ []
      → ForgetsVersion v version line f w.view → StaysLendable t.table w z
      → OnlyHeldChanges (seen_of w.view) (seen_of z.view)
      → ForgetSpec (of_world t number) line version (session_view v) (session_view z.view) (Ok f.at)
  forgot_told v w z f one is stays only =
      subst (λ (s : SessionView).
      ForgetSpec (of_world t number) line version (session_view v) s (Ok f.at))
      (sym (same_seen w.view z.view stays.log only.made only.met))
      (forgets_here v w.view f one is)

  pub refused_told : (v w : SeatView) (e : ForgetRefused) → OnlyReadsLog v w → RefusesForget version e w
      → ForgetSpec (of_world t number) line version (session_view v) (session_view w)
      (Err e)
  refused_told v w (NoVersion at) looks is =
      record {
        at_is = is.0;
        only = only_sees v w looks;
        named = version;
        is = refl;
        over = is.1;
      }
  refused_told v w (IsHead at) looks is =
      record { at_is = is.0; only = only_sees v w looks; is = is.1 }
  refused_told v w (Forgotten at mark) looks is =
      record {
        at_is = is.0;
        only = only_sees v w looks;
        is = ap Some (sym is.1.is);
        listed = is.1.marked;
      }

-- a session is at rest once its share went back
pub rests_back : (t : TableState) (s w z : PassState) (version line : ℕ) (f : Forgot)
    → IsAtRest t s → ForgetsVersion s.view version line f w.view → HasNoTurn w.view
    → StaysLendable t w z
    → IsAtRest t z
rests_back t s w z version line f r is idle stays =
    record {
      of = stays.ready.of;
      idle = record {
        bucket = stays.ready.idle;
        log = ap (λ (l : LogView). l.turn) stays.log ∙ idle.log;
      };
      alone = ap (λ (l : LogView). l.taken) stays.log ∙ is.sees.taken ∙ r.alone;
      side = ap (λ (l : LogView). l.seen.side) stays.log ∙ is.sees.side ∙ r.side;
      dated = subst (λ (l : LogView). IsDated l.seen) (sym stays.log) (is.sees.dated r.dated);
    }

pub knows_back : (t : TableState) (z : PassState) → IsAtRest t z → ViewFacts z.view
    → KnowsItself z.view
knows_back t z r tells = knows_itself z.view tells r.alone r.dated
