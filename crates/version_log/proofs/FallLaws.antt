-- What is left where a version falls out behind a record.
use Rattle.std.proofs.Common.{Result, Ok, Err, IfOk, Bool, MatchBool, true, ◌≡◌, ◌^◌, ◌<◌, ◌≤◌, ℕ, Option, Some, None, List, [], ◌∷◌, inl, inr, ⊎_elim, refl, sym, ◌∙◌, ap, subst, arith}
use Rattle.std.specs.List.{Contains}
use Rattle.vox_read.specs.Contents.{Content}
use Rattle.history_model.specs.declared.acts.Act.{Act}
use Rattle.history_model.specs.declared.histories.Mark.{Mark}
use Rattle.history_model.specs.Logs.{FitsWorld}
use Rattle.node_words.specs.declared.shapes.names.Name.{Name}
use Rattle.node_words.specs.shapes.Tree.{Tree, Gone}
use Rattle.node_words.specs.shapes.Weights.{number_of_trees, weigh}
use Rattle.node_words.proofs.OfShapes.WeightLaws.{weight_of-gone}
use Rattle.table_rule.specs.LogFacts.{number_seen}
use Rattle.table_rule.specs.Views.{SeatView}
use Rattle.node_table.specs.LogTurns.{ForgetsUnderTurn, FoundMark, FoundOpen, HasNoTurn, TakesLog, log_left, next_mark}
use Rattle.node_table.specs.Guards.{LeavesBusy, TakesAtOnce}
use Rattle.node_table.specs.TableStates.{PassState, TableState}
use Rattle.version_log.specs.declared.answers.Pinned.{Pinned}
use Rattle.version_log.specs.declared.answers.Committed.{Committed}
use Rattle.version_log.specs.declared.answers.CommitRefused.{CommitRefused}
use Rattle.version_log.specs.Coming.{CommitCame, IsCommitted, IsCommittedAtOnce, IsNotCommitted, IsNotTried, MayCommit, MayCommitHere}
use Rattle.version_log.specs.Commits.{AppendsNext}
use Rattle.version_log.specs.Tries.{tried}
use Rattle.retain.specs.Retained.{falls_out}
use Rattle.version_log.specs.Falling.{CommitsAlone, CommitsNext, FallsOut, WasMarked}
use Rattle.version_log.specs.Forgets.{ForgetsVersion}
use Rattle.version_log.specs.Roots.{GetsRoot}
use Rattle.version_log.specs.Seeing.{OnlyReadsLog}
use Rattle.version_log.proofs.AppendLaws.{base_known, commits_before, commits_made, seen_grows, try_refused}
use Rattle.version_log.proofs.ForgetLaws.{forgets, forgets_idle}
use Rattle.version_log.proofs.LookLaws.{back_looks, left_on, looks_on, mark_looks, open_looks, takes_looks}

-- the version had a mark, and the turn went back
pub fell_marked : (v m w : SeatView) (u line : ℕ) (mark : Mark) → FoundMark v u mark m
    → w ≡ log_left m → FallsOut (Some u) line (number_seen v) None (log_left v) w
fell_marked v m w u line mark f left =
    let long : number_seen w ≡ number_seen v =
    ap (λ (x : SeatView). number_seen x) left ∙ ap (λ (x : SeatView). number_seen x) f.is in
    inr (record {
      none = refl;
      length = long;
      mark = mark;
      marked = record {
        is = f.version;
        marked = subst (λ (x : SeatView). Contains x.log.seen.marks mark) (sym left) f.comes;
        later = (f.later.0, (let low = f.later.1 in omega arith));
      };
      looks = looks_on (log_left v) v w (back_looks v)
          (left_on v m w (mark_looks v u mark m f) left);
      held = ap (λ (x : SeatView). x.held) left ∙ ap (λ (x : SeatView). x.held) f.is;
    })

-- it had none, and was forgotten
module _ (v m w : SeatView) (u line session : ℕ) (root : Option Name) (earlier : u < number_seen v)
    (number : v.numbers ≡ session ∷ []) (b : FoundOpen v u m)
    (f : ForgetsUnderTurn m (next_mark m u session line) root w) where
  open_left : OnlyReadsLog (log_left v) m
  open_left = looks_on (log_left v) v m (back_looks v) (open_looks v u m b)

  pub fell_open : FallsOut (Some u) line (number_seen v) root (log_left v) w
  fell_open =
      inl (forgets (log_left v) m w u line (number_seen v) session root open_left
      (ap (λ (x : SeatView). x.held) b.is) (sym (ap (λ (x : SeatView). number_seen x) b.is)) earlier
      number f)

  pub fell_idle : v.turn ≡ None → HasNoTurn w
  fell_idle idle =
      forgets_idle (log_left v) m w u line (number_seen v) session root open_left
      (ap (λ (x : SeatView). x.held) b.is) (sym (ap (λ (x : SeatView). number_seen x) b.is)) earlier
      number f (ap (λ (x : SeatView). x.turn) b.is ∙ idle)

  pub fell_busy : w.log.busy ≡ v.log.busy
  fell_busy = ap (λ (x : SeatView). x.log.busy) f.is ∙ ap (λ (x : SeatView). x.log.busy) b.is

gets_nothing : (old new : List Tree) (root : Option Name) → root ≡ None → new ≡ old
    → GetsRoot old root new
gets_nothing old new root none same = record {
  tree = Gone;
  name = sym none;
  loses = record {
    weighs = λ f.
        (let e = ap (λ (ts : List Tree). weigh f ts) same in let z = weight_of-gone f Gone refl in
        omega arith);
  };
}

-- the share that came, if one did
pub falls_gets : (o : Option ℕ) (line n : ℕ) (fallen : Option Name) (v w : SeatView)
    → FallsOut o line n fallen v w → GetsRoot v.held fallen w.held
falls_gets None line n fallen v w f =
    gets_nothing v.held w.held fallen f.0 (ap (λ (x : SeatView). x.held) f.1)
falls_gets (Some u) line n fallen v w f =
    ⊎_elim (λ (g : ForgetsVersion v u line (record { at = n; root = fallen }) w).
    record { tree = g.tree; name = g.name; loses = g.loses })
    (λ (m : WasMarked v u n fallen w). gets_nothing v.held w.held fallen m.none m.held) f

-- the record, and the version that fell out behind it
pub commits_fallen : (v z w : SeatView) (keep line n u : ℕ) (act : Act) (root fallen : Option Name)
    → AppendsNext v line act root n (log_left z) → n ≡ number_seen z → falls_out n keep ≡ Some u
    → FallsOut (Some u) line (number_seen z) fallen (log_left z) w
    → CommitsNext v keep line act root (record { n = n; fallen = fallen }) w
commits_fallen v z w keep line n u act root fallen a here is falls = record {
  behind = log_left z;
  appends = a;
  falls = subst (λ (o : Option ℕ). FallsOut o line n fallen (log_left z) w) (sym is)
      (subst (λ (k : ℕ). FallsOut (Some u) line k fallen (log_left z) w) (sym here) falls);
}

-- and where none fell out
pub commits_held : (v z w : SeatView) (keep line n : ℕ) (act : Act) (root : Option Name)
    → AppendsNext v line act root n (log_left z) → falls_out n keep ≡ None → w ≡ log_left z
    → CommitsNext v keep line act root (record { n = n; fallen = None }) w
commits_held v z w keep line n act root a is left = record {
  behind = log_left z;
  appends = a;
  falls = subst (λ (o : Option ℕ). FallsOut o line n None (log_left z) w) (sym is) (refl, left);
}

-- with 0 none falls out
pub commits_alone : (v w : SeatView) (keep line : ℕ) (act : Act) (root : Option Name)
    (c : Committed)
    → CommitsNext v keep line act root c w → keep ≡ 0 → CommitsAlone v line act root c w
commits_alone v w keep line act root c made all =
    let falls = subst (λ (k : ℕ). FallsOut (falls_out c.n k) line c.n c.fallen made.behind w) all
    made.falls in
    record {
      none = falls.0;
      appends = subst (λ (x : SeatView). AppendsNext v line act root c.n x) (sym falls.1)
          made.appends;
    }

-- a commit under a turn that was taken, of the view before it
pub falls_before : {made : ℕ} (v t w : SeatView) (moment keep line : ℕ) (act : Act)
    (root : Option Name) (c : Committed) → TakesLog made v t → moment ≤ number_seen v → number_seen t ≡ moment
    → CommitsNext t keep line act root c w → CommitsNext v keep line act root c w
falls_before v t w moment keep line act root c takes known here made = record {
  behind = made.behind;
  appends = commits_before v t made.behind moment line act root c.n takes known here made.appends;
  falls = made.falls;
}

-- under a turn that was taken the edit may be committed, unless another session was faster
pub may_here : {made : ℕ} (t : TableState) (v w : SeatView) (base : Pinned) (act : Act)
    (root : Option Name) → TakesLog made v w → MayCommit t v base act root
    → MayCommitHere t w base act root
may_here t v w base act root takes may =
    let known = may.pinned.moment in
    let long = seen_grows v w takes in
    record {
      edit = may.edit;
      fits = subst (λ (ms : List Content). FitsWorld (2 ^ t.plan.side) ms act)
          (sym (ap (λ (x : SeatView). x.models) takes.is)) may.fits;
      long = omega (arith, known, long);
      made = commits_made v w base.moment act root takes known may.made;
    }

-- what came of it is told of the view before the turn
pub came_before : {made : ℕ} (r : Result Committed CommitRefused) (base : Pinned) (keep line : ℕ)
    (act : Act) (root : Option Name) (v t w : SeatView) → TakesLog made v t
    → base.moment ≤ number_seen v → CommitCame base keep line act root r t w
    → CommitCame base keep line act root r v w
came_before (Ok c) base keep line act root v t w takes known came =
    record {
      number = base_known v t base.moment takes known came.number;
      commits = falls_before v t w base.moment keep line act root c takes known came.number
          came.commits;
    }
came_before (Err e) base keep line act root v t w takes known came =
    record {
      refused = came.refused;
      looks = looks_on v t w (takes_looks v t takes) came.looks;
      kept = came.kept ∙ ap (λ (x : SeatView). x.held) takes.is;
    }

pub came_alone : (r : Result Committed CommitRefused) (base : Pinned) (keep line : ℕ) (act : Act)
    (root : Option Name) (v w : SeatView) → CommitCame base keep line act root r v w
    → IfOk r (λ c. keep ≡ 0 → CommitsAlone v line act root c w)
came_alone (Ok c) base keep line act root v w came =
    commits_alone v w keep line act root c came.commits
came_alone (Err e) base keep line act root v w came = tt

-- ---- the turn came at once

pub at_once : (t : TableState) (s r : PassState) (answer : Bool) → answer ≡ true
    → MatchBool answer (TakesAtOnce t s.view r) (LeavesBusy t s r) → TakesAtOnce t s.view r
at_once t s r answer is told =
    subst (λ (b : Bool). MatchBool b (TakesAtOnce t s.view r) (LeavesBusy t s r)) is told

pub taken_few : {made : ℕ} (v w : SeatView) → TakesLog made v w → number_of_trees v.held ≤ 4095
    → number_of_trees w.held ≤ 4095
taken_few v w takes few =
    subst (λ (ts : List Tree). number_of_trees ts ≤ 4095)
    (sym (ap (λ (x : SeatView). x.held) takes.is)) few

pub try_came : (t : TableState) (base : Pinned) (keep line : ℕ) (act : Act) (root : Option Name)
    (c : Committed) (v : SeatView) (s : PassState) (w : SeatView) → TakesAtOnce t v s
    → base.moment ≤ number_seen v → IsCommitted base keep line act root c s.view w
    → w.log.busy ≡ s.view.log.busy → IsCommittedAtOnce base keep line act root c v w
try_came t base keep line act root c v s w once known came nobody =
    record {
      number = base_known v s.view base.moment once.takes known came.number;
      commits = falls_before v s.view w base.moment keep line act root c once.takes known
          came.number came.commits;
      met_nobody = nobody ∙ once.nobody;
    }

pub try_refuses : (t : TableState) (base : Pinned) (root : Option Name) (e : CommitRefused)
    (v : SeatView) (s : PassState) (w : SeatView) → TakesAtOnce t v s
    → w.log.busy ≡ s.view.log.busy → IsNotCommitted base root e s.view w
    → IsNotTried t.made base root (tried e) v w
try_refuses t base root e v s w once nobody came =
    record {
      refused = try_refused base root e t v s w once nobody came.looks came.refused;
      kept = came.kept ∙ ap (λ (x : SeatView). x.held) once.takes.is;
    }
