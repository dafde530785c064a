-- What an append under the log's turn needs and leaves.
use Rattle.std.proofs.Common.{◌≡◌, ◌⊎◌, ◌+◌, ◌^◌, ◌<◌, ◌≤◌, ℕ, true, Option, List, [], ◌∷◌, ◌++◌, length, inl, inr, refl, sym, ◌∙◌, ap, subst, arith, length-append}
use Rattle.std.proofs.lemmas.List.{append-nil}
use Rattle.std.specs.List.{Contains}
use Rattle.history_model.specs.declared.acts.Act.{Act}
use Rattle.history_model.specs.declared.acts.Act.TheVariants.{Fill, Erase, Ball, Carve, Copy, Stamp, Tint, Undo, Redo}
use Rattle.history_model.specs.declared.histories.Record.{Record}
use Rattle.history_model.specs.Logs.{FitsWorld}
use Rattle.history_model.specs.Making.{MayMake}
use Rattle.history_model.specs.Positions.{position_after}
use Rattle.history_model.specs.Worlds.{is_edit}
use Rattle.node_words.specs.declared.shapes.names.Name.{Name}
use Rattle.node_words.specs.shapes.Tree.{Tree, Gone, LeafAt, NodeAt, root_of}
use Rattle.node_words.specs.shapes.Weights.{number_of_trees, weigh, weight_of}
use Rattle.node_words.proofs.OfShapes.WeightLaws.{weight_of-there}
use Rattle.node_words.specs.Gathering.{Loses, MayHold}
use Rattle.node_words.specs.Held.{IsHeld}
use Rattle.node_words.specs.Plans.{Layout}
use Rattle.core_laws.specs.places.WordIds.{WordId, Version}
use Rattle.table_rule.specs.LogFacts.{number_seen, seen_has}
use Rattle.table_rule.specs.LogWords.{HasNumbers}
use Rattle.table_rule.specs.Views.{SeatView}
use Rattle.table_rule.specs.LogChanges.{HasOpenTarget, IsOpenTarget, IsAppendable}
use Rattle.node_table.specs.LogTurns.{AppendsUnderTurn, AreNextWords, ForAppended, LearnsLog, MayAppendWords, TakesLog}
use Rattle.version_log.specs.declared.answers.CommitRefused.{CommitRefused}
use Rattle.version_log.specs.declared.answers.CommitRefused.TheVariants.{LogFull, Stale}
use Rattle.version_log.specs.declared.answers.Pinned.{Pinned}
use Rattle.version_log.specs.Commits.{AppendsNext, IsMadeOver, RefusesCommit, with_own}
use Rattle.node_table.specs.Guards.{TakesAtOnce}
use Rattle.version_log.specs.Tries.{RefusesTry, tried}
use Rattle.node_table.proofs.LogActs.{one_tree}
use Rattle.node_table.specs.TableStates.{PassState, TableState}
use Rattle.table_rule.specs.ViewFacts.{ViewFacts}
use Rattle.version_log.specs.Seeing.{OnlyReadsLog, MetOthers}
use Rattle.version_log.proofs.LookLaws.{looks_on, others_by, others_on, takes_looks}
use Rattle.version_log.specs.Targets.{IsMadeNow, NextCursor, with_act}
use Rattle.version_log.proofs.WordLaws.{words_by, words_of_next}

-- the view with the log's turn, under which these words are known, and nothing new to be seen
abbrev pub in_turn : SeatView → List (WordId × ℕ) → List ℕ → SeatView
in_turn v words busy =
    record v { log = record v.log { turn = true; words = words; busy = busy } }

no_more : {A : Type 0} → (more : List A) → length more ≤ 0 → more ≡ []
no_more [] le = refl
no_more (x ∷ xs) le = absurd (omega arith)

-- where the log is no longer than what was seen, the turn showed nothing new
pub taken_same : {made : ℕ} (v t : SeatView) → TakesLog made v t → number_seen t ≤ number_seen v
    → t ≡ in_turn v t.log.words t.log.busy
taken_same v t takes le =
    let long : number_seen t ≡ length (v.log.seen.records ++ takes.more) =
    ap (λ (x : SeatView). number_seen x) takes.is
    in
    let sum = length-append v.log.seen.records takes.more in
    let none : takes.more ≡ [] = no_more takes.more (omega (arith, long, sum)) in
    let same : v.log.seen.records ++ takes.more ≡ v.log.seen.records =
    ap (λ rs. v.log.seen.records ++ rs) none ∙ append-nil v.log.seen.records
    in
    let busy : takes.met ++ v.log.busy ≡ t.log.busy =
    sym (ap (λ (x : SeatView). x.log.busy) takes.is)
    in
    takes.is
    ∙ (λ i. (let z : SeatView = record v {
      log = record v.log {
        turn = true;
        words = t.log.words;
        seen = record v.log.seen { records = same i };
        busy = busy i;
      };
    } in z))

-- an edit needs no target
pub open_of_edit : (v : SeatView) (act : Act) → is_edit act ≡ true → HasOpenTarget v act
open_of_edit v (Fill b) edit = tt
open_of_edit v (Erase b) edit = tt
open_of_edit v (Ball b) edit = tt
open_of_edit v (Carve b) edit = tt
open_of_edit v (Copy b to) edit = tt
open_of_edit v (Stamp m at) edit = tt
open_of_edit v (Tint t) edit = tt
open_of_edit v Undo edit = absurd (let no : ⊥ = cc in no)
open_of_edit v Redo edit = absurd (let no : ⊥ = cc in no)

-- what may be held is no node, or is held
held_or_gone : (held : List Tree) (t : Tree) → MayHold held t → (t ≡ Gone) ⊎ IsHeld held t
held_or_gone held Gone may = inl refl
held_or_gone held (LeafAt n bits) may =
    inr (record {
      weighs = λ f.
          (let e = weight_of-there f (LeafAt n bits) n refl in let l = may.weighs f in
          omega (arith, e, l));
    })
held_or_gone held (NodeAt n a b c d e f g h) may =
    inr (record {
      weighs = λ w.
          (let s = weight_of-there w (NodeAt n a b c d e f g h) n refl in let l = may.weighs w in
          omega (arith, s, l));
    })

-- the act may be appended, whose root was made of what is seen
appendable : (v : SeatView) (words : List (WordId × ℕ)) (busy : List ℕ) (p : Layout)
    (session line : ℕ) (act : Act)
    (root : Option Name) → v.plan ≡ p → number_seen v < 65535
    → FitsWorld (2 ^ p.side) v.models act → HasOpenTarget (in_turn v words busy) act
    → HasNumbers act → line < 2 ^ 32 → (made : IsMadeNow v act root)
    → IsAppendable p (in_turn v words busy) (with_act session line act) made.holds.tree
appendable v words busy p session line act root plan room fits target numbers small made =
    let holds = made.holds in
    subst (λ (q : Layout).
    IsAppendable q (in_turn v words busy) (with_act session line act) made.holds.tree) plan
    (record {
      room = room;
      is_record = record { numbers = numbers; line = small };
      fits = subst (λ (q : Layout). FitsWorld (2 ^ q.side) v.models act) (sym plan) fits;
      target = target;
      is_held = held_or_gone v.held holds.tree holds.held;
      level = λ n e. holds.level n (sym holds.name ∙ e);
      cells = made.cells;
      shows = holds.shows;
      makes = made.makes;
    })

next_words : (v : SeatView) (words : List (WordId × ℕ)) (busy : List ℕ) (session line : ℕ) (act : Act)
    (ws : List ℕ) (now last : ℕ) → v.numbers ≡ session ∷ []
    → NextCursor v.log.seen.records act now last → ws ≡ words_by act now last session line
    → AreNextWords (in_turn v words busy) ws (with_act session line act)
next_words v words busy session line act ws now last number stands are =
    record {
      own = subst (λ (ns : List ℕ). Contains ns session) (sym number) (0, omega arith, refl);
      are = are ∙ sym (words_of_next v.log.seen.records act now last session line stands);
    }

-- all that is known before an append: the turn showed nothing that wasn't seen, and these are the
-- words of the next record
pub record MayGoOn (v u : SeatView) (p : Layout) (session line : ℕ) (act : Act)
    (root : Option Name) (ws : List ℕ) : Type 0 where
  pub from : u ≡ in_turn v u.log.words u.log.busy
  pub busy : MetOthers v.numbers v.log.busy u.log.busy
  pub plan : v.plan ≡ p
  pub number : v.numbers ≡ session ∷ []
  pub room : number_seen v < 65535
  pub fits : FitsWorld (2 ^ p.side) v.models act
  pub target : HasOpenTarget u act
  pub numbers : HasNumbers act
  pub line_small : line < 2 ^ 32
  pub made : IsMadeNow v act root
  pub now : ℕ
  pub last : ℕ
  pub stands : NextCursor v.log.seen.records act now last
  pub are : ws ≡ words_by act now last session line

module _ (v u : SeatView) (p : Layout) (session line : ℕ) (act : Act) (root : Option Name)
    (ws : List ℕ) (m : MayGoOn v u p session line act root ws) where
  here : HasOpenTarget (in_turn v u.log.words u.log.busy) act
  here = subst (λ (x : SeatView). HasOpenTarget x act) m.from m.target

  fit : IsAppendable p (in_turn v u.log.words u.log.busy) (with_act session line act)
      m.made.holds.tree
  fit =
      appendable v u.log.words u.log.busy p session line act root m.plan m.room m.fits here
      m.numbers m.line_small m.made

  next : AreNextWords (in_turn v u.log.words u.log.busy) ws (with_act session line act)
  next =
      next_words v u.log.words u.log.busy session line act ws m.now m.last m.number m.stands m.are

  pub may_append : MayAppendWords p u ws root
  may_append =
      subst (λ (x : SeatView). MayAppendWords p x ws root) (sym m.from)
      (record {
        change = with_act session line act;
        words_are = next;
        tree = m.made.holds.tree;
        root_is = m.made.holds.name;
        may = fit;
      })

  one : (t s : Tree) → ViewFacts v → MayHold v.held t → MayHold v.held s → root_of t ≡ root_of s
      → t ≡ s
  one t s tells a b = one_tree v t s tells (held_or_gone v.held t a) (held_or_gone v.held s b)

  -- what it leaves of the view with the turn
  under : (w : SeatView) → ForAppended p u ws root (λ r t. AppendsUnderTurn u r t w)
      → AppendsUnderTurn (in_turn v u.log.words u.log.busy) (with_act session line act)
      m.made.holds.tree w
  under w told =
      let all = subst (λ (x : SeatView).
      ForAppended p x ws root (λ r t. AppendsUnderTurn x r t w)) m.from told in
      all (with_act session line act) m.made.holds.tree next m.made.holds.name fit

  -- nobody was met
  pub append_meets : (w : SeatView) → ForAppended p u ws root (λ r t. AppendsUnderTurn u r t w)
      → w.log.busy ≡ u.log.busy
  append_meets w told = ap (λ (x : SeatView). x.log.busy) (under w told).is

  -- and of the view before it
  pub appends : ViewFacts v → (w : SeatView) (n : ℕ) → n ≡ number_seen u + 1
      → ForAppended p u ws root (λ r t. AppendsUnderTurn u r t w)
      → AppendsNext v line act root n w
  appends tells w n is told =
      let r : Record = with_act session line act in
      let a = under w told in
      let held : w.held ≡ a.held = ap (λ (x : SeatView). x.held) a.is in
      let busy : w.log.busy ≡ u.log.busy = ap (λ (x : SeatView). x.log.busy) a.is in
      record {
        number = is ∙ ap (λ (x : SeatView). number_seen x + 1) m.from;
        room = m.room;
        by = r;
        own = record { session = m.number; line_is = refl; act_is = refl };
        gone = λ t name may.
            subst (λ (x : Tree). Loses v.held x w.held) (one m.made.holds.tree t tells
            m.made.holds.held may (m.made.holds.name ∙ sym name))
            (record {
              weighs = λ f. ap (λ ts. weight_of f m.made.holds.tree + weigh f ts) held
                  ∙ sym (a.weighs f);
            });
        busy = others_on v.numbers v.log.busy u.log.busy w.log.busy m.busy
            (others_by v.numbers u.log.busy w.log.busy busy);
        is = a.is ∙ (λ i. (let z : SeatView = with_own v r (sym held i) (sym busy i) in z));
      }

-- how many records are seen then
pub appends_number : (v w : SeatView) (line : ℕ) (act : Act) (root : Option Name) (n : ℕ)
    → AppendsNext v line act root n w → n ≡ number_seen w
appends_number v w line act root n a =
    let long = ap (λ (x : SeatView). number_seen x) a.is in
    let sum = length-append v.log.seen.records (a.by ∷ []) in
    let is = a.number in omega arith

-- and no more is held
pub appends_fewer : (v w : SeatView) (line : ℕ) (act : Act) (root : Option Name) (n : ℕ)
    → IsMadeNow v act root → AppendsNext v line act root n w
    → number_of_trees w.held ≤ number_of_trees v.held
appends_fewer v w line act root n made a =
    let gone = (a.gone made.holds.tree made.holds.name made.holds.held).weighs (λ _. 1) in
    omega arith

-- under the turn the log is as long as what was pinned, and so as what was seen
pub seen_grows : {made : ℕ} (v t : SeatView) → TakesLog made v t → number_seen v ≤ number_seen t
seen_grows v t takes =
    let long : number_seen t ≡ length (v.log.seen.records ++ takes.more) =
    ap (λ (x : SeatView). number_seen x) takes.is
    in
    omega (arith, long, length-append v.log.seen.records takes.more)

-- what an edit makes, in the words of any act
pub edit_made : (v : SeatView) (n : ℕ) (act : Act) (root : Option Name) → is_edit act ≡ true
    → number_seen v ≡ n → IsMadeOver v n act root → IsMadeNow v act root
edit_made v n act root edit here made =
    record {
      cells = made.cells;
      holds = made.holds;
      makes = record {
        edit = λ yes. subst (λ (k : ℕ).
            MayMake (2 ^ v.plan.side) v.models act (seen_has v k) made.cells) (sym here) made.makes;
        other = λ no. absurd (let none : ⊥ = cc in none);
      };
    }

-- a target that is open stays so while words of the log are learned
open_stays : (v u : SeatView) (versions : List ℕ) → LearnsLog v u → IsOpenTarget v versions
    → IsOpenTarget u versions
open_stays v u [] learns is = is
open_stays v u (to ∷ others) learns is =
    record {
      turn = ap (λ (x : SeatView). x.log.turn) learns.is ∙ is.turn;
      there = (let e : number_seen u
          ≡ number_seen v = ap (λ (x : SeatView). number_seen x) learns.is in
          omega (arith, is.there, e));
      unmarked = learns.grows.stays (Version to 6) 0 is.unmarked;
    }

target_stays : (v u : SeatView) (act : Act) → LearnsLog v u → HasOpenTarget v act
    → HasOpenTarget u act
target_stays v u (Fill b) learns is = tt
target_stays v u (Erase b) learns is = tt
target_stays v u (Ball b) learns is = tt
target_stays v u (Carve b) learns is = tt
target_stays v u (Copy b to) learns is = tt
target_stays v u (Stamp m at) learns is = tt
target_stays v u (Tint t) learns is = tt
target_stays v u Undo learns is =
    subst (λ (rs : List Record). IsOpenTarget u (position_after rs).past)
    (sym (ap (λ (x : SeatView). x.log.seen.records) learns.is))
    (open_stays v u (position_after v.log.seen.records).past learns is)
target_stays v u Redo learns is =
    subst (λ (rs : List Record). IsOpenTarget u (position_after rs).future)
    (sym (ap (λ (x : SeatView). x.log.seen.records) learns.is))
    (open_stays v u (position_after v.log.seen.records).future learns is)

-- words of the log were learned by a view that has its turn
learned : (v u : SeatView) → v.log.turn ≡ true → LearnsLog v u
    → u ≡ in_turn v u.log.words u.log.busy
learned v u turn learns =
    let busy : v.log.busy ≡ u.log.busy = sym (ap (λ (x : SeatView). x.log.busy) learns.is) in
    learns.is
    ∙ (λ i. (let z : SeatView = record v {
      log = record v.log {
        turn = turn i;
        words = u.log.words;
        busy = busy i;
      };
    } in z))

-- a record goes on under the turn
pub next_goes_on : (v u z : SeatView) (p : Layout) (session line at : ℕ) (act : Act)
    (root : Option Name) (ws : List ℕ) (now last : ℕ) → v.log.turn ≡ true → LearnsLog v u → z ≡ u
    → at ≡ number_seen v → at < 65535 → v.plan ≡ p → v.numbers ≡ session ∷ []
    → FitsWorld (2 ^ p.side) v.models act → HasOpenTarget v act → HasNumbers act → line < 2 ^ 32
    → IsMadeNow v act root → NextCursor v.log.seen.records act now last
    → ws ≡ words_by act now last session line → MayGoOn v z p session line act root ws
next_goes_on v u z p session line at act root ws now last turn learns same here room plan number
    fits target numbers small made stands words =
    subst (λ (x : SeatView). MayGoOn v x p session line act root ws) (sym same)
    (record {
      from = learned v u turn learns;
      busy = others_by v.numbers v.log.busy u.log.busy
          (ap (λ (x : SeatView). x.log.busy) learns.is);
      plan = plan;
      number = number;
      room = omega (arith, here);
      fits = fits;
      target = target_stays v u act learns target;
      numbers = numbers;
      line_small = small;
      made = made;
      now = now;
      last = last;
      stands = stands;
      are = words;
    })

-- what was appended under the turn was appended to what was seen before it
pub appends_before : (v t w : SeatView) (line : ℕ) (act : Act) (root : Option Name) (n : ℕ)
    → t ≡ in_turn v t.log.words t.log.busy → MetOthers v.numbers v.log.busy t.log.busy
    → AppendsNext t line act root n w → AppendsNext v line act root n w
appends_before v t w line act root n from busy a =
    let b : AppendsNext (in_turn v t.log.words t.log.busy) line act root n w =
    subst (λ (x : SeatView). AppendsNext x line act root n w) from a
    in
    record {
      number = b.number;
      room = b.room;
      by = b.by;
      own = record { session = b.own.session; line_is = b.own.line_is; act_is = b.own.act_is };
      gone = b.gone;
      busy = others_on v.numbers v.log.busy t.log.busy w.log.busy busy b.busy;
      is = b.is;
    }

pub made_taken : (v t : SeatView) (n : ℕ) (act : Act) (root : Option Name)
    → t ≡ in_turn v t.log.words t.log.busy → IsMadeOver v n act root → IsMadeOver t n act root
made_taken v t n act root from made =
    subst (λ (x : SeatView). IsMadeOver x n act root) (sym from)
    (record {
      cells = made.cells;
      holds = record {
        tree = made.holds.tree;
        name = made.holds.name;
        held = made.holds.held;
        level = made.holds.level;
        shows = made.holds.shows;
      };
      makes = made.makes;
    })

-- a commit under a turn that was taken, of the view before it
pub commits_before : {sessions : ℕ} (v t w : SeatView) (moment line : ℕ) (act : Act)
    (root : Option Name) (n : ℕ) → TakesLog sessions v t → moment ≤ number_seen v → number_seen t ≡ moment
    → AppendsNext t line act root n w → AppendsNext v line act root n w
commits_before v t w moment line act root n takes known here a =
    appends_before v t w line act root n (taken_same v t takes (omega (arith, here, known)))
    (takes_looks v t takes).busy a

pub commits_made : {sessions : ℕ} (v t : SeatView) (moment : ℕ) (act : Act) (root : Option Name)
    → TakesLog sessions v t
    → moment ≤ number_seen v → IsMadeOver v moment act root → number_seen t ≡ moment
    → IsMadeOver t moment act root
commits_made v t moment act root takes known made here =
    made_taken v t moment act root (taken_same v t takes (omega (arith, here, known))) made

pub base_known : {made : ℕ} (v t : SeatView) (moment : ℕ) → TakesLog made v t → moment ≤ number_seen v
    → number_seen t ≡ moment → number_seen v ≡ moment
base_known v t moment takes known here =
    ap (λ (x : SeatView). number_seen x)
    (sym (taken_same v t takes (omega (arith, here, known)))) ∙ here

-- what is refused under the turn is refused of a try
pub try_refused : (base : Pinned) (root : Option Name) (e : CommitRefused) (p : TableState)
    (v : SeatView) (s : PassState) (w : SeatView) → TakesAtOnce p v s → w.log.busy ≡ s.view.log.busy
    → OnlyReadsLog s.view w → RefusesCommit base root e w → RefusesTry p.made base root (tried e) v w
try_refused base root (LogFull back) p v s w came nobody looks refused =
    record {
      looks = looks_on v s.view w (takes_looks v s.view came.takes) looks;
      nobody = nobody ∙ came.nobody;
      refused = refused;
    }
try_refused base root (Stale now back) p v s w came nobody looks refused =
    record {
      looks = looks_on v s.view w (takes_looks v s.view came.takes) looks;
      nobody = nobody ∙ came.nobody;
      refused = refused;
    }
