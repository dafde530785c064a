-- An edit, by an attempt and, too late, by one under the log's turn.
use Rattle.std.proofs.Common.{◌≡◌, ◌<◌, ◌≤◌, ◌+◌, ℕ, Option, List, [], ◌∷◌, ◌++◌, length, sym, ◌∙◌, ap, subst, arith, length-append}
use Rattle.std.specs.List.{Contains}
use Rattle.history_model.specs.declared.acts.Act.{Act}
use Rattle.node_words.specs.declared.shapes.names.Name.{Name}
use Rattle.node_words.specs.shapes.Tree.{Tree}
use Rattle.node_words.specs.shapes.Weights.{number_of_trees}
use Rattle.node_words.specs.declared.shares.Full.{Full}
use Rattle.node_words.specs.Held.{SameHeld}
use Rattle.edit_walk.specs.blocks.Blocks.{ReturnsShare, MayGoBack}
use Rattle.table_rule.specs.LogFacts.{number_seen}
use Rattle.table_rule.specs.Views.{SeatView}
use Rattle.version_log.specs.Roots.{GetsRoot}
use Rattle.version_log.specs.Seeing.{OnlyReadsLog}
use Rattle.version_log.specs.declared.answers.Pinned.{Pinned}
use Rattle.conformance.specs.declared.sessions.calls.ActAnswer.{ActAnswer}
use Rattle.conformance.specs.declared.sessions.calls.ActAnswer.TheVariants as acts
use Rattle.session.specs.declared.attempts.StaleRoot.{StaleRoot}
use Rattle.conformance.specs.declared.sessions.calls.OnceAnswer.{OnceAnswer}
use Rattle.conformance.specs.declared.sessions.calls.OnceAnswer.TheVariants as once
use Rattle.conformance.specs.sessions.SessionViews.{SessionView}
use Rattle.conformance.specs.sessions.CallSpecs.{ActFull, ActStale, ActSpec, OnceSpec}
use Rattle.session.specs.declared.attempts.EditAnswer.{EditAnswer}
use Rattle.session.specs.declared.attempts.EditAnswer.TheVariants as edits
use Rattle.session.specs.Attempts.{AnswersAct, AnswersOnce, HasPinnedHead, IsLate, act_answer, once_answer}
use Rattle.session.specs.SessionWorlds.{SessionWorld, of_world, session_view}
use Rattle.session.proofs.CommitLaws.{back_same, few_gained, may_back, same_number_held}
use Rattle.session.proofs.WorkLaws.{answers_after, answers_still, looks_work, told_after, works_on}

-- the newest version was pinned and will be given back
module _ (v w : SeatView) (root : Option Name) (gains : GetsRoot v.held root w.held) where
  pub pinned_room : (k : ℕ) → number_of_trees v.held ≤ k → number_of_trees w.held ≤ k + 1
  pinned_room k few = let one = few_gained v.held w.held root gains in omega arith

  pub base_back : (x : SeatView) (given : Option Name) → given ≡ root → SameHeld w.held x.held
      → MayGoBack x.held given
  base_back x given same held =
      subst (λ (r : Option Name). MayGoBack x.held r) (sym same)
      (may_back v.held w.held x.held root gains held)

  pub base_room : (x : SeatView) → SameHeld w.held x.held → number_of_trees v.held ≤ 3900
      → number_of_trees x.held ≤ 4008
  base_room x held few =
      let one = few_gained v.held w.held root gains in
      let same = same_number_held w.held x.held held in
      omega arith

  pub base_gone : (x y : SeatView) (given : Option Name) → given ≡ root → SameHeld w.held x.held
      → ReturnsShare given x.held y.held → SameHeld v.held y.held
  base_gone x y given same held gone =
      back_same v.held w.held x.held y.held root gains held
      (subst (λ (r : Option Name). ReturnsShare r x.held y.held) same gone)

-- what was answered behind the pin was answered from before it
pub pinned_answers : (t : SessionWorld) (line : ℕ) (act : Act) (answer : ActAnswer)
    (v w x y : SeatView) → OnlyReadsLog v w → AnswersAct t line act answer w x
    → session_view y ≡ session_view x → AnswersAct t line act answer v y
pinned_answers t line act answer v w x y looks told seen =
    answers_still t line act answer v x y seen
    (answers_after t line act answer v w x (looks_work t.table act v w looks) told)

-- and so was what was answered by the second attempt
pub again_answers : (t : SessionWorld) (line : ℕ) (act same : Act) (answer : ActAnswer)
    (base : Pinned) (late : StaleRoot) (v w x y a b : SeatView) → OnlyReadsLog v w
    → IsLate t.table act base late w x → same ≡ act → AnswersAct t line same answer x y
    → session_view a ≡ session_view y → session_view b ≡ session_view a
    → AnswersAct t line act answer v b
again_answers t line act same answer base late v w x y a b looks is e told first second =
    answers_still t line act answer v y b (second ∙ first)
    (answers_after t line act answer v x y
    (works_on t.table act v w x (looks_work t.table act v w looks) is.works)
    (subst (λ (z : Act). AnswersAct t line z answer x y) e told))

-- an edit's answer as one of an act
pub act_told : (t : SessionWorld) (line : ℕ) (act : Act) (a : EditAnswer) (x : ActAnswer)
    (v w : SeatView) → x ≡ act_answer a → AnswersAct t line act (act_answer a) v w
    → AnswersAct t line act x v w
act_told t line act a x v w same told =
    subst (λ (y : ActAnswer). AnswersAct t line act y v w) (sym same) told

-- what was answered behind a change that was refused, or came too late
pub full_answers_on : (t : SessionWorld) (line : ℕ) (act : Act) (answer : ActAnswer) (at : ℕ)
    (full : Full) (u v w : SeatView) → v.numbers ≡ u.numbers
    → AnswersAct t line act (acts.Full at full) u v → AnswersAct t line act answer v w
    → AnswersAct t line act answer u w
full_answers_on t line act answer at full u v w same f g number one =
    let x : ActFull (of_world t number) act (session_view u) (session_view v) at full.level
    full.bucket = f number one in
    told_after t number line act (session_view u) (session_view v) (session_view w) x.nothing
    x.meets.notes answer (g number (same ∙ one))

pub stale_answers : (t : SessionWorld) (line : ℕ) (act : Act) (answer : ActAnswer) (at base : ℕ)
    (u v w : SeatView) → v.numbers ≡ u.numbers → AnswersOnce t line act (once.Stale at base) u v
    → AnswersAct t line act answer v w → AnswersAct t line act answer u w
stale_answers t line act answer at base u v w same f g number one =
    let x : ActStale (of_world t number) act (session_view u) (session_view v) at base =
    f number one in
    told_after t number line act (session_view u) (session_view v) (session_view w) x.nothing
    x.notes answer (g number (same ∙ one))

-- the same of an act that is the same
pub answers_as : (t : SessionWorld) (line : ℕ) (act made : Act) (answer : ActAnswer) (v w : SeatView)
    → made ≡ act → AnswersAct t line made answer v w → AnswersAct t line act answer v w
answers_as t line act made answer v w same told =
    subst (λ (z : Act). AnswersAct t line z answer v w) same told

-- ---- shares that came

-- as many are held again
pub still_few : (a b : List Tree) → SameHeld a b → number_of_trees a ≤ 3900
    → number_of_trees b ≤ 3900
still_few a b same few = let e = same_number_held a b same in omega arith

pub two_few : (a b c : List Tree) (q r : Option Name) → GetsRoot a q b → GetsRoot b r c
    → number_of_trees a ≤ 3900 → number_of_trees c ≤ 3902
two_few a b c q r f g few =
    let x = few_gained a b q f in
    let y = few_gained b c r g in
    omega arith

pub two_room : (a b c d : List Tree) (q r : Option Name) → GetsRoot a q b → GetsRoot b r c
    → SameHeld c d → number_of_trees a ≤ 3900 → number_of_trees d ≤ 4008
two_room a b c d q r f g same few =
    let x = two_few a b c q r f g few in
    let y = same_number_held c d same in
    omega arith

-- ---- one attempt

pub once_told : (t : SessionWorld) (line : ℕ) (act : Act) (a : EditAnswer) (x : OnceAnswer)
    (v w : SeatView) → x ≡ once_answer a → AnswersAct t line act (act_answer a) v w
    → (number : ℕ) → v.numbers ≡ number ∷ []
    → OnceSpec (of_world t number) line act (session_view v) (session_view w) x
once_told t line act a x v w same told number one =
    subst (λ (y : OnceAnswer). OnceSpec (of_world t number) line act (session_view v)
    (session_view w) y) (sym same) (by a (told number one))
  where
    by : (b : EditAnswer)
        → ActSpec (of_world t number) line act (session_view v) (session_view w) (act_answer b)
        → OnceSpec (of_world t number) line act (session_view v) (session_view w) (once_answer b)
    by (edits.Done n) h = h
    by (edits.Full at full) h = h
    by edits.LogFull h = h

pub stale_told : (t : SessionWorld) (line : ℕ) (act : Act) (base : Pinned) (late : StaleRoot)
    (v w x y z : SeatView) → OnlyReadsLog v w → HasPinnedHead w base
    → IsLate t.table act base late w x → session_view y ≡ session_view x
    → session_view z ≡ session_view y → (number : ℕ) → v.numbers ≡ number ∷ []
    → OnceSpec (of_world t number) line act (session_view v) (session_view z)
    (once.Stale late.at base.moment)
stale_told t line act base late v w x y z looks head is first second number one =
    subst (λ (s : SessionView). OnceSpec (of_world t number) line act (session_view v) s
    (once.Stale late.at base.moment)) (sym (second ∙ first))
    (let works = works_on t.table act v w x (looks_work t.table act v w looks) is.works in
    let long = looks.sees.seen.records in
    let more : number_seen w ≡ length (v.log.seen.records ++ looks.sees.seen.more) =
    ap length long
    in
    let both = length-append v.log.seen.records looks.sees.seen.more in
    let now = head.now in
    record {
      at_is = is.at_is;
      nothing = works.nothing;
      notes = works.notes;
      low = omega arith;
      pinned = is.works.sees.found.each _
          (subst (λ (n : ℕ). Contains w.log.found (record { version = n; at = base.moment }))
          head.head head.pinned.found);
      over = subst (λ (n : ℕ). base.moment < n) is.at_is is.over;
      room = subst (λ (n : ℕ). n < 65535) is.at_is is.room;
    })
