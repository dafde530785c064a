-- What is asked of a version that is pinned.
use Rattle.std.proofs.Common.{◌≡◌, ◌⊎◌, ◌-◌, ◌^◌, ◌≤◌, ℕ, Bool, true, false, Option, Some, None, List, inl, inr, refl, sym, ◌∙◌, ap, subst, arith}
use Rattle.vox_read.specs.Contents.{Content}
use Rattle.history_model.specs.Stores.{stored_in}
use Rattle.history_model.specs.Worlds.{World}
use Rattle.history_model.specs.declared.questions.Question.{Question}
use Rattle.transcript.specs.declared.answers.Answer.{Answer}
use Rattle.node_words.proofs.OfShapes.WeightLaws.{weight_of-one, weight_of-there}
use Rattle.node_words.specs.declared.shapes.names.Name.{Name}
use Rattle.node_words.specs.shapes.Tree.{Tree, Gone, LeafAt, NodeAt, root_of}
use Rattle.node_words.specs.shapes.Weights.{number_of_trees}
use Rattle.node_words.specs.Gathering.{MayHold}
use Rattle.node_words.specs.Held.{IsHeld, OnlyHeldChanges, StoreState}
use Rattle.node_words.specs.descent.Roots as walks
use Rattle.edit_walk.specs.cells.Worlds.{ShowsWorld}
use Rattle.conformance.specs.Answers.{asked_version}
use Rattle.conformance.specs.Kinds.{is_resting}
use Rattle.act_rebuilds.specs.questions.AnswersByRoots.{AnswersByTints}
use Rattle.table_rule.specs.LogFacts.{seen_has}
use Rattle.table_rule.specs.Views.{SeatView, seen_of}
use Rattle.version_log.specs.Pins.{PinsVersion, version_asked}
use Rattle.version_log.specs.Roots.{GetsRoot, HoldsRootOf}
use Rattle.version_log.specs.Seeing.{OnlyReadsLog}
use Rattle.version_log.specs.Pins.{RefusesPin}
use Rattle.version_log.specs.declared.answers.Pinned.{Pinned}
use Rattle.retain.specs.declared.refusals.PinRefused.{PinRefused}
use Rattle.retain.specs.declared.refusals.PinRefused.TheVariants.{NoVersion, Forgotten}
use Rattle.conformance.specs.sessions.Calls.{FindsVersion}
use Rattle.conformance.specs.sessions.SessionViews.{SessionView}
use Rattle.conformance.specs.sessions.CallSpecs.{WasAsked, PinIsRefused, AnswersStored, plainly_tinted}
use Rattle.session.specs.Lendable.{StaysLendable}
use Rattle.node_words.specs.Plans.{Layout}
use Rattle.node_table.specs.TableStates.{TableState, PassState}
use Rattle.session.specs.Resting.{IsAtRest}
use Rattle.session.specs.Roots.{AnswersHeld}
use Rattle.session.specs.SessionWorlds.{SessionWorld, of_world, session_view}
use Rattle.session.proofs.ForgetLaws.{same_seen}
use Rattle.session.proofs.SameLaws.{finds}
use Rattle.session.proofs.SeenLaws.{models_stay, only_sees}

-- what may be held is no node, or is held
pub held_or_gone : (held : List Tree) (t : Tree) → MayHold held t → (t ≡ Gone) ⊎ IsHeld held t
held_or_gone held Gone may = inl refl
held_or_gone held (LeafAt n bits) may =
    inr (record {
      weighs = λ f.
          (let e = weight_of-there f (LeafAt n bits) n refl in let l = may.weighs f in
          omega (arith, e, l));
    })
held_or_gone held (NodeAt n a b c d e f g h) may =
    inr (record {
      weighs = λ w.
          (let s = weight_of-there w (NodeAt n a b c d e f g h) n refl in let l = may.weighs w in
          omega (arith, s, l));
    })

pub named_held : (held : List Tree) (t : Tree) (n : Name) → MayHold held t → root_of t ≡ Some n
    → IsHeld held t
named_held held t n may e = elim (held_or_gone held t may) [
  | inl gone ↦ absurd (let bad : None ≡ Some n = ap root_of (sym gone) ∙ e in cc)
  | inr there ↦ there
]

-- a root that is pinned may be walked, and shows the version's cells
pub may_walk : (v : SeatView) (root : Option Name) (cells : World) → HoldsRootOf v root cells
    → walks.HoldsRoot v.held v.plan.side root
may_walk v None cells h = tt
may_walk v (Some n) cells h = (
  record { tree = h.tree; is_held = named_held v.held h.tree n h.held h.name; root = h.name },
  h.level n refl,
)

pub shows_world : (v : SeatView) (root : Option Name) (cells : World) → HoldsRootOf v root cells
    → ShowsWorld v.held (v.plan.side - 2) root cells
shows_world v root cells h = record {
  tree = h.tree;
  is_root = record {
    root = h.name;
    is_held = λ n e. named_held v.held h.tree n h.held (h.name ∙ e);
    at = h.level;
  };
  shows = h.shows;
}

-- what is told of tints by a store that holds the same
pub tints_told : (more held : List Tree) (n side : ℕ) (root : Option Name) (question : Question)
    (answer : Answer) → AnswersByTints more n root question answer → more ≡ held → n ≡ side
    → AnswersByTints held side root question answer
tints_told more held n side root question answer told same is =
    subst (λ (k : ℕ). AnswersByTints held k root question answer) is
    (subst (λ (ts : List Tree). AnswersByTints ts n root question answer) same told)

-- what is told of a root is told of the world that the cells keep which it shows
pub kept_told : (tint : Bool) (held : List Tree) (side : ℕ) (root : Option Name) (cells : World)
    (question : Question) (answer : Answer) → ShowsWorld held (side - 2) root cells
    → AnswersHeld tint held side root question answer
    → AnswersStored tint (2 ^ side) cells question answer
kept_told false held side root cells question answer shows told =
    told cells (plainly_tinted cells) shows (λ c inside. refl)
kept_told true held side root cells question answer shows told =
    λ w t keeps small set. told cells w t shows keeps small set

pub asked_as : (asked : Option ℕ) (n : ℕ) → version_asked asked n ≡ asked_version asked n
asked_as None n = refl
asked_as (Some version) n = refl

-- why nothing is told
pub refused : (asked : Option ℕ) (v w : SeatView) (e : PinRefused) → OnlyReadsLog v w
    → RefusesPin asked e w
    → PinIsRefused asked (session_view v) (session_view w) e
refused None v w (NoVersion at) looks is = absurd (let l = is.1 in omega arith)
refused (Some u) v w (NoVersion at) looks is =
    record { at_is = is.0; only = only_sees v w looks; named = u; is = refl; over = is.1 }
refused None v w (Forgotten at mark) looks is =
    absurd (let here = is.0 in let low = is.1.later.0 in let high = is.1.later.1 in omega arith)
refused (Some u) v w (Forgotten at mark) looks is =
    record {
      at_is = is.0;
      only = only_sees v w looks;
      is = ap Some (sym is.1.is);
      listed = is.1.marked;
    }

-- few shares are held while the root is
pub few_pinned : (v w : SeatView) (x : SeatView) (root : Option Name) → GetsRoot v.held root w.held
    → seen_of x ≡ seen_of w → number_of_trees v.held ≤ 3900 → number_of_trees x.held ≤ 4008
few_pinned v w x root gains same few =
    let e = gains.loses.weighs (λ _. 1) in
    let one = weight_of-one gains.tree in
    let held = ap (λ (s : StoreState). number_of_trees s.held) same in
    omega arith

module _ (t : SessionWorld) (number : ℕ) (asked : Option ℕ) (question : Question) (v w : PassState)
    (p : Pinned) (answer : Answer) (r : IsAtRest t.table v) (looks : OnlyReadsLog v.view w.view)
    (is : PinsVersion v.view asked p w.view) (root : Option Name) (same : root ≡ p.root)
    (tells : AnswersHeld t.tint w.view.held t.table.plan.side root question answer)
    (resting : is_resting answer ≡ true) where
  version_is : p.version ≡ asked_version asked p.moment
  version_is = is.version ∙ asked_as asked p.moment

  plan_side : w.view.plan.side ≡ t.table.plan.side
  plan_side = ap (λ (l : Layout). l.side) (looks.session.plan ∙ r.of.plan)

  tells_version : AnswersStored t.tint (2 ^ t.table.plan.side) (seen_has w.view p.version) question
      answer
  tells_version =
      kept_told t.tint w.view.held t.table.plan.side p.root
      (seen_has w.view p.version) question answer
      (subst (λ (n : ℕ). ShowsWorld w.view.held (n - 2) p.root
      (seen_has w.view p.version)) plan_side
      (shows_world w.view p.root (seen_has w.view p.version) is.pinned.root))
      (subst (λ (x : Option Name). AnswersHeld t.tint w.view.held t.table.plan.side x question answer)
      same tells)

  -- the answer tells of these cells, in a world of this side
  abbrev tells_so : ℕ → World → Type 0
  tells_so side cells = AnswersStored t.tint (2 ^ side) cells question answer

  -- the cells of the version that was asked, in a store of this side, by these models
  abbrev cells_by : ℕ → List Content → World
  cells_by side models =
      stored_in (2 ^ side) models w.view.log.seen.records (asked_version asked p.moment)

  asked_here : WasAsked (of_world t number) asked question (session_view v.view)
      (session_view w.view)
      (record { at = p.moment; answer = answer })
  asked_here = record {
    at_is = is.moment;
    only = only_sees v.view w.view looks;
    finds = subst (λ (u : ℕ). FindsVersion (session_view w.view) u) version_is
        (finds w.view p.version p.moment is.moment (record {
          there = is.pinned.version;
          unmarked = is.unmarked;
          found = is.pinned.found;
        }));
    tells = subst (λ (n : ℕ). tells_so n (cells_by n t.table.models))
        (sym (looks.sees.side ∙ r.side))
        (subst (λ (ms : List Content). tells_so t.table.plan.side
        (cells_by t.table.plan.side ms)) (models_stay t.table v w r looks)
        (subst (λ (n : ℕ). tells_so t.table.plan.side (cells_by n w.view.models)) plan_side
        (subst (λ (u : ℕ). tells_so t.table.plan.side (seen_has w.view u)) version_is
        tells_version)));
    rests = resting;
  }

  pub asked_told : (x z : PassState) → StaysLendable t.table w x → seen_of x.view ≡ seen_of w.view
      → StaysLendable t.table x z → OnlyHeldChanges (seen_of x.view) (seen_of z.view)
      → WasAsked (of_world t number) asked question (session_view v.view) (session_view z.view)
      (record { at = p.moment; answer = answer })
  asked_told x z read seen back only =
      subst (λ (s : SessionView). WasAsked (of_world t number) asked question
      (session_view v.view) s
      (record { at = p.moment; answer = answer }))
      (sym (same_seen w.view z.view (back.log ∙ read.log)
      (only.made ∙ ap (λ (s : StoreState). s.made) seen) (only.met ∙ ap (λ (s : StoreState). s.met) seen)))
      asked_here

pub may_walk_as : (t : TableState) (v w : PassState) (asked : Option ℕ) (p : Pinned)
    (root : Option Name) → root ≡ p.root → IsAtRest t v → OnlyReadsLog v.view w.view
    → PinsVersion v.view asked p w.view → walks.HoldsRoot w.view.held t.plan.side root
may_walk_as t v w asked p root same r looks is =
    subst (λ (x : Option Name). walks.HoldsRoot w.view.held t.plan.side x) (sym same)
    (subst (λ (n : ℕ). walks.HoldsRoot w.view.held n p.root)
    (ap (λ (l : Layout). l.side) (looks.session.plan ∙ r.of.plan))
    (may_walk w.view p.root (seen_has w.view p.version) is.pinned.root))
