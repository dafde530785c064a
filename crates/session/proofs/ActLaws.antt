-- What a world keeps beside its table, and its acts as those of whoever makes them.
use Rattle.std.proofs.Common.{◌≡◌, ℕ, ◌-◌, ◌/◌, ◌^◌, ◌≤◌, Bool, true, false, List, refl, sym, ◌∙◌, subst}
use Rattle.vw_cell.specs.declared.boxes.Boxed.{Boxed}
use Rattle.vw_cell.specs.Places.{FitsAt}
use Rattle.vox_read.specs.Contents.{Content}
use Rattle.history_model.specs.declared.questions.Question.{Question}
use Rattle.history_model.specs.declared.acts.Act.{Act}
use Rattle.history_model.specs.declared.acts.Act.TheVariants.{Fill, Erase, Ball, Carve, Copy, Stamp, Tint, Undo, Redo}
use Rattle.history_model.specs.Logs.{side_of_world, suits_tints}
use Rattle.history_model.specs.Worlds.{is_edit}
use Rattle.node_words.specs.Plans.{Layout}
use Rattle.act_rebuilds.specs.Drawn.{HaveTints, WorldModels}
use Rattle.act_rebuilds.proofs.Rooms.{large_for_all}
use Rattle.act_rebuilds.specs.Acts.{IsLargeFor}
use Rattle.node_table.specs.TableStates.{TableState}
use Rattle.script.specs.Fitting.{QuestionFits}
use Rattle.act_rebuilds.proofs.OfQuestions.TintTells.{quarter_same}
use Rattle.conformance.specs.sessions.SessionViews.{CanTint, MayTint}
use Rattle.session.specs.Attempts.{IsMaker, SameEdit}
use Rattle.session.specs.SessionWorlds.{KeepsTableModels, IsActOf, SessionWorld}
use Rattle.session.proofs.VoxelLaws.{IsLarge}

-- models that were drawn by their tints, over a store that is large
pub may_tint : (tint : Bool) (p : Layout) (models : List Content) → IsLarge tint p.side
    → HaveTints tint models → MayTint tint p models
may_tint true p models large have = record { large = large refl; colours = have }
may_tint false p models large have = tt

-- a plan that is large enough
pub large_plan : (tint : Bool) (asked p : Layout) → p ≡ asked → (tint ≡ true → 4 ≤ asked.side)
    → IsLarge tint p.side
large_plan tint asked p same large e = subst (λ (q : Layout). 4 ≤ q.side) (sym same) (large e)

-- what a new world keeps
pub keeps_models : (t : TableState) (tint : Bool) (drawn : WorldModels) (models : List Content)
    → drawn.tint ≡ tint → drawn.models ≡ models → t.models ≡ models → IsLarge tint t.plan.side
    → HaveTints tint models → KeepsTableModels t tint drawn
keeps_models t tint drawn models drawn_as drawn_are table_has large have = record {
  drawn_as = drawn_as;
  drawn_are = drawn_are ∙ sym table_has;
  may = may_tint tint t.plan t.models large
      (subst (λ (ms : List Content). HaveTints tint ms) (sym table_has) have);
}

-- the same of the world as it is seen
pub models_of : (w x : SessionWorld) (drawn : WorldModels) → x ≡ w
    → KeepsTableModels x.table x.tint drawn → KeepsTableModels w.table w.tint drawn
models_of w x drawn same h =
    subst (λ (y : SessionWorld). KeepsTableModels y.table y.tint drawn) same h

-- the store of a world whose cells have tints is large
pub large_of : (t : TableState) (tint : Bool) (drawn : WorldModels)
    → KeepsTableModels t tint drawn → IsLarge tint t.plan.side
large_of t tint drawn h e =
    let can : CanTint t.plan t.models =
    subst (λ (b : Bool). MayTint b t.plan t.models) e h.may
    in
    can.large

-- the same of the side that its table tells
pub large_by : (t : TableState) (tint : Bool) (drawn : WorldModels) (side : ℕ)
    → KeepsTableModels t tint drawn → tint ≡ true → side ≡ t.plan.side → 4 ≤ side
large_by t tint drawn side h e is =
    subst (λ (n : ℕ). 4 ≤ n) (sym is) (large_of t tint drawn h e)

-- what fits a world whose cells have tints fits a quarter of its store's side
pub tinted_question : (tint : Bool) (s side : ℕ) (question : Question) → tint ≡ true → side ≡ s
    → QuestionFits (side_of_world tint (2 ^ s)) question → QuestionFits (2 ^ side / 4) question
tinted_question tint s side question e is fits =
    subst (λ (n : ℕ). QuestionFits (2 ^ n / 4) question) (sym is)
    (subst (λ (b : Bool). QuestionFits (side_of_world b (2 ^ s)) question) e fits)

pub tinted_box : (tint : Bool) (s side : ℕ) (b : Boxed) → tint ≡ true → side ≡ s → 4 ≤ side
    → FitsAt b.at b.size (side_of_world tint (2 ^ s)) → FitsAt b.at b.size (2 ^ (side - 2))
tinted_box tint s side b e is large fits =
    subst (λ (n : ℕ). FitsAt b.at b.size n) (quarter_same side large)
    (subst (λ (n : ℕ). FitsAt b.at b.size (2 ^ n / 4)) (sym is)
    (subst (λ (c : Bool). FitsAt b.at b.size (side_of_world c (2 ^ s))) e fits))

-- so it is large enough for each act that suits the world
large_for : (tint : Bool) (p : Layout) (models : List Content) (act : Act) → MayTint tint p models
    → suits_tints tint act ≡ true → IsLargeFor act p.side
large_for true p models act may suits = large_for_all act p.side may.large
large_for false p models (Fill b) may suits = tt
large_for false p models (Erase b) may suits = tt
large_for false p models (Ball ball) may suits = tt
large_for false p models (Carve ball) may suits = tt
large_for false p models (Copy b to) may suits = tt
large_for false p models (Stamp m at) may suits = tt
large_for false p models (Tint t) may suits = absurd (let no : ⊥ = cc in no)
large_for false p models Undo may suits = tt
large_for false p models Redo may suits = tt

-- an edit of the world, made by the world's models
pub maker_of : (w : SessionWorld) (drawn own : WorldModels) (act made : Act)
    → KeepsTableModels w.table w.tint drawn → IsActOf w act → is_edit act ≡ true
    → own ≡ drawn
    → made ≡ act → IsMaker w.table own made
maker_of w drawn own act made has fits edit by same =
    subst (λ (m : WorldModels). IsMaker w.table m made) (sym by)
    (subst (λ (a : Act). IsMaker w.table drawn a) (sym same) (record {
      models_are = has.drawn_are;
      edit = edit;
      suits = subst (λ (b : Bool). suits_tints b act ≡ true) (sym has.drawn_as) fits.1;
      fits = fits.0;
      large = large_for w.tint w.table.plan w.table.models act has.may fits.1;
    }))

-- the same edit as before, by the same models
pub maker_on : (t : TableState) (drawn were : WorldModels) (act was : Act)
    → SameEdit drawn were act was → IsMaker t were was → IsMaker t drawn act
maker_on t drawn were act was same m =
    subst (λ (d : WorldModels). IsMaker t d act) (sym same.drawn_is)
    (subst (λ (a : Act). IsMaker t were a) (sym same.act_is) m)
