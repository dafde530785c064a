-- What a rebuild of the newest version makes and meets, as a session tells it.
use Rattle.std.proofs.Common.{◌≡◌, ◌-◌, ◌^◌, ◌≤◌, ℕ, Option, List, [], ◌∷◌, ◌++◌, length, refl, sym, ◌∙◌, ap, subst, arith, Ok, Err}
use Rattle.std.specs.Prelude.{All, Result}
use Rattle.std.proofs.lemmas.List.Elements.{All-nil, All-cons, All-weaker}
use Rattle.vox_read.specs.Contents.{Content}
use Rattle.history_model.specs.declared.acts.Act.{Act}
use Rattle.history_model.specs.Logs.{FitsWorld}
use Rattle.history_model.specs.Parts.{after_parts}
use Rattle.history_model.specs.Stores.{edit_parts, edited_in, made_by_parts, stored_in}
use Rattle.history_model.specs.Worlds.{World}
use Rattle.node_words.specs.declared.shapes.names.Name.{Name}
use Rattle.node_words.specs.shapes.Shape.{Shape, ShowsCells}
use Rattle.node_words.specs.shapes.Tree.{shape_of}
use Rattle.node_words.specs.shapes.Weights.{number_of_trees}
use Rattle.node_words.proofs.OfShapes.TreeLaws.{level_of}
use Rattle.node_words.specs.declared.shares.Full.{Full}
use Rattle.node_words.specs.Gathering.{Grew, unchanged, one}
use Rattle.node_words.specs.Held.{IsSought, Wanted}
use Rattle.node_words.specs.Plans.{Layout}
use Rattle.node_words.proofs.OfContents.CellShapeLaws.{shape_with-canonical}
use Rattle.node_words.specs.descent.Roots as walks
use Rattle.edit_walk.specs.cells.Worlds.{Rebuilt, ShowsWorld, world_cells, world_shape}
use Rattle.edit_walk.proofs.OfCells.WorldLaws.{shape_shows}
use Rattle.act_rebuilds.specs.Acts.{IsOfAct, MadeByAct, MakesAct, MayMakeAct}
use Rattle.act_rebuilds.specs.Drawn.{WorldModels}
use Rattle.act_rebuilds.proofs.Rooms.{least_room}
use Rattle.act_rebuilds.specs.Made.{FailsBy, GrowsBy}
use Rattle.core_laws.specs.contents.Aligned.{top, world_block}
use Rattle.conformance.specs.scripts.Keeping.{IsWanted, MakesPart}
use Rattle.conformance.specs.possible.Needed.{made_of}
use Rattle.table_rule.specs.LogFacts.{number_seen, seen_has}
use Rattle.table_rule.specs.LogViews.{LogView}
use Rattle.table_rule.specs.Views.{SeatView, seen_of}
use Rattle.node_table.specs.TableStates.{TableState, PassState}
use Rattle.version_log.specs.Roots.{HoldsRootOf}
use Rattle.conformance.specs.sessions.Calls.{AcceptsNothing, NotesFor}
use Rattle.session.specs.Lendable.{IsLendable, StaysLendable}
use Rattle.session.specs.Attempts.{FailsToMake, IsMaker, MakesNext, MakesNextRoot, WorksOn}
use Rattle.session.specs.SessionWorlds.{session_view}
use Rattle.session.proofs.AskLaws.{may_walk, shows_world}
use Rattle.session.proofs.SeenLaws.{sees_more}
use Rattle.session.proofs.WorkLaws.{knows_same}

-- what a list has grown by
record GrownBy {A : Type 0} (P : A → Type 0) (old new : List A) : Type 0 where
  more : List A
  is : new ≡ more ++ old
  each : All P more

grown : {A : Type 0} (P : A → Type 0) (old new : List A) → Grew P old new → GrownBy P old new
grown P old new unchanged = record { more = []; is = refl; each = All-nil P }
grown P old _ (one {a} {new = before} p rest) = (
    let r = grown P old before rest in
    record {
      more = a ∷ r.more;
      is = ap (λ xs. a ∷ xs) r.is;
      each = All-cons P a r.more p r.each;
    })

-- so it may be made over a hand on the session, of the newest version that is seen
pub may_make : (t : TableState) (drawn : WorldModels) (act : Act) (v h : PassState) (side : ℕ)
    (root : Option Name) (cells : World) → IsMaker t drawn act → IsLendable t v
    → HoldsRootOf v.view root cells → number_of_trees v.view.held ≤ 3909 → h ≡ v
    → side ≡ t.plan.side → MayMakeAct (seen_of h.view) side root drawn act
may_make t drawn act v h side root cells maker ready holds few same is =
    subst (λ (n : ℕ). MayMakeAct (seen_of h.view) n root drawn act) (sym is)
    (subst (λ (p : PassState). MayMakeAct (seen_of p.view) t.plan.side root drawn act) (sym same)
    (record {
      side_is = sym (ap (λ (l : Layout). l.side) ready.of.plan);
      root_is = subst (λ (n : ℕ). walks.HoldsRoot v.view.held n root)
          (ap (λ (l : Layout). l.side) ready.of.plan) (may_walk v.view root cells holds);
      room = least_room act (number_of_trees v.view.held) few;
      large = maker.large;
      edit = maker.edit;
      suits = maker.suits;
      fits = subst (λ (ms : List Content). FitsWorld (2 ^ t.plan.side) ms act)
          (sym maker.models_are) maker.fits;
    }))

module _ (t : TableState) (act : Act) (drawn : WorldModels) (v w : PassState)
    (maker : IsMaker t drawn act) (ready : IsLendable t v) (stays : StaysLendable t v w)
    (base : Option Name)
    (h : HoldsRootOf v.view base (seen_has v.view (number_seen v.view))) where
  abbrev models : List Content
  models = drawn.models

  -- the newest version that is seen, and its cells
  abbrev at : ℕ
  at = number_seen v.view

  abbrev before : World
  before = seen_has v.view at

  abbrev after : World
  after = edited_in (2 ^ t.plan.side) models act before

  abbrev level : ℕ
  level = t.plan.side - 2

  plan_is : w.view.plan ≡ t.plan
  plan_is = stays.ready.of.plan

  shown : ShowsWorld v.view.held level base before
  shown = subst (λ (k : ℕ). ShowsWorld v.view.held (k - 2) base before)
      (ap (λ (l : Layout). l.side) ready.of.plan) (shows_world v.view base before h)

  same_number : number_seen w.view ≡ at
  same_number = ap (λ (l : LogView). length l.seen.records) stays.log

  -- what the act wants, and what its first parts make
  abbrev Wants : Shape → Type 0
  Wants = IsOfAct t.plan.side models act before

  abbrev after_some : ℕ → World
  after_some k = after_parts (edit_parts (2 ^ t.plan.side) models act) k before

  -- by the history that is seen then, and by the act that was asked for
  made_as : (k : ℕ)
      → made_of (2 ^ t.plan.side) t.models w.view.log.seen.records act at k ≡ after_some k
  made_as k =
      let f : t.models ≡ models = sym maker.models_are in
      let g : t.models ≡ v.view.models = sym ready.of.models in
      let p : t.plan ≡ v.view.plan = sym ready.of.plan in
      let l : w.view.log ≡ v.view.log = stays.log in
      (λ i. made_by_parts (2 ^ t.plan.side) (f i) act k
      (stored_in (2 ^ (p i).side) (g i) ((l i).seen.records) at))

  wanted_by : (s : Shape) → Wants s → IsWanted t.plan t.models w.view.log.seen.records act at s
  wanted_by s of = record {
    edit = maker.edit;
    parts = of.after;
    some_part = of.some;
    few_parts = of.few;
    part = record {
      all = world_shape level (after_some of.after);
      canonical = shape_with-canonical level (world_cells (after_some of.after));
      shows = subst (λ (x : World). ShowsCells (world_block t.plan.side)
          (world_shape level (after_some of.after)) x) (sym (made_as of.after))
          (shape_shows level (world_shape level (after_some of.after)) (after_some of.after) refl);
      part = of.is_part;
    };
  }

  makes_part : (s : Shape) → Wants s → MakesPart t.plan t.models w.view.log.seen.records act
      (number_seen v.view) (number_seen w.view) s
  makes_part s of =
      let same = same_number in
      record {
        version = at;
        low = omega arith;
        high = omega arith;
        wanted = wanted_by s of;
      }

  nothing_came : AcceptsNothing (session_view v.view) (session_view w.view)
  nothing_came =
      record {
        sees = sees_more v.view w.view (knows_same v.view w.view stays.log);
        records = ap (λ (l : LogView). l.records) stays.log;
        marks = ap (λ (l : LogView). l.marks) stays.log;
      }

  grown_notes : GrowsBy Wants (seen_of v.view) (seen_of w.view)
      → NotesFor t.plan t.models act (session_view v.view) (session_view w.view)
  grown_notes g =
      let more = grown Wants v.view.made w.view.made g.made in
      record {
        more = more.more;
        made = more.is;
        parts = All-weaker Wants
            (MakesPart t.plan t.models w.view.log.seen.records act (number_seen v.view)
            (number_seen w.view)) makes_part more.more more.each;
        further = [];
        met = g.met;
        wanted = All-nil (λ x. MakesPart t.plan t.models w.view.log.seen.records act
            (number_seen v.view) (number_seen w.view) x.shape);
      }

  abbrev failed_notes : (full : Full)
      → FailsBy Wants full.level full.bucket (seen_of v.view) (seen_of w.view)
      → NotesFor t.plan t.models act (session_view v.view) (session_view w.view)
  failed_notes full g =
      let more = grown Wants v.view.made w.view.made g.made in
      record {
        more = more.more;
        made = more.is;
        parts = All-weaker Wants
            (MakesPart t.plan t.models w.view.log.seen.records act (number_seen v.view)
            (number_seen w.view)) makes_part more.more more.each;
        further = record { level = full.level; bucket = full.bucket; shape = g.wanted } ∷ [];
        met = g.met;
        wanted = All-cons (λ (x : Wanted). MakesPart t.plan t.models w.view.log.seen.records act
            (number_seen v.view) (number_seen w.view) x.shape)
            (record { level = full.level; bucket = full.bucket; shape = g.wanted }) []
            (makes_part g.wanted g.wants)
            (All-nil (λ (x : Wanted). MakesPart t.plan t.models w.view.log.seen.records act
            (number_seen v.view) (number_seen w.view) x.shape));
      }

  works_by : NotesFor t.plan t.models act (session_view v.view) (session_view w.view)
      → WorksOn t act v.view w.view
  works_by notes =
      record {
        session = stays.same.session;
        sees = knows_same v.view w.view stays.log;
        nothing = nothing_came;
        notes = notes;
      }

  holds_made : (r : Option Name) → Rebuilt level after r (seen_of v.view) (seen_of w.view)
      → HoldsRootOf w.view r after
  holds_made r b =
      let side : w.view.plan.side ≡ t.plan.side = ap (λ (l : Layout). l.side) plan_is in
      record {
        tree = b.tree;
        name = b.root;
        held = record { weighs = λ f. (let e = b.weighs f in omega arith) };
        level = λ n e. subst (λ (k : ℕ). n.level ≡ top k) (sym side)
            (level_of level b.tree n b.levels (b.root ∙ e));
        shows = subst (λ (k : ℕ). ShowsCells (world_block k) (shape_of b.tree) after) (sym side)
            b.shows;
      }

  after_as : edited_in (2 ^ w.view.plan.side) w.view.models act
      (seen_has w.view (number_seen w.view)) ≡ after
  after_as =
      let p : w.view.plan ≡ v.view.plan = stays.same.session.plan in
      let q : w.view.plan ≡ t.plan = plan_is in
      let g : w.view.models ≡ v.view.models = stays.same.session.models in
      let f : w.view.models ≡ models = g ∙ ready.of.models ∙ sym maker.models_are in
      let l : w.view.log ≡ v.view.log = stays.log in
      (λ i. edited_in (2 ^ (q i).side) (f i) act (stored_in (2 ^ (p i).side) (g i)
      ((l i).seen.records) (length ((l i).seen.records))))

  makes_root : (r : Option Name)
      → MadeByAct t.plan.side models act before r (seen_of v.view) (seen_of w.view)
      → MakesNextRoot t act r v.view w.view
  makes_root r b =
      record {
        works = works_by (grown_notes b.grows);
        made = record {
          cells = after;
          holds = holds_made r b.came;
          makes = record {
            each = λ q inside. ap (λ (x : World). x q) (sym after_as);
          };
        };
        gains = record {
          tree = b.came.tree;
          name = b.came.root;
          loses = record { weighs = λ f. sym (b.came.weighs f) };
        };
      }

  fails_to_make : (full : Full)
      → FailsBy Wants full.level full.bucket (seen_of v.view) (seen_of w.view)
      → FailsToMake t act full v.view w.view
  fails_to_make full g =
      let x : Wanted = record { level = full.level; bucket = full.bucket; shape = g.wanted } in
      record {
        works = works_by (failed_notes full g);
        meets = record {
          notes = failed_notes full g;
          shape = g.wanted;
          listed = (0, omega arith, refl);
          sought = subst (λ (p : Layout). IsSought p x) ready.of.plan g.sought;
          wanted = subst
              (λ (n : ℕ). IsWanted t.plan t.models w.view.log.seen.records act n g.wanted)
              (sym same_number) (wanted_by g.wanted g.wants);
        };
        held = record { weighs = g.held };
      }

  pub makes_next : (result : Result (Option Name) Full)
      → MakesAct (seen_of v.view) t.plan.side base models act result (seen_of w.view)
      → MakesNext t act result v.view w.view
  makes_next (Ok r) made = makes_root r (made before shown)
  makes_next (Err full) made = fails_to_make full (made before shown)

-- the same of a session that was left so
pub left_next : (t : TableState) (act : Act) (result : Result (Option Name) Full) (v w x : SeatView)
    → x ≡ w → MakesNext t act result v w → MakesNext t act result v x
left_next t act result v w x is made =
    subst (λ (y : SeatView). MakesNext t act result v y) (sym is) made
