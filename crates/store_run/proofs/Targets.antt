-- What a record that comes next makes, and where an undo or a redo goes.
use Rattle.std.proofs.Common.{◌≡◌, ◌≢◌, ℕ, ◌+◌, ◌-◌, ◌^◌, ◌<◌, ◌≤◌, true, false, Some, Option, List, length, sym, ◌∙◌, ap, subst, arith}
use Rattle.vw_cell.specs.declared.cells.Cell.{Cell}
use Rattle.vw_cell.specs.Counts.{cell_at}
use Rattle.vw_cell.specs.Places.{block_side}
use Rattle.vox_read.specs.Contents.{Content}
use Rattle.history_model.specs.declared.acts.Act.{Act}
use Rattle.history_model.specs.declared.acts.Act.TheVariants.{Undo, Redo}
use Rattle.history_model.specs.declared.histories.Record.{Record}
use Rattle.history_model.specs.LegalLaws.{edit_follows}
use Rattle.history_model.specs.Logs.{Log, FitsWorld}
use Rattle.history_model.specs.Stores.{edited_in, stored_in}
use Rattle.history_model.specs.Positions.{position_after, first_of, undone, redone}
use Rattle.history_model.specs.Worlds.{World, is_edit}
use Rattle.node_words.specs.declared.shapes.names.Name.{Name}
use Rattle.node_words.specs.shapes.Shape.{Shape, ShowsCells, IsCanonical}
use Rattle.node_words.specs.shapes.Tree.{shape_of}
use Rattle.node_words.specs.Gathering.{Grew}
use Rattle.node_words.proofs.GatherLaws.{grew_into}
use Rattle.node_words.specs.Held.{StoreState}
use Rattle.node_words.specs.Plans.{Layout}
use Rattle.node_words.proofs.OfContents.CellShapeLaws.{shape_with-has, shape_with-canonical}
use Rattle.core_laws.specs.contents.Aligned.{top, world_block}
use Rattle.core_laws.specs.contents.Versions.{HoldsVersion, IsUnmarked}
use Rattle.core_laws.specs.LogEvents.{MayAppend}
use Rattle.core_laws.proofs.Targets.{may_go}
use Rattle.edit_walk.specs.cells.Worlds.{world_shape, world_cells, block_at_origin}
use Rattle.conformance.specs.Answers.{target_at}
use Rattle.conformance.proofs.LineKinds.{undo_target, redo_target}
use Rattle.conformance.specs.possible.Needed.{made_of}
use Rattle.act_rebuilds.specs.Acts.{IsOfAct}
use Rattle.act_rebuilds.specs.Made.{FailsBy}
use Rattle.conformance.specs.scripts.Keeping.{IsPartOfWorld, IsWanted, MeetsFull}
use Rattle.conformance.proofs.OfScripts.Going.{goes_to}
use Rattle.undo.specs.Trails.{trail_position}
use Rattle.one_store.specs.Known.{IsStore, root_tree, stored_root}
use Rattle.store_run.specs.declared.stored_versions.Versions.{Versions}
use Rattle.store_run.specs.Kept.{plan_of, log_of, moment_of, core_with, AreStoredVersions}
use Rattle.store_run.specs.Steps.{SharesRootOfVersion, MakesRoot, edited_world, WantsFor}
use Rattle.store_run.proofs.Rebuilding.{edited_same}
use Rattle.store_run.proofs.Sparing.{versions_sound}

from_origin : (c : Cell) → cell_at (c.x - 0) (c.y - 0) (c.z - 0) ≡ c
from_origin c =
    let x : c.x - 0 ≡ c.x = omega arith in
    let y : c.y - 0 ≡ c.y = omega arith in
    let z : c.z - 0 ≡ c.z = omega arith in
    λ i. record { x = x i; y = y i; z = z i }

world_shows : (level : ℕ) (world : World)
    → ShowsCells (block_at_origin level) (world_shape level world) world
world_shows level world = record {
  each = λ c i.
      let x : c.x - 0 < block_side level = omega (arith, i.x.1) in
      let y : c.y - 0 < block_side level = omega (arith, i.y.1) in
      let z : c.z - 0 < block_side level = omega (arith, i.z.1) in
      (shape_with-has level (world_cells world)).each (c.x - 0) (c.y - 0) (c.z - 0) x y z
      ∙ ap world (from_origin c);
}

-- what an edit wants of the newest version
abbrev pub Wants : Versions → Act → Shape → Type 0
Wants v act s = IsWanted (plan_of v) v.models.models v.records.items act (moment_of v) s

module _ (v : Versions) (act : Act) (are : AreStoredVersions v) (edit : is_edit act ≡ true) where
  -- what so many parts of it make, by the store's side
  abbrev after : ℕ → ℕ → World
  after side k = made_of (2 ^ side) v.models.models v.records.items act (moment_of v) k

  wanted_at : (side : ℕ) → side ≡ (plan_of v).side → (s : Shape)
      → IsOfAct side v.models.models act
      (stored_in (2 ^ side) v.models.models v.records.items (moment_of v)) s
      → Wants v act s
  wanted_at side same s of = record {
    edit = edit;
    parts = of.after;
    some_part = of.some;
    few_parts = of.few;
    part = subst (λ (l : ℕ). IsPartOfWorld (plan_of v) (after l of.after) s) same (record {
      all = world_shape (side - 2) (after side of.after);
      canonical = subst
          (λ (l : ℕ). IsCanonical (top l) (world_shape (side - 2) (after side of.after))) same
          (shape_with-canonical (side - 2) (world_cells (after side of.after)));
      shows = subst
          (λ (l : ℕ). ShowsCells (world_block l) (world_shape (side - 2) (after side of.after))
          (after side of.after)) same (world_shows (side - 2) (after side of.after));
      part = of.is_part;
    });
  }

  pub wanted_by : (s : Shape) → WantsFor v act s → Wants v act s
  wanted_by s of = wanted_at v.side are.side s of

  pub grew_wanted : (old new : List Shape) → Grew (WantsFor v act) old new
      → Grew (Wants v act) old new
  grew_wanted old new grew = grew_into wanted_by grew

  pub meets_full : (level bucket : ℕ) (old new : StoreState)
      → FailsBy (WantsFor v act) level bucket old new
      → MeetsFull (Wants v act) level bucket old new
  meets_full level bucket old new fails = record {
    plan = fails.plan;
    made = grew_into wanted_by fails.made;
    wanted = fails.wanted;
    wants = wanted_by fails.wanted fails.wants;
    sought = fails.sought;
    met = fails.met;
  }

-- the edit may become the next record, with the root that it made
pub may_edit : (v u : Versions) (r : Record) (root : Option Name) → AreStoredVersions v
    → AreStoredVersions u → MakesRoot v r.act root u
    → is_edit r.act ≡ true → FitsWorld (2 ^ v.side) v.models.models r.act → moment_of u ≢ 65535
    → moment_of u ≤ 65535
    → MayAppend (plan_of u) u.models.models r root (core_with (log_of u) u.store)
may_edit v u r root are now makes edit fits late few =
    let plan = makes.stay.spares.plan in
    let side : (plan_of u).side ≡ v.side = ap (λ (p : Layout). p.side) plan ∙ sym are.side in
    record {
      room = omega (arith, late);
      fits =
          subst (λ (l : ℕ). FitsWorld (2 ^ l) u.models.models r.act) (sym side)
          (subst (λ (ms : List Content). FitsWorld (2 ^ v.side) ms r.act)
          (sym makes.stay.models) fits);
      follows = edit_follows (log_of u).marks (moment_of u + 1) r.act
          (position_after u.records.items) edit;
      level = λ n e. makes.level n e ∙ ap (λ (p : Layout). top p.side) (sym plan);
      cells = edited_world u r.act;
      shows =
          subst (λ (p : Layout). ShowsCells (world_block p.side)
          (shape_of (root_tree u.store root)) (edited_world u r.act)) (sym plan)
          (subst (λ (x : World). ShowsCells (world_block (plan_of v).side)
          (shape_of (root_tree u.store root)) x)
          (sym (edited_same v u r.act makes.stay)) makes.shows);
      makes = record {
        edit = λ _. record {
          each = λ q inside.
              ap (λ (l : ℕ). edited_in (2 ^ l) u.models.models r.act
              (stored_in (2 ^ l) u.models.models u.records.items (moment_of u)) q) now.side;
        };
        other = λ no. absurd (Rattle.std.proofs.lemmas.Bool.both_ways (is_edit r.act) no edit);
      };
    }

-- ---- where an undo or a redo goes

pub may_go_to : (v u : Versions) (r : Record) (to number : ℕ) (root : Option Name)
    → AreStoredVersions u → IsStore u.store number → SharesRootOfVersion v to root u
    → is_edit r.act ≡ false → target_at v.records.items (moment_of v) r.act ≡ Some to
    → HoldsVersion (log_of v) to → moment_of v ≢ 65535 → moment_of v ≤ 65535
    → MayAppend (plan_of u) u.models.models r root (core_with (log_of u) u.store)
may_go_to v u r to number root are st shares other goes kept late few =
    let log = shares.stay.log in
    let now : moment_of u ≡ moment_of v = ap (λ (l : Log). length l.records) log in
    let goes_now : target_at u.records.items (moment_of u) r.act ≡ Some to =
    (λ i. target_at ((log i).records) (length ((log i).records)) r.act) ∙ goes in
    let g = goes_to (log_of u) r.act to other goes_now in
    let kept_now : IsUnmarked (log_of u).marks to =
    subst (λ (l : Log). IsUnmarked l.marks to) (sym log) kept.unmarked in
    let may =
    may_go (plan_of u) u.models.models r (core_with (log_of u) u.store)
    (versions_sound u number are st) (omega (arith, late, now)) other (g.may kept_now) in
    subst (λ (o : Option Name). MayAppend (plan_of u) u.models.models r o
    (core_with (log_of u) u.store))
    (ap (stored_root u.store.roots) g.goes ∙ sym shares.is) may

-- what the trail tells
pub target_undo : (v : Versions) → AreStoredVersions v
    → first_of (trail_position v.trail).past ≡ target_at v.records.items (moment_of v) Undo
target_undo v are =
    ap (λ (at : Rattle.history_model.specs.Positions.Position). first_of at.past) are.position
    ∙ sym (undo_target v.records.items)

pub target_redo : (v : Versions) → AreStoredVersions v
    → first_of (trail_position v.trail).future ≡ target_at v.records.items (moment_of v) Redo
target_redo v are =
    ap (λ (at : Rattle.history_model.specs.Positions.Position). first_of at.future) are.position
    ∙ sym (redo_target v.records.items)
