-- The set cells of a box of a version that is pinned.
use Rattle.std.proofs.Common.{◌≡◌, ◌-◌, ◌^◌, ℕ, Bool, Option, List, ◌++◌, ◌∙◌, ap, subst}
use Rattle.std.specs.Prelude.{Result, Ok, Err, OnOk}
use Rattle.vw_cell.specs.declared.boxes.Boxed.{Boxed}
use Rattle.vw_cell.specs.Places.{FitsAt}
use Rattle.vox_read.specs.declared.voxels.Voxel.{Voxel}
use Rattle.history_model.specs.Worlds.{World}
use Rattle.node_words.specs.declared.shapes.names.Name.{Name}
use Rattle.node_words.specs.shapes.Shape.{ShowsCells}
use Rattle.node_words.specs.shapes.Tree.{shape_of}
use Rattle.node_words.proofs.HeldLaws.{held_reached}
use Rattle.node_words.specs.Plans.{Layout}
use Rattle.core_laws.specs.contents.Aligned.{top, world_block}
use Rattle.node_words.specs.descent.Roots.{ForWorld, IsBlockOf, cells_of}
use Rattle.history_model.specs.Logs.{side_of_world}
use Rattle.table_rule.specs.LogFacts.{seen_has}
use Rattle.node_table.specs.TableStates.{TableState, PassState}
use Rattle.version_log.specs.declared.answers.Pinned.{Pinned}
use Rattle.version_log.specs.Pins.{IsPinned}
use Rattle.session.specs.Resting.{IsAtRest}
use Rattle.session.proofs.AskLaws.{named_held}
use Rattle.session.proofs.FileLaws.{shown_at}
use Rattle.session.proofs.VoxelLaws.{kept_same}
use Rattle.session.specs.Roots.{stored_voxels}

module _ (t : TableState) (v : PassState) (p : Pinned) (r : IsAtRest t v) (is : IsPinned v.view p)
  where
    world : World
    world = seen_has v.view p.version

    side_is : v.view.plan.side ≡ t.plan.side
    side_is = ap (λ (l : Layout). l.side) r.of.plan

    block : IsBlockOf v.view.held (t.plan.side - 2) p.root is.root.tree
    block =
        record {
          root = is.root.name;
          reached = λ n e. held_reached v.view.held is.root.tree
              (named_held v.view.held is.root.tree n is.root.held (is.root.name ∙ e));
          of_level = λ n e. is.root.level n e ∙ ap top side_is;
        }

    shows : ShowsCells (world_block t.plan.side) (shape_of is.root.tree) (seen_has v.view p.version)
    shows =
        subst (λ (k : ℕ). ShowsCells (world_block k) (shape_of is.root.tree)
        (seen_has v.view p.version)) side_is is.root.shows

    module _ (tint : Bool) where
      listed : (part : Boxed) → FitsAt part.at part.size (side_of_world tint (2 ^ t.plan.side))
          → (old new : List Voxel)
          → ForWorld v.view.held t.plan.side p.root
          (λ cells. new ≡ old ++ stored_voxels tint t.plan.side part cells)
          → new ≡ old ++ stored_voxels tint t.plan.side part (seen_has v.view p.version)
      listed part fits old new told =
          told is.root.tree block
          ∙ ap (λ (vs : List Voxel). old ++ vs)
          (kept_same tint t.plan.side part (cells_of (t.plan.side - 2) (shape_of is.root.tree))
          (seen_has v.view p.version) fits
          (shown_at t.plan.side (shape_of is.root.tree) (seen_has v.view p.version) shows))

      pub pinned_cells : {X E : Type 0} (result : Result X E) (part : Boxed)
          → FitsAt part.at part.size (side_of_world tint (2 ^ t.plan.side)) → (old new : List Voxel)
          → (root : Option Name) → root ≡ p.root
          → OnOk result (ForWorld v.view.held t.plan.side root
          (λ cells. new ≡ old ++ stored_voxels tint t.plan.side part cells))
          → OnOk result (new ≡ old ++ stored_voxels tint t.plan.side part
          (seen_has v.view p.version))
      pinned_cells (Err e) part fits old new root same told = tt
      pinned_cells (Ok x) part fits old new root same told =
          listed part fits old new
          (subst (λ (n : Option Name). ForWorld v.view.held t.plan.side n
          (λ cells. new ≡ old ++ stored_voxels tint t.plan.side part cells)) same told)
