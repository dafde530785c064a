use Rattle.std.proofs.Common.{ℕ, ◌∙◌, refl, ap, subst}
use Rattle.std.specs.List.{slice_get}
use Rattle.vw_cell.specs.declared.boxes.Boxed.{Boxed}
use Rattle.vw_cell.specs.declared.cells.Cell.{Cell}
use Rattle.vw_cell.specs.Places.{FitsAt}
use Rattle.history_model.specs.declared.acts.Act.TheVariants.{Stamp}
use Rattle.store_run.specs.Worlds.{size_of}
use Rattle.voxdag_c.specs.held.Calls.{WorldChanges, act_here, held_side}
use Rattle.voxdag_c.specs.held.Places.{cell_of_c_place}
use Rattle.voxdag_c.proofs.OfHeld.Kinds.{no_model_here, outside_here}
use Rattle.voxdag_c.proofs.OfHeld.Fitting.{box_fits, box_leaves, model_fits, model_leaves, no_size, has_size}
use Rattle.voxdag_c.proofs.held.worlds.CWorld.stamp.Goals as goal

pub returns-in-None : goal.returns-in-None
returns-in-None c =
    no_model_here c.args.self.now c.args.number (cell_of_c_place c.args.at)
    (no_size c.args.self.now.open.models c.args.number
    (c.in-None.ensures
    ∙ ap (λ (k : ℕ). size_of (slice_get c.args.self.now.open.models k)) c.from.ensures))

pub returns-in-None-box_in : goal.returns-in-None-box_in
returns-in-None-box_in c =
    outside_here c.args.self.now (Stamp c.args.number (cell_of_c_place c.args.at)) refl
    (has_size c.args.self.now.open.models c.args.number c.in-Some.size
    (c.in-Some.ensures
    ∙ ap (λ (k : ℕ). size_of (slice_get c.args.self.now.open.models k)) c.from.ensures))
    (model_leaves c.args.self.now.open.models c.args.number _ c.in-Some.size
    (cell_of_c_place c.args.at)
    (c.in-Some.ensures
    ∙ ap (λ (k : ℕ). size_of (slice_get c.args.self.now.open.models k)) c.from.ensures)
    (subst (λ (s : Cell). ¬ FitsAt (cell_of_c_place c.args.at) s
    (held_side c.args.self.now)) c.of.ensures
    (box_leaves c.side.result _ c.side.ensures
    (record { at = c.args.at; size = c.of.result }) c.in-None-box_in.ensures.exactly)))

pub change_here-requires-clause-fits : goal.change_here-requires-clause-fits
change_here-requires-clause-fits c =
    model_fits c.args.self.now.open.models c.args.number (held_side c.args.self.now) c.in-Some.size c.in-Some-box_in.b.at
    (c.in-Some.ensures
    ∙ ap (λ (k : ℕ). size_of (slice_get c.args.self.now.open.models k)) c.from.ensures)
    (subst (λ (s : Cell). FitsAt c.in-Some-box_in.b.at s (held_side c.args.self.now))
    (ap (λ (x : Boxed). x.size) c.in-Some-box_in.ensures.value ∙ c.of.ensures)
    (box_fits c.side.result _ c.side.ensures (record { at = c.args.at; size = c.of.result })
    c.in-Some-box_in.b c.in-Some-box_in.ensures.value c.in-Some-box_in.ensures.exactly))

pub returns-in-Some-box_in : goal.returns-in-Some-box_in
returns-in-Some-box_in c =
    subst (λ (p : Cell). WorldChanges c.args.self.now (act_here c.args.self.now (Stamp c.args.number p))
    c.change_here.result c.change_here.new.self)
    (ap (λ (x : Boxed). x.at) c.in-Some-box_in.ensures.value) c.change_here.ensures
