-- The tints of each version are below 256, where those of the models are.
use Rattle.std.proofs.Common.{◌≡◌, ℕ, zero, suc, ◌<◌, ◌^◌, Bool, true, false, List, [], ◌∷◌, All, Option, Some, None, refl, subst, arith}
use Rattle.std.specs.Prelude.{if◌then◌else◌}
use Rattle.std.specs.List.{slice_get}
use Rattle.std.proofs.lemmas.List.Elements.{All-head, All-tail}
use Rattle.std.proofs.lemmas.Option.{none-some, same_Some}
use Rattle.vw_cell.specs.declared.cells.Cell.{Cell}
use Rattle.vw_cell.specs.Places.{is_in_box, is_in_ball}
use Rattle.vw_cell.specs.Tests.{is_in_box_tells}
use Rattle.history_model.specs.Contents.{Content, colour_at}
use Rattle.history_model.specs.Worlds.{box_at, less, plus, is_in_stamp}
use Rattle.history_model.specs.declared.acts.Act.{Act}
use Rattle.history_model.specs.declared.acts.Act.TheVariants as acts
use Rattle.history_model.specs.declared.acts.TintAct.TheVariants.{Fill, Erase, Ball, Carve, Copy, Stamp}
use Rattle.history_model.specs.declared.histories.Record.{Record}
use Rattle.history_model.specs.Tints.{Tints, untinted, over, stamp_tint, tints_by}
use Rattle.history_model.specs.Logs.{FitsWorld}
use Rattle.history_model.specs.Moments.{world_tint}
use Rattle.history_model.proofs.Relating.{related}
use Rattle.core_laws.specs.tints.Planes.{TintsPlaces}

put_small : (b : Bool) (c d : ℕ) → c < 2 ^ 8 → d < 2 ^ 8 → (if b then c else d) < 2 ^ 8
put_small true c d small few = small
put_small false c d small few = few

over_small : (s d : ℕ) → s < 2 ^ 8 → d < 2 ^ 8 → over s d < 2 ^ 8
over_small zero d small few = few
over_small (suc s) d small few = small

named_tints : (models : List Content) (m : ℕ) (model : Content) → All TintsPlaces models
    → slice_get models m ≡ Some model → TintsPlaces model
named_tints [] m model all is = absurd (none-some model is)
named_tints (first ∷ models) zero model all is =
    subst TintsPlaces (same_Some first model is) (All-head TintsPlaces first models all)
named_tints (first ∷ models) (suc m) model all is =
    named_tints models m model (All-tail TintsPlaces first models all) is

inside_small : (model : Content) (at p : Cell) → TintsPlaces model → (b : Bool)
    → is_in_box (box_at at model.size) p ≡ b
    → (if b then colour_at model.voxels (less p at) else 0) < 2 ^ 8
inside_small model at p small true e =
    let i = is_in_box_tells (box_at at model.size) p e in
    small (less p at)
    (record { x = omega (arith, i.x); y = omega (arith, i.y); z = omega (arith, i.z) })
inside_small model at p small false e = omega arith

stamp_small : (models : List Content) (m : ℕ) (at p : Cell) (named : Option Content)
    → All TintsPlaces models → slice_get models m ≡ named → stamp_tint named at p < 2 ^ 8
stamp_small models m at p None all e = omega arith
stamp_small models m at p (Some model) all e =
    inside_small model at p (named_tints models m model all e)
    (is_in_box (box_at at model.size) p) refl

small_by : (side : ℕ) (models : List Content) (act : Act) (tints : Tints) → All TintsPlaces models
    → FitsWorld side models act → ((p : Cell) → tints p < 2 ^ 8)
    → (p : Cell) → tints_by models act tints p < 2 ^ 8
small_by side models (acts.Fill b) tints all f few p =
    put_small (is_in_box b p) 1 (tints p) (omega arith) (few p)
small_by side models (acts.Erase b) tints all f few p =
    put_small (is_in_box b p) 0 (tints p) (omega arith) (few p)
small_by side models (acts.Ball ball) tints all f few p =
    put_small (is_in_ball ball p) 1 (tints p) (omega arith) (few p)
small_by side models (acts.Carve ball) tints all f few p =
    put_small (is_in_ball ball p) 0 (tints p) (omega arith) (few p)
small_by side models (acts.Copy b to) tints all f few p =
    put_small (is_in_box (box_at to b.size) p) (tints (plus b.at (less p to))) (tints p)
    (few (plus b.at (less p to))) (few p)
small_by side models (acts.Stamp m at) tints all f few p =
    put_small (is_in_stamp (slice_get models m) at p) 1 (tints p) (omega arith) (few p)
small_by side models (acts.Tint (Fill b c)) tints all f few p =
    put_small (is_in_box b p) c (tints p) (omega (arith, f.1)) (few p)
small_by side models (acts.Tint (Erase b)) tints all f few p =
    put_small (is_in_box b p) 0 (tints p) (omega arith) (few p)
small_by side models (acts.Tint (Ball ball c)) tints all f few p =
    put_small (is_in_ball ball p) c (tints p) (omega (arith, f.2)) (few p)
small_by side models (acts.Tint (Carve ball)) tints all f few p =
    put_small (is_in_ball ball p) 0 (tints p) (omega arith) (few p)
small_by side models (acts.Tint (Copy b to)) tints all f few p =
    put_small (is_in_box (box_at to b.size) p) (tints (plus b.at (less p to))) (tints p)
    (few (plus b.at (less p to))) (few p)
small_by side models (acts.Tint (Stamp m at)) tints all f few p =
    over_small (stamp_tint (slice_get models m) at p) (tints p)
    (stamp_small models m at p (slice_get models m) all refl) (few p)
small_by side models acts.Undo tints all f few p = few p
small_by side models acts.Redo tints all f few p = few p

pub versions_small : (side : ℕ) (models : List Content) (records : List Record)
    → All TintsPlaces models → All (λ r. FitsWorld side models r.act) records → (v : ℕ) (p : Cell)
    → world_tint models records v p < 2 ^ 8
versions_small side models records all fit v =
    related Tints Tints (λ t u. (p : Cell) → t p < 2 ^ 8) (λ act. FitsWorld side models act)
    untinted untinted (tints_by models) (tints_by models) (λ p. omega arith)
    (λ act t u fits edit few. small_by side models act t all fits few) records fit v
