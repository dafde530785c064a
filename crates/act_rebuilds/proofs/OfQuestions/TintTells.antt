-- What is told of a root's cells is told of each world whose tints they keep.
use Rattle.std.proofs.Common.{◌≡◌, ℕ, ◌*◌, ◌-◌, ◌/◌, ◌^◌, ◌≤◌, Bool, Option, List, refl, sym, ◌∙◌, ap, subst, arith}
use Rattle.vw_cell.specs.declared.cells.Cell.{Cell}
use Rattle.vw_cell.specs.declared.boxes.Boxed.{Boxed}
use Rattle.vw_cell.specs.Counts.{number_in}
use Rattle.vw_cell.specs.Places.{IsInWorld, FitsAt}
use Rattle.node_words.specs.declared.shapes.names.Name.{Name}
use Rattle.node_words.specs.shapes.Tree.{Tree, shape_of}
use Rattle.node_words.specs.descent.Roots.{ForWorld, cells_of}
use Rattle.edit_walk.specs.cells.Worlds.{ShowsWorld}
use Rattle.vw_cell.specs.Faces.{faces_in}
use Rattle.vw_cell.specs.Extents.{IsExtent}
use Rattle.history_model.specs.Rays.{Hits}
use Rattle.history_model.specs.Ways.{Heading}
use Rattle.history_model.specs.Worlds.{World}
use Rattle.history_model.specs.Tints.{Tints}
use Rattle.history_model.specs.Planes.{StoresTints, tells}
use Rattle.history_model.specs.declared.questions.Question.TheVariants.{Get, Colour, Count, Bounds, Faces, Ray}
use Rattle.core_laws.specs.tints.Planes.{tint_in}
use Rattle.core_laws.proofs.OfTints.TintLaws.{stored_tint}
use Rattle.colour.proofs.Quarters.{four_quarters, quarter_is}
use Rattle.one_store.specs.Versions.{SameWorld}
use Rattle.transcript.specs.declared.answers.Answer.TheVariants as answers
use Rattle.conformance.specs.QuestionAnswers.{is, colour, count, faces, extent, hit}
use Rattle.act_rebuilds.specs.questions.AnswersByRoots.{AnswersByTints}
use Rattle.act_rebuilds.proofs.OfQuestions.SameTells.{number_same, extent_same, hits_same}
use Rattle.act_rebuilds.proofs.OfQuestions.RootTells.{root_block, root_same}
use Rattle.act_rebuilds.proofs.OfQuestions.PlaneTells.{here, kept_here, faces_here}

-- places of a quarter of the side are the store's
pub quarter_same : (side : ℕ) → 4 ≤ side → 2 ^ side / 4 ≡ 2 ^ (side - 2)
quarter_same side large = quarter_is side (2 ^ side) (omega (arith, large)) refl

four_of : (side : ℕ) → 4 ≤ side → 2 ^ side ≡ 4 * (2 ^ side / 4)
four_of side large =
    let four = four_quarters side (omega (arith, large)) in
    let quarter = quarter_same side large in
    omega (arith, four, quarter)

pub cell_within : (side : ℕ) (c : Cell) → IsInWorld (2 ^ side / 4) c → IsInWorld (2 ^ side) c
cell_within side c i =
    record { x = omega (arith, i.x); y = omega (arith, i.y); z = omega (arith, i.z) }

pub cell_quarter : (side : ℕ) (c : Cell) → 4 ≤ side → IsInWorld (2 ^ side / 4) c
    → IsInWorld (2 ^ (side - 2)) c
cell_quarter side c large i = subst (λ (n : ℕ). IsInWorld n c) (quarter_same side large) i

pub box_within : (side : ℕ) (b : Boxed) → FitsAt b.at b.size (2 ^ side / 4)
    → FitsAt b.at b.size (2 ^ side)
box_within side b f = record {
  x = (f.x.0, omega (arith, f.x.1));
  y = (f.y.0, omega (arith, f.y.1));
  z = (f.z.0, omega (arith, f.z.1));
}

module _ (held : List Tree) (side : ℕ) (root : Option Name) (large : 4 ≤ side) where
  -- the cells of the root are those of the world
  cells_same : (stored w : World) (t : Tints) (s : ShowsWorld held (side - 2) root stored)
      → StoresTints (2 ^ side / 4) t stored
      → ((c : Cell) → IsInWorld (2 ^ side / 4) c → tells 0 (t c) ≡ w c)
      → SameWorld (2 ^ side / 4) (cells_of (side - 2) (shape_of s.tree)) w
  cells_same stored w t s keeps set =
      here (2 ^ side / 4) (2 ^ side) (four_of side large) (cells_of (side - 2) (shape_of s.tree))
      stored w t (root_same held side root stored s) keeps set

  pub get_tinted : (c : Cell) (set : Bool) → IsInWorld (2 ^ side / 4) c
      → ForWorld held side root (λ cells. set ≡ cells c)
      → AnswersByTints held side root (Get c) (answers.Is set)
  get_tinted c set inside told stored w t s keeps small tells =
      is c set (sym ((cells_same stored w t s keeps tells).each c inside)
      ∙ sym (told s.tree (root_block held side root stored s)))

  pub colour_tinted : (c : Cell) (tint : ℕ) → IsInWorld (2 ^ side / 4) c
      → ForWorld held side root (λ cells. tint ≡ tint_in (2 ^ (side - 2)) cells c)
      → AnswersByTints held side root (Colour c) (answers.Colour tint)
  colour_tinted c tint inside told stored w t s keeps small tells =
      let n : ℕ = 2 ^ side / 4 in
      let cells : World = cells_of (side - 2) (shape_of s.tree) in
      let kept = kept_here n (2 ^ side) (four_of side large) cells stored w t
      (root_same held side root stored s) keeps tells in
      colour c tint (sym (stored_tint n t cells c kept inside (small c inside))
      ∙ ap (λ (m : ℕ). tint_in m cells c) (quarter_same side large)
      ∙ sym (told s.tree (root_block held side root stored s)))

  pub count_tinted : (b : Boxed) (number : ℕ) → FitsAt b.at b.size (2 ^ side / 4)
      → ForWorld held side root (λ cells. number ≡ number_in b cells)
      → AnswersByTints held side root (Count b) (answers.Count number)
  count_tinted b number fits told stored w t s keeps small tells =
      let same = cells_same stored w t s keeps tells in
      count b number (told s.tree (root_block held side root stored s)
      ∙ number_same (2 ^ side / 4)
      (cells_of (side - 2) (shape_of s.tree)) w same b _ _ fits same.each)

  pub bounds_tinted : (least : Option Boxed)
      → ForWorld held side root (λ cells. IsExtent (2 ^ (side - 2)) cells least)
      → AnswersByTints held side root Bounds (answers.Extent least)
  bounds_tinted least told stored w t s keeps small tells =
      let cells : World = cells_of (side - 2) (shape_of s.tree) in
      extent least (extent_same (2 ^ side / 4) cells w (cells_same stored w t s keeps tells) least
      (subst (λ (n : ℕ). IsExtent n cells least) (sym (quarter_same side large))
      (told s.tree (root_block held side root stored s))))

  pub faces_tinted : (b : Boxed) (number : ℕ) → FitsAt b.at b.size (2 ^ side / 4)
      → ForWorld held side root (λ cells. number ≡ faces_in (2 ^ side) cells b)
      → AnswersByTints held side root (Faces b) (answers.Faces number)
  faces_tinted b number fits told stored w t s keeps small tells =
      faces b number (told s.tree (root_block held side root stored s)
      ∙ faces_here (2 ^ side / 4) (2 ^ side) (four_of side large)
      (cells_of (side - 2) (shape_of s.tree)) stored w t (root_same held side root stored s) keeps
      tells b fits)

  pub ray_tinted : (from : Cell) (h : Heading) (found : Option Cell)
      → ForWorld held side root (λ cells. Hits from h (2 ^ (side - 2)) cells found)
      → AnswersByTints held side root (Ray from h) (answers.Hit found)
  ray_tinted from h found told stored w t s keeps small tells =
      let cells : World = cells_of (side - 2) (shape_of s.tree) in
      hit from h found
      (hits_same (2 ^ side / 4) cells w (cells_same stored w t s keeps tells) from h
      found (subst (λ (n : ℕ). Hits from h n cells found) (sym (quarter_same side large))
      (told s.tree (root_block held side root stored s))))
