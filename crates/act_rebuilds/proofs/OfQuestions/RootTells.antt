-- What is told of a root's cells is told of each world that the root shows.
use Rattle.std.proofs.Common.{◌≡◌, ℕ, zero, suc, ◌-◌, ◌^◌, ◌≤◌, Bool, Option, List, sym, ◌∙◌, ap, arith}
use Rattle.vw_cell.specs.declared.cells.Cell.{Cell}
use Rattle.vw_cell.specs.declared.boxes.Boxed.{Boxed}
use Rattle.vw_cell.specs.Counts.{number_in}
use Rattle.vw_cell.specs.Sums.{one_if}
use Rattle.vw_cell.specs.Places.{IsInWorld, IsInBlock, FitsAt, block_side}
use Rattle.node_words.specs.declared.shapes.names.Name.{Name}
use Rattle.node_words.specs.shapes.Shape.{has}
use Rattle.node_words.specs.shapes.Tree.{Tree, shape_of}
use Rattle.node_words.proofs.HeldLaws.{held_reached}
use Rattle.node_words.specs.descent.Roots.{IsBlockOf, ForWorld, cells_of}
use Rattle.node_words.proofs.OfDescent.LookLaws.{root_side}
use Rattle.edit_walk.specs.cells.Worlds.{ShowsWorld, block_at_origin}
use Rattle.vw_cell.specs.Faces.{faces_in}
use Rattle.vw_cell.specs.Extents.{IsExtent}
use Rattle.history_model.specs.Rays.{Hits}
use Rattle.history_model.specs.Ways.{Heading}
use Rattle.history_model.specs.Worlds.{World}
use Rattle.history_model.specs.declared.questions.Question.TheVariants.{Get, Colour, Count, Bounds, Faces, Ray}
use Rattle.one_store.specs.Versions.{SameWorld}
use Rattle.transcript.specs.declared.answers.Answer.TheVariants as answers
use Rattle.conformance.specs.QuestionAnswers.{is, colour, count, faces, extent, hit}
use Rattle.act_rebuilds.specs.questions.AnswersByRoots.{AnswersByRoot}
use Rattle.act_rebuilds.proofs.OfQuestions.SameTells.{number_same, faces_same, extent_same, hits_same}

-- the world lies in the block of its root
world_within : (side : ℕ) → 2 ^ side ≤ block_side (side - 2)
world_within zero = omega arith
world_within (suc zero) = omega arith
world_within (suc (suc n)) =
    (let same : 2 ^ (suc (suc n))
    ≡ block_side n = root_side n (suc (suc n)) (omega arith) (omega arith) in let level : suc
    (suc n) - 2 ≡ n = omega arith in let sides : block_side (suc (suc n) - 2)
    ≡ block_side n = ap block_side level in omega arith)

module _ (held : List Tree) (side : ℕ) (root : Option Name) where
  pub root_block : (w : World) (s : ShowsWorld held (side - 2) root w)
      → IsBlockOf held (side - 2) root s.tree
  root_block w s =
      record {
        root = s.is_root.root;
        reached = λ n e. held_reached held s.tree
            (s.is_root.is_held n e);
        of_level = s.is_root.at;
      }

  from_origin : (x : ℕ) → x - 0 ≡ x
  from_origin x = omega arith

  -- the cells of the root are those of a world that it shows
  pub root_same : (w : World) (s : ShowsWorld held (side - 2) root w)
      → SameWorld (2 ^ side) (cells_of (side - 2) (shape_of s.tree)) w
  root_same w s = record {
    each = λ q i.
        let x = i.x in let y = i.y in let z = i.z in
        let wide : 2 ^ side ≤ block_side (side - 2) = world_within side in
        let there : IsInBlock (block_at_origin (side - 2)) q =
        record {
          x = (omega arith, omega arith);
          y = (omega arith, omega arith);
          z =
              (omega arith, omega arith);
        } in
        (λ t. has (side - 2) (shape_of s.tree) (sym (from_origin q.x) t) (sym (from_origin q.y) t)
        (sym (from_origin q.z) t)) ∙ s.shows.each q there;
  }

  pub get_told : (c : Cell) (set : Bool) → IsInWorld (2 ^ side) c
      → ForWorld held side root (λ cells. set ≡ cells c)
      → AnswersByRoot held side root (Get c) (answers.Is set)
  get_told c set inside told w t s ones = is c set
      (sym ((root_same w s).each c inside) ∙ sym (told s.tree (root_block w s)))

  pub colour_told : (c : Cell) (set : Bool) → IsInWorld (2 ^ side) c
      → ForWorld held side root (λ cells. set ≡ cells c)
      → AnswersByRoot held side root (Colour c) (answers.Colour (one_if set))
  colour_told c set inside told w t s ones = colour c (one_if set)
      (ones c inside
      ∙ ap one_if (sym ((root_same w s).each c inside) ∙ sym (told s.tree (root_block w s))))

  pub count_told : (b : Boxed) (number : ℕ) → FitsAt b.at b.size (2 ^ side)
      → ForWorld held side root (λ cells. number ≡ number_in b cells)
      → AnswersByRoot held side root (Count b) (answers.Count number)
  count_told b number fits told w t s ones = count b number
      (told s.tree (root_block w s)
      ∙ number_same (2 ^ side) (cells_of (side - 2) (shape_of s.tree)) w
      (root_same w s) b _ _ fits (root_same w s).each)

  pub bounds_told : (least : Option Boxed)
      → ForWorld held side root (λ cells. IsExtent (2 ^ side) cells least)
      → AnswersByRoot held side root Bounds (answers.Extent least)
  bounds_told least told w t s ones = extent least
      (extent_same (2 ^ side) (cells_of (side - 2) (shape_of s.tree)) w (root_same w s) least
      (told s.tree (root_block w s)))

  pub faces_told : (b : Boxed) (number : ℕ) → FitsAt b.at b.size (2 ^ side)
      → ForWorld held side root (λ cells. number ≡ faces_in (2 ^ side) cells b)
      → AnswersByRoot held side root (Faces b) (answers.Faces number)
  faces_told b number fits told w t s ones = faces b number
      (told s.tree (root_block w s)
      ∙ faces_same (2 ^ side) (cells_of (side - 2) (shape_of s.tree)) w (root_same w s) b fits)

  pub ray_told : (from : Cell) (h : Heading) (found : Option Cell)
      → ForWorld held side root (λ cells. Hits from h (2 ^ side) cells found)
      → AnswersByRoot held side root (Ray from h) (answers.Hit found)
  ray_told from h found told w t s ones = hit from h found
      (hits_same (2 ^ side) (cells_of (side - 2) (shape_of s.tree)) w (root_same w s) from h found
      (told s.tree (root_block w s)))
