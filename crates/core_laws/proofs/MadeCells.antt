-- The cells of the version that a record makes.
use Rattle.std.proofs.Common.{ℕ, ◌+◌, sym, ◌∙◌, ap, inl, inr, List, [], ◌∷◌, ◌++◌, length}
use Rattle.std.proofs.lemmas.Bool.{cases_Bool}
use Rattle.core_laws.specs.HistoryModelContents.{Content}
use Rattle.core_laws.specs.Record.{Record}
use Rattle.core_laws.specs.Worlds.{World, is_edit}
use Rattle.core_laws.specs.Positions.{Position}
use Rattle.core_laws.specs.Stores.{stored_in}
use Rattle.core_laws.specs.StoreLaws.{stored_of_edit, stored_of_other}
use Rattle.core_laws.specs.Laws.{position_of_next}
use Rattle.core_laws.specs.contents.Versions.{SameWorld}
use Rattle.core_laws.specs.Making.{Makes}

-- the version of the next record has the cells that its act makes
pub made_cells : (side : ℕ) (models : List Content) (records : List Record) (r : Record)
    (cells : World) → Makes side models records r.act cells
    → SameWorld side (stored_in side models (records ++ r ∷ []) (length records + 1)) cells
made_cells side models records r cells makes = elim (cases_Bool (is_edit r.act)) [
  | inl edit ↦
      record {
        each = λ q in_world. stored_of_edit side models records r q edit
            ∙ sym ((makes.edit edit).each q in_world);
      }
  | inr other ↦ record {
    each = λ q in_world.
        stored_of_other side models records r q other
        ∙ ap (λ (at : Position). stored_in side models records at.now q)
        (position_of_next records r)
        ∙ sym ((makes.other other).each q in_world);
  }
]
