use Rattle.std.proofs.Common.{◌≡◌, ℕ, None, [], ◌∷◌, refl, inl}
use Rattle.node_words.specs.Held.{name_in}
use Rattle.edit_copy.proofs.SourceLaws.{each_of_eight}
use Rattle.edit_copy.proofs.copies.taken_in.Goals as goal

pub returns-then-is_empty-clause-sources : goal.returns-then-is_empty-clause-sources
returns-then-is_empty-clause-sources g c row are = inl (
  c.if-is_empty.ensures refl,
  each_of_eight
      (λ (j : ℕ). name_in (None ∷ None ∷ None ∷ None ∷ None ∷ None ∷ None ∷ None ∷ []) j ≡ None)
      refl refl refl refl refl refl refl refl,
)
