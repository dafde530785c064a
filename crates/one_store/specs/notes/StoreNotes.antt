-- What a store notes: the trees of the shares held, the shapes of the entries added, and what met a
-- full bucket.
use Rattle.std.specs.Prelude.{ℕ, List, [], refl}
use Rattle.std.specs.Coded.{Coded, code_by, coded×, coded_ℕ, coded_list}
use Rattle.node_words.specs.shapes.Shape.{Shape}
use Rattle.node_words.specs.shapes.ShapeCode.{coded_shape}
use Rattle.node_words.specs.shapes.Tree.{Tree}
use Rattle.node_words.specs.shapes.TreeCode.{coded_tree}
use Rattle.node_words.specs.Held.{Wanted}

pub record StoreNotes : Type 0 where
  pub held : List Tree
  pub made : List Shape
  pub met : List Wanted

abbrev pub no_notes : StoreNotes
no_notes = record { held = []; made = []; met = [] }

abbrev pub coded_wanted : Coded Wanted
coded_wanted =
    code_by (ℕ × (ℕ × Shape)) (coded× coded_ℕ (coded× coded_ℕ coded_shape))
    (λ w. (w.level, (w.bucket, w.shape)))
    (λ p. record { level = p.0; bucket = p.1.0; shape = p.1.1 }) (λ _. refl)

abbrev pub coded_notes : Coded StoreNotes
coded_notes =
    code_by (List Tree × (List Shape × List Wanted))
    (coded× (coded_list coded_tree) (coded× (coded_list coded_shape) (coded_list coded_wanted)))
    (λ t. (t.held, (t.made, t.met))) (λ p. record { held = p.0; made = p.1.0; met = p.1.1 })
    (λ _. refl)
