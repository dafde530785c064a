use Rattle.std.proofs.Common.{◌≡◌, Some, None, Option, refl}
use Rattle.std.specs.Prelude.{Result, Ok, Err, IfOk}
use Rattle.node_words.specs.declared.shapes.names.Name.{Name}
use Rattle.world_core.proofs.parts.no_roots.Goals as goal

-- a copy of no name is no name
only_none : (R : Option Name → Type 0) → ((n : Name) → R (Some n) → ⊥) → (o : Option Name) → R o
    → o ≡ None
only_none R never None r = refl
only_none R never (Some n) r = absurd (never n r)

if_ok : {A E : Type 0} {P Q : A → Type 0} (r : Result A E) → ((a : A) → P a → Q a) → IfOk r P
    → IfOk r Q
if_ok (Ok a) h p = h a p
if_ok (Err e) h p = tt

pub returns : goal.returns
returns c =
    if_ok c.vec.result (λ v f. f (only_none _ (λ n h. h))) c.vec.ensures.items_if_clones_equal
