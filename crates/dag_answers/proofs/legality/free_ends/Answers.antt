use Rattle.std.specs.Prelude.{Result, Ok, Err, IfOk}
use Rattle.dag_answers.proofs.legality.free_ends.Goals as goal

if_ok : {A E : Type 0} {P Q : A → Type 0} (r : Result A E) → ((a : A) → P a → Q a) → IfOk r P
    → IfOk r Q
if_ok (Ok a) h p = h a p
if_ok (Err e) h p = tt

pub returns : goal.returns
returns c =
    if_ok c.vec.result (λ ends filled. filled (λ n is. is)) c.vec.ensures.items_if_clones_equal
