-- Workers that all ran.
use Rattle.std.proofs.Common.{◌≡◌, ◌<◌, List, [], ◌∷◌, ◌++◌, length, subst, sym, arith}
use Rattle.std.specs.Prelude.{All}
use Rattle.std.proofs.lemmas.List.Elements.{All-push}
use Rattle.gate_run.specs.Runs.{RanEach}

-- what each run leaves of its worker holds of all
pub all_after : {W : Type 0} (P : W → Type 0) (before after : List W)
    → RanEach (λ (old : W) (new : W). P new) before after → All P after
all_after P before after ran = λ k d lt.
    let there : k < length before = (let same = ran.number in omega arith) in
    ran.each k d there

pub all_more : {W : Type 0} (P : W → Type 0) (before after : List W) (w : W)
    → after ≡ before ++ w ∷ [] → All P before → P w → All P after
all_more {W} P before after w is all one =
    subst (λ (ws : List W). All P ws) (sym is) (All-push P before w all one)
