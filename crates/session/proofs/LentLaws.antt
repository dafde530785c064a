-- What an edit says of a hand, it says of the session that was lent.
use Rattle.std.proofs.Common.{◌≡◌, ℕ, subst, sym}
use Rattle.node_words.specs.Held.{StoreState}

-- the hand was begun with the session, left it at the end, and is of this side
pub lent : (P : ℕ → StoreState → StoreState → Type 0) (side level : ℕ) (old begun left new : StoreState)
    → begun ≡ old → new ≡ left → level ≡ side → P level begun left → P side old new
lent P side level old begun left new was is of h =
    subst (λ n. P n old new) of
    (subst (λ s. P level s new) was (subst (λ t. P level begun t) (sym is) h))
