use Rattle.std.proofs.Common.{◌≡◌, ℕ, subst, arith}
use Rattle.std.specs.List.{Contains}
use Rattle.version_log.proofs.laws.sessions_alone_are_never_busy.Goals as goal

pub returns : goal.returns
returns c = λ base root back v w own told.
    told.1.not_own (subst (λ (n : ℕ). Contains v.numbers n)
    (let same : 0 ≡ told.1.other = (let begun = told.1.begun in omega arith) in same) own)
