-- The position after one more record.
use Rattle.std.proofs.Common.{◌≡◌, ℕ, ◌+◌, List, [], ◌∷◌, ◌++◌, length, ap, ◌∙◌, arith}
use Rattle.history_model.specs.declared.histories.Record.{Record}
use Rattle.history_model.specs.Positions.{Position, next_position, position_from, position_after, beginning}

position_push : (n : ℕ) (before : Position) (records : List Record) (r : Record)
    → position_from n before (records ++ r ∷ [])
    ≡ next_position (n + length records) r.act (position_from n before records)
position_push n before [] r =
    let e : n ≡ n + 0 = omega arith in ap (λ (k : ℕ). next_position k r.act before) e
position_push n before (x ∷ records) r =
    let e : n + 1 + length records ≡ n + length (x ∷ records) = omega arith in
    position_push (n + 1) (next_position n x.act before) records r
    ∙ ap (λ (k : ℕ). next_position k r.act
    (position_from (n + 1) (next_position n x.act before) records)) e

pub position_next : (records : List Record) (r : Record)
    → position_after (records ++ r ∷ [])
    ≡ next_position (length records + 1) r.act (position_after records)
position_next records r =
    let e : 1 + length records ≡ length records + 1 = omega arith in
    position_push 1 beginning records r
    ∙ ap (λ (k : ℕ). next_position k r.act (position_after records)) e
