-- An ending that holds its line.
use Rattle.std.proofs.Common.{ℕ, List, inl, sym, subst}
use Rattle.vw_io.specs.Outside.{SinkState}
use Rattle.voxdag_top.specs.declared.endings.Ending.{Ending}
use Rattle.voxdag_top.specs.Endings.{HoldsOwnLine, ending_line}
use Rattle.voxdag_top.specs.Finishing.{Finishes, PutEnds}
use Rattle.voxdag_top.specs.Numbers.{Status, FailedOutput, status_number}

pub held_finishes : (e : Ending) (line : List ℕ) (old new : SinkState) (result : ℕ)
    → HoldsOwnLine e line → PutEnds line (status_number FailedOutput) old new result
    → Finishes e old new result
held_finishes e line old new result holds ends =
    inl (subst (λ (s : Status). PutEnds (ending_line e) (status_number s) old new result)
    (sym holds.status)
    (subst (λ (l : List ℕ). PutEnds l (status_number FailedOutput) old new result) holds.is ends))
