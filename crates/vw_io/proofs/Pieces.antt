-- A piece that was read or written after others.
use Rattle.std.proofs.Common.{◌≡◌, ℕ, ◌+◌, ◌-◌, List, ◌++◌, Option, length, take, drop, sym, ap, subst, ◌∙◌, arith, take_all, length-drop}
use Rattle.std.proofs.Math.Seq.{take-add}
use Rattle.std.proofs.KnownBytes.{Consumes-trans, Appends-trans}
use Rattle.std.specs.Io.KnownBytes.{Consumes, Appends}

-- the first n bytes were read, and then m more after them
pub piece_read : (a b c : Option (List ℕ)) (xs ys : List ℕ) (n m : ℕ) → take n ys ≡ take n xs
    → Consumes a b (take n xs) → Consumes b c (take m (drop n ys)) → Consumes a c (take (n + m) ys)
piece_read a b c xs ys n m front before read =
    subst (Consumes a c) (sym (take-add n m ys ∙ ap (λ part. part ++ take m (drop n ys)) front))
    (Consumes-trans a b c _ _ before read)

-- the first n bytes were written, and then m more from what was left
pub piece_written : (a b c : Option (List ℕ)) (bytes : List ℕ) (n m : ℕ)
    → Appends a b (take n bytes) → Appends b c (take m (take (length bytes - n) (drop n bytes)))
    → Appends a c (take (n + m) bytes)
piece_written a b c bytes n m before written =
    let left : take (length bytes - n) (drop n bytes) ≡ drop n bytes =
    take_all _ (drop n bytes) (omega (arith, length-drop n bytes)) in
    subst (Appends a c)
    (sym (take-add n m bytes ∙ ap (λ part. take n bytes ++ take m part) (sym left)))
    (Appends-trans a b c _ _ before written)
