-- One more line of a text.
use Rattle.std.proofs.Common.{◌≡◌, ℕ, ◌+◌, ◌<◌, List, [], ◌∷◌, ◌++◌, length, take, get_or, refl, ap, sym, ◌∙◌, arith, append_assoc, append-nil}
use Rattle.std.proofs.lemmas.List.{take_more, length-take-le}
use Rattle.report.specs.Reports.{level_line, level_lines}

lines_push : (n : ℕ) (numbers : List ℕ) (k : ℕ)
    → level_lines n (numbers ++ k ∷ []) ≡ level_lines n numbers ++ level_line (n + length numbers) k
lines_push n [] k = let same : n + 0 ≡ n = omega arith in rw (append-nil, same) refl
lines_push n (m ∷ more) k =
    let number : (n + 1) + length more ≡ n + length (m ∷ more) = omega arith in
    rw (lines_push (n + 1) more k, number)
    (sym (append_assoc (level_line n m) (level_lines (n + 1) more)
    (level_line (n + length (m ∷ more)) k)))

-- the text after one more level's line
pub levels_step : (before after start numbers : List ℕ) (i d : ℕ) → i < length numbers
    → before ≡ start ++ level_lines 0 (take i numbers)
    → after ≡ before ++ level_line i (get_or numbers i d)
    → after ≡ start ++ level_lines 0 (take (i + 1) numbers)
levels_step before after start numbers i d lt so_far line =
    let short : length (take i numbers) ≡ i = length-take-le i numbers (omega arith) in
    let number : 0 + length (take i numbers) ≡ i = omega arith in
    let more : level_lines 0 (take (i + 1) numbers) ≡ level_lines 0 (take i numbers) ++ level_line i (get_or numbers i d) =
    ap (level_lines 0) (take_more numbers i d lt)
    ∙ lines_push 0 (take i numbers) (get_or numbers i d)
    ∙ ap (λ (n : ℕ). level_lines 0 (take i numbers) ++ level_line n (get_or numbers i d)) number
    in
    line ∙ ap (λ (xs : List ℕ). xs ++ level_line i (get_or numbers i d)) so_far
    ∙ append_assoc start (level_lines 0 (take i numbers)) (level_line i (get_or numbers i d))
    ∙ ap (λ (xs : List ℕ). start ++ xs) (sym more)
