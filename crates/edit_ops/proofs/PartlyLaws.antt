-- The blocks of the world that a box meets in part, counted by clips and by places.
use Rattle.std.proofs.Common.{◌≡◌, ℕ, zero, suc, min, ◌+◌, ◌-◌, ◌*◌, ◌^◌, ◌<◌, ◌≤◌, Bool, true, false, Option, refl, sym, ◌∙◌, ap, subst, arith}
use native.Mathlib.Nat.{pow-suc}
use Rattle.std.specs.Prelude.{◌&&◌, not, Result, OnOk}
use Rattle.std.proofs.lemmas.Bool.{and_parts, and_from, leb-true, ltb-true, le-leb, lt-ltb}
use Rattle.vw_cell.specs.declared.cells.Cell.{Cell}
use Rattle.vw_cell.specs.declared.boxes.Boxed.{Boxed}
use Rattle.node_words.specs.declared.shapes.names.Name.{Name}
use Rattle.node_words.specs.declared.shares.Full.{Full}
use Rattle.node_words.specs.Sums.{one_if, sum_below-same}
use Rattle.vw_cell.specs.Counts.{cell_at}
use Rattle.vw_cell.specs.Places.{block_side, half_x, half_y, half_z, FitsAt}
use Rattle.node_words.proofs.OfShapes.ShapeLaws.{block_side-suc, block_side_some, halves}
use Rattle.node_words.specs.descent.Parts.{half_at, half_size, part_in}
use Rattle.edit_ops.specs.Boxes.{touches_first, covers_first, is_partly, parts_met}
use Rattle.edit_ops.specs.Partly.{touches_at, covers_at, is_partly_at, corner, blocks_partly}

-- where the part of a stretch in the `side` numbers from `at` on begins and ends, counted from `at`
abbrev clip_from : ℕ → ℕ → ℕ → ℕ → ℕ
clip_from low size at side = min (low - at) side

abbrev clip_to : ℕ → ℕ → ℕ → ℕ → ℕ
clip_to low size at side = min (low + size - at) side

at_half : (low size at s h : ℕ) → h < 2
    → half_at s h (clip_from low size at (2 * s)) ≡ clip_from low size (at + h * s) s
at_half low size at s zero lt = omega arith
at_half low size at s (suc zero) lt = omega arith
at_half low size at s (suc (suc h)) lt = absurd (omega arith)

to_half : (low size at s h : ℕ) → h < 2
    → half_at s h (clip_to low size at (2 * s)) ≡ clip_to low size (at + h * s) s
to_half low size at s zero lt = omega arith
to_half low size at s (suc zero) lt = omega arith
to_half low size at s (suc (suc h)) lt = absurd (omega arith)

ends_at : (low size at s : ℕ)
    → clip_from low size at s +
    (clip_to low size at s - clip_from low size at s) ≡ clip_to low size at s
ends_at low size at s = omega arith

both : (a b c d : ℕ) → a ≡ c → b ≡ d → a - b ≡ c - d
both a b c d p q = rw (p, q) refl

size_half : (low size at s h : ℕ) → h < 2
    → half_size s h (clip_from low size at (2 * s))
    (clip_to low size at (2 * s) - clip_from low size at (2 * s)) ≡ clip_to low size
    (at + h * s) s - clip_from low size (at + h * s) s
size_half low size at s h lt =
    both _ _ _ _ (ap (half_at s h) (ends_at low size at (2 * s)) ∙ to_half low size at s h lt)
    (at_half low size at s h lt)

boxed : (x y z u v w : ℕ) → Boxed
boxed x y z u v w = record { at = cell_at x y z; size = cell_at u v w }

boxed_same : (x y z u v w x' y' z' u' v' w' : ℕ) → x ≡ x' → y ≡ y' → z ≡ z' → u ≡ u' → v ≡ v'
    → w ≡ w' → boxed x y z u v w ≡ boxed x' y' z' u' v' w'
boxed_same x y z u v w x' y' z' u' v' w' a b c d e f = rw (a, b, c, d, e, f) refl

-- the part of the box in `side` cells from a place on, counted from there
cut_to : Boxed → ℕ → Cell → Boxed
cut_to b side at =
    boxed (clip_from b.at.x b.size.x at.x side) (clip_from b.at.y b.size.y at.y side)
    (clip_from b.at.z b.size.z at.z side)
    (clip_to b.at.x b.size.x at.x side - clip_from b.at.x b.size.x at.x side)
    (clip_to b.at.y b.size.y at.y side - clip_from b.at.y b.size.y at.y side)
    (clip_to b.at.z b.size.z at.z side - clip_from b.at.z b.size.z at.z side)

cut_half : (level : ℕ) (b : Boxed) (at : Cell) (k : ℕ) → k < 8
    → part_in (block_side level) (cut_to b (2 * block_side level) at) k ≡ cut_to b
    (block_side level) (corner level at k)
unfolding cut_to boxed
cut_half level b at k lt =
    let s : ℕ = block_side level in
    let h = halves k lt in
    boxed_same _ _ _ _ _ _ _ _ _ _ _ _
    (at_half b.at.x b.size.x at.x s (half_x k) h.x) (at_half b.at.y b.size.y at.y s (half_y k) h.y)
    (at_half b.at.z b.size.z at.z s (half_z k) h.z)
    (size_half b.at.x b.size.x at.x s (half_x k) h.x)
    (size_half b.at.y b.size.y at.y s (half_y k) h.y)
    (size_half b.at.z b.size.z at.z s (half_z k) h.z)

same_test : (a b : Bool) → (a ≡ true → b ≡ true) → (b ≡ true → a ≡ true) → a ≡ b
same_test true b f h = sym (f refl)
same_test false true f h = h refl
same_test false false f h = refl

touches_same : (low size at s : ℕ) → 1 ≤ s
    → touches_first (clip_from low size at s)
    (clip_to low size at s - clip_from low size at s) s ≡ touches_at low size at s
touches_same low size at s one = same_test _ _
    (λ e. let p = and_parts _ _ e in
    let a : 1 ≤ clip_to low size at s - clip_from low size at s = leb-true _ _ p.0 in
    let b : clip_from low size at s < s = ltb-true _ _ p.1 in
    and_from _ _
    (and_from _ _ (le-leb 1 size (omega arith)) (lt-ltb at (low + size) (omega arith)))
    (lt-ltb low (at + s) (omega arith)))
    (λ e. let p = and_parts _ _ e in let q = and_parts _ _ p.0 in
    let a : 1 ≤ size = leb-true _ _ q.0 in
    let b : at < low + size = ltb-true _ _ q.1 in
    let c : low < at + s = ltb-true _ _ p.1 in
    and_from _ _ (le-leb 1 (clip_to low size at s - clip_from low size at s) (omega arith))
    (lt-ltb (clip_from low size at s) s (omega arith)))

covers_same : (low size at s : ℕ) → 1 ≤ s
    → covers_first (clip_from low size at s)
    (clip_to low size at s - clip_from low size at s) s ≡ covers_at low size at s
covers_same low size at s one = same_test _ _
    (λ e. let p = and_parts _ _ e in
    let a : clip_from low size at s ≤ 0 = leb-true _ _ p.0 in
    let b : s ≤ clip_from low size at s + (clip_to low size at s - clip_from low size at s) =
    leb-true _ _ p.1 in
    and_from _ _ (le-leb low at (omega arith)) (le-leb (at + s) (low + size) (omega arith)))
    (λ e. let p = and_parts _ _ e in
    let a : low ≤ at = leb-true _ _ p.0 in
    let b : at + s ≤ low + size = leb-true _ _ p.1 in
    and_from _ _ (le-leb (clip_from low size at s) 0 (omega arith))
    (le-leb s (clip_from low size at s + (clip_to low size at s - clip_from low size at s))
    (omega arith)))

six : (a b c d e f a' b' c' d' e' f' : Bool) → a ≡ a' → b ≡ b' → c ≡ c' → d ≡ d' → e ≡ e' → f ≡ f'
    → (a && b && c && not (d && e && f)) ≡ (a' && b' && c' && not (d' && e' && f'))
six a b c d e f a' b' c' d' e' f' p q r s t u = rw (p, q, r, s, t, u) refl

partly_same : (level : ℕ) (b : Boxed) (at : Cell)
    → is_partly level (cut_to b (block_side level) at) ≡ is_partly_at b
    (record { level = level; at = at })
unfolding cut_to boxed
partly_same level b at =
    let s : ℕ = block_side level in
    let one = block_side_some level in
    six _ _ _ _ _ _ _ _ _ _ _ _ (touches_same b.at.x b.size.x at.x s one)
    (touches_same b.at.y b.size.y at.y s one) (touches_same b.at.z b.size.z at.z s one)
    (covers_same b.at.x b.size.x at.x s one) (covers_same b.at.y b.size.y at.y s one)
    (covers_same b.at.z b.size.z at.z s one)

parts_at : (level : ℕ) (b : Boxed) (at : Cell)
    → parts_met level (cut_to b (block_side level) at) ≡ blocks_partly level b at
unfolding parts_met blocks_partly
parts_at zero b at = ap one_if (partly_same 0 b at)
parts_at (suc level) b at =
    let twice = ap (λ (s : ℕ). cut_to b s at) (block_side-suc level) in
    plus _ _ _ _ (ap one_if (partly_same (suc level) b at)) (sum_below-same 8 _ _ (λ k lt.
    ap (λ (c : Boxed). parts_met level (part_in (block_side level) c k)) twice
    ∙ ap (parts_met level) (cut_half level b at k lt) ∙ parts_at level b (corner level at k)))
  where
    plus : (a b c d : ℕ) → a ≡ c → b ≡ d → a + b ≡ c + d
    plus a b c d p q = rw (p, q) refl

-- a box that fits is its own part of the world
cut_fits : (side : ℕ) (b : Boxed) → FitsAt b.at b.size side → cut_to b side (cell_at 0 0 0) ≡ b
unfolding cut_to boxed
cut_fits side b f =
    let x = f.x in let y = f.y in let z = f.z in
    boxed_same _ _ _ _ _ _ b.at.x b.at.y b.at.z b.size.x b.size.y b.size.z (omega arith)
    (omega arith) (omega arith) (omega arith) (omega arith) (omega arith)

-- the mixed blocks of the world are those that the box meets without holding them
pub parts_world : (level : ℕ) (b : Boxed) → FitsAt b.at b.size (block_side level)
    → parts_met level b ≡ blocks_partly level b (cell_at 0 0 0)
parts_world level b f =
    ap (parts_met level) (sym (cut_fits (block_side level) b f)) ∙ parts_at level b (cell_at 0 0 0)

side_exact : (side : ℕ) → 2 ≤ side → 2 ^ side ≡ block_side (side - 2)
side_exact side h =
    let e : side ≡ suc (suc (side - 2)) = omega arith in ap (λ (n : ℕ). 2 ^ n) e
    ∙ four_times (side - 2)
  where
    four_times : (n : ℕ) → 2 ^ suc (suc n) ≡ 4 * 2 ^ n
    four_times n = let a : 2 ^ suc (suc n) ≡ 2 ^ suc n * 2 = pow-suc 2 (suc n) in let b : 2 ^ suc n
        ≡ 2 ^ n * 2 = pow-suc 2 n in omega (arith, a, b)

pub world_parts : (side : ℕ) (b : Boxed) → 2 ≤ side → FitsAt b.at b.size (2 ^ side)
    → parts_met (side - 2) b ≡ blocks_partly (side - 2) b (cell_at 0 0 0)
world_parts side b h f =
    parts_world (side - 2) b (subst (λ (n : ℕ). FitsAt b.at b.size n) (side_exact side h) f)

-- turns that are counted by one are counted by the other
pub turns_partly : (result : Result (Option Name) Full) (parts partly old new more : ℕ)
    → parts ≡ partly → OnOk result (new ≤ old + 25 * parts + more)
    → OnOk result (new ≤ old + 25 * partly + more)
turns_partly result parts partly old new more e h =
    subst (λ (n : ℕ). OnOk result (new ≤ old + 25 * n + more)) e h
