-- Numbers of cells: sums over the places below a size, and the laws that every count rests on.
use Rattle.std.specs.Prelude.{◌≡◌, ◌≢◌, ℕ, ◌+◌, ◌*◌, ◌<◌, ◌≤◌, Bool, false}
use Rattle.std.proofs.Common.{arith, ap}
use Rattle.vw_cell.specs.Sums.{sum_below, one_if, sum_below-same, sum_below-change, sum_below-le, sum_below-at, sum_below-none, one_if-le}
use Rattle.vw_cell.specs.declared.cells.Cell.{Cell}
use Rattle.vw_cell.specs.declared.boxes.Boxed.{Boxed}

abbrev pub cell_at : ℕ → ℕ → ℕ → Cell
cell_at x y z = record { x = x; y = y; z = z }

-- the number of places below a size, on each axis, for which the test holds
abbrev pub number_below : Cell → (Cell → Bool) → ℕ
number_below size test =
    sum_below size.z
    (λ z. sum_below size.y (λ y. sum_below size.x (λ x. one_if (test (cell_at x y z)))))

-- the number of cells of a box for which the test holds: the sum over its cells
abbrev pub number_in : Boxed → (Cell → Bool) → ℕ
number_in b test =
    number_below b.size (λ q. test (cell_at (b.at.x + q.x) (b.at.y + q.y) (b.at.z + q.z)))

-- the place lies below the size on each axis
pub record IsBelow (size c : Cell) : Type 0 where
  pub x : c.x < size.x
  pub y : c.y < size.y
  pub z : c.z < size.z

-- counts of cells: of equal tests, of tests that differ at one place, and their bound
pub number_below-same : (size : Cell) (p q : Cell → Bool)
    → ((c : Cell) → IsBelow size c → p c ≡ q c) → number_below size p ≡ number_below size q
number_below-same size p q same =
    sum_below-same size.z _ _ (λ z of_z. sum_below-same size.y _ _ (λ y of_y.
    sum_below-same size.x _ _ (λ x of_x.
    ap one_if (same (cell_at x y z) (record { x = of_x; y = of_y; z = of_z })))))

-- one row, one layer and the whole of a count
row : Cell → (Cell → Bool) → ℕ → ℕ → ℕ
row size test z y = sum_below size.x (λ x. one_if (test (cell_at x y z)))

layer : Cell → (Cell → Bool) → ℕ → ℕ
layer size test z = sum_below size.y (λ y. sum_below size.x (λ x. one_if (test (cell_at x y z))))

differs_at : {a b c x y z : ℕ} → (cell_at a b c ≡ cell_at x y z) → (a ≡ x) × (b ≡ y) × (c ≡ z)
differs_at e = (ap (λ (p : Cell). p.x) e, ap (λ (p : Cell). p.y) e, ap (λ (p : Cell). p.z) e)

pub number_below-change : (size at : Cell) (p q : Cell → Bool) → IsBelow size at
    → ((c : Cell) → IsBelow size c → c ≢ at → p c ≡ q c)
    → number_below size q + one_if (p at) ≡ number_below size p + one_if (q at)
unfolding row layer
number_below-change size at p q inside same =
    let in_row : row size q at.z at.y + one_if (p at) ≡ row size p at.z at.y + one_if (q at) =
    sum_below-change size.x at.x
    (λ x. one_if (p (cell_at x at.y at.z))) (λ x. one_if (q (cell_at x at.y at.z))) inside.x
    (λ x lt other.
    ap one_if (same (cell_at x at.y at.z) (record { x = lt; y = inside.y; z = inside.z })
    (λ e. other (differs_at e).0)))
    in
    let in_layer :
    layer size q at.z + row size p at.z at.y ≡ layer size p at.z + row size q at.z at.y =
    sum_below-change size.y at.y (row size p at.z) (row size q at.z) inside.y
    (λ y lt other. sum_below-same size.x _ _ (λ x of_x.
    ap one_if (same (cell_at x y at.z) (record { x = of_x; y = lt; z = inside.z })
    (λ e. other (differs_at e).1))))
    in
    let in_all : number_below size q + layer size p at.z ≡ number_below size p + layer size q at.z =
    sum_below-change size.z at.z (layer size p) (layer size q) inside.z
    (λ z lt other. sum_below-same size.y _ _ (λ y of_y. sum_below-same size.x _ _ (λ x of_x.
    ap one_if (same (cell_at x y z) (record { x = of_x; y = of_y; z = lt })
    (λ e. other (differs_at e).2)))))
    in
    omega (arith, in_row, in_layer, in_all)

pub number_below-le : (size : Cell) (test : Cell → Bool)
    → number_below size test ≤ size.z * (size.y * size.x)
number_below-le size test =
    sum_below-le size.z (size.y * size.x) _ (λ z _. sum_below-le size.y size.x _ (λ y _. (
    let terms = sum_below-le size.x 1 _ (λ x _. one_if-le (test (cell_at x y z))) in
    omega (arith, terms))))

-- a place for which the test holds is counted
pub number_below-at : (size at : Cell) (test : Cell → Bool) → IsBelow size at
    → one_if (test at) ≤ number_below size test
unfolding row layer
number_below-at size at test inside =
    let in_row : one_if (test at) ≤ row size test at.z at.y =
    sum_below-at size.x at.x (λ x. one_if (test (cell_at x at.y at.z))) inside.x
    in
    let in_layer : row size test at.z at.y ≤ layer size test at.z =
    sum_below-at size.y at.y (row size test at.z) inside.y
    in
    let in_all : layer size test at.z ≤ number_below size test =
    sum_below-at size.z at.z (layer size test) inside.z
    in
    omega (arith, in_row, in_layer, in_all)

-- where no place passes, none is counted
pub number_below-none : (size : Cell) (test : Cell → Bool) → ((c : Cell) → test c ≡ false)
    → number_below size test ≡ 0
number_below-none size test none =
    sum_below-none size.z _ (λ z. sum_below-none size.y _ (λ y. sum_below-none size.x _ (λ x.
    ap one_if (none (cell_at x y z)))))
