-- Cells that are joined by a way, from each cell to one beside it.
use Rattle.std.specs.Prelude.{◌≡◌, ℕ, ◌+◌, ◌⊎◌, List, [], ◌∷◌}
use Rattle.vw_cell.specs.declared.cells.Cell.{Cell}

-- two numbers that differ by 1
abbrev pub AreNext : ℕ → ℕ → Type 0
AreNext a b = (b ≡ a + 1) ⊎ (a ≡ b + 1)

-- two places that differ by 1 on one axis alone
pub data AreBeside (a b : Cell) : Type 0 where
  on_x : AreNext a.x b.x → a.y ≡ b.y → a.z ≡ b.z → AreBeside a b
  on_y : a.x ≡ b.x → AreNext a.y b.y → a.z ≡ b.z → AreBeside a b
  on_z : a.x ≡ b.x → a.y ≡ b.y → AreNext a.z b.z → AreBeside a b

-- the list a, then `more`, ends with q; each of its cells is open, and each next one is beside the
-- one before
abbrev pub IsPath : (Cell → Type 0) → Cell → List Cell → Cell → Type 0
IsPath Open a [] q = Open a × (a ≡ q)
IsPath Open a (b ∷ more) q = Open a × AreBeside a b × IsPath Open b more q

-- there is such a list from a to q
pub record IsJoined (Open : Cell → Type 0) (a q : Cell) : Type 0 where
  pub more : List Cell
  pub way : IsPath Open a more q
