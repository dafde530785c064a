-- Numbers in decimal digits, in their one form.
use Rattle.std.specs.Prelude.{ℕ, ◌+◌, ◌-◌, ◌*◌, Bool, true, false, not, List, [], ◌∷◌, ◌==◌, nat_lt, Option, Some, None, if◌then◌else◌}
use Rattle.std.specs.Char.{is_ascii_digit}

-- a number below the bound
abbrev pub below : ℕ → ℕ → Option ℕ
below bound n = if nat_lt n bound then Some n else None

-- the number below the bound whose first digits make n and whose further ones are these
unfoldable pub number_from : ℕ → ℕ → List ℕ → Option ℕ
number_from bound n [] = below bound n
number_from bound n (b ∷ rest) =
    if is_ascii_digit b then number_from bound (n * 10 + (b - 48)) rest else None

-- there is a first byte, and it is 0 only where it stands alone
abbrev pub begins_exactly : List ℕ → Bool
begins_exactly [] = false
begins_exactly (b ∷ []) = true
begins_exactly (b ∷ _ ∷ _) = not (b == 48)

-- the number below the bound that a word spells in its one form
unfoldable pub exact : ℕ → List ℕ → Option ℕ
exact bound word = if begins_exactly word then number_from bound 0 word else None
