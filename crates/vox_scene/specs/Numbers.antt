-- Numbers as a scene's texts spell them.
use Rattle.std.specs.Prelude.{ℕ, zero, suc, ◌+◌, ◌-◌, ◌*◌, ◌&&◌, ◌==◌, Bool, true, false, ℤ, pos, negsuc, List, [], ◌∷◌, length, Option, Some, None, nat_le, if◌then◌else◌}

abbrev pub is_digit_byte : ℕ → Bool
is_digit_byte b = nat_le 48 b && nat_le b 57

-- the number whose first digits make n and whose further ones are these
unfoldable pub digits_onto : ℕ → List ℕ → Option ℕ
digits_onto n [] = Some n
digits_onto n (b ∷ rest) = if is_digit_byte b then digits_onto (10 * n + (b - 48)) rest else None

-- a number of at least one digit, and at most so many; it may begin with zeros
abbrev pub digits_in : ℕ → List ℕ → Option ℕ
digits_in most text =
    if nat_le 1 (length text) && nat_le (length text) most then digits_onto 0 text else None

-- a number of this size, below 0 or not
abbrev pub signed_number : Bool → ℕ → ℤ
signed_number true zero = pos 0
signed_number true (suc n) = negsuc n
signed_number false n = pos n

abbrev pub with_sign : Bool → Option ℕ → Option ℤ
with_sign below None = None
with_sign below (Some n) = Some (signed_number below n)

abbrev pub begins_below : List ℕ → Bool
begins_below [] = false
begins_below (b ∷ rest) = b == 45

abbrev pub behind_sign : List ℕ → List ℕ
behind_sign [] = []
behind_sign (b ∷ rest) = if b == 45 then rest else b ∷ rest

-- a number of 1 to 6 digits, before which a `-` may stand
abbrev pub signed_in : List ℕ → Option ℤ
signed_in text = with_sign (begins_below text) (digits_in 6 (behind_sign text))
