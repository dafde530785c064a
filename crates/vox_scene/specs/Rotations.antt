-- How a node turns and moves what stands below it.
use Rattle.std.specs.Prelude.{ℕ, ◌/◌, ◌%◌, ◌==◌, Bool, true, false, not, ℤ, pos, ◌+ℤ◌, ◌≤ℤ◌, List, [], ◌∷◌, Option, Some, None, nat_le, if◌then◌else◌}
use Rattle.std.proofs.Common.{neg_ℤ}
use Rattle.plain_text.specs.Parts.{words}
use Rattle.vox_scene.specs.declared.rotations.Axis.{Axis}
use Rattle.vox_scene.specs.declared.rotations.Axis.TheVariants.{X, Y, Z}
use Rattle.vox_scene.specs.declared.rotations.Row.{Row}
use Rattle.vox_scene.specs.declared.rotations.Rotation.{Rotation}
use Rattle.vox_scene.specs.declared.rotations.Vector.{Vector}
use Rattle.vox_scene.specs.declared.rotations.Pose.{Pose}
use Rattle.vox_scene.specs.Numbers.{digits_in, signed_in}

-- ---- a rotation is told by one number

abbrev pub axis_of : ℕ → Option Axis
axis_of n = if n == 0 then Some X else (if n == 1 then Some Y
    else (if n == 2 then Some Z else None))

-- the axis that two different ones leave
abbrev pub remaining : Axis → Axis → Option Axis
remaining X X = None
remaining X Y = Some Z
remaining X Z = Some Y
remaining Y X = Some Z
remaining Y Y = None
remaining Y Z = Some X
remaining Z X = Some Y
remaining Z Y = Some X
remaining Z Z = None

abbrev pub rows_of : ℕ → Axis → Axis → Option Axis → Option Rotation
rows_of bits first second None = None
rows_of bits first second (Some third) = Some (record {
  x = record { column = first; is_negative = bits / 16 % 2 == 1 };
  y = record { column = second; is_negative = bits / 32 % 2 == 1 };
  z = record { column = third; is_negative = bits / 64 % 2 == 1 };
})

abbrev pub with_columns : ℕ → Option Axis → Option Axis → Option Rotation
with_columns bits (Some first) (Some second) = rows_of bits first second (remaining first second)
with_columns bits first second = None

-- bits 0 and 1 are the column of the first row's entry, bits 2 and 3 that of the second row's; the
-- third row has the remaining column. Bits 4 to 6 are set where the entry is -1.
abbrev pub rotation_of_bits : ℕ → Option Rotation
rotation_of_bits bits = with_columns bits (axis_of (bits % 4)) (axis_of (bits / 4 % 4))

abbrev pub rotation_of_number : Option ℕ → Option Rotation
rotation_of_number None = None
rotation_of_number (Some bits) = if nat_le bits 255 then rotation_of_bits bits else None

abbrev pub no_rotation : Rotation
no_rotation = record {
  x = record { column = X; is_negative = false };
  y = record { column = Y; is_negative = false };
  z = record { column = Z; is_negative = false };
}

-- a text of 1 to 3 digits; without one nothing is turned
abbrev pub rotation_of_text : Option (List ℕ) → Option Rotation
rotation_of_text None = Some no_rotation
rotation_of_text (Some text) = rotation_of_number (digits_in 3 text)

-- ---- a move is told by three numbers

abbrev pub shift_with : Option ℤ → Option ℤ → Option ℤ → Option Vector
shift_with (Some x) (Some y) (Some z) = Some (record { x = x; y = y; z = z })
shift_with x y z = None

abbrev pub shift_by : List (List ℕ) → Option Vector
shift_by (x ∷ y ∷ z ∷ []) = shift_with (signed_in x) (signed_in y) (signed_in z)
shift_by other = None

abbrev pub zero_shift : Vector
zero_shift = record { x = pos 0; y = pos 0; z = pos 0 }

-- three words with single spaces between them; without a text nothing is moved
abbrev pub shift_of_text : Option (List ℕ) → Option Vector
shift_of_text None = Some zero_shift
shift_of_text (Some text) = shift_by (words text)

-- ---- what they do

abbrev pub signed_by : Bool → ℤ → ℤ
signed_by false d = d
signed_by true d = neg_ℤ d

abbrev pub entry_on : Axis → Vector → ℤ
entry_on X v = v.x
entry_on Y v = v.y
entry_on Z v = v.z

-- one entry of a turned column
abbrev pub entry_by : Row → Vector → ℤ
entry_by r v = signed_by r.is_negative (entry_on r.column v)

abbrev pub turn : Rotation → Vector → Vector
turn r v = record { x = entry_by r.x v; y = entry_by r.y v; z = entry_by r.z v }

abbrev pub add_vector : Vector → Vector → Vector
add_vector a b = record { x = a.x +ℤ b.x; y = a.y +ℤ b.y; z = a.z +ℤ b.z }

abbrev pub row_at : Axis → Rotation → Row
row_at X r = r.x
row_at Y r = r.y
row_at Z r = r.z

abbrev pub differ : Bool → Bool → Bool
differ false b = b
differ true b = not b

-- one row of the matrix that turns by the inner one first
abbrev pub row_of_both : Row → Rotation → Row
row_of_both outer inner = record {
  column = (row_at outer.column inner).column;
  is_negative = differ outer.is_negative (row_at outer.column inner).is_negative;
}

abbrev pub composed_rotation : Rotation → Rotation → Rotation
composed_rotation outer inner = record {
  x = row_of_both outer.x inner;
  y = row_of_both outer.y inner;
  z = row_of_both outer.z inner;
}

-- how what stands below a node stands in the world: turned, and then moved
abbrev pub identity_pose : Pose
identity_pose = record { axis_map = no_rotation; at = zero_shift }

-- the inner one first, and then the outer
abbrev pub posed : Pose → Rotation → Vector → Pose
posed outer axis_map shift = record {
  axis_map = composed_rotation outer.axis_map axis_map;
  at = add_vector (turn outer.axis_map shift) outer.at;
}

-- each entry is at most so far from 0
pub record IsNearOrigin (n : ℕ) (v : Vector) : Type 0 where
  pub x_low : neg_ℤ (pos n) ≤ℤ v.x
  pub x_high : v.x ≤ℤ pos n
  pub y_low : neg_ℤ (pos n) ≤ℤ v.y
  pub y_high : v.y ≤ℤ pos n
  pub z_low : neg_ℤ (pos n) ≤ℤ v.z
  pub z_high : v.z ≤ℤ pos n
