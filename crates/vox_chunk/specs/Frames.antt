-- How a VOX file is laid out in chunks: an id of four bytes, the number of content bytes, the
-- number of bytes of child chunks, then the content, then the children. Places are byte positions
-- in the file.
use Rattle.std.specs.Prelude.{◌≡◌, ℕ, zero, suc, ◌+◌, ◌<◌, ◌≤◌, ◌==◌, ◌||◌, nat_lt, if◌then◌else◌, List, length, take, drop, codes, Option, Some, None, Result, Ok, Err, slice_range}
use Rattle.std.specs.Str.{bytes_eq}
use Rattle.byteorder.specs.Endian.{little_number}
use Rattle.vox_chunk.specs.declared.faults.VoxFault.{VoxFault}
use Rattle.vox_chunk.specs.declared.faults.VoxFault.TheVariants.{NotVox, Version, NoMain, Truncated}

-- the number of the four bytes at a place, the lowest first
abbrev pub number_at : List ℕ → ℕ → ℕ
number_at bytes place = little_number 4 (drop place bytes)

-- the four bytes at a place
abbrev pub id_at : List ℕ → ℕ → List ℕ
id_at bytes place = take 4 (drop place bytes)

-- a chunk's numbers of content bytes and of bytes of children
abbrev pub content_length : List ℕ → ℕ → ℕ
content_length bytes place = number_at bytes (place + 4)

abbrev pub children_length : List ℕ → ℕ → ℕ
children_length bytes place = number_at bytes (place + 8)

-- where the chunk ends, its children included
abbrev pub end_of : List ℕ → ℕ → ℕ
end_of bytes place = place + 12 + content_length bytes place + children_length bytes place

-- where MAIN's children run from and to
pub record Bounds : Type 0 where
  pub first : ℕ
  pub end : ℕ

-- MAIN's frame, behind the mark and the version
abbrev pub main_of : List ℕ → Result Bounds VoxFault
main_of bytes =
    if nat_lt (length bytes) 20 then Err (Truncated 8)
    else (if bytes_eq (id_at bytes 8) (codes "MAIN")
    then (if nat_lt (length bytes) (end_of bytes 8) then Err (Truncated 8)
    else Ok (record { first = 20 + content_length bytes 8; end = end_of bytes 8 }))
    else Err NoMain)

abbrev pub under_version : ℕ → Result Bounds VoxFault → Result Bounds VoxFault
under_version version main =
    if version == 150 || version == 200 then main else Err (Version version)

-- what the bytes begin with, in the order in which it is tested: the mark, the version, and MAIN's
-- frame
abbrev pub header_of : List ℕ → Result Bounds VoxFault
header_of bytes =
    if nat_lt (length bytes) 4 then Err NotVox
    else (if bytes_eq (id_at bytes 0) (codes "VOX ")
    then (if nat_lt (length bytes) 8 then Err (Truncated 4)
    else under_version (number_at bytes 4) (main_of bytes))
    else Err NotVox)

-- the frame of the child at a place ends where MAIN's children end, or before
pub record FrameFits (bytes : List ℕ) (end place : ℕ) : Type 0 where
  pub head : place + 12 ≤ end
  pub whole : end_of bytes place ≤ end

-- the place of child i, where all frames before it fit
abbrev pub place_of : List ℕ → ℕ → ℕ → ℕ
place_of bytes first zero = first
place_of bytes first (suc i) = end_of bytes (place_of bytes first i)

-- a chunk's content
abbrev pub content_at : List ℕ → ℕ → List ℕ
content_at bytes place = take (content_length bytes place) (drop (place + 12) bytes)
