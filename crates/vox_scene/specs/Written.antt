-- The script of the stamps of a scene.
use Rattle.std.specs.Prelude.{ℕ, ◌+◌, List, [], ◌∷◌, ◌++◌, codes}
use Rattle.std.specs.Fmt.{decimal}
use Rattle.vw_cell.specs.declared.cells.Cell.{Cell}

-- the line that stamps model number i
abbrev pub stamp_line : ℕ → Cell → List ℕ
stamp_line i at = codes "stamp " ++ decimal i ++ codes " " ++ decimal at.x ++ codes " "
    ++ decimal at.y ++ codes " " ++ decimal at.z ++ codes "\n"

-- a line for each place, the models numbered from this one on
abbrev pub stamp_lines : ℕ → List Cell → List ℕ
stamp_lines i [] = []
stamp_lines i (at ∷ more) = stamp_line i at ++ stamp_lines (i + 1) more
