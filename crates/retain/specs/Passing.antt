-- One step of a pass over records, beside the marks made by hand from the next version on that
-- falls out.
use Rattle.std.specs.Prelude.{◌==◌, if◌then◌else◌, List, [], ◌∷◌}
use Rattle.history_model.specs.declared.histories.Mark.{Mark}

-- the version's mark: that made by hand, where there is one
abbrev pub chosen : Mark → List Mark → Mark
chosen fallen [] = fallen
chosen fallen (m ∷ later) = if m.version == fallen.version then m else fallen

-- the marks made by hand behind it
abbrev pub marks_behind : Mark → List Mark → List Mark
marks_behind fallen [] = []
marks_behind fallen (m ∷ later) = if m.version == fallen.version then later else m ∷ later

-- both, where a version fell out or none
abbrev pub next_marks : List Mark → List Mark → List Mark
next_marks [] left = []
next_marks (fallen ∷ more) left = chosen fallen left ∷ []

abbrev pub left_behind : List Mark → List Mark → List Mark
left_behind [] left = left
left_behind (fallen ∷ more) left = marks_behind fallen left
