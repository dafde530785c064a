-- The version that stands.
use Rattle.std.specs.Prelude.{ℕ, Option, Some, None}
use Rattle.undo.specs.declared.cursor.UndoCursor.{UndoCursor}

abbrev pub version_of : Option UndoCursor → Option ℕ
version_of None = None
version_of (Some s) = Some s.now
