-- What a shelf in memory has.
use Rattle.std.specs.Prelude.{option_map}
use Rattle.std.specs.BTreeMap.{get_by_text}
use Rattle.vw_io.specs.declared.memory_shelf.MemoryShelf.{MemoryShelf}
use Rattle.vw_io.specs.Outside.{Files}

-- its files, by name
abbrev pub files_of : MemoryShelf → Files
files_of shelf name = option_map (λ bytes. bytes.items) (get_by_text shelf.entries name)
