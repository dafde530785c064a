-- The file of a list of versions: a right one, with their numbers and the shapes that their roots
-- show.
use Rattle.std.specs.Prelude.{◌≡◌, ℕ, zero, suc, ◌-◌, ◌<◌, ◌≤◌, List, [], ◌∷◌, length, ◌++◌, Option, Some, slice_get}
use Rattle.node_words.specs.declared.shapes.names.Name.{Name}
use Rattle.node_words.specs.shapes.Shape.{IsCanonical}
use Rattle.node_words.specs.shapes.Tree.{Tree}
use Rattle.node_words.specs.descent.Roots.{HoldsRoot, ForBlock}
use Rattle.dag_file.specs.Places.{versions_in, version_number, version_root_word}
use Rattle.dag_file.specs.Trees.{word_name, roots_below}
use Rattle.dag_file.specs.Rules.{IsDagFile}
use Rattle.dag_file.specs.Kept.{AreBytes, version_shape}

-- a version of a list: its number and its root
abbrev pub Listed : Type 0
Listed = ℕ × Option Name

-- a store holds the root of each
abbrev pub HoldsList : List Tree → ℕ → List Listed → Type 0
HoldsList held levels list =
    (v : ℕ) (x : Listed) → slice_get list v ≡ Some x → HoldsRoot held (suc levels) x.1

-- the numbers rise
abbrev pub DoNumbersRise : List Listed → Type 0
DoNumbersRise list = (v : ℕ) (x y : Listed)
    → slice_get list v ≡ Some x → slice_get list (suc v) ≡ Some y → x.0 < y.0

-- no number is over 65,535
abbrev pub AreNumbersSmall : List Listed → Type 0
AreNumbersSmall list = (v : ℕ) (x : Listed) → slice_get list v ≡ Some x → x.0 ≤ 65535

-- each root shows a canonical shape, or none
abbrev pub ShowCanonical : List Tree → ℕ → List Listed → Type 0
ShowCanonical held levels list = (v : ℕ) (x : Listed) → slice_get list v ≡ Some x
    → ForBlock held (suc levels - 2) x.1 (IsCanonical (suc levels - 2))

-- the file of a list keeps all rules, and has its numbers and the shapes that its roots show
pub record IsFileOfList (held : List Tree) (levels : ℕ) (list : List Listed) (file : List ℕ)
    : Type 0 where
  pub bytes : AreBytes file
  pub right : IsDagFile file levels
  pub many : versions_in file ≡ length list
  pub numbers : (v : ℕ) (x : Listed) → slice_get list v ≡ Some x
      → version_number file levels v ≡ x.0
  pub shapes : (v : ℕ) (x : Listed) → slice_get list v ≡ Some x
      → ForBlock held (suc levels - 2) x.1 (λ s. version_shape file levels v ≡ s)

-- the file of the list is appended to the bytes
pub record AppendsFile (held : List Tree) (levels : ℕ) (list : List Listed) (old new : List ℕ)
    : Type 0 where
  pub file : List ℕ
  pub is_file : IsFileOfList held levels list file
  pub added : new ≡ old ++ file

-- what a file's version says
abbrev pub version_listed : List ℕ → ℕ → ℕ → Listed
version_listed bytes levels v =
    (version_number bytes levels v, word_name (levels - 1) (version_root_word bytes levels v))

-- the d versions of a file from v on, and all of them
unfoldable pub listed_from : List ℕ → ℕ → ℕ → ℕ → List Listed
listed_from bytes levels v zero = []
listed_from bytes levels v (suc d) =
    version_listed bytes levels v ∷ listed_from bytes levels (suc v) d

abbrev pub list_in : List ℕ → ℕ → List Listed
list_in bytes levels = listed_from bytes levels 0 (versions_in bytes)

-- the roots of a file's versions
abbrev pub file_roots : List ℕ → ℕ → List Tree
file_roots bytes levels = roots_below bytes levels (versions_in bytes)

-- the file is that of its own list, whose roots stand in it
pub record IsOfItsList (bytes : List ℕ) (levels : ℕ) : Type 0 where
  pub roots : HoldsList (file_roots bytes levels) levels (list_in bytes levels)
  pub rise : DoNumbersRise (list_in bytes levels)
  pub file : IsFileOfList (file_roots bytes levels) levels (list_in bytes levels) bytes
