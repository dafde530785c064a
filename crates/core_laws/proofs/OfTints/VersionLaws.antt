-- The tints of each version, and the cells of a store that keeps them.
use Rattle.std.proofs.Common.{◌≡◌, ℕ, ◌/◌, ◌^◌, Bool, true, false, List, [], ◌∷◌, get_or, All, refl, sym, ap, subst, ◌∙◌}
use Rattle.std.specs.List.{AllByRecursion}
use Rattle.std.proofs.lemmas.List.Elements.{All-from_recursion}
use Rattle.vw_cell.specs.declared.cells.Cell.{Cell}
use Rattle.vw_cell.specs.Sums.{one_if}
use Rattle.vox_read.specs.Contents.{Content}
use Rattle.history_model.specs.declared.acts.Act.{Act}
use Rattle.history_model.specs.declared.acts.Act.TheVariants.{Fill, Erase, Ball, Carve, Copy, Stamp, Tint, Undo, Redo}
use Rattle.history_model.specs.declared.histories.Record.{Record}
use Rattle.history_model.specs.Worlds.{World, nothing, edited}
use Rattle.history_model.specs.Tints.{Tints, untinted, tints_by}
use Rattle.history_model.specs.Planes.{StoresTints, tells}
use Rattle.history_model.specs.Logs.{Log, FitsWorld, IsPlain, SuitsTints, suits_tints}
use Rattle.history_model.specs.Entries.{IsRecord, HasJournal}
use Rattle.history_model.specs.Stores.{edited_in, store_has}
use Rattle.history_model.specs.Moments.{world_has, world_tint}
use Rattle.history_model.proofs.Relating.{related}
use Rattle.core_laws.proofs.OfTints.PartLaws.{parts_law, tells_none}
use Rattle.core_laws.proofs.OfTints.HasLaws.{has_by, one_by}

pub versions_set : (side : ℕ) (models : List Content) (records : List Record)
    → All (λ r. FitsWorld side models r.act) records → (v : ℕ) (p : Cell)
    → tells 0 (world_tint models records v p) ≡ world_has models records v p
versions_set side models records fit v =
    related Tints World (λ tints world. (p : Cell) → tells 0 (tints p) ≡ world p)
    (λ act. FitsWorld side models act) untinted nothing (tints_by models) (edited models)
    (λ p. refl)
    (λ act tints world fits edit same. has_by side models act tints world fits same)
    records fit v

pub versions_plainly_tinted : (models : List Content) (log : Log) → IsPlain log
    → (v : ℕ) (p : Cell)
    → world_tint models log.records v p ≡ one_if (world_has models log.records v p)
versions_plainly_tinted models log plain v =
    related Tints World (λ tints world. (p : Cell) → tints p ≡ one_if (world p))
    (λ act. suits_tints false act ≡ true) untinted nothing (tints_by models) (edited models)
    (λ p. refl)
    (λ act tints world is edit same. one_by models act tints world is same)
    log.records plain.acts v

-- ---- stores of tints

none_stored : (n : ℕ) → StoresTints n untinted nothing
none_stored n =
    record { each = λ plane p lt i. sym (tells_none plane); rest = λ q i out. refl }

-- the act fits, and suits a coloured history
abbrev IsTinted : ℕ → List Content → Act → Type 0
IsTinted side models act = FitsWorld side models act × (suits_tints true act ≡ true)

stored_by : (side : ℕ) (models : List Content) (act : Act) (tints : Tints) (world : World)
    → IsTinted side models act → StoresTints (side / 4) tints world
    → StoresTints (side / 4) (tints_by models act tints) (edited_in side models act world)
stored_by side models (Fill b) tints world is keeps = absurd (let no : ⊥ = cc in no)
stored_by side models (Erase b) tints world is keeps = absurd (let no : ⊥ = cc in no)
stored_by side models (Ball b) tints world is keeps = absurd (let no : ⊥ = cc in no)
stored_by side models (Carve b) tints world is keeps = absurd (let no : ⊥ = cc in no)
stored_by side models (Copy b to) tints world is keeps = absurd (let no : ⊥ = cc in no)
stored_by side models (Stamp m at) tints world is keeps = absurd (let no : ⊥ = cc in no)
stored_by side models (Tint t) tints world is keeps =
    parts_law (side / 4) models t tints world is.0 keeps
stored_by side models Undo tints world is keeps = keeps
stored_by side models Redo tints world is keeps = keeps

pub versions_stored : (models : List Content) (log : Log) → log.coloured ≡ true → SuitsTints log
    → All (λ r. FitsWorld (2 ^ log.side) models r.act) log.records → (v : ℕ)
    → StoresTints (2 ^ log.side / 4) (world_tint models log.records v) (store_has models log v)
versions_stored models log coloured suit fit v =
    related Tints World (StoresTints (2 ^ log.side / 4)) (IsTinted (2 ^ log.side) models)
    untinted nothing (tints_by models) (edited_in (2 ^ log.side) models)
    (none_stored (2 ^ log.side / 4))
    (λ act tints world fits edit keeps. stored_by (2 ^ log.side) models act tints world fits keeps)
    log.records
    (λ k d lt. (
      fit k d lt,
      subst (λ (c : Bool). suits_tints c (get_or log.records k d).act ≡ true)
          coloured (suit k d lt),
    ))
    v

-- ---- stores of plain histories

pub plainly : (side : ℕ) (models : List Content) (act : Act) → suits_tints false act ≡ true
    → edited_in side models act ≡ edited models act
plainly side models (Fill b) is = refl
plainly side models (Erase b) is = refl
plainly side models (Ball b) is = refl
plainly side models (Carve b) is = refl
plainly side models (Copy b to) is = refl
plainly side models (Stamp m at) is = refl
plainly side models (Tint t) is = absurd (let no : ⊥ = cc in no)
plainly side models Undo is = refl
plainly side models Redo is = refl

pub versions_plain : (models : List Content) (log : Log)
    → IsPlain log → (v : ℕ) (p : Cell)
    → store_has models log v p ≡ world_has models log.records v p
versions_plain models log plain v p =
    ap (λ (w : World). w p)
    (related World World (λ v w. v ≡ w) (λ act. suits_tints false act ≡ true) nothing nothing
    (edited_in (2 ^ log.side) models) (edited models) refl
    (λ act v w is edit same. ap (λ (f : World → World). f v) (plainly (2 ^ log.side) models act is)
    ∙ ap (edited models act) same)
    log.records plain.acts v)

suit_plainly : (coloured : Bool) (side : ℕ) (records : List Record) → coloured ≡ false
    → AllByRecursion (IsRecord coloured side) records
    → AllByRecursion (λ r. suits_tints false r.act ≡ true) records
suit_plainly coloured side [] none all = tt
suit_plainly coloured side (r ∷ more) none all = (
  subst (λ (c : Bool). suits_tints c r.act ≡ true) none all.0.3,
  suit_plainly coloured side more none all.1,
)

pub told_plain : (log : Log) → HasJournal log → log.coloured ≡ false → IsPlain log
told_plain log told none =
    record {
      coloured = none;
      acts = All-from_recursion (λ r. suits_tints false r.act ≡ true) log.records
          (suit_plainly log.coloured log.side log.records none told.records);
    }
