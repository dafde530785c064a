-- A legal history keeps to the bounds of a journal.
use Rattle.std.specs.Prelude.{◌≡◌, ℕ, suc, ◌+◌, ◌^◌, ◌<◌, ◌≤◌, List, [], ◌∷◌, length, All, Option, Some, None, Bool, true, ◌/◌}
use Rattle.std.specs.List.{AllByRecursion, AllPairs, slice_get}
use Rattle.std.proofs.Common.{refl, sym, subst, arith}
use Rattle.std.proofs.lemmas.Option.{slice_get_within}
use Rattle.vw_cell.specs.declared.cells.Cell.{Cell}
use Rattle.vw_cell.specs.Places.{FitsAt, IsInWorld}
use Rattle.history_model.specs.Contents.{Content, AreModels}
use Rattle.history_model.specs.declared.acts.Act.{Act}
use Rattle.history_model.specs.declared.acts.Act.TheVariants.{Fill, Erase, Ball, Carve, Copy, Stamp, Tint, Undo, Redo}
use Rattle.history_model.specs.declared.acts.TintAct.{TintAct}
use Rattle.history_model.specs.declared.acts.TintAct.TheVariants as tints
use Rattle.history_model.specs.declared.histories.Record.{Record}
use Rattle.history_model.specs.declared.histories.Mark.{Mark}
use Rattle.history_model.specs.Logs.{Log, FitsWorld, FitsModel, TintFits, IsLegal, SuitsTints, suits_tints}
use Rattle.history_model.specs.Reach.{ActLiesIn, TintLiesIn}
use Rattle.history_model.specs.Entries.{IsRecord, AreMarks, IsSide, HasJournal}
use Rattle.history_model.specs.Signing.{IsSigned, AreSigned}

corner_in : (side : ℕ) (at size : Cell) → FitsAt at size side → IsInWorld side at
corner_in side at size fits =
    let x = fits.x in
    let y = fits.y in
    let z = fits.z in
    record { x = omega (arith, x); y = omega (arith, y); z = omega (arith, z) }

stamp_lies : (side m : ℕ) (models : List Content) (found : Option Content) (at : Cell)
    → slice_get models m ≡ found → length models ≤ 1024 → FitsModel side found at
    → (m < 1024) × IsInWorld side at
stamp_lies side m models None at same few nowhere = absurd nowhere
stamp_lies side m models (Some model) at same few fits = (
  let within = slice_get_within models m model same in omega
      (arith, within, few),
  corner_in side at model.size fits,
)

tint_lies : (side : ℕ) (models : List Content) (t : TintAct) → length models ≤ 1024
    → TintFits side models t → TintLiesIn side t
tint_lies side models (tints.Fill b c) few fits = fits
tint_lies side models (tints.Erase b) few fits = fits
tint_lies side models (tints.Ball ball c) few fits = fits
tint_lies side models (tints.Carve ball) few fits = fits
tint_lies side models (tints.Copy b to) few fits = fits
tint_lies side models (tints.Stamp m at) few fits =
    stamp_lies side m models (slice_get models m) at refl few fits

act_lies : (side : ℕ) (models : List Content) (act : Act) → length models ≤ 1024
    → FitsWorld side models act → ActLiesIn side act
act_lies side models (Fill b) few fits = fits
act_lies side models (Erase b) few fits = fits
act_lies side models (Ball ball) few fits = fits
act_lies side models (Carve ball) few fits = fits
act_lies side models (Copy b to) few fits = fits
act_lies side models (Stamp m at) few fits =
    stamp_lies side m models (slice_get models m) at refl few fits
act_lies side models (Tint t) few fits = tint_lies (side / 4) models t few fits
act_lies side models Undo few fits = tt
act_lies side models Redo few fits = tt

records_told : (coloured : Bool) (side exponent : ℕ) (models : List Content) (records : List Record)
    → 2 ^ exponent ≡ side → length models ≤ 1024 → All (λ r. FitsWorld side models r.act) records
    → All (λ r. IsSigned r.session r.line) records
    → All (λ r. suits_tints coloured r.act ≡ true) records
    → AllByRecursion (IsRecord coloured exponent) records
records_told coloured side exponent models [] same few fit signed suit = tt
records_told coloured side exponent models (r ∷ more) same few fit signed suit =
    let here : IsSigned r.session r.line = signed 0 r (omega arith) in
    let lies : ActLiesIn side r.act = act_lies side models r.act few (fit 0 r (omega arith)) in (
      (
        here.of_64,
        here.of_32_bits,
        subst (λ (n : ℕ). ActLiesIn n r.act) (sym same) lies,
        suit 0 r
            (omega arith),
      ),
      records_told coloured side exponent models more same few
          (λ k d lt. fit (suc k) d (omega arith)) (λ k d lt. signed (suc k) d (omega arith))
          (λ k d lt. suit (suc k) d (omega arith)),
    )

marks_told : (count least : ℕ) (marks : List Mark) → All (λ m. least ≤ m.version) marks
    → AllPairs (λ a b. a.version < b.version) marks
    → All (λ m. (m.version < m.at) × (m.at ≤ count)) marks
    → All (λ m. IsSigned m.session m.line) marks → AreMarks count least marks
marks_told count least [] low rising marked signed = tt
marks_told count least (m ∷ more) low rising marked signed =
    let here : IsSigned m.session m.line = signed 0 m (omega arith) in
    let at = marked 0 m (omega arith) in
    let later : All (λ n. m.version + 1 ≤ n.version) more =
    λ k d lt. (let above = rising 0 (suc k) d (omega arith) (omega arith) in omega
    (arith, above)) in
    let others = marks_told count (m.version + 1) more later
    (λ i j d before within. rising (suc i) (suc j) d (omega arith) (omega arith))
    (λ k d lt. marked (suc k) d (omega arith))
    (λ k d lt. signed (suc k) d (omega arith)) in
    (low 0 m (omega arith), (at.0, at.1, here.of_64, here.of_32_bits), others)

pub can_be_told : (side : ℕ) (models : List Content) (log : Log) → IsSide log.coloured log.side
    → AreModels models
    → IsLegal side models log → AreSigned log → SuitsTints log → HasJournal log
can_be_told side models log of_world are legal signed suit =
    record {
      side = (of_world.0, of_world.1);
      quarter = of_world.2;
      few = legal.few;
      records = records_told log.coloured side log.side models log.records legal.same_side are.few legal.fit signed.records suit;
      marks = marks_told (length log.records) 0 log.marks
          (λ k d lt. omega arith) legal.rising legal.marked signed.marks;
    }
