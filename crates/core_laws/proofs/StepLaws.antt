-- The law of steps.
use Rattle.std.proofs.Common.{◌≡◌, ◌≢◌, ℕ, zero, suc, ◌+◌, ◌<◌, ◌≤◌, refl, sym, ◌∙◌, ap, subst, arith, Some, None, Option, List, [], ◌∷◌, length, set, ◌^◌}
use Rattle.std.specs.List.{slice_get}
use Rattle.std.proofs.lemmas.Option.{same_Some}
use Rattle.core_laws.specs.HistoryModelContents.{Content}
use Rattle.node_words.specs.declared.shapes.names.Name.{Name}
use Rattle.node_words.proofs.OfShapes.TreeEqual.{Name-discrete}
use Rattle.node_words.specs.Plans.{Layout}
use Rattle.vw_cell.specs.declared.cells.Cell.{Cell}
use Rattle.core_laws.specs.Record.{Record}
use Rattle.core_laws.specs.Logs.{Log}
use Rattle.core_laws.specs.Stores.{stored_in}
use Rattle.core_laws.specs.StoreLaws.{stored_stays}
use Rattle.core_laws.specs.StepStatements.{IsSpared}
use Rattle.core_laws.specs.States.{State, IsLive, tree_of, IsUnder, Holds}
use Rattle.core_laws.specs.Soundness.{SoundEntries, Sound}
use Rattle.core_laws.specs.Events.{
  Trades,
  EntriesStay,
  RootsStay,
  Frees,
  StoreStep,
  rests,
  raises,
  adds,
  lowers,
  frees,
  puts_root,
  takes_root,
  KeysStay,
}
use Rattle.core_laws.specs.LogEvents.{Pins, Reseats, Step, stores, pins, appends, forgets}
use Rattle.core_laws.proofs.Counts.{rooted-same}
use Rattle.core_laws.proofs.Lives.{held_lives, under_lives}
use Rattle.core_laws.proofs.Trees.{tree_stays, under_stays}
use Rattle.core_laws.proofs.EntrySteps.{entries_stay_sound, keys_stay, step_entries, step_keys}
use Rattle.core_laws.proofs.LogSteps.{versions_stay, append_sound, forget_sound}

-- each step is one of the store
pub of_pin : (p : Layout) (holder v : ℕ) (old new : State) → Pins p holder v old new
    → StoreStep p holder old new × RootsStay old new
of_pin p holder v old new e = go (old.root v) refl
  where
    go : (o : Option Name) → old.root v ≡ o → StoreStep p holder old new × RootsStay old new
    go None root = (rests (e.empty root), (e.empty root).roots)
    go (Some n) root = (raises n (e.root n root), (e.root n root).roots)

pub of_step : (p : Layout) (models : List Content) (holder : ℕ) (old new : State)
    → Step p models holder old new → StoreStep p holder old new
of_step p models holder old new (stores e roots log) = e
of_step p models holder old new (pins v e log) = (of_pin p holder v old new e).0
of_step p models holder old new (appends r root e) =
    puts_root (length old.log.records + 1) root e.puts
of_step p models holder old new (forgets mark e) = takes_root mark.version e.takes

stores_sound : (p : Layout) (models : List Content) (holder : ℕ) (old new : State)
    → Sound p models old → StoreStep p holder old new → RootsStay old new → new.log ≡ old.log
    → Sound p models new
stores_sound p models holder old new s e roots log =
    let entries : SoundEntries p new = step_entries p holder old new s.entries e in
    record {
      entries = entries;
      versions =
          versions_stay p models old new s.entries entries
          (step_keys p holder old new e) roots log s.versions;
    }

pub step_sound : (p : Layout) (models : List Content) (holder : ℕ) (old new : State) → 2 ≤ p.side
    → Sound p models old → Step p models holder old new → Sound p models new
step_sound p models holder old new low s (stores e roots log) =
    stores_sound p models holder old new s e roots log
step_sound p models holder old new low s (pins v e log) = let r = of_pin p holder v old new e in
    stores_sound p models holder old new s r.0 r.1 log
step_sound p models holder old new low s (appends r root e) =
    append_sound p models holder r root old new low s e
step_sound p models holder old new low s (forgets mark e) =
    forget_sound p models holder mark old new s e

pub reseats_sound : (p : Layout) (models : List Content) (old new : State) → Sound p models old
    → Reseats p old new → Sound p models new
reseats_sound p models old new s e =
    let entries : SoundEntries p new =
    entries_stay_sound p old new s.entries e.entries
    (λ f. (let roots = rooted-same f old new e.roots in let held = e.held f in
    omega arith)) in
    record {
      entries = entries;
      versions =
          versions_stay p models old new s.entries entries
          (keys_stay p old new e.entries) e.roots e.log s.versions;
    }

-- where an entry is live before and after, its tree stays
pub tree_kept : (p : Layout) (old new : State) (n : Name) → SoundEntries p old → SoundEntries p new
    → KeysStay p old new → IsLive p old n → IsLive p new n → tree_of new n ≡ tree_of old n
tree_kept p old new n s t keys before after =
    tree_stays p old new s t keys n.level (Some n) (λ m e. (
    let same : n ≡ m = same_Some n m e in
    record {
      same_level = ap (λ (x : Name). x.level) (sym same);
      before = subst (λ (x : Name). IsLive p old x) same before;
      after = subst (λ (x : Name). IsLive p new x) same after;
    }))

get-set_other : {X : Type 0} (xs : List X) (i j : ℕ) (x : X) → j ≢ i
    → slice_get (set xs i x) j ≡ slice_get xs j
get-set_other [] i j x other = refl
get-set_other (y ∷ xs) zero zero x other = absurd (other refl)
get-set_other (y ∷ xs) zero (suc j) x other = refl
get-set_other (y ∷ xs) (suc i) zero x other = refl
get-set_other (y ∷ xs) (suc i) (suc j) x other = get-set_other xs i j x (λ e. other (ap suc e))

-- another holder's shares stay
others_hold : (old new : List (List Name)) (holder j : ℕ) (gives takes : (Name → ℕ) → ℕ) (n : Name)
    → Trades old holder gives takes new → j ≢ holder → Holds old j n → Holds new j n
others_hold old new holder j gives takes n t other h = record {
  names = h.names;
  at = ap (λ (held : List (List Name)). slice_get held j) t.has
      ∙ get-set_other old holder j t.after other ∙ h.at;
  weighs = h.weighs;
}

module _ (p : Layout) (holder j : ℕ) (n m : Name) (old new : State) (s : SoundEntries p old)
    (t : SoundEntries p new) (keys : KeysStay p old new) (h : Holds old.held j n)
    (under : IsUnder old.key m n) where
  m_lives : IsLive p old m
  m_lives = under_lives p old m n s (held_lives p old j n s h) under

  still : IsLive p new m → IsSpared p old new m
  still live = record { live = live; tree = tree_kept p old new m s t keys m_lives live }

  by_entries : EntriesStay p old new → IsSpared p old new m
  by_entries same =
      still (let is = m_lives.name in let b = same.book m is in let some = m_lives.book in
      record { name = is; book = omega arith })

  by_holding : (gives takes : (Name → ℕ) → ℕ) → j ≢ holder
      → Trades old.held holder gives takes new.held → IsSpared p old new m
  by_holding gives takes other trade =
      let of_n : IsLive p new n =
      held_lives p new j n t
      (others_hold old.held new.held holder j gives takes n trade other h) in
      still (under_lives p new m n t of_n
      (under_stays p old new s t keys m n (held_lives p old j n s h) of_n under))

  -- what stands at or below a share is spared by the steps of others
  pub spared : j ≢ holder → StoreStep p holder old new → IsSpared p old new m
  spared other (rests e) = by_entries e.entries
  spared other (raises k e) = by_holding _ _ other e.held
  spared other (adds k key e) = by_holding _ _ other e.held
  spared other (lowers k e) = by_holding _ _ other e.held
  spared other (frees k e) = by_holding _ _ other e.held
  spared other (puts_root place root e) = by_entries e.entries
  spared other (takes_root place e) = by_entries e.entries

pub step_spares : (p : Layout) (holder j : ℕ) (n m : Name) (old new : State) → SoundEntries p old
    → StoreStep p holder old new → j ≢ holder → Holds old.held j n → IsUnder old.key m n
    → IsSpared p old new m
step_spares p holder j n m old new s e other h under =
    spared p holder j n m old new s (step_entries p holder old new s e)
    (step_keys p holder old new e) h under other e

stays_live : (old new : State) (m : Name) → 0 < old.book m → new.book m ≡ old.book m
    → new.book m ≡ 0 → ⊥
stays_live old new m some same none = absurd (omega arith)

-- the entry had its last share, and the step frees it
pub record Leaves (p : Layout) (holder : ℕ) (m : Name) (old new : State) : Type 0 where
  pub last : old.book m ≡ 1
  pub step : Frees p holder m old new

-- an entry leaves by the step that finds its book at 1 alone
pub leaves : (p : Layout) (holder : ℕ) (m : Name) (old new : State) → StoreStep p holder old new
    → IsLive p old m → new.book m ≡ 0 → Leaves p holder m old new
leaves p holder m old new (rests e) live none =
    absurd (stays_live old new m live.book (e.entries.book m live.name) none)
leaves p holder m old new (raises n e) live none = elim (Name-discrete m n) [
  | yes same ↦
      (let b = e.book in let here : new.book m ≡ new.book n = ap new.book same in
      absurd (omega arith))
  | no other ↦ absurd (stays_live old new m live.book (e.others.book m live.name other) none)
]
leaves p holder m old new (adds n key e) live none = elim (Name-discrete m n) [
  | yes same ↦
      (let free = e.free in let here : old.book m ≡ old.book n = ap old.book same in
      let some = live.book in absurd (omega arith))
  | no other ↦ absurd (stays_live old new m live.book (e.others.book m live.name other) none)
]
leaves p holder m old new (lowers n e) live none = elim (Name-discrete m n) [
  | yes same ↦
      (let left = e.left in let here : new.book m ≡ new.book n = ap new.book same in
      absurd (omega arith))
  | no other ↦ absurd (stays_live old new m live.book (e.others.book m live.name other) none)
]
leaves p holder m old new (frees n e) live none = elim (Name-discrete m n) [
  | yes same ↦
      record {
        last = ap old.book same ∙ e.last;
        step = subst (λ (k : Name). Frees p holder k old new) (sym same) e;
      }
  | no other ↦ absurd (stays_live old new m live.book (e.others.book m live.name other) none)
]
leaves p holder m old new (puts_root place root e) live none =
    absurd (stays_live old new m live.book (e.entries.book m live.name) none)
leaves p holder m old new (takes_root place e) live none =
    absurd (stays_live old new m live.book (e.entries.book m live.name) none)

-- no step changes a cell of a version
pub step_cells : (p : Layout) (models : List Content) (holder : ℕ) (old new : State) (v : ℕ)
    (q : Cell) → Step p models holder old new → v ≤ length old.log.records
    → stored_in (2 ^ p.side) models new.log.records v q ≡ stored_in
    (2 ^ p.side) models old.log.records v q
step_cells p models holder old new v q (stores e roots log) le =
    ap (λ (l : Log). stored_in (2 ^ p.side) models l.records v q) log
step_cells p models holder old new v q (pins w e log) le =
    ap (λ (l : Log). stored_in (2 ^ p.side) models l.records v q) log
step_cells p models holder old new v q (appends r root e) le =
    ap (λ (l : Log). stored_in (2 ^ p.side) models l.records v q) e.log
    ∙ stored_stays (2 ^ p.side) models old.log.records (r ∷ []) v q le
step_cells p models holder old new v q (forgets mark e) le =
    ap (λ (rs : List Record). stored_in (2 ^ p.side) models rs v q) e.records
