-- The versions stay sound where the log stays, where a record is appended and where a version is
-- forgotten.
use Rattle.std.proofs.Common.{Bool, ◌⊎◌, ◌≡◌, ◌≢◌, ℕ, ◌+◌, ◌^◌, ◌<◌, ◌≤◌, refl, sym, ◌∙◌, ap, subst, arith, inl, inr, Some, None, Option, List, [], ◌∷◌, length, length-append}
use Rattle.std.specs.Prelude.{All}
use Rattle.std.proofs.lemmas.Bool.{cases_lt, cases_eq}
use Rattle.std.proofs.lemmas.Option.{none-some}
use Rattle.vw_cell.specs.declared.cells.Cell.{Cell}
use Rattle.vw_cell.specs.Places.{IsInBlock}
use Rattle.core_laws.specs.HistoryModelContents.{Content}
use Rattle.node_words.specs.declared.shapes.names.Name.{Name}
use Rattle.node_words.specs.shapes.Shape.{ShowsCells}
use Rattle.node_words.specs.shapes.Tree.{Tree, shape_of}
use Rattle.node_words.specs.Plans.{Layout}
use Rattle.core_laws.specs.places.WordIds.{versions}
use Rattle.core_laws.specs.Record.{Record}
use Rattle.core_laws.specs.Mark.{Mark}
use Rattle.core_laws.specs.Logs.{Log, FitsWorld, IsLegal, MayFollowFrom}
use Rattle.core_laws.specs.Positions.{beginning}
use Rattle.core_laws.specs.Stores.{stored_in}
use Rattle.core_laws.specs.StoreLaws.{stored_stays}
use Rattle.core_laws.specs.LegalLaws.{legal_next}
use Rattle.core_laws.specs.States.{State, tree_at}
use Rattle.core_laws.specs.contents.Aligned.{top, world_block}
use Rattle.core_laws.specs.Soundness.{SoundEntries, SoundVersions, Sound}
use Rattle.core_laws.specs.contents.Versions.{IsUnmarked, HoldsVersion}
use Rattle.core_laws.specs.Events.{RootsStay, no_weight, at_most_one, KeysStay}
use Rattle.core_laws.specs.LogEvents.{Appends, Forgets}
use Rattle.core_laws.proofs.Sums.{weight_there}
use Rattle.core_laws.proofs.Lives.{root_lives}
use Rattle.core_laws.proofs.Trees.{tree_stays}
use Rattle.core_laws.proofs.EntrySteps.{keys_stay, given_lives, put_root_entries, take_root_entries}
use Rattle.core_laws.proofs.MadeCells.{made_cells}
use Rattle.core_laws.proofs.OfContents.WorldBlocks.{in_world}
use Rattle.core_laws.proofs.OfContents.MarkLaws.{each_mark, old_marks, new_mark, marks_rise, marks_follow}

-- a root stands at a version that there is room for
pub root_in_range : (p : Layout) (models : List Content) (state : State) (v : ℕ) (n : Name)
    → SoundVersions p models state → state.root v ≡ Some n → v < versions
root_in_range p models state v n s root = let le = (s.kept v n root).there in
    let few = s.legal.few in omega arith

-- a root that stays has the same tree
pub root_stays : (p : Layout) (models : List Content) (old new : State) → SoundEntries p old
    → SoundVersions p models old → SoundEntries p new → KeysStay p old new → (v : ℕ)
    → new.root v ≡ old.root v
    → tree_at new.key (top p.side) (new.root v) ≡ tree_at old.key (top p.side) (old.root v)
root_stays p models old new s sv t keys v same =
    ap (tree_at new.key (top p.side)) same
    ∙ tree_stays p old new s t keys (top p.side) (old.root v) (λ n e. (
    let lt = root_in_range p models old v n sv e in
    record {
      same_level = sv.level v n e;
      before = root_lives p old v n s lt e;
      after = root_lives p new v n t lt (same ∙ e);
    }))

pub shows_same : (p : Layout) (t u : Tree) (cells : Cell → Bool) → t ≡ u
    → ShowsCells (world_block p.side) (shape_of u) cells
    → ShowsCells (world_block p.side) (shape_of t) cells
shows_same p t u cells e shown =
    subst (λ (x : Tree). ShowsCells (world_block p.side) (shape_of x) cells) (sym e) shown

pub versions_stay : (p : Layout) (models : List Content) (old new : State) → SoundEntries p old
    → SoundEntries p new → KeysStay p old new → RootsStay old new → new.log ≡ old.log
    → SoundVersions p models old → SoundVersions p models new
versions_stay p models old new s t keys roots log v = record {
  legal = subst (λ (l : Log). IsLegal (2 ^ p.side) models l) (sym log) v.legal;
  kept = λ w n e. subst (λ (l : Log). HoldsVersion l w) (sym log) (v.kept w n (sym (roots w) ∙ e));
  level = λ w n e. v.level w n (sym (roots w) ∙ e);
  shown = λ w kept. (
      let shown =
      shows_same p _ _ _ (root_stays p models old new s v t keys w (roots w))
      (v.shown w (subst (λ (l : Log). HoldsVersion l w) log kept)) in
      subst (λ (l : Log). ShowsCells (world_block p.side)
      (shape_of (tree_at new.key (top p.side) (new.root w)))
      (stored_in (2 ^ p.side) models l.records w))
      (sym log) shown);
}

-- no root is kept of the version after the last
next_is_free : (p : Layout) (models : List Content) (state : State) → SoundVersions p models state
    → state.root (length state.log.records + 1) ≡ None
next_is_free p models state s = go (state.root (length state.log.records + 1)) refl
  where
    go : (o : Option Name) → state.root (length state.log.records + 1) ≡ o
        → state.root (length state.log.records + 1) ≡ None
    go None e = e
    go (Some n) e =
        absurd (let le = (s.kept (length state.log.records + 1) n e).there in omega arith)

module _ (p : Layout) (models : List Content) (holder : ℕ) (r : Record) (root : Option Name)
    (old new : State) (low : 2 ≤ p.side) (s : Sound p models old)
    (e : Appends p models holder r root old new) where
  pub append_entries : SoundEntries p new
  append_entries =
      put_root_entries p holder (length old.log.records + 1) root old new s.entries e.puts

  append_keys : KeysStay p old new
  append_keys = keys_stay p old new e.puts.entries

  appended : length new.log.records ≡ length old.log.records + 1
  appended = ap (λ (l : Log). length l.records) e.log ∙ length-append old.log.records (r ∷ [])

  old_root : (v : ℕ) → v ≤ length old.log.records → new.root v ≡ old.root v
  old_root v le = e.puts.roots v (λ same. omega arith)

  new_tree : tree_at new.key (top p.side) (new.root (length old.log.records + 1))
      ≡ tree_at old.key (top p.side) root
  new_tree =
      ap (tree_at new.key (top p.side)) e.puts.new_root
      ∙ tree_stays p old new s.entries append_entries append_keys (top p.side) root
      (λ n same. record {
        same_level = e.may.level n same;
        before =
            given_lives p old holder (at_most_one root) no_weight new.held n s.entries e.puts.held
            (weight_there n root same);
        after = root_lives p new (length old.log.records + 1) n append_entries e.puts.in_range
            (e.puts.new_root ∙ same);
      })

  new_cells : (q : Cell) → IsInBlock (world_block p.side) q
      → e.may.cells q ≡ stored_in (2 ^ p.side) models new.log.records (length old.log.records + 1) q
  new_cells q inside =
      sym ((made_cells (2 ^ p.side) models old.log.records r e.may.cells e.may.makes).each q
      (in_world p.side q low inside))
      ∙ ap (λ (l : Log). stored_in (2 ^ p.side) models l.records (length old.log.records + 1) q)
      (sym e.log)

  new_or_old : (v : ℕ) → v ≤ length new.log.records
      → (v ≡ length old.log.records + 1) ⊎ (v ≤ length old.log.records)
  new_or_old v le = let number = appended in
      elim (cases_lt (length old.log.records) v) [
        | inl latest ↦ inl (omega arith)
        | inr earlier ↦
            inr earlier
      ]

  -- no mark is one of a version that wasn't there
  new_unmarked : IsUnmarked new.log.marks (length old.log.records + 1)
  new_unmarked =
      subst (λ (l : Log). IsUnmarked l.marks (length old.log.records + 1)) (sym e.log)
      (λ k m lt same.
      (let of = s.versions.legal.marked k m lt in let a = of.0 in let b = of.1 in
      omega arith))

  pub append_sound : Sound p models new
  append_sound = record {
    entries = append_entries;
    versions = record {
      legal = subst (λ (l : Log). IsLegal (2 ^ p.side) models l) (sym e.log)
          (legal_next
          (2 ^ p.side) models old.log r s.versions.legal e.may.room e.may.fits e.may.follows);
      kept = λ v n same. (let number = appended in elim (cases_eq v (length old.log.records + 1)) [
        | inl latest ↦
            record {
              there = omega arith;
              unmarked = subst (λ (w : ℕ). IsUnmarked new.log.marks w) (sym latest) new_unmarked;
            }
        | inr other ↦
            (let earlier = s.versions.kept v n (sym (e.puts.roots v other) ∙ same) in
            let le = earlier.there in
            record {
              there = omega arith;
              unmarked = subst (λ (l : Log). IsUnmarked l.marks v) (sym e.log) earlier.unmarked;
            })
      ]);
      level = λ v n same. elim (cases_eq v (length old.log.records + 1)) [
        | inl latest ↦ e.may.level n (sym e.puts.new_root ∙ ap new.root (sym latest) ∙ same)
        | inr other ↦ s.versions.level v n (sym (e.puts.roots v other) ∙ same)
      ];
      shown = λ v kept. elim (new_or_old v kept.there) [
        | inl latest ↦
            (let shown : ShowsCells (world_block p.side)
            (shape_of
            (tree_at new.key (top p.side)
            (new.root (length old.log.records + 1)))) e.may.cells =
            shows_same p _ _ _ new_tree e.may.shows in
            let all : ShowsCells (world_block p.side)
            (shape_of (tree_at new.key (top p.side) (new.root (length old.log.records + 1))))
            (stored_in (2 ^ p.side) models new.log.records (length old.log.records + 1)) =
            record { each = λ q inside. shown.each q inside ∙ new_cells q inside } in
            subst (λ (w : ℕ). ShowsCells (world_block p.side)
            (shape_of (tree_at new.key (top p.side) (new.root w)))
            (stored_in (2 ^ p.side) models new.log.records w)) (sym latest) all)
        | inr earlier ↦
            (let shown =
            shows_same p _ _ _
            (root_stays p models old new s.entries s.versions append_entries append_keys v
            (old_root v earlier))
            (s.versions.shown v
            (record {
              there = earlier;
              unmarked = subst (λ (l : Log). IsUnmarked l.marks v) e.log kept.unmarked;
            })) in
            record {
              each = λ q inside. shown.each q inside
                  ∙ sym (stored_stays (2 ^ p.side) models old.log.records (r ∷ []) v q earlier)
                  ∙ ap (λ (l : Log). stored_in (2 ^ p.side) models l.records v q) (sym e.log);
            })
      ];
    };
  }

module _ (p : Layout) (models : List Content) (holder : ℕ) (mark : Mark) (old new : State)
    (s : Sound p models old) (e : Forgets p holder mark old new) where
  pub forget_entries : SoundEntries p new
  forget_entries = take_root_entries p holder mark.version old new s.entries e.takes

  forget_keys : KeysStay p old new
  forget_keys = keys_stay p old new e.takes.entries

  same_number : length new.log.records ≡ length old.log.records
  same_number = ap (λ (rs : List Record). length rs) e.records

  forget_legal : IsLegal (2 ^ p.side) models new.log
  forget_legal =
      let earlier = s.versions.legal in
      let number = same_number in
      record {
        same_side = ap (λ (n : ℕ). 2 ^ n) e.side ∙ earlier.same_side;
        few = (let few = earlier.few in omega arith);
        fit = subst (λ (rs : List Record). All (λ r. FitsWorld (2 ^ p.side) models r.act) rs)
            (sym e.records) earlier.fit;
        follow =
            subst (λ (rs : List Record). MayFollowFrom new.log.marks 1 beginning rs)
            (sym e.records)
            (marks_follow old.log.marks new.log.marks mark 1 beginning old.log.records e.marks
            (let now = e.now in omega arith) earlier.follow);
        rising = marks_rise old.log.marks new.log.marks mark e.marks earlier.rising;
        marked =
            subst (λ (n : ℕ). All (λ m. (m.version < m.at) × (m.at ≤ n)) new.log.marks) (sym number)
            (each_mark old.log.marks new.log.marks mark e.marks
            (λ m. (m.version < m.at) × (m.at ≤ length old.log.records)) earlier.marked
            (let now = e.now in let early = e.earlier in (omega arith, omega arith)));
      }

  pub forget_sound : Sound p models new
  forget_sound = record {
    entries = forget_entries;
    versions = record {
      legal = forget_legal;
      kept = λ v n same. (
          let number = same_number in
          elim (cases_eq v mark.version) [
            | inl here ↦ absurd (none-some n (sym e.takes.no_root ∙ ap new.root (sym here) ∙ same))
            | inr other ↦
                (let earlier = s.versions.kept v n (sym (e.takes.roots v other) ∙ same) in
                let le = earlier.there in
                record {
                  there = omega arith;
                  unmarked =
                      each_mark old.log.marks new.log.marks mark e.marks
                      (λ m. m.version ≢ v) earlier.unmarked (λ here. other (sym here));
                })
          ]);
      level = λ v n same. elim (cases_eq v mark.version) [
        | inl here ↦ absurd (none-some n (sym e.takes.no_root ∙ ap new.root (sym here) ∙ same))
        | inr other ↦ s.versions.level v n (sym (e.takes.roots v other) ∙ same)
      ];
      shown = λ v kept. (
          let number = same_number in
          let le = kept.there in
          let earlier : v ≤ length old.log.records = omega arith in
          let other : v ≢ mark.version =
          (λ same. new_mark old.log.marks new.log.marks mark e.marks
          (λ m. m.version ≢ v) kept.unmarked (sym same)) in
          let shown =
          shows_same p _ _ _
          (root_stays p models old new s.entries s.versions forget_entries forget_keys v
          (e.takes.roots v other))
          (s.versions.shown v
          (record {
            there = earlier;
            unmarked =
                old_marks old.log.marks new.log.marks mark e.marks
                (λ m. m.version ≢ v) kept.unmarked;
          })) in
          record {
            each = λ q inside. shown.each q inside
                ∙ ap (λ (rs : List Record). stored_in (2 ^ p.side) models rs v q) (sym e.records);
          });
    };
  }
