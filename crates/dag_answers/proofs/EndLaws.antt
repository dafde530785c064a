-- The table of the moments from which on no record goes to a version.
use Rattle.std.proofs.Common.{◌≡◌, ℕ, ◌+◌, ◌^◌, ◌<◌, ◌≤◌, ◌↔◌, ◌⊎◌, inl, inr, Bool, List, [], ◌∷◌, ◌++◌, length, take, length-take-le, set, get_or, replicate, Some, IsTrue, sym, ap, subst, ◌∙◌, arith}
use Rattle.std.specs.Prelude.{All, slice_index}
use Rattle.std.proofs.lemmas.Bool.{cases_eq}
use Rattle.std.proofs.lemmas.List.{take_more, length-set, length-replicate, get_or-replicate, get_or-set_same, get_or-set_other}
use Rattle.std.proofs.lemmas.List.Elements.{All-nil, All-push, All-contains, Contains-push}
use Rattle.history_model.specs.declared.acts.Act.{Act}
use Rattle.history_model.specs.declared.acts.Act.TheVariants.{Fill, Undo, Redo}
use Rattle.vox_read.specs.Contents.{Content}
use Rattle.history_model.specs.declared.histories.Mark.{Mark}
use Rattle.history_model.specs.declared.histories.Record.{Record}
use Rattle.history_model.specs.Laws.{position_of_next}
use Rattle.history_model.specs.Logs.{Log, FitsWorld, IsVersionHeld, HasTarget, MayFollow}
use Rattle.history_model.specs.PositionLaws.{NamesBelow, names_below}
use Rattle.history_model.specs.Positions.{Position, first_of, next_position, position_after}
use Rattle.store_run.specs.Replaying.{AreLegalRecords}
use Rattle.dag_answers.specs.Legality.{IsFirstIllegal, CanCome, TellsEnds, IsOpen}
use Rattle.dag_answers.proofs.LegalLaws.{all_front, ComesNext, illegal_at, legal_push}

abbrev Held : ℕ → ℕ → Mark → Type 0
Held n v mark = mark.version ≡ v → n ≤ mark.at

-- what stands where a list has no record
abbrev pub any_record : Record
any_record = record {
  session = 0;
  line = 0;
  act = Fill (record {
    at = record { x = 0; y = 0; z = 0 };
    size =
        record { x = 0; y = 0; z = 0 };
  });
}

-- ---- where a record goes to

open_has : (marks : List Mark) (ends : List ℕ) (n : ℕ) (vs : List ℕ) → TellsEnds marks ends
    → n ≤ 65535 → All (λ v. v < n) vs → IsOpen ends n (first_of vs) ↔ HasTarget marks n vs
open_has marks ends n [] tells few below = (λ no. no, λ no. no)
open_has marks ends n (to ∷ more) tells few below =
    let lt = below 0 0 (omega arith) in
    let each = tells.each to n (omega (arith, lt, few)) (omega (arith, few)) in
    (each.1, each.0)

by_open : (result : Bool) (P Q : Type 0) → IsTrue result ↔ P → P ↔ Q → IsTrue result ↔ Q
by_open result P Q is same = (λ t. same.0 (is.0 t), λ q. is.1 (same.1 q))

pub undo_follows : (marks : List Mark) (ends : List ℕ) (n : ℕ) (at : Position) (result : Bool)
    → TellsEnds marks ends → n ≤ 65535 → NamesBelow n at
    → IsTrue result ↔ IsOpen ends n (first_of at.past) → IsTrue result ↔ MayFollow marks n Undo at
undo_follows marks ends n at result tells few below is =
    by_open result (IsOpen ends n (first_of at.past)) (HasTarget marks n at.past) is
    (open_has marks ends n at.past tells few below.past)

pub redo_follows : (marks : List Mark) (ends : List ℕ) (n : ℕ) (at : Position) (result : Bool)
    → TellsEnds marks ends → n ≤ 65535 → NamesBelow n at
    → IsTrue result ↔ IsOpen ends n (first_of at.future) → IsTrue result ↔ MayFollow marks n Redo at
redo_follows marks ends n at result tells few below is =
    by_open result (IsOpen ends n (first_of at.future)) (HasTarget marks n at.future) is
    (open_has marks ends n at.future tells few below.future)

-- an undo or a redo has its target in the table
pub first_there : (n : ℕ) (vs : List ℕ) (to : ℕ) → All (λ v. v < n) vs → n ≤ 65535
    → first_of vs ≡ Some to → to < 65536
first_there n [] to below few is = absurd (let no : ⊥ = cc in no)
first_there n (v ∷ more) to below few is =
    let same : v ≡ to = cc in let lt = below 0 0 (omega arith) in omega (arith, same, lt, few)

-- ---- how the table comes about

pub no_ends : TellsEnds [] (replicate 65536 4294967295)
no_ends = record {
  long = length-replicate {A = ℕ} 65536 4294967295;
  each = λ v n lt small.
      let is = get_or-replicate {A = ℕ} 65536 v 4294967295 0 lt in (
        λ held. omega (arith, small, is),
        λ le. All-nil (Held n v),
      );
}

module _ (front : List Mark) (ends : List ℕ) (m : Mark) (tells : TellsEnds front ends) where
  last_held : (n v : ℕ) → IsVersionHeld (front ++ m ∷ []) n v → Held n v m
  last_held n v held = All-contains (Held n v) (front ++ m ∷ []) m held (Contains-push front m)

  -- a mark of a version that the table hasn't, or of a later moment than one before it, adds
  -- nothing
  pub same_ends : (65536 ≤ m.version) ⊎ (slice_index ends m.version ≤ m.at)
      → TellsEnds (front ++ m ∷ []) ends
  same_ends late = record {
    long = tells.long;
    each = λ v n lt small.
        let each = tells.each v n lt small in (
          λ held. each.0 (all_front (Held n v) front (m ∷ []) held),
          λ le. All-push (Held n v) front m (each.1 le) (later v n lt le late),
        );
  }
    where
      later : (v n : ℕ) → v < 65536 → n ≤ slice_index ends v
          → (65536 ≤ m.version) ⊎ (slice_index ends m.version ≤ m.at) → Held n v m
      later v n lt le (inl far) = λ same. absurd (omega (arith, lt, far, same))
      later v n lt le (inr no_less) = λ same.
          let here = subst (λ (w : ℕ). n ≤ slice_index ends w) (sym same) le in
          omega (arith, here, no_less)

  pub far_mark : 65536 ≤ m.version → TellsEnds (front ++ m ∷ []) ends
  far_mark far = same_ends (inl far)

  pub later_mark : slice_index ends m.version ≤ m.at → TellsEnds (front ++ m ∷ []) ends
  later_mark no_less = same_ends (inr no_less)

  pub earlier_end : m.version < 65536 → m.at < slice_index ends m.version
      → TellsEnds (front ++ m ∷ []) (set ends m.version m.at)
  earlier_end there less = record {
    long = length-set ends m.version m.at ∙ tells.long;
    each = λ v n lt small. go v n lt small (cases_eq v m.version);
  }
    where
      go : (v n : ℕ) → v < 65536 → n < 2 ^ 32 → (v ≡ m.version) ⊎ (v ≡ m.version → ⊥)
          → IsVersionHeld (front ++ m ∷ []) n v ↔ (n ≤ slice_index (set ends m.version m.at) v)
      go v n lt small (inl same) =
          let long = tells.long in
          let here : slice_index (set ends m.version m.at) v ≡ m.at =
          ap (slice_index (set ends m.version m.at)) same
          ∙ get_or-set_same ends m.version m.at 0 (omega (arith, long, there)) in
          let old : slice_index ends v ≡ slice_index ends m.version =
          ap (slice_index ends) same in (
            λ held. (let le = last_held n v held (sym same) in omega (arith, here, le)),
            λ le.
                All-push (Held n v) front m
                ((tells.each v n lt small).1 (omega (arith, here, old, less, le)))
                (λ _. omega (arith, here, le)),
          )
      go v n lt small (inr other) =
          let here : slice_index (set ends m.version m.at) v ≡ slice_index ends v =
          get_or-set_other ends m.version v m.at 0 other in
          let each = tells.each v n lt small in (
            λ held.
                let le =
                each.0 (all_front (Held n v) front (m ∷ []) held) in omega (arith, here, le),
            λ le.
                All-push (Held n v) front m (each.1 (omega (arith, here, le)))
                (λ same. absurd (other (sym same))),
          )

-- ---- one record

pub comes_all : (side : ℕ) (models : List Content) (marks : List Mark) (n : ℕ) (act : Act)
    (at : Position) → n ≤ 65535 → FitsWorld side models act → MayFollow marks n act at
    → CanCome side models marks n act at
comes_all side models marks n act at few fits may = record { few = few; fits = fits; may = may }

-- behind the first i records of a history
module _ (side : ℕ) (models : List Content) (log : Log) (i n : ℕ) (d : Record) (at : Position)
    (lt : i < length log.records) (same : n ≡ i)
    (is : at ≡ position_after (take i log.records)) where
  short : length (take i log.records) ≡ i
  short = length-take-le i log.records (omega (arith, lt))

  pub below_next : NamesBelow (n + 1) at
  below_next =
      let on : length (take i log.records) + 1 ≡ n + 1 = omega (arith, short, same) in
      subst (λ (m : ℕ). NamesBelow m at) on
      (subst (λ (p : Position). NamesBelow (length (take i log.records) + 1) p) (sym is)
      (names_below (take i log.records)))

  abbrev next : Record
  next = get_or log.records i d

  comes : ComesNext side models log.marks (take i log.records) next
      → CanCome side models log.marks (n + 1) next.act at
  comes c =
      let on : length (take i log.records) + 1 ≡ n + 1 = omega (arith, short, same) in
      let early = c.early in
      record {
        few = omega (arith, early, short, same);
        fits = c.fits;
        may =
            subst (λ (m : ℕ). MayFollow log.marks m next.act at) on
            (subst (λ (p : Position). MayFollow log.marks
            (length (take i log.records) + 1) next.act p) (sym is) c.may);
      }

  came : CanCome side models log.marks (n + 1) next.act at
      → ComesNext side models log.marks (take i log.records) next
  came c =
      let on : n + 1 ≡ length (take i log.records) + 1 = omega (arith, short, same) in
      let few = c.few in
      record {
        early = omega (arith, few, short, same);
        fits = c.fits;
        may =
            subst (λ (m : ℕ). MayFollow log.marks m next.act
            (position_after (take i log.records))) on
            (subst (λ (p : Position). MayFollow log.marks (n + 1) next.act p) is c.may);
      }

  pub first_found : AreLegalRecords side models log.marks (take i log.records)
      → (CanCome side models log.marks (n + 1) next.act at → ⊥)
      → IsFirstIllegal side models log (n + 1)
  first_found legal never =
      subst (λ (m : ℕ). IsFirstIllegal side models log m) (omega (arith, same))
      (illegal_at side models log i d lt legal (λ c. never (comes c)))

  pub one_more : AreLegalRecords side models log.marks (take i log.records)
      → CanCome side models log.marks (n + 1) next.act at
      → AreLegalRecords side models log.marks (take (i + 1) log.records)
  one_more legal c =
      subst (λ (rs : List Record). AreLegalRecords side models log.marks rs)
      (sym (take_more log.records i d lt))
      (legal_push side models log.marks (take i log.records) next legal (came c))

  pub next_at : (to : Position) → to ≡ next_position (n + 1) next.act at
      → to ≡ position_after (take (i + 1) log.records)
  next_at to goes =
      let on : n + 1 ≡ length (take i log.records) + 1 = omega (arith, short, same) in
      goes ∙ (λ t. next_position (on t) next.act (is t))
      ∙ sym (position_of_next (take i log.records) next)
      ∙ ap position_after (sym (take_more log.records i d lt))
