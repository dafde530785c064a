-- What a pass over the versions that fell out makes of the marks by hand.
use Rattle.std.proofs.Common.{◌≡◌, ℕ, zero, suc, ◌+◌, ◌-◌, ◌<◌, ◌≤◌, inl, inr, Bool, true, false, not, cond, ◌||◌, ◌&&◌, List, [], ◌∷◌, ◌++◌, length, drop, get_or, Option, Some, None, refl, sym, ap, ◌∙◌, subst, arith, append_assoc}
use Rattle.std.specs.Prelude.{All, ⊤, ◌==◌, nat_le}
use Rattle.std.specs.List.{list_any}
use Rattle.std.specs.List.Sorted.{IsPermutation}
use Rattle.std.proofs.lemmas.Bool.{eqb-true, eqb-false, ne_eqb, le-leb, lt-leb, cases_lt}
use Rattle.std.proofs.lemmas.List.{append-nil, drop_more, at_drop_all}
use Rattle.std.proofs.lemmas.List.Elements.{All-cons, All-nil}
use Rattle.std.proofs.lemmas.List.Folds.{list_any_none}
use Rattle.std.proofs.lemmas.List.Kept.{AllPairs-cons}
use Rattle.std.proofs.lemmas.List.Sorted.{IsPermutation-refl, IsPermutation-cons, IsPermutation-middle, IsPermutation-trans}
use Rattle.history_model.specs.declared.histories.Record.{Record}
use Rattle.history_model.specs.declared.histories.Mark.{Mark}
use Rattle.retain.specs.Retained.{falls_out, fallen_by, fallen_from, unnamed_by, AreRising, AreAllMarks}
use Rattle.retain.specs.Passing.{chosen, marks_behind, next_marks, left_behind}

-- the marks of these fallen versions, each that by hand where there is one, and the others by hand
abbrev pub merged : List Mark → List Mark → List Mark
merged [] left = left
merged (m ∷ more) left = chosen m left ∷ merged more (marks_behind m left)

-- ---- record by record

merged_by : (n : ℕ) (r : Record) (o : Option ℕ) (more left : List Mark)
    → merged (fallen_by n r o ++ more) left
    ≡ next_marks (fallen_by n r o) left ++ merged more (left_behind (fallen_by n r o) left)
merged_by n r None more left = refl
merged_by n r (Some v) more left = refl

pub pass_goes_on : (keep i : ℕ) (records : List Record) (d : Record)
    (marks left new later whole : List Mark) → i < length records
    → marks ++ merged (fallen_from keep (i + 1) (drop i records)) left ≡ whole
    → new ≡ marks ++ next_marks
    (fallen_by (i + 1) (get_or records i d) (falls_out (i + 1) keep)) left
    → later ≡ left_behind (fallen_by (i + 1) (get_or records i d) (falls_out (i + 1) keep)) left
    → new ++ merged (fallen_from keep (i + 1 + 1) (drop (i + 1) records)) later ≡ whole
pass_goes_on keep i records d marks left new later whole lt so_far is_new is_later =
    let rest : List Record = drop (i + 1) records in
    let r : Record = get_or records i d in
    let by : List Mark = fallen_by (i + 1) r (falls_out (i + 1) keep) in
    let more : List Mark = fallen_from keep (i + 1 + 1) rest in
    let step : merged (fallen_from keep (i + 1) (drop i records)) left
    ≡ next_marks by left ++ merged more (left_behind by left) =
    ap (λ (rs : List Record). merged (fallen_from keep (i + 1) rs) left) (drop_more records i d lt)
    ∙ merged_by (i + 1) r (falls_out (i + 1) keep) more left in
    ap (λ (xs : List Mark). xs ++ merged more later) is_new
    ∙ ap (λ (xs : List Mark). (marks ++ next_marks by left) ++ merged more xs) is_later
    ∙ append_assoc marks (next_marks by left) (merged more (left_behind by left))
    ∙ ap (λ (xs : List Mark). marks ++ xs) (sym step) ∙ so_far

-- ---- versions in a row, and versions that rise

abbrev pub InRow : ℕ → List Mark → Type 0
InRow v [] = ⊤
InRow v (m ∷ more) = (m.version ≡ v) × InRow (v + 1) more

abbrev pub RisesFrom : ℕ → List Mark → Type 0
RisesFrom v [] = ⊤
RisesFrom v (m ∷ more) = (v ≤ m.version) × RisesFrom (m.version + 1) more

row_at : (v w : ℕ) (marks : List Mark) → v ≡ w → InRow v marks → InRow w marks
row_at v w marks same row = subst (λ (k : ℕ). InRow k marks) same row

pub falls_not : (n keep : ℕ) → n < keep → falls_out n keep ≡ None
falls_not n keep lt = go (nat_le 1 keep) (lt-leb keep n lt)
  where
    go : (b : Bool) → nat_le keep n ≡ false
        → cond (b && nat_le keep n) (Some (n - keep)) None ≡ None
    go true off = rw off refl
    go false off = refl

pub falls : (n keep : ℕ) → 1 ≤ keep → keep ≤ n → falls_out n keep ≡ Some (n - keep)
falls n keep some le =
    let a : nat_le 1 keep ≡ true = le-leb 1 keep some in
    let b : nat_le keep n ≡ true = le-leb keep n le in rw (a, b) refl

fallen_row : (keep n : ℕ) (records : List Record) → 1 ≤ keep
    → InRow (n - keep) (fallen_from keep n records)
fallen_row keep n [] some = tt
fallen_row keep n (r ∷ more) some = elim (cases_lt n keep) [
  | inl early ↦
      let none = falls_not n keep early in
      let rest =
      row_at ((n + 1) - keep) (n - keep) (fallen_from keep (n + 1) more) (omega arith)
      (fallen_row keep (n + 1) more some) in
      rw none rest
  | inr late ↦
      let one = falls n keep some late in
      let rest =
      row_at ((n + 1) - keep) ((n - keep) + 1) (fallen_from keep (n + 1) more) (omega arith)
      (fallen_row keep (n + 1) more some) in
      rw one (refl, rest)
]

rises_on : (v w : ℕ) (marks : List Mark) → w ≤ v → RisesFrom v marks → RisesFrom w marks
rises_on v w [] le rising = tt
rises_on v w (m ∷ more) le rising = (let low = rising.0 in omega (arith, low, le), rising.1)

rises_above : (v : ℕ) (marks : List Mark) → RisesFrom v marks → All (λ m. v ≤ m.version) marks
rises_above v [] rising = All-nil (λ m. v ≤ m.version)
rises_above v (m ∷ more) rising =
    let low = rising.0 in
    let rest = rises_above (m.version + 1) more rising.1 in
    All-cons (λ x. v ≤ x.version) m more low
    (λ k d lt. (let high = rest k d lt in omega (arith, low, high)))

pub rising_of : (v : ℕ) (marks : List Mark) → RisesFrom v marks → AreRising marks
rising_of v [] rising = λ i j d low high. absurd (omega arith)
rising_of v (m ∷ more) rising =
    let rest = rises_above (m.version + 1) more rising.1 in
    AllPairs-cons (λ a b. a.version < b.version) m more
    (λ k d lt. (let high = rest k d lt in omega (arith, high)))
    (rising_of (m.version + 1) more rising.1)

row_rises : (v : ℕ) (marks : List Mark) → InRow v marks → RisesFrom v marks
row_rises v [] row = tt
row_rises v (m ∷ more) row =
    let here : m.version ≡ v = row.0 in
    let next : v + 1 ≡ m.version + 1 = omega (arith, here) in
    (omega (arith, here), subst (λ (w : ℕ). RisesFrom w more) next (row_rises (v + 1) more row.1))

-- the versions that fall out rise
pub fallen_rises : (keep n : ℕ) (records : List Record) → 1 ≤ keep
    → AreRising (fallen_from keep n records)
fallen_rises keep n records some =
    let fallen : List Mark = fallen_from keep n records in
    rising_of (n - keep) fallen (row_rises (n - keep) fallen (fallen_row keep n records some))

pub rises_of : (v : ℕ) (marks : List Mark) → All (λ m. v ≤ m.version) marks → AreRising marks
    → RisesFrom v marks
rises_of v [] low rising = tt
rises_of v (m ∷ more) low rising = (
  low 0 m (omega arith),
  rises_of (m.version + 1) more
      (λ k d lt. (let above = rising 0 (suc k) d (omega arith) (omega arith) in omega
      (arith, above)))
      (λ i j d before within. rising (suc i) (suc j) d (omega arith) (omega arith)),
)

-- ---- all of it

merged_rises : (v : ℕ) (fallen left : List Mark) → InRow v fallen → RisesFrom v left
    → RisesFrom v (merged fallen left)
merged_rises v [] left row rising = rising
merged_rises v (m ∷ more) [] row rising =
    let at = row.0 in (
      omega (arith, at),
      rises_on (v + 1) (m.version + 1) (merged more []) (omega (arith, at))
          (merged_rises (v + 1) more [] row.1 tt),
    )
merged_rises v (m ∷ more) (f ∷ later) row rising =
    go (f.version == m.version) refl (λ left. merged_rises (v + 1) more left row.1)
  where
    go : (b : Bool) → (f.version == m.version) ≡ b
        → ((left : List Mark) → RisesFrom (v + 1) left → RisesFrom (v + 1) (merged more left))
        → RisesFrom v (cond b f m ∷ merged more (cond b later (f ∷ later)))
    go true is rest =
        let at = row.0 in
        let same = eqb-true f.version m.version is in (
          omega (arith, at, same),
          rises_on (v + 1) (f.version + 1) (merged more later)
              (omega (arith, at, same))
              (rest later (rises_on (f.version + 1) (v + 1) later
              (omega (arith, at, same)) rising.1)),
        )
    go false is rest =
        let at = row.0 in
        let low = rising.0 in
        let other = eqb-false f.version m.version is in (
          omega (arith, at),
          rises_on (v + 1) (m.version + 1) (merged more (f ∷ later))
              (omega (arith, at)) (rest (f ∷ later) (omega (arith, at, low, other), rising.1)),
        )

unnamed_rest : (w : ℕ) (f : Mark) (later more : List Mark) → f.version < w → InRow w more
    → unnamed_by (f ∷ later) more ≡ unnamed_by later more
unnamed_rest w f later [] lt row = refl
unnamed_rest w f later (m ∷ more) lt row =
    let at = row.0 in
    let other : (f.version == m.version) ≡ false = ne_eqb f.version m.version (λ same. omega (arith, at, same, lt)) in
    let rest = unnamed_rest (w + 1) f later more (omega (arith, lt)) row.1 in
    rw other (ap
    (λ (xs : List Mark). cond (not (list_any (λ o. o.version == m.version) later))
    (m ∷ xs) xs) rest)

none_named : (m : Mark) (low : ℕ) (marks : List Mark) → m.version < low → RisesFrom low marks
    → list_any (λ o. o.version == m.version) marks ≡ false
none_named m low marks lt rising =
    let above = rises_above low marks rising in
    list_any_none (λ o. o.version == m.version) marks
    (λ k d within.
    (let high = above k d within in ne_eqb (get_or marks k d).version m.version
    (λ same. omega (arith, high, lt, same))))

merged_holds : (v : ℕ) (fallen left : List Mark) → InRow v fallen → RisesFrom v left
    → IsPermutation (left ++ unnamed_by left fallen) (merged fallen left)
merged_holds v [] left row rising =
    subst (λ (xs : List Mark). IsPermutation xs left) (sym (append-nil left))
    (IsPermutation-refl left)
merged_holds v (m ∷ more) [] row rising =
    IsPermutation-cons m (unnamed_by [] more) (merged more [])
    (merged_holds (v + 1) more [] row.1 tt)
merged_holds v (m ∷ more) (f ∷ later) row rising =
    go (f.version == m.version) refl (λ left. merged_holds (v + 1) more left row.1)
  where
    go : (b : Bool) → (f.version == m.version) ≡ b
        → ((left : List Mark) → RisesFrom (v + 1) left
        → IsPermutation (left ++ unnamed_by left more) (merged more left))
        → IsPermutation
        (f ∷ (later ++ cond (not (b || list_any (λ o. o.version == m.version) later))
        (m ∷ unnamed_by (f ∷ later) more) (unnamed_by (f ∷ later) more)))
        (cond b f m ∷ merged more (cond b later (f ∷ later)))
    go true is rest =
        let at = row.0 in
        let same = eqb-true f.version m.version is in
        let others = unnamed_rest (v + 1) f later more (omega (arith, at, same)) row.1 in
        let behind_it =
        rest later (rises_on (f.version + 1) (v + 1) later
        (omega (arith, at, same)) rising.1) in
        rw others (IsPermutation-cons f (later ++ unnamed_by later more)
        (merged more later) behind_it)
    go false is rest =
        let at = row.0 in
        let low = rising.0 in
        let other = eqb-false f.version m.version is in
        let none = none_named m (f.version + 1) later (omega (arith, at, low)) rising.1 in
        let left : List Mark = f ∷ later in
        let moved = IsPermutation-middle left m (unnamed_by left more) in
        let joined =
        IsPermutation-cons m (left ++ unnamed_by left more) (merged more left)
        (rest left (omega (arith, at, low, other), rising.1)) in
        rw none (IsPermutation-trans (left ++ m ∷ unnamed_by left more)
        (m ∷ (left ++ unnamed_by left more)) (m ∷ merged more left) moved joined)

fallen_none : (n : ℕ) (records : List Record) → fallen_from zero n records ≡ []
fallen_none n [] = refl
fallen_none n (r ∷ more) = fallen_none (n + 1) more

pub all_merged : (keep : ℕ) (records : List Record) (forgot : List Mark) → AreRising forgot
    → AreAllMarks keep records forgot (merged (fallen_from keep 1 records) forgot)
all_merged zero records forgot rising =
    let none = fallen_none 1 records in
    rw none (record { rising = rising; items = IsPermutation-refl forgot })
all_merged (suc k) records forgot rising =
    let from = rises_of 0 forgot (λ i d lt. omega arith) rising in
    let fallen : List Mark = fallen_from (suc k) 1 records in
    let row =
    row_at (1 - suc k) 0 fallen (omega arith) (fallen_row (suc k) 1 records (omega arith)) in
    record {
      rising = rising_of 0 (merged fallen forgot) (merged_rises 0 fallen forgot row from);
      items = merged_holds 0 fallen forgot row from;
    }

pub pass_gives : (keep i : ℕ) (records : List Record) (forgot marks left all : List Mark)
    → length records ≤ i → AreRising forgot
    → marks ++ merged (fallen_from keep (i + 1) (drop i records)) left ≡ merged
    (fallen_from keep 1 records) forgot
    → all ≡ marks ++ left → AreAllMarks keep records forgot all
pass_gives keep i records forgot marks left all over rising so_far is_all =
    let over_at =
    at_drop_all (λ (rs : List Record). merged
    (fallen_from keep (i + 1) rs) left) records i over in
    let whole : merged (fallen_from keep 1 records) forgot ≡ all =
    sym so_far ∙ ap (λ (xs : List Mark). marks ++ xs) over_at ∙ sym is_all in
    subst (λ (xs : List Mark). AreAllMarks keep records forgot xs) whole
    (all_merged keep records forgot rising)
