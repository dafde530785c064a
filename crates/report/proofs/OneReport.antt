-- A history has one report.
use Rattle.std.proofs.Common.{◌≡◌, ◌≢◌, ℕ, zero, suc, ◌+◌, ◌-◌, ◌^◌, ◌<◌, ◌≤◌, ◌⊎◌, List, [], ◌∷◌, length, map, get_or, refl, sym, ◌∙◌, ap, subst, arith, inl, inr, Option, Some, None}
use Rattle.std.specs.Prelude.{All}
use Rattle.std.specs.List.{AllPairs, Contains}
use Rattle.std.proofs.lemmas.Bool.{cases_lt, cases_eq}
use Rattle.std.proofs.lemmas.List.{ext_get_or, get_or-map, length-map}
use Rattle.std.proofs.lemmas.List.Elements.{All-head, All-tail}
use Rattle.history_model.specs.Contents.{Content}
use Rattle.history_model.specs.Logs.{Log}
use Rattle.history_model.specs.Stores.{store_has}
use Rattle.core_laws.specs.contents.Aligned.{world_block}
use Rattle.core_laws.specs.contents.Versions.{HoldsVersion}
use Rattle.report.specs.declared.rows.ReportRow.{ReportRow}
use Rattle.report.specs.Reports.{FirstFits, AreHeldRows, IsReport, report_of}
use Rattle.report.proofs.NumberLaws.{one_number}

-- rising numbers

first_or_later : (x z : ℕ) (xs : List ℕ) → Contains (x ∷ xs) z → (x ≡ z) ⊎ Contains xs z
first_or_later x z xs (zero, lt, e) = inl e
first_or_later x z xs (suc k, lt, e) = inr (k, omega arith, e)

above : (x z : ℕ) (xs : List ℕ) → AllPairs (λ a b. a < b) (x ∷ xs) → Contains xs z → x < z
above x z xs rising (k, lt, e) =
    (let less : x < get_or xs k z = rising 0 (suc k) z (omega arith) (omega arith) in omega arith)

rest_rises : (x : ℕ) (xs : List ℕ) → AllPairs (λ a b. a < b) (x ∷ xs) → AllPairs (λ a b. a < b) xs
rest_rises x xs rising i j d low high = rising (suc i) (suc j) d (omega arith) (omega arith)

later : (x z : ℕ) (xs : List ℕ) → Contains xs z → Contains (x ∷ xs) z
later x z xs (k, lt, e) = (suc k, omega arith, e)

rest_has : (x y : ℕ) (xs ys : List ℕ) → x ≡ y → AllPairs (λ a b. a < b) (x ∷ xs)
    → ((z : ℕ) → Contains (x ∷ xs) z → Contains (y ∷ ys) z) → (z : ℕ) → Contains xs z
    → Contains ys z
rest_has x y xs ys same rising into z there =
    elim (first_or_later y z ys (into z (later x z xs there))) [
      | inl first ↦ absurd (let high = above x z xs rising there in omega arith)
      | inr rest ↦ rest
    ]

same_first : (x y : ℕ) (xs ys : List ℕ) → AllPairs (λ a b. a < b) (x ∷ xs)
    → AllPairs (λ a b. a < b) (y ∷ ys) → Contains (y ∷ ys) x → Contains (x ∷ xs) y → x ≡ y
same_first x y xs ys rx ry a b = elim (first_or_later y x ys a) [
  | inl e ↦ sym e
  | inr low ↦ elim (first_or_later x y xs b) [
    | inl e ↦ e
    | inr high ↦ absurd (let p = above y x ys ry low in let q = above x y xs rx high in omega arith)
  ]
]

pub same_rising : (xs ys : List ℕ) → AllPairs (λ a b. a < b) xs → AllPairs (λ a b. a < b) ys
    → ((z : ℕ) → Contains xs z → Contains ys z) → ((z : ℕ) → Contains ys z → Contains xs z)
    → xs ≡ ys
same_rising [] [] rx ry into back = refl
same_rising [] (y ∷ ys) rx ry into back =
    absurd (let c = back y (0, omega arith, refl) in let lt = c.1 in omega arith)
same_rising (x ∷ xs) [] rx ry into back =
    absurd (let c = into x (0, omega arith, refl) in let lt = c.1 in omega arith)
same_rising (x ∷ xs) (y ∷ ys) rx ry into back =
    let first : x ≡ y =
    same_first x y xs ys rx ry (into x (0, omega arith, refl))
    (back y (0, omega arith, refl)) in
    let rest : xs ≡ ys =
    same_rising xs ys (rest_rises x xs rx) (rest_rises y ys ry)
    (rest_has x y xs ys first rx into) (rest_has y x ys xs (sym first) ry back) in
    λ t. first t ∷ rest t

-- rows

one_root : (models : List Content) (log : Log) (v : ℕ) (a b : Option ℕ) → FirstFits models log v a
    → FirstFits models log v b → a ≡ b
one_root models log v None None f g = refl
one_root models log v None (Some w) f g = absurd (g.0 f)
one_root models log v (Some u) None f g = absurd (f.0 g)
one_root models log v (Some u) (Some w) f g = elim (cases_eq u w) [
  | inl same ↦ ap Some same
  | inr other ↦ elim (cases_lt u w) [
    | inl low ↦ absurd (g.1.least u low f.1.kept f.1.same)
    | inr high ↦ absurd (f.1.least w (omega arith) g.1.kept g.1.same)
  ]
]

one_list : (models : List Content) (log : Log) (rows others : List ReportRow)
    → map (λ r. r.version) rows ≡ map (λ r. r.version) others
    → All (λ r. FirstFits models log r.version r.first) rows
    → All (λ r. FirstFits models log r.version r.first) others → rows ≡ others
one_list models log [] [] e f g = refl
one_list models log [] (s ∷ others) e f g = absurd (let bad : ⊥ = cc in bad)
one_list models log (r ∷ rows) [] e f g = absurd (let bad : ⊥ = cc in bad)
one_list models log (r ∷ rows) (s ∷ others) e f g =
    let fit : ReportRow → Type 0 = λ (x : ReportRow). FirstFits models log x.version x.first in
    let version : r.version ≡ s.version = ap (λ (ns : List ℕ). get_or ns 0 0) e in
    let rest : map (λ x. x.version) rows ≡ map (λ x. x.version) others =
    ap (λ (ns : List ℕ). Rattle.std.proofs.Common.drop 1 ns) e in
    let root : r.first ≡ s.first =
    one_root models log s.version r.first s.first
    (subst (λ (v : ℕ). FirstFits models log v r.first) version (All-head fit r rows f))
    (All-head fit s others g) in
    let more : rows ≡ others =
    one_list models log rows others rest (All-tail fit r rows f) (All-tail fit s others g) in
    λ t. record { version = version t; first = root t } ∷ more t

rises : (rows : List ReportRow) → AllPairs (λ a b. a.version < b.version) rows
    → AllPairs (λ a b. a < b) (map (λ r. r.version) rows)
rises rows rising i j d low high =
    let len : length (map (λ (r : ReportRow). r.version) rows) ≡ length rows =
    length-map rows (λ (r : ReportRow). r.version) in
    let none : ReportRow = record { version = 0; first = None } in
    let a : get_or (map (λ (r : ReportRow). r.version) rows) i d ≡ (get_or rows i none).version =
    get_or-map (λ (r : ReportRow). r.version) rows i none d (omega arith) in
    let b : get_or (map (λ (r : ReportRow). r.version) rows) j d ≡ (get_or rows j none).version =
    get_or-map (λ (r : ReportRow). r.version) rows j none d (omega arith) in
    let c : (get_or rows i none).version < (get_or rows j none).version =
    rising i j none low (omega arith) in
    omega arith

held_kept : (log : Log) (rows : List ReportRow) (z : ℕ) → AreHeldRows log rows
    → Contains (map (λ r. r.version) rows) z → HoldsVersion log z
held_kept log rows z held (k, lt, e) =
    let len : length (map (λ (r : ReportRow). r.version) rows) ≡ length rows =
    length-map rows (λ (r : ReportRow). r.version) in
    let none : ReportRow = record { version = 0; first = None } in
    let a : get_or (map (λ (r : ReportRow). r.version) rows) k z ≡ (get_or rows k none).version =
    get_or-map (λ (r : ReportRow). r.version) rows k none z (omega arith) in
    subst (λ (v : ℕ). HoldsVersion log v) (sym a ∙ e) (held.kept k none (omega arith))

pub one_report : (models : List Content) (log : Log) (a b : List ℕ) → IsReport models log a
    → IsReport models log b → a ≡ b
one_report models log a b f g =
    let versions =
    same_rising (map (λ (r : ReportRow). r.version) f.rows)
    (map (λ (r : ReportRow). r.version) g.rows) (rises f.rows f.held.rising)
    (rises g.rows g.held.rising)
    (λ z c. g.held.all z (held_kept log f.rows z f.held c))
    (λ z c. f.held.all z (held_kept log g.rows z g.held c)) in
    let rows : f.rows ≡ g.rows = one_list models log f.rows g.rows versions f.fit g.fit in
    let many = f.are.as_many in
    let numbers : f.numbers ≡ g.numbers =
    ext_get_or 0 f.numbers g.numbers (f.are.as_many ∙ sym g.are.as_many)
    (λ i lt. one_number (world_block log.side) (λ v. store_has models log v)
    (HoldsVersion log) i _ _ (f.are.each i (omega arith)) (g.are.each i (omega arith))) in
    f.is ∙ ap (λ (rs : List ReportRow). report_of log rs f.numbers) rows
    ∙ ap (λ (ns : List ℕ). report_of log g.rows ns) numbers ∙ sym g.is
