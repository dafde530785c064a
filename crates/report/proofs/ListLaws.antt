-- The rows of roots that stand in a list, one after another.
use Rattle.std.proofs.Common.{◌≡◌, ℕ, zero, suc, ◌+◌, ◌<◌, ◌≤◌, ◌==◌, Bool, true, false, if◌then◌else◌, Option, None, List, [], ◌∷◌, length, get_or, refl, sym, ◌∙◌, ap, subst, arith, inl, inr, eq-eqb}
use Rattle.std.specs.Prelude.{AllPairs}
use Rattle.std.proofs.lemmas.Bool.{cases_lt, eqb-true}
use Rattle.std.proofs.lemmas.List.{get_or-map, get_or_default, length-map}
use Rattle.history_model.specs.Logs.{Log}
use Rattle.core_laws.specs.contents.Versions.{HoldsVersion}
use Rattle.world_core.specs.declared.closed.Root.{Root}
use Rattle.report.specs.declared.rows.ReportRow.{ReportRow}
use Rattle.report.specs.Roots.{AreKeptRoots, FirstsBelow, IsBetween, RowsBefore, RowsBelow, root_in_list}
use Rattle.report.proofs.RowLaws.{firsts_begin, firsts_to, rows_begin, rows_to}

bool_false : (b : Bool) → (b ≡ true → ⊥) → b ≡ false
bool_false true h = absurd (h refl)
bool_false false h = refl

-- a root of rising versions is that of its version
told_at : (roots : List Root) (i : ℕ) (d : Root) → AllPairs (λ a b. a.version < b.version) roots
    → i < length roots → root_in_list roots (get_or roots i d).version ≡ (get_or roots i d).name
told_at [] i d rising lt = absurd (omega arith)
told_at (r ∷ roots) zero d rising lt =
    ap (λ (b : Bool). if b then r.name else root_in_list roots r.version)
    (eq-eqb r.version r.version refl)
told_at (r ∷ roots) (suc i) d rising lt =
    let v : ℕ = (get_or roots i d).version in
    let less : r.version < v = rising 0 (suc i) d (omega arith) lt in
    ap (λ (b : Bool). if b then r.name else root_in_list roots v)
    (bool_false (r.version == v)
    (λ e. let same : r.version ≡ v = eqb-true r.version v e in omega arith))
    ∙ told_at roots i d
    (λ j k e low high. rising (suc j) (suc k) e (omega arith) (omega arith)) (omega arith)

module _ (log : Log) (roots : List Root) (are : AreKeptRoots log roots) where
  no_root : Root
  no_root = record { version = 0; name = None }

  -- a kept version is that of a root in the list
  place_of : (u : ℕ) → HoldsVersion log u
      → (j : ℕ) × (j < length roots) × ((get_or roots j no_root).version ≡ u)
  place_of u kept =
      let there = are.all u kept in
      let inside = there.1 in
      let long = length-map roots (λ (r : Root). r.version) in
      let lt : there.0 < length roots = omega arith in (
        there.0,
        lt,
        sym (get_or-map (λ (r : Root). r.version) roots there.0 no_root u lt) ∙ there.2,
      )

  -- no version is kept between the roots before a place and the one behind it
  none_between : (i v later u : ℕ)
      → ((j : ℕ) → j < i → j < length roots → (get_or roots j no_root).version < v)
      → IsBetween roots i later → v ≤ u → u < later → ¬ HoldsVersion log u
  none_between i v later u before between low high kept =
      let at = place_of u kept in
      let inside = at.1 in
      let is = at.2 in
      elim (cases_lt at.0 i) [
        | inl front ↦ (let less = before at.0 front inside in omega arith)
        | inr past ↦ (let le = between.behind at.0 no_root past inside in omega arith)
      ]

  pub none_before : (rows : List ReportRow) (firsts : ℕ → Option ℕ) → rows ≡ []
      → ((k : ℕ) → firsts k ≡ None) → RowsBefore log roots 0 rows firsts
  none_before rows firsts is none = record {
    below = λ v between. rows_to log (root_in_list roots) 0 v rows (omega arith)
        (λ u low high. none_between 0 0 v u (λ j no lt. absurd (omega arith)) between low high)
        (subst (λ (rs : List ReportRow). RowsBelow log (root_in_list roots) 0 rs) (sym is)
        (rows_begin log (root_in_list roots) 0));
    look_up = λ v between. firsts_to log (root_in_list roots) 0 v firsts (omega arith)
        (λ u low high. none_between 0 0 v u (λ j no lt. absurd (omega arith)) between low high)
        (firsts_begin log (root_in_list roots) 0 firsts none);
  }

  module _ (i : ℕ) (r : Root) (lt : i < length roots) (is : r ≡ get_or roots i r) where
    here_is : (d : Root) → get_or roots i d ≡ r
    here_is d = get_or_default roots i d r lt ∙ sym is

    lower : (j : ℕ) (d : Root) → j < i → (get_or roots j d).version < r.version
    lower j d less =
        let rises = are.rising j i d less lt in
        let same = ap (λ (s : Root). s.version) (here_is d) in
        omega arith

    is_between : IsBetween roots i r.version
    is_between = record {
      before = λ j d less inside. lower j d less;
      behind = λ j d le inside. elim (cases_lt i j) [
        | inl less ↦ (
            let rises = are.rising i j d less inside in
            let same = ap (λ (s : Root). s.version) (here_is d) in
            omega arith)
        | inr past ↦ (
            let at : j ≡ i = omega arith in
            let same = ap (λ (k : ℕ). (get_or roots k d).version) at in
            let here = ap (λ (s : Root). s.version) (here_is d) in
            omega arith)
      ];
    }

    up_to : (j : ℕ) → j < i + 1 → (get_or roots j no_root).version < r.version + 1
    up_to j less = elim (cases_lt j i) [
      | inl before ↦ (let rises = lower j no_root before in omega arith)
      | inr past ↦ (
          let at : j ≡ i = omega arith in
          let same = ap (λ (k : ℕ). (get_or roots k no_root).version) at in
          let here = ap (λ (s : Root). s.version) (here_is no_root) in
          omega arith)
    ]

    over : (v : ℕ) → IsBetween roots (i + 1) v → r.version + 1 ≤ v
    over v between =
        let below = between.before i r (omega arith) lt in
        let same = ap (λ (s : Root). s.version) is in
        omega arith

    one_before : (old new : List ReportRow) (olds news : ℕ → Option ℕ)
        → RowsBefore log roots i old olds
        → (r.name ≡ root_in_list roots r.version → HoldsVersion log r.version
        → RowsBelow log (root_in_list roots) r.version old
        → FirstsBelow log (root_in_list roots) r.version olds
        → RowsBelow log (root_in_list roots) (r.version + 1) new
        × FirstsBelow log (root_in_list roots) (r.version + 1) news)
        → RowsBefore log roots (i + 1) new news
    one_before old new olds news so_far step =
        let named : r.name ≡ root_in_list roots r.version =
        sym (subst (λ (s : Root). root_in_list roots s.version ≡ s.name) (sym is)
        (told_at roots i r are.rising lt))
        in
        let kept : HoldsVersion log r.version =
        subst (λ (s : Root). HoldsVersion log s.version) (sym is) (are.kept i r lt) in
        let both = step named kept (so_far.below r.version is_between)
        (so_far.look_up r.version is_between) in
        record {
          below = λ v between. rows_to log (root_in_list roots) (r.version + 1) v new
              (over v between)
              (λ u low high. none_between (i + 1) (r.version + 1) v u
              (λ j less inside. up_to j less)
              between low high) both.0;
          look_up = λ v between. firsts_to log (root_in_list roots) (r.version + 1) v news
              (over v between)
              (λ u low high. none_between (i + 1) (r.version + 1) v u
              (λ j less inside. up_to j less)
              between low high) both.1;
        }

  -- one root more, which a loan has as it is in the list
  pub one_more : (i : ℕ) (r : Root) (old new : List ReportRow) (olds news : ℕ → Option ℕ)
      → (r.name ≡ root_in_list roots r.version → HoldsVersion log r.version
      → RowsBelow log (root_in_list roots) r.version old
      → FirstsBelow log (root_in_list roots) r.version olds
      → RowsBelow log (root_in_list roots) (r.version + 1) new
      × FirstsBelow log (root_in_list roots) (r.version + 1) news)
      → i < length roots → r ≡ get_or roots i r → RowsBefore log roots i old olds
      → RowsBefore log roots (i + 1) new news
  one_more i r old new olds news step lt is so_far =
      one_before i r lt is old new olds news so_far step

  pub all_before : (rows : List ReportRow) (firsts : ℕ → Option ℕ) (i : ℕ) → length roots ≤ i
      → RowsBefore log roots i rows firsts
      → RowsBelow log (root_in_list roots) (length log.records + 1) rows
  all_before rows firsts i past so_far = so_far.below (length log.records + 1) (record {
    before = λ j d less inside. (let there = (are.kept j d inside).there in omega arith);
    behind = λ j d le inside. absurd (omega arith);
  })
