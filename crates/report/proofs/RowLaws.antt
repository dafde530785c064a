-- One version more: its row, and the first version with its root.
use Rattle.std.proofs.Common.{◌≡◌, ℕ, ◌+◌, ◌<◌, ◌≤◌, ◌==◌, Bool, true, false, if◌then◌else◌, List, [], ◌∷◌, ◌++◌, map, refl, sym, ◌∙◌, ap, subst, arith, inl, inr, Option, Some, None}
use Rattle.std.specs.Prelude.{unwrap_or}
use Rattle.std.specs.List.{Contains}
use Rattle.std.proofs.lemmas.Bool.{cases_lt, eqb-true, eq-eqb, false≢true}
use Rattle.std.proofs.lemmas.List.Quantifiers.{all_pairs_push}
use Rattle.std.proofs.lemmas.List.Elements.{All-nil, All-push, All-weaker, Contains-append_left, Contains-append_right}
use Rattle.history_model.specs.Logs.{Log}
use Rattle.node_words.specs.declared.shapes.names.Name.{Name}
use Rattle.core_laws.specs.contents.Versions.{HoldsVersion}
use Rattle.report.specs.declared.rows.ReportRow.{ReportRow}
use Rattle.report.specs.Roots.{FirstTold, RowsBelow, root_number, IsFirstAt, FirstsBelow}

versions_push : (rows : List ReportRow) (r : ReportRow)
    → map (λ s. s.version) (rows ++ r ∷ []) ≡ map (λ s. s.version) rows ++ r.version ∷ []
versions_push [] r = refl
versions_push (s ∷ rows) r = ap (λ (ns : List ℕ). s.version ∷ ns) (versions_push rows r)

-- equal numbers are of equal roots
same_name : (m n : Name) → m.bucket < 65536 → m.slot < 256 → n.bucket < 65536 → n.slot < 256
    → root_number m ≡ root_number n → m ≡ n
same_name m n mb ms nb ns same =
    let level : m.level ≡ n.level = omega arith in
    let bucket : m.bucket ≡ n.bucket = omega arith in
    let slot : m.slot ≡ n.slot = omega arith in
    λ t. record { level = level t; bucket = bucket t; slot = slot t }

module _ (log : Log) (root : ℕ → Option Name) (v : ℕ) where
  -- ---- rows

  pub rows_begin : RowsBelow log root 0 []
  rows_begin =
      record {
        rising = λ i j d low high. absurd
            (omega arith);
        below = All-nil _;
        kept = All-nil _;
        all = λ u less kept. absurd
            (omega arith);
        told = All-nil _;
      }

  -- versions of which none is kept may be passed over
  pub rows_to : (later : ℕ) (rows : List ReportRow) → v ≤ later
      → ((u : ℕ) → v ≤ u → u < later → ¬ HoldsVersion log u) → RowsBelow log root v rows
      → RowsBelow log root later rows
  rows_to later rows le none r = record {
    rising = r.rising;
    below = All-weaker (λ s. s.version < v) (λ s. s.version < later)
        (λ s less. omega arith) rows r.below;
    kept = r.kept;
    all = λ u less kept. elim (cases_lt u v) [
      | inl lower ↦ r.all u lower kept
      | inr high ↦ absurd (none u (omega arith) less kept)
    ];
    told = r.told;
  }

  pub rows_more : (rows : List ReportRow) (first : Option ℕ) → HoldsVersion log v
      → FirstTold log root v first → RowsBelow log root v rows
      → RowsBelow log root (v + 1) (rows ++ record { version = v; first = first } ∷ [])
  rows_more rows first kept told r =
      let row : ReportRow = record { version = v; first = first } in
      record {
        rising = all_pairs_push (λ a b. a.version < b.version) rows row r.rising r.below;
        below = All-push (λ s. s.version < v + 1) rows row
            (All-weaker (λ s. s.version < v) (λ s. s.version < v + 1)
            (λ s less. omega arith) rows r.below) (omega arith);
        kept = All-push (λ s. HoldsVersion log s.version) rows row r.kept kept;
        all = λ u less of_u. subst (λ (ns : List ℕ). Contains ns u) (sym (versions_push rows row))
            (elim (cases_lt u v) [
              | inl lower ↦ Contains-append_left (map (λ s. s.version) rows) (v ∷ []) u
                  (r.all u lower of_u)
              | inr high ↦ Contains-append_right (map (λ s. s.version) rows) (v ∷ []) u
                  (0, omega arith, omega arith)
            ]);
        told = All-push (λ s. FirstTold log root s.version s.first) rows row r.told told;
      }

  -- ---- firsts

  pub firsts_begin : (firsts : ℕ → Option ℕ) → ((k : ℕ) → firsts k ≡ None)
      → FirstsBelow log root 0 firsts
  firsts_begin firsts none =
      record {
        first = λ k w is. absurd
            (let e = sym (none k) ∙ is in let no : ⊥ = cc in no);
        there = λ u n less kept is. absurd
            (omega arith);
      }

  later_first : (later k w : ℕ) → v ≤ later → IsFirstAt log root v k w
      → IsFirstAt log root later k w
  later_first later k w le f =
      record {
        kept = f.kept;
        below =
            (let below = f.below in omega arith);
        name = f.name;
        is = f.is;
        number = f.number;
        bucket = f.bucket;
        slot = f.slot;
        least = f.least;
      }

  pub firsts_skip : (firsts : ℕ → Option ℕ) → (HoldsVersion log v → root v ≡ None)
      → FirstsBelow log root v firsts → FirstsBelow log root (v + 1) firsts
  firsts_skip firsts none f = record {
    first = λ k w is. later_first (v + 1) k w (omega arith) (f.first k w is);
    there = λ u n less kept is. elim (cases_lt u v) [
      | inl lower ↦ f.there u n lower kept is
      | inr high ↦ absurd (
          let at : u ≡ v = omega arith in
          let here : root v ≡ None = none (subst (λ (m : ℕ). HoldsVersion log m) at kept) in
          let e : Some n ≡ None = sym is ∙ ap root at ∙ here in
          let no : ⊥ = cc in no)
    ];
  }

  pub firsts_to : (later : ℕ) (firsts : ℕ → Option ℕ) → v ≤ later
      → ((u : ℕ) → v ≤ u → u < later → ¬ HoldsVersion log u) → FirstsBelow log root v firsts
      → FirstsBelow log root later firsts
  firsts_to later firsts le none f = record {
    first = λ k w is. later_first later k w le (f.first k w is);
    there = λ u n less kept is. elim (cases_lt u v) [
      | inl lower ↦ f.there u n lower kept is
      | inr high ↦ absurd (none u (omega arith) less kept)
    ];
  }

  module _ (n : Name) (bucket : n.bucket < 65536) (slot : n.slot < 256) (is : root v ≡ Some n)
      (kept : HoldsVersion log v) (old : ℕ → Option ℕ) (f : FirstsBelow log root v old) where
    -- the first version with the root of this one
    pub first_told : (listed : Option ℕ) → listed ≡ old (root_number n)
        → FirstTold log root v (Some (unwrap_or listed v))
    first_told None none = record {
      kept = kept;
      low = omega arith;
      some = λ e. (let no : ⊥ = cc in no);
      same = refl;
      least = λ u less of_u e. f.there u n less of_u (e ∙ is) (sym none);
    }
    first_told (Some w) listed =
        let at = f.first (root_number n) w (sym listed) in
        let same : at.name ≡ n = same_name at.name n at.bucket at.slot bucket slot at.number in
        record {
          kept = at.kept;
          low = (let below = at.below in omega arith);
          some = λ e. (let no : ⊥ = cc in no);
          same = at.is ∙ ap Some same ∙ sym is;
          least = λ u less of_u e. at.least u less of_u (e ∙ is ∙ ap Some (sym same));
        }

    -- it is listed from now on
    here_first : (listed : Option ℕ) → listed ≡ old (root_number n)
        → IsFirstAt log root (v + 1) (root_number n) (unwrap_or listed v)
    here_first None none =
        record { kept = kept; below = omega arith; name = n; is = is; number = refl; bucket = bucket; slot = slot; least = λ u less of_u e. f.there u n less of_u e (sym none) }
    here_first (Some w) listed = later_first (v + 1) (root_number n) w (omega arith)
        (f.first (root_number n) w (sym listed))

    pub firsts_more : (new : ℕ → Option ℕ)
        →
        ((k : ℕ) → new k
        ≡ (if k == root_number n then Some (unwrap_or (old (root_number n)) v) else old k))
        → FirstsBelow log root (v + 1) new
    firsts_more new each = record {
      first = λ k w found. of_first k w (k == root_number n) refl (sym (each k) ∙ found);
      there = λ u m less of_u at none. of_there u m less of_u at
          (root_number m == root_number n) refl (sym (each (root_number m)) ∙ none);
    }
      where
        of_first : (k w : ℕ) (b : Bool) → (k == root_number n) ≡ b
            → (if b then Some (unwrap_or (old (root_number n)) v) else old k) ≡ Some w
            → IsFirstAt log root (v + 1) k w
        of_first k w true e found =
            let number : k ≡ root_number n = eqb-true k (root_number n) e in
            let first : unwrap_or (old (root_number n)) v ≡ w = cc in
            subst (λ (j : ℕ). IsFirstAt log root (v + 1) j w) (sym number)
            (subst (λ (u : ℕ). IsFirstAt log root (v + 1) (root_number n) u) first
            (here_first (old (root_number n)) refl))
        of_first k w false e found = later_first (v + 1) k w (omega arith) (f.first k w found)

        of_there : (u : ℕ) (m : Name) → u < v + 1 → HoldsVersion log u → root u ≡ Some m
            → (b : Bool)
            → (root_number m == root_number n) ≡ b
            → (if b then Some (unwrap_or (old (root_number n)) v) else old (root_number m)) ≡ None
            → ⊥
        of_there u m less of_u at true e none = cc
        of_there u m less of_u at false e none = elim (cases_lt u v) [
          | inl lower ↦ f.there u m lower of_u at none
          | inr high ↦ (
              let here : u ≡ v = omega arith in
              let name : Some m ≡ Some n = sym at ∙ ap root here ∙ is in
              let same : m ≡ n = cc in
              let number : root_number m ≡ root_number n = ap root_number same in
              false≢true (sym e ∙ eq-eqb (root_number m) (root_number n) number))
        ]

-- ---- what becomes of a kept version

module _ (log : Log) (root : ℕ → Option Name) (v : ℕ) (rows : List ReportRow)
    (old : ℕ → Option ℕ) (kept : HoldsVersion log v) (r : RowsBelow log root v rows)
    (f : FirstsBelow log root v old) where
  more_rows : (more : List ReportRow) (first : Option ℕ) → FirstTold log root v first
      → more ≡ rows ++ record { version = v; first = first } ∷ [] → RowsBelow log root (v + 1) more
  more_rows more first told pushed = subst
      (λ (rs : List ReportRow). RowsBelow log root (v + 1) rs) (sym pushed)
      (rows_more log root v rows first kept told r)

  pub empty_row : (more : List ReportRow) (new : ℕ → Option ℕ) (first : Option ℕ)
      → root v ≡ None → first ≡ None → new ≡ old
      → more ≡ rows ++ record { version = v; first = first } ∷ []
      → RowsBelow log root (v + 1) more × FirstsBelow log root (v + 1) new
  empty_row more new first none is same pushed = (
    more_rows more first
        (subst (λ (o : Option ℕ). FirstTold log root v o) (sym is) none) pushed,
    subst (λ (g : ℕ → Option ℕ). FirstsBelow log root (v + 1) g) (sym same)
        (firsts_skip log root v old (λ kept. none) f),
  )

  pub rooted_row : (more : List ReportRow) (new : ℕ → Option ℕ) (first : Option ℕ) (n : Name)
      (found : ℕ) → root v ≡ Some n
      → n.bucket < 65536 → n.slot < 256 → first ≡ Some found
      → found ≡ unwrap_or (old (root_number n)) v
      → ((k : ℕ) → new k ≡ (if k == root_number n then Some found else old k))
      → more ≡ rows ++ record { version = v; first = first } ∷ []
      → RowsBelow log root (v + 1) more × FirstsBelow log root (v + 1) new
  rooted_row more new first n found is bucket slot listed which each pushed =
      let told : FirstTold log root v (Some (unwrap_or (old (root_number n)) v)) =
      first_told log root v n bucket slot is kept old f (old (root_number n)) refl in (
        more_rows more first
            (subst (λ (o : Option ℕ). FirstTold log root v o)
            (ap Some (sym which) ∙ sym listed) told) pushed,
        firsts_more log root v n bucket slot is kept old f new
            (λ k. each k ∙ ap (λ (w : ℕ). if k == root_number n then Some w else old k) which),
      )
