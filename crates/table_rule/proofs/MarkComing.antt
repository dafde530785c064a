-- A mark comes to the marks that words show.
use Rattle.std.proofs.Common.{◌≡◌, ◌≢◌, ℕ, zero, suc, ◌+◌, ◌<◌, List, [], ◌∷◌, ◌++◌, get_or, refl, sym, ap, ◌∙◌, subst, ⊎_elim, inl, inr, arith, append_assoc, sum_by}
use Rattle.std.specs.List.{Contains}
use Rattle.std.proofs.lemmas.Bool.{cases_eq}
use Rattle.std.proofs.lemmas.List.Elements.{All-append, Contains-append_left, Contains-append_right, Contains-append_cases}
use Rattle.std.proofs.lemmas.List.Sums.{sum_by-cons, sum_by-append}
use Rattle.core_laws.specs.places.WordIds.{WordId, Version}
use Rattle.history_model.specs.declared.histories.Mark.{Mark}
use Rattle.core_laws.specs.contents.Versions.{InsertsMark}
use Rattle.table_rule.specs.LogWords.{mark_of_words, if_marked, marks_in}
use Rattle.table_rule.proofs.Containing.{contains_more}
use Rattle.table_rule.proofs.LogReading.{marks_kept, marks_suc, mark_read}
use Rattle.table_rule.proofs.OwnLaws.{all_from}

one_version : (v word who : ℕ) (y : Mark) → Contains (if_marked v word who) y → y.version ≡ v
one_version v zero who y c = absurd (let k = c.1 in omega arith)
one_version v (suc when) who y c = go c.0 c.1 c.2
  where
    go : (k : ℕ) → k < 1 → get_or (mark_of_words v when who ∷ []) k y ≡ y → y.version ≡ v
    go zero lt e = sym (ap (λ (m : Mark). m.version) e)
    go (suc k) lt e = absurd (omega arith)

-- the word of one version's mark becomes 1 plus a length, and no other word of a mark changes
pub record OneMarked (old new : WordId → ℕ) (m : Mark) : Type 0 where
  pub six : (v : ℕ) → v ≢ m.version → new (Version v 6) ≡ old (Version v 6)
  pub seven : (v : ℕ) → new (Version v 7) ≡ old (Version v 7)
  pub was : old (Version m.version 6) ≡ 0
  pub now : new (Version m.version 6) ≡ suc m.at
  pub is : mark_of_words m.version m.at (old (Version m.version 7)) ≡ m

module _ (old new : WordId → ℕ) (m : Mark) (o : OneMarked old new m) where
  last_here : (k : ℕ) → m.version ≡ k → InsertsMark (marks_in old (suc k)) m (marks_in new (suc k))
  last_here k same = record {
    before = marks_in old k;
    after = [];
    was = marks_suc old k
        ∙ ap (λ (w : ℕ). marks_in old k ++ if_marked k w (old (Version k 7)))
        (ap (λ (u : ℕ). old (Version u 6)) (sym same) ∙ o.was);
    is = marks_suc new k
        ∙ (let front = marks_kept old new k (λ v lt. o.six v (λ e. omega arith))
        (λ v lt ne. o.seven v) in
        let end : if_marked k (new (Version k 6)) (new (Version k 7)) ≡ m ∷ [] =
        (let word = ap (λ (u : ℕ). new (Version u 6)) (sym same) ∙ o.now in
        let who = o.seven k in
        (λ j. if_marked k (word j) (who j))
        ∙ ap (λ (y : Mark). y ∷ [])
        (ap (λ (u : ℕ). mark_of_words u m.at (old (Version u 7))) (sym same) ∙ o.is)) in
        λ j. front j ++ end j);
    lower = all_from (λ y. y.version < m.version) (marks_in old k)
        (λ y c. (let b = (mark_read old k y c).below in omega arith));
    higher = λ i y lt. absurd (omega arith);
  }

  pub mark_comes : (n : ℕ) → m.version < n → InsertsMark (marks_in old n) m (marks_in new n)
  mark_comes zero lt = absurd (omega arith)
  mark_comes (suc k) lt = elim (cases_eq m.version k) [
    | inl same ↦ last_here k same
    | inr other ↦
        (let c = mark_comes k (omega arith) in
        let end : List Mark = if_marked k (old (Version k 6)) (old (Version k 7)) in
        let same : if_marked k (new (Version k 6)) (new (Version k 7)) ≡ end =
        (let six = o.six k (λ e. other (sym e)) in let seven = o.seven k in
        λ j. if_marked k (six j) (seven j)) in
        record {
          before = c.before;
          after = c.after ++ end;
          was = marks_suc old k ∙ ap (λ (l : List Mark). l ++ end) c.was
              ∙ append_assoc c.before c.after end;
          is = marks_suc new k
              ∙ (let front = c.is in λ j. front j ++ same j)
              ∙ append_assoc c.before (m ∷ c.after) end;
          lower = c.lower;
          higher = All-append (λ y. m.version < y.version) c.after end c.higher
              (all_from (λ y. m.version < y.version) end
              (λ y h. (let e = one_version k (old (Version k 6)) (old (Version k 7)) y h in
              omega arith)));
        })
  ]

-- what holds once a mark came
pub comes_sum : (g : Mark → ℕ) (a : List Mark) (m : Mark) (b : List Mark) → InsertsMark a m b
    → sum_by g b ≡ g m + sum_by g a
comes_sum g a m b c =
    let x = ap (λ (l : List Mark). sum_by g l) c.is ∙ sum_by-append g c.before (m ∷ c.after) in
    let y = ap (λ (l : List Mark). sum_by g l) c.was ∙ sum_by-append g c.before c.after in
    let z = sum_by-cons g m c.after in omega arith

pub comes_new : (a : List Mark) (m : Mark) (b : List Mark) → InsertsMark a m b → Contains b m
comes_new a m b c =
    subst (λ (l : List Mark). Contains l m) (sym c.is)
    (Contains-append_right c.before (m ∷ c.after) m (0, omega arith, refl))

pub comes_keeps : (a : List Mark) (m : Mark) (b : List Mark) (y : Mark) → InsertsMark a m b
    → Contains a y → Contains b y
comes_keeps a m b y c h =
    subst (λ (l : List Mark). Contains l y) (sym c.is)
    (⊎_elim (λ l. Contains-append_left c.before (m ∷ c.after) y l)
    (λ r. Contains-append_right c.before (m ∷ c.after) y (contains_more m c.after y r))
    (Contains-append_cases c.before c.after y (subst (λ (l : List Mark). Contains l y) c.was h)))
