-- What one more record, and one more mark by hand, make of all marks.
use Rattle.std.proofs.Common.{◌≡◌, ℕ, zero, suc, ◌+◌, ◌-◌, ◌<◌, ◌≤◌, inl, inr, Bool, true, false, not, cond, ◌||◌, List, [], ◌∷◌, ◌++◌, length, filter, refl, sym, ap, ◌∙◌, subst, arith, append_assoc}
use Rattle.std.specs.Prelude.{All, ◌==◌}
use Rattle.std.specs.List.{list_any}
use Rattle.std.specs.List.Sorted.{IsPermutation}
use Rattle.std.proofs.lemmas.Bool.{cases_lt, ne_eqb}
use Rattle.std.proofs.lemmas.List.{append-nil}
use Rattle.std.proofs.lemmas.List.Elements.{All-nil, All-cons, All-tail, filter-append}
use Rattle.std.proofs.lemmas.List.Folds.{list_any-append}
use Rattle.std.proofs.lemmas.List.Sorted.{IsPermutation-refl, IsPermutation-append_right, IsPermutation-to_front}
use Rattle.history_model.specs.declared.histories.Record.{Record}
use Rattle.history_model.specs.declared.histories.Mark.{Mark}
use Rattle.retain.specs.Retained.{falls_out, fallen_by, fallen_from, unnamed_by}
use Rattle.retain.specs.Statements.{OneMoreRecord, OneMoreByHand}
use Rattle.retain.proofs.Merging.{falls, falls_not}

-- ---- a record

fallen_push : (keep n : ℕ) (records : List Record) (r : Record)
    → fallen_from keep n (records ++ r ∷ [])
    ≡ fallen_from keep n records ++ fallen_by (n + length records) r
    (falls_out (n + length records) keep)
fallen_push keep n [] r =
    let here : n ≡ n + length {A = Record} [] = omega arith in
    append-nil (fallen_by n r (falls_out n keep))
    ∙ ap (λ (k : ℕ). fallen_by k r (falls_out k keep)) here
fallen_push keep n (x ∷ more) r =
    let by : List Mark = fallen_by n x (falls_out n keep) in
    let at : n + 1 + length more ≡ n + length (x ∷ more) = omega arith in
    ap (λ (xs : List Mark). by ++ xs) (fallen_push keep (n + 1) more r)
    ∙ sym
    (append_assoc by (fallen_from keep (n + 1) more)
    (fallen_by (n + 1 + length more) r (falls_out (n + 1 + length more) keep)))
    ∙ ap (λ (k : ℕ). (by ++ fallen_from keep (n + 1) more) ++ fallen_by k r (falls_out k keep)) at

pub one_more_record : OneMoreRecord
one_more_record zero records r forgot = sym (append-nil forgot)
one_more_record (suc k) records r forgot =
    let test : Mark → Bool = λ m. not (list_any (λ o. o.version == m.version) forgot) in
    let fallen : List Mark = fallen_from (suc k) 1 records in
    let number : 1 + length records ≡ length records + 1 = omega arith in
    let last : List Mark =
    fallen_by (length records + 1) r (falls_out (length records + 1) (suc k)) in
    let pushed : fallen_from (suc k) 1 (records ++ r ∷ []) ≡ fallen ++ last =
    fallen_push (suc k) 1 records r
    ∙ ap (λ (n : ℕ). fallen ++ fallen_by n r (falls_out n (suc k))) number in
    ap (λ (xs : List Mark). forgot ++ filter test xs) pushed
    ∙ ap (λ (xs : List Mark). forgot ++ xs) (filter-append test fallen last)
    ∙ sym (append_assoc forgot (filter test fallen) (filter test last))

-- ---- a mark by hand

fallen_low : (keep n count : ℕ) (records : List Record) → 1 ≤ keep → n + length records ≤ count + 1
    → All (λ m. m.version + keep ≤ count) (fallen_from keep n records)
fallen_low keep n count [] some long = All-nil (λ m. m.version + keep ≤ count)
fallen_low keep n count (r ∷ more) some long =
    let rest = fallen_low keep (n + 1) count more some (omega (arith, long)) in
    elim (cases_lt n keep) [
      | inl early ↦ let none = falls_not n keep early in rw none rest
      | inr late ↦
          let one = falls n keep some late in
          let m : Mark =
          record { version = n - keep; at = n; session = r.session; line = r.line } in
          rw one (All-cons (λ m. m.version + keep ≤ count) m (fallen_from keep (n + 1) more)
          (omega (arith, late, long)) rest)
    ]

unnamed_still : (keep count : ℕ) (forgot marks : List Mark) (mark : Mark)
    → count < mark.version + keep
    → All (λ m. m.version + keep ≤ count) marks
    → unnamed_by (forgot ++ mark ∷ []) marks ≡ unnamed_by forgot marks
unnamed_still keep count forgot [] mark later low = refl
unnamed_still keep count forgot (m ∷ more) mark later low =
    let here = low 0 m (omega arith) in
    let other : (mark.version == m.version) ≡ false = ne_eqb mark.version m.version (λ same. omega (arith, here, later, same)) in
    let both = list_any-append (λ o. o.version == m.version) forgot (mark ∷ []) in
    let rest =
    unnamed_still keep count forgot more mark later
    (All-tail (λ x. x.version + keep ≤ count) m more low) in
    let named : list_any (λ o. o.version == m.version) (forgot ++ mark ∷ []) ≡ list_any (λ o. o.version == m.version) forgot =
    both ∙ none_more (mark.version == m.version)
    (list_any (λ o. o.version == m.version) forgot) other in
    ap (λ (b : Bool). cond (not b) (m ∷ unnamed_by (forgot ++ mark ∷ []) more)
    (unnamed_by (forgot ++ mark ∷ []) more)) named
    ∙ ap
    (λ (xs : List Mark). cond (not (list_any (λ o. o.version == m.version) forgot))
    (m ∷ xs) xs) rest
  where
    none_more : (b a : Bool) → b ≡ false → (a || (b || false)) ≡ a
    none_more b false off = rw off refl
    none_more b true off = refl

pub one_more_by_hand : OneMoreByHand
one_more_by_hand zero records forgot mark later = IsPermutation-refl (forgot ++ mark ∷ [])
one_more_by_hand (suc k) records forgot mark later =
    let fallen : List Mark = fallen_from (suc k) 1 records in
    let others : List Mark = unnamed_by forgot fallen in
    let low = fallen_low (suc k) 1 (length records) records (omega arith) (omega arith) in
    let same =
    unnamed_still (suc k) (length records) forgot fallen mark (later (omega arith)) low in
    let moved : IsPermutation (forgot ++ (others ++ mark ∷ [])) (forgot ++ mark ∷ others) =
    IsPermutation-append_right forgot (others ++ mark ∷ []) (mark ∷ others)
    (IsPermutation-to_front others mark) in
    let first : IsPermutation ((forgot ++ others) ++ mark ∷ []) (forgot ++ mark ∷ others) =
    subst (λ (xs : List Mark). IsPermutation xs (forgot ++ mark ∷ others))
    (sym (append_assoc forgot others (mark ∷ []))) moved in
    let last : forgot ++ mark ∷ others ≡ (forgot ++ mark ∷ []) ++ unnamed_by (forgot ++ mark ∷ []) fallen =
    sym (append_assoc forgot (mark ∷ []) others)
    ∙ ap (λ (xs : List Mark). (forgot ++ mark ∷ []) ++ xs) (sym same) in
    subst (λ (xs : List Mark). IsPermutation ((forgot ++ others) ++ mark ∷ []) xs) last first
