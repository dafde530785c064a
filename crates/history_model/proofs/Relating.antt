-- Two ways to keep the versions of one history, of which each edit keeps a relation.
use Rattle.std.proofs.Common.{◌≡◌, ℕ, zero, suc, ◌+◌, ◌-◌, ◌≤◌, Bool, true, false, List, [], ◌∷◌, ◌++◌, All, length, length-append, refl, sym, ◌∙◌, ap, subst, arith, inl, inr}
use Rattle.std.specs.List.{fold}
use Rattle.std.proofs.lemmas.Bool.{cases_eq, cases_lt}
use Rattle.std.proofs.Math.Seq.{get_or-append_seam}
use Rattle.std.proofs.lemmas.List.{get_or_append_left}
use Rattle.std.proofs.lemmas.List.Elements.{All-head, All-tail}
use Rattle.std.specs.Prelude.{slice_index_or}
use Rattle.history_model.specs.declared.acts.Act.{Act}
use Rattle.history_model.specs.declared.histories.Record.{Record}
use Rattle.history_model.specs.Worlds.{is_edit}
use Rattle.history_model.specs.Positions.{Position, next_position}
use Rattle.history_model.specs.Folds.{Stage, first_stage, state_at, newest, next_state, stage_by, state_of}
use Rattle.history_model.specs.FoldLaws.{next_of_edit, next_of_other}

past_end : {W : Type 0} (none : W) (list : List W) (k : ℕ) → length list ≤ k
    → slice_index_or list k none ≡ none
past_end none [] k le = refl
past_end none (w ∷ list) zero le = absurd (omega arith)
past_end none (w ∷ list) (suc k) le = past_end none list k (omega arith)

module _ (W V : Type 0) (Are : W → V → Type 0) (Good : Act → Type 0) (none : W) (nought : V)
    (f : Act → W → W) (g : Act → V → V) (first : Are none nought)
    (edits : (act : Act) (w : W) (v : V) → Good act → is_edit act ≡ true → Are w v
    → Are (f act w) (g act v)) where
  -- both stages have as many states, each related to the other's, and one position
  record AreStages (s : Stage W) (t : Stage V) : Type 0 where
    number : length s.states ≡ length t.states
    position : s.position ≡ t.position
    each : (k : ℕ) → Are (state_at none s.states k) (state_at nought t.states k)

  more_states : (ws : List W) (vs : List V) (w : W) (v : V) → length ws ≡ length vs
      → ((k : ℕ) → Are (state_at none ws k) (state_at nought vs k)) → Are w v → (k : ℕ)
      → Are (state_at none (ws ++ w ∷ []) k) (state_at nought (vs ++ v ∷ []) k)
  more_states ws vs w v number each here k = elim (cases_lt k (length ws)) [
    | inl lt ↦
        subst (λ (x : W). Are x (state_at nought (vs ++ v ∷ []) k))
        (sym (get_or_append_left ws (w ∷ []) none k lt))
        (subst (λ (x : V). Are (state_at none ws k) x)
        (sym (get_or_append_left vs (v ∷ []) nought k (omega (arith, number, lt)))) (each k))
    | inr ge ↦ elim (cases_eq k (length ws)) [
      | inl same ↦
          let on_w : state_at none (ws ++ w ∷ []) k ≡ w =
          ap (state_at none (ws ++ w ∷ [])) same ∙ get_or-append_seam ws w [] none in
          let on_v : state_at nought (vs ++ v ∷ []) k ≡ v =
          ap (state_at nought (vs ++ v ∷ [])) (same ∙ number)
          ∙ get_or-append_seam vs v [] nought in
          subst (λ (x : W). Are x (state_at nought (vs ++ v ∷ []) k)) (sym on_w)
          (subst (λ (x : V). Are w x) (sym on_v) here)
      | inr other ↦
          let of_w : length (ws ++ w ∷ []) ≡ length ws + 1 = length-append ws (w ∷ []) in
          let of_v : length (vs ++ v ∷ []) ≡ length vs + 1 = length-append vs (v ∷ []) in
          let far : length (ws ++ w ∷ []) ≤ k = omega arith in
          let away : length (vs ++ v ∷ []) ≤ k = omega (arith, far, of_w, of_v, number) in
          subst (λ (x : W). Are x (state_at nought (vs ++ v ∷ []) k))
          (sym (past_end none (ws ++ w ∷ []) k far))
          (subst (λ (x : V). Are none x) (sym (past_end nought (vs ++ v ∷ []) k away)) first)
    ]
  ]

  last_are : (ws : List W) (vs : List V) → length ws ≡ length vs
      → ((k : ℕ) → Are (state_at none ws k) (state_at nought vs k))
      → Are (state_at none ws (length ws - 1)) (state_at nought vs (length vs - 1))
  last_are ws vs number each =
      subst (λ (k : ℕ). Are (state_at none ws (length ws - 1)) (state_at nought vs (k - 1))) number
      (each (length ws - 1))

  next_are : (ws : List W) (vs : List V) (act : Act) (to : ℕ) (edit : Bool) → is_edit act ≡ edit
      → Good act → length ws ≡ length vs
      → ((k : ℕ) → Are (state_at none ws k) (state_at nought vs k))
      → Are (next_state none f ws act to) (next_state nought g vs act to)
  next_are ws vs act to true is ok number each =
      subst (λ (x : W). Are x (next_state nought g vs act to))
      (sym (next_of_edit none f ws act to is))
      (subst (λ (y : V). Are (f act (newest none ws)) y) (sym (next_of_edit nought g vs act to is))
      (edits act _ _ ok is (last_are ws vs number each)))
  next_are ws vs act to false is ok number each =
      subst (λ (x : W). Are x (next_state nought g vs act to))
      (sym (next_of_other none f ws act to is))
      (subst (λ (y : V). Are (state_at none ws to) y) (sym (next_of_other nought g vs act to is))
      (each to))

  step : (s : Stage W) (t : Stage V) (act : Act) → Good act → AreStages s t
      → AreStages (stage_by none f s act) (stage_by nought g t act)
  step s t act ok are =
      let of_s = length-append s.states (next_state none f s.states act
      (next_position (length s.states) act s.position).now ∷ []) in
      let of_t = length-append t.states (next_state nought g t.states act
      (next_position (length t.states) act t.position).now ∷ []) in
      let at : next_position (length s.states) act s.position
      ≡ next_position (length t.states) act t.position =
      ap (λ (n : ℕ). next_position n act s.position) are.number
      ∙ ap (next_position (length t.states) act) are.position in
      let number = are.number in
      record {
        number = omega (arith, of_s, of_t, number);
        position = at;
        each = more_states s.states t.states _ _ are.number are.each
            (subst (λ (p : Position). Are (next_state none f s.states act
            (next_position (length s.states) act s.position).now)
            (next_state nought g t.states act p.now)) at
            (next_are s.states t.states act
            (next_position (length s.states) act s.position).now
            (is_edit act) refl ok are.number are.each));
      }

  steps : (s : Stage W) (t : Stage V) (records : List Record) → All (λ r. Good r.act) records
      → AreStages s t
      → AreStages (fold (λ before r. stage_by none f before r.act) s records)
      (fold (λ before r. stage_by nought g before r.act) t records)
  steps s t [] all are = are
  steps s t (r ∷ records) all are =
      steps (stage_by none f s r.act) (stage_by nought g t r.act) records
      (All-tail (λ (x : Record). Good x.act) r records all)
      (step s t r.act (All-head (λ (x : Record). Good x.act) r records all) are)

  begun : AreStages (first_stage none) (first_stage nought)
  begun = record { number = refl; position = refl; each = each_first }
    where
      each_first : (k : ℕ) → Are (state_at none (none ∷ []) k) (state_at nought (nought ∷ []) k)
      each_first zero = first
      each_first (suc k) = first

  pub related : (records : List Record) → All (λ r. Good r.act) records → (n : ℕ)
      → Are (state_of none f records n) (state_of nought g records n)
  related records all n = (steps (first_stage none) (first_stage nought) records all begun).each n
