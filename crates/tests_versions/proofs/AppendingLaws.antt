-- What the log's turn needs to append an empty world of side 4, and leaves of a pass that held
-- nothing.
use Rattle.std.proofs.Common.{◌≡◌, ℕ, ◌+◌, ◌*◌, ◌^◌, ◌<◌, ◌%◌, None, List, [], ◌∷◌, length-append, refl, sym, ap, ◌∙◌, subst, arith}
use Rattle.node_words.specs.shapes.Tree.{Tree}
use Rattle.node_words.specs.shapes.Weights.{weigh}
use Rattle.node_words.proofs.OfShapes.WeightLaws.{weight_of-gone}
use Rattle.node_words.specs.Plans.{Layout}
use Rattle.history_model.specs.declared.acts.Act.{Act}
use Rattle.table_rule.specs.LogFacts.{number_seen}
use Rattle.table_rule.specs.Views.{SeatView}
use Rattle.node_table.specs.Closing.{IsSpare}
use Rattle.node_table.specs.LogTurns.{AppendsInTurn, ForAppended, HasLogTurn, LearnsLog, MayAppendWords, TakesLog, log_left}
use Rattle.node_table.specs.TableStates.{TableState, PassState, BelongsTo}
use Rattle.version_log.proofs.AppendLaws.{may_append, next_goes_on}
use Rattle.version_log.proofs.WordLaws.{edit_stands, words_by}
use Rattle.tests_versions.proofs.HoldingLaws.{fits_side, idle_spare, made_act, none_holds, nothing_held, same_nothing}
use Rattle.tests_versions.specs.Holding.{HoldsUniform}
use Rattle.tests_versions.specs.Uniform.{uniform_act}

learns_nothing : (v : SeatView) → LearnsLog v v
learns_nothing v = record { grows = record { stays = λ x n e. e }; is = refl }

-- the words of the next record, by which no cell is set
may_append_blank : {made : ℕ} (t : TableState) (s u : PassState) (session line at : ℕ)
    (ws : List ℕ) → IsSpare t s → t.plan.side ≡ 2 → TakesLog made s.view u.view → HasLogTurn t u
    → s.view.numbers ≡ session ∷ [] → at ≡ number_seen u.view → at < 65535 → line < 2 ^ 32
    → ws ≡ words_by (uniform_act None) (at + 1) (at + 1) session line
    → MayAppendWords t.plan u.view ws None
may_append_blank t s u session line at ws spare side takes turn number here room small words =
    let v : SeatView = u.view in
    let act : Act = uniform_act None in
    let h : HoldsUniform t s None = none_holds t s spare.of (idle_spare t s spare) side
    (same_nothing s.view.held spare.held) in
    may_append v v t.plan session line act None ws
    (next_goes_on v v v t.plan session line at act None ws (at + 1) (at + 1) turn.sees.turn
    (learns_nothing v) refl here room turn.of.plan
    (ap (λ (x : SeatView). x.numbers) takes.is ∙ number) (fits_side t.plan.side v.models None side)
    tt tt small (made_act t s None h v act takes refl)
    (edit_stands v.log.seen.records act (at + 1) refl (omega (arith, here))) words)

-- those words by line 7, as the test reckons them
abbrev pub seventh : ℕ → ℕ → List ℕ
seventh n k =
    (1 + (n + 1) * 256 % 18446744073709551616 + (n + 1) * 4294967296 % 18446744073709551616)
    ∷ 0 ∷ 17180131332 ∷ 0 ∷ (k + 458752) ∷ []

seventh_words : (n k : ℕ) → n < 65535
    → seventh n k ≡ words_by (uniform_act None) (n + 1) (n + 1) k 7
seventh_words n k small =
    let first : 1 + (n + 1) * 256 % 18446744073709551616
    + (n + 1) * 4294967296 % 18446744073709551616 ≡ 1 + 2 ^ 8 * (n + 1) + 2 ^ 32 * (n + 1) =
    omega (arith, small) in
    let last : k + 458752 ≡ k + 2 ^ 16 * 7 = omega arith in
    λ i. first i ∷ 0 ∷ 17180131332 ∷ 0 ∷ last i ∷ []

-- they may be appended once the turn came
pub may_append_seventh : {made : ℕ} (t r : TableState) (s u w : PassState)
    (session at n k : ℕ) → IsSpare t s → t.plan.side ≡ 2 → TakesLog made s.view u.view
    → HasLogTurn t u → r ≡ t → w ≡ u → s.view.numbers ≡ session ∷ [] → at ≡ number_seen u.view
    → at < 65535 → n ≡ at → k ≡ session → MayAppendWords r.plan w.view (seventh n k) None
may_append_seventh t r s u w session at n k spare side takes turn table same number here room first
    last =
    let words : seventh n k ≡ words_by (uniform_act None) (at + 1) (at + 1) session 7 =
    (λ i. seventh (first i) (last i)) ∙ seventh_words at session room in
    let may = may_append_blank t s u session 7 at (seventh n k) spare side takes turn number here room
    (omega arith) words in
    subst (λ (p : Layout). MayAppendWords p w.view (seventh n k) None)
    (sym (ap (λ (x : TableState). x.plan) table))
    (subst (λ (x : PassState). MayAppendWords t.plan x.view (seventh n k) None) (sym same) may)

-- and the log is longer by one then, and nothing is held
module _ (p : Layout) (v w : SeatView) (ws : List ℕ) (m : MayAppendWords p v ws None)
    (told : ForAppended p v ws None (λ r t. AppendsInTurn v r t w)) where
  appends : AppendsInTurn v m.change m.tree w
  appends = told m.change m.tree m.words_are m.root_is m.may

  pub appended_number : number_seen w ≡ number_seen v + 1
  appended_number =
      ap (λ (x : SeatView). number_seen x) appends.is
      ∙ length-append v.log.seen.records (m.change ∷ [])

  pub appended_nothing : v.held ≡ [] → w.held ≡ []
  appended_nothing none =
      ap (λ (x : SeatView). x.held) appends.is
      ∙ nothing_held appends.held
      (record {
        weighs = λ f.
            (let e = appends.weighs f in let g = weight_of-gone f m.tree m.root_is in
            let z = ap (λ (ts : List Tree). weigh f ts) none in omega arith);
      })

-- a pass that held nothing is spare where its turn went back
pub spare_left : (t : TableState) (s mid : PassState) → BelongsTo t s
    → s.view ≡ log_left mid.view → mid.view.turn ≡ None → mid.view.held ≡ [] → IsSpare t s
spare_left t s mid of left idle none = record {
  of = of;
  turn = ap (λ (x : SeatView). x.turn) left ∙ idle;
  log_turn = ap (λ (x : SeatView). x.log.turn) left;
  held = ap (λ (x : SeatView). x.held) left ∙ none;
}
