-- Each region of a load's run counts what its own script makes.
use Rattle.std.proofs.Common.{◌≡◌, ℕ, ◌≤◌, ◌==◌, Bool, true, false, List, [], ◌∷◌, length, refl, sym, ap, ◌∙◌, arith}
use Rattle.std.specs.Prelude.{All, if◌then◌else◌, sum_by}
use Rattle.std.specs.List.{AllPairs, list_all}
use Rattle.std.proofs.lemmas.Bool.{and_parts, and_from, le-leb}
use Rattle.std.proofs.lemmas.Bool.Decides.{nat_tests}
use Rattle.std.proofs.lemmas.List.Folds.{sum_by-zero}
use Rattle.vw_cell.specs.declared.cells.Cell.{Cell}
use Rattle.vw_cell.specs.declared.boxes.Boxed.{Boxed}
use Rattle.history_model.specs.Contents.{Content}
use Rattle.history_model.specs.declared.acts.Act.{Act}
use Rattle.history_model.specs.declared.histories.Record.{Record}
use Rattle.history_model.specs.Moments.{world_has}
use Rattle.history_model.specs.Worlds.{nothing}
use Rattle.history_model.specs.Laws.{has_at_0}
use Rattle.transcript.specs.declared.answers.LineAnswer.{LineAnswer}
use Rattle.conformance.specs.Agreeing.{InOrder}
use Rattle.conformance.specs.Shown.{Accepted, SameItems, numbered, accepted_in}
use Rattle.conformance.specs.Passes.{own_of}
use Rattle.gen_load.specs.Regions.{IsInRegion, EditLiesIn}
use Rattle.text_laws.specs.regions.Runs.{set_by, is_local, made_alone}
use Rattle.text_laws.proofs.OfRegions.Rising.{numbered_rises, filter_rises, same_set}
use Rattle.text_laws.proofs.OfRegions.Showing.{asks, script_of, all_shown, shown_rises}
use Rattle.text_laws.proofs.OfRegions.Regions.{suits, region_local, region_left, made_local, run_has}

-- ---- what does not suit weighs 1

abbrev pub misfit : List Content → Cell → ℕ → ℕ → Accepted → ℕ
misfit models p session most c = if suits models p session most c then 0 else 1

no_misfit : (b : Bool) → ((if b then 0 else 1) == 0) ≡ b
no_misfit true = refl
no_misfit false = refl

suit_all : (models : List Content) (p : Cell) (session most : ℕ) (items : List Accepted)
    → list_all (λ c. misfit models p session most c == 0) items ≡ true
    → list_all (suits models p session most) items ≡ true
suit_all models p session most [] all = refl
suit_all models p session most (c ∷ more) all =
    let parts = and_parts _ _ all in
    and_from _ _ (sym (no_misfit (suits models p session most c)) ∙ parts.0)
    (suit_all models p session most more parts.1)

zero_is : (n : ℕ) → n ≡ 0 → (n == 0) ≡ true
zero_is n is = grind (arith, nat_tests)

pub all_suit : (models : List Content) (p : Cell) (session most : ℕ) (items : List Accepted)
    → sum_by (misfit models p session most) items ≡ 0
    → list_all (suits models p session most) items ≡ true
all_suit models p session most items none =
    suit_all models p session most items
    (sym (sum_by-zero (misfit models p session most) items) ∙ zero_is _ none)

-- the changes of a region suit every cell of another, and up to the last moment those of its own
pub own_suits : (models : List Content) (p : Cell) (session most : ℕ) (x : ℕ) (act : Act) (n at : ℕ)
    → EditLiesIn x act → at ≤ most
    → misfit models p session most
    (record { at = at; entry = record { session = session; line = n; act = act } }) ≡ 0
own_suits models p session most x act n at lies few =
    let local = region_local x act lies in
    let same : (session == session) ≡ true = grind (arith, nat_tests) in
    let early = le-leb at most few in
    rw (local, same, early) refl

pub other_suits : (model : Content) (p : Cell) (session other most : ℕ) (x : ℕ) (act : Act)
    (n at : ℕ) → model.size ≡ record { x = 32; y = 32; z = 32 } → EditLiesIn x act
    → (IsInRegion x p → ⊥) → (other ≡ session → ⊥)
    → misfit (model ∷ []) p session most
    (record { at = at; entry = record { session = other; line = n; act = act } }) ≡ 0
other_suits model p session other most x act n at size lies apart differ =
    let local = region_local x act lies in
    let left = region_left model x p act size lies apart in
    let not_same : (other == session) ≡ false = grind (arith, nat_tests, differ) in
    rw (local, not_same, left) refl

-- ---- one cell of a region

pub region_cell : (models : List Content) (session n line : ℕ) (p : Cell) (records : List Record)
    (b : Boxed) (acts : List Act) (t : List LineAnswer)
    → sum_by (misfit models p session n) (numbered 1 records) ≡ 0 → n ≤ length records
    → SameItems (own_of (λ c. c.entry.session) session (numbered 1 records))
    (accepted_in session (script_of 1 acts (asks line b)) t)
    → length (accepted_in session (script_of 1 acts (asks line b)) t) ≡ length acts
    → AllPairs InOrder t → All (λ act. is_local act ≡ true) acts
    → world_has models records n p ≡ made_alone models acts p
region_cell models session n line p records b acts t none few same all pairs local =
    let shown = accepted_in session (script_of 1 acts (asks line b)) t in
    let own = own_of (λ (c : Accepted). c.entry.session) session (numbered 1 records) in
    let suits_all = all_suit models p session n (numbered 1 records) none in
    let rises =
    filter_rises (λ (c : Accepted). c.entry.session == session) 1 (numbered 1 records)
    (numbered_rises 1 records) in
    run_has models p session n [] records suits_all (omega arith) (omega (arith, few))
    ∙ ap (λ v. set_by models p v own) (has_at_0 models [] p)
    ∙ same_set models p 1 0 own shown rises
    (shown_rises session 1 line 0 b acts t pairs (λ k d within done. omega arith)) same false
    ∙ all_shown models p session 1 line b acts t false all
    ∙ sym (made_local models p acts nothing local)
