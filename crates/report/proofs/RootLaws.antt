-- What a store's roots tell of its versions is what the report says of them.
use Rattle.std.proofs.Common.{◌≡◌, ℕ, ◌+◌, ◌^◌, ◌<◌, ◌≤◌, length, ◌++◌, ◌∙◌, append_assoc, sym, ap, subst, arith, inl, inr, Option, Some, None, List, get_or, take}
use Rattle.std.specs.List.{flat_map}
use Rattle.std.proofs.lemmas.Bool.{cases_lt}
use Rattle.std.proofs.Math.Pow.{pow-lt}
use Rattle.history_model.specs.Contents.{Content}
use Rattle.history_model.specs.Logs.{Log, IsLegal}
use Rattle.history_model.specs.Stores.{stored_in}
use Rattle.node_words.specs.declared.shapes.names.Name.{Name}
use Rattle.node_words.specs.Plans.{Layout}
use Rattle.core_laws.specs.contents.Aligned.{top}
use Rattle.core_laws.specs.contents.Versions.{HoldsVersion, SameWorld}
use Rattle.core_laws.specs.States.{State}
use Rattle.core_laws.specs.Soundness.{Sound}
use Rattle.core_laws.proofs.RootCells.{same_cells, same_root, no_root_no_cell, no_cell_no_root}
use Rattle.world_core.specs.declared.closed.Closed.{Closed}
use Rattle.world_core.specs.declared.closed.Root.{Root}
use Rattle.report.specs.declared.rows.ReportRow.{ReportRow}
use Rattle.report.specs.Reports.{HasNoCell, FirstFits, IsReport, head_lines, row_line, level_lines, report_of}
use Rattle.report.specs.Roots.{AreKeptRoots, RootsNameWorlds, FirstTold, RowsBelow, TellsReport, root_in_list}
use Rattle.report.specs.Numbers.{AreNumbers}

-- the side of a legal log is that of its world
not_less : (a b : ℕ) → 2 ^ a ≡ 2 ^ b → a < b → ⊥
not_less a b same less = (let grows = pow-lt less in omega arith)

pub log_side : (p : Layout) (models : List Content) (log : Log) → IsLegal (2 ^ p.side) models log
    → log.side ≡ p.side
log_side p models log legal = elim (cases_lt log.side p.side) [
  | inl less ↦ absurd (not_less log.side p.side legal.same_side less)
  | inr high ↦ elim (cases_lt p.side log.side) [
    | inl less ↦ absurd (not_less p.side log.side (sym legal.same_side) less)
    | inr low ↦ omega arith
  ]
]

module _ (p : Layout) (models : List Content) (state : State) (low : 2 ≤ p.side)
    (s : Sound p models state) where
  at_log : (P : ℕ → Type 0) → P (2 ^ p.side) → P (2 ^ state.log.side)
  at_log P here = subst P (sym s.versions.legal.same_side) here

  at_plan : (P : ℕ → Type 0) → P (2 ^ state.log.side) → P (2 ^ p.side)
  at_plan P there = subst P s.versions.legal.same_side there

  pub roots_told : RootsNameWorlds models state.log state.root
  roots_told = record {
    no_cell = λ v kept none. at_log (λ n. HasNoCell n (stored_in n models state.log.records v))
        (record { each = no_root_no_cell p models state low s v kept none });
    no_root = λ v kept clear. no_cell_no_root p models state low s v kept
        (at_plan (λ n. HasNoCell n (stored_in n models state.log.records v)) clear).each;
    same_cells = λ v w of_v of_w same. at_log
        (λ n. SameWorld n (stored_in n models state.log.records v)
        (stored_in n models state.log.records w))
        (same_cells p models state low s v w of_v of_w same);
    same_root = λ v w of_v of_w same. same_root p models state low s v w of_v of_w
        (at_plan (λ n. SameWorld n (stored_in n models state.log.records v)
        (stored_in n models state.log.records w)) same);
  }

pub sound_roots : (p : Layout) (models : List Content) (state : State) → 2 ≤ p.side
    → Sound p models state → RootsNameWorlds models state.log state.root
sound_roots p models state low s = roots_told p models state low s

-- what is told of a version by its root is what the report says of it
pub told_fits : (models : List Content) (log : Log) (root : ℕ → Option Name)
    → RootsNameWorlds models log root → (v : ℕ) (first : Option ℕ) → HoldsVersion log v
    → FirstTold log root v first → FirstFits models log v first
told_fits models log root tell v None kept told = tell.no_cell v kept told
told_fits models log root tell v (Some w) kept told = (
  λ none. told.some (tell.no_root v kept none),
  record {
    kept = told.kept;
    low = told.low;
    same = tell.same_cells w v told.kept kept told.same;
    least = λ u less of_u same. told.least u less of_u (tell.same_root u v of_u kept same);
  },
)

pub report_told : (models : List Content) (log : Log) (root : ℕ → Option Name)
    (rows : List ReportRow) (numbers text : List ℕ)
    → RowsBelow log root (length log.records + 1) rows → text ≡ report_of log rows numbers
    → RootsNameWorlds models log root → AreNumbers models log numbers → IsReport models log text
report_told models log root rows numbers text below is tell are = record {
  rows = rows;
  held = record {
    rising = below.rising;
    kept = below.kept;
    all = λ v kept. below.all v
        (let there = kept.there in omega arith) kept;
  };
  fit = λ i d lt. told_fits models log root tell (get_or rows i d).version (get_or rows i d).first
      (below.kept i d lt) (below.told i d lt);
  numbers = numbers;
  are = are;
  is = is;
}

-- and so is what a closed world left
pub closed_told : (models : List Content) (closed : Closed) (roots : List Root)
    (rows : List ReportRow) (numbers text : List ℕ) → roots ≡ closed.roots.items
    → ((log : Log) → AreKeptRoots log roots
    → RowsBelow log (root_in_list roots) (length log.records + 1) rows)
    → numbers ≡ take (top closed.history.side + 1) closed.live
    → text ≡ report_of closed.history rows numbers → TellsReport models closed
    → IsReport models closed.history text
closed_told models closed roots rows numbers text same below many is tells =
    report_told models closed.history (root_in_list roots) rows numbers text
    (below closed.history
    (subst (λ (rs : List Root). AreKeptRoots closed.history rs) (sym same) tells.roots)) is
    (subst (λ (rs : List Root). RootsNameWorlds models closed.history (root_in_list rs))
    (sym same) tells.worlds)
    (subst (λ (ns : List ℕ). AreNumbers models closed.history ns) (sym many) tells.numbers)

-- the parts of the text, one after another
pub text_told : (head rowed all text : List ℕ) (log : Log) (rows seen : List ReportRow)
    (numbers : List ℕ) → head ≡ head_lines log → seen ≡ rows
    → rowed ≡ head ++ flat_map row_line seen → all ≡ rowed ++ level_lines 0 numbers → text ≡ all
    → text ≡ report_of log rows numbers
text_told head rowed all text log rows seen numbers first same second third is =
    is ∙ third ∙ ap (λ (xs : List ℕ). xs ++ level_lines 0 numbers) second
    ∙ append_assoc head (flat_map row_line seen) (level_lines 0 numbers)
    ∙ ap (λ (xs : List ℕ). xs ++ (flat_map row_line seen ++ level_lines 0 numbers)) first
    ∙ ap
    (λ (rs : List ReportRow). head_lines log ++
    (flat_map row_line rs ++ level_lines 0 numbers)) same
