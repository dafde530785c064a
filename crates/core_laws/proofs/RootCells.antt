-- An empty state is sound, and roots tell the cells of their versions.
use Rattle.std.proofs.Common.{◌≡◌, ℕ, ◌*◌, ◌^◌, ◌≤◌, refl, sym, ◌∙◌, ap, subst, arith, None, Option, List, length, false}
use Rattle.std.proofs.lemmas.Option.{none-some}
use Rattle.vw_cell.specs.Sums.{sum_below-le}
use Rattle.vw_cell.specs.declared.cells.Cell.{Cell}
use Rattle.vw_cell.specs.Places.{IsInWorld}
use Rattle.core_laws.specs.HistoryModelContents.{Content}
use Rattle.node_words.specs.declared.shapes.names.Name.{Name}
use Rattle.node_words.specs.shapes.Shape.{Shape, Clear, ShowsCells}
use Rattle.node_words.specs.shapes.Tree.{shape_of}
use Rattle.node_words.proofs.OfShapes.ShowLaws.{clear_shows, clear_shown, shown_once}
use Rattle.node_words.specs.Plans.{Layout}
use Rattle.core_laws.specs.places.WordIds.{versions}
use Rattle.core_laws.specs.Logs.{Log, IsLegal}
use Rattle.core_laws.specs.LegalLaws.{legal_empty}
use Rattle.core_laws.specs.Stores.{stored_in}
use Rattle.core_laws.specs.StoreLaws.{stored_at_0}
use Rattle.core_laws.specs.States.{State, IsLive, tree_at}
use Rattle.core_laws.specs.contents.Aligned.{top, world_block}
use Rattle.core_laws.specs.Counting.{weight, children_weight, if_live, booked, parented, rooted}
use Rattle.core_laws.specs.Soundness.{Sound, IsUntouched}
use Rattle.core_laws.specs.contents.Versions.{HoldsVersion, SameWorld}
use Rattle.core_laws.proofs.Sums.{sum_names-none}
use Rattle.core_laws.proofs.OfContents.WorldBlocks.{in_world, in_block}
use Rattle.core_laws.proofs.LiveShapes.{AreLive, shape_once, canonical_at, clear_at}
use Rattle.core_laws.proofs.LogSteps.{root_in_range}
use Rattle.core_laws.proofs.Lives.{root_lives}

none_booked : (p : Layout) (f : Name → ℕ) (state : State) → IsUntouched p state
    → booked p f state ≡ 0
unfolding booked
none_booked p f state e =
    sum_names-none p _ (λ n is. ap (λ (b : ℕ). b * f n) (e.book n is) ∙ omega arith)

none_parented : (p : Layout) (f : Name → ℕ) (state : State) → IsUntouched p state
    → parented p f state ≡ 0
unfolding parented
none_parented p f state e =
    sum_names-none p _
    (λ n is. ap (λ (b : ℕ). if_live b (children_weight f (state.key n))) (e.book n is))

none_rooted : (p : Layout) (f : Name → ℕ) (state : State) → IsUntouched p state → rooted f state ≡ 0
unfolding rooted
none_rooted p f state e = let bound =
    sum_below-le versions 0 (λ v. weight f (state.root v))
    (λ v _. (let none : weight f (state.root v) ≡ 0 = ap (weight f) (e.root v) in
    omega arith)) in omega arith

pub empty_sound : (p : Layout) (models : List Content) (state : State) → IsUntouched p state
    → Sound p models state
empty_sound p models state e = record {
  entries = record {
    fits = λ n live. absurd (dead n live);
    placed = λ n live. absurd (dead n live);
    once = λ m n of_m of_n level same. absurd (dead m of_m);
    counted =
        λ f. (let a = none_booked p f state e in let b = none_parented p f state e in
        let r = none_rooted p f state e in let h = e.held f in omega arith);
  };
  versions = record {
    legal = subst (λ (l : Log). IsLegal (2 ^ p.side) models l) (sym e.log)
        (legal_empty (2 ^ p.side) models p.side refl);
    kept = λ v n root. absurd (none-some n (sym (e.root v) ∙ root));
    level = λ v n root. absurd (none-some n (sym (e.root v) ∙ root));
    shown = λ v kept. (
        let le = kept.there in
        let number : length state.log.records ≡ 0 = ap (λ (l : Log). length l.records) e.log in
        let first : v ≡ 0 = omega arith in
        let clear : shape_of (tree_at state.key (top p.side) (state.root v)) ≡ Clear =
        ap (λ (o : Option Name). shape_of (tree_at state.key (top p.side) o)) (e.root v)
        ∙ clear_at state.key (top p.side) in
        subst (λ (s : Shape). ShowsCells (world_block p.side) s
        (stored_in (2 ^ p.side) models state.log.records v))
        (sym clear)
        (clear_shows (world_block p.side) (stored_in (2 ^ p.side) models state.log.records v)
        (λ q _. ap (λ (w : ℕ). stored_in (2 ^ p.side) models state.log.records w q) first
        ∙ stored_at_0 (2 ^ p.side) models state.log.records q)));
  };
}
  where
    dead : (n : Name) → IsLive p state n → ⊥
    dead n live = let none = e.book n live.name in let some = live.book in omega arith

module _ (p : Layout) (models : List Content) (state : State) (low : 2 ≤ p.side)
    (s : Sound p models state) where
  root_live : (v : ℕ) → AreLive p state (top p.side) (state.root v)
  root_live v n e =
      record {
        live =
            root_lives p state v n s.entries (root_in_range p models state v n s.versions e) e;
        same_level = s.versions.level v n e;
      }

  -- versions with one root have the same cells
  pub same_cells : (v w : ℕ) → HoldsVersion state.log v → HoldsVersion state.log w
      → state.root v ≡ state.root w
      → SameWorld (2 ^ p.side) (stored_in (2 ^ p.side) models state.log.records v)
      (stored_in (2 ^ p.side) models state.log.records w)
  same_cells v w of_v of_w same = record {
    each = λ q inside. (
        let shows_v =
        subst (λ (o : Option Name). ShowsCells (world_block p.side)
        (shape_of (tree_at state.key (top p.side) o))
        (stored_in (2 ^ p.side) models state.log.records v)) same (s.versions.shown v of_v) in
        let in_b = in_block p.side q low inside in
        sym (shows_v.each q in_b) ∙ (s.versions.shown w of_w).each q in_b);
  }

  -- versions with the same cells have one root
  pub same_root : (v w : ℕ) → HoldsVersion state.log v → HoldsVersion state.log w
      → SameWorld (2 ^ p.side) (stored_in (2 ^ p.side) models state.log.records v)
      (stored_in (2 ^ p.side) models state.log.records w)
      → state.root v ≡ state.root w
  same_root v w of_v of_w same =
      let shows_v = s.versions.shown v of_v in
      let shows_w : ShowsCells (world_block p.side)
      (shape_of (tree_at state.key (top p.side) (state.root w)))
      (stored_in (2 ^ p.side) models state.log.records v) =
      record {
        each = λ q in_b. (s.versions.shown w of_w).each q in_b
            ∙ sym (same.each q (in_world p.side q low in_b));
      } in
      shape_once p state s.entries (top p.side) (state.root v) (state.root w) (root_live v)
      (root_live w)
      (shown_once (world_block p.side) _ _ (stored_in (2 ^ p.side) models state.log.records v)
      (canonical_at p state s.entries (top p.side) (state.root v) (root_live v))
      (canonical_at p state s.entries (top p.side) (state.root w)
      (root_live w)) shows_v shows_w)

  -- a version has no root just where it has no set cell
  pub no_root_no_cell : (v : ℕ) → HoldsVersion state.log v → state.root v ≡ None → (q : Cell)
      → IsInWorld (2 ^ p.side) q → stored_in (2 ^ p.side) models state.log.records v q ≡ false
  no_root_no_cell v of_v none q inside =
      clear_shown (world_block p.side) (stored_in (2 ^ p.side) models state.log.records v) q
      (subst (λ (t : Shape). ShowsCells (world_block p.side) t
      (stored_in (2 ^ p.side) models state.log.records v))
      (ap (λ (o : Option Name). shape_of (tree_at state.key (top p.side) o)) none
      ∙ clear_at state.key (top p.side)) (s.versions.shown v of_v))
      (in_block p.side q low inside)

  pub no_cell_no_root : (v : ℕ) → HoldsVersion state.log v
      → ((q : Cell) → IsInWorld (2 ^ p.side) q
      → stored_in (2 ^ p.side) models state.log.records v q ≡ false)
      → state.root v ≡ None
  no_cell_no_root v of_v clear =
      let shows : ShowsCells (world_block p.side) (shape_of (tree_at state.key (top p.side) None))
      (stored_in (2 ^ p.side) models state.log.records v) =
      subst (λ (t : Shape). ShowsCells (world_block p.side) t
      (stored_in (2 ^ p.side) models state.log.records v))
      (sym (clear_at state.key (top p.side)))
      (clear_shows (world_block p.side) (stored_in (2 ^ p.side) models state.log.records v)
      (λ q in_b. clear q (in_world p.side q low in_b))) in
      shape_once p state s.entries (top p.side) (state.root v) None (root_live v)
      (λ n e. absurd (none-some n e))
      (shown_once (world_block p.side) _ _ (stored_in (2 ^ p.side) models state.log.records v)
      (canonical_at p state s.entries (top p.side) (state.root v) (root_live v))
      (canonical_at p state s.entries (top p.side) None (λ n e. absurd (none-some n e)))
      (s.versions.shown v of_v) shows)
