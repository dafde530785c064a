-- What is pinned stays so, and tells its cells.
use Rattle.std.proofs.Common.{◌≡◌, ◌↔◌, ◌+◌, ◌^◌, ◌≤◌, ℕ, Option, Some, None, false, ◌++◌, length, refl, sym, ◌∙◌, ap, subst, arith, length-append}
use Rattle.vw_cell.specs.declared.cells.Cell.{Cell}
use Rattle.vw_cell.specs.Places.{IsInWorld}
use Rattle.history_model.specs.Stores.{stored_in}
use Rattle.history_model.specs.StoreLaws.{stored_stays}
use Rattle.history_model.specs.Worlds.{World}
use Rattle.node_words.specs.declared.shapes.names.Name.{Name}
use Rattle.node_words.specs.shapes.Shape.{Shape, Clear, ShowsCells, IsCanonical}
use Rattle.node_words.specs.shapes.Tree.{Tree, Gone, LeafAt, NodeAt, root_of, shape_of}
use Rattle.node_words.proofs.OfShapes.ShapeLaws.{clear_canonical}
use Rattle.node_words.proofs.OfShapes.ShowLaws.{clear_shows, clear_shown, shown_once}
use Rattle.node_words.proofs.OfShapes.WeightLaws.{weight_of-there}
use Rattle.node_words.specs.Gathering.{MayHold}
use Rattle.node_words.specs.Held.{IsHeld}
use Rattle.core_laws.specs.contents.Aligned.{top, world_block}
use Rattle.core_laws.proofs.OfContents.WorldBlocks.{in_world, in_block}
use Rattle.table_rule.specs.LogFacts.{number_seen, seen_has}
use Rattle.table_rule.specs.ViewFacts.{ViewFacts}
use Rattle.table_rule.specs.Views.{SeatView}
use Rattle.version_log.specs.declared.answers.Pinned.{Pinned}
use Rattle.retain.specs.declared.refusals.PinRefused.{PinRefused}
use Rattle.retain.specs.declared.refusals.PinRefused.TheVariants.{NoVersion, Forgotten}
use Rattle.version_log.specs.Pins.{IsPinned, RefusesPin}
use Rattle.version_log.specs.PinStatements.{KeepsAllHeld}
use Rattle.version_log.specs.Seeing.{OnlyReadsLog}

-- a version's cells stay while more is seen
pub cells_stay : (v w : SeatView) (n : ℕ) → OnlyReadsLog v w → n ≤ number_seen v
    → seen_has w n ≡ seen_has v n
cells_stay v w n looks there =
    let begins = looks.sees.seen in
    let side : w.plan.side ≡ v.plan.side = ap (λ x. x.side) looks.session.plan in
    let same : stored_in (2 ^ w.plan.side) w.models w.log.seen.records n
    ≡ stored_in (2 ^ v.plan.side) v.models (v.log.seen.records ++ begins.more) n =
    λ i. stored_in (2 ^ side i) (looks.session.models i) (begins.records i) n
    in
    same
    ∙ (λ i q. stored_stays (2 ^ v.plan.side) v.models v.log.seen.records begins.more n q there i)

pub pinned_stays : (v w : SeatView) (p : Pinned) → OnlyReadsLog v w → KeepsAllHeld v.held w.held
    → IsPinned v p → IsPinned w p
pinned_stays v w p looks all is =
    let side : w.plan.side ≡ v.plan.side = ap (λ x. x.side) looks.session.plan in
    let long : number_seen w ≡ number_seen v + length looks.sees.seen.more =
    ap length looks.sees.seen.records
    ∙ length-append v.log.seen.records looks.sees.seen.more
    in
    let known = is.moment in
    let below = is.version in
    record {
      version = is.version;
      moment = omega (arith, long, known);
      found = looks.sees.found.each _ is.found;
      root = record {
        tree = is.root.tree;
        name = is.root.name;
        held = record {
          weighs = λ f. (let a = is.root.held.weighs f in let b = all.weighs f in
              omega (arith, a, b));
        };
        level = λ n e. is.root.level n e ∙ ap top (sym side);
        shows = subst (λ (x : ℕ). ShowsCells (world_block x) (shape_of is.root.tree)
            (seen_has w p.version)) (sym side)
            (subst (λ (cells : World). ShowsCells (world_block v.plan.side)
            (shape_of is.root.tree) cells)
            (sym (cells_stay v w p.version looks (omega (arith, known, below)))) is.root.shows);
      };
    }

pub heads_are_pinned : (e : PinRefused) (w : SeatView) → RefusesPin None e w → ⊥
heads_are_pinned (NoVersion at) w refused = absurd (omega (arith, refused.1))
heads_are_pinned (Forgotten at mark) w refused =
    let later = refused.1.later in absurd (omega (arith, refused.0, later.0, later.1))

none_gone : (t : Tree) → root_of t ≡ None → shape_of t ≡ Clear
unfolding shape_of
none_gone Gone e = refl
none_gone (LeafAt n bits) e = absurd (let no : ⊥ = cc in no)
none_gone (NodeAt n a b c d e' f g h) e = absurd (let no : ⊥ = cc in no)

clear_none : (t : Tree) → shape_of t ≡ Clear → root_of t ≡ None
unfolding shape_of
clear_none Gone e = refl
clear_none (LeafAt n bits) e = absurd (let no : ⊥ = cc in no)
clear_none (NodeAt n a b c d e' f g h) e = absurd (let no : ⊥ = cc in no)

-- a name's tree that is held is canonical, and so is no node
canonical_root : (v : SeatView) (t : Tree) (root : Option Name) → ViewFacts v → MayHold v.held t
    → root_of t ≡ root → ((n : Name) → root ≡ Some n → n.level ≡ top v.plan.side)
    → IsCanonical (top v.plan.side) (shape_of t)
canonical_root v t None tells held name level =
    subst (λ (s : Shape). IsCanonical (top v.plan.side) s) (sym (none_gone t name))
    (clear_canonical (top v.plan.side))
canonical_root v t (Some n) tells held name level =
    let is_held : IsHeld v.held t =
    record {
      weighs = λ f.
          (let e = weight_of-there f t n name in let l = held.weighs f in omega (arith, e, l));
    }
    in
    subst (λ (k : ℕ). IsCanonical k (shape_of t)) (level n refl)
    (tells.canonical.each t n is_held name)

pub pinned_cells : (v : SeatView) (p : Pinned) → 2 ≤ v.plan.side → ViewFacts v → IsPinned v p
    → (p.root ≡ None) ↔ ((q : Cell) → IsInWorld (2 ^ v.plan.side) q
    → seen_has v p.version q ≡ false)
pinned_cells v p low tells is =
    let b = world_block v.plan.side in
    let cells : World = seen_has v p.version in
    let t : Tree = is.root.tree in (
      λ none q inside. clear_shown b cells q
          (subst (λ (s : Shape). ShowsCells b s cells)
          (none_gone t (is.root.name ∙ none)) is.root.shows)
          (in_block v.plan.side q low inside),
      λ clear. sym is.root.name
          ∙ clear_none t (shown_once b (shape_of t) Clear cells
          (canonical_root v t p.root tells is.root.held is.root.name is.root.level)
          (clear_canonical (top v.plan.side)) is.root.shows
          (clear_shows b cells (λ q inside. clear q (in_world v.plan.side q low inside)))),
    )
