-- What the steps of beginning owe is what the table asks.
use Rattle.std.proofs.Common.{◌≡◌, ⊎_elim, Some, None, false, ◌≢◌, ℕ, ◌+◌, ◌<◌, true, List, [], length, set, refl, sym, ap, ◌∙◌, subst, length-set, arith}
use Rattle.std.specs.List.{slice_get}
use Rattle.atomic_table.specs.Table.{Me, keeps, Allows, Splits, Joins}
use Rattle.node_words.proofs.OfShapes.WeightLaws.{weigh-nil}
use Rattle.node_words.specs.shapes.Tree.{Tree}
use Rattle.node_words.specs.Plans.{Layout}
use Rattle.node_words.specs.Held.{IsHeld, IsReached}
use Rattle.core_laws.specs.places.WordIds.{WordId, Sessions}
use Rattle.table_rule.specs.Reading.{Wrote, stored_at, word_at}
use Rattle.table_rule.proofs.Rows.{row_written}
use Rattle.table_rule.proofs.Lift.{row_said}
use Rattle.table_rule.proofs.Tags.{tags_outside}
use Rattle.vox_read.specs.Contents.{Content}
use Rattle.table_rule.specs.LogKnowing.{ListsOwn}
use Rattle.table_rule.specs.LogViews.{LogView, log_starting}
use Rattle.table_rule.specs.Views.{SeatView, spent}
use Rattle.table_rule.proofs.OwnLaws.{nothing_numbered}
use Rattle.table_rule.specs.Rules.{IsRuled}
use Rattle.table_rule.specs.ViewFacts.{FactsInUse, ViewFacts}
use Rattle.table_rule.specs.Seating.{seat_numbered, handing, handed, joined}
use Rattle.table_rule.proofs.Lookups.{get_std, get_set, get_set_same}
use Rattle.table_rule.proofs.TellingLaw.{tells_in_use}
use Rattle.table_rule.proofs.NumberSteps.{numbers_itself}
use Rattle.table_rule.proofs.Dealing.{deals}
use Rattle.table_rule.proofs.Joining.{joins}

pub numbers_allowed : (p : Layout) (models : List Content) (slots seat : ℕ) (me : Me ℕ SeatView)
    (n : ℕ) → me.0.right ≡ true → me.0.numbers ≡ [] → me.0.next ≡ n → n < 64
    → Allows (IsRuled p models) slots seat me 0 (λ _. 1 + n)
    (λ _ m. (m.1 ≡ me.1) × FactsInUse m.0 × (m.0 ≡ seat_numbered me.0))
numbers_allowed p models slots seat me n right bare next low s r deep at fits =
    let at' = get_std s.views seat me.0 at in
    let v = me.0 in
    let w : SeatView = seat_numbered v in
    let old : WordId → ℕ = word_at p s.words in
    let new : WordId → ℕ = word_at p (set s.words 0 (1 + n)) in
    let wrote : Wrote old Sessions (1 + v.next) new =
    subst (λ (k : ℕ). Wrote old Sessions (1 + k) new) (sym next)
    (row_said p s.words Sessions (1 + n) r.wide tt) in
    let rule =
    (numbers_itself p models old new s.views seat v r.rule at' right bare
    (subst (λ (k : ℕ). k < 64) (sym next) low) wrote).0 in (
      w,
      keeps,
      tt,
      record {
        wide = length-set s.words 0 (1 + n) ∙ r.wide;
        rule = rule;
        tagged = tags_outside p (stored_at p s.words) (stored_at p (set s.words 0 (1 + n))) Sessions
            (1 + n) tt (row_written p s.words Sessions (1 + n) r.wide tt) r.tagged;
      },
      (
        refl,
        tells_in_use p models new (set s.views seat w) seat w rule
            (get_set_same s.views seat w v at'),
        refl,
      ),
    )

pub deals_allowed : (p : Layout) (models : List Content) (seat : ℕ) (v : SeatView)
    → v.right ≡ true → v.numbers ≢ [] → Splits (IsRuled p models) seat v (handing v) (handed v)
deals_allowed p models seat v right has s r at = record {
  wide = r.wide;
  rule = deals p models (word_at p s.words) s.views seat v r.rule (get_std s.views seat v at)
      right has;
  tagged = r.tagged;
}

pub joins_allowed : (p : Layout) (models : List Content) (seat : ℕ) (v : SeatView) (other : ℕ)
    (w : SeatView) → w.held ≡ [] → w.turn ≡ None → w.log.turn ≡ false
    → Joins (IsRuled p models) seat v other w (joined v w) spent
joins_allowed p models seat v other w bare idle calm s r at apart there =
    let both : SeatView = joined v w in
    let at_other : slice_get s.views other ≡ Some w =
    ⊎_elim (λ (t : (other ≡ seat) × (both ≡ w)). absurd (apart t.0))
    (λ (t : (other ≢ seat) × (slice_get s.views other ≡ Some w)). t.1)
    (get_set s.views seat other both w (get_std (set s.views seat both) other w there)) in
    record {
      wide = r.wide;
      rule = joins p models (word_at p s.words) s.views seat other v w r.rule
          (get_std s.views seat v at) at_other apart bare idle calm;
      tagged = r.tagged;
    }

-- a view that holds nothing and has seen no record tells little
pub nothing_tells : (v : SeatView) (side : ℕ) → v.held ≡ [] → v.log ≡ log_starting side
    → ViewFacts v
nothing_tells v side none new = record {
  trees = record { each = λ t h. no t h; named = λ t u h k e. unreached t h };
  canonical = record { each = λ t n h e. no t h };
  few = (let n = weigh-nil (λ _. 1) in
      let e = ap (λ (ts : List Tree). Rattle.node_words.specs.shapes.Weights.number_of_trees ts) none in
      omega arith);
  names = λ t n h e. unreached t h;
  buckets = λ t n h e. unreached t h;
  once = λ t m h e u n k f l s. unreached t h;
  agrees = λ t n h e has. unreached t h;
  log = record {
    few = (let e = ap (λ (l : LogView). length l.seen.records) new in omega arith);
    own = λ _. subst (λ (l : LogView). ListsOwn l.seen v.numbers l.records l.marks) (sym new)
        (record { records_are = λ f. nothing_numbered _; marks_are = λ f. refl });
    long = λ n turn. no_turn _ turn;
    words = λ n i word r turn. no_turn _ turn;
  };
  roots = record {
    none = λ u s. no_turn _ s.unmarked.turn;
    named = λ u n s. no_turn _ s.unmarked.turn;
    live = λ u n book s. no_turn _ s.unmarked.turn;
    shows = λ u n t s. no_turn _ s.unmarked.turn;
    one_root = λ u w m n s. no_turn _ s.unmarked.turn;
    one_world = λ u w m n s. no_turn _ s.unmarked.turn;
  };
}
  where
    no_turn : (A : Type 0) → v.log.turn ≡ true → A
    no_turn A h = absurd (let e = ap (λ (l : LogView). l.turn) new in let no : ⊥ = cc in no)

    no : {A : Type 0} (t : Tree) → IsHeld v.held t → A
    no t h =
        absurd (let e = h.weighs (λ _. 1) in let n = weigh-nil (λ _. 1) in
        let s = ap (λ (ts : List Tree). Rattle.node_words.specs.shapes.Weights.number_of_trees ts) none in
        omega arith)

    unreached : {A : Type 0} (t : Tree) → IsReached v.held t → A
    unreached t h = no h.over h.is_held
