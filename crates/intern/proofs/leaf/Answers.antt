use Rattle.std.proofs.Common.{rules, Ok, Err, ◌≡◌, ◌<◌, ◌≤◌, ℕ, List, refl, sym, ap, ◌∙◌, subst, arith}
use Rattle.std.specs.Prelude.{MatchResult, slice_index}
use Rattle.std.specs.declared.result.Result.{Result}
use Rattle.node_words.specs.declared.shapes.names.Name.{Name}
use Rattle.node_words.specs.shapes.Buckets.{leaf_bucket}
use Rattle.node_words.specs.shapes.Tree.{Gone}
use Rattle.node_words.specs.shapes.Weights.{number_of_trees}
use Rattle.node_words.specs.declared.keys.Key as keys
use Rattle.node_words.specs.declared.keys.Key.TheVariants.{Leaf}
use Rattle.node_words.specs.Held.{HoldsChildren}
use Rattle.table_rule.specs.Changes.{children_of_key}
use Rattle.node_words.specs.declared.shares.Full.{Full}
use Rattle.node_words.specs.Plans.{Layout}
use Rattle.node_table.specs.Names.{named}
use Rattle.node_table.specs.WordIds.{WordId, buckets_at}
use Rattle.node_table.specs.ViewFacts.{ViewFacts}
use Rattle.node_table.specs.Views.{SeatView}
use Rattle.node_table.specs.Changes.{HasKeyWords, PassesBelow}
use Rattle.node_table.specs.declared.places.Place.TheVariants.{NoRoom}
use Rattle.node_table.specs.Acts.{AreChildrenOf, MayAdd}
use Rattle.node_table.specs.Learning.{IsKnownLive}
use Rattle.node_table.specs.Learning.IsKnownLive.{keyed}
use Rattle.node_table.specs.TableStates.{TableState, bucket_named}
use Rattle.node_table.proofs.Answering.{answers_keep, learns_keep}
use Rattle.intern.specs.Leaves.{InternsLeaf, LeafRefused}
use Rattle.intern.proofs.LeafLaws.{no_children, searched, may_leaf, shared, added, refused, absent, kept_plan, met_leaf, leaf_sought, leaf_children}
use Rattle.intern.proofs.leaf.Goals.{in-At, in-Free, in-NoRoom}
use Rattle.intern.proofs.PackedKeys.{found_other_key, has_other_key, free_other_key, full_other_key, published_other_key}
use Rattle.intern.proofs.leaf.Goals as goal

pub find-requires-clause-held : goal.find-requires-clause-held
find-requires-clause-held g c =
    subst
    (λ (k : keys.Key). HoldsChildren c.turn-turn.result.pass.now.view.held (children_of_key k))
    (sym c.of-packed.ensures) (record { row = λ _. Gone; are_held = no_children _ })

pub turn-turn-requires-clause-there : goal.turn-turn-requires-clause-there
turn-turn-requires-clause-there g c =
    let low =
    c.buckets.ensures.plan.side_low in let below = c.bucket_of-bucket.ensures.below in let value = c.buckets.ensures.value in
    (omega arith, omega arith)

pub raise-requires-clause-live : goal.raise-requires-clause-live
raise-requires-clause-live g c =
    let v = c.find.new.self.pass.now.view in let same = c.find.ensures.same in
    subst (λ (x : ℕ × ℕ). IsKnownLive v (named x.0 x.1 c.in-At.slot))
    (λ i. (sym same.1 i, sym same.2 i))
    (keyed (Leaf c.args.bits) (record { row = λ _. Gone; are_held = no_children v.held })
    (has_other_key c.of-packed.ensures c.in-At.ensures.place).shows)

pub publish-requires-clause-children : goal.publish-requires-clause-children
publish-requires-clause-children g c =
    subst (λ (k : keys.Key). AreChildrenOf c.no_children.result k) (sym c.of-packed.ensures)
    (leaf_children _ c.args.bits c.no_children.ensures)

pub publish-requires-clause-may : goal.publish-requires-clause-may
publish-requires-clause-may g c =
    let t = c.turn-turn.result in let f = c.find.new.self in let same = c.find.ensures.same in
    let a = free_other_key c.of-packed.ensures c.in-Free.ensures.place in
    let bits = c.args.bits in let slot = c.in-Free.slot in
    let e = c.turn-turn.ensures in
    let some : 0 < bits = (let n = c.requires.bits in omega arith) in
    let bucket : t.bucket ≡ leaf_bucket bits (buckets_at (t.table.now.plan) 0) =
    e.bucket.1 ∙ c.bucket_of-bucket.ensures.bucket
    ∙ ap (leaf_bucket bits)
    (c.buckets.ensures.value
    ∙ ap (λ (x : TableState). buckets_at x.plan 0) (sym e.table)) in
    let held : f.pass.now.view.held ≡ c.args.pass.now.view.held =
    ap (λ (v : SeatView). v.held) a.learns.else_is ∙ ap (λ (v : SeatView). v.held) e.view in
    let room : number_of_trees f.pass.now.view.held ≤ 4095 =
    subst (λ ts. number_of_trees ts ≤ 4095) (sym held) c.requires.room in
    let base : MayAdd (t.table.now.plan) f.pass.now.view (named t.level t.bucket slot) (Leaf bits) =
    may_leaf (t.table.now.plan) f.pass.now.view t.level t.bucket bits slot e.bucket.0 some
    (let f = c.ranges.bits.fits in omega (arith, f)) bucket a.first a.none room in
    subst (λ (x : TableState × ℕ × ℕ × keys.Key). MayAdd x.0.plan f.pass.now.view
    (named x.1 x.2 slot) x.3)
    (λ i. (sym same.0 i, sym same.1 i, sym same.2 i, sym c.of-packed.ensures i)) base

-- after one arm of the match, where the pass is as the arm left it and the result is what it gave
at_arm : (v : SeatView) (bits : ℕ) (m r : Result Name Full) (w u : SeatView) → w ≡ u → m ≡ r
    → MatchResult r (λ n. InternsLeaf v bits n u) (λ e. LeafRefused v bits e u)
    → MatchResult m (λ n. InternsLeaf v bits n w) (λ e. LeafRefused v bits e w)
at_arm v bits m r w u same is h =
    subst
    (λ (x : SeatView × Result Name Full). MatchResult x.1 (λ n. InternsLeaf v bits n x.0)
    (λ e. LeafRefused v bits e x.0)) (λ i. (sym same i, sym is i)) h

pub returns-clause-taken : goal.returns-clause-taken
returns-clause-taken g c =
    let v =
    c.args.pass.now.view in let bits = c.args.bits in let t = c.turn-turn.result in let f = c.find.new.self in let u = f.pass.now.view in let same = c.find.ensures.same in let e = c.turn-turn.ensures in
    let bucket : ℕ = c.bucket_of-bucket.result in
    let plan : u.plan ≡ t.table.now.plan =
    kept_plan t.pass.now f.pass.now (Leaf bits) (bucket_named t.level t.bucket)
    (t.table.now.plan) c.find.result
    (record { row = λ _. Gone; are_held = no_children _ })
    (found_other_key _ _ _ _ _ _ _ c.of-packed.ensures c.find.ensures.place)
    ∙ ap (λ (x : SeatView). x.plan) e.view ∙ c.requires.of.plan
    ∙ ap (λ (x : TableState). x.plan) (sym e.table) in
    let is : bucket ≡ leaf_bucket bits (slice_index u.plan.buckets 0) =
    c.bucket_of-bucket.ensures.bucket
    ∙ ap (leaf_bucket bits)
    (c.buckets.ensures.value
    ∙ ap (λ (x : TableState). buckets_at x.plan 0) (sym e.table)
    ∙ ap (λ (p : Layout). slice_index p.buckets 0) (sym plan)) in
    let here : (ws : List (WordId × ℕ)) → PassesBelow ws (Leaf bits) (bucket_named t.level t.bucket) (t.table.now.plan).cap → PassesBelow ws (Leaf bits) (record { level = 0; bucket = bucket }) u.plan.cap = λ ws h.
    subst (λ (x : ℕ × ℕ × Layout). PassesBelow ws (Leaf bits) (bucket_named x.0 x.1) x.2.cap)
    (λ i. (e.bucket.0 i, e.bucket.1 i, sym plan i)) h in
    let some : 0 < bits = (let n = c.requires.bits in omega arith) in
    let first : buckets_at (c.args.table.now.plan) 0 ≡ slice_index v.plan.buckets 0 =
    ap (λ (p : Layout). slice_index p.buckets 0) (sym c.requires.of.plan) in
    let isv : bucket ≡ leaf_bucket bits (slice_index v.plan.buckets 0) =
    c.bucket_of-bucket.ensures.bucket
    ∙ ap (leaf_bucket bits) (c.buckets.ensures.value ∙ first) in
    let low : bucket < buckets_at v.plan 0 =
    (let b = c.bucket_of-bucket.ensures.below in let e = c.buckets.ensures.value
    ∙ first in omega arith) in
    elim c.match-find.branch [
      | in-At w ↦ (
          let a = has_other_key c.of-packed.ensures w.in-At.ensures.place in
          let s =
          searched v t.pass.now f.pass.now bucket e.view
          (learns_keep t.pass.now f.pass.now a.learns) in
          let now : c.match-find.pass.view ≡ w.raise.new.self.1.0.view = search rules in
          let tells = subst ViewFacts now c.tell.ensures in
          let n : Name = named f.level f.bucket w.in-At.slot in
          let level : n.level ≡ 0 = same.1 ∙ e.bucket.0 in
          let has : HasKeyWords u.words (Leaf bits) n =
          subst (λ (x : ℕ × ℕ). HasKeyWords u.words (Leaf bits) (named x.0 x.1 w.in-At.slot))
          (λ i. (sym same.1 i, sym same.2 i)) a.shows.has_key in
          let met : u.met ≡ v.met =
          ap (λ (x : SeatView). x.met) a.learns.else_is ∙ ap (λ (x : SeatView). x.met) e.view in
          let came =
          shared v u w.raise.new.self.1.0.view bits bucket n s met level has w.raise.ensures.raised tells in
          at_arm v bits c.match-find.result
          (Ok w.raise.result) c.match-find.pass.view w.raise.new.self.1.0.view now w.result-is
          (subst (λ (m : Name). InternsLeaf v bits m w.raise.new.self.1.0.view)
          (sym w.raise.ensures.name) came))
      | in-Free w ↦ (
          let a = free_other_key c.of-packed.ensures w.in-Free.ensures.place in
          let s =
          searched v t.pass.now f.pass.now bucket e.view
          (learns_keep t.pass.now f.pass.now a.learns) in
          let now : c.match-find.pass.view ≡ w.publish.new.self.1.0.view = search rules in
          let n : Name = named f.level f.bucket w.in-Free.slot in
          let level : n.level ≡ 0 = same.1 ∙ e.bucket.0 in
          let met : u.met ≡ v.met =
          ap (λ (x : SeatView). x.met) a.learns.else_is ∙ ap (λ (x : SeatView). x.met) e.view in
          let none = absent u bits bucket c.find.ensures.tells s.turn is (here u.words a.none) in
          let came =
          added v u w.publish.new.self.1.0.view bits bucket n s met level none
          (published_other_key _ _ _ _ _ c.of-packed.ensures w.publish.ensures.published (λ _. Gone)
          (no_children _)) in
          at_arm v bits c.match-find.result
          (Ok w.publish.result) c.match-find.pass.view w.publish.new.self.1.0.view now w.result-is (subst (λ (m : Name). InternsLeaf v bits m w.publish.new.self.1.0.view) (sym w.publish.ensures.name) came))
      | in-NoRoom w ↦ (
          let a = full_other_key c.of-packed.ensures w.in-NoRoom.ensures.place in
          let k =
          answers_keep (t.table.now.plan) t.pass.now f.pass.now (Leaf bits)
          (bucket_named t.level t.bucket) NoRoom
          (record { row = λ _. Gone; are_held = no_children _ }) a in
          let s = searched v t.pass.now f.pass.now bucket e.view k in
          let now : c.match-find.pass.view ≡ w.leave.new.self.1.0.view = search rules in
          let meets = a.met (λ _. Gone) (no_children _) in
          let words : u.words ≡ a.before.view.words = ap (λ (x : SeatView). x.words) meets in
          let none =
          absent u bits bucket c.find.ensures.tells s.turn is
          (here u.words
          (subst (λ ws. PassesBelow ws (Leaf bits) (bucket_named t.level t.bucket)
          (t.table.now.plan).cap) (sym words) a.none)) in
          let old : a.before.view.met ≡ v.met =
          ap (λ (x : SeatView). x.met) a.learns.else_is ∙ ap (λ (x : SeatView). x.met) e.view in
          let met =
          ap (λ (x : SeatView). x.met) meets
          ∙ met_leaf t.level t.bucket bucket bits a.before.view.met v.met e.bucket.0 e.bucket.1 old in
          at_arm v bits c.match-find.result
          (Err (record { level = 0; bucket = bucket })) c.match-find.pass.view w.leave.new.self.1.0.view now w.result-is (refused v u w.leave.new.self.1.0.view bits bucket (record { level = 0; bucket = bucket }) s none met refl refl w.leave.ensures.view
          (leaf_sought v.plan bits bucket some
          (let f = c.ranges.bits.fits in omega (arith, f)) isv low)))
    ]
