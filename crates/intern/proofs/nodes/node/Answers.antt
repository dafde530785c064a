use Rattle.std.proofs.Common.{rules, ◌≡◌, ◌<◌, ◌∙◌, ℕ, List, Option, length, refl, sym, ap, subst, arith}
use Rattle.std.specs.Prelude.{slice_index}
use Rattle.node_words.specs.declared.shapes.names.Name.{Name}
use Rattle.node_words.specs.declared.keys.Key.TheVariants.{Node}
use Rattle.node_words.specs.Held.{AreHeld, HoldsChildren}
use Rattle.node_words.specs.shapes.Tree.{Tree}
use Rattle.node_words.specs.Keys.{bucket_of_key}
use Rattle.node_words.specs.Plans.{buckets_at}
use Rattle.core_laws.specs.places.Names.{named}
use Rattle.core_laws.specs.places.WordIds.{WordId}
use Rattle.node_table.specs.Views.{SeatView}
use Rattle.node_table.specs.Changes.{HasKeyWords, PassesBelow}
use Rattle.node_table.proofs.Answering.{answers_keep, learns_keep}
use Rattle.node_table.specs.Learning.{IsKnownLive}
use Rattle.node_table.specs.Learning.IsKnownLive.{keyed}
use Rattle.node_table.specs.TableStates.{bucket_named}
use Rattle.node_table.specs.declared.places.Place.TheVariants.{NoRoom}
use Rattle.intern.proofs.NodeLaws.{asks, node_searched, kept_now, room_now, shared_now, added_now, refused_now, absent, met_node, node_sought, is_bucket, low_bucket, passes_here}
use Rattle.intern.proofs.PackedKeys.{has_other_key, free_other_key, full_other_key, published_other_key}
use Rattle.intern.proofs.nodes.node.Goals as goal

pub buckets-requires : goal.buckets-requires
buckets-requires g c =
    let high = c.plan-plan.ensures.plan.side_high in let level = c.requires.level.1 in omega arith

pub raise-share-requires-clause-live : goal.raise-share-requires-clause-live
raise-share-requires-clause-live g c =
    let f = c.find.new.self in let same = c.find.ensures.same in
    let a = has_other_key c.of-packed.ensures c.in-At.ensures.place in
    let names = c.names_of-names.result in
    let held : f.pass.now.view.held ≡ c.args.pass.now.view.held =
    ap (λ (x : SeatView). x.held) a.learns.else_is
    ∙ ap (λ (x : SeatView). x.held) c.turn-turn.ensures.view in
    let holds : HoldsChildren c.args.pass.now.view.held names =
    subst (λ (l : List (Option Name)). HoldsChildren c.args.pass.now.view.held l)
    (sym c.names_of-names.ensures) c.requires.held in
    subst (λ (x : ℕ × ℕ). IsKnownLive f.pass.now.view (named x.0 x.1 c.in-At.slot))
    (λ i. (sym same.1 i, sym same.2 i))
    (keyed (Node names) (subst (λ (l : List Tree). HoldsChildren l names) (sym held) holds) a.shows)

pub give_row-requires-clause-held : goal.give_row-requires-clause-held
give_row-requires-clause-held g c =
    let v = c.args.pass.now.view in let t = c.turn-turn.result in let f = c.find.new.self in
    let u = f.pass.now.view in let same = c.find.ensures.same in
    let a = has_other_key c.of-packed.ensures c.in-At.ensures.place in
    let e = c.turn-turn.ensures in let h = c.requires.held in
    let names = c.names_of-names.result in let level = c.args.level in
    let bucket : ℕ = c.bucket_of-bucket.result in
    let len : length c.args.children ≡ 8 = omega arith in
    let q = asks v _ level names c.args.children h.row c.plan-plan.ensures.plan c.requires.of.plan
    c.tell.ensures c.names_of-names.ensures len c.requires.level.0 c.requires.some
    c.requires.below h.are_held in
    let s = node_searched v t.pass.now f.pass.now level bucket e.view
    (learns_keep t.pass.now f.pass.now a.learns) in
    let n : Name = named f.level f.bucket c.in-At.slot in
    let has : HasKeyWords u.words (Node names) n =
    subst (λ (x : ℕ × ℕ). HasKeyWords u.words (Node names) (named x.0 x.1 c.in-At.slot))
    (λ i. (sym same.1 i, sym same.2 i)) a.shows.has_key in
    kept_now v u c.raise-share.new.self.1.0.view _ level bucket names c.args.children h.row n q s
    (same.1 ∙ e.bucket.0) has c.raise-share.ensures.raised (search rules) c.tell-in-At.ensures
    c.names_of-names.ensures

pub give_row-requires-clause-room : goal.give_row-requires-clause-room
give_row-requires-clause-room g c =
    let v = c.args.pass.now.view in let t = c.turn-turn.result in let f = c.find.new.self in
    let u = f.pass.now.view in let same = c.find.ensures.same in
    let a = has_other_key c.of-packed.ensures c.in-At.ensures.place in
    let e = c.turn-turn.ensures in let h = c.requires.held in
    let names = c.names_of-names.result in let level = c.args.level in
    let bucket : ℕ = c.bucket_of-bucket.result in
    let len : length c.args.children ≡ 8 = omega arith in
    let q = asks v _ level names c.args.children h.row c.plan-plan.ensures.plan c.requires.of.plan
    c.tell.ensures c.names_of-names.ensures len c.requires.level.0 c.requires.some
    c.requires.below h.are_held in
    let s = node_searched v t.pass.now f.pass.now level bucket e.view
    (learns_keep t.pass.now f.pass.now a.learns) in
    let n : Name = named f.level f.bucket c.in-At.slot in
    let has : HasKeyWords u.words (Node names) n =
    subst (λ (x : ℕ × ℕ). HasKeyWords u.words (Node names) (named x.0 x.1 c.in-At.slot))
    (λ i. (sym same.1 i, sym same.2 i)) a.shows.has_key in
    room_now v u c.raise-share.new.self.1.0.view _ level bucket names c.args.children h.row n q s
    (same.1 ∙ e.bucket.0) has c.raise-share.ensures.raised (search rules) c.tell-in-At.ensures
    c.names_of-names.ensures c.requires.room

pub returns-in-At-clause-taken : goal.returns-in-At-clause-taken
returns-in-At-clause-taken g c = λ row are.
    (let v = c.args.pass.now.view in let t = c.turn-turn.result in let f = c.find.new.self in
    let u = f.pass.now.view in let same = c.find.ensures.same in
    let a = has_other_key c.of-packed.ensures c.in-At.ensures.place in
    let e = c.turn-turn.ensures in
    let names = c.names_of-names.result in let level = c.args.level in
    let bucket : ℕ = c.bucket_of-bucket.result in
    let len : length c.args.children ≡ 8 = omega arith in
    let q = asks v _ level names c.args.children row c.plan-plan.ensures.plan c.requires.of.plan
    c.tell.ensures c.names_of-names.ensures len c.requires.level.0 c.requires.some
    c.requires.below are in
    let s = node_searched v t.pass.now f.pass.now level bucket e.view
    (learns_keep t.pass.now f.pass.now a.learns) in
    let n : Name = named f.level f.bucket c.in-At.slot in
    let has : HasKeyWords u.words (Node names) n =
    subst (λ (x : ℕ × ℕ). HasKeyWords u.words (Node names) (named x.0 x.1 c.in-At.slot))
    (λ i. (sym same.1 i, sym same.2 i)) a.shows.has_key in
    let met : u.met ≡ v.met =
    ap (λ (x : SeatView). x.met) a.learns.else_is ∙ ap (λ (x : SeatView). x.met) e.view in
    shared_now v u c.raise-share.new.self.1.0.view _ level bucket names c.args.children row n q s
    (same.1 ∙ e.bucket.0) has c.raise-share.ensures.raised (search rules) c.tell-in-At.ensures
    c.names_of-names.ensures c.raise-share.result c.give_row.new.pass.view
    c.raise-share.ensures.name met c.give_row.ensures.only (c.give_row.ensures.loses row))

pub returns-in-Free-clause-taken : goal.returns-in-Free-clause-taken
returns-in-Free-clause-taken g c = λ row are.
    (let v = c.args.pass.now.view in let t = c.turn-turn.result in let f = c.find.new.self in
    let u = f.pass.now.view in let same = c.find.ensures.same in
    let a = free_other_key c.of-packed.ensures c.in-Free.ensures.place in
    let e = c.turn-turn.ensures in
    let names = c.names_of-names.result in let level = c.args.level in
    let bucket : ℕ = c.bucket_of-bucket.result in
    let len : length c.args.children ≡ 8 = omega arith in
    let q = asks v _ level names c.args.children row c.plan-plan.ensures.plan c.requires.of.plan
    c.tell.ensures c.names_of-names.ensures len c.requires.level.0 c.requires.some
    c.requires.below are in
    let s = node_searched v t.pass.now f.pass.now level bucket e.view
    (learns_keep t.pass.now f.pass.now a.learns) in
    let met : u.met ≡ v.met =
    ap (λ (x : SeatView). x.met) a.learns.else_is ∙ ap (λ (x : SeatView). x.met) e.view in
    let is : bucket ≡ bucket_of_key (Node names) (slice_index v.plan.buckets level) =
    is_bucket v c.args.table.now (Node names) level bucket _ c.requires.of.plan
    c.bucket_of-bucket.ensures.bucket c.buckets.ensures.value in
    let none = absent v u level bucket names row q c.find.ensures.tells s.held s.turn is
    (passes_here v c.args.table.now t.table.now t.level t.bucket level bucket u.words names
    e.bucket.0 e.bucket.1 e.table c.requires.of.plan a.none) in
    let there : AreHeld u.held names row =
    subst (λ ts. AreHeld ts names row) (sym s.held) q.are in
    added_now v u c.publish.new.self.1.0.view _ level bucket names row c.publish.result
    (named f.level f.bucket c.in-Free.slot) s met (same.1 ∙ e.bucket.0) none
    (published_other_key _ _ _ _ _ c.of-packed.ensures c.publish.ensures.published row there)
    (search rules) c.publish.ensures.name)

pub returns-clause-taken : goal.returns-clause-taken
returns-clause-taken g c = λ row are.
    (let v = c.args.pass.now.view in let t = c.turn-turn.result in let f = c.find.new.self in
    let u = f.pass.now.view in
    let a = full_other_key c.of-packed.ensures c.in-NoRoom.ensures.place in
    let e = c.turn-turn.ensures in
    let names = c.names_of-names.result in let level = c.args.level in
    let bucket : ℕ = c.bucket_of-bucket.result in
    let len : length c.args.children ≡ 8 = omega arith in
    let q = asks v _ level names c.args.children row c.plan-plan.ensures.plan c.requires.of.plan
    c.tell.ensures c.names_of-names.ensures len c.requires.level.0 c.requires.some
    c.requires.below are in
    let there : AreHeld t.pass.now.view.held names row =
    subst (λ ts. AreHeld ts names row) (sym (ap (λ (x : SeatView). x.held) e.view)) q.are in
    let s = node_searched v t.pass.now f.pass.now level bucket e.view
    (answers_keep (t.table.now.plan) t.pass.now f.pass.now (Node names)
    (bucket_named t.level t.bucket) NoRoom (record { row = row; are_held = there }) a) in
    let is : bucket ≡ bucket_of_key (Node names) (slice_index v.plan.buckets level) =
    is_bucket v c.args.table.now (Node names) level bucket _ c.requires.of.plan
    c.bucket_of-bucket.ensures.bucket c.buckets.ensures.value in
    let low : bucket < buckets_at v.plan level =
    low_bucket v c.args.table.now level bucket _ c.requires.of.plan
    c.bucket_of-bucket.ensures.below c.buckets.ensures.value in
    let meets = a.met row there in
    let words : u.words ≡ a.before.view.words = ap (λ (x : SeatView). x.words) meets in
    let none = absent v u level bucket names row q c.find.ensures.tells s.held s.turn is
    (passes_here v c.args.table.now t.table.now t.level t.bucket level bucket u.words names
    e.bucket.0 e.bucket.1 e.table c.requires.of.plan
    (subst (λ (ws : List (WordId × ℕ)). PassesBelow ws (Node names) (bucket_named t.level t.bucket)
    (t.table.now.plan).cap) (sym words) a.none)) in
    let old : a.before.view.met ≡ v.met =
    ap (λ (x : SeatView). x.met) a.learns.else_is ∙ ap (λ (x : SeatView). x.met) e.view in
    let met = ap (λ (x : SeatView). x.met) meets
    ∙ met_node t.level t.bucket level bucket names row a.before.view.met v.met e.bucket.0
    e.bucket.1 old in
    refused_now v u c.leave.new.self.1.0.view _ level bucket row
    (record { level = level; bucket = bucket }) s none met refl refl c.leave.ensures.view
    (node_sought v level names row q bucket is low) (search rules))
