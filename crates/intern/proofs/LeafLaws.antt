use Rattle.node_table.specs.TableStates.{bucket_named, PassState}
use Rattle.std.specs.Prelude.{slice_index}
use Rattle.node_table.proofs.PartA.{same_bucket}
use Rattle.node_words.proofs.OfShapes.TreeEqual.{same_name}
use Rattle.node_table.specs.Acts.{AreChildrenOf, RaisesUnderTurn, PublishesUnderTurn, MayAdd}
-- What comes of asking for a leaf follows from what the view tells.
use Rattle.node_table.specs.Names.{named}
use Rattle.node_table.specs.Views.{SeatView, BucketAt, bucket_of}
use Rattle.node_table.specs.Rules.{SameSession}
use Rattle.node_table.specs.ViewFacts.{ViewFacts, tree_word}
use Rattle.node_table.specs.Changes.{under_turn, wanted, children_of_key, HasKeyWords, PassesEntry, PassesBelow}
use Rattle.node_words.specs.Plans.{Layout}
use Rattle.node_table.specs.Learning.{IsLowestKnownFree}
use Rattle.node_table.proofs.Answering.{Keeps, answers_keep}
use Rattle.node_table.specs.Finding.{FindsPlace}
use Rattle.std.proofs.Common.{◌≡◌, ℕ, zero, suc, ◌^◌, ◌<◌, ◌≤◌, Some, None, Option, List, [], ◌∷◌, refl, sym, ap, ◌∙◌, subst, inl, inr, arith}
use Rattle.node_words.specs.declared.shapes.names.Name.{Name}
use Rattle.node_words.specs.shapes.Shape as shape
use Rattle.node_words.specs.shapes.Shape.{Shape}
use Rattle.node_words.specs.shapes.Tree.{Tree, Gone, LeafAt, root_of, bits_in, shape_of, IsTreeAt}
use Rattle.node_words.specs.shapes.Weights.{weigh, weight_below, number_of_trees}
use Rattle.node_words.specs.shapes.Buckets.{bucket_of_shape, leaf_bucket}
use Rattle.node_words.proofs.OfShapes.TreeLaws.{leaf_from_root, shape_of-leaf}
use Rattle.node_words.proofs.OfShapes.WeightLaws.{weigh-cons, weight_of-gone}
use Rattle.node_words.proofs.OfShapes.BucketLaws.{bucket_of_shape-leaf}
use Rattle.node_words.specs.declared.keys.Key as keys
use Rattle.node_words.specs.declared.keys.Key.TheVariants.{Leaf}
use Rattle.node_words.specs.declared.shares.Full.{Full}
use Rattle.node_words.specs.Held.{IsSought, name_in, IsHeld, IsReached, HoldsChildren, Wanted, Gains, AreHeld}
use Rattle.node_words.proofs.HeldLaws.{gains_keeps, gains_held, reached_more, held_reached, reached_levels}
use Rattle.node_table.specs.WordIds.{key_words, buckets_at}
use Rattle.node_table.specs.Soundness.{FitsLevel}
use Rattle.node_table.specs.declared.places.Place.{Place}
use Rattle.intern.specs.Leaves.{InternsLeaf, LeafRefused}

level_zero : (l : ℕ) (n : Name) (bits : ℕ) → l ≡ n.level → IsTreeAt l (LeafAt n bits) → n.level ≡ 0
unfolding IsTreeAt
level_zero zero n bits e is = sym e
level_zero (suc l) n bits e is = absurd is.0

-- a leaf that is reached is of level 0
leaf_level : (v : SeatView) (n : Name) (bits : ℕ) → ViewFacts v → IsReached v.held (LeafAt n bits)
    → n.level ≡ 0
leaf_level v n bits tells r =
    level_zero n.level n bits refl
    (reached_levels v.plan.side v.held (LeafAt n bits) n tells.trees r refl).levels

leaf_tree : (v : SeatView) (t : Tree) (n : Name) (bits : ℕ) → ViewFacts v → IsHeld v.held t
    → root_of t ≡ Some n → n.level ≡ 0 → bits ≡ tree_word t 0 → t ≡ LeafAt n bits
leaf_tree v t n bits tells h root level word =
    let levels =
    (reached_levels v.plan.side v.held t n tells.trees (held_reached v.held t h) root).levels in
    let is : t ≡ LeafAt n (bits_in t) =
    leaf_from_root t n (subst (λ (l : ℕ). IsTreeAt l t) level levels) root in
    let same : bits ≡ bits_in t = word ∙ ap (λ (u : Tree). tree_word u 0) is in
    is ∙ ap (λ (b : ℕ). LeafAt n b) (sym same)

-- two leaves with the same bits that are reached are one
one_leaf : (v : SeatView) (m n : Name) (bits : ℕ) → ViewFacts v → IsReached v.held (LeafAt m bits)
    → IsReached v.held (LeafAt n bits) → m ≡ n
one_leaf v m n bits tells a b =
    tells.once (LeafAt m bits) m a refl (LeafAt n bits) n b refl
    (leaf_level v m bits tells a ∙ sym (leaf_level v n bits tells b))
    (shape_of-leaf m bits ∙ sym (shape_of-leaf n bits))

-- where no slot of the bucket has the bits, no leaf with them is reached
pub absent : (v : SeatView) (bits bucket : ℕ) → ViewFacts v
    → v.turn ≡ Some (record { level = 0; bucket = bucket })
    → bucket ≡ leaf_bucket bits (slice_index v.plan.buckets 0)
    → PassesBelow v.words (Leaf bits) (record { level = 0; bucket = bucket }) v.plan.cap
    → (m : Name) → ¬ IsReached v.held (LeafAt m bits)
absent v bits bucket tells turn is none m r =
    let level = leaf_level v m bits tells r in
    let at = tells.names (LeafAt m bits) m r refl in
    let here : m.bucket ≡ bucket =
    tells.buckets (LeafAt m bits) m r refl
    ∙ ap (λ (l : ℕ). bucket_of_shape v.plan.buckets l (shape_of (LeafAt m bits))) level
    ∙ ap (bucket_of_shape v.plan.buckets 0) (shape_of-leaf m bits)
    ∙ bucket_of_shape-leaf v.plan.buckets bits ∙ sym is in
    let b : BucketAt = record { level = 0; bucket = bucket } in
    let same : b ≡ bucket_of m = same_bucket b (bucket_of m) (sym level) (sym here) in
    let agrees =
    tells.agrees (LeafAt m bits) m r refl (turn ∙ ap (λ (x : BucketAt). Some x) same) in
    let name : named 0 bucket m.slot ≡ m =
    same_name (named 0 bucket m.slot) m (sym level) (sym here) refl in
    let passes =
    subst (λ (x : Name). PassesEntry v.words (Leaf bits) x) name
    (none.each m.slot at.slot_in) in
    elim passes [
      | inl free ↦ (let some = agrees.book 0 free in absurd (omega arith))
      | inr o ↦ absurd (o.other (agrees.key o.word o.found o.inside o.known))
    ]

gains_one : (old new : List Tree) (t : Tree) → new ≡ t ∷ old → Gains old t new
gains_one old new t e = record { weighs = λ f. ap (λ ts. weigh f ts) e ∙ weigh-cons f t old }

-- the view after the search, by that before it
pub record Searched (v u : SeatView) (bucket : ℕ) : Type 0 where
  pub session : SameSession v u
  pub turn : u.turn ≡ Some (record { level = 0; bucket = bucket })
  pub held : u.held ≡ v.held
  pub made : u.made ≡ v.made
  pub log : u.log ≡ v.log

same_on : (u v w : SeatView) → SameSession u v → SameSession v w → SameSession u w
same_on u v w a b =
    record {
      alive = b.alive ∙ a.alive;
      plan = b.plan ∙ a.plan;
      models = b.models
          ∙ a.models;
      numbers = b.numbers ∙ a.numbers;
    }

-- a live entry had the bits
pub shared : (v u w : SeatView) (bits bucket : ℕ) (n : Name) → Searched v u bucket → u.met ≡ v.met
    → n.level ≡ 0 → HasKeyWords u.words (Leaf bits) n → RaisesUnderTurn u n w → ViewFacts w
    → InternsLeaf v bits n w
shared v u w bits bucket n s met level has r tells =
    let is = r.is in
    let held : w.held ≡ r.tree ∷ v.held =
    ap (λ (x : SeatView). x.held) is ∙ ap (λ ts. r.tree ∷ ts) s.held in
    let gains = gains_one v.held w.held r.tree held in
    let low : 0 < key_words n.level =
    subst (λ (l : ℕ). 0 < key_words l) (sym level) (omega arith) in
    let tree : r.tree ≡ LeafAt n bits =
    leaf_tree w r.tree n bits tells (gains_held v.held r.tree w.held gains) r.root level
    (r.words 0 bits low (has.each 0 low)) in
    let of : Gains v.held (LeafAt n bits) w.held =
    subst (λ (t : Tree). Gains v.held t w.held) tree gains in
    let made : w.made ≡ v.made = ap (λ (x : SeatView). x.made) is ∙ s.made in
    let session =
    same_on v u w s.session
    (record {
      alive = ap (λ (x : SeatView). x.alive) is;
      plan = ap
          (λ (x : SeatView). x.plan) is;
      models = ap
          (λ (x : SeatView). x.models) is;
      numbers = ap
          (λ (x : SeatView). x.numbers) is;
    }) in
    record {
      session = session;
      turn = ap (λ (x : SeatView). x.turn) is;
      log = ap (λ (x : SeatView). x.log) is ∙ s.log;
      level = level;
      gains = of;
      grants = record {
        plan = session.plan;
        made = inl made;
        met = ap (λ (x : SeatView). x.met) is
            ∙ met;
      };
      hit = λ m h. (
        one_leaf w n m bits tells
            (held_reached w.held (LeafAt n bits) (gains_held v.held _ w.held of))
            (reached_more v.held w.held _ (gains_keeps v.held _ w.held of) h),
        made,
      );
    }

gone_row : (f : Tree → ℕ) → weight_below f (λ _. Gone) 8 ≡ 0
gone_row f = let none = weight_of-gone f Gone refl in omega arith

pub no_children : (held : List Tree) → AreHeld held [] (λ _. Gone)
no_children held =
    record { names = λ k lt. none_in k; weighs = λ f. (let none = gone_row f in omega arith) }
  where
    none_in : (k : ℕ) → root_of Gone ≡ name_in [] k
    none_in k = refl

-- no entry had the bits, and one was added
pub added : (v u w : SeatView) (bits bucket : ℕ) (n : Name) → Searched v u bucket → u.met ≡ v.met
    → n.level ≡ 0 → ((m : Name) → ¬ IsReached u.held (LeafAt m bits))
    → PublishesUnderTurn u n (Leaf bits) (λ _. Gone) w → InternsLeaf v bits n w
added v u w bits bucket n s met level none p =
    let is = p.is in
    let held : w.held ≡ p.held = ap (λ (x : SeatView). x.held) is in
    let session =
    same_on v u w s.session
    (record {
      alive = ap (λ (x : SeatView). x.alive) is;
      plan = ap
          (λ (x : SeatView). x.plan) is;
      models = ap
          (λ (x : SeatView). x.models) is;
      numbers = ap
          (λ (x : SeatView). x.numbers) is;
    }) in
    record {
      session = session;
      turn = ap (λ (x : SeatView). x.turn) is;
      log = ap (λ (x : SeatView). x.log) is ∙ s.log;
      level = level;
      gains = record {
        weighs = λ f.
            (let e = p.weighs f in let z = gone_row f in let a = ap
            (λ ts. weigh f ts) held in let b = ap (λ ts. weigh f ts) s.held in omega arith);
      };
      grants = record {
        plan = session.plan;
        made = inr
            (ap (λ (x : SeatView). x.made) is ∙ λ i. shape_of-leaf n bits i ∷ s.made i);
        met = ap
            (λ (x : SeatView). x.met) is ∙ met;
      };
      hit = λ m h. absurd (none m (subst (λ ts. IsReached ts (LeafAt m bits)) (sym s.held) h));
    }

-- a full bucket was met
pub refused : (v u w : SeatView) (bits bucket : ℕ) (full : Full) → Searched v u bucket
    → ((m : Name) → ¬ IsReached u.held (LeafAt m bits))
    → u.met ≡ record { level = 0; bucket = bucket; shape = shape.Leaf bits } ∷ v.met
    → full.level ≡ 0 → full.bucket ≡ bucket → w ≡ under_turn u None
    → IsSought v.plan (record { level = 0; bucket = bucket; shape = shape.Leaf bits })
    → LeafRefused v bits full w
refused v u w bits bucket full s none met level at is sought =
    let session =
    same_on v u w s.session
    (record {
      alive = ap (λ (x : SeatView). x.alive) is;
      plan = ap
          (λ (x : SeatView). x.plan) is;
      models = ap
          (λ (x : SeatView). x.models) is;
      numbers = ap
          (λ (x : SeatView). x.numbers) is;
    }) in
    record {
      session = session;
      turn = ap (λ (x : SeatView). x.turn) is;
      log = ap (λ (x : SeatView). x.log) is ∙ s.log;
      at_level = level;
      meets = record {
        sought = subst
            (λ (z : ℕ × ℕ). IsSought v.plan
            (record { level = z.0; bucket = z.1; shape = shape.Leaf bits }))
            (λ i. (sym level i, sym at i)) sought;
        plan = session.plan;
        held = ap (λ (x : SeatView). x.held) is ∙ s.held;
        made = ap (λ (x : SeatView). x.made) is ∙ s.made;
        met = ap (λ (x : SeatView). x.met) is ∙ met
            ∙ (λ i. record { level = sym level i; bucket = sym at i; shape = shape.Leaf bits } ∷ v.met);
      };
      unreached = λ m h. none m (subst (λ ts. IsReached ts (LeafAt m bits)) (sym s.held) h);
    }

pub searched : (v : SeatView) (s t : PassState) (bucket : ℕ)
    → s.view ≡ under_turn v (Some (bucket_named 0 bucket)) → Keeps s t → Searched v t.view bucket
searched v s t bucket is k = record {
  session = same_on v s.view t.view
      (record {
        alive = ap (λ (x : SeatView). x.alive) is;
        plan = ap
            (λ (x : SeatView). x.plan) is;
        models = ap (λ (x : SeatView). x.models) is;
        numbers = ap
            (λ (x : SeatView). x.numbers) is;
      }) k.same.session;
  turn = k.turn ∙ ap (λ (x : SeatView). x.turn) is;
  held = k.held ∙ ap (λ (x : SeatView). x.held) is;
  made = k.made ∙ ap (λ (x : SeatView). x.made) is;
  log = k.log ∙ ap (λ (x : SeatView). x.log) is;
}

pub may_leaf : (p : Layout) (v : SeatView) (l b bits slot : ℕ) → l ≡ 0 → 0 < bits → bits < 2 ^ 64
    → b ≡ leaf_bucket bits (buckets_at p 0)
    → IsLowestKnownFree v.words (bucket_named l b) p.cap slot
    → PassesBelow v.words (Leaf bits) (bucket_named l b) p.cap → number_of_trees v.held ≤ 4095
    → MayAdd p v (named l b slot) (Leaf bits)
may_leaf p v l b bits slot level some fits is first none room = record {
  first = first;
  none = none;
  fits = subst (λ (k : ℕ). FitsLevel k (Leaf bits)) (sym level) (some, fits);
  bucket = is ∙ ap (λ (k : ℕ). leaf_bucket bits (buckets_at p k)) (sym level);
  held = record { row = λ _. Gone; are_held = no_children v.held };
  room = room;
}

leaf_canonical : (bits : ℕ) → 0 < bits → bits < 2 ^ 64 → shape.IsCanonical 0 (shape.Leaf bits)
unfolding shape.IsCanonical
leaf_canonical bits some fits = (some, fits)

-- the leaf that was wanted
pub leaf_sought : (p : Layout) (bits bucket : ℕ) → 0 < bits → bits < 2 ^ 64
    → bucket ≡ leaf_bucket bits (slice_index p.buckets 0) → bucket < buckets_at p 0
    → IsSought p (record { level = 0; bucket = bucket; shape = shape.Leaf bits })
leaf_sought p bits bucket some fits is low = record {
  canonical = leaf_canonical bits some fits;
  some = λ e. (let no : ⊥ = cc in no);
  bucket_is = is ∙ sym (bucket_of_shape-leaf p.buckets bits);
  bucket_in = low;
}

-- no key of a leaf has a child
pub leaf_children : (children : List (Option Name)) (bits : ℕ)
    → ((k : ℕ) → name_in children k ≡ None)
    → AreChildrenOf children (Leaf bits)
leaf_children children bits none = record { each = λ k lt. none k }

-- a search leaves the plan
pub kept_plan : (s t : PassState) (key : keys.Key) (b : BucketAt) (p : Layout) (place : Place)
    → HoldsChildren s.view.held (children_of_key key) → FindsPlace p s t key b place
    → t.view.plan ≡ s.view.plan
kept_plan s t key b p place h a = (answers_keep p s t key b place h a).same.session.plan

-- what a full bucket refused is a leaf
pub met_leaf : (l b bucket bits : ℕ) (old met : List Wanted) → l ≡ 0 → b ≡ bucket → old ≡ met
    → wanted (named l b 0) (Leaf bits) (λ _. Gone) ∷ old ≡ record
    { level = 0; bucket = bucket; shape = shape.Leaf bits } ∷ met
met_leaf l b bucket bits old met level at same =
    λ i. record
    { level = level i; bucket = at i; shape = shape_of-leaf (named l b 0) bits i } ∷ same i
