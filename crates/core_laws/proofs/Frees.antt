-- What is freed on the way down: each branch was stored before its turn and is no more after it, so
-- no two are one.
use Rattle.std.proofs.Common.{◌≡◌, ◌≢◌, ℕ, suc, ◌+◌, ◌*◌, ◌≤◌, List, [], ◌∷◌, ◌++◌, length, refl, sym, ◌∙◌, ap, subst, arith, length-append}
use Rattle.std.specs.Prelude.{All, AllPairs}
use Rattle.std.proofs.lemmas.List.Elements.{All-nil, All-cons, All-head, All-tail, All-append, All-weaker}
use Rattle.std.proofs.lemmas.List.Kept.{AllPairs-cons}
use Rattle.node_words.specs.declared.shapes.names.Name.{Name}
use Rattle.node_words.proofs.OfShapes.TreeEqual.{Name-discrete}
use Rattle.node_words.specs.shapes.Shape.{Shape, octant_shape, IsBranch, IsPart, whole, within}
use Rattle.node_words.specs.shapes.Tree.{Tree, shape_of}
use Rattle.node_words.specs.declared.keys.Key.{Key}
use Rattle.node_words.specs.Plans.{Layout}
use Rattle.node_words.specs.Held.{IsHeld, IsUnheldBranch, ReturnsWithin}
use Rattle.core_laws.specs.places.Names.{IsName}
use Rattle.core_laws.specs.States.{State, shape_in}
use Rattle.core_laws.specs.LiveTrees.{IsLiveTree, AreLiveTrees}
use Rattle.core_laws.specs.Soundness.{SoundEntries}
use Rattle.core_laws.specs.Returning.{IsShapeStored, OneBookChanges, IsFreed, FreesParts}
use Rattle.core_laws.proofs.LiveShapes.{not_clear_at}
use Rattle.core_laws.proofs.OneShape.{one_shape, part_stored}

pairs_head : {X : Type 0} (R : X → X → Type 0) (x : X) (xs : List X) → AllPairs R (x ∷ xs)
    → All (R x) xs
pairs_head R x xs h = λ k d lt. h 0 (suc k) d (omega arith) (omega arith)

pairs_tail : {X : Type 0} (R : X → X → Type 0) (x : X) (xs : List X) → AllPairs R (x ∷ xs)
    → AllPairs R xs
pairs_tail R x xs h = λ i j d lt below. h (suc i) (suc j) d (omega arith) (omega arith)

pairs_append : {X : Type 0} (R : X → X → Type 0) (xs ys : List X) → AllPairs R xs → AllPairs R ys
    → All (λ x. All (R x) ys) xs → AllPairs R (xs ++ ys)
pairs_append R [] ys a b c = b
pairs_append R (x ∷ xs) ys a b c =
    AllPairs-cons R x (xs ++ ys)
    (All-append (R x) xs ys (pairs_head R x xs a) (All-head (λ z. All (R z) ys) x xs c))
    (pairs_append R xs ys (pairs_tail R x xs a) b (All-tail (λ z. All (R z) ys) x xs c))

pairs_nil : {X : Type 0} (R : X → X → Type 0) → AllPairs R []
pairs_nil R = λ i j d lt below. absurd (omega arith)

-- what is stored after books fell was stored before
stored_before : (p : Layout) (key : Name → Key) (before after : Name → ℕ) (s : Shape)
    → ((n : Name) → IsName p n → after n ≤ before n) → IsShapeStored p key after s
    → IsShapeStored p key before s
stored_before p key before after s fell h =
    record {
      name = h.name;
      is_name = h.is_name;
      live = omega (arith, h.live, fell h.name h.is_name);
      shape = h.shape;
    }

freed_wider : (p : Layout) (key : Name → Key) (a b c d : Name → ℕ) (s : Shape)
    → ((n : Name) → IsName p n → b n ≤ a n) → ((n : Name) → IsName p n → d n ≤ c n)
    → IsFreed p key b c s → IsFreed p key a d s
freed_wider p key a b c d s first last h =
    record {
      is_branch = h.is_branch;
      was = stored_before p key a b s first h.was;
      gone = λ x. h.gone (stored_before p key c d s last x);
    }

pub frees_nothing : (p : Layout) (key : Name → Key) (s : Shape) (first : ℕ)
    (before after : Name → ℕ) (steps now : ℕ) → ((n : Name) → IsName p n → after n ≤ before n)
    → now ≤ steps + first → FreesParts p key s first before after steps now
frees_nothing p key s first before after steps now fell few = record {
  fell = fell;
  freed = [];
  different = pairs_nil (λ r t. r ≢ t);
  parts = All-nil (λ r. IsPart r s);
  each = All-nil (λ r. IsFreed p key before after r);
  turns = omega arith;
}

-- the shape of an entry whose book fell to 0 is stored no more
freed_gone : (p : Layout) (state : State) (after : Name → ℕ) (n : Name) → SoundEntries p state
    → IsName p n → state.book n ≡ 1 → OneBookChanges p n state.book after → after n ≡ 0
    → ¬ IsShapeStored p state.key after (shape_in state n)
freed_gone p state after n s is last o none = λ h. elim (Name-discrete h.name n) [
  | yes e ↦ (let gone : after h.name ≡ 0 = ap after e ∙ none in omega (arith, gone, h.live))
  | no other ↦
      (let same = o.others h.name h.is_name other in
      let live = h.live in
      other (one_shape p state s h.name n (record { name = h.is_name; book = omega arith })
      (record { name = is; book = omega arith }) h.shape))
]

one_fell : (p : Layout) (before after : Name → ℕ) (n : Name) → OneBookChanges p n before after
    → after n ≤ before n → (m : Name) → IsName p m → after m ≤ before m
one_fell p before after n o fell m is = elim (Name-discrete m n) [
  | yes e ↦ subst (λ (x : Name). after x ≤ before x) (sym e) fell
  | no other ↦ omega (arith, o.others m is other)
]

fell_on : (p : Layout) (a b c : Name → ℕ) → ((n : Name) → IsName p n → b n ≤ a n)
    → ((n : Name) → IsName p n → c n ≤ b n) → (n : Name) → IsName p n → c n ≤ a n
fell_on p a b c first last n is = omega (arith, first n is, last n is)

-- a node goes, and then its children
pub frees_node : (p : Layout) (state : State) (n : Name) (middle after : Name → ℕ) (steps now : ℕ)
    → SoundEntries p state → IsName p n → IsBranch (shape_in state n) → state.book n ≡ 1
    → OneBookChanges p n state.book middle → middle n ≡ 0
    → FreesParts p state.key (shape_in state n) 8 middle after (steps + 1) now
    → FreesParts p state.key (shape_in state n) 1 state.book after steps now
frees_node p state n middle after steps now s is branch last o none r =
    let t = shape_in state n in
    let key = state.key in
    let before = state.book in
    let down = one_fell p before middle n o (omega (arith, last, none)) in
    let gone = freed_gone p state middle n s is last o none in
    let was : IsShapeStored p key before t =
    record { name = n; is_name = is; live = omega (arith, last); shape = refl } in
    record {
      fell = fell_on p before middle after down r.fell;
      freed = t ∷ r.freed;
      different =
          AllPairs-cons (λ q u. q ≢ u) t r.freed
          (All-weaker (IsFreed p key middle after) (λ q. t ≢ q)
          (λ q h e. gone
          (subst (λ x. IsShapeStored p key middle x)
          (sym e) h.was)) r.freed r.each) r.different;
      parts = All-cons (λ q. IsPart q t) t r.freed
          (whole (not_clear_at state.key n.level n)) r.parts;
      each = All-cons (λ q. IsFreed p key before after q) t r.freed
          (record {
            is_branch = branch;
            was = was;
            gone = λ x. gone (stored_before p key middle after t r.fell x);
          })
          (All-weaker (IsFreed p key middle after) (IsFreed p key before after)
          (λ q h. freed_wider p key before middle after after q down
          (λ m j. omega arith) h) r.freed r.each);
      turns = omega (arith, r.turns);
    }

-- one more octant goes, where it has a child
pub frees_octant : (p : Layout) (key : Name → Key) (before middle after : Name → ℕ) (s : Shape)
    (k steps now last : ℕ) → FreesParts p key s k before middle steps now
    → FreesParts p key (octant_shape s k) 1 middle after now last
    → FreesParts p key s (k + 1) before after steps last
frees_octant p key before middle after s k steps now last a b = record {
  fell = fell_on p before middle after a.fell b.fell;
  freed = a.freed ++ b.freed;
  different = pairs_append (λ r t. r ≢ t) a.freed b.freed a.different b.different
      (All-weaker (IsFreed p key before middle) (λ x. All (λ y. x ≢ y) b.freed)
      (λ x h. All-weaker (IsFreed p key middle after) (λ y. x ≢ y)
      (λ y g e. h.gone
      (subst (λ z. IsShapeStored p key middle z) (sym e) g.was)) b.freed b.each) a.freed a.each);
  parts = All-append (λ q. IsPart q s) a.freed b.freed a.parts
      (All-weaker (λ q. IsPart q (octant_shape s k)) (λ q. IsPart q s)
      (λ q h. within k h) b.freed b.parts);
  each = All-append (IsFreed p key before after) a.freed b.freed
      (All-weaker (IsFreed p key before middle) (IsFreed p key before after)
      (λ q h. freed_wider p key before before middle after q
      (λ m j. omega arith) b.fell h) a.freed a.each)
      (All-weaker (IsFreed p key middle after) (IsFreed p key before after)
      (λ q h. freed_wider p key before middle after after q a.fell
      (λ m j. omega arith) h) b.freed b.each);
  turns = omega (arith, a.turns, b.turns, length-append a.freed b.freed);
}

-- what is part of a tree that stands is stored
held_stored : (p : Layout) (state : State) (held : List Tree) (t : Tree) (r : Shape)
    → SoundEntries p state → AreLiveTrees p state held → IsHeld held t → IsPart r (shape_of t)
    → IsShapeStored p state.key state.book r
held_stored p state held t r sound all h part =
    let s : IsLiveTree p state t = all.each t h in
    part_stored p state sound s.name.level s.name
    (record { live = s.live; same_level = refl }) part (ap shape_of (sym s.tree))

-- what a store promises of giving back
pub returns_within : (p : Layout) (state : State) (before : Name → ℕ) (held : List Tree)
    (s : Shape) (steps now : ℕ) → SoundEntries p state → AreLiveTrees p state held
    → FreesParts p state.key s 1 before state.book steps now → ReturnsWithin held s steps now
returns_within p state before held s steps now sound all f = record {
  freed = f.freed;
  different = f.different;
  parts = f.parts;
  unheld = All-weaker (IsFreed p state.key before state.book) (IsUnheldBranch held) (λ q h. record {
    is_branch = h.is_branch;
    unheld =
        λ t x part. h.gone
        (held_stored p state held t q sound all x part);
  }) f.freed f.each;
  turns = f.turns;
}

-- where the whole is still held nothing was freed
pub frees_none : (p : Layout) (state : State) (before : Name → ℕ) (held : List Tree) (t : Tree)
    (s : Shape) (first steps now : ℕ) → SoundEntries p state → AreLiveTrees p state held
    → IsHeld held t → shape_of t ≡ s
    → FreesParts p state.key s first before state.book steps now → now ≤ steps + first
frees_none p state before held t s first steps now sound all h e f =
    go f.freed f.parts f.each f.turns
  where
    go : (freed : List Shape) → All (λ q. IsPart q s) freed
        → All (λ q. IsFreed p state.key before state.book q) freed
        → now ≤ steps + first + 8 * length freed → now ≤ steps + first
    go [] parts each turns = omega arith
    go (q ∷ qs) parts each turns =
        let d = All-head (λ x. IsFreed p state.key before state.book x) q qs each in
        absurd (d.gone
        (held_stored p state held t q sound all h
        (subst (λ x. IsPart q x) (sym e) (All-head (λ x. IsPart x s) q qs parts))))
