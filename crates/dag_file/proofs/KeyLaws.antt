-- Keys that are found one after the other.
use Rattle.std.proofs.Common.{◌≡◌, ℕ, zero, suc, ◌+◌, ◌-◌, ◌*◌, ◌/◌, ◌%◌, ◌^◌, ◌<◌, ◌≤◌, ◌⊎◌, inl, inr, List, [], ◌∷◌, ◌++◌, length, Option, Some, None, refl, sym, subst, ap, ◌∙◌, arith}
use Rattle.std.specs.Prelude.{slice_index, slice_index_or, slice_get}
use Rattle.std.specs.List.{Contains}
use Rattle.std.specs.List.Sorted.{IsStrictlyIncreasing}
use Rattle.std.proofs.lemmas.Bool.{cases_lt}
use Rattle.std.proofs.lemmas.List.Elements.{Contains-get_or, Contains-append_left, Contains-append_right, Contains-append_cases}
use Rattle.std.proofs.lemmas.List.{append-nil}
use Rattle.std.proofs.lemmas.Option.{none-some}
use Rattle.node_words.specs.declared.shapes.names.Name.{Name}
use Rattle.node_words.specs.Held.{StoreState}
use Rattle.node_words.specs.shapes.Tree.{Tree, root_of, child_of}
use Rattle.node_words.specs.descent.Roots.{IsBlockOf, HasBlock, IsOctantOf}
use Rattle.node_words.proofs.OfDescent.BlockLaws.{root_block}
use Rattle.dag_file.specs.Lists.{HoldsList}
use Rattle.dag_file.specs.Trees.{entry_name, named_index}
use Rattle.dag_file.specs.Writes.{AddsKeys, AreReached, IsChildKey, IsChildOf, AreChildren, IsRootKey, AreRootKeys, HasByteSlot, keys_of}

-- nothing is in an empty list, and one thing in a list of one
in_none : (x : ℕ) → Contains [] x → ⊥
in_none x h = absurd (omega (arith, h.1))

in_one : (k x : ℕ) → Contains (k ∷ []) x → x ≡ k
in_one k x (zero, below, is) = sym is
in_one k x (suc i, below, is) = absurd (omega (arith, below))

one_in : (k : ℕ) → Contains (k ∷ []) k
one_in k = (0, omega arith, refl)

abbrev name_or : Option Name → Name → Name
name_or None d = d
name_or (Some n) d = n

some_one : (m n : Name) → Some m ≡ Some n → m ≡ n
some_one m n e = ap (λ (o : Option Name). name_or o m) e

abbrev item_or : Option (ℕ × Option Name) → ℕ × Option Name → ℕ × Option Name
item_or None d = d
item_or (Some n) d = n

-- nothing was found
adds_none : (P : ℕ → Type 0) (xs : List ℕ) → ((x : ℕ) → P x → ⊥) → AddsKeys P xs xs
adds_none P xs none = record {
  keeps = λ x h. h;
  adds = λ x p. absurd (none x p);
  only = λ x h. inl h;
}

-- the same, told in other words
adds_same : (P Q : ℕ → Type 0) (old new : List ℕ) → AddsKeys P old new → ((x : ℕ) → P x → Q x)
    → ((x : ℕ) → Q x → P x) → AddsKeys Q old new
adds_same P Q old new a there back = record {
  keeps = a.keeps;
  adds = λ x q. a.adds x (back x q);
  only = λ x h. elim (a.only x h) [
    | inl o ↦ inl o
    | inr p ↦ inr (there x p)
  ];
}

-- first the ones, then the others
adds_more : (P Q R : ℕ → Type 0) (a b c : List ℕ) → AddsKeys P a b → AddsKeys Q b c
    → ((x : ℕ) → P x → R x) → ((x : ℕ) → Q x → R x) → ((x : ℕ) → R x → P x ⊎ Q x) → AddsKeys R a c
adds_more P Q R a b c first next left right back = record {
  keeps = λ x h. next.keeps x (first.keeps x h);
  adds = λ x r. elim (back x r) [
    | inl p ↦ next.keeps x (first.adds x p)
    | inr q ↦ next.adds x q
  ];
  only = λ x h. elim (next.only x h) [
    | inl o ↦ elim (first.only x o) [
      | inl old ↦ inl old
      | inr p ↦ inr (left x p)
    ]
    | inr q ↦ inr (right x q)
  ];
}

-- one is pushed
adds_pushed : (k : ℕ) (old new : List ℕ) → new ≡ old ++ k ∷ [] → AddsKeys (λ x. x ≡ k) old new
adds_pushed k old new e = subst (λ (n : List ℕ). AddsKeys (λ x. x ≡ k) old n) (sym e) (record {
  keeps = λ x h. Contains-append_left old (k ∷ []) x h;
  adds = λ x p. subst (λ (y : ℕ). Contains (old ++ k ∷ []) y) (sym p)
      (Contains-append_right old (k ∷ []) k (one_in k));
  only = λ x h. elim (Contains-append_cases old (k ∷ []) x h) [
    | inl o ↦ inl o
    | inr one ↦ inr (in_one k x one)
  ];
})

-- ---- the octants of a node

pub no_octants : (held : List Tree) (level : ℕ) (node : Name) (xs : List ℕ)
    → AddsKeys (IsChildKey held level node 0) xs xs
no_octants held level node xs = adds_none _ xs (λ x h. absurd (omega (arith, h.octant)))

wider : (held : List Tree) (level : ℕ) (node : Name) (n x : ℕ) → IsChildKey held level node n x
    → IsChildKey held level node (n + 1) x
wider held level node n x h =
    record {
      k = h.k;
      octant = omega
          (arith, h.octant);
      name = h.name;
      child = h.child;
      slot = h.slot;
      is = h.is;
    }

-- what stands in an octant has one name
one_child : (held : List Tree) (level : ℕ) (node : Name) (k n : ℕ) (a b : Option Name)
    → HasBlock held level (Some node) → k ≡ n → IsOctantOf held level (Some node) k a
    → IsOctantOf held level (Some node) n b → a ≡ b
one_child held level node k n a b block e ca cb =
    sym (ca block.tree block.is_block).root ∙ ap (λ (i : ℕ). root_of (child_of block.tree i)) e
    ∙ (cb block.tree block.is_block).root

-- the octant n has nothing
pub octant_none : (held : List Tree) (level : ℕ) (node : Name) (n : ℕ) (old new : List ℕ)
    → HasBlock held level (Some node) → AddsKeys (IsChildKey held level node n) old new
    → IsOctantOf held level (Some node) n None
    → AddsKeys (IsChildKey held level node (n + 1)) old new
octant_none held level node n old new block a none =
    adds_same _ _ old new a (wider held level node n) (λ x h. elim (cases_lt h.k n) [
      | inl less ↦
          record { k = h.k; octant = less; name = h.name; child = h.child; slot = h.slot; is = h.is }
      | inr more ↦ absurd
          (none-some h.name
          (sym (one_child held level node h.k n (Some h.name) None block
          (omega (arith, more, h.octant)) h.child none)))
    ])

-- the octant n has a node, whose key is pushed
pub octant_some : (held : List Tree) (level : ℕ) (node c : Name) (n : ℕ) (old mid new : List ℕ)
    → HasBlock held level (Some node) → AddsKeys (IsChildKey held level node n) old mid
    → IsOctantOf held level (Some node) n (Some c) → HasByteSlot (Some c)
    → new ≡ mid ++ named_index c ∷ [] → AddsKeys (IsChildKey held level node (n + 1)) old new
octant_some held level node c n old mid new block a some slot e =
    adds_more _ _ _ old mid new a (adds_pushed (named_index c) mid new e) (wider held level node n)
    (λ x p. record { k = n; octant = omega arith; name = c; child = some; slot = slot; is = p })
    (λ x h. elim (cases_lt h.k n) [
      | inl less ↦ inl
          (record { k = h.k; octant = less; name = h.name; child = h.child; slot = h.slot; is = h.is })
      | inr more ↦ inr
          (h.is ∙ ap named_index
          (some_one h.name c
          (one_child held level node h.k n (Some h.name) (Some c) block
          (omega (arith, more, h.octant)) h.child some)))
    ])

pub octant_pushed : (held : List Tree) (level : ℕ) (node : Name) (c : Option Name) (n : ℕ)
    (old mid new : List ℕ) → HasBlock held level (Some node)
    → AddsKeys (IsChildKey held level node n) old mid → IsOctantOf held level (Some node) n c
    → HasByteSlot c → new ≡ mid ++ keys_of c → AddsKeys (IsChildKey held level node (n + 1)) old new
octant_pushed held level node None n old mid new block a none slot e =
    subst (λ (m : List ℕ). AddsKeys (IsChildKey held level node (n + 1)) old m)
    (sym (e ∙ append-nil mid)) (octant_none held level node n old mid block a none)
octant_pushed held level node (Some c) n old mid new block a some slot e =
    octant_some held level node c n old mid new block a some slot e

-- the same where the store was seen as before
pub octant_step : (a b : StoreState) (level : ℕ) (node : Name) (c : Option Name) (n : ℕ)
    (old mid new : List ℕ) → b ≡ a → HasBlock b.held level (Some node)
    → AddsKeys (IsChildKey a.held level node n) old mid → IsOctantOf b.held level (Some node) n c
    → HasByteSlot c → new ≡ mid ++ keys_of c
    → AddsKeys (IsChildKey a.held level node (n + 1)) old new
octant_step a b level node c n old mid new same block ad some slot e =
    octant_pushed a.held level node c n old mid new
    (subst (λ (s : StoreState). HasBlock s.held level (Some node)) same block) ad
    (subst (λ (s : StoreState). IsOctantOf s.held level (Some node) n c) same some) slot e

-- ---- the nodes of a list

pub no_nodes : (held : List Tree) (level : ℕ) (keys xs : List ℕ)
    → AddsKeys (IsChildOf held level keys 0) xs xs
no_nodes held level keys xs = adds_none _ xs (λ x h. absurd (omega (arith, h.before)))

pub one_node_more : (held : List Tree) (level : ℕ) (keys : List ℕ) (n : ℕ) (old mid new : List ℕ)
    → AddsKeys (IsChildOf held level keys n) old mid
    → AddsKeys (IsChildKey held level (entry_name level (slice_index keys n)) 8) mid new
    → AddsKeys (IsChildOf held level keys (n + 1)) old new
one_node_more held level keys n old mid new a b = adds_more _ _ _ old mid new a b
    (λ x h. record { j = h.j; before = omega (arith, h.before); child = h.child })
    (λ x h. record { j = n; before = omega arith; child = h })
    (λ x h. elim (cases_lt h.j n) [
      | inl less ↦ inl (record { j = h.j; before = less; child = h.child })
      | inr more ↦ inr
          (subst (λ (j : ℕ). IsChildKey held level (entry_name level (slice_index keys j)) 8 x)
          (at_end h.j (omega (arith, more)) h.before) h.child)
    ]) where
      at_end : (j : ℕ) → n ≤ j → j < n + 1 → j ≡ n
      at_end j l m = omega (arith, l, m)

pub node_step : (a b : StoreState) (level : ℕ) (keys : List ℕ) (n : ℕ) (node : Name)
    (old mid new : List ℕ) → b ≡ a → AddsKeys (IsChildOf a.held level keys n) old mid
    → node ≡ entry_name level (slice_index keys n)
    → AddsKeys (IsChildKey b.held level node 8) mid new
    → AddsKeys (IsChildOf a.held level keys (n + 1)) old new
node_step a b level keys n node old mid new same ad named one =
    one_node_more a.held level keys n old mid new ad
    (subst (λ (m : Name). AddsKeys (IsChildKey a.held level m 8) mid new) named
    (subst (λ (s : StoreState). AddsKeys (IsChildKey s.held level node 8) mid new) same one))

pub still_block : (a b : StoreState) (level : ℕ) (node : Name) → b ≡ a → HasBlock a.held level (Some node)
    → HasBlock b.held level (Some node)
still_block a b level node same h =
    subst (λ (s : StoreState). HasBlock s.held level (Some node)) (sym same) h

pub still_reached : (a b : StoreState) (level : ℕ) (keys : List ℕ) → b ≡ a → AreReached a.held level keys
    → AreReached b.held level keys
still_reached a b level keys same r =
    subst (λ (s : StoreState). AreReached s.held level keys) (sym same) r

-- all of them, sorted
pub children_sorted : (held : List Tree) (level n : ℕ) (keys found sorted : List ℕ)
    → AddsKeys (IsChildOf held level keys n) [] found → n ≤ length keys → length keys ≤ n
    → IsStrictlyIncreasing sorted → ((x : ℕ) → Contains found x → Contains sorted x)
    → ((x : ℕ) → Contains sorted x → Contains found x) → AreChildren held level keys sorted
children_sorted held level n keys found sorted a few many rises there back = record {
  rises = rises;
  all = λ x h. there x
      (a.adds x (record { j = h.j; before = omega (arith, many, h.before); child = h.child }));
  only = λ x h. elim (a.only x (back x h)) [
    | inl none ↦ absurd (in_none x none)
    | inr child ↦
        record { j = child.j; before = omega (arith, few, child.before); child = child.child }
  ];
}

-- a name is that of its key
pub entry_of : (n : Name) (level : ℕ) → n.level ≡ level → n.slot < 256
    → entry_name level (named_index n) ≡ n
entry_of n level l s =
    let b : (256 * n.bucket + n.slot) / 256 ≡ n.bucket = omega (arith, s) in
    let r : (256 * n.bucket + n.slot) % 256 ≡ n.slot = omega (arith, s) in
    λ i. record { bucket = b i; level = sym l i; slot = r i }

-- the name of the key of what stands in an octant, over a tree of the node
pub key_block : (held : List Tree) (level : ℕ) (node : Name) (n x : ℕ) (t : Tree)
    (h : IsChildKey held level node n x) → IsBlockOf held level (Some node) t
    → IsBlockOf held (level - 1) (Some (entry_name (level - 1) x)) (child_of t h.k)
key_block held level node n x t h b =
    let c = h.child t b in
    subst (λ (m : Name). IsBlockOf held (level - 1) (Some m) (child_of t h.k))
    (sym (ap (λ (y : ℕ). entry_name (level - 1) y) h.is
    ∙ entry_of h.name (level - 1) (c.of_level h.name refl) h.slot.0)) c

-- the children of nodes may be read
pub children_reached : (held : List Tree) (level : ℕ) (keys children : List ℕ)
    → AreReached held level keys → AreChildren held level keys children
    → AreReached held (level - 1) children
children_reached held level keys children r a = record {
  below = λ j l. let h =
      (a.only (slice_index children j)
      (Contains-get_or children j 0 l)).child in let is = h.is in let slot = h.slot.1 in omega
      (arith, is, slot);
  blocks = λ j l. (
      let c = a.only (slice_index children j) (Contains-get_or children j 0 l) in
      let b = r.blocks c.j c.before in
      record {
        tree = child_of b.tree c.child.k;
        is_block = key_block held level
            (entry_name level (slice_index keys c.j)) 8
            (slice_index children j) b.tree c.child b.is_block;
      });
}

-- rising numbers below a bound are no more than it
from_index : (xs : List ℕ) (i : ℕ) → IsStrictlyIncreasing xs → i < length xs → i ≤ slice_index xs i
from_index xs zero up l = omega arith
from_index xs (suc i) up l =
    let before = from_index xs i up (omega (arith, l)) in
    let next = up i (omega (arith, l)) in
    let e : slice_index xs (i + 1) ≡ slice_index xs (suc i) =
    ap (λ (k : ℕ). slice_index xs k) (omega arith) in
    omega (arith, before, next, e)

few_below : (keys : List ℕ) → IsStrictlyIncreasing keys
    → ((j : ℕ) → j < length keys → slice_index keys j < 2 ^ 24) → length keys ≤ 2 ^ 24
few_below keys up low = elim (cases_lt 0 (length keys)) [
  | inl some ↦ (
      let last = low (length keys - 1) (omega (arith, some)) in
      let high = from_index keys (length keys - 1) up (omega (arith, some)) in
      omega (arith, last, high, some))
  | inr none ↦ omega (arith, none)
]

pub few_keys : (held : List Tree) (level : ℕ) (keys : List ℕ) → IsStrictlyIncreasing keys
    → AreReached held level keys → length keys ≤ 2 ^ 24
few_keys held level keys up r = few_below keys up r.below

pub few_roots : (roots : List (ℕ × Option Name)) (keys : List ℕ) → AreRootKeys roots keys
    → length keys ≤ 2 ^ 24
few_roots roots keys a =
    few_below keys a.rises
    (λ j l. (let h = a.only (slice_index keys j)
    (Contains-get_or keys j 0 l) in let is = h.is in let slot = h.slot.1 in omega
    (arith, is, slot)))

-- ---- roots

pub no_roots : (roots : List (ℕ × Option Name)) (xs : List ℕ) → AddsKeys (IsRootKey roots 0) xs xs
no_roots roots xs = adds_none _ xs (λ x h. absurd (omega (arith, h.before)))

root_wider : (roots : List (ℕ × Option Name)) (n x : ℕ) → IsRootKey roots n x
    → IsRootKey roots (n + 1) x
root_wider roots n x h =
    record {
      v = h.v;
      before = omega
          (arith, h.before);
      number = h.number;
      name = h.name;
      there = h.there;
      slot = h.slot;
      is = h.is;
    }

same_item : (p q : ℕ × Option Name) → Some p ≡ Some q → p ≡ q
same_item p q e = ap (λ (o : Option (ℕ × Option Name)). item_or o p) e

-- root n has no name, or one whose key is pushed
pub root_step : (roots : List (ℕ × Option Name)) (n number : ℕ) (c : Option Name)
    (old mid new : List ℕ) → slice_get roots n ≡ Some (number, c) → HasByteSlot c
    → AddsKeys (IsRootKey roots n) old mid → new ≡ mid ++ keys_of c
    → AddsKeys (IsRootKey roots (n + 1)) old new
root_step roots n number None old mid new at slot a e =
    subst (λ (m : List ℕ). AddsKeys (IsRootKey roots (n + 1)) old m) (sym (e ∙ append-nil mid))
    (adds_same _ _ old mid a (root_wider roots n) (λ x h. elim (cases_lt h.v n) [
      | inl less ↦
          record { v = h.v; before = less; number = h.number; name = h.name; there = h.there; slot = h.slot; is = h.is }
      | inr more ↦ absurd
          (none-some h.name
          (ap (λ (p : ℕ × Option Name). p.1)
          (same_item (number, None) (h.number, Some h.name)
          (sym at ∙ ap (λ (i : ℕ). slice_get roots i) (at_n h.v more h.before) ∙ h.there))))
    ])) where
      at_n : (v : ℕ) → n ≤ v → v < n + 1 → n ≡ v
      at_n v l m = omega (arith, l, m)
root_step roots n number (Some c) old mid new at slot a e =
    adds_more _ _ _ old mid new a (adds_pushed (named_index c) mid new e) (root_wider roots n)
    (λ x p. record { v = n; before = omega arith; number = number; name = c; there = at; slot = slot; is = p })
    (λ x h. elim (cases_lt h.v n) [
      | inl less ↦ inl
          (record { v = h.v; before = less; number = h.number; name = h.name; there = h.there; slot = h.slot; is = h.is })
      | inr more ↦ inr
          (h.is ∙ ap named_index
          (some_one h.name c
          (sym (ap (λ (p : ℕ × Option Name). p.1)
          (same_item (number, Some c) (h.number, Some h.name)
          (sym at ∙ ap (λ (i : ℕ). slice_get roots i) (at_n h.v more h.before)
          ∙ h.there))))))
    ]) where
      at_n : (v : ℕ) → n ≤ v → v < n + 1 → n ≡ v
      at_n v l m = omega (arith, l, m)

pub got : (roots : List (ℕ × Option Name)) (n : ℕ) (item : ℕ × Option Name) → n < length roots
    → item ≡ slice_index_or roots n item → slice_get roots n ≡ Some item
got [] n item l e = absurd (omega (arith, l))
got (r ∷ rs) zero item l e = ap Some (sym e)
got (r ∷ rs) (suc n) item l e = got rs n item (omega (arith, l)) e

pub root_item : (roots : List (ℕ × Option Name)) (n : ℕ) (item : ℕ × Option Name) (c : Option Name)
    (old mid new : List ℕ) → slice_get roots n ≡ Some item → c ≡ item.1 → HasByteSlot c
    → AddsKeys (IsRootKey roots n) old mid → new ≡ mid ++ keys_of c
    → AddsKeys (IsRootKey roots (n + 1)) old new
root_item roots n item c old mid new at is slot a e =
    root_step roots n item.0 item.1 old mid new at
    (subst (λ (o : Option Name). HasByteSlot o) is slot) a
    (e ∙ ap (λ (o : Option Name). mid ++ keys_of o) is)

pub roots_sorted : (roots : List (ℕ × Option Name)) (n : ℕ) (found sorted : List ℕ)
    → AddsKeys (IsRootKey roots n) [] found → n ≤ length roots → length roots ≤ n
    → IsStrictlyIncreasing sorted → ((x : ℕ) → Contains found x → Contains sorted x)
    → ((x : ℕ) → Contains sorted x → Contains found x) → AreRootKeys roots sorted
roots_sorted roots n found sorted a few many rises there back = record {
  rises = rises;
  all = λ x h. there x
      (a.adds x (record {
        v = h.v;
        before = omega
            (arith, many, h.before);
        number = h.number;
        name = h.name;
        there = h.there;
        slot = h.slot;
        is = h.is;
      }));
  only = λ x h. elim (a.only x (back x h)) [
    | inl none ↦ absurd (in_none x none)
    | inr r ↦ record {
      v = r.v;
      before = omega
          (arith, few, r.before);
      number = r.number;
      name = r.name;
      there = r.there;
      slot = r.slot;
      is = r.is;
    }
  ];
}

-- ---- the keys of roots may be read

pub roots_reached : (held : List Tree) (levels level : ℕ) (roots : List (ℕ × Option Name))
    (keys : List ℕ) → level ≡ suc levels - 2 → HoldsList held levels roots → AreRootKeys roots keys
    → AreReached held level keys
roots_reached held levels level roots keys level_is holds a = record {
  below = λ j l. let h = a.only (slice_index keys j)
      (Contains-get_or keys j 0 l) in let is = h.is in let slot = h.slot.1 in omega
      (arith, is, slot);
  blocks = λ j l. (
      let h = a.only (slice_index keys j) (Contains-get_or keys j 0 l) in
      let b =
      root_block held (suc levels) (Some h.name) (holds h.v (h.number, Some h.name) h.there) in
      let name : Some h.name ≡ Some (entry_name (suc levels - 2) (slice_index keys j)) =
      ap Some (sym
      (ap (λ (y : ℕ). entry_name (suc levels - 2) y) h.is
      ∙ entry_of h.name (suc levels - 2) (b.is_block.of_level h.name refl) h.slot.0)) in
      subst (λ (l : ℕ). HasBlock held l (Some (entry_name l (slice_index keys j)))) (sym level_is)
      (record {
        tree = b.tree;
        is_block = subst
            (λ (o : Option Name). IsBlockOf held (suc levels - 2) o b.tree) name b.is_block;
      }));
}
