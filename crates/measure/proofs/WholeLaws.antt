-- Tallies of whole blocks.
use Rattle.std.proofs.Common.{◌≡◌, ℕ, zero, suc, ◌+◌, ◌-◌, ◌*◌, ◌<◌, ◌≤◌, ◌∙◌, sym, ap, subst, refl, arith, true, false, Bool}
use Rattle.std.specs.Prelude.{List, Option}
use Rattle.vw_cell.specs.declared.cells.Cell.{Cell}
use Rattle.vw_cell.specs.declared.boxes.Boxed.{Boxed}
use Rattle.vw_cell.specs.Places.{block_side, half_x, half_y, half_z}
use Rattle.vw_cell.specs.Counts.{number_in, number_below-at, cell_at}
use Rattle.node_words.specs.Sums.{one_if}
use Rattle.node_words.specs.shapes.Tree.{Tree}
use Rattle.node_words.specs.Held.{StoreState}
use Rattle.node_words.specs.declared.descent.answers.Known.{Known}
use Rattle.node_words.specs.descent.Answers.{AreRight}
use Rattle.node_words.specs.descent.Parts.{EndsBy, part_in, whole_of, half_at, half_size}
use Rattle.node_words.proofs.OfDescent.LookLaws.{twice, same_cell}
use Rattle.measure.specs.declared.tallies.Part.{Part}
use Rattle.measure.specs.declared.wholes.WholeBlock.{WholeBlock}
use Rattle.measure.specs.Leaves.{BitsPassTest}
use Rattle.measure.specs.Tallies.{Counting, in_octant, PassesNone, IsTally, IsWholeTally}
use Rattle.measure.proofs.TallyLaws.{tallied, tallied_step, none_tallied}

pub whole_ends : (level : ℕ) → EndsBy (block_side level) (whole_of level)
whole_ends level = record { x = omega arith; y = omega arith; z = omega arith }

-- the whole of a block has the whole of each octant
half_none : (half i : ℕ) → half_at half i 0 ≡ 0
half_none half zero = omega arith
half_none half (suc i) = omega arith

half_all : (half i side : ℕ) → side ≡ 2 * half → i < 2 → half_at half i (0 + side) ≡ half
half_all half zero side e lt = omega arith
half_all half (suc zero) side e lt = omega arith
half_all half (suc (suc i)) side e lt = absurd (omega arith)

half_whole : (half i side : ℕ) → side ≡ 2 * half → i < 2 → half_size half i 0 side ≡ half
half_whole half i side e lt = omega (arith, half_none half i, half_all half i side e lt)

abbrev box_at : ℕ → ℕ → ℕ → ℕ → ℕ → ℕ → Boxed
box_at a b c x y z = record { at = cell_at a b c; size = cell_at x y z }

pub boxes_same : (a b c x y z a' b' c' x' y' z' : ℕ) → a ≡ a' → b ≡ b' → c ≡ c' → x ≡ x' → y ≡ y'
    → z ≡ z' → box_at a b c x y z ≡ box_at a' b' c' x' y' z'
boxes_same a b c x y z a' b' c' x' y' z' p q r u v w = rw (p, q, r, u, v, w) refl

pub whole_part : (level k : ℕ) → 1 ≤ level → k < 8
    → whole_of (level - 1) ≡ part_in (block_side (level - 1)) (whole_of level) k
whole_part level k h lt =
    let half = block_side (level - 1) in
    let side = block_side level in
    let e = twice level h in
    boxes_same _ _ _ _ _ _ _ _ _ _ _ _
    (sym (half_none half (half_x k))) (sym (half_none half (half_y k)))
    (sym (half_none half (half_z k)))
    (sym (half_whole half (half_x k) side e (omega arith)))
    (sym (half_whole half (half_y k) side e (omega arith)))
    (sym (half_whole half (half_z k) side e (omega arith)))

-- one more octant of a whole block
pub whole_step : {S : Type 0} (counts : Counting S) (a b c : StoreState) (level k m n : ℕ)
    (subject inner : S) (test : Cell → Bool) → b ≡ a → c ≡ b → 1 ≤ level → k < 8
    → ((u : Cell → Bool) → counts b.held level subject u
    → counts b.held (level - 1) inner (in_octant level k u))
    → IsWholeTally counts c.held (record { subject = inner; level = level - 1 }) n
    → counts a.held level subject test → m ≡ tallied level (whole_of level) test k
    → m + n ≡ tallied level (whole_of level) test (k + 1)
whole_step counts a b c level k m n subject inner test e f h lt down told passes sofar =
    tallied_step counts a b c level (block_side (level - 1)) k m n subject inner (whole_of level)
    (whole_of (level - 1)) test e f refl (whole_part level k h lt) down told passes sofar

pub whole_right_again : {S : Type 0} (counts : Counting S) (a b c : StoreState)
    (places : List (Option (Known (WholeBlock S)))) → b ≡ a → c ≡ b
    → AreRight (IsWholeTally counts) c.held places → AreRight (IsWholeTally counts) a.held places
whole_right_again counts a b c places e f r =
    subst (λ (s : StoreState). AreRight (IsWholeTally counts) s.held places) (f ∙ e) r

-- a part that is the whole has its number
pub part_of_whole : {S : Type 0} (counts : Counting S) (held : List Tree) (level n : ℕ)
    (subject : S) (part : Boxed) (w : WholeBlock S) → part ≡ whole_of level
    → w ≡ record { subject = subject; level = level } → IsWholeTally counts held w n
    → IsTally counts held (record { subject = subject; level = level; part = part }) n
part_of_whole {S = S} counts held level n subject part w e f told test p =
    let is = subst (λ (v : WholeBlock S). IsWholeTally counts held v n) f told in
    is test p ∙ ap (λ (b : Boxed). number_in b test) (sym e)

-- where no cell of the whole counts, none of a part does
none_counts : (b : Bool) (n : ℕ) → one_if b ≤ n → 0 ≡ n → b ≡ false
none_counts true n le e = absurd (omega arith)
none_counts false n le e = refl

pub none_passes : (level : ℕ) (test : Cell → Bool) → 0 ≡ number_in (whole_of level) test
    → PassesNone level test
none_passes level test e = record {
  each = λ c i.
      let place : c ≡ cell_at (0 + c.x) (0 + c.y) (0 + c.z) =
      same_cell c _ _ _ (omega arith) (omega arith) (omega arith) in
      ap test place
      ∙ none_counts (test (cell_at (0 + c.x) (0 + c.y) (0 + c.z))) (number_in (whole_of level) test)
      (number_below-at (cell_at (block_side level) (block_side level) (block_side level)) c
      (λ q. test (cell_at (0 + q.x) (0 + q.y) (0 + q.z)))
      (record { x = i.x; y = i.y; z = i.z })) e;
}

pub none_of_part : {S : Type 0} (counts : Counting S) (a b : StoreState) (level n : ℕ) (subject : S)
    (part : Boxed) (w : WholeBlock S) → b ≡ a → w ≡ record { subject = subject; level = level } → n ≡ 0
    → EndsBy (block_side level) part → IsWholeTally counts b.held w n
    → IsTally counts a.held (record { subject = subject; level = level; part = part }) 0
none_of_part {S = S} counts a b level n subject part w e f z ends told test p =
    let is = subst (λ (v : WholeBlock S). IsWholeTally counts b.held v n) f told in
    let there = subst (λ (s : StoreState). counts s.held level subject test) (sym e) p in
    none_tallied level part test ends (none_passes level test (sym z ∙ is test there))

-- the same, by what is seen before a call that changes nothing
pub tally_before : {S : Type 0} (counts : Counting S) (a b : StoreState) (of : Part S) (n : ℕ) → b ≡ a
    → IsTally counts b.held of n → IsTally counts a.held of n
tally_before counts a b of n e told test p =
    told test (subst (λ (s : StoreState). counts s.held of.level of.subject test) (sym e) p)

pub right_before : {S : Type 0} (counts : Counting S) (a b : StoreState)
    (places : List (Option (Known (Part S)))) → b ≡ a → AreRight (IsTally counts) b.held places
    → AreRight (IsTally counts) a.held places
right_before counts a b places e r =
    subst (λ (s : StoreState). AreRight (IsTally counts) s.held places) e r

pub whole_right_before : {S : Type 0} (counts : Counting S) (a b : StoreState)
    (places : List (Option (Known (WholeBlock S)))) → b ≡ a
    → AreRight (IsWholeTally counts) b.held places → AreRight (IsWholeTally counts) a.held places
whole_right_before counts a b places e r =
    subst (λ (s : StoreState). AreRight (IsWholeTally counts) s.held places) e r

-- of a leaf
pub leaf_tally : {S : Type 0} (counts : Counting S) (held : List Tree) (of : Part S) (bits n : ℕ)
    → of.level ≡ 0 → ((test : Cell → Bool) → counts held 0 of.subject test → BitsPassTest bits test)
    → ((test : Cell → Bool) → BitsPassTest bits test → n ≡ number_in of.part test)
    → IsTally counts held of n
leaf_tally counts held of bits n z bits_are told test p =
    told test (bits_are test (subst (λ (l : ℕ). counts held l of.subject test) z p))

pub whole_leaf_tally : {S : Type 0} (counts : Counting S) (held : List Tree) (of : WholeBlock S)
    (bits n : ℕ) (part : Boxed) → of.level ≡ 0 → part ≡ whole_of 0
    → ((test : Cell → Bool) → counts held 0 of.subject test → BitsPassTest bits test)
    → ((test : Cell → Bool) → BitsPassTest bits test → n ≡ number_in part test)
    → IsWholeTally counts held of n
whole_leaf_tally counts held of bits n part z e bits_are told test p =
    told test (bits_are test (subst (λ (l : ℕ). counts held l of.subject test) z p))
    ∙ ap (λ (b : Boxed). number_in b test) e
    ∙ ap (λ (l : ℕ). number_in (whole_of l) test) (sym z)
