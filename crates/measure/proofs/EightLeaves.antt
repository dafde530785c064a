-- The bits that count of the leaves below a block, and how many cells they are.
use Rattle.std.proofs.Common.{◌≡◌, ℕ, ◌+◌, ◌-◌, ◌<◌, ◌≤◌, Bool, List, length, length-set, refl, sym, ap, subst, ◌∙◌, arith, inl, inr}
use Rattle.std.specs.Prelude.{slice_set}
use Rattle.std.proofs.lemmas.Bool.{cases_eq}
use Rattle.std.proofs.lemmas.List.{get_or-set_same, get_or-set_other}
use Rattle.vw_cell.specs.declared.cells.Cell.{Cell}
use Rattle.vw_cell.specs.declared.boxes.Boxed.{Boxed}
use Rattle.vw_cell.specs.Places.{block_side}
use Rattle.vw_cell.specs.Counts.{number_in}
use Rattle.node_words.specs.Held.{StoreState, bits_of_leaf}
use Rattle.node_words.specs.descent.Parts.{whole_of}
use Rattle.measure.specs.declared.wholes.WholeBlock.{WholeBlock}
use Rattle.measure.specs.Leaves.{BitsPassTest}
use Rattle.measure.specs.Tallies.{Counting, in_octant, LeavesPassTest}
use Rattle.measure.proofs.TallyLaws.{tallied, tallied_more}
use Rattle.measure.proofs.WholeLaws.{whole_part}

pub no_leaves : (leaves : List ℕ) (test : Cell → Bool) → LeavesPassTest 0 leaves test
no_leaves leaves test = record { each = λ k lt. absurd (omega (arith, lt)) }

pub eight_long : (leaves : List ℕ) (i bits : ℕ) → length leaves ≡ 8
    → length (slice_set leaves i bits) ≡ 8
eight_long leaves i bits long = length-set leaves i bits ∙ long

-- the bits of one leaf more
one_more : (leaves : List ℕ) (n bits : ℕ) (test : Cell → Bool) → n < length leaves
    → LeavesPassTest n leaves test → BitsPassTest bits (in_octant 1 n test)
    → LeavesPassTest (n + 1) (slice_set leaves n bits) test
one_more leaves n bits test inside sofar here = record {
  each = λ k lt. elim (cases_eq k n) [
    | inl same ↦
        let told : bits_of_leaf (slice_set leaves n bits) k ≡ bits =
        ap (bits_of_leaf (slice_set leaves n bits)) same
        ∙ get_or-set_same leaves n bits 0 inside in
        subst (λ (b : ℕ). BitsPassTest b (in_octant 1 k test)) (sym told)
        (subst (λ (j : ℕ). BitsPassTest bits (in_octant 1 j test)) (sym same) here)
    | inr other ↦
        subst (λ (b : ℕ). BitsPassTest b (in_octant 1 k test))
        (sym (get_or-set_other leaves n k bits 0 other))
        (sofar.each k (omega (arith, lt, other)))
  ];
}

pub leaves_more : {S : Type 0} (counts : Counting S) (a b c : StoreState) (n i bits : ℕ)
    (leaves : List ℕ) (subject inner : S) (test : Cell → Bool) → length leaves ≡ 8 → n < 8 → i ≡ n
    → b ≡ a → c ≡ b
    → ((u : Cell → Bool) → counts b.held 1 subject u → counts b.held 0 inner (in_octant 1 n u))
    → ((u : Cell → Bool) → counts c.held 0 inner u → BitsPassTest bits u)
    → counts a.held 1 subject test → LeavesPassTest n leaves test
    → LeavesPassTest (n + 1) (slice_set leaves i bits) test
leaves_more counts a b c n i bits leaves subject inner test long lt place e f down told p sofar =
    let in_b = subst (λ (s : StoreState). counts s.held 1 subject test) (sym e) p in
    let in_c =
    subst (λ (s : StoreState). counts s.held 0 inner (in_octant 1 n test)) (sym f)
    (down test in_b) in
    subst (λ (j : ℕ). LeavesPassTest (n + 1) (slice_set leaves j bits) test) (sym place)
    (one_more leaves n bits test (omega (arith, long, lt)) sofar
    (told (in_octant 1 n test) in_c))

-- one leaf more of a whole block is counted
pub leaf_counted : {S : Type 0} (counts : Counting S) (a : StoreState) (of : WholeBlock S)
    (k i m n : ℕ) (leaves : List ℕ) (whole : Boxed) (test : Cell → Bool) → of.level ≡ 1 → k < 8
    → i ≡ k → whole ≡ whole_of 0
    → ((u : Cell → Bool) → counts a.held 1 of.subject u → LeavesPassTest 8 leaves u)
    → ((u : Cell → Bool) → BitsPassTest (bits_of_leaf leaves i) u → n ≡ number_in whole u)
    → counts a.held of.level of.subject test → m ≡ tallied of.level (whole_of of.level) test k
    → m + n ≡ tallied of.level (whole_of of.level) test (k + 1)
leaf_counted {S = S} counts a of k i m n leaves whole test z lt place w bits_are told p sofar =
    let there = subst (λ (l : ℕ). counts a.held l of.subject test) z p in
    let bits =
    subst (λ (j : ℕ). BitsPassTest (bits_of_leaf leaves j) (in_octant 1 k test)) (sym place)
    ((bits_are test there).each k lt) in
    let number : n ≡ number_in (whole_of 0) (in_octant 1 k test) =
    told (in_octant 1 k test) bits ∙ ap (λ (b : Boxed). number_in b (in_octant 1 k test)) w in
    subst (λ (l : ℕ). m + n ≡ tallied l (whole_of l) test (k + 1)) (sym z)
    (tallied_more 1 (block_side 0) k m n (whole_of 1) (whole_of 0) test refl
    (whole_part 1 k (omega arith) lt) number
    (subst (λ (l : ℕ). m ≡ tallied l (whole_of l) test k) z sofar))
