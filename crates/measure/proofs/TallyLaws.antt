-- The steps of a tally.
use Rattle.std.proofs.Common.{◌≡◌, ℕ, zero, suc, ◌+◌, ◌-◌, ◌*◌, ◌^◌, ◌<◌, ◌≤◌, ◌∙◌, sym, ap, subst, refl, arith, inl, inr, add-one, false, Bool}
use Rattle.std.proofs.lemmas.Nat.{mul-le}
use lib.Pow.{pow_mono}
use Rattle.vw_cell.specs.declared.cells.Cell.{Cell}
use Rattle.vw_cell.specs.declared.boxes.Boxed.{Boxed}
use Rattle.vw_cell.specs.Places.{block_side, half_x, half_y, half_z}
use Rattle.node_words.specs.Sums.{sum_below, sum_below-suc, sum_below-zero, sum_below-le}
use Rattle.vw_cell.specs.Counts.{number_in, number_below-none, number_below-same, number_below-le, cell_at}
use Rattle.node_words.specs.descent.Parts.{EndsBy, IsEmpty, part_in, half_at, half_size}
use Rattle.node_words.proofs.OfDescent.LookLaws.{twice}
use Rattle.node_words.proofs.OfDescent.Octants.{number_by_octants}
use Rattle.std.specs.Prelude.{List, Option}
use Rattle.node_words.specs.shapes.Tree.{Tree}
use Rattle.node_words.specs.Held.{StoreState}
use Rattle.node_words.specs.declared.descent.answers.Known.{Known}
use Rattle.node_words.specs.descent.Answers.{AreRight}
use Rattle.measure.specs.declared.tallies.Part.{Part}
use Rattle.measure.specs.Tallies.{Counting, in_octant, PassesNone, IsTally, IsOctantTally}

-- how many cells of a part count in its first k octants
abbrev pub tallied : ℕ → Boxed → (Cell → Bool) → ℕ → ℕ
tallied level part test k =
    sum_below k (λ o. number_in (part_in (block_side (level - 1)) part o) (in_octant level o test))

pub none_tallied : (level : ℕ) (part : Boxed) (test : Cell → Bool) → EndsBy (block_side level) part
    → PassesNone level test → 0 ≡ number_in part test
none_tallied level part test ends none =
    sym (number_below-same part.size _ (λ _. false)
    (λ c b. none.each (cell_at (part.at.x + c.x) (part.at.y + c.y) (part.at.z + c.z))
    (record {
      x = omega (arith, ends.x, b.x);
      y = omega (arith, ends.y, b.y);
      z = omega
          (arith, ends.z, b.z);
    }))
    ∙ number_below-none part.size (λ _. false) (λ _. refl))

zeros : (n : ℕ) (f : ℕ → ℕ) → ((i : ℕ) → f i ≡ 0) → sum_below n f ≡ 0
zeros n f none =
    let bound : sum_below n f ≤ n * 0 = sum_below-le n 0 f
    (λ i _. (let z = none i in omega arith)) in omega arith

no_terms : (n : ℕ) (f : ℕ → ℕ) → n ≡ 0 → sum_below n f ≡ 0
no_terms n f e = ap (λ (m : ℕ). sum_below m f) e ∙ sum_below-zero f

pub empty_tallied : (part : Boxed) (test : Cell → Bool) → IsEmpty part → 0 ≡ number_in part test
empty_tallied part test (inl x) =
    sym (zeros part.size.z _ (λ z. zeros part.size.y _ (λ y. no_terms part.size.x _ x)))
empty_tallied part test (inr (inl y)) = sym (zeros part.size.z _ (λ z. no_terms part.size.y _ y))
empty_tallied part test (inr (inr z)) = sym (no_terms part.size.z _ z)

-- one more octant
pub tallied_more : (level half k m n : ℕ) (part inner : Boxed) (test : Cell → Bool)
    → half ≡ block_side (level - 1) → inner ≡ part_in half part k
    → n ≡ number_in inner (in_octant level k test) → m ≡ tallied level part test k
    → m + n ≡ tallied level part test (k + 1)
tallied_more level half k m n part inner test h p told sofar =
    let last : n ≡ number_in (part_in (block_side (level - 1)) part k) (in_octant level k test) =
    told ∙ ap (λ (b : Boxed). number_in b (in_octant level k test))
    (p ∙ ap (λ (v : ℕ). part_in v part k) h)
    in
    let step : tallied level part test (suc k) ≡ tallied level part test k + number_in (part_in (block_side (level - 1)) part k) (in_octant level k test) = sum_below-suc k _ in
    rw add-one (omega (arith, step, last, sofar))

pub tallied_all : (level k m : ℕ) (part : Boxed) (test : Cell → Bool) → 1 ≤ level
    → EndsBy (block_side level) part → k ≡ 8 → m ≡ tallied level part test k
    → m ≡ number_in part test
tallied_all level k m part test h ends e sofar =
    sofar ∙ ap (λ (n : ℕ). tallied level part test n) e
    ∙ sym
    (number_by_octants (block_side (level - 1)) part test (λ o. in_octant level o test)
    (subst (λ (n : ℕ). EndsBy n part) (twice level h) ends) (λ o x y z _ _ _ _. refl))

-- numbers stay small
pub small_side : (level : ℕ) → level ≤ 10 → block_side level ≤ 4096
small_side level h = let bound : 2 ^ level ≤ 2 ^ 10 = pow_mono h in omega (arith, bound)

pub number_small : (b : Boxed) (test : Cell → Bool) → b.size.x ≤ 4096 → b.size.y ≤ 4096
    → b.size.z ≤ 4096 → number_in b test ≤ 2 ^ 36
number_small b test x y z =
    let all : number_in b test ≤ b.size.z * (b.size.y * b.size.x) =
    number_below-le b.size (λ q. test (cell_at (b.at.x + q.x) (b.at.y + q.y) (b.at.z + q.z))) in
    let rows : b.size.y * b.size.x ≤ 4096 * 4096 = mul-le b.size.y b.size.x 4096 4096 y x in
    let layers : b.size.z * (b.size.y * b.size.x) ≤ 4096 * (4096 * 4096) =
    mul-le b.size.z (b.size.y * b.size.x) 4096 (4096 * 4096) z rows in
    omega arith

half_size-le : (half i at size : ℕ) → half_size half i at size ≤ size
half_size-le half zero at size = omega arith
half_size-le half (suc i) at size = omega arith

pub tallied_fits : (level k m : ℕ) (part : Boxed) (test : Cell → Bool) → level ≤ 10
    → EndsBy (block_side level) part → k < 8 → m ≡ tallied level part test (k + 1) → m < 2 ^ 64
tallied_fits level k m part test h ends lt is =
    let side = small_side level h in
    let sum : tallied level part test (k + 1) ≤ (k + 1) * 2 ^ 36 =
    sum_below-le (k + 1) (2 ^ 36) _ (λ o _.
    number_small (part_in (block_side (level - 1)) part o) (in_octant level o test)
    (let fx = half_size-le (block_side (level - 1)) (half_x o) part.at.x part.size.x in omega
    (arith, fx, ends.x, side))
    (let fy = half_size-le (block_side (level - 1)) (half_y o) part.at.y part.size.y in omega
    (arith, fy, ends.y, side))
    (let fz = half_size-le (block_side (level - 1)) (half_z o) part.at.z part.size.z in omega
    (arith, fz, ends.z, side)))
    in
    omega (arith, is, sum)

-- the same, by what is known of the block before and after each call
pub tallied_step : {S : Type 0} (counts : Counting S) (a b c : StoreState) (level half k m n : ℕ)
    (subject inner : S) (part octant : Boxed) (test : Cell → Bool) → b ≡ a → c ≡ b
    → half ≡ block_side (level - 1) → octant ≡ part_in half part k
    → ((u : Cell → Bool) → counts b.held level subject u
    → counts b.held (level - 1) inner (in_octant level k u))
    → IsTally counts c.held (record { subject = inner; level = level - 1; part = octant }) n
    → counts a.held level subject test → m ≡ tallied level part test k
    → m + n ≡ tallied level part test (k + 1)
tallied_step counts a b c level half k m n subject inner part octant test e f h p down told passes sofar =
    let in_b = subst (λ (s : StoreState). counts s.held level subject test) (sym e) passes in
    let in_c =
    subst (λ (s : StoreState). counts s.held (level - 1) inner (in_octant level k test)) (sym f)
    (down test in_b) in
    tallied_more level half k m n part octant test h p (told (in_octant level k test) in_c) sofar

-- an octant in which none of the part lies, and one that was tallied
pub empty_octant : {S : Type 0} (counts : Counting S) (held : List Tree) (of : Part S) (half k : ℕ)
    (octant : Boxed) → half ≡ block_side (of.level - 1) → octant ≡ part_in half of.part k
    → IsEmpty octant → IsOctantTally counts held of k 0
empty_octant counts held of half k octant h is none test p =
    empty_tallied octant (in_octant of.level k test) none
    ∙ ap (λ (b : Boxed). number_in b (in_octant of.level k test))
    (is ∙ ap (λ (v : ℕ). part_in v of.part k) h)

pub octant_tallied : {S : Type 0} (counts : Counting S) (a b : StoreState) (of : Part S) (half k n : ℕ)
    (inner : S) (octant : Boxed) → b ≡ a → half ≡ block_side (of.level - 1)
    → octant ≡ part_in half of.part k
    → ((u : Cell → Bool) → counts a.held of.level of.subject u
    → counts a.held (of.level - 1) inner (in_octant of.level k u))
    → IsTally counts b.held (record { subject = inner; level = of.level - 1; part = octant }) n
    → IsOctantTally counts a.held of k n
octant_tallied counts a b of half k n inner octant e h is down told test p =
    told (in_octant of.level k test)
    (subst (λ (s : StoreState). counts s.held (of.level - 1) inner (in_octant of.level k test)) (sym e)
    (down test p))
    ∙ ap (λ (b : Boxed). number_in b (in_octant of.level k test))
    (is ∙ ap (λ (v : ℕ). part_in v of.part k) h)

-- what a call for an octant needs
pub octant_counts : {S : Type 0} (counts : Counting S) (a b : StoreState) (level k : ℕ)
    (subject inner : S)
    (test : Cell → Bool) → b ≡ a
    → ((u : Cell → Bool) → counts a.held level subject u
    → counts a.held (level - 1) inner (in_octant level k u))
    → counts a.held level subject test → (u : Cell → Bool) × counts b.held (level - 1) inner u
octant_counts counts a b level k subject inner test e down p = (
  in_octant level k test,
  subst
      (λ (s : StoreState). counts s.held (level - 1) inner (in_octant level k test)) (sym e)
      (down test p),
)

-- a part ends in its octant
half_ends : (half i at size : ℕ) → half_at half i at + half_size half i at size ≤ half
half_ends half zero at size = omega arith
half_ends half (suc i) at size = omega arith

pub part_ends : (half : ℕ) (b : Boxed) (k : ℕ) → EndsBy half (part_in half b k)
part_ends half b k =
    record {
      x = half_ends half (half_x k) b.at.x b.size.x;
      y = half_ends half
          (half_y k) b.at.y b.size.y;
      z = half_ends half (half_z k) b.at.z b.size.z;
    }

pub octant_ends : (half k : ℕ) (b part : Boxed) → part ≡ part_in half b k → EndsBy half part
octant_ends half k b part is = subst (λ (p : Boxed). EndsBy half p) (sym is) (part_ends half b k)

pub octant_part : (half other k : ℕ) (b part : Boxed) → other ≡ half → part ≡ part_in other b k
    → part ≡ part_in half b k
octant_part half other k b part e is = is ∙ ap (λ (h : ℕ). part_in h b k) e

-- one more octant that was tallied
pub octant_more : {S : Type 0} (counts : Counting S) (a b : StoreState) (of : Part S) (k m n : ℕ)
    (test : Cell → Bool) → b ≡ a → IsOctantTally counts b.held of k n
    → counts a.held of.level of.subject test → m ≡ tallied of.level of.part test k
    → m + n ≡ tallied of.level of.part test (k + 1)
octant_more counts a b of k m n test e told p sofar =
    let last =
    told test (subst (λ (s : StoreState). counts s.held of.level of.subject test) (sym e) p)
    in
    let step : tallied of.level of.part test (suc k)
    ≡ tallied of.level of.part test k
    + number_in (part_in (block_side (of.level - 1)) of.part k) (in_octant of.level k test) =
    sum_below-suc k _
    in
    rw add-one (omega (arith, step, last, sofar))

-- what is remembered is right after calls that change nothing
pub right_again : {S : Type 0} (counts : Counting S) (a b c : StoreState)
    (places : List (Option (Known (Part S)))) → b ≡ a → c ≡ b
    → AreRight (IsTally counts) c.held places → AreRight (IsTally counts) a.held places
right_again counts a b c places e f r =
    subst (λ (s : StoreState). AreRight (IsTally counts) s.held places) (f ∙ e) r
