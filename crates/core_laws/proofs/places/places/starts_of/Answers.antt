use Rattle.std.proofs.Common.{◌≤◌, ℕ, ◌+◌, ◌*◌, List, get_or, refl, arith}
use Rattle.core_laws.specs.places.WordIds.{first_bucket, key_words, whole_lines}
use Rattle.core_laws.proofs.OfPlaces.Lines.{level_small}
use Rattle.core_laws.proofs.OfPlaces.Prefixes.{ends_none, ends_more, ends_small}
use Rattle.core_laws.proofs.places.places.starts_of.Goals as goal

abbrev words_at : ℕ → List ℕ → ℕ → ℕ
words_at cap buckets level =
    (whole_lines (cap + 2) + whole_lines (key_words level * cap)) * get_or buckets level 0

pub loop-level-init : goal.loop-level-init
loop-level-init c = ends_none _ _ _ refl refl

pub overflow_add-ends : goal.overflow_add-ends
overflow_add-ends c =
    let of_cap = c.ranges.cap in
    let each : (i : ℕ) → words_at c.args.cap c.args.buckets.now i ≤ 327691 * 65535 =
    λ i. (let fits = c.fits-buckets i in level_small i c.args.cap (get_or c.args.buckets.now i 0)
    (omega (arith, of_cap)) (omega (arith, fits))) in
    let small =
    ends_small c.loop-level.level first_bucket (327691 * 65535)
    (words_at c.args.cap c.args.buckets.now) c.loop-level.ends c.loop-level.level
    c.loop-level.invariant (omega arith) (omega arith) each in
    let here = each c.loop-level.level in
    rw (c.words_of-words.ensures.value, c.from.ensures)
    (omega (arith, small, here))

pub loop-level-preserved : goal.loop-level-preserved
loop-level-preserved c =
    ends_more c.loop-level.level first_bucket _ (words_at c.args.cap c.args.buckets.now)
    c.loop-level.ends (omega arith) c.loop-level.invariant
    (rw (c.words_of-words.ensures.value, c.from.ensures) refl)

pub returns-clause-small : goal.returns-clause-small
returns-clause-small c levels le =
    let of_cap = c.ranges.cap in
    let each : (i : ℕ) → words_at c.args.cap c.args.buckets.now i ≤ 327691 * 65535 =
    λ i. (let fits = c.fits-buckets i in level_small i c.args.cap (get_or c.args.buckets.now i 0)
    (omega (arith, of_cap)) (omega (arith, fits))) in
    let small =
    ends_small c.loop-level.level first_bucket (327691 * 65535)
    (words_at c.args.cap c.args.buckets.now) c.loop-level.ends levels c.loop-level.invariant
    (omega arith) (omega arith) each in
    omega (arith, small)
