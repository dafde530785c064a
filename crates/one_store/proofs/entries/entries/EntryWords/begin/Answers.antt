use Rattle.std.proofs.Common.{◌≡◌, ◌+◌, ◌-◌, ◌*◌, ◌/◌, ◌≤◌, ◌∙◌, ℕ, List, ap, sym, subst, arith}
use Rattle.core_laws.specs.places.WordIds.{levels}
use Rattle.std.specs.Prelude.{slice_index, vec_items}
use Rattle.std.proofs.lemmas.List.{length-map}
use Rattle.one_store.specs.entries.Slots.{number_of_buckets, slots_at}
use Rattle.one_store.specs.entries.Rows.{rooms_of}
use Rattle.one_store.proofs.OfEntries.EntriesLaws.{entries_free, ends_given, last_end, rows_room}
use Rattle.one_store.proofs.entries.entries.EntryWords.begin.Goals as goal

pub invariant_of-result : goal.invariant_of-result
invariant_of-result c =
    let p = c.args.plan.now in
    let given = c.buckets-buckets.ensures.value in
    let at =
    ends_given p _ c.ends_of-ends.result given c.ends_of-ends.ensures.ends c.ends_of-ends.ensures.small in
    let top : c.from-levels.result + 1 ≡ levels p = omega arith in
    let wide = last_end p _ (c.from-levels.result + 1) c.buckets-buckets.ensures.plan at top in
    let cap = c.from-cap.ensures ∙ c.cap.ensures.value in
    let of_blocks =
    ap (λ (k : ℕ). k * ((c.from-cap.result + 15) / 16)) wide
    ∙ ap (λ (k : ℕ). number_of_buckets p * ((k + 15) / 16)) cap in
    let of_leaves : slots_at p 0 ≡ c.from.result * c.from-cap.result =
    ap (λ (row : List ℕ). slice_index row 0 * p.cap) (sym given)
    ∙ ap (λ (k : ℕ). k * p.cap) (sym c.from.ensures)
    ∙ ap (λ (k : ℕ). c.from.result * k) (sym cap) in
    let books = c.in_ok-empty_rows.field-0.items in
    let pairs = c.in_ok-empty_rows-2.field-0.items in
    let room = rows_room p _ 0 _ c.from-cap.result books c.in_ok-empty_rows.ensures given cap in
    let room2 = rows_room p _ 1 _ c.from-cap.result pairs c.in_ok-empty_rows-2.ensures given cap in
    entries_free _ _ c.buckets-buckets.ensures.plan given at wide
    (omega (arith, length-map books vec_items, c.in_ok-empty_rows.ensures.number_is, top))
    (omega (arith, length-map pairs vec_items, c.in_ok-empty_rows-2.ensures.number_is, top))
    (record {
      books = λ l lt.
          let first : l - 0 ≡ l = omega arith in
          subst (λ (k : ℕ). slots_at p l ≤ slice_index (rooms_of books) k) first
          (room l (omega arith) (omega (arith, lt, top)));
      bits = omega (arith, of_leaves, c.in_ok-with_capacity.ensures.capacity);
      pairs = λ l above lt. room2 l above (omega (arith, above, lt, top));
      tags = omega (arith, of_blocks, c.in_ok-with_capacity-2.ensures.capacity);
    })
    c.in_ok-empty_rows.ensures.empty c.in_ok-with_capacity-2.ensures.items
    (c.in_ok-vec.ensures.items_if_clones_equal (λ y e. e))
    (c.in_ok-vec-2.ensures.items_if_clones_equal (λ y e. e))
