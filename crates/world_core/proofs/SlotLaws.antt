-- A slot that gets another content changes one entry of the state.
use Rattle.std.proofs.Common.{◌≡◌, ◌≢◌, ℕ, ◌+◌, ◌<◌, refl, sym, ◌∙◌, ap, subst, arith, inl, inr, Some, None, Option, List, [], length, set, get_or}
use Rattle.std.proofs.lemmas.Bool.{cases_eq}
use Rattle.std.proofs.lemmas.List.{get_or-set_same, get_or-set_other, length-set}
use Rattle.node_words.specs.declared.shapes.names.Name.{Name}
use Rattle.node_words.proofs.OfShapes.TreeEqual.{same_name}
use Rattle.core_laws.specs.Key.{Key}
use Rattle.core_laws.specs.Keys.{bucket_of_key}
use Rattle.core_laws.specs.Plans.{Layout}
use Rattle.core_laws.specs.places.WordIds.{levels, buckets_at}
use Rattle.core_laws.specs.Logs.{Log}
use Rattle.core_laws.specs.places.Names.{IsName}
use Rattle.core_laws.specs.States.{IsLive}
use Rattle.core_laws.specs.Soundness.{FitsLevel}
use Rattle.core_laws.specs.Events.{Trades, OthersStay, Raises, Adds, Lowers, Frees, no_weight, one_name, children_named}
use Rattle.bucket_core.specs.declared.counted.Entry.{Entry}
use Rattle.bucket_core.specs.Buckets.{book_of_slot}
use Rattle.world_core.specs.Slots.{SlotRow, BucketRow, bucket_at, entry_at, put_at, IsLaidOut, key_or_none, read_lists}

-- the new content is there
pub put_here : (p : Layout) (all : List BucketRow) (n : Name) (e : Option (Entry Key))
    → IsLaidOut p all → IsName p n → entry_at (put_at all n e) n ≡ e
put_here p all n e laid is =
    let level : BucketRow = get_or all n.level [] in
    let bucket : SlotRow = get_or level n.bucket [] in
    let low = is.level_in in let in_level = is.bucket_in in let in_bucket = is.slot_in in
    let heights = laid.heights in
    let wide = laid.buckets n.level low in
    let slots = laid.slots n.level n.bucket low in_level in
    let outer : get_or (put_at all n e) n.level [] ≡ set level n.bucket (set bucket n.slot e) =
    get_or-set_same all n.level _ [] (omega arith) in
    let inner : get_or (set level n.bucket (set bucket n.slot e)) n.bucket []
    ≡ set bucket n.slot e = get_or-set_same level n.bucket _ [] (omega arith) in
    let last : get_or (set bucket n.slot e) n.slot None ≡ e =
    get_or-set_same bucket n.slot e None (omega arith) in
    ap (λ (l : BucketRow). get_or (get_or l n.bucket []) n.slot None) outer
    ∙ ap (λ (b : SlotRow). get_or b n.slot None) inner ∙ last

-- every other slot has what it had
pub put_there : (p : Layout) (all : List BucketRow) (n m : Name) (e : Option (Entry Key))
    → IsLaidOut p all → IsName p n → m ≢ n → entry_at (put_at all n e) m ≡ entry_at all m
put_there p all n m e laid is other =
    let level : BucketRow = get_or all n.level [] in
    let bucket : SlotRow = get_or level n.bucket [] in
    let low = is.level_in in let in_level = is.bucket_in in
    let heights = laid.heights in
    let wide = laid.buckets n.level low in
    elim (cases_eq m.level n.level) [
      | inr apart ↦
          ap (λ (l : BucketRow). get_or (get_or l m.bucket []) m.slot None)
          (get_or-set_other all n.level m.level _ [] apart)
      | inl of_level ↦
          (let outer : get_or (put_at all n e) m.level []
          ≡ set level n.bucket (set bucket n.slot e) =
          ap (λ (k : ℕ). get_or (put_at all n e) k []) of_level
          ∙ get_or-set_same all n.level _ [] (omega arith) in
          let was : level ≡ get_or all m.level [] =
          ap (λ (k : ℕ). get_or all k []) (sym of_level) in
          ap (λ (l : BucketRow). get_or (get_or l m.bucket []) m.slot None) outer
          ∙ elim (cases_eq m.bucket n.bucket) [
            | inr apart ↦
                ap (λ (b : SlotRow). get_or b m.slot None)
                (get_or-set_other level n.bucket m.bucket _ [] apart)
            | inl of_bucket ↦
                (let inner : get_or (set level n.bucket (set bucket n.slot e)) m.bucket []
                ≡ set bucket n.slot e =
                ap (λ (k : ℕ). get_or
                (set level n.bucket (set bucket n.slot e)) k []) of_bucket
                ∙ get_or-set_same level n.bucket _ [] (omega arith) in
                ap (λ (b : SlotRow). get_or b m.slot None) inner
                ∙ get_or-set_other bucket n.slot m.slot e None
                (λ of_slot. other (same_name m n of_level of_bucket of_slot))
                ∙ ap (λ (k : ℕ). get_or (get_or level k []) m.slot None) (sym of_bucket))
          ]
          ∙ ap (λ (l : BucketRow). get_or (get_or l m.bucket []) m.slot None) was)
    ]

module _ (p : Layout) (all : List BucketRow) (n : Name) (e : Option (Entry Key))
    (laid : IsLaidOut p all) (is : IsName p n) (root : ℕ → Option Name) (log : Log)
    (held new : List (List Name)) where
  others_stay : OthersStay p n (read_lists all root log held)
      (read_lists (put_at all n e) root log new)
  others_stay = record {
    book = λ m _ other. ap book_of_slot (put_there p all n m e laid is other);
    key = λ m _ other. ap key_or_none (put_there p all n m e laid is other);
  }

-- the book of a slot's entry is raised
pub raises_slot : (p : Layout) (all : List BucketRow) (n : Name) (key : Key) (book holder : ℕ)
    (root : ℕ → Option Name) (log : Log) (held new : List (List Name)) → IsLaidOut p all
    → IsName p n
    → entry_at all n ≡ Some (record { key = key; book = book }) → 0 < book
    → Trades held holder no_weight (one_name n) new
    → Raises p holder n (read_lists all root log held)
    (read_lists (put_at all n (Some (record { key = key; book = book + 1 }))) root log new)
raises_slot p all n key book holder root log held new laid is at some trade =
    let here = put_here p all n (Some (record { key = key; book = book + 1 })) laid is in
    let was : book_of_slot (entry_at all n) ≡ book = ap book_of_slot at in
    record {
      live = record { name = is; book = omega arith };
      book = ap book_of_slot here ∙ ap (λ (b : ℕ). b + 1) (sym was);
      key = ap key_or_none here ∙ sym (ap key_or_none at);
      others = others_stay p all n _ laid is root log held new;
      roots = λ v. refl;
      held = trade;
    }

-- an empty slot gets an entry
pub adds_slot : (p : Layout) (all : List BucketRow) (n : Name) (key : Key) (holder : ℕ)
    (root : ℕ → Option Name) (log : Log) (held new : List (List Name)) → IsLaidOut p all
    → IsName p n
    → entry_at all n ≡ None → FitsLevel n.level key
    → n.bucket ≡ bucket_of_key key (buckets_at p n.level)
    → ((m : Name) → IsLive p (read_lists all root log held) m → m.level ≡ n.level
    → key_or_none (entry_at all m) ≢ key) → Trades held holder (children_named key) (one_name n) new
    → Adds p holder n key (read_lists all root log held)
    (read_lists (put_at all n (Some (record { key = key; book = 1 }))) root log new)
adds_slot p all n key holder root log held new laid is at fits bucket missing trade =
    let here = put_here p all n (Some (record { key = key; book = 1 })) laid is in
    record {
      name = is;
      free = ap book_of_slot at;
      fits = fits;
      bucket = bucket;
      missing = missing;
      book = ap book_of_slot here;
      new_key = ap key_or_none here;
      others = others_stay p all n _ laid is root log held new;
      roots = λ v. refl;
      held = trade;
    }

-- the book of a slot's entry falls
pub lowers_slot : (p : Layout) (all : List BucketRow) (n : Name) (key : Key) (left holder : ℕ)
    (root : ℕ → Option Name) (log : Log) (held new : List (List Name)) → IsLaidOut p all
    → IsName p n
    → entry_at all n ≡ Some (record { key = key; book = left + 1 }) → 0 < left
    → Trades held holder (one_name n) no_weight new
    → Lowers p holder n (read_lists all root log held)
    (read_lists (put_at all n (Some (record { key = key; book = left }))) root log new)
lowers_slot p all n key left holder root log held new laid is at some trade =
    let here = put_here p all n (Some (record { key = key; book = left })) laid is in
    let was : book_of_slot (entry_at all n) ≡ left + 1 = ap book_of_slot at in
    let now = ap book_of_slot here in
    record {
      name = is;
      left = omega arith;
      book = omega arith;
      key = ap key_or_none here ∙ sym (ap key_or_none at);
      others = others_stay p all n _ laid is root log held new;
      roots = λ v. refl;
      held = trade;
    }

-- the entry of a slot is removed
pub frees_slot : (p : Layout) (all : List BucketRow) (n : Name) (key : Key) (holder : ℕ)
    (root : ℕ → Option Name) (log : Log) (held new : List (List Name)) → IsLaidOut p all
    → IsName p n
    → entry_at all n ≡ Some (record { key = key; book = 1 })
    → Trades held holder (one_name n) (children_named key) new
    → Frees p holder n (read_lists all root log held) (read_lists (put_at all n None) root log new)
frees_slot p all n key holder root log held new laid is at trade =
    let here = put_here p all n None laid is in
    record {
      name = is;
      last = ap book_of_slot at;
      book = ap book_of_slot here;
      others = others_stay p all n _ laid is root log held new;
      roots = λ v. refl;
      held = subst (λ (k : Key). Trades held holder (one_name n) (children_named k) new)
          (sym (ap key_or_none at)) trade;
    }

module _ (p : Layout) (all : List BucketRow) (n : Name) (e : Option (Entry Key))
    (laid : IsLaidOut p all) (is : IsName p n) where
  own_level : List SlotRow
  own_level = set (get_or all n.level []) n.bucket (set (bucket_at all n.level n.bucket) n.slot e)

  level_wide : (level : ℕ) → level < levels p
      → length (get_or (put_at all n e) level []) ≡ length (get_or all level [])
  unfolding own_level
  level_wide level low = elim (cases_eq level n.level) [
    | inr apart ↦ ap length (get_or-set_other all n.level level _ [] apart)
    | inl same ↦
        (let heights = laid.heights in
        ap (λ (k : ℕ). length (get_or (put_at all n e) k [])) same
        ∙ ap length (get_or-set_same all n.level own_level [] (omega arith))
        ∙ length-set (get_or all n.level []) n.bucket
        (set (bucket_at all n.level n.bucket) n.slot e)
        ∙ ap (λ (k : ℕ). length (get_or all k [])) (sym same))
  ]

  bucket_wide : (level bucket : ℕ) → level < levels p → bucket < buckets_at p level
      → length (bucket_at (put_at all n e) level bucket) ≡ length (bucket_at all level bucket)
  unfolding own_level
  bucket_wide level bucket low in_level = elim (cases_eq level n.level) [
    | inr apart ↦
        ap (λ (l : BucketRow). length (get_or l bucket []))
        (get_or-set_other all n.level level _ [] apart)
    | inl same ↦
        (let heights = laid.heights in
        let wide = laid.buckets n.level (omega arith) in
        let here : get_or (put_at all n e) level [] ≡ own_level =
        ap (λ (k : ℕ). get_or (put_at all n e) k []) same
        ∙ get_or-set_same all n.level own_level [] (omega arith) in
        let was = ap (λ (k : ℕ). length (get_or (get_or all k []) bucket [])) same in
        ap (λ (l : BucketRow). length (get_or l bucket [])) here
        ∙ elim (cases_eq bucket n.bucket) [
          | inr apart ↦
              ap length (get_or-set_other (get_or all n.level []) n.bucket bucket _ [] apart)
          | inl own ↦
              (let in_own = is.bucket_in in
              ap (λ (k : ℕ). length (get_or own_level k [])) own
              ∙ ap length (get_or-set_same (get_or all n.level []) n.bucket _ [] (omega arith))
              ∙ length-set (bucket_at all n.level n.bucket) n.slot e
              ∙ ap (λ (k : ℕ). length (get_or (get_or all n.level []) k [])) (sym own))
        ]
        ∙ sym was)
  ]

  pub stays_laid_out : IsLaidOut p (put_at all n e)
  stays_laid_out = record {
    heights = length-set all n.level _ ∙ laid.heights;
    buckets = λ level low. level_wide level low ∙ laid.buckets level low;
    slots = λ level bucket low in_level. bucket_wide level bucket low in_level
        ∙ laid.slots level bucket low in_level;
  }
