-- Records, marks and roots that are read one after another.
use Rattle.std.proofs.Common.{◌≡◌, ℕ, zero, suc, ◌+◌, ◌≤◌, Option, List, [], ◌∷◌, ◌++◌, length, refl, sym, ap, ◌∙◌, arith, append-nil}
use Rattle.node_words.specs.declared.shapes.names.Name.{Name}
use Rattle.node_words.specs.Plans.{Layout}
use Rattle.core_laws.specs.places.KeyWords.{child_of_word}
use Rattle.core_laws.specs.places.WordIds.{WordId, Version}
use Rattle.history_model.specs.declared.histories.Mark.{Mark}
use Rattle.history_model.specs.declared.histories.Record.{Record}
use Rattle.core_laws.specs.contents.Aligned.{top}
use Rattle.table_rule.specs.LogWords.{mark_of_words, if_marked, marks_in, record_of_words, records_in, word_in}
use Rattle.table_rule.proofs.LogReading.{records_suc, marks_suc, length_records}
use Rattle.node_table.specs.Roots.{IsLogSmall, if_unmarked, roots_in}
use Rattle.world_core.specs.declared.closed.Root.{Root}

-- one record more
pub record_more : (mem : WordId → ℕ) (n m : ℕ) (items now : List Record) (r : Record)
    → items ≡ records_in mem n → m ≡ n + 1 → r ≡ record_of_words (word_in mem m)
    → now ≡ items ++ r ∷ [] → now ≡ records_in mem m
record_more mem n m items now r is next read new =
    let s : m ≡ suc n = omega (arith, next) in
    new ∙ (λ j. is j ++ (read ∙ ap (λ (k : ℕ). record_of_words (word_in mem k)) s) j ∷ [])
    ∙ sym (records_suc mem n) ∙ ap (λ (k : ℕ). records_in mem k) (sym s)

pub record_number : (mem : WordId → ℕ) (n : ℕ) (items : List Record) → items ≡ records_in mem n
    → length items ≡ n
record_number mem n items is = ap (λ (l : List Record). length l) is ∙ length_records mem n

pub roots_suc : (p : Layout) (mem : WordId → ℕ) (v : ℕ) → roots_in p mem (suc v)
    ≡ roots_in p mem v ++ if_unmarked (mem (Version v 6))
    (record { version = v; name = child_of_word (top p.side) (mem (Version v 5)) })
unfolding roots_in
roots_suc p mem v = refl

pub no_roots : (p : Layout) (mem : WordId → ℕ) → roots_in p mem 0 ≡ []
unfolding roots_in
no_roots p mem = refl

pub no_marks : (mem : WordId → ℕ) → marks_in mem 0 ≡ []
unfolding marks_in
no_marks mem = refl

pub no_records : (mem : WordId → ℕ) → records_in mem 0 ≡ []
unfolding records_in
no_records mem = refl

-- a version with a mark
pub mark_more : (mem : WordId → ℕ) (v m word at : ℕ) (items now : List Mark) (mark : Mark)
    → items ≡ marks_in mem v → m ≡ v + 1 → word ≡ mem (Version v 6) → word ≡ suc at
    → mark ≡ mark_of_words v at (mem (Version v 7)) → now ≡ items ++ mark ∷ []
    → now ≡ marks_in mem m
mark_more mem v m word at items now mark is next read e made new =
    let s : m ≡ suc v = omega (arith, next) in
    new ∙ (λ j. is j ++ made j ∷ [])
    ∙ ap (λ (w : ℕ). marks_in mem v ++ if_marked v w (mem (Version v 7))) (sym e ∙ read)
    ∙ sym (marks_suc mem v) ∙ ap (λ (k : ℕ). marks_in mem k) (sym s)

pub mark_none : (mem : WordId → ℕ) (v m word : ℕ) (items : List Mark) → items ≡ marks_in mem v
    → m ≡ v + 1 → word ≡ mem (Version v 6) → word ≡ 0 → items ≡ marks_in mem m
mark_none mem v m word items is next read e =
    let s : m ≡ suc v = omega (arith, next) in
    is ∙ sym (append-nil (marks_in mem v))
    ∙ ap (λ (w : ℕ). marks_in mem v ++ if_marked v w (mem (Version v 7))) (sym e ∙ read)
    ∙ sym (marks_suc mem v) ∙ ap (λ (k : ℕ). marks_in mem k) (sym s)

-- a version without one
pub root_more : (p : Layout) (mem : WordId → ℕ) (v m word : ℕ) (items now : List Root) (root : Root)
    → items ≡ roots_in p mem v → m ≡ v + 1 → word ≡ mem (Version v 6) → word ≡ 0
    → root ≡ record { version = v; name = child_of_word (top p.side) (mem (Version v 5)) }
    → now ≡ items ++ root ∷ [] → now ≡ roots_in p mem m
root_more p mem v m word items now root is next read e made new =
    let s : m ≡ suc v = omega (arith, next) in
    let r : Root = record { version = v; name = child_of_word (top p.side) (mem (Version v 5)) } in
    new ∙ (λ j. is j ++ made j ∷ [])
    ∙ ap (λ (w : ℕ). roots_in p mem v ++ if_unmarked w r) (sym e ∙ read)
    ∙ sym (roots_suc p mem v) ∙ ap (λ (k : ℕ). roots_in p mem k) (sym s)

pub root_none : (p : Layout) (mem : WordId → ℕ) (v m word at : ℕ) (items : List Root)
    → items ≡ roots_in p mem v → m ≡ v + 1 → word ≡ mem (Version v 6) → word ≡ suc at
    → items ≡ roots_in p mem m
root_none p mem v m word at items is next read e =
    let s : m ≡ suc v = omega (arith, next) in
    let r : Root = record { version = v; name = child_of_word (top p.side) (mem (Version v 5)) } in
    is ∙ sym (append-nil (roots_in p mem v))
    ∙ ap (λ (w : ℕ). roots_in p mem v ++ if_unmarked w r) (sym e ∙ read)
    ∙ sym (roots_suc p mem v) ∙ ap (λ (k : ℕ). roots_in p mem k) (sym s)

pub root_same : (v : ℕ) (name other : Option Name) → name ≡ other
    → record { version = v; name = name } ≡
    (let r : Root = record { version = v; name = other } in r)
root_same v name other e = λ i. record { version = v; name = e i }

pub mark_word_small : (mem : WordId → ℕ) (long v : ℕ) → IsLogSmall mem long → v ≤ long
    → mem (Version v 6) ≤ 65536
mark_word_small mem long v s le = go (mem (Version v 6)) refl
  where
    go : (word : ℕ) → mem (Version v 6) ≡ word → mem (Version v 6) ≤ 65536
    go zero e = omega arith
    go (suc at) e = (let low = s.marks v at le e in let few = s.few in omega arith)
