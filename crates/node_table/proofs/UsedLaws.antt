-- What the number of a bucket's used slots tells.
use Rattle.std.proofs.Common.{◌≡◌, ℕ, ◌<◌, ◌≤◌, Some, List, ◌∷◌, sym, ap, ◌∙◌, subst, inl, inr, arith}
use Rattle.std.proofs.lemmas.Bool.{cases_lt}
use Rattle.node_words.specs.declared.shapes.names.Name.{Name}
use Rattle.node_words.specs.shapes.Tree.{Tree}
use Rattle.node_words.specs.shapes.Weights.{number_of_trees}
use Rattle.node_words.specs.declared.keys.Key as keys
use Rattle.node_words.specs.Held.{HoldsChildren}
use Rattle.node_words.specs.Plans.{Layout}
use Rattle.core_laws.specs.places.KeyWords.{key_word}
use Rattle.core_laws.specs.places.Names.{named}
use Rattle.core_laws.specs.places.WordIds.{WordId, key_words}
use Rattle.table_rule.specs.Reading.{book_of}
use Rattle.table_rule.specs.TurnRules.{used_of}
use Rattle.table_rule.specs.Views.{SeatView, BucketAt, bucket_of, key_word_id, known_at}
use Rattle.table_rule.proofs.KnownWords.{known_now, known_else}
use Rattle.table_rule.specs.Changes.{AreFreeFrom, Counted, PassesEntry, PassesBelow, children_of_key, knowing}
use Rattle.node_table.specs.Acts.{MayAdd}
use Rattle.node_table.specs.Finding.{UsesSlot, ReadiesEntry, WritesKey}
use Rattle.node_table.specs.Learning.{WordsStay, Learns}
use Rattle.node_table.specs.TableStates.{PassState, SamePass}
use Rattle.node_table.proofs.Learned.{steps_on}

pub learn_counted : (s t : PassState) (b : BucketAt) (cap k : ℕ) → SamePass s t
    → Counted s.view b cap k t.view → Learns s t
learn_counted s t b cap k same c =
    let words : t.view.words ≡ c.words = ap (λ (v : SeatView). v.words) c.is in record {
      same = same;
      grows = subst (λ ws. WordsStay s.view.words ws) (sym words) (record { stays = c.stays });
      else_is = c.is
          ∙ ap (λ ws. (let v : SeatView = record s.view { words = ws } in v)) (sym words);
    }

pub counted_known : (v w : SeatView) (b : BucketAt) (cap k : ℕ) → Counted v b cap k w
    → known_at (used_of b) w.words ≡ Some k
counted_known v w b cap k c =
    ap (λ (u : SeatView). known_at (used_of b) u.words) c.is ∙ c.known

pub counted_free : (v w : SeatView) (b : BucketAt) (cap k : ℕ) → Counted v b cap k w
    → AreFreeFrom w.words b k cap
counted_free v w b cap k c =
    subst (λ (u : SeatView). AreFreeFrom u.words b k cap) (sym c.is) c.free

-- fewer slots are free from a later one on
pub free_later : (ws : List (WordId × ℕ)) (b : BucketAt) (i j cap : ℕ) → i ≤ j
    → AreFreeFrom ws b i cap → AreFreeFrom ws b j cap
free_later ws b i j cap le f = record { each = λ slot low high. f.each slot (omega arith) high }

pub free_stay : (old new : List (WordId × ℕ)) (b : BucketAt) (i cap : ℕ) → WordsStay old new
    → AreFreeFrom old b i cap → AreFreeFrom new b i cap
free_stay old new b i cap g f =
    record { each = λ slot low high. g.stays _ _ (f.each slot low high) }

-- the used slots were passed, and the others are free
pub passes_all : (old new : List (WordId × ℕ)) (key : keys.Key) (b : BucketAt) (i cap : ℕ)
    → WordsStay old new → PassesBelow new key b i → AreFreeFrom old b i cap
    → PassesBelow new key b cap
passes_all old new key b i cap g below f = record {
  each = λ slot lt. elim (cases_lt slot i) [
    | inl low ↦ below.each slot low
    | inr high ↦ inl (g.stays _ _ (f.each slot (omega arith) lt))
  ];
}

module _ (s t : PassState) (n : Name) (k : ℕ) (l : Learns s t)
    (known : known_at (used_of (bucket_of n)) t.view.words ≡ Some k) where
  -- the slot was used before
  pub used_before : n.slot < k → UsesSlot s t n
  used_before low = record {
    same = l.same;
    else_is = l.else_is;
    stays = λ x m other is. l.grows.stays x m is;
    used = record { number = k; known = known; inside = low };
  }

  -- the number grew past it
  pub used_now : (u : PassState) (more : ℕ) → SamePass t u
      → u.view ≡ knowing t.view (used_of (bucket_of n)) more → n.slot < more → UsesSlot s u n
  used_now u more same is low =
      let x : WordId = used_of (bucket_of n) in
      let words : u.view.words ≡ (x, more) ∷ t.view.words = ap (λ (v : SeatView). v.words) is in
      record {
        same = steps_on s t u l.same same;
        else_is = is
            ∙ ap (λ (v : SeatView). (let z : SeatView = knowing v x more in z)) l.else_is
            ∙ ap (λ ws. (let z : SeatView = record s.view { words = ws } in z)) (sym words);
        stays = λ y m other was.
            ap (known_at y) words ∙ known_else x y more t.view.words other
            ∙ l.grows.stays y m was;
        used = record {
          number = more;
          known = ap (known_at x) words ∙ known_now x more t.view.words;
          inside = low;
        };
      }

-- with the key's words and a used slot an entry is ready
module _ (p : Layout) (s m t : PassState) (key : keys.Key) (n : Name)
    (may : MayAdd p s.view n key) (w : WritesKey s m key n p.cap (key_words n.level))
    (u : UsesSlot m t n) where
  passes_on : (q : Name) → PassesEntry m.view.words key q → PassesEntry t.view.words key q
  passes_on q (inl e) = inl (u.stays (book_of q) 0 (λ x. (let no : ⊥ = cc in no)) e)
  passes_on q (inr o) = inr (record {
    word = o.word;
    inside = o.inside;
    found = o.found;
    known = u.stays (key_word_id q o.word) o.found (λ x. (let no : ⊥ = cc in no)) o.known;
    other = o.other;
  })

  else_is : t.view ≡ record s.view { words = t.view.words }
  else_is = u.else_is
      ∙ ap (λ (v : SeatView). (let z : SeatView = record v { words = t.view.words } in z)) w.else_is

  held : t.view.held ≡ s.view.held
  held = ap (λ (v : SeatView). v.held) else_is

  pub readied : ReadiesEntry p s t key n
  readied = record {
    same = steps_on s m t w.same u.same;
    else_is = else_is;
    ready = record {
      free = u.stays (book_of n) 0 (λ x. (let no : ⊥ = cc in no)) w.free;
      used = u.used;
      has_key = record {
        each = λ i lt.
            u.stays (key_word_id n i) (key_word key i) (λ x. (let no : ⊥ = cc in no))
            (w.first.each i lt);
      };
      fits = may.fits;
      bucket = may.bucket;
      missing = record {
        each = λ slot lt. passes_on (named n.level n.bucket slot) (w.none.each slot lt);
      };
      held = subst (λ (ts : List Tree). HoldsChildren ts (children_of_key key)) (sym held)
          may.held;
      room = subst (λ (ts : List Tree). number_of_trees ts ≤ 4095) (sym held) may.room;
    };
  }
