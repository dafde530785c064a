-- A full bucket was needed, and enough contents were possible.
use Rattle.std.proofs.Common.{◌≡◌, ◌≢◌, ℕ, suc, ◌+◌, ◌^◌, refl, sym, ◌∙◌, ap, arith, List, [], ◌∷◌, length, get_or}
use Rattle.std.specs.Prelude.{All}
use Rattle.std.specs.List.{AllPairs}
use Rattle.std.proofs.lemmas.List.Elements.{All-nil, All-cons, All-head, All-tail, All-contains}
use Rattle.std.proofs.lemmas.List.Kept.{AllPairs-cons}
use Rattle.vw_cell.specs.declared.blocks.Block.{Block}
use Rattle.vw_cell.specs.Counts.{cell_at}
use Rattle.vw_cell.specs.Places.{block_side}
use Rattle.vox_read.specs.Contents.{Content}
use Rattle.history_model.specs.declared.acts.Act.{Act}
use Rattle.history_model.specs.declared.histories.Record.{Record}
use Rattle.history_model.specs.Worlds.{World}
use Rattle.node_words.specs.shapes.Shape.{Shape, Clear, ShowsCells, HasCell, IsCanonical, has}
use Rattle.node_words.specs.shapes.Buckets.{bucket_of_shape}
use Rattle.node_words.proofs.OfShapes.ShapeLaws.{some_cell, same_shape}
use Rattle.node_words.specs.Plans.{Layout}
use Rattle.core_laws.specs.contents.Contents.{HasCellIn}
use Rattle.node_words.specs.Enough.{HasEnough}
use Rattle.core_laws.proofs.ContentLaws.{content_shown}
use Rattle.core_laws.proofs.Roots.{ShownIn}
use Rattle.node_words.specs.contents.CellShapes.{SameIn}
use Rattle.conformance.specs.possible.Needed.{content_of, made_of, IsNeeded, NeedsSome, Span, Need, IsNeed, SameNeed, IsPossible}
use Rattle.conformance.specs.scripts.Keeping.{IsMadeFor, IsMetBy}
use Rattle.node_words.proofs.OfContents.SameCells.{same_back, same_on}
use Rattle.conformance.proofs.OfPossible.ContentBuckets.{bucket_of_content}
use Rattle.conformance.proofs.OfScripts.PartsShown.{part_of_world}

-- the shape that shows a block has the block's content
shown_content : (level : ℕ) (b : Block) (s : Shape) (w : World) → b.level ≡ level → ShowsCells b s w
    → SameIn level (has level s) (content_of w b)
shown_content level b s w same shows = record { each = content_shown level b s w same shows }

shown_cell : (level : ℕ) (b : Block) (s : Shape) (w : World) → b.level ≡ level → ShowsCells b s w
    → IsCanonical level s → s ≢ Clear → HasCellIn b w
shown_cell level b s w same shows canonical some =
    let h : HasCell level s = some_cell level s canonical some in
    let wide : block_side b.level ≡ block_side level = ap block_side same in
    let lx = h.x_in in let ly = h.y_in in let lz = h.z_in in
    record {
      at = cell_at (b.at.x + h.x) (b.at.y + h.y) (b.at.z + h.z);
      inside = record {
        x = (omega arith, omega arith);
        y = (omega arith, omega arith);
        z =
            (omega arith, omega arith);
      };
      set = sym (content_shown level b s w same shows h.x h.y h.z lx ly lz) ∙ h.set;
    }

-- what stands for a shape that an edit made or met: the block of the shape
part_needed : (p : Layout) (models : List Content) (records : List Record) (act : Act)
    (version level bucket : ℕ) (s : Shape)
    (met : IsMetBy p models records act version level bucket s)
    → (f : ShownIn p level s (made_of (2 ^ p.side) models records act version met.wanted.parts))
    → IsNeeded p models records act version met.wanted.parts level bucket f.block
part_needed p models records act version level bucket s met f = record {
  edit = met.wanted.edit;
  some_part = met.wanted.some_part;
  few_parts = met.wanted.few_parts;
  aligned = f.aligned;
  same_level = f.same_level;
  some = shown_cell level f.block s
      (made_of (2 ^ p.side) models records act version met.wanted.parts) f.same_level f.shows met.canonical met.some;
  of_bucket =
      bucket_of_content p.buckets level s
      (content_of (made_of
      (2 ^ p.side) models records act version met.wanted.parts) f.block) met.canonical
      (shown_content level f.block s
      (made_of (2 ^ p.side) models records act version met.wanted.parts) f.same_level f.shows)
      ∙ met.of_bucket;
}

pub met_needed : (p : Layout) (models : List Content) (records : List Record) (act : Act)
    (version level bucket : ℕ) (s : Shape) → IsMetBy p models records act version level bucket s
    → NeedsSome p models records act version level bucket
met_needed p models records act version level bucket s met =
    let f =
    part_of_world p
    (made_of (2 ^ p.side) models records act version met.wanted.parts) level s met.wanted.part met.canonical met.some in
    record { parts = met.wanted.parts; block = f.block; needed = part_needed p models records act version level bucket s met f }

module _ (p : Layout) (models : List Content) (records : List Record) (spans : List Span)
    (level bucket : ℕ) where
  -- a made shape of this level and bucket
  record Counts (s : Shape) : Type 0 where
    made : IsMadeFor p models records spans s
    canonical : IsCanonical level s
    some : s ≢ Clear
    of_bucket : bucket_of_shape p.buckets level s ≡ bucket

  -- the cells of which the shape was made
  world_of : (s : Shape) → Counts s → World
  world_of s c = made_of
      (2 ^ p.side) models records c.made.span.act c.made.version c.made.wanted.parts

  block_of : (s : Shape) (c : Counts s) → ShownIn p level s (world_of s c)
  unfolding world_of
  block_of s c = part_of_world p (world_of s c) level s c.made.wanted.part c.canonical c.some

  need_of : (s : Shape) → Counts s → Need
  need_of s c =
      record { act = c.made.span.act; version = c.made.version; parts = c.made.wanted.parts; block = (block_of s c).block }

  is_need : (s : Shape) (c : Counts s) → IsNeed p models records spans level bucket (need_of s c)
  unfolding need_of world_of
  is_need s c = record {
    span = c.made.span;
    listed = c.made.listed;
    same_act = refl;
    low = c.made.low;
    high = c.made.high;
    needed =
        part_needed p models records c.made.span.act c.made.version level bucket s
        (record { wanted = c.made.wanted; canonical = c.canonical; some = c.some; of_bucket = c.of_bucket }) (block_of s c);
  }

  -- different shapes are different contents
  apart : (s t : Shape) (c : Counts s) (d : Counts t) → s ≢ t
      → ¬ SameNeed (2 ^ p.side) models records level (need_of s c) (need_of t d)
  unfolding need_of world_of
  apart s t c d other same =
      let f = block_of s c in
      let g = block_of t d in
      let all : SameIn level (has level s) (has level t) =
      same_on level _ _ _ (shown_content level f.block s (world_of s c) f.same_level f.shows)
      (same_on level _ _ _ same
      (same_back level _ _
      (shown_content level g.block t (world_of t d) g.same_level g.shows))) in
      other (same_shape level s t c.canonical d.canonical (record { each = all.each }))

  needs_of : (shapes : List Shape) → All Counts shapes → List Need
  needs_of [] all = []
  needs_of (s ∷ more) all = need_of s (All-head Counts s more all) ∷ needs_of more
      (All-tail Counts s more all)

  number_of_needs : (shapes : List Shape) (all : All Counts shapes)
      → length (needs_of shapes all) ≡ length shapes
  unfolding needs_of
  number_of_needs [] all = refl
  number_of_needs (s ∷ more) all = ap suc (number_of_needs more (All-tail Counts s more all))

  -- what holds of the need of each shape of the list holds of each need
  each_need : (P : Need → Type 0) (Q : Shape → Type 0) (shapes : List Shape)
      (all : All Counts shapes) → All Q shapes
      → ((s : Shape) (c : Counts s) → Q s → P (need_of s c)) → All P (needs_of shapes all)
  unfolding needs_of
  each_need P Q [] all right f = All-nil P
  each_need P Q (s ∷ more) all right f = All-cons P _ _
      (f s (All-head Counts s more all) (All-head Q s more right))
      (each_need P Q more (All-tail Counts s more all) (All-tail Q s more right) f)

  needs_apart : (shapes : List Shape) (all : All Counts shapes) → AllPairs (λ s t. s ≢ t) shapes
      → AllPairs (λ s t. ¬ SameNeed (2 ^ p.side) models records level s t) (needs_of shapes all)
  unfolding needs_of
  needs_apart [] all pairs = λ i j d low high. absurd (omega arith)
  needs_apart (s ∷ more) all pairs =
      AllPairs-cons (λ s t. ¬ SameNeed (2 ^ p.side) models records level s t) _ _
      (each_need (λ n. ¬ SameNeed (2 ^ p.side) models records level
      (need_of s (All-head Counts s more all)) n) (λ t. s ≢ t) more (All-tail Counts s more all)
      (λ k d lt. pairs 0 (suc k) d (omega arith) (omega arith))
      (λ t c other. apart s t (All-head Counts s more all) c other))
      (needs_apart more (All-tail Counts s more all)
      (λ i j d low high. pairs (suc i) (suc j) d (omega arith) (omega arith)))

  pub enough_possible : (made : List Shape) → All (IsMadeFor p models records spans) made
      → HasEnough p made level bucket → IsPossible p models records spans level bucket p.cap
  enough_possible made all h =
      let counts : All Counts h.shapes = (λ k d lt. record {
        made = All-contains (IsMadeFor p models records spans) made (get_or h.shapes k d) all
            (h.listed k d lt);
        canonical = (h.of_level k d lt).0;
        some = (h.of_level k d lt).1;
        of_bucket = h.of_bucket k d lt;
      }) in
      let number = number_of_needs h.shapes counts in
      let as_many = h.number in
      record {
        needs = needs_of h.shapes counts;
        as_many = omega arith;
        each = each_need (IsNeed p models records spans level bucket)
            (λ s. Unit {0}) h.shapes counts (λ k d lt. tt) (λ s c _. is_need s c);
        different = needs_apart h.shapes counts h.different;
      }
