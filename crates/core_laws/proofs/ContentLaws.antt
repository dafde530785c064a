-- Different canonical shapes are different contents.
use Rattle.std.proofs.Common.{◌≡◌, ◌≢◌, ℕ, zero, suc, ◌+◌, ◌-◌, ◌^◌, ◌<◌, ◌≤◌, refl, sym, ◌∙◌, ap, subst, arith, Some, None, Option, List, [], ◌∷◌, length, get_or}
use Rattle.std.specs.Prelude.{All}
use Rattle.std.specs.List.{AllPairs}
use Rattle.std.proofs.lemmas.Bool.{both_ways}
use Rattle.std.proofs.lemmas.List.Elements.{All-nil, All-cons, All-head, All-tail}
use Rattle.std.proofs.lemmas.List.Kept.{AllPairs-cons}
use Rattle.vw_cell.specs.declared.cells.Cell.{Cell}
use Rattle.vw_cell.specs.declared.blocks.Block.{Block}
use Rattle.vw_cell.specs.Counts.{cell_at}
use Rattle.vw_cell.specs.Places.{block_side, IsInBlock, IsInWorld}
use Rattle.core_laws.specs.HistoryModelContents.{Content}
use Rattle.node_words.specs.declared.shapes.names.Name.{Name}
use Rattle.node_words.specs.shapes.Shape.{Shape, Clear, ShowsCells, HasCell, IsCanonical, has}
use Rattle.node_words.proofs.OfShapes.ShapeLaws.{some_cell, same_shape}
use Rattle.node_words.specs.Plans.{Layout}
use Rattle.core_laws.specs.Worlds.{World}
use Rattle.core_laws.specs.places.WordIds.{levels}
use Rattle.core_laws.specs.Stores as history
use Rattle.core_laws.specs.Soundness.{Sound}
use Rattle.core_laws.specs.contents.Versions.{HoldsVersion}
use Rattle.core_laws.proofs.LiveNumbers.{live_numbers}
use Rattle.core_laws.proofs.Roots.{sound_roots}
use Rattle.core_laws.proofs.RootCells.{no_root_no_cell}
use Rattle.core_laws.proofs.OfContents.WorldBlocks.{aligned_in_world}
use Rattle.core_laws.specs.States.{State}
use Rattle.core_laws.specs.contents.Aligned.{world_block}
use Rattle.core_laws.specs.Blocks.{IsSite, ShowsSomeBlock, Lists, HasBlocks, live_number, IsIdle}
use Rattle.core_laws.specs.contents.Contents.{HasCellIn, Site, SameContent, IsFilled, HasContents}

has_same : (level : ℕ) (s : Shape) (x y z x' y' z' : ℕ) → x ≡ x' → y ≡ y' → z ≡ z'
    → has level s x y z ≡ has level s x' y' z'
has_same level s x y z x' y' z' p q r = λ i. has level s (p i) (q i) (r i)

-- what a shape shows, cell by cell of the block
pub content_shown : (level : ℕ) (b : Block) (s : Shape) (w : World) → b.level ≡ level
    → ShowsCells b s w → (x y z : ℕ) → x < block_side level → y < block_side level
    → z < block_side level
    → has level s x y z ≡ w (cell_at (b.at.x + x) (b.at.y + y) (b.at.z + z))
content_shown level b s w e shows x y z lx ly lz =
    let wide : block_side b.level ≡ block_side level = ap block_side e in
    let q : Cell = cell_at (b.at.x + x) (b.at.y + y) (b.at.z + z) in
    let inside : IsInBlock b q =
    record {
      x = (omega arith, omega arith);
      y = (omega arith, omega arith);
      z = (omega arith, omega arith);
    } in
    let ex : x ≡ q.x - b.at.x = omega arith in
    let ey : y ≡ q.y - b.at.y = omega arith in
    let ez : z ≡ q.z - b.at.z = omega arith in
    has_same level s x y z _ _ _ ex ey ez
    ∙ ap (λ (l : ℕ). has l s (q.x - b.at.x) (q.y - b.at.y) (q.z - b.at.z)) (sym e)
    ∙ shows.each q inside

module _ (p : Layout) (cells : ℕ → World) (state : State) (level : ℕ) where
  -- a site that shows the shape
  record Shows (s : Shape) (t : Site) : Type 0 where
    same_level : t.block.level ≡ level
    shows : ShowsCells t.block s (cells t.version)

  site_of : (s : Shape) → ShowsSomeBlock p cells state level s → Site
  site_of s r = record { version = r.version; block = r.block }

  site_shows : (s : Shape) (r : ShowsSomeBlock p cells state level s) → Shows s (site_of s r)
  unfolding site_of
  site_shows s r = record { same_level = r.site.same_level; shows = r.shows }

  -- two sites that show one shape have the same content, and those of the same content show one
  -- shape
  one_content : (s : Shape) (t u : Site) → Shows s t → Shows s u → SameContent level cells t u
  one_content s t u a b =
      record {
        each =
            λ x y z lx ly lz. sym
            (content_shown level t.block s (cells t.version) a.same_level a.shows x y z lx ly lz)
            ∙ content_shown level u.block s
            (cells u.version) b.same_level b.shows x y z lx ly lz;
      }

  one_shape : (r s : Shape) (t u : Site) → IsCanonical level r → IsCanonical level s → Shows r t
      → Shows s u → SameContent level cells t u → r ≡ s
  one_shape r s t u of_r of_s a b same = same_shape level r s of_r of_s (record {
    each = λ x y z lx ly lz.
        content_shown level t.block r (cells t.version) a.same_level a.shows x y z lx ly lz
        ∙ same.each x y z lx ly lz
        ∙ sym (content_shown level u.block s (cells u.version) b.same_level b.shows x y z lx ly lz);
  })

  filled_cell : (s : Shape) (t : Site) → IsCanonical level s → s ≢ Clear → Shows s t
      → HasCellIn t.block (cells t.version)
  filled_cell s t canonical some a =
      let h : HasCell level s = some_cell level s canonical some in
      let wide : block_side t.block.level ≡ block_side level = ap block_side a.same_level in
      let lx = h.x_in in let ly = h.y_in in let lz = h.z_in in
      record {
        at = cell_at (t.block.at.x + h.x) (t.block.at.y + h.y) (t.block.at.z + h.z);
        inside =
            record {
              x = (omega arith, omega arith);
              y = (omega arith, omega arith);
              z = (omega arith, omega arith);
            };
        set = sym
            (content_shown level t.block s
            (cells t.version) a.same_level a.shows h.x h.y h.z lx ly lz) ∙ h.set;
      }

  sites_of : (shapes : List Shape) → All (ShowsSomeBlock p cells state level) shapes → List Site
  sites_of [] shown = []
  sites_of (s ∷ more) shown =
      site_of s (All-head (ShowsSomeBlock p cells state level) s more shown) ∷ sites_of more
      (All-tail (ShowsSomeBlock p cells state level) s more shown)

  number_of_sites : (shapes : List Shape) (shown : All (ShowsSomeBlock p cells state level) shapes)
      → length (sites_of shapes shown) ≡ length shapes
  unfolding sites_of
  number_of_sites [] shown = refl
  number_of_sites (s ∷ more) shown =
      ap suc (number_of_sites more (All-tail (ShowsSomeBlock p cells state level) s more shown))

  site_at : (shapes : List Shape) (shown : All (ShowsSomeBlock p cells state level) shapes) (k : ℕ)
      (d : Shape) (e : Site) → k < length shapes
      → Shows (get_or shapes k d) (get_or (sites_of shapes shown) k e)
  unfolding sites_of
  site_at [] shown k d e lt = absurd (omega arith)
  site_at (s ∷ more) shown zero d e lt =
      site_shows s (All-head (ShowsSomeBlock p cells state level) s more shown)
  site_at (s ∷ more) shown (suc k) d e lt =
      site_at more (All-tail (ShowsSomeBlock p cells state level) s more shown) k d e (omega arith)

  -- what holds of each site that shows a shape of the list holds of each site of it
  all_sites : (P : Site → Type 0) (Q : Shape → Type 0) (shapes : List Shape)
      (shown : All (ShowsSomeBlock p cells state level) shapes) → All Q shapes
      → ((s : Shape) (r : ShowsSomeBlock p cells state level s) → Q s → P (site_of s r))
      → All P (sites_of shapes shown)
  unfolding sites_of
  all_sites P Q [] shown all each = All-nil P
  all_sites P Q (s ∷ more) shown all each =
      All-cons P _ _
      (each s (All-head (ShowsSomeBlock p cells state level) s more shown)
      (All-head Q s more all))
      (all_sites P Q more (All-tail (ShowsSomeBlock p cells state level) s more shown)
      (All-tail Q s more all) each)

  is_filled : (IsThere : ℕ → Type 0) → ((v : ℕ) (b : Block) → IsSite p state level v b → IsThere v)
      → (s : Shape) (r : ShowsSomeBlock p cells state level s) → IsCanonical level s × (s ≢ Clear)
      → IsFilled (world_block p.side) cells IsThere level (site_of s r)
  unfolding site_of
  is_filled IsThere there s r q =
      record {
        there = there r.version r.block r.site;
        aligned = r.site.aligned;
        same_level = r.site.same_level;
        some = filled_cell s (record { version = r.version; block = r.block }) q.0 q.1
            (record { same_level = r.site.same_level; shows = r.shows });
      }

  sites_apart : (shapes : List Shape) (shown : All (ShowsSomeBlock p cells state level) shapes)
      → All (λ s. IsCanonical level s × (s ≢ Clear)) shapes → AllPairs (λ s t. s ≢ t) shapes
      → AllPairs (λ s t. ¬ SameContent level cells s t) (sites_of shapes shown)
  unfolding sites_of
  sites_apart [] shown right pairs = λ i j d low high. absurd (omega arith)
  sites_apart (s ∷ more) shown right pairs =
      let r = All-head (ShowsSomeBlock p cells state level) s more shown in
      let shown' = All-tail (ShowsSomeBlock p cells state level) s more shown in
      let own = All-head (λ s. IsCanonical level s × (s ≢ Clear)) s more right in
      let right' = All-tail (λ s. IsCanonical level s × (s ≢ Clear)) s more right in
      AllPairs-cons (λ s t. ¬ SameContent level cells s t) (site_of s r) (sites_of more shown')
      (all_sites (λ t. ¬ SameContent level cells (site_of s r) t)
      (λ t. IsCanonical level t × (s ≢ t)) more shown'
      (λ k d lt. ((right' k d lt).0, pairs 0 (suc k) d (omega arith) (omega arith)))
      (λ t u q same. q.1
      (one_shape s t (site_of s r) (site_of t u) own.0 q.0 (site_shows s r)
      (site_shows t u) same)))
      (sites_apart more shown' right'
      (λ i j d low high. pairs (suc i) (suc j) d (omega arith) (omega arith)))

  pub contents : (IsThere : ℕ → Type 0) (number : ℕ)
      → ((v : ℕ) (b : Block) → IsSite p state level v b → IsThere v)
      → ((s : Site) → IsFilled (world_block p.side) cells IsThere level s
      → IsSite p state level s.version s.block) → HasBlocks p cells state level number
      → HasContents (world_block p.side) cells IsThere level number
  contents IsThere number there back h = record {
    sites = sites_of h.shapes h.shown;
    as_many = number_of_sites h.shapes h.shown ∙ h.as_many;
    filled =
        all_sites (IsFilled (world_block p.side) cells IsThere level)
        (λ s. IsCanonical level s × (s ≢ Clear)) h.shapes h.shown h.canonical
        (λ s r q. is_filled IsThere there s r q);
    different = sites_apart h.shapes h.shown h.canonical h.different;
    complete = λ s filled. (
        let l : Lists h.shapes s.block (cells s.version) =
        h.complete s.version s.block (back s filled) filled.some in
        let k = l.listed.0 in
        let lt = l.listed.1 in
        let number = number_of_sites h.shapes h.shown in
        let shows : Shows l.shape (get_or (sites_of h.shapes h.shown) k s) =
        subst (λ (r : Shape). Shows r (get_or (sites_of h.shapes h.shown) k s)) l.listed.2
        (site_at h.shapes h.shown k l.shape s lt) in
        record {
          at = k;
          below = omega arith;
          same = one_content l.shape s (get_or (sites_of h.shapes h.shown) k s)
              (record { same_level = filled.same_level; shows = l.shows }) shows;
        });
  }

-- the law of live numbers in the plain terms of cells
pub live_contents : (p : Layout) (models : List Content) (state : State) (level : ℕ) → 2 ≤ p.side
    → Sound p models state → IsIdle state → level < levels p
    → HasContents (world_block p.side)
    (λ v. history.stored_in (2 ^ p.side) models state.log.records v)
    (λ v. HoldsVersion state.log v) level (live_number p state level)
live_contents p models state level low s idle in_plan =
    contents p (λ v. history.stored_in (2 ^ p.side) models state.log.records v) state level
    (λ v. HoldsVersion state.log v)
    (live_number p state level)
    (λ v b site. there v (state.root v) refl site.rooted)
    (λ t filled. record {
      in_range = (let le = filled.there.there in let few = s.versions.legal.few in omega arith);
      rooted =
          λ none. both_ways
          (history.stored_in (2 ^ p.side) models state.log.records t.version filled.some.at)
          (no_root_no_cell p models state low s t.version filled.there none filled.some.at
          (inside t filled)) filled.some.set;
      aligned = filled.aligned;
      same_level = filled.same_level;
    })
    (live_numbers p
    (λ v. history.stored_in (2 ^ p.side) models state.log.records v) state level s.entries
    (sound_roots p models state s.versions) idle in_plan)
  where
    there : (v : ℕ) (o : Option Name) → state.root v ≡ o → o ≢ None → HoldsVersion state.log v
    there v None e some = absurd (some refl)
    there v (Some n) e some = s.versions.kept v n e

    inside : (t : Site)
        (filled : IsFilled (world_block p.side)
        (λ v. history.stored_in (2 ^ p.side) models state.log.records v)
        (λ v. HoldsVersion state.log v) level t) → IsInWorld (2 ^ p.side) filled.some.at
    inside t filled =
        aligned_in_world p.side t.block filled.some.at low filled.aligned filled.some.inside
