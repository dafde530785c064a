-- How far the reading has come after some children, and what the next one makes of it.
use Rattle.std.proofs.Common.{◌≡◌, ℕ, suc, ◌<◌, ◌≤◌, List, [], ◌++◌, length, Option, Some, None, Ok, Err, refl, sym, ap, subst, ◌∙◌, inl, inr, arith, below_more, add-one}
use Rattle.vw_cell.specs.declared.cells.Cell.{Cell}
use Rattle.vox_chunk.specs.declared.faults.VoxFault.{VoxFault}
use Rattle.vox_chunk.specs.declared.faults.VoxFault.TheVariants.{NotVox, Version, NoMain, Truncated, ShortSize, SizeRange, XyziWithoutSize, ShortXyzi, VoxelOutside, TooManyModels, Memory}
use Rattle.vox_chunk.specs.declared.chunks.Chunk.{Chunk}
use Rattle.vox_chunk.specs.Frames.{Bounds, header_of, place_of, FrameFits, end_of, id_at, content_at}
use Rattle.vox_chunk.specs.Walking.{Cursor, Walks}
use Rattle.vox_read.specs.Contents.{Content}
use Rattle.vox_read.specs.Children.{waiting_behind, waiting_at, models_in, models_before, fields_fault, child_fault}
use Rattle.vox_read.specs.Refusals.{SaysBroken}
use Rattle.vox_read.specs.Files.{AreRead, ReadsModels, RefusesFile}

-- some children are read: the walk is behind them, and this size waits, and these are their models
pub record HasCome (bytes : List ℕ) (cursor : Cursor) (waiting : Option Cell)
    (models : List Content) : Type 0 where
  pub main : Bounds
  pub header : header_of bytes ≡ Ok main
  pub children : ℕ
  pub at : cursor ≡ record
      { bytes = bytes; at = place_of bytes main.first children; end = main.end }
  pub read : AreRead bytes main children
  pub waits : waiting ≡ waiting_at bytes main.first children
  pub are : models ≡ models_before bytes main.first children

pub come_none : (bytes : List ℕ) (cursor : Cursor) → cursor.bytes ≡ bytes
    → header_of bytes ≡ Ok (record { first = cursor.at; end = cursor.end })
    → HasCome bytes cursor None []
come_none bytes cursor same header =
    record {
      main = record { first = cursor.at; end = cursor.end };
      header = header;
      children = 0;
      at = rw same refl;
      read = record {
        frames = λ k lt. absurd (omega (arith, lt));
        fields = λ k lt. absurd
            (omega (arith, lt));
      };
      waits = refl;
      are = refl;
    }

-- the children end
pub come_all : (bytes : List ℕ) (old new : Cursor) (waiting : Option Cell) (models : List Content)
    → HasCome bytes old waiting models → Walks old None new → ReadsModels bytes (Ok models)
come_all bytes old new waiting models come walks =
    record { main = come.main; header = come.header; children = come.children; read = come.read; ends = subst (λ (c : Cursor). c.end ≤ c.at) come.at walks.0; are = come.are }

-- a fault of the reading is the first fault of the bytes
refuses_by : (fault : VoxFault) (bytes : List ℕ) → ReadsModels bytes (Err fault)
    → RefusesFile fault bytes
refuses_by NotVox bytes reads = reads
refuses_by (Version version) bytes reads = reads
refuses_by NoMain bytes reads = reads
refuses_by (Truncated at) bytes reads = reads
refuses_by (ShortSize at) bytes reads = reads
refuses_by (SizeRange at) bytes reads = reads
refuses_by (XyziWithoutSize at) bytes reads = reads
refuses_by (ShortXyzi at) bytes reads = reads
refuses_by (VoxelOutside at) bytes reads = reads
refuses_by (TooManyModels at) bytes reads = reads
refuses_by Memory bytes reads = tt

pub header_refuses : (fault : VoxFault) (bytes : List ℕ) → header_of bytes ≡ Err fault
    → RefusesFile fault bytes
header_refuses fault bytes is = refuses_by fault bytes (inl is)

-- the next child's frame doesn't fit
pub frame_refuses : (bytes : List ℕ) (old new : Cursor) (waiting : Option Cell)
    (models : List Content) (fault : VoxFault) → HasCome bytes old waiting models
    → Walks old (Some (Err fault)) new → RefusesFile fault bytes
frame_refuses bytes old new waiting models fault come walks =
    let at = come.at in
    refuses_by fault bytes
    (inr (record {
      main = come.main;
      header = come.header;
      child = come.children;
      before = come.read;
      begins = subst (λ (c : Cursor). c.at < c.end) at walks.0;
      breaks = inl (
        subst (λ (c : Cursor). FrameFits c.bytes c.end c.at → ⊥) at walks.1,
        subst
            (λ (c : Cursor). fault ≡ Truncated c.at) at walks.2,
      );
    }))

-- the fields of a chunk at its place
at_child : (bytes : List ℕ) (old new : Cursor) (chunk : Chunk) (main : Bounds) (i : ℕ)
    → old ≡ record { bytes = bytes; at = place_of bytes main.first i; end = main.end }
    → Walks old (Some (Ok chunk)) new
    → FrameFits bytes main.end (place_of bytes main.first i)
    × (chunk.id ≡ id_at bytes (place_of bytes main.first i))
    × (chunk.content.now ≡ content_at bytes (place_of bytes main.first i))
    × (chunk.at ≡ place_of bytes main.first i)
at_child bytes old new chunk main i at walks = (
  subst (λ (c : Cursor). FrameFits c.bytes c.end c.at) at walks.1,
  subst
      (λ (c : Cursor). chunk.id ≡ id_at c.bytes c.at) at walks.2.id,
  subst
      (λ (c : Cursor). chunk.content.now ≡ content_at c.bytes c.at) at walks.2.content,
  subst
      (λ (c : Cursor). chunk.at ≡ c.at) at walks.2.at,
)

fault_here : (bytes : List ℕ) (old new : Cursor) (waiting : Option Cell) (models : List Content)
    (chunk : Chunk) (come : HasCome bytes old waiting models) → Walks old (Some (Ok chunk)) new
    → fields_fault waiting
    (length models) chunk.id chunk.content.now chunk.at
    ≡ child_fault bytes come.main.first come.children
fault_here bytes old new waiting models chunk come walks =
    let here = at_child bytes old new chunk come.main come.children come.at walks in
    rw (come.waits, come.are, here.1, here.2, here.3) refl

-- the next child breaks a rule of its fields
broken_by : (fault : VoxFault) (broken : Option VoxFault) (bytes : List ℕ) → SaysBroken fault broken
    → ((f : VoxFault) → broken ≡ Some f → ReadsModels bytes (Err f)) → RefusesFile fault bytes
broken_by NotVox broken bytes says reads = reads NotVox says
broken_by (Version version) broken bytes says reads = reads (Version version) says
broken_by NoMain broken bytes says reads = reads NoMain says
broken_by (Truncated at) broken bytes says reads = reads (Truncated at) says
broken_by (ShortSize at) broken bytes says reads = reads (ShortSize at) says
broken_by (SizeRange at) broken bytes says reads = reads (SizeRange at) says
broken_by (XyziWithoutSize at) broken bytes says reads = reads (XyziWithoutSize at) says
broken_by (ShortXyzi at) broken bytes says reads = reads (ShortXyzi at) says
broken_by (VoxelOutside at) broken bytes says reads = reads (VoxelOutside at) says
broken_by (TooManyModels at) broken bytes says reads = reads (TooManyModels at) says
broken_by Memory broken bytes says reads = tt

pub fields_refuse : (bytes : List ℕ) (old new : Cursor) (waiting : Option Cell)
    (models : List Content) (chunk : Chunk) (fault : VoxFault) → HasCome bytes old waiting models
    → Walks old (Some (Ok chunk)) new
    → SaysBroken fault (fields_fault waiting (length models) chunk.id chunk.content.now chunk.at)
    → RefusesFile fault bytes
fields_refuse bytes old new waiting models chunk fault come walks says =
    let here = at_child bytes old new chunk come.main come.children come.at walks in
    broken_by fault
    (fields_fault waiting (length models) chunk.id chunk.content.now chunk.at) bytes says
    (λ f is. inr (record {
      main = come.main;
      header = come.header;
      child = come.children;
      before = come.read;
      begins = subst (λ (c : Cursor). c.at < c.end) come.at walks.0;
      breaks = inr (here.0, sym (fault_here bytes old new waiting models chunk come walks) ∙ is);
    }))

-- the next child is read
pub come_more : (bytes : List ℕ) (old new : Cursor) (waiting behind : Option Cell)
    (models now : List Content) (chunk : Chunk) → HasCome bytes old waiting models
    → Walks old (Some (Ok chunk)) new
    → fields_fault waiting (length models) chunk.id chunk.content.now chunk.at ≡ None
    → behind ≡ waiting_behind chunk.id chunk.content.now waiting
    → now ≡ models ++ models_in chunk.id chunk.content.now waiting → HasCome bytes new behind now
come_more bytes old new waiting behind models now chunk come walks fine waits are =
    let here = at_child bytes old new chunk come.main come.children come.at walks in
    record {
      main = come.main;
      header = come.header;
      children = suc come.children;
      at = walks.3
          ∙ ap (λ c. record { bytes = c.bytes; at = end_of c.bytes c.at; end = c.end }) come.at;
      read = record {
        frames = subst
            (λ n. (k : ℕ) → k < n
            → FrameFits bytes come.main.end (place_of bytes come.main.first k))
            (add-one come.children)
            (below_more (λ k. FrameFits bytes come.main.end
            (place_of bytes come.main.first k)) come.children come.read.frames here.0);
        fields = subst (λ n. (k : ℕ) → k < n → child_fault bytes come.main.first k ≡ None)
            (add-one come.children)
            (below_more (λ k. child_fault bytes come.main.first k
            ≡ None) come.children come.read.fields
            (sym (fault_here bytes old new waiting models chunk come walks) ∙ fine));
      };
      waits = rw (waits, come.waits, here.1, here.2) refl;
      are = rw (are, come.are, come.waits, here.1, here.2) refl;
    }
