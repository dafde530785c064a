-- How far the reading of nodes has come after some children, and what the next one makes of it.
use Rattle.std.proofs.Common.{◌≡◌, ℕ, suc, ◌<◌, ◌≤◌, List, [], ◌++◌, Option, Some, None, Ok, Err, refl, sym, ap, subst, ◌∙◌, inl, inr, ◌⊎◌, arith, below_more, add-one}
use Rattle.std.proofs.lemmas.Bool.{cases_order}
use Rattle.vox_chunk.specs.declared.faults.VoxFault.{VoxFault}
use Rattle.vox_chunk.specs.declared.chunks.Chunk.{Chunk}
use Rattle.vox_chunk.specs.Frames.{Bounds, header_of, place_of, FrameFits, end_of, id_at, content_at}
use Rattle.vox_chunk.specs.Walking.{Cursor, Walks}
use Rattle.vox_read.specs.Contents.{Content}
use Rattle.vox_read.specs.Files.{HasModels}
use Rattle.vox_scene.specs.declared.faults.SceneFault.{SceneFault}
use Rattle.vox_scene.specs.declared.faults.SceneFault.TheVariants.{ShortNode, TwoNodes, BadRotation, BadTranslation, NoNode, TooDeep, NoModel, TooMany, TooLarge, Memory}
use Rattle.vox_scene.specs.declared.nodes.Node.{Node}
use Rattle.vox_scene.specs.declared.reading.Nodes.{Nodes}
use Rattle.vox_scene.specs.Faults.{SaysNodeRule}
use Rattle.vox_scene.specs.Reading.{nodes_in, nodes_before, chunk_fault, scene_fault_at, NodesAreRead, AreNodes, IsFirstNodeFault, RefusesNodes, FindsNodes}

-- some children are read: the walk is behind them, and their nodes are found
pub record NodesCome (bytes : List ℕ) (cursor : Cursor) (found : Nodes) : Type 0 where
  pub main : Bounds
  pub header : header_of bytes ≡ Ok main
  pub children : ℕ
  pub at : cursor ≡ record
      { bytes = bytes; at = place_of bytes main.first children; end = main.end }
  pub read : NodesAreRead bytes main children
  pub finds : FindsNodes (nodes_before bytes main.first children) found

pub come_none : (bytes : List ℕ) (cursor : Cursor) (found : Nodes) → cursor.bytes ≡ bytes
    → header_of bytes ≡ Ok (record { first = cursor.at; end = cursor.end }) → FindsNodes [] found
    → NodesCome bytes cursor found
come_none bytes cursor found same header finds = record {
  main = record { first = cursor.at; end = cursor.end };
  header = header;
  children = 0;
  at = rw same refl;
  read = record {
    frames = λ k lt. absurd (omega (arith, lt));
    fine = λ k lt. absurd
        (omega (arith, lt));
  };
  finds = finds;
}

-- the children end
pub come_all : (bytes : List ℕ) (old new : Cursor) (found : Nodes) → NodesCome bytes old found
    → Walks old None new → (nodes : List Node) × AreNodes bytes nodes × FindsNodes nodes found
come_all bytes old new found come walks = (
  nodes_before bytes come.main.first come.children,
  record {
    main = come.main;
    header = come.header;
    children = come.children;
    read = come.read;
    ends = subst (λ (c : Cursor). c.end ≤ c.at) come.at walks.0;
    are = refl;
  },
  come.finds,
)

-- ---- a file whose models can be read has no frame that doesn't fit

same_main : (bytes : List ℕ) {a b : Bounds} → header_of bytes ≡ Ok a → header_of bytes ≡ Ok b
    → a ≡ b
same_main bytes of_a of_b = cc

frame_at : (bytes : List ℕ) (main : Bounds) (i j : ℕ)
    → ((k : ℕ) → k < i → FrameFits bytes main.end (place_of bytes main.first k))
    → ((k : ℕ) → k < j → FrameFits bytes main.end (place_of bytes main.first k))
    → main.end ≤ place_of bytes main.first j → place_of bytes main.first i < main.end
    → (i ≡ j) ⊎ ((i < j) ⊎ (j < i)) → FrameFits bytes main.end (place_of bytes main.first i)
frame_at bytes main i j ours theirs ends begins (inl same) =
    absurd (let here = subst (λ (k : ℕ). main.end ≤ place_of bytes main.first k) (sym same) ends in
    omega (arith, here, begins))
frame_at bytes main i j ours theirs ends begins (inr (inl less)) = theirs i less
frame_at bytes main i j ours theirs ends begins (inr (inr more)) =
    absurd (let head = (ours j more).head in omega (arith, head, ends))

pub frame_here : (bytes : List ℕ) (old : Cursor) (found : Nodes) (models : List Content)
    → NodesCome bytes old found → HasModels bytes models → old.at < old.end
    → FrameFits old.bytes old.end old.at
frame_here bytes old found models come has begins =
    let same : has.main ≡ come.main = same_main bytes has.header come.header in
    let theirs = subst (λ (m : Bounds). (k : ℕ) → k < has.children
    → FrameFits bytes m.end (place_of bytes m.first k)) same has.read.frames in
    let ends = subst (λ (m : Bounds). m.end ≤ place_of bytes m.first has.children) same has.ends in
    let start = subst (λ (c : Cursor). c.at < c.end) come.at begins in
    subst (λ (c : Cursor). FrameFits c.bytes c.end c.at) (sym come.at)
    (frame_at bytes come.main come.children has.children come.read.frames theirs ends start
    (cases_order come.children has.children))

pub no_misfit : (bytes : List ℕ) (old new : Cursor) (found : Nodes) (models : List Content)
    (fault : VoxFault) → NodesCome bytes old found → HasModels bytes models
    → Walks old (Some (Err fault)) new → ⊥
no_misfit bytes old new found models fault come has walks =
    walks.1 (frame_here bytes old found models come has walks.0)

pub no_bad_header : (bytes : List ℕ) (models : List Content) (fault : VoxFault)
    → HasModels bytes models → header_of bytes ≡ Err fault → ⊥
no_bad_header bytes models fault has is = let header = has.header in cc

-- ---- the next child

record ChunkIsAt (bytes : List ℕ) (main : Bounds) (i : ℕ) (chunk : Chunk) : Type 0 where
  fits : FrameFits bytes main.end (place_of bytes main.first i)
  id : chunk.id ≡ id_at bytes (place_of bytes main.first i)
  content : chunk.content.now ≡ content_at bytes (place_of bytes main.first i)
  at : chunk.at ≡ place_of bytes main.first i

at_child : (bytes : List ℕ) (old new : Cursor) (chunk : Chunk) (main : Bounds) (i : ℕ)
    → old ≡ record { bytes = bytes; at = place_of bytes main.first i; end = main.end }
    → Walks old (Some (Ok chunk)) new → ChunkIsAt bytes main i chunk
at_child bytes old new chunk main i at walks = record {
  fits = subst (λ (c : Cursor). FrameFits c.bytes c.end c.at) at walks.1;
  id = subst (λ (c : Cursor). chunk.id ≡ id_at c.bytes c.at) at walks.2.id;
  content = subst (λ (c : Cursor). chunk.content.now ≡ content_at c.bytes c.at) at walks.2.content;
  at = subst (λ (c : Cursor). chunk.at ≡ c.at) at walks.2.at;
}

same_fault : (before : List Node) (id other content more : List ℕ) (p q : ℕ) → id ≡ other
    → content ≡ more → p ≡ q → chunk_fault before id content p ≡ chunk_fault before other more q
same_fault before id other content more p q a b c = rw (a, b, c) refl

same_nodes : (before : List Node) (id other content more : List ℕ) → id ≡ other → content ≡ more
    → before ++ nodes_in id content ≡ before ++ nodes_in other more
same_nodes before id other content more a b = rw (a, b) refl

refuses_by : (fault : SceneFault) (broken : Option SceneFault) (bytes : List ℕ)
    → SaysNodeRule fault broken → ((f : SceneFault) → broken ≡ Some f → IsFirstNodeFault bytes f)
    → RefusesNodes fault bytes
refuses_by (ShortNode at) broken bytes says first = first (ShortNode at) says
refuses_by (TwoNodes at) broken bytes says first = first (TwoNodes at) says
refuses_by (BadRotation at) broken bytes says first = first (BadRotation at) says
refuses_by (BadTranslation at) broken bytes says first = first (BadTranslation at) says
refuses_by (NoNode at) broken bytes says first = first (NoNode at) says
refuses_by (TooDeep at) broken bytes says first = first (TooDeep at) says
refuses_by (NoModel at) broken bytes says first = first (NoModel at) says
refuses_by (TooMany at) broken bytes says first = first (TooMany at) says
refuses_by TooLarge broken bytes says first = first TooLarge says
refuses_by Memory broken bytes says first = tt

-- a node breaks a rule
pub come_refuses : (bytes : List ℕ) (old new : Cursor) (found : Nodes) (chunk : Chunk)
    (fault : SceneFault) → NodesCome bytes old found → Walks old (Some (Ok chunk)) new
    → ((before : List Node) → FindsNodes before found
    → SaysNodeRule fault (chunk_fault before chunk.id chunk.content.now chunk.at))
    → RefusesNodes fault bytes
come_refuses bytes old new found chunk fault come walks says =
    let here = at_child bytes old new chunk come.main come.children come.at walks in
    let before = nodes_before bytes come.main.first come.children in
    refuses_by fault (chunk_fault before chunk.id chunk.content.now chunk.at) bytes
    (says before come.finds)
    (λ f is. record {
      main = come.main;
      header = come.header;
      child = come.children;
      before = come.read;
      fits = here.fits;
      breaks = (sym (same_fault before _ _ _ _ _ _ here.id here.content here.at) ∙ is);
    })

-- the node of the next child is taken
pub come_more : (bytes : List ℕ) (old new : Cursor) (found now : Nodes) (chunk : Chunk)
    → NodesCome bytes old found → Walks old (Some (Ok chunk)) new
    → ((before : List Node) → FindsNodes before found
    → (chunk_fault before chunk.id chunk.content.now chunk.at ≡ None)
    × FindsNodes (before ++ nodes_in chunk.id chunk.content.now) now)
    → NodesCome bytes new now
come_more bytes old new found now chunk come walks takes =
    let here = at_child bytes old new chunk come.main come.children come.at walks in
    let before = nodes_before bytes come.main.first come.children in
    let taken = takes before come.finds in
    let fine : scene_fault_at bytes come.main.first come.children ≡ None =
    sym (same_fault before _ _ _ _ _ _ here.id here.content here.at) ∙ taken.0 in
    record {
      main = come.main;
      header = come.header;
      children = suc come.children;
      at = walks.3
          ∙ ap (λ c. record { bytes = c.bytes; at = end_of c.bytes c.at; end = c.end }) come.at;
      read = record {
        frames = subst
            (λ n. (k : ℕ) → k < n
            → FrameFits bytes come.main.end (place_of bytes come.main.first k))
            (add-one come.children)
            (below_more (λ k. FrameFits bytes come.main.end
            (place_of bytes come.main.first k)) come.children come.read.frames here.fits);
        fine = subst (λ n. (k : ℕ) → k < n → scene_fault_at bytes come.main.first k ≡ None)
            (add-one come.children)
            (below_more (λ k. scene_fault_at bytes come.main.first k
            ≡ None) come.children come.read.fine fine);
      };
      finds = subst (λ (nodes : List Node). FindsNodes nodes now)
          (same_nodes before _ _ _ _ here.id here.content) taken.1;
    }
