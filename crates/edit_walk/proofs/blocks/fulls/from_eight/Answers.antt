use Rattle.std.proofs.Common.{sym, ◌∙◌, ap, arith, subst}
use Rattle.edit_walk.specs.declared.blocks.full_blocks.FullBlocks.{FullBlocks}
use Rattle.node_words.specs.Held.{StoreState}
use Rattle.node_words.specs.Gathering.{Grows}
use Rattle.node_words.specs.contents.CellShapes.{full_shape}
use Rattle.edit_walk.specs.blocks.Blocks.{Aside, no_full_blocks}
use Rattle.node_words.proofs.OfContents.FullShapes.{full_canonical}
use Rattle.edit_walk.proofs.OfBlocks.JoinLaws.{eight_gathers, full_of, level_full, next_aside, next_full, only_grows, only_refuses}
use Rattle.edit_walk.proofs.blocks.fulls.from_eight.Goals as goal

pub join-requires-clause-octants : goal.join-requires-clause-octants
join-requires-clause-octants g c =
    let (n, e, l) = c.requires.full in
    let (rest, a) = c.requires.aside in
    let f =
    subst (λ (m : FullBlocks). Aside (g.N.Blocks.seen c.args.store.now).held m rest)
    (sym c.replace-below.ensures.value) a in
    let x =
    eight_gathers rest _ _ n.level c.args.level l
    (c.eight_of-children.ensures.gathers rest n (ap (λ (m : FullBlocks). m.share) c.replace-below.ensures.value ∙ e) f) in
    (rest, no_full_blocks, full_shape c.args.level, full_canonical c.args.level, x)

pub join-requires-clause-room : goal.join-requires-clause-room
join-requires-clause-room g c = omega (arith, c.eight_of-children.ensures.number, c.requires.room)

pub names_in-names-requires : goal.names_in-names-requires
names_in-names-requires g c =
    let (rest, a) = c.requires.aside in
    let (n, e, l) = c.requires.full in
    let f =
    subst (λ (m : FullBlocks). Aside (g.N.Blocks.seen c.args.store.now).held m rest)
    (sym c.replace-below.ensures.value) a in
    let x =
    eight_gathers rest _ _ n.level c.args.level l
    (c.eight_of-children.ensures.gathers rest n (ap (λ (m : FullBlocks). m.share) c.replace-below.ensures.value ∙ e) f) in
    let came = (c.in-Ok.ensures.joined rest no_full_blocks (full_shape c.args.level)
    (full_canonical c.args.level) x).joined.came in
    let q = next_full rest _ c.args.level c.in-Ok.share came in
    record { full = λ m is. ((_, full_of q m is), omega (arith, level_full q m is, c.requires.level)) }

pub returns-in-Ok-clause-reaches : goal.returns-in-Ok-clause-reaches
returns-in-Ok-clause-reaches g c =
    let (rest, a) = c.requires.aside in
    let (n, e, l) = c.requires.full in
    let f =
    subst (λ (m : FullBlocks). Aside (g.N.Blocks.seen c.args.store.now).held m rest)
    (sym c.replace-below.ensures.value) a in
    let x =
    eight_gathers rest _ _ n.level c.args.level l
    (c.eight_of-children.ensures.gathers rest n (ap (λ (m : FullBlocks). m.share) c.replace-below.ensures.value ∙ e) f) in
    let came = (c.in-Ok.ensures.joined rest no_full_blocks (full_shape c.args.level)
    (full_canonical c.args.level) x).joined.came in
    let q = next_full rest _ c.args.level c.in-Ok.share came in
    (q.name, ap (λ (m : FullBlocks). m.share) c.become_these.ensures ∙ q.is, q.at)

pub returns-in-Ok-clause-rest : goal.returns-in-Ok-clause-rest
returns-in-Ok-clause-rest g c rest a =
    let (n, e, l) = c.requires.full in
    let f =
    subst (λ (m : FullBlocks). Aside (g.N.Blocks.seen c.args.store.now).held m rest)
    (sym c.replace-below.ensures.value) a in
    let x =
    eight_gathers rest _ _ n.level c.args.level l
    (c.eight_of-children.ensures.gathers rest n (ap (λ (m : FullBlocks). m.share) c.replace-below.ensures.value ∙ e) f) in
    let came = (c.in-Ok.ensures.joined rest no_full_blocks (full_shape c.args.level)
    (full_canonical c.args.level) x).joined.came in
    let q = next_full rest _ c.args.level c.in-Ok.share came in
    subst (λ (m : FullBlocks). Aside (g.N.Blocks.seen c.names_in-names.new.store).held m rest)
    (sym c.become_these.ensures)
    (subst (λ (s : StoreState). Aside s.held
    (record { share = c.in-Ok.share; names = c.names_in-names.result }) rest)
    (sym c.names_in-names.ensures.seen)
    (next_aside rest _ c.args.level c.in-Ok.share c.names_in-names.result came
    (λ m is. c.names_in-names.ensures.names m _ is (full_of q m is))))

pub returns-in-Ok-clause-grows : goal.returns-in-Ok-clause-grows
returns-in-Ok-clause-grows g c =
    let (n, e, l) = c.requires.full in
    let (rest, a) = c.requires.aside in
    let f =
    subst (λ (m : FullBlocks). Aside (g.N.Blocks.seen c.args.store.now).held m rest)
    (sym c.replace-below.ensures.value) a in
    let x =
    eight_gathers rest _ _ n.level c.args.level l
    (c.eight_of-children.ensures.gathers rest n (ap (λ (m : FullBlocks). m.share) c.replace-below.ensures.value ∙ e) f) in
    subst (λ (s : StoreState). Grows (full_shape c.args.level) (g.N.Blocks.seen c.args.store.now) s)
    (sym c.names_in-names.ensures.seen)
    (only_grows _ _ _ _ c.eight_of-children.ensures.only
    (c.in-Ok.ensures.joined rest no_full_blocks (full_shape c.args.level) (full_canonical c.args.level) x).grows)

pub returns-in-Err-clause-rest : goal.returns-in-Err-clause-rest
returns-in-Err-clause-rest g c rest a =
    let (n, e, l) = c.requires.full in
    let f =
    subst (λ (m : FullBlocks). Aside (g.N.Blocks.seen c.args.store.now).held m rest)
    (sym c.replace-below.ensures.value) a in
    let x =
    eight_gathers rest _ _ n.level c.args.level l
    (c.eight_of-children.ensures.gathers rest n (ap (λ (m : FullBlocks). m.share) c.replace-below.ensures.value ∙ e) f) in
    subst (λ (m : FullBlocks). Aside (g.N.Blocks.seen c.join.new.store).held m rest)
    (sym c.replace-below.ensures.after)
    (c.in-Err.ensures.joined rest no_full_blocks (full_shape c.args.level)
    (full_canonical c.args.level) x).aside

pub returns-in-Err-clause-full : goal.returns-in-Err-clause-full
returns-in-Err-clause-full g c =
    let (n, e, l) = c.requires.full in
    let (rest, a) = c.requires.aside in
    let f =
    subst (λ (m : FullBlocks). Aside (g.N.Blocks.seen c.args.store.now).held m rest)
    (sym c.replace-below.ensures.value) a in
    let x =
    eight_gathers rest _ _ n.level c.args.level l
    (c.eight_of-children.ensures.gathers rest n (ap (λ (m : FullBlocks). m.share) c.replace-below.ensures.value ∙ e) f) in
    only_refuses _ _ _ _ _ _ c.eight_of-children.ensures.only
    (c.in-Err.ensures.joined rest no_full_blocks (full_shape c.args.level) (full_canonical c.args.level) x).refuses
