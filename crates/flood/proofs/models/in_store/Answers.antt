use Rattle.std.proofs.Common.{◌≡◌, [], ap, subst, ◌∙◌, arith, rules, All}
use Rattle.node_words.specs.shapes.Weights.{number_of_trees}
use Rattle.node_words.specs.Enough.{HasEnough}
use Rattle.node_words.specs.Held.{Wanted}
use Rattle.node_words.specs.Plans.{Layout}
use Rattle.one_store.specs.notes.StoreNotes.{StoreNotes}
use Rattle.one_store.specs.Known.{known_state}
use Rattle.flood.specs.Models.{flood_plan}
use Rattle.flood.proofs.ModelLaws.{made_held, met_enough, no_trees, region_shown}
use Rattle.flood.proofs.models.in_store.Goals as goal

pub rebuild_stamp-requires-clause-may : goal.rebuild_stamp-requires-clause-may
rebuild_stamp-requires-clause-may g c =
    let none : number_of_trees c.args.store.now.told.held ≡ 0 =
    ap (λ (t : StoreNotes). number_of_trees t.held) c.requires.told ∙ no_trees in
    record { side_is = search rules; root_is = tt; room = omega (arith, none) }

pub returns-in-Err-clause-refused : goal.returns-in-Err-clause-refused
returns-in-Err-clause-refused g c =
    let none_made : c.args.store.now.told.made ≡ [] =
    ap (λ (t : StoreNotes). t.made) c.requires.told in
    let none_met : c.args.store.now.told.met ≡ [] = ap (λ (t : StoreNotes). t.met) c.requires.told in
    let plan : c.rebuild_stamp.new.store.words.plan ≡ flood_plan c.args.side = search rules in
    met_enough (known_state c.args.store.now) (known_state c.rebuild_stamp.new.store) c.args.side
    c.args.stencil.now c.args.b c.in-Err.full none_made none_met c.in-Err.ensures.made
    (subst (λ (p : Layout). All
    (λ (w : Wanted). HasEnough p c.rebuild_stamp.new.store.told.made w.level w.bucket)
    c.rebuild_stamp.new.store.told.met) plan c.full_buckets_had_enough.ensures)

pub region_file-region-requires-clause-root : goal.region_file-region-requires-clause-root
region_file-region-requires-clause-root g c =
    made_held (known_state c.args.store.now) (known_state c.rebuild_stamp.new.store) c.args.side
    c.in-Ok.root _ c.args.stencil.now c.args.b.at
    (λ before w. (c.in-Ok.ensures.made before w).came) c.as_ref.ensures.value

pub returns-in-Ok-region-clause-region : goal.returns-in-Ok-region-clause-region
returns-in-Ok-region-clause-region g c =
    region_shown (known_state c.args.store.now) (known_state c.rebuild_stamp.new.store) c.args.side
    c.in-Ok.root _ c.args.stencil.now c.args.b c.args.from c.in-Ok-region.region.cells
    c.in-Ok-region.region.file.items c.requires.low c.requires.inside
    (λ before w. (c.in-Ok.ensures.made before w).came) c.as_ref.ensures.value c.in-Ok-region.ensures.file
