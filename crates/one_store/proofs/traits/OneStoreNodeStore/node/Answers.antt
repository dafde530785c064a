use Rattle.std.proofs.Common.{◌≡◌, ◌∙◌, ap, refl, length, arith}
use Rattle.node_words.specs.declared.keys.Key.TheVariants.{Node}
use Rattle.one_store.proofs.NodeLaws.{asks, held_under, node_fits, node_names, raised_holds, sought_holds, node_joined, node_turns, node_hit, node_missed, node_added, node_grants, node_met}
use Rattle.one_store.proofs.CallLaws.{joins_found, node_level_of, missing_no_entry, found_not_missing, adds_entry, finds_full}
use Rattle.one_store.proofs.SpareLaws.{adds_spare}
use Rattle.one_store.proofs.traits.OneStoreNodeStore.node.Goals as goal

pub seek-sought-requires-clause-fits : goal.seek-sought-requires-clause-fits
seek-sought-requires-clause-fits g c =
    let st = c.number-number.ensures.store in
    let names = c.names_of-names.result in
    let e = c.names_of-names.ensures in
    let len : length c.args.children ≡ 8 = omega arith in
    let q =
    asks c.args.self.now c.args.level names c.args.children e len c.requires.level.0 c.requires.level.1 c.requires.some c.requires.below c.requires.held in
    node_fits c.args.self.now c.args.level names q

pub seek-sought-requires-clause-names : goal.seek-sought-requires-clause-names
seek-sought-requires-clause-names g c =
    let st = c.number-number.ensures.store in
    let names = c.names_of-names.result in
    let e = c.names_of-names.ensures in
    let len : length c.args.children ≡ 8 = omega arith in
    let q =
    asks c.args.self.now c.args.level names c.args.children e len c.requires.level.0 c.requires.level.1 c.requires.some c.requires.below c.requires.held in
    node_names c.args.self.now _ c.args.level names st q

pub release_row-requires-clause-held : goal.release_row-requires-clause-held
release_row-requires-clause-held g c =
    let st = c.number-number.ensures.store in
    let names = c.names_of-names.result in
    let e = c.names_of-names.ensures in
    let len : length c.args.children ≡ 8 = omega arith in
    let q =
    asks c.args.self.now c.args.level names c.args.children e len c.requires.level.0 c.requires.level.1 c.requires.some c.requires.below c.requires.held in
    raised_holds c.args.self.now c.raise-share.new.self c.in-Some.n _ c.args.level names st q c.raise-share.ensures.raises

pub add-requires-clause-held : goal.add-requires-clause-held
add-requires-clause-held g c =
    let st = c.number-number.ensures.store in
    let names = c.names_of-names.result in
    let e = c.names_of-names.ensures in
    let len : length c.args.children ≡ 8 = omega arith in
    let q =
    asks c.args.self.now c.args.level names c.args.children e len c.requires.level.0 c.requires.level.1 c.requires.some c.requires.below c.requires.held in
    sought_holds c.args.self.now _ c.seek-sought.result c.args.level names st q c.seek-sought.ensures.level c.seek-sought.ensures.key

pub returns-in-Some-clause-held : goal.returns-in-Some-clause-held
returns-in-Some-clause-held g c row a =
    let st = c.number-number.ensures.store in
    let names = c.names_of-names.result in
    let e = c.names_of-names.ensures in
    let len : length c.args.children ≡ 8 = omega arith in
    let q =
    asks c.args.self.now c.args.level names c.args.children e len c.requires.level.0 c.requires.level.1 c.requires.some c.requires.below c.requires.held in
    let r = held_under c.args.self.now.told.held names c.args.children row e a in
    node_joined c.args.self.now c.raise-share.new.self c.release_row.new.self c.seek-sought.result c.in-Some.n c.raise-share.result _ c.args.level c.tick.new.self c.release_row.new.steps names row st q c.seek-sought.ensures.level c.seek-sought.ensures.key c.in-Some.ensures.found c.raise-share.ensures.raises c.release_row.ensures c.raise-share.ensures.share r

pub returns-in-Some-clause-hit : goal.returns-in-Some-clause-hit
returns-in-Some-clause-hit g c row a m h =
    let st = c.number-number.ensures.store in
    let names = c.names_of-names.result in
    let e = c.names_of-names.ensures in
    let len : length c.args.children ≡ 8 = omega arith in
    let q =
    asks c.args.self.now c.args.level names c.args.children e len c.requires.level.0 c.requires.level.1 c.requires.some c.requires.below c.requires.held in
    let r = held_under c.args.self.now.told.held names c.args.children row e a in
    node_hit c.args.self.now c.raise-share.new.self c.release_row.new.self c.seek-sought.result c.in-Some.n m c.raise-share.result _ c.args.level c.tick.new.self c.release_row.new.steps names row st q c.seek-sought.ensures.level c.seek-sought.ensures.key c.in-Some.ensures.found c.raise-share.ensures.raises c.release_row.ensures c.raise-share.ensures.share r h

pub returns-in-Some-clause-turns : goal.returns-in-Some-clause-turns
returns-in-Some-clause-turns g c =
    let st = c.number-number.ensures.store in
    let names = c.names_of-names.result in
    let e = c.names_of-names.ensures in
    let len : length c.args.children ≡ 8 = omega arith in
    let q =
    asks c.args.self.now c.args.level names c.args.children e len c.requires.level.0 c.requires.level.1 c.requires.some c.requires.below c.requires.held in
    node_turns c.args.self.now c.raise-share.new.self c.release_row.new.self c.seek-sought.result c.in-Some.n _ _ c.args.level c.args.steps.now c.tick.new.self c.release_row.new.steps names st c.number-left.ensures.store q c.seek-sought.ensures.level c.seek-sought.ensures.key c.in-Some.ensures.found c.raise-share.ensures.raises c.release_row.ensures c.tick.ensures

pub returns-in-Ok-clause-held : goal.returns-in-Ok-clause-held
returns-in-Ok-clause-held g c row a =
    let st = c.number-number.ensures.store in
    let names = c.names_of-names.result in
    let e = c.names_of-names.ensures in
    let len : length c.args.children ≡ 8 = omega arith in
    let q =
    asks c.args.self.now c.args.level names c.args.children e len c.requires.level.0 c.requires.level.1 c.requires.some c.requires.below c.requires.held in
    let r = held_under c.args.self.now.told.held names c.args.children row e a in
    node_added c.args.self.now c.add.new.self c.seek-sought.result c.in-Ok.share _ c.args.level names row st q c.seek-sought.ensures.level c.seek-sought.ensures.key c.in-Ok.ensures.adds r

pub returns-in-Ok-clause-grants : goal.returns-in-Ok-clause-grants
returns-in-Ok-clause-grants g c row a =
    let st = c.number-number.ensures.store in
    let names = c.names_of-names.result in
    let e = c.names_of-names.ensures in
    let len : length c.args.children ≡ 8 = omega arith in
    let q =
    asks c.args.self.now c.args.level names c.args.children e len c.requires.level.0 c.requires.level.1 c.requires.some c.requires.below c.requires.held in
    let r = held_under c.args.self.now.told.held names c.args.children row e a in
    node_grants c.args.self.now c.add.new.self c.seek-sought.result c.in-Ok.share _ c.args.level names row st q c.seek-sought.ensures.level c.seek-sought.ensures.key c.in-Ok.ensures.adds r

pub returns-in-Ok-clause-hit : goal.returns-in-Ok-clause-hit
returns-in-Ok-clause-hit g c row a m h =
    let st = c.number-number.ensures.store in
    let names = c.names_of-names.result in
    let e = c.names_of-names.ensures in
    let len : length c.args.children ≡ 8 = omega arith in
    let q =
    asks c.args.self.now c.args.level names c.args.children e len c.requires.level.0 c.requires.level.1 c.requires.some c.requires.below c.requires.held in
    let r = held_under c.args.self.now.told.held names c.args.children row e a in
    absurd (node_missed c.args.self.now c.seek-sought.result m _ c.args.level names row st q c.seek-sought.ensures.level c.seek-sought.ensures.key (c.in-None.ensures.none refl) r h)

pub returns-in-Err-clause-hit : goal.returns-in-Err-clause-hit
returns-in-Err-clause-hit g c row a m h =
    let st = c.number-number.ensures.store in
    let names = c.names_of-names.result in
    let e = c.names_of-names.ensures in
    let len : length c.args.children ≡ 8 = omega arith in
    let q =
    asks c.args.self.now c.args.level names c.args.children e len c.requires.level.0 c.requires.level.1 c.requires.some c.requires.below c.requires.held in
    let r = held_under c.args.self.now.told.held names c.args.children row e a in
    absurd (node_missed c.args.self.now c.seek-sought.result m _ c.args.level names row st q c.seek-sought.ensures.level c.seek-sought.ensures.key (c.in-None.ensures.none refl) r h)

pub returns-in-Err-clause-full : goal.returns-in-Err-clause-full
returns-in-Err-clause-full g c row a =
    let st = c.number-number.ensures.store in
    let names = c.names_of-names.result in
    let e = c.names_of-names.ensures in
    let len : length c.args.children ≡ 8 = omega arith in
    let q =
    asks c.args.self.now c.args.level names c.args.children e len c.requires.level.0 c.requires.level.1 c.requires.some c.requires.below c.requires.held in
    let r = held_under c.args.self.now.told.held names c.args.children row e a in
    node_met c.args.self.now c.add.new.self c.seek-sought.result _ c.args.level _ _ names row st c.seek-sought.ensures.sought q c.seek-sought.ensures.level c.seek-sought.ensures.key c.in-Err.ensures.meets c.in-Err.ensures.full.0 c.in-Err.ensures.full.1 r

pub returns-in-Some-clause-shared : goal.returns-in-Some-clause-shared
returns-in-Some-clause-shared g c m h =
    let st = c.number-number.ensures.store in
    let key = c.seek-sought.ensures.key ∙ ap Node c.names_of-names.ensures in
    let level =
    node_level_of c.args.self.now _ c.args.level c.args.children m st c.requires.below c.requires.some h in
    joins_found c.args.self.now c.raise-share.new.self c.release_row.new.self c.seek-sought.result c.in-Some.n m c.raise-share.result _ c.args.level c.tick.new.self c.release_row.new.steps _ _ st c.seek-sought.ensures.level key c.in-Some.ensures.found c.raise-share.ensures.raises c.release_row.ensures c.raise-share.ensures.share h level

pub returns-in-Some-clause-added : goal.returns-in-Some-clause-added
returns-in-Some-clause-added g c missing =
    let key = c.seek-sought.ensures.key ∙ ap Node c.names_of-names.ensures in
    absurd (found_not_missing c.args.self.now c.seek-sought.result c.in-Some.n c.args.level _ c.seek-sought.ensures.level key c.in-Some.ensures.found missing)

pub returns-in-Ok-clause-shared : goal.returns-in-Ok-clause-shared
returns-in-Ok-clause-shared g c m h =
    let st = c.number-number.ensures.store in
    let key = c.seek-sought.ensures.key ∙ ap Node c.names_of-names.ensures in
    let level =
    node_level_of c.args.self.now _ c.args.level c.args.children m st c.requires.below c.requires.some h in
    absurd (missing_no_entry c.args.self.now c.seek-sought.result m c.args.level _ c.seek-sought.ensures.level key (c.in-None.ensures.none refl) h level)

pub returns-in-Err-clause-shared : goal.returns-in-Err-clause-shared
returns-in-Err-clause-shared g c m h =
    let st = c.number-number.ensures.store in
    let key = c.seek-sought.ensures.key ∙ ap Node c.names_of-names.ensures in
    let level =
    node_level_of c.args.self.now _ c.args.level c.args.children m st c.requires.below c.requires.some h in
    absurd (missing_no_entry c.args.self.now c.seek-sought.result m c.args.level _ c.seek-sought.ensures.level key (c.in-None.ensures.none refl) h level)

pub returns-in-Ok-clause-added : goal.returns-in-Ok-clause-added
returns-in-Ok-clause-added g c missing =
    let key = c.seek-sought.ensures.key ∙ ap Node c.names_of-names.ensures in
    adds_entry c.args.self.now c.add.new.self c.seek-sought.result c.in-Ok.share c.args.level _ c.seek-sought.ensures.sought c.seek-sought.ensures.level key c.in-Ok.ensures.adds

pub returns-in-Err-clause-added : goal.returns-in-Err-clause-added
returns-in-Err-clause-added g c missing =
    let key = c.seek-sought.ensures.key ∙ ap Node c.names_of-names.ensures in
    finds_full c.args.self.now c.add.new.self c.seek-sought.result c.args.level c.in-Err.full.bucket _ c.seek-sought.ensures.sought c.seek-sought.ensures.level key c.in-Err.ensures.full.1 c.in-Err.ensures.meets

pub returns-in-Ok-clause-rests : goal.returns-in-Ok-clause-rests
returns-in-Ok-clause-rests g c =
    let st = c.number-number.ensures.store in
    let names = c.names_of-names.result in
    let e = c.names_of-names.ensures in
    let len : length c.args.children ≡ 8 = omega arith in
    let q =
    asks c.args.self.now c.args.level names c.args.children e len c.requires.level.0 c.requires.level.1 c.requires.some c.requires.below c.requires.held in
    let holds =
    sought_holds c.args.self.now _ c.seek-sought.result c.args.level names st q c.seek-sought.ensures.level c.seek-sought.ensures.key in
    adds_spare c.args.self.now c.add.new.self c.seek-sought.result c.in-Ok.share _ st c.seek-sought.ensures.sought (c.in-None.ensures.none refl) holds c.in-Ok.ensures.adds
