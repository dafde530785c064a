use Rattle.std.proofs.Common.{refl}
use Rattle.one_store.proofs.TraitLaws.{leaf_holds, leaf_count, leaf_found, leaf_hit, leaf_missed, leaf_added, leaf_met, if_ok, if_errs}
use Rattle.one_store.proofs.CallLaws.{shares_found, leaf_level_of, missing_no_entry, found_not_missing, match_result, adds_entry, finds_full}
use Rattle.one_store.proofs.SpareLaws.{adds_spare, meets_spare, result_spares}
use Rattle.one_store.proofs.traits.OneStoreNodeStore.leaf.Goals as goal

pub add-requires-clause-held : goal.add-requires-clause-held
add-requires-clause-held g c = leaf_holds c.args.self.now _ c.args.bits _ c.seek-sought.ensures.key

pub add-requires-clause-children : goal.add-requires-clause-children
add-requires-clause-children g c = leaf_count _ c.args.bits c.seek-sought.ensures.key

pub returns-in-Some-clause-held : goal.returns-in-Some-clause-held
returns-in-Some-clause-held g c =
    leaf_found c.args.self.now c.raise.new.self c.seek-sought.result c.in-Some.n c.raise.result c.args.bits _ c.number-number.ensures.store c.seek-sought.ensures.level c.seek-sought.ensures.key c.in-Some.ensures.found c.raise.ensures.raises c.raise.ensures.share

pub returns-in-Some-clause-hit : goal.returns-in-Some-clause-hit
returns-in-Some-clause-hit g c m r =
    leaf_hit c.args.self.now c.raise.new.self c.seek-sought.result c.in-Some.n m c.raise.result c.args.bits _ c.number-number.ensures.store c.seek-sought.ensures.level c.seek-sought.ensures.key c.in-Some.ensures.found c.raise.ensures.raises c.raise.ensures.share r

pub returns-in-None-clause-held : goal.returns-in-None-clause-held
returns-in-None-clause-held g c =
    if_ok c.add.result
    (λ n a. leaf_added c.args.self.now c.add.new.self c.seek-sought.result n c.args.bits c.seek-sought.ensures.level c.seek-sought.ensures.key a) c.add.ensures.adds

pub returns-in-None-clause-hit : goal.returns-in-None-clause-hit
returns-in-None-clause-hit g c m r =
    absurd
    (leaf_missed c.args.self.now c.seek-sought.result m c.args.bits _ c.number-number.ensures.store c.seek-sought.ensures.level c.seek-sought.ensures.key (c.in-None.ensures.none refl) r)

pub returns-in-None-clause-full : goal.returns-in-None-clause-full
returns-in-None-clause-full g c =
    if_errs c.add.result
    (λ e m f. leaf_met c.args.self.now c.add.new.self c.seek-sought.result e.level e.bucket c.args.bits c.seek-sought.ensures.sought m f.0 f.1 c.seek-sought.ensures.level c.seek-sought.ensures.key)
    c.add.ensures.meets c.add.ensures.full

pub returns-in-Some-clause-shared : goal.returns-in-Some-clause-shared
returns-in-Some-clause-shared g c m h =
    let st = c.number-number.ensures.store in
    shares_found c.args.self.now c.raise.new.self c.seek-sought.result c.in-Some.n m c.raise.result _ 0 _ st c.seek-sought.ensures.level c.seek-sought.ensures.key c.in-Some.ensures.found c.raise.ensures.raises c.raise.ensures.share h (leaf_level_of c.args.self.now _ c.args.bits m st h)

pub returns-in-Some-clause-added : goal.returns-in-Some-clause-added
returns-in-Some-clause-added g c missing =
    absurd
    (found_not_missing c.args.self.now c.seek-sought.result c.in-Some.n 0 _ c.seek-sought.ensures.level c.seek-sought.ensures.key c.in-Some.ensures.found missing)

pub returns-in-None-clause-shared : goal.returns-in-None-clause-shared
returns-in-None-clause-shared g c m h =
    absurd (missing_no_entry c.args.self.now c.seek-sought.result m 0 _ c.seek-sought.ensures.level c.seek-sought.ensures.key (c.in-None.ensures.none refl) h (leaf_level_of c.args.self.now _ c.args.bits m c.number-number.ensures.store h))

pub returns-in-None-clause-added : goal.returns-in-None-clause-added
returns-in-None-clause-added g c missing =
    match_result c.add.result
    (λ n a. adds_entry c.args.self.now c.add.new.self c.seek-sought.result n 0 _ c.seek-sought.ensures.sought c.seek-sought.ensures.level c.seek-sought.ensures.key a)
    (λ e m f. finds_full c.args.self.now c.add.new.self c.seek-sought.result 0 e.bucket _ c.seek-sought.ensures.sought c.seek-sought.ensures.level c.seek-sought.ensures.key f.1 m)
    c.add.ensures.adds c.add.ensures.meets c.add.ensures.full

pub returns-in-None-clause-rests : goal.returns-in-None-clause-rests
returns-in-None-clause-rests g c =
    let holds = leaf_holds c.args.self.now _ c.args.bits _ c.seek-sought.ensures.key in
    result_spares c.add.result
    (λ n a. adds_spare c.args.self.now c.add.new.self c.seek-sought.result n _ c.number-number.ensures.store c.seek-sought.ensures.sought (c.in-None.ensures.none refl) holds a)
    (λ e m. meets_spare c.args.self.now c.add.new.self c.seek-sought.result m)
    c.add.ensures.adds c.add.ensures.meets
