use Rattle.std.proofs.Common.{refl, sym, subst}
use Rattle.node_words.specs.Held.{StoreState, HoldsName}
use Rattle.node_words.proofs.HeldLaws.{gains_holds}
use Rattle.tests_core.proofs.stores.files.leaf_file.Goals as goal

pub file_under-file-requires-clause-held : goal.file_under-file-requires-clause-held
file_under-file-requires-clause-held g c =
    gains_holds _ _ _ c.in_ok-share.share c.in_ok-share.ensures.held refl

pub back-requires-clause-held : goal.back-requires-clause-held
back-requires-clause-held g c =
    subst (λ (s : StoreState). HoldsName s.held c.in_ok-share.share) (sym c.file_under-file.ensures)
    (gains_holds _ _ _ c.in_ok-share.share c.in_ok-share.ensures.held refl)
