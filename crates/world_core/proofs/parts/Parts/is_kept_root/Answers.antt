use Rattle.std.proofs.Common.{◌∙◌, sym, arith}
use Rattle.world_core.specs.Kept.{stored}
use Rattle.world_core.proofs.VersionLaws.{found_root}
use Rattle.world_core.proofs.parts.Parts.is_kept_root.Goals as goal

pub returns-in-None : goal.returns-in-None
returns-in-None c =
    let s = stored c.args.self.now in
    let few = c.requires.stored.sound.versions.legal.few in
    let its =
    found_root s.roots c.args.version c.index-found.result.now
    (omega (arith, c.requires.stored.places, few, c.requires.there)) c.index-found.ensures in (
      λ t. (c.in-None.ensures, c.is_same_root.ensures.0 t ∙ its),
      λ h. c.is_same_root.ensures.1
          (h.1 ∙ sym its),
    )
