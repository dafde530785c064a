use Rattle.std.proofs.Common.{◌∙◌, sym}
use Rattle.world_core.specs.Kept.{stored}
use Rattle.world_core.proofs.MadeLaws.{gone_below, gone_follows, follows_unmarked, target_goes, other_made, made_other}
use Rattle.world_core.proofs.parts.Parts.is_gone_to.Goals as goal

pub is_kept_root-requires-clause-there : goal.is_kept_root-requires-clause-there
is_kept_root-requires-clause-there c =
    gone_below (stored c.args.self.now) c.args.act.now c.requires.stored c.requires.other c.in-Some.target (sym c.in_ok-target.ensures ∙ c.in-Some.is)

pub returns : goal.returns
returns c =
    let s = stored c.args.self.now in
    let act = c.args.act.now in
    let v = c.in-Some.target in
    let at = sym c.in_ok-target.ensures ∙ c.in-Some.is in
    let there = gone_below s act c.requires.stored c.requires.other v at in
    let goes = target_goes s.log.records act v at in (
      λ t. (let h = c.is_kept_root.ensures.0 t in
          other_made s act c.args.root c.requires.stored v c.requires.other
          (record { there = there; unmarked = h.0 })
          (gone_follows s act c.requires.stored c.requires.other v at h.0) goes h.1),
      λ made. (let free = follows_unmarked s act c.requires.stored c.requires.other v at made.follows in
          c.is_kept_root.ensures.1 (
            free,
            made_other s act c.args.root c.requires.stored v c.requires.other
                (record { there = there; unmarked = free }) goes c.requires.live made,
          )),
    )
