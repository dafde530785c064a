use Rattle.std.proofs.Common.{◌≡◌, ◌-◌, ◌^◌, ◌∙◌, ap, sym, subst, arith, ℕ, Option}
use Rattle.std.specs.Prelude.{◌↔◌, IsTrue}
use Rattle.vw_cell.specs.Places.{block_side}
use Rattle.node_words.specs.declared.shapes.names.Name.{Name}
use Rattle.history_model.specs.Making.{MayMake}
use Rattle.core_laws.specs.contents.Aligned.{top}
use Rattle.core_laws.proofs.OfContents.WorldBlocks.{world_wide}
use Rattle.world_core.specs.Reads.{keys_in}
use Rattle.world_core.specs.Kept.{stored}
use Rattle.world_core.specs.Shown.{shown_world}
use Rattle.world_core.specs.Stored.{root_in}
use Rattle.world_core.proofs.VersionLaws.{found_root}
use Rattle.world_core.proofs.MadeLaws.{edit_made, made_edit}
use Rattle.world_core.proofs.parts.Parts.is_edited.Goals as goal

pub makes-requires-clause-wide : goal.makes-requires-clause-wide
makes-requires-clause-wide c =
    let side : ℕ = c.args.self.now.plan.side in
    let level : c.root_level-level.result ≡ top side =
    c.root_level-level.ensures.value ∙ ap (λ (k : ℕ). k - 2) c.side.ensures.value in
    c.cells-cells.ensures.value ∙ ap (λ (k : ℕ). 2 ^ k) c.side-2.ensures.value
    ∙ sym (world_wide side c.requires.stored.plan.side_low)
    ∙ ap (λ (k : ℕ). block_side k) (sym level)

pub returns : goal.returns
returns c =
    let s = stored c.args.self.now in
    let side : ℕ = c.args.self.now.plan.side in
    let act = c.args.act.now in
    let root = c.args.root in
    let level : c.root_level-level.result ≡ top side =
    c.root_level-level.ensures.value ∙ ap (λ (k : ℕ). k - 2) c.side.ensures.value in
    let few = c.requires.stored.sound.versions.legal.few in
    let its =
    found_root s.roots c.count.result c.index-head.result.now
    (omega (arith, c.requires.stored.places, few, c.count.ensures)) c.index-head.ensures
    ∙ ap (λ (k : ℕ). root_in s.roots k) c.count.ensures in
    let one =
    subst (λ (l : ℕ). IsTrue c.makes.result
    ↔ MayMake (2 ^ side) s.models act
    (shown_world (keys_in s.entries) l c.index-head.result.now)
    (shown_world (keys_in s.entries) l root)) level c.makes.ensures in
    let two =
    subst (λ (o : Option Name). IsTrue c.makes.result
    ↔ MayMake (2 ^ side) s.models act (shown_world (keys_in s.entries) (top side) o)
    (shown_world (keys_in s.entries) (top side) root)) its one in (
      λ t. edit_made s act root c.requires.stored c.requires.fits c.requires.edit (two.0 t),
      λ made. two.1 (made_edit s act root c.requires.stored c.requires.fits c.requires.edit made),
    )
