use Rattle.std.proofs.Common.{rules, [], ◌∷◌}
use Rattle.vw_io.specs.Inputs.{AreTaken}
use Rattle.commands.specs.Meanings.{file_in}
use Rattle.commands.specs.Putting.{StopsAmong}
use Rattle.commands.specs.Inputs.{vox_input}
use Rattle.commands.specs.Scenes.{PlacesText}
use Rattle.commands.proofs.Placing.{scene_outputs, scene_stopped}
use Rattle.commands.proofs.scene_files.scene_file.Goals as goal

pub returns : goal.returns
returns g c = record {
  outcome = (let asked = c.args.order.now in
      let texts = c.in-Ok.texts.items in
      let placed = c.in-Ok-scene_of_text.placed in
      let r = c.in-Err-put_out.refused in
      let old = g.S.Shelf.state c.args.shelf.now in
      let mid = g.S.Shelf.state c.read_all.new.shelf in
      let new = g.S.Shelf.state c.put_out.new.shelf in
      let taken : AreTaken old.files (vox_input asked.file ∷ []) texts = search rules in
      let places : PlacesText (file_in texts) placed.tally placed.models.items placed.script.items =
      search rules in
      let stops : StopsAmong r (scene_outputs asked placed.models.items placed.script.items) mid new =
      search rules in
      scene_stopped asked texts placed.tally placed.models.items placed.script.items r old mid new
      taken places c.in-Ok.ensures.unchanged c.in-Ok.ensures.never_falls stops);
}
