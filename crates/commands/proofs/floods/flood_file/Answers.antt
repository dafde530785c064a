use Rattle.std.proofs.Common.{rules, [], ◌∷◌}
use Rattle.vw_io.specs.Inputs.{AreTaken}
use Rattle.commands.specs.Floods.{FloodsText}
use Rattle.commands.specs.Meanings.{file_in}
use Rattle.commands.specs.Putting.{StopsAmong}
use Rattle.commands.specs.Inputs.{vox_input}
use Rattle.commands.proofs.Flooding.{region_output, flood_stopped}
use Rattle.commands.proofs.floods.flood_file.Goals as goal

pub returns : goal.returns
returns g c = record {
  outcome = (let asked = c.args.order.now in
      let texts = c.in-Ok.texts.items in
      let region = c.in-Ok-region_of_text.region in
      let r = c.in-Err-put_out.refused in
      let old = g.S.Shelf.state c.args.shelf.now in
      let mid = g.S.Shelf.state c.read_all.new.shelf in
      let new = g.S.Shelf.state c.put_out.new.shelf in
      let taken : AreTaken old.files (vox_input asked.file ∷ []) texts = search rules in
      let floods : FloodsText asked (file_in texts) region.cells region.file.items = search rules in
      let stops : StopsAmong r (region_output asked region.file.items) mid new = search rules in
      flood_stopped asked texts region.cells region.file.items r old mid new taken floods
      c.in-Ok.ensures.unchanged c.in-Ok.ensures.never_falls stops);
}
