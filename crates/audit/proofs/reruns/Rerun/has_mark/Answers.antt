use Rattle.std.proofs.Common.{◌≡◌, ◌∙◌, sym, ap, Option, None, List, slice_index_or}
use Rattle.history_model.specs.declared.histories.Mark.{Mark}
use Rattle.audit.proofs.Recalling.{mark_rerun}
use Rattle.audit.proofs.reruns.Rerun.has_mark.Goals as goal

pub returns : goal.returns
returns g c =
    let found : c.mark_of.result ≡ slice_index_or c.args.self.now.table.items c.args.version None =
    c.mark_of.ensures
    ∙ ap (λ (t : List
    (Option Mark)). slice_index_or t c.args.version None) c.as_slice.ensures.value in
    let by = mark_rerun c.args.log.now c.args.self.now.replay c.args.self.now.ways.items
    c.args.self.now.table.items c.args.version c.args.n c.args.session c.args.line c.requires in
    (λ t. by.0 (sym found ∙ c.is_mark.ensures.0 t), λ l. c.is_mark.ensures.1 (found ∙ by.1 l))
