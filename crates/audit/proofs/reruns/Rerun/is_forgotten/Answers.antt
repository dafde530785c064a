use Rattle.std.proofs.Common.{◌≡◌, ◌∙◌, sym, ap, subst, Option, None, List, slice_index_or}
use Rattle.history_model.specs.declared.histories.Mark.{Mark}
use Rattle.audit.specs.Marks.{ForgottenBy}
use Rattle.audit.proofs.Recalling.{forgotten_rerun}
use Rattle.audit.proofs.reruns.Rerun.is_forgotten.Goals as goal

pub returns : goal.returns
returns g c =
    let found : c.mark_of.result ≡ slice_index_or c.args.self.now.table.items c.args.version None =
    c.mark_of.ensures
    ∙ ap (λ (t : List
    (Option Mark)). slice_index_or t c.args.version None) c.as_slice.ensures.value in
    let by = forgotten_rerun c.args.log.now c.args.self.now.replay c.args.self.now.ways.items
    c.args.self.now.table.items c.args.session c.args.line c.args.n c.args.version c.requires in (
      λ t. by.0 (subst
          (λ (m : Option Mark). ForgottenBy m c.args.session c.args.line c.args.n) found
          (c.is_forgotten.ensures.0 t)),
      λ f. c.is_forgotten.ensures.1
          (subst (λ (m : Option Mark). ForgottenBy m c.args.session c.args.line c.args.n)
          (sym found) (by.1 f)),
    )
