use Rattle.std.proofs.Common.{◌≡◌, ◌∙◌, sym, ap, subst, Option, None, List, slice_index_or, arith}
use Rattle.history_model.specs.declared.histories.Mark.{Mark}
use Rattle.audit.specs.Marks.{StandsBy}
use Rattle.audit.proofs.Recalling.{stands_rerun}
use Rattle.audit.proofs.reruns.Rerun.is_readable.Goals as goal

pub returns-then-version-n : goal.returns-then-version-n
returns-then-version-n g c =
    let found : c.mark_of.result ≡ slice_index_or c.args.self.now.table.items c.args.version None =
    c.mark_of.ensures
    ∙ ap (λ (t : List
    (Option Mark)). slice_index_or t c.args.version None) c.as_slice.ensures.value in
    let by = stands_rerun c.args.log.now c.args.self.now.replay c.args.self.now.ways.items
    c.args.self.now.table.items c.args.session c.args.line c.args.n c.args.version c.requires in (
      λ t. record {
        there = omega arith;
        stands = by.0
            (subst (λ (m : Option Mark). StandsBy m c.args.session c.args.line c.args.n) found
            (c.stands.ensures.0 t));
      },
      λ r. c.stands.ensures.1
          (subst (λ (m : Option Mark). StandsBy m c.args.session c.args.line c.args.n) (sym found)
          (by.1 r.stands)),
    )
