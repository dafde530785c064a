use Rattle.std.proofs.Common.{sym, ◌∙◌}
use Rattle.store_run.proofs.Holding.{same_held}
use Rattle.store_run.proofs.Keeping.{unkept_fell, kept_fell}
use Rattle.store_run.proofs.stored_versions.Versions.forget_fallen.Goals as goal

pub returns-in-NotThere : goal.returns-in-NotThere
returns-in-NotThere g c = record {
  are = c.requires.are;
  falls =
      unkept_fell c.args.self.now c.args.session c.args.line c.args.keep c.moment-at.result c.moment-at.ensures.value c.in-Some.version c.find.result
      (sym c.falls_out.ensures ∙ c.in-Some.is) c.in-NotThere.is c.find.ensures;
  same = same_held c.args.self.now.store;
}

pub returns-in-Kept-clause-falls : goal.returns-in-Kept-clause-falls
returns-in-Kept-clause-falls g c =
    kept_fell c.args.self.now c.args.session c.args.line c.args.keep c.moment-at.result c.moment-at.ensures.value c.forget.new.self c.in-Some.version
    (sym c.falls_out.ensures ∙ c.in-Some.is) c.forget.ensures.marks
