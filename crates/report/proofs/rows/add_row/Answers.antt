use Rattle.std.proofs.Common.{sym, ap, ◌∙◌}
use Rattle.std.specs.Ordering.{nat_cmp}
use Rattle.std.specs.BTreeMap.{get}
use Rattle.report.proofs.RowLaws.{empty_row, rooted_row}
use Rattle.report.proofs.rows.add_row.Goals.{in-Some+in_ok-first_with-in-Some, in-None}
use Rattle.report.proofs.rows.add_row.Goals as goal

pub returns : goal.returns
returns c log root_of at kept rows firsts = elim c.match-name.branch [
  | in-Some+in_ok-first_with-in-Some w ↦
      rooted_row log root_of c.args.root.version c.args.rows.now.items
      (get nat_cmp c.args.firsts.now) kept rows firsts c.push.new.self.items
      (get nat_cmp c.match-name.firsts) c.match-name.first w.in-Some.n _
      (sym at ∙ w.in-Some.is) w.first_with.ensures.bucket w.first_with.ensures.slot w.first-is w.in_ok-first_with-in-Some.ensures.first
      (λ k. ap (λ m. get nat_cmp m k) w.firsts-is
      ∙ w.in_ok-first_with-in-Some.ensures.listed k) c.in_ok-push.ensures.items
  | in-None w ↦
      empty_row log root_of c.args.root.version c.args.rows.now.items
      (get nat_cmp c.args.firsts.now) kept rows firsts c.push.new.self.items
      (get nat_cmp c.match-name.firsts) c.match-name.first
      (sym at ∙ w.in-None.is) w.first-is
      (ap (get nat_cmp) w.firsts-is) c.in_ok-push.ensures.items
]
