use Rattle.std.proofs.Common.{rules}
use Rattle.dag_file.proofs.VersionLaws.{newest_told}
use Rattle.dag_file.proofs.views.DagView.newest.Goals as goal

pub returns : goal.returns
returns c =
    newest_told c.self.inside.bytes.now c.self.inside.parts.starts c.self.inside.parts.side
    c.self.inside.parts.versions c.number_of.result c.args.self.now c.self.invariant c.self.view_is
    (search rules) c.number_of.ensures
