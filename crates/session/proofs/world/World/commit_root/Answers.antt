use Rattle.std.proofs.Common.{◌^◌, ap, subst, sym}
use Rattle.history_model.specs.Logs.{FitsWorld}
use Rattle.node_table.specs.TableStates.{TableState}
use Rattle.session.specs.SessionWorlds.{SessionWorld}
use Rattle.session.proofs.AttemptLaws.{rests_committed, same_committed}
use Rattle.session.proofs.CommitLaws.{made_of_head, models_fit}
use Rattle.session.proofs.KeepLaws.{commits_kept}
use Rattle.session.proofs.world.World.commit_root.Goals as goal

pub commit-requires-clause-may : goal.commit-requires-clause-may
commit-requires-clause-may g c =
    record {
      pinned = c.requires.base.pinned;
      head = c.requires.base.head;
      edit = c.requires.may.edit;
      fits = subst (λ (t : TableState). FitsWorld (2 ^ t.plan.side) c.args.s.now.view.models
          c.args.act.now) (sym (ap (λ (w : SessionWorld). w.table) c.self.view_is))
          (models_fit c.args.self.now.table c.args.s.now c.args.act.now c.requires.ready.rest
          c.requires.may.fits);
      made = made_of_head c.args.s.now.view c.args.base.now c.args.act.now _ c.requires.base
          c.requires.may.made;
    }

pub returns-in-Ok-clause-back : goal.returns-in-Ok-clause-back
returns-in-Ok-clause-back g c =
    record {
      rest = rests_committed c.args.self.now.table _ c.args.s.now c.commit.new.pass _ c.args.line
          c.args.act.now _ c.in-Ok.committed (ap (λ (w : SessionWorld). w.table) c.self.view_is)
          c.requires.ready.rest c.in-Ok.ensures.free.of c.in-Ok.ensures.free.idle c.in-Ok.ensures.came.commits;
      same = same_committed c.args.self.now.table _ c.args.s.now c.commit.new.pass _ c.args.line
          c.args.act.now _ c.in-Ok.committed (ap (λ (w : SessionWorld). w.table) c.self.view_is)
          c.requires.ready.rest c.in-Ok.ensures.free.of c.in-Ok.ensures.came.commits;
    }

pub returns-in-Ok-clause-came : goal.returns-in-Ok-clause-came
returns-in-Ok-clause-came g c =
    record {
      number = c.in-Ok.ensures.came.number;
      commits = commits_kept _ c.args.self.now.keep c.args.s.now.view c.commit.new.pass.view c.args.line
          c.args.act.now _ c.in-Ok.committed (ap (λ (w : SessionWorld). w.keep) c.self.view_is)
          c.in-Ok.ensures.came.commits;
    }
