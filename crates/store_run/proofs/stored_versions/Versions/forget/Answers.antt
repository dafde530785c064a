use Rattle.std.proofs.Common.{refl}
use Rattle.store_run.proofs.Logging.{marked_are, marked_over, taken_tree, taken_few, taken_same, marks_version}
use Rattle.store_run.proofs.stored_versions.Versions.forget.Goals as goal

pub give_back-requires-clause-are : goal.give_back-requires-clause-are
give_back-requires-clause-are g c =
    marked_are c.args.self.now c.take_root-root.new.self c.args.mark c.take_root-root.result c.number-number.result c.requires.are c.number-number.ensures.store
    c.requires.kept c.requires.earlier c.requires.now c.take_root-root.ensures.event _ c.take_root-root.ensures.gives c.take_root-root.ensures.root
    refl refl refl refl refl refl refl

pub give_back-requires-clause-holds : goal.give_back-requires-clause-holds
give_back-requires-clause-holds g c =
    taken_tree c.args.self.now c.take_root-root.new.self c.args.mark c.take_root-root.result c.number-number.result c.requires.are c.number-number.ensures.store
    c.requires.kept c.requires.earlier c.requires.now c.take_root-root.ensures.event
    (marked_over c.args.self.now c.take_root-root.new.self c.args.mark)
    c.take_root-root.ensures.gives c.take_root-root.ensures.root refl refl refl refl refl refl refl

pub returns-clause-marks : goal.returns-clause-marks
returns-clause-marks g c =
    marks_version c.args.self.now c.take_root-root.new.self c.args.mark c.take_root-root.result c.number-number.result c.requires.are c.number-number.ensures.store
    c.requires.kept c.requires.earlier c.requires.now c.take_root-root.ensures.event
    (marked_over c.args.self.now c.take_root-root.new.self c.args.mark)
    c.take_root-root.ensures.gives c.take_root-root.ensures.root refl refl refl refl refl refl refl
    c.give_back.new.self c.give_back.ensures.puts.leaves

pub give_back-requires-clause-few : goal.give_back-requires-clause-few
give_back-requires-clause-few g c =
    taken_few c.args.self.now c.take_root-root.new.self c.args.mark c.take_root-root.result c.number-number.result c.requires.are c.number-number.ensures.store
    c.requires.kept c.requires.earlier c.requires.now c.take_root-root.ensures.event
    (marked_over c.args.self.now c.take_root-root.new.self c.args.mark)
    c.take_root-root.ensures.gives c.take_root-root.ensures.root refl refl refl refl refl refl refl
    c.requires.few

pub returns-clause-same : goal.returns-clause-same
returns-clause-same g c =
    taken_same c.args.self.now c.take_root-root.new.self c.args.mark c.take_root-root.result c.number-number.result c.requires.are c.number-number.ensures.store
    c.requires.kept c.requires.earlier c.requires.now c.take_root-root.ensures.event
    (marked_over c.args.self.now c.take_root-root.new.self c.args.mark)
    c.take_root-root.ensures.gives c.take_root-root.ensures.root refl refl refl refl refl refl refl
    c.give_back.new.self c.give_back.ensures.puts

pub returns-clause-plain : goal.returns-clause-plain
returns-clause-plain g c plainly =
    c.give_back.ensures.plain (record {
      stored =
          marked_are c.args.self.now c.take_root-root.new.self c.args.mark c.take_root-root.result c.number-number.result c.requires.are c.number-number.ensures.store
          c.requires.kept c.requires.earlier c.requires.now c.take_root-root.ensures.event
          (marked_over c.args.self.now c.take_root-root.new.self c.args.mark)
          c.take_root-root.ensures.gives c.take_root-root.ensures.root refl refl refl refl refl refl refl;
      plain = plainly.plain;
    })
