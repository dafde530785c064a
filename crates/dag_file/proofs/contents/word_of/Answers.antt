use Rattle.std.proofs.Common.{rules}
use Rattle.dag_file.proofs.IndexLaws.{named_found, named_missed}
use Rattle.dag_file.proofs.contents.word_of.Goals as goal

pub returns-in-Ok : goal.returns-in-Ok
returns-in-Ok c =
    record { slot = search rules; word = named_found c.args.keys.now c.args.indices.now c.args.child c.in-Some.n _ c.in-Ok.j c.in-Some.is c.key_of-key.ensures.key c.requires.rises c.in-Ok.ensures.position }

pub returns-in-Err : goal.returns-in-Err
returns-in-Err c =
    record { slot = search rules; word = named_missed c.args.keys.now c.args.indices.now c.args.child c.in-Some.n _ c.in-Err.field-0 c.in-Some.is c.key_of-key.ensures.key c.requires.rises c.in-Err.ensures.position }
