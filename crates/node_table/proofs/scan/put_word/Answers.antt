use Rattle.node_table.proofs.Writing.{word_stored}
use Rattle.node_table.proofs.scan.put_word.Goals as goal

pub returns-then-look_key-new : goal.returns-then-look_key-new
returns-then-look_key-new c =
    let l = c.look_key in
    word_stored c.args.seat.now l.new.seat c.args.name c.args.word c.args.new l.ensures.learns
    c.put_key.new.seat c.put_key.ensures.same c.put_key.ensures.view
