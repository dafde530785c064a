use Rattle.dag_file.proofs.HeaderLaws.{header_put}
use Rattle.dag_file.proofs.putting.put_header.Goals as goal

pub returns : goal.returns
returns c =
    header_put c.args.side c.args.versions c.args.counts.now _ _ _ _ c.in_ok-extend_from_slice.ensures.items c.in_ok-put_numbers.ensures c.in_ok-put_numbers-2.ensures
