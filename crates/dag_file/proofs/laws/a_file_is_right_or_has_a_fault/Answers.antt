use Rattle.dag_file.proofs.Decided.{right_or_faulty}
use Rattle.dag_file.proofs.laws.a_file_is_right_or_has_a_fault.Goals as goal

pub returns : goal.returns
returns c = right_or_faulty
