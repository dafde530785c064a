use Rattle.core_laws.proofs.OfContents.MarkLaws.{marks_rise, marks_follow, marks_add_one}
use Rattle.core_laws.proofs.contents.laws.marks_leave_logs_legal.Goals as goal

pub returns : goal.returns
returns c = record {
  rising = marks_rise;
  follow = marks_follow;
  unmarked = λ old new mark v comes other. marks_add_one old new mark comes v other;
}
