use Rattle.std.proofs.Common.{rules, refl, ap, ◌∙◌, arith}
use Rattle.table_rule.specs.Views.{SeatView}
use Rattle.tests_versions.proofs.HoldingLaws.{fell_few, fell_named, fell_nothing, few_left, few_held, gets_named, gets_still, gone_taken, kept_root, spare_again, taken_spare}
use Rattle.version_log.proofs.UndoLaws.{target_made}
use Rattle.tests_versions.proofs.calls.go_keeping.Goals as goal

pub keep_version-root-requires-clause-room : goal.keep_version-root-requires-clause-room
keep_version-root-requires-clause-room g c =
    let few = few_held _
    (ap (λ (x : SeatView). x.held) c.in_default-log_mark.ensures.looks.is
    ∙ ap (λ (x : SeatView). x.held) c.target-to.ensures.learns.is
    ∙ ap (λ (x : SeatView). x.held) c.take_log.ensures.takes.is ∙ c.requires.spare.held) in
    omega arith

pub finish-requires-clause-room : goal.finish-requires-clause-room
finish-requires-clause-room g c =
    let few = few_left _ _ _ _
    (ap (λ (x : SeatView). x.held) c.in_default-log_mark.ensures.looks.is
    ∙ ap (λ (x : SeatView). x.held) c.target-to.ensures.learns.is
    ∙ ap (λ (x : SeatView). x.held) c.take_log.ensures.takes.is ∙ c.requires.spare.held)
    c.keep_version-root.ensures.gains refl in omega arith

pub fallen_back-n-requires-clause-held : goal.fallen_back-n-requires-clause-held
fallen_back-n-requires-clause-held g c =
    let made = c.in-Ok.ensures.came in
    let none = ap (λ (x : SeatView). x.held) c.in_default-log_mark.ensures.looks.is
    ∙ ap (λ (x : SeatView). x.held) c.target-to.ensures.learns.is
    ∙ ap (λ (x : SeatView). x.held) c.take_log.ensures.takes.is ∙ c.requires.spare.held in
    let nothing = gone_taken _ made.behind _ _ _ _ _ _ none c.keep_version-root.ensures.gains refl
    made.appends in
    fell_named _ _ _ _ _ _ _ made nothing

pub fallen_back-n-requires-clause-room : goal.fallen_back-n-requires-clause-room
fallen_back-n-requires-clause-room g c =
    let made = c.in-Ok.ensures.came in
    let none = ap (λ (x : SeatView). x.held) c.in_default-log_mark.ensures.looks.is
    ∙ ap (λ (x : SeatView). x.held) c.target-to.ensures.learns.is
    ∙ ap (λ (x : SeatView). x.held) c.take_log.ensures.takes.is ∙ c.requires.spare.held in
    let nothing = gone_taken _ made.behind _ _ _ _ _ _ none c.keep_version-root.ensures.gains refl
    made.appends in
    fell_few _ _ _ _ _ _ _ made nothing

pub returns-in-Ok : goal.returns-in-Ok
returns-in-Ok g c =
    let made = c.in-Ok.ensures.came in
    let none = ap (λ (x : SeatView). x.held) c.in_default-log_mark.ensures.looks.is
    ∙ ap (λ (x : SeatView). x.held) c.target-to.ensures.learns.is
    ∙ ap (λ (x : SeatView). x.held) c.take_log.ensures.takes.is ∙ c.requires.spare.held in
    let nothing = gone_taken _ made.behind _ _ _ _ _ _ none c.keep_version-root.ensures.gains refl
    made.appends in
    spare_again _ _ c.fallen_back-n.ensures.of c.fallen_back-n.ensures.idle
    (fell_nothing _ _ _ _ _ _ _ made nothing _ c.fallen_back-n.ensures.gone)

pub root_back-requires-clause-held : goal.root_back-requires-clause-held
root_back-requires-clause-held g c =
    gets_named _ _ _
    (gets_still _ _ _ _ _ c.keep_version-root.ensures.gains c.in-Err-LogFull.ensures.came.kept
    (search rules))

pub root_back-requires-clause-room : goal.root_back-requires-clause-room
root_back-requires-clause-room g c =
    few_left _ _ _ _
    (ap (λ (x : SeatView). x.held) c.in_default-log_mark.ensures.looks.is
    ∙ ap (λ (x : SeatView). x.held) c.target-to.ensures.learns.is
    ∙ ap (λ (x : SeatView). x.held) c.take_log.ensures.takes.is ∙ c.requires.spare.held)
    c.keep_version-root.ensures.gains c.in-Err-LogFull.ensures.came.kept

pub returns-in-Err-LogFull : goal.returns-in-Err-LogFull
returns-in-Err-LogFull g c =
    taken_spare _ _ _ _ _
    (ap (λ (x : SeatView). x.held) c.in_default-log_mark.ensures.looks.is
    ∙ ap (λ (x : SeatView). x.held) c.target-to.ensures.learns.is
    ∙ ap (λ (x : SeatView). x.held) c.take_log.ensures.takes.is ∙ c.requires.spare.held)
    (gets_still _ _ _ _ _ c.keep_version-root.ensures.gains c.in-Err-LogFull.ensures.came.kept
    (search rules))
    c.root_back.ensures.gone c.root_back.ensures.of c.root_back.ensures.idle

pub finish-requires-clause-may : goal.finish-requires-clause-may
finish-requires-clause-may g c =
    record {
      fits = search rules;
      target = search rules;
      known = search rules;
      made = target_made _ _ _ _ c.requires.act (search rules)
          (kept_root _ _ _ _ c.keep_version-root.ensures.only c.keep_version-root.ensures.root);
    }
