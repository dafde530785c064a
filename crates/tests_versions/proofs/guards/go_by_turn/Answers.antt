use Rattle.std.proofs.Common.{rules, ◌≡◌, Option, Some, List, refl, sym, ap, ◌∙◌, subst, arith}
use Rattle.node_words.specs.shapes.Tree.{Tree}
use Rattle.node_words.specs.declared.shapes.names.Name.{Name}
use Rattle.node_words.specs.Held.{HoldsName}
use Rattle.table_rule.specs.Views.{SeatView}
use Rattle.tests_versions.proofs.HoldingLaws.{fell_few, fell_named, few_behind, few_left, few_held, gets_named, gets_still, gone_taken, kept_root, spare_behind, taken_spare}
use Rattle.version_log.proofs.UndoLaws.{target_made}
use Rattle.tests_versions.proofs.guards.go_by_turn.Goals as goal

named_behind : (held was : List Tree) (root : Option Name) → held ≡ was
    → ((n : Name) → root ≡ Some n → HoldsName was n) → (n : Name) → root ≡ Some n
    → HoldsName held n
named_behind held was root same has n is =
    subst (λ (ts : List Tree). HoldsName ts n) (sym same) (has n is)

pub keep-root-requires-clause-room : goal.keep-root-requires-clause-room
keep-root-requires-clause-room g c =
    let few = few_held _
    (ap (λ (x : SeatView). x.held) c.in_default-mark.ensures.looks.is
    ∙ ap (λ (x : SeatView). x.held) c.target-to.ensures.learns.is
    ∙ ap (λ (x : SeatView). x.held) c.sure-turn.ensures.takes.is ∙ c.requires.spare.held) in
    omega arith

pub finish-requires-clause-room : goal.finish-requires-clause-room
finish-requires-clause-room g c =
    let few = few_left _ _ _ _
    (ap (λ (x : SeatView). x.held) c.in_default-mark.ensures.looks.is
    ∙ ap (λ (x : SeatView). x.held) c.target-to.ensures.learns.is
    ∙ ap (λ (x : SeatView). x.held) c.sure-turn.ensures.takes.is ∙ c.requires.spare.held)
    c.keep-root.ensures.gains refl in omega arith

pub fallen_back-n-requires-clause-held : goal.fallen_back-n-requires-clause-held
fallen_back-n-requires-clause-held g c =
    let made = c.in-Ok.ensures.came in
    let none = ap (λ (x : SeatView). x.held) c.in_default-mark.ensures.looks.is
    ∙ ap (λ (x : SeatView). x.held) c.target-to.ensures.learns.is
    ∙ ap (λ (x : SeatView). x.held) c.sure-turn.ensures.takes.is ∙ c.requires.spare.held in
    let nothing = gone_taken _ made.behind _ _ _ _ _ _ none c.keep-root.ensures.gains refl
    made.appends in
    named_behind _ _ _ (search rules) (fell_named _ _ _ _ _ _ _ made nothing)

pub fallen_back-n-requires-clause-room : goal.fallen_back-n-requires-clause-room
fallen_back-n-requires-clause-room g c =
    let made = c.in-Ok.ensures.came in
    let none = ap (λ (x : SeatView). x.held) c.in_default-mark.ensures.looks.is
    ∙ ap (λ (x : SeatView). x.held) c.target-to.ensures.learns.is
    ∙ ap (λ (x : SeatView). x.held) c.sure-turn.ensures.takes.is ∙ c.requires.spare.held in
    let nothing = gone_taken _ made.behind _ _ _ _ _ _ none c.keep-root.ensures.gains refl
    made.appends in
    few_behind _ _ (search rules) (fell_few _ _ _ _ _ _ _ made nothing)

pub returns-in-Ok : goal.returns-in-Ok
returns-in-Ok g c =
    let made = c.in-Ok.ensures.came in
    let none = ap (λ (x : SeatView). x.held) c.in_default-mark.ensures.looks.is
    ∙ ap (λ (x : SeatView). x.held) c.target-to.ensures.learns.is
    ∙ ap (λ (x : SeatView). x.held) c.sure-turn.ensures.takes.is ∙ c.requires.spare.held in
    let nothing = gone_taken _ made.behind _ _ _ _ _ _ none c.keep-root.ensures.gains refl
    made.appends in
    spare_behind _ _ _ _ _ _ _ _ _ _ made nothing (search rules) c.fallen_back-n.ensures.of
    c.fallen_back-n.ensures.idle c.fallen_back-n.ensures.gone

pub root_back-requires-clause-held : goal.root_back-requires-clause-held
root_back-requires-clause-held g c =
    gets_named _ _ _
    (gets_still _ _ _ _ _ c.keep-root.ensures.gains
    (search rules ∙ c.in-Err-LogFull.ensures.came.kept) (search rules))

pub root_back-requires-clause-room : goal.root_back-requires-clause-room
root_back-requires-clause-room g c =
    few_left _ _ _ _
    (ap (λ (x : SeatView). x.held) c.in_default-mark.ensures.looks.is
    ∙ ap (λ (x : SeatView). x.held) c.target-to.ensures.learns.is
    ∙ ap (λ (x : SeatView). x.held) c.sure-turn.ensures.takes.is ∙ c.requires.spare.held)
    c.keep-root.ensures.gains (search rules ∙ c.in-Err-LogFull.ensures.came.kept)

pub returns-in-Err-LogFull : goal.returns-in-Err-LogFull
returns-in-Err-LogFull g c =
    taken_spare _ _ _ _ _
    (ap (λ (x : SeatView). x.held) c.in_default-mark.ensures.looks.is
    ∙ ap (λ (x : SeatView). x.held) c.target-to.ensures.learns.is
    ∙ ap (λ (x : SeatView). x.held) c.sure-turn.ensures.takes.is ∙ c.requires.spare.held)
    (gets_still _ _ _ _ _ c.keep-root.ensures.gains
    (search rules ∙ c.in-Err-LogFull.ensures.came.kept) (search rules))
    c.root_back.ensures.gone c.root_back.ensures.of c.root_back.ensures.idle

pub finish-requires-clause-may : goal.finish-requires-clause-may
finish-requires-clause-may g c =
    record {
      fits = search rules;
      target = search rules;
      known = search rules;
      made = target_made _ _ _ _ c.requires.act (search rules)
          (kept_root _ _ _ _ c.keep-root.ensures.only c.keep-root.ensures.root);
    }
