-- Where a tinted act lies that was spelled: its plain act lies in the world, and takes the tint.
use Rattle.std.specs.Prelude.{◌≡◌, ℕ, ◌/◌, ◌^◌, true, Option, Some, None}
use Rattle.std.proofs.Common.{sym, subst}
use Rattle.history_model.specs.declared.acts.Act.{Act}
use Rattle.history_model.specs.declared.spelling.Spelled.{Spelled}
use Rattle.history_model.specs.declared.spelling.Spelled.TheVariants.{Fill, Erase, Ball, Carve, Copy, Stamp, Undo, Redo}
use Rattle.history_model.specs.declared.spelling.SpelledTint.{SpelledTint}
use Rattle.history_model.specs.Reach.{ActLiesIn, TakesTint, GivesWhere}
use Rattle.history_model.specs.Spelling.{tinted_act}
use Rattle.history_model.specs.Spelled.{act_of, spelled_act}

lies_without : (n c : ℕ) (s : Spelled) → ActLiesIn n (tinted_act c (act_of s))
    → ActLiesIn (n / 4) (act_of s) × TakesTint c (act_of s)
lies_without n c (Fill at size) lies = lies
lies_without n c (Erase at size) lies = (lies, tt)
lies_without n c (Ball centre radius) lies = ((lies.0, lies.1), lies.2)
lies_without n c (Carve centre radius) lies = (lies, tt)
lies_without n c (Copy at size to) lies = (lies, tt)
lies_without n c (Stamp m at) lies = (lies, tt)
lies_without n c Undo lies = (tt, tt)
lies_without n c Redo lies = (tt, tt)

lies_with : (n c : ℕ) (s : Spelled) → ActLiesIn (n / 4) (act_of s) → TakesTint c (act_of s)
    → ActLiesIn n (tinted_act c (act_of s))
lies_with n c (Fill at size) lies takes = (lies, takes)
lies_with n c (Erase at size) lies takes = lies
lies_with n c (Ball centre radius) lies takes = (lies.0, lies.1, takes)
lies_with n c (Carve centre radius) lies takes = lies
lies_with n c (Copy at size to) lies takes = lies
lies_with n c (Stamp m at) lies takes = lies
lies_with n c Undo lies takes = tt
lies_with n c Redo lies takes = tt

module _ (side world : ℕ) (s : SpelledTint) (quarter : 2 ^ world ≡ 2 ^ side / 4) where
  pub placed_none : (ActLiesIn (2 ^ world) (act_of s.act) → ⊥)
      → ActLiesIn (2 ^ side) (spelled_act true s) → ⊥
  placed_none none lies =
      none (subst (λ (n : ℕ). ActLiesIn n (act_of s.act)) (sym quarter)
      (lies_without (2 ^ side) s.tint s.act lies).0)

  by_tint : (r : Option Act) → ActLiesIn (2 ^ world) (act_of s.act)
      → GivesWhere (TakesTint s.tint (act_of s.act)) (tinted_act s.tint (act_of s.act)) r
      → GivesWhere (ActLiesIn (2 ^ side) (spelled_act true s)) (spelled_act true s) r
  by_tint None lies none = λ whole. none (lies_without (2 ^ side) s.tint s.act whole).1
  by_tint (Some r) lies is = (
    lies_with (2 ^ side) s.tint s.act
        (subst (λ (n : ℕ). ActLiesIn n (act_of s.act)) quarter lies) is.0,
    is.1,
  )

  pub placed_some : (act : Act) (r : Option Act) → act ≡ act_of s.act
      → ActLiesIn (2 ^ world) (act_of s.act)
      → GivesWhere (TakesTint s.tint act) (tinted_act s.tint act) r
      → GivesWhere (ActLiesIn (2 ^ side) (spelled_act true s)) (spelled_act true s) r
  placed_some act r same lies gives =
      by_tint r lies
      (subst (λ (a : Act). GivesWhere (TakesTint s.tint a) (tinted_act s.tint a) r) same gives)
