-- A command that came to its end did so as one of all.
use Rattle.requests.specs.declared.orders.Request.{Request}
use Rattle.script_files.specs.declared.tallies.Completed.{Completed}
use Rattle.vw_io.specs.Outside.{ShelfState}
use Rattle.std.proofs.Common.{◌≡◌, refl, sym, subst}
use Rattle.script_files.specs.Commands.{meaning_of}
use Rattle.commands.specs.Meanings.{Meaning, told_as}
use Rattle.commands.specs.Outcomes.{Completes}

pub completes_as : {T U : Type 0} (make : T → U) (m : Meaning T) (x : T) (old new : ShelfState)
    → Completes m x old new → Completes (told_as make m) (make x) old new
completes_as make m x old new c = record {
  texts = c.texts;
  taken = c.taken;
  outputs = c.outputs;
  gives = record { own = x; is = refl; given = c.gives };
  whole = c.whole;
  never_falls = c.never_falls;
}

-- the same, of what was asked for and of what was told
pub as_told : (a b : Request) (told made : Completed) (old new : ShelfState) → a ≡ b → told ≡ made
    → Completes (meaning_of b) made old new → Completes (meaning_of a) told old new
as_told a b told made old new of is completes =
    subst (λ (r : Request). Completes (meaning_of r) told old new) (sym of)
    (subst (λ (t : Completed). Completes (meaning_of b) t old new) (sym is) completes)
