-- Roots that show what an act makes.
use Rattle.std.proofs.Common.{◌≡◌, ℕ, ◌+◌, ◌-◌, ◌^◌, ◌<◌, ◌≤◌, Bool, true, false, refl, sym, ◌∙◌, ap, subst, arith, inl, inr, Some, None, Option, List, [], ◌∷◌, length}
use Rattle.std.proofs.Common.{Result, Ok, Err}
use Rattle.vw_cell.specs.declared.memory.Memory.{Memory}
use Rattle.std.specs.Prelude.{All, IfOk}
use Rattle.vw_cell.specs.declared.cells.Cell.{Cell}
use Rattle.vw_cell.specs.Places.{IsInWorld}
use Rattle.node_words.specs.declared.shapes.names.Name.{Name}
use Rattle.node_words.specs.shapes.Shape.{Shape, ShowsCells}
use Rattle.node_words.specs.shapes.Shape as shapes
use Rattle.node_words.specs.shapes.Tree.{shape_of}
use Rattle.node_words.proofs.OfShapes.ShowLaws.{shown_once}
use Rattle.node_words.specs.declared.keys.Key.{Key}
use Rattle.history_model.specs.declared.acts.Act.{Act}
use Rattle.history_model.specs.declared.acts.Act.TheVariants.{Fill, Erase, Ball, Carve, Copy, Stamp, Tint, Undo, Redo}
use Rattle.history_model.specs.declared.histories.Record.{Record}
use Rattle.history_model.specs.Logs.{Log, FitsWorld, MayFollow, HasTarget, IsVersionHeld}
use Rattle.history_model.specs.PositionLaws.{names_below}
use Rattle.core_laws.specs.Making.{version_gone_to}
use Rattle.core_laws.specs.contents.Versions.{IsUnmarked}
use Rattle.history_model.specs.LegalLaws.{edit_follows}
use Rattle.history_model.specs.Making.{MayMake}
use Rattle.history_model.specs.Stores.{stored_in}
use Rattle.history_model.proofs.Agreeing.{edited_agree}
use Rattle.history_model.specs.Positions.{position_after, first_of}
use Rattle.history_model.specs.Worlds.{World, is_edit}
use Rattle.core_laws.specs.contents.Aligned.{top, world_block}
use Rattle.core_laws.specs.contents.Versions.{HoldsVersion}
use Rattle.core_laws.proofs.OfContents.WorldBlocks.{in_world, in_block}
use Rattle.core_laws.specs.States.{IsLive, tree_at}
use Rattle.core_laws.proofs.Lives.{root_lives}
use Rattle.core_laws.proofs.LogSteps.{root_in_range}
use Rattle.core_laws.proofs.LiveShapes.{AreLive, shape_once, canonical_at}
use Rattle.world_core.specs.Lawful.{IsRootMade}
use Rattle.world_core.specs.Shown.{target_of, shown_world}
use Rattle.world_core.specs.Stored.{Stored, IsStored, root_in, stored_state}

less_zero : (level : ℕ) (s : Shape) (q : Cell)
    → shapes.has level s (q.x - 0) (q.y - 0) (q.z - 0) ≡ shapes.has level s q.x q.y q.z
less_zero level s q =
    let x : q.x - 0 ≡ q.x = omega arith in
    let y : q.y - 0 ≡ q.y = omega arith in
    let z : q.z - 0 ≡ q.z = omega arith in
    ap (λ (k : ℕ). shapes.has level s k (q.y - 0) (q.z - 0)) x
    ∙ ap (λ (k : ℕ). shapes.has level s q.x k (q.z - 0)) y
    ∙ ap (λ (k : ℕ). shapes.has level s q.x q.y k) z

pub shows_own : (side : ℕ) (key : Name → Key) (root : Option Name)
    → ShowsCells (world_block side) (shape_of (tree_at key (top side) root))
    (shown_world key (top side) root)
shows_own side key root =
    record { each = λ q inside. less_zero (top side) (shape_of (tree_at key (top side) root)) q }

own_cell : (side : ℕ) (key : Name → Key) (root : Option Name) (cells : World) (q : Cell) → 2 ≤ side
    → ShowsCells (world_block side) (shape_of (tree_at key (top side) root)) cells
    → IsInWorld (2 ^ side) q → shown_world key (top side) root q ≡ cells q
own_cell side key root cells q low shows inside =
    sym (less_zero (top side) (shape_of (tree_at key (top side) root)) q)
    ∙ shows.each q (in_block side q low inside)

-- the newest version is kept
pub head_kept : (s : Stored) → IsStored s → HoldsVersion s.log (length s.log.records)
head_kept s is = record {
  there = omega arith;
  unmarked = λ k m lt same. (let dates = is.sound.versions.legal.marked k m lt in
      let before = dates.0 in let late = dates.1 in omega arith);
}

module _ (s : Stored) (act : Act) (root : Option Name) (is : IsStored s) where
  head : World
  head = shown_world (stored_state s).key (top s.plan.side) (root_in s.roots (length s.log.records))

  head_cell : (q : Cell) → IsInWorld (2 ^ s.plan.side) q
      → shown_world (stored_state s).key (top s.plan.side)
      (root_in s.roots (length s.log.records)) q
      ≡ stored_in (2 ^ s.plan.side) s.models s.log.records (length s.log.records) q
  head_cell q inside = own_cell s.plan.side (stored_state s).key
      (root_in s.roots (length s.log.records))
      (stored_in (2 ^ s.plan.side) s.models s.log.records (length s.log.records)) q is.plan.side_low
      (is.sound.versions.shown (length s.log.records) (head_kept s is)) inside

  pub edit_made : FitsWorld (2 ^ s.plan.side) s.models act → is_edit act ≡ true
      → MayMake (2 ^ s.plan.side) s.models act
      (shown_world (stored_state s).key (top s.plan.side) (root_in s.roots (length s.log.records)))
      (shown_world (stored_state s).key (top s.plan.side) root)
      → IsRootMade s.plan s.models act root (stored_state s)
  edit_made fits edit made = record {
    follows = edit_follows s.log.marks (length s.log.records + 1) act
        (position_after s.log.records) edit;
    cells = shown_world (stored_state s).key (top s.plan.side) root;
    shows = shows_own s.plan.side (stored_state s).key root;
    makes = record {
      edit = λ _. record {
        each = λ q inside. made.each q inside
            ∙ edited_agree (2 ^ s.plan.side) s.models act _ _ fits head_cell q inside;
      };
      other = λ other. absurd (Rattle.std.proofs.lemmas.Bool.both_ways (is_edit act) other edit);
    };
  }

  pub made_edit : FitsWorld (2 ^ s.plan.side) s.models act → is_edit act ≡ true
      → IsRootMade s.plan s.models act root (stored_state s)
      → MayMake (2 ^ s.plan.side) s.models act
      (shown_world (stored_state s).key (top s.plan.side) (root_in s.roots (length s.log.records)))
      (shown_world (stored_state s).key (top s.plan.side) root)
  made_edit fits edit made = record {
    each = λ q inside. own_cell s.plan.side
        (stored_state s).key root made.cells q is.plan.side_low made.shows inside
        ∙ (made.makes.edit edit).each q inside
        ∙ sym (edited_agree (2 ^ s.plan.side) s.models act _ _ fits head_cell q inside);
  }

  -- an undo or a redo makes the root of the version that it goes to
  pub other_made : (v : ℕ) → is_edit act ≡ false → HoldsVersion s.log v
      → Rattle.history_model.specs.Logs.MayFollow s.log.marks (length s.log.records + 1) act
      (position_after s.log.records)
      → Rattle.core_laws.specs.Making.version_gone_to s.log.records act ≡ v
      → root ≡ root_in s.roots v
      → IsRootMade s.plan s.models act root (stored_state s)
  other_made v other kept follows goes same = record {
    follows = follows;
    cells = stored_in (2 ^ s.plan.side) s.models s.log.records v;
    shows = subst
        (λ (o : Option Name). ShowsCells (world_block s.plan.side)
        (shape_of (tree_at (stored_state s).key (top s.plan.side) o))
        (stored_in (2 ^ s.plan.side) s.models s.log.records v)) (sym same)
        (is.sound.versions.shown v kept);
    makes = record {
      edit = λ edit. absurd (Rattle.std.proofs.lemmas.Bool.both_ways (is_edit act) other edit);
      other = λ _.
          record {
            each = λ q inside. ap
                (λ (w : ℕ). stored_in (2 ^ s.plan.side) s.models s.log.records w q) (sym goes);
          };
    };
  }

  pub made_other : (v : ℕ) → is_edit act ≡ false → HoldsVersion s.log v
      → Rattle.core_laws.specs.Making.version_gone_to s.log.records act ≡ v
      → ((n : Name) → root ≡ Some n → IsLive s.plan (stored_state s) n
      × (n.level ≡ top s.plan.side))
      → IsRootMade s.plan s.models act root (stored_state s) → root ≡ root_in s.roots v
  made_other v other kept goes live made =
      let p = s.plan in
      let lives : AreLive p (stored_state s) (top p.side) root =
      λ n some. record { live = (live n some).0; same_level = (live n some).1 } in
      let its : AreLive p (stored_state s) (top p.side) (root_in s.roots v) =
      λ n some. record {
        live = root_lives p (stored_state s) v n is.sound.entries
            (root_in_range p s.models
            (stored_state s) v n is.sound.versions some) some;
        same_level = is.sound.versions.level v n some;
      } in
      let shows : ShowsCells (world_block p.side) (shape_of (tree_at (stored_state s).key (top p.side) (root_in s.roots v))) made.cells = record {
        each = λ q in_b. (is.sound.versions.shown v kept).each q in_b
            ∙ ap (λ (w : ℕ). stored_in (2 ^ s.plan.side) s.models s.log.records w q) (sym goes)
            ∙ sym ((made.makes.other other).each q (in_world p.side q is.plan.side_low in_b));
      } in
      shape_once p (stored_state s) is.sound.entries (top p.side) root (root_in s.roots v) lives its
      (shown_once (world_block p.side) _ _ made.cells
      (canonical_at p (stored_state s) is.sound.entries (top p.side) root lives)
      (canonical_at p (stored_state s) is.sound.entries (top p.side)
      (root_in s.roots v) its) made.shows shows)

-- where an undo or a redo goes
goes_undo : (past : List ℕ) (now : ℕ) (future : List ℕ) (v : ℕ) → first_of past ≡ Some v
    → (Rattle.history_model.specs.Positions.undone past now future).now ≡ v
goes_undo [] now future v e = absurd (Rattle.std.proofs.lemmas.Option.none-some v e)
goes_undo (to ∷ past) now future v e = Rattle.std.proofs.lemmas.Option.same_Some to v e

goes_redo : (past : List ℕ) (now : ℕ) (future : List ℕ) (v : ℕ) → first_of future ≡ Some v
    → (Rattle.history_model.specs.Positions.redone past now future).now ≡ v
goes_redo past now [] v e = absurd (Rattle.std.proofs.lemmas.Option.none-some v e)
goes_redo past now (to ∷ future) v e = Rattle.std.proofs.lemmas.Option.same_Some to v e

pub target_goes : (records : List Record) (act : Act) (v : ℕ)
    → target_of act (position_after records) ≡ Some v
    → version_gone_to records act ≡ v
target_goes records (Fill b) v e = absurd (Rattle.std.proofs.lemmas.Option.none-some v e)
target_goes records (Erase b) v e = absurd (Rattle.std.proofs.lemmas.Option.none-some v e)
target_goes records (Ball b) v e = absurd (Rattle.std.proofs.lemmas.Option.none-some v e)
target_goes records (Carve b) v e = absurd (Rattle.std.proofs.lemmas.Option.none-some v e)
target_goes records (Copy b to) v e = absurd (Rattle.std.proofs.lemmas.Option.none-some v e)
target_goes records (Stamp m at) v e = absurd (Rattle.std.proofs.lemmas.Option.none-some v e)
target_goes records (Tint t) v e = absurd (Rattle.std.proofs.lemmas.Option.none-some v e)
target_goes records Undo v e =
    goes_undo (position_after records).past (position_after records).now
    (position_after records).future v e
target_goes records Redo v e =
    goes_redo (position_after records).past (position_after records).now
    (position_after records).future v e

-- a version that comes first may be gone to where it isn't marked
held_unmarked : (log : Log) (v : ℕ)
    → All (λ mark. (mark.version < mark.at) × (mark.at ≤ length log.records)) log.marks
    → IsVersionHeld log.marks (length log.records + 1) v → IsUnmarked log.marks v
held_unmarked log v dated held k m lt same =
    let at = held k m lt same in let late = (dated k m lt).1 in omega arith

unmarked_held : (log : Log) (v : ℕ) → IsUnmarked log.marks v
    → IsVersionHeld log.marks (length log.records + 1) v
unmarked_held log v unmarked k m lt same = absurd (unmarked k m lt same)

target_in : (log : Log) (versions : List ℕ) (v : ℕ) → first_of versions ≡ Some v
    → IsVersionHeld log.marks (length log.records + 1) v
    → HasTarget log.marks (length log.records + 1) versions
target_in log [] v e held = absurd (Rattle.std.proofs.lemmas.Option.none-some v e)
target_in log (to ∷ more) v e held =
    subst (λ (w : ℕ). IsVersionHeld log.marks (length log.records + 1) w)
    (sym (Rattle.std.proofs.lemmas.Option.same_Some to v e)) held

in_target : (log : Log) (versions : List ℕ) (v : ℕ) → first_of versions ≡ Some v
    → HasTarget log.marks (length log.records + 1) versions
    → IsVersionHeld log.marks (length log.records + 1) v
in_target log [] v e has = absurd has
in_target log (to ∷ more) v e has =
    subst (λ (w : ℕ). IsVersionHeld log.marks (length log.records + 1) w)
    (Rattle.std.proofs.lemmas.Option.same_Some to v e) has

no_target : (log : Log) (versions : List ℕ) → first_of versions ≡ None
    → HasTarget log.marks (length log.records + 1) versions → ⊥
no_target log [] e has = has
no_target log (to ∷ more) e has = Rattle.std.proofs.lemmas.Option.none-some to (sym e)

first_below : (versions : List ℕ) (v n : ℕ) → first_of versions ≡ Some v → All (λ w. w < n) versions
    → v < n
first_below [] v n e below = absurd (Rattle.std.proofs.lemmas.Option.none-some v e)
first_below (to ∷ more) v n e below =
    subst (λ (w : ℕ). w < n) (Rattle.std.proofs.lemmas.Option.same_Some to v e)
    (below 0 0 (omega arith))

module _ (s : Stored) (act : Act) (is : IsStored s) (other : is_edit act ≡ false) where
  pub gone_nowhere : target_of act (position_after s.log.records) ≡ None
      → MayFollow s.log.marks (length s.log.records + 1) act (position_after s.log.records) → ⊥
  gone_nowhere = go act other
    where
      go : (a : Act) → is_edit a ≡ false → target_of a (position_after s.log.records) ≡ None
          → MayFollow s.log.marks (length s.log.records + 1) a (position_after s.log.records) → ⊥
      go Undo o e f = no_target s.log (position_after s.log.records).past e f
      go Redo o e f = no_target s.log (position_after s.log.records).future e f
      go _ o e f = (let no : ⊥ = cc in no)

  pub gone_below : (v : ℕ) → target_of act (position_after s.log.records) ≡ Some v
      → v ≤ length s.log.records
  gone_below v = go act other
    where
      go : (a : Act) → is_edit a ≡ false → target_of a (position_after s.log.records) ≡ Some v
          → v ≤ length s.log.records
      go Undo o e = let lt = first_below (position_after s.log.records).past v
          (length s.log.records + 1) e (names_below s.log.records).past in omega arith
      go Redo o e = let lt = first_below (position_after s.log.records).future v
          (length s.log.records + 1) e (names_below s.log.records).future in omega arith
      go _ o e = absurd (let no : ⊥ = cc in no)

  pub gone_follows : (v : ℕ) → target_of act (position_after s.log.records) ≡ Some v
      → IsUnmarked s.log.marks v
      → MayFollow s.log.marks (length s.log.records + 1) act (position_after s.log.records)
  gone_follows v e unmarked = go act other e
    where
      go : (a : Act) → is_edit a ≡ false → target_of a (position_after s.log.records) ≡ Some v
          → MayFollow s.log.marks (length s.log.records + 1) a (position_after s.log.records)
      go Undo o at = target_in s.log (position_after s.log.records).past v at
          (unmarked_held s.log v unmarked)
      go Redo o at = target_in s.log (position_after s.log.records).future v at
          (unmarked_held s.log v unmarked)
      go _ o at = absurd (let no : ⊥ = cc in no)

  pub follows_unmarked : (v : ℕ) → target_of act (position_after s.log.records) ≡ Some v
      → MayFollow s.log.marks (length s.log.records + 1) act (position_after s.log.records)
      → IsUnmarked s.log.marks v
  follows_unmarked v = go act other
    where
      go : (a : Act) → is_edit a ≡ false → target_of a (position_after s.log.records) ≡ Some v
          → MayFollow s.log.marks (length s.log.records + 1) a (position_after s.log.records)
          → IsUnmarked s.log.marks v
      go Undo o at f = held_unmarked s.log v is.sound.versions.legal.marked
          (in_target s.log (position_after s.log.records).past v at f)
      go Redo o at f = held_unmarked s.log v is.sound.versions.legal.marked
          (in_target s.log (position_after s.log.records).future v at f)
      go _ o at f = absurd (let no : ⊥ = cc in no)

-- what holds of an answer where there is one
pub ok_map : (r : Result Bool Memory) (P Q : Bool → Type 0) → ((b : Bool) → P b → Q b) → IfOk r P
    → IfOk r Q
ok_map (Ok b) P Q map h = map b h
ok_map (Err e) P Q map h = tt
