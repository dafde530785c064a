-- An answer that fits a history fits every one that goes on from it, as long as the versions stand
-- that it rests on.
use Rattle.std.proofs.Common.{◌≡◌, ℕ, zero, suc, ◌-◌, ◌^◌, ◌≤◌, List, [], ◌∷◌, ◌++◌, length, take, Option, Some, None, Bool, refl, ap, sym, subst, ◌∙◌, inl, inr, arith}
use Rattle.std.specs.List.{slice_get, Contains}
use Rattle.std.proofs.lemmas.List.{take-append-le}
use Rattle.std.proofs.lemmas.List.Elements.{All-contains}
use Rattle.history_model.specs.Contents.{Content}
use Rattle.history_model.specs.declared.acts.Act.{Act}
use Rattle.history_model.specs.declared.acts.Act.TheVariants.{Fill, Erase, Ball, Carve, Copy, Stamp, Tint, Undo, Redo}
use Rattle.history_model.specs.declared.histories.Record.{Record}
use Rattle.history_model.specs.declared.histories.Mark.{Mark}
use Rattle.history_model.specs.Worlds.{World}
use Rattle.history_model.specs.Positions.{position_after, first_of}
use Rattle.history_model.specs.FoldLaws.{state_stays}
use Rattle.history_model.specs.Tints.{Tints, SameTints, untinted, tints_by}
use Rattle.history_model.specs.Logs.{Log, side_of_world, world_side}
use Rattle.history_model.specs.Moments.{world_has, world_tint}
use Rattle.history_model.specs.Laws.{version_stays}
use Rattle.node_words.specs.Plans.{Layout}
use Rattle.script.specs.declared.commands.Command.{Command}
use Rattle.script.specs.declared.commands.Command.TheVariants.{Edit, Forget, Ask, Save, Same, Head}
use Rattle.transcript.specs.declared.answers.Answer.{Answer}
use Rattle.vw_cell.specs.Counts.{number_in}
use Rattle.conformance.specs.QuestionAnswers.{AnswersTo}
use Rattle.conformance.specs.Answers.{IsForgotten, IsReadable, IsRecordOf, mark_of, target_at, HasReadableTarget, asked_version, Names, LooksUp, Answers, done, forgot, tells, saves, same, different, head, no_version, forgotten, is_head, nothing_to_undo, nothing_to_redo, log_full, stale, full, ExtendsLog}

-- what stands at a place stays there
get_stays : {X : Type 0} (xs ys : List X) (i : ℕ) (x : X) → slice_get xs i ≡ Some x
    → slice_get (xs ++ ys) i ≡ Some x
get_stays [] ys i x here = absurd (let no : ⊥ = cc in no)
get_stays (y ∷ xs) ys zero x here = here
get_stays (y ∷ xs) ys (suc i) x here = get_stays xs ys i x here

module _ (old new : Log) (g : ExtendsLog old new) (n : ℕ) (within : n ≤ length old.records) where
  -- the side of the world stays, and so do the cells of each version, their tints, and the position
  pub side_stays : world_side new ≡ world_side old
  side_stays = ap (λ (k : ℕ). side_of_world new.coloured (2 ^ k)) g.side
      ∙ ap (λ (c : Bool). side_of_world c (2 ^ old.side)) g.coloured

  pub tints_stay : (models : List Content) (v : ℕ) → v ≤ n
      → world_tint models new.records v ≡ world_tint models old.records v
  tints_stay models v le = ap (λ (rs : List Record). world_tint models rs v) g.records
      ∙ state_stays untinted (tints_by models) old.records g.more v (omega arith)

  pub world_stays : (models : List Content) (v : ℕ) → v ≤ n
      → world_has models new.records v ≡ world_has models old.records v
  world_stays models v le = ap (λ (rs : List Record). world_has models rs v) g.records
      ∙ version_stays models old.records g.more v (omega arith)

  first_stay : take n new.records ≡ take n old.records
  first_stay = ap (λ (rs : List Record). take n rs) g.records
      ∙ take-append-le n old.records g.more within

  pub target_stays : (act : Act) → target_at new.records n act ≡ target_at old.records n act
  target_stays (Fill b) = refl
  target_stays (Erase b) = refl
  target_stays (Ball ball) = refl
  target_stays (Carve ball) = refl
  target_stays (Copy b to) = refl
  target_stays (Stamp m at) = refl
  target_stays (Tint t) = refl
  target_stays Undo = ap (λ (rs : List Record). first_of (position_after rs).past) first_stay
  target_stays Redo = ap (λ (rs : List Record). first_of (position_after rs).future) first_stay

  pub record_stays : (session line : ℕ) (act : Act) → IsRecordOf old.records n session line act
      → IsRecordOf new.records n session line act
  record_stays session line act r = record {
    first = r.first;
    is = ap (λ (rs : List Record). slice_get rs (n - 1)) g.records
        ∙ get_stays old.records g.more (n - 1)
        (record { session = session; line = line; act = act }) r.is;
  }

  pub mark_stays : (m : Mark) → Contains old.marks m → Contains new.marks m
  mark_stays m listed = All-contains (Contains new.marks) old.marks m g.marks listed

  pub forgotten_stays : (session line v : ℕ) → IsForgotten old.marks session line n v
      → IsForgotten new.marks session line n v
  forgotten_stays session line v f =
      record { mark = f.mark; listed = mark_stays f.mark f.listed; same = f.same; by_then = f.by_then; earlier = f.earlier }

  module _ (R S : ℕ → Type 0) (stand : (v : ℕ) → v ≤ n → R v → S v) where
    readable_stays : (v : ℕ) → IsReadable R n v → IsReadable S n v
    readable_stays v r = record { there = r.there; stands = stand v r.there r.stands }

    way_stays : (act : Act) → HasReadableTarget R old.records n act → HasReadableTarget S new.records n act
    way_stays act way other = let (to, is, readable) = way other in
        (to, target_stays act ∙ is, readable_stays to readable)

    names_stay : (command : Command) (v : ℕ) → Names R n command v → Names S n command v
    names_stay (Forget u) v named = named
    names_stay (Ask (Some u) question) v named = named
    names_stay (Ask None question) v named = named
    names_stay (Save (Some u) name part) v named = named
    names_stay (Save None name part) v named = named
    names_stay (Same u w) v (inl e) = inl e
    names_stay (Same u w) v (inr e) = inr (e.0, readable_stays u e.1)
    names_stay (Edit act once) v named = named
    names_stay Head v named = named

    looks_stay : (command : Command) (v : ℕ) → LooksUp R old.records n command v
        → LooksUp S new.records n command v
    looks_stay (Forget u) v up = up
    looks_stay (Ask (Some u) question) v up = up
    looks_stay (Ask None question) v up = up
    looks_stay (Save (Some u) name part) v up = up
    looks_stay (Save None name part) v up = up
    looks_stay (Same u w) v up = names_stay (Same u w) v up
    looks_stay (Edit act once) v up = target_stays act ∙ up
    looks_stay Head v up = up

    same_stays : (models : List Content) (v w : ℕ) → v ≤ n → w ≤ n
        → SameTints (world_side old) (world_tint models old.records v)
        (world_tint models old.records w)
        → SameTints (world_side new) (world_tint models new.records v)
        (world_tint models new.records w)
    same_stays models v w of_v of_w s =
        subst (λ (side : ℕ). SameTints side (world_tint models new.records v)
        (world_tint models new.records w)) (sym side_stays)
        (subst (λ (x : Tints). SameTints (world_side old) x (world_tint models new.records w))
        (sym (tints_stay models v of_v))
        (subst (λ (x : Tints). SameTints (world_side old) (world_tint models old.records v) x)
        (sym (tints_stay models w of_w)) s))

    same_was : (models : List Content) (v w : ℕ) → v ≤ n → w ≤ n
        → SameTints (world_side new) (world_tint models new.records v)
        (world_tint models new.records w)
        → SameTints (world_side old) (world_tint models old.records v)
        (world_tint models old.records w)
    same_was models v w of_v of_w s =
        subst (λ (side : ℕ). SameTints side (world_tint models old.records v)
        (world_tint models old.records w)) side_stays
        (subst (λ (x : Tints). SameTints (world_side new) x (world_tint models old.records w))
        (tints_stay models v of_v)
        (subst (λ (x : Tints). SameTints (world_side new) (world_tint models new.records v) x)
        (tints_stay models w of_w) s))

    asked_there : (version : Option ℕ) → IsReadable R n (asked_version version n)
        → asked_version version n ≤ n
    asked_there version r = r.there

    pub answers_stay : (p : Layout) (models : List Content) (session line : ℕ) (command : Command)
        (answer : Answer)
        → Answers p models old R session line n command answer
        → Answers p models new S session line n command answer
    answers_stay p models session line command answer (done act once r) = done act once
        (record_stays session line act r)
    answers_stay p models session line command answer (forgot v listed) = forgot v
        (mark_stays (mark_of v n session line) listed)
    answers_stay p models session line command answer (tells version question a readable tell) =
        tells version question a (readable_stays (asked_version version n) readable)
        (subst (λ (side : ℕ). AnswersTo side (world_has models new.records (asked_version version n))
        (world_tint models new.records (asked_version version n)) question a) (sym side_stays)
        (subst (λ (w : World). AnswersTo (world_side old) w
        (world_tint models new.records (asked_version version n)) question a)
        (sym (world_stays models (asked_version version n) readable.there))
        (subst (λ (t : Tints). AnswersTo (world_side old)
        (world_has models old.records (asked_version version n)) t question a)
        (sym (tints_stay models (asked_version version n) readable.there)) tell)))
    answers_stay p models session line command answer (saves version name part cells readable e) =
        saves version name part cells (readable_stays (asked_version version n) readable)
        (e ∙ ap (λ (w : World). number_in part w)
        (sym (world_stays models (asked_version version n) readable.there)))
    answers_stay p models session line command answer (same v w of_v of_w s) = same v w
        (readable_stays v of_v) (readable_stays w of_w)
        (same_stays models v w of_v.there of_w.there s)
    answers_stay p models session line command answer (different v w of_v of_w s) = different v w
        (readable_stays v of_v) (readable_stays w of_w)
        (λ e. s (same_was models v w of_v.there of_w.there e))
    answers_stay p models session line command answer head = head
    answers_stay p models session line command answer (no_version c v named over) = no_version c v
        (names_stay c v named) over
    answers_stay p models session line command answer (forgotten c v up f) = forgotten c v
        (looks_stay c v up) (forgotten_stays session line v f)
    answers_stay p models session line command answer is_head = is_head
    answers_stay p models session line command answer
        (nothing_to_undo once e) = nothing_to_undo once (target_stays Undo ∙ e)
    answers_stay p models session line command answer
        (nothing_to_redo once e) = nothing_to_redo once (target_stays Redo ∙ e)
    answers_stay p models session line command answer
        (log_full act once e way) = log_full act once e (way_stays act way)
    answers_stay p models session line command answer
        (stale act base low room) = stale act base low room
    answers_stay p models session line command answer
        (full act once level bucket edit l b) = full act once level bucket edit l b
