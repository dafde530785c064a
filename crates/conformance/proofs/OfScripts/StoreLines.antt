-- What a rebuild over a store makes and meets is what its line makes and meets.
use Rattle.std.proofs.Common.{◌≡◌, ℕ, ◌≤◌, Bool, List, [], ◌∷◌, ◌++◌, length, refl, sym, subst, ap, arith}
use Rattle.std.specs.Prelude.{All}
use Rattle.std.specs.List.{Contains}
use Rattle.std.proofs.lemmas.List.Elements.{All-nil, All-cons, All-weaker}
use Rattle.vox_read.specs.Contents.{Content}
use Rattle.history_model.specs.declared.acts.Act.{Act}
use Rattle.history_model.specs.declared.histories.Record.{Record}
use Rattle.node_words.specs.shapes.Shape.{Shape}
use Rattle.node_words.specs.Held.{StoreState, Wanted, IsSought}
use Rattle.node_words.specs.Gathering.{Grew, unchanged, one}
use Rattle.node_words.specs.Plans.{Layout}
use Rattle.conformance.specs.scripts.Keeping.{MadeAndMet, made_and_met, IsWanted, MeetsFull, MakesPart, MakesFor, WasMet, LineMakes}
use Rattle.script.specs.declared.commands.Command.TheVariants.{Edit}
use Rattle.script.specs.declared.commands.ScriptLine.{ScriptLine}
use Rattle.transcript.specs.declared.answers.Answer.{Answer}
use Rattle.transcript.specs.declared.answers.Answer.TheVariants as answers
use Rattle.transcript.specs.declared.answers.LineAnswer.{LineAnswer}
use Rattle.conformance.specs.Refusing.{Refusal, refused_by}

-- what a list has grown by
record GrownBy {A : Type 0} (P : A → Type 0) (old new : List A) : Type 0 where
  more : List A
  is : new ≡ more ++ old
  each : All P more

grown : {A : Type 0} (P : A → Type 0) (old new : List A) → Grew P old new → GrownBy P old new
grown P old new unchanged = record { more = []; is = refl; each = All-nil P }
grown P old _ (one {a} {new = before} p rest) = (
    let r = grown P old before rest in
    record { more = a ∷ r.more; is = ap (λ xs. a ∷ xs) r.is; each = All-cons P a r.more p r.each })

module _ (p : Layout) (models : List Content) (records : List Record) (act : Act)
    (version : ℕ) where
  makes_part : (first last : ℕ) (s : Shape) → first ≤ version → version ≤ last
      → IsWanted p models records act version s → MakesPart p models records act first last s
  makes_part first last s low high wanted =
      record { version = version; low = low; high = high; wanted = wanted }

  -- an edit whose shapes all went into the store, however it was answered but for a full bucket
  pub grows_line : (first : ℕ) (line at : ℕ) (once : Bool) (answer : Answer) (old new : MadeAndMet)
      → first ≤ version → version ≤ at → refused_by (Edit act once) at answer ≡ []
      → Grew (IsWanted p models records act version) old.made new.made → new.met ≡ old.met
      → LineMakes p models first (record { line = line; command = Edit act once })
      (record { line = line; at = at; answer = answer }) records old new
  grows_line first line at once answer old new low high none grew same =
      let g = grown (IsWanted p models records act version) old.made new.made grew in
      record {
        more = g.more;
        made = g.is;
        parts = All-weaker (IsWanted p models records act version)
            (MakesPart p models records act first at)
            (λ s wanted. makes_part first at s low high wanted) g.more g.each;
        further = [];
        met = same;
        was_met = subst (λ (rs : List Refusal). All (WasMet p models records new.met) rs)
            (sym none) (All-nil (WasMet p models records new.met));
      }

  -- and one that met a full bucket at its moment
  pub fails_line : (first line : ℕ) (once : Bool) (level bucket : ℕ) (old new : StoreState)
      → first ≤ version → version ≤ length records → old.plan ≡ p
      → MeetsFull (IsWanted p models records act version) level bucket old new
      → LineMakes p models first (record { line = line; command = Edit act once })
      (record { line = line; at = version; answer = answers.Full level bucket }) records
      (made_and_met old) (made_and_met new)
  fails_line first line once level bucket old new low there same fails =
      let g = grown (IsWanted p models records act version) old.made new.made fails.made in
      let w : Wanted = record { level = level; bucket = bucket; shape = fails.wanted } in
      let here : IsSought p w = subst (λ (q : Layout). IsSought q w) same fails.sought in
      let met : WasMet p models records new.met (record {
        act =
            act;
        at = version;
        level = level;
        bucket = bucket;
      }) = record {
        shape = fails.wanted;
        is_met = record { wanted = fails.wants; canonical = here.canonical; some = here.some; of_bucket = sym here.bucket_is };
        listed = subst (λ (ws : List Wanted). Contains ws w) (sym fails.met) (0, omega arith, refl);
        there = there;
      } in
      record {
        more = g.more;
        made = g.is;
        parts = All-weaker (IsWanted p models records act version)
            (MakesPart p models records act first version)
            (λ s wanted. makes_part first version s low (omega arith) wanted) g.more g.each;
        further = w ∷ [];
        met = fails.met;
        was_met = All-cons (WasMet p models records new.met)
            (record { act = act; at = version; level = level; bucket = bucket }) [] met
            (All-nil (WasMet p models records new.met));
      }

-- a line that makes nothing
pub idle_line : (p : Layout) (models : List Content) (records : List Record) (first : ℕ)
    (l : ScriptLine) (a : LineAnswer) (made : MadeAndMet) → refused_by l.command a.at a.answer ≡ []
    → LineMakes p models first l a records made made
idle_line p models records first l a made none = record {
  more = [];
  made = refl;
  parts = All-nil (MakesFor p models records l.command first a.at);
  further = [];
  met = refl;
  was_met = subst (λ (rs : List Refusal). All (WasMet p models records made.met) rs) (sym none)
      (All-nil (WasMet p models records made.met));
}
