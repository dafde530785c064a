-- What a run made and met goes on to hold, and what it comes to.
use Rattle.std.proofs.Common.{◌≡◌, ℕ, ◌^◌, ◌≤◌, List, [], ◌∷◌, ◌++◌, length, refl, ap, sym, subst, ◌∙◌, arith, length-append}
use Rattle.std.specs.Prelude.{All}
use Rattle.std.proofs.lemmas.List.Elements.{All-append, All-weaker, All-contains, Contains-append_left, Contains-append_right}
use Rattle.vox_read.specs.Contents.{Content}
use Rattle.history_model.specs.declared.acts.Act.{Act}
use Rattle.history_model.specs.declared.histories.Record.{Record}
use Rattle.history_model.specs.Worlds.{World, nothing}
use Rattle.history_model.specs.FoldLaws.{state_stays}
use Rattle.history_model.specs.Stores.{edited_in, stored_in, made_by_parts}
use Rattle.history_model.specs.Logs.{Log}
use Rattle.node_words.specs.shapes.Shape.{Shape}
use Rattle.node_words.specs.Held.{Wanted}
use Rattle.node_words.specs.Plans.{Layout}
use Rattle.node_words.specs.Enough.{HasEnough}
use Rattle.conformance.specs.possible.Needed.{Span, made_of}
use Rattle.conformance.specs.scripts.Keeping.{IsPartOfWorld, IsWanted, IsMadeFor, IsMadeInRun, MadeAndMet, WasMet, KeepsMade, HaveEnough, MakesFor, LineMakes}
use Rattle.conformance.proofs.OfScripts.PossibleLaws.{met_needed, enough_possible}
use Rattle.script.specs.declared.commands.Command.{Command}
use Rattle.script.specs.declared.commands.Command.TheVariants.{Edit, Forget, Ask, Save, Same, Head}
use Rattle.script.specs.declared.commands.ScriptLine.{ScriptLine}
use Rattle.transcript.specs.declared.answers.LineAnswer.{LineAnswer}
use Rattle.conformance.specs.Answers.{ExtendsLog}
use Rattle.conformance.specs.Refusing.{span_by, spans_of, Refusal, refused_by, refused_of, WasPossible, FullOnlyWherePossible}

module _ (p : Layout) (models : List Content) (old new : Log) (g : ExtendsLog old new) where
  stored_stay : (side v : ℕ) → v ≤ length old.records
      → stored_in side models new.records v ≡ stored_in side models old.records v
  stored_stay side v le = ap (λ (rs : List Record). stored_in side models rs v) g.records
      ∙ state_stays nothing (edited_in side models) old.records g.more v le

  pub made_stays : (side : ℕ) (act : Act) (v parts : ℕ) → v ≤ length old.records
      → made_of side models new.records act v parts ≡ made_of side models old.records act v parts
  made_stays side act v parts le = ap (λ (w : World). made_by_parts side models act parts w)
      (stored_stay side v le)

  pub wanted_stays : (act : Act) (v : ℕ) (s : Shape) → v ≤ length old.records
      → IsWanted p models old.records act v s → IsWanted p models new.records act v s
  wanted_stays act v s le wanted = record {
    edit = wanted.edit;
    parts = wanted.parts;
    some_part = wanted.some_part;
    few_parts = wanted.few_parts;
    part = subst (λ (w : World). IsPartOfWorld p w s)
        (sym (made_stays (2 ^ p.side) act v wanted.parts le)) wanted.part;
  }

  longer : length old.records ≤ length new.records
  longer = (let more : length new.records
      ≡ length (old.records ++ g.more) = ap length g.records in let both = length-append old.records g.more in omega arith)

  pub made_in_stays : (spans more : List Span) (s : Shape)
      → IsMadeInRun p models old.records spans s
      → IsMadeInRun p models new.records (spans ++ more) s
  made_in_stays spans more s m = record {
    made = record {
      span = m.made.span;
      listed = Contains-append_left spans more m.made.span m.made.listed;
      version = m.made.version;
      low = m.made.low;
      high = m.made.high;
      wanted = wanted_stays m.made.span.act m.made.version s m.there m.made.wanted;
    };
    there = (let le = m.there in let long = longer in omega arith);
  }

  pub was_met_stays : (noted more : List Wanted) (r : Refusal) → WasMet p models old.records noted r
      → WasMet p models new.records (more ++ noted) r
  was_met_stays noted more r m = record {
    shape = m.shape;
    is_met = record { wanted = wanted_stays r.act r.at m.shape m.there m.is_met.wanted; canonical = m.is_met.canonical; some = m.is_met.some; of_bucket = m.is_met.of_bucket };
    listed = Contains-append_right more noted
        (record { level = r.level; bucket = r.bucket; shape = m.shape }) m.listed;
    there = (let le = m.there in let long = longer in omega arith);
  }

-- what a line's edit made, in its span
made_by : (p : Layout) (models : List Content) (records : List Record) (spans : List Span)
    (command : Command) (first last : ℕ) (s : Shape) → last ≤ length records
    → MakesFor p models records command first last s
    → IsMadeInRun p models records (spans ++ span_by first command last) s
made_by p models records spans (Edit act once) first last s within m =
    let high = m.high in
    record {
      made = record {
        span = record { act = act; first = first; last = last };
        listed = Contains-append_right spans
            (record { act = act; first = first; last = last } ∷ [])
            (record { act = act; first = first; last = last }) (0, omega arith, refl);
        version = m.version;
        low = m.low;
        high = m.high;
        wanted = m.wanted;
      };
      there = omega arith;
    }
made_by p models records spans (Forget v) first last s within m = absurd m
made_by p models records spans (Ask version question) first last s within m = absurd m
made_by p models records spans (Save version name part) first last s within m = absurd m
made_by p models records spans (Same v w) first last s within m = absurd m
made_by p models records spans Head first last s within m = absurd m

-- one more line
pub makes_more : (p : Layout) (models : List Content) (old new : Log) (spans : List Span)
    (refused : List Refusal) (made now : MadeAndMet) (first : ℕ) (l : ScriptLine) (a : LineAnswer)
    → ExtendsLog old new → a.at ≤ length new.records
    → KeepsMade p models old.records spans refused made
    → LineMakes p models first l a new.records made now
    → KeepsMade p models new.records (spans ++ span_by first l.command a.at)
    (refused ++ refused_by l.command a.at a.answer) now
makes_more p models old new spans refused made now first l a g within keeps line = record {
  made_in =
      subst (λ (ss : List Shape). All
      (IsMadeInRun p models new.records (spans ++ span_by first l.command a.at)) ss)
      (sym line.made)
      (All-append (IsMadeInRun p models new.records
      (spans ++ span_by first l.command a.at)) line.more made.made
      (All-weaker (MakesFor p models new.records l.command first a.at) _
      (λ s m. made_by p models new.records spans l.command first a.at s within m) line.more line.parts)
      (All-weaker (IsMadeInRun p models old.records spans) _
      (λ s m. made_in_stays p models old new g spans
      (span_by first l.command a.at) s m) made.made keeps.made_in));
  was_met =
      All-append (WasMet p models new.records now.met) refused (refused_by l.command a.at a.answer)
      (All-weaker (WasMet p models old.records made.met) (WasMet p models new.records now.met)
      (λ r m. subst (λ (ws : List Wanted). WasMet p models new.records ws r) (sym line.met)
      (was_met_stays p models old new g made.met line.further r m)) refused keeps.was_met) line.was_met;
}

-- the lists of one more line, and of one more script
pub append_more : {X : Type 0} (xs ys zs : List X) → (xs ++ ys) ++ zs ≡ xs ++ (ys ++ zs)
append_more [] ys zs = refl
append_more (x ∷ xs) ys zs = ap (λ ws. x ∷ ws) (append_more xs ys zs)

-- what the run comes to, where each bucket that was full had enough entries
pub full_only_where_possible : (p : Layout) (models : List Content) (log : Log)
    (scripts : List (List ScriptLine)) (transcripts : List (List LineAnswer)) (noted : MadeAndMet)
    → KeepsMade p models log.records (spans_of scripts transcripts)
    (refused_of scripts transcripts) noted → HaveEnough p noted
    → FullOnlyWherePossible p models log scripts transcripts
full_only_where_possible p models log scripts transcripts noted keeps enough = record {
  each =
      All-weaker (WasMet p models log.records noted.met)
      (WasPossible p models log.records (spans_of scripts transcripts))
      (λ r m. record {
        needed = met_needed p models log.records r.act r.at r.level r.bucket m.shape m.is_met;
        possible =
            enough_possible p models log.records
            (spans_of scripts transcripts) r.level r.bucket noted.made
            (All-weaker (IsMadeInRun p models log.records (spans_of scripts transcripts))
            (IsMadeFor p models log.records (spans_of scripts transcripts))
            (λ s i. i.made) noted.made keeps.made_in)
            (All-contains (λ (w : Wanted). HasEnough p noted.made w.level w.bucket) noted.met
            (record { level = r.level; bucket = r.bucket; shape = m.shape }) enough m.listed);
      }) (refused_of scripts transcripts) keeps.was_met;
}
