-- Two versions that are compared, as a session tells it.
use Rattle.std.proofs.Common.{◌≡◌, ◌^◌, ◌<◌, ◌↔◌, List, ℕ, Bool, true, false, Ok, Err, refl, sym, subst, inl, inr}
use Rattle.std.specs.Prelude.{IfOk, IfErr, IsTrue, Result}
use Rattle.vox_read.specs.Contents.{Content}
use Rattle.history_model.specs.Stores.{stored_in}
use Rattle.core_laws.specs.contents.Versions.{SameWorld}
use Rattle.table_rule.specs.LogFacts.{number_seen}
use Rattle.table_rule.specs.Views.{SeatView}
use Rattle.version_log.specs.Sames.{IsFoundOpen, RefusesVersion, RefusesSame, AnswersSame, length_told}
use Rattle.version_log.specs.Seeing.{OnlyReadsLog}
use Rattle.retain.specs.declared.comparing.SameAt.{SameAt}
use Rattle.retain.specs.declared.comparing.SameRefused.{SameRefused}
use Rattle.retain.specs.declared.comparing.SameRefused.TheVariants.{NoVersion, Forgotten}
use Rattle.conformance.specs.sessions.Calls.{FindsVersion}
use Rattle.conformance.specs.sessions.CallSpecs.{IsEqual, NamesVersion, SameSpec}
use Rattle.session.specs.SessionWorlds.{SessionWorld, of_world, session_view}
use Rattle.session.proofs.SeenLaws.{only_sees}

-- a version that was found at the length that is seen
pub finds : (z : SeatView) (version at : ℕ) → at ≡ number_seen z → IsFoundOpen z version at
    → FindsVersion (session_view z) version
finds z version at here is =
    let now = subst (λ (k : ℕ). IsFoundOpen z version k) here is in
    record {
      there = now.there;
      unmarked = now.unmarked;
      listed = now.found;
    }

equal_told : (b : Bool) (P Q : Type 0) → (IsTrue b ↔ P) → (P → Q) → (Q → P) → IsEqual b Q
equal_told true P Q h to from = to (h.0 refl)
equal_told false P Q h to from =
    λ q. absurd (let bad : false ≡ true = h.1 (from q) in cc)

module _ (t : SessionWorld) (number v w : ℕ) (a b : SeatView) (looks : OnlyReadsLog a b)
    (models : b.models ≡ t.table.models) (side : b.log.seen.side ≡ b.plan.side) where
  tells_same : (s : SameAt) → AnswersSame v w s b
      → SameSpec (of_world t number) v w (session_view a) (session_view b) (Ok s)
  tells_same s is =
      record {
        at_is = is.at;
        only = only_sees a b looks;
        first = finds b v s.at is.at is.first;
        second = finds b w s.at is.at is.second;
        equal = subst (λ (ms : List Content). IsEqual s.equal (SameWorld (2 ^ b.log.seen.side)
            (stored_in (2 ^ b.log.seen.side) ms b.log.seen.records v)
            (stored_in (2 ^ b.log.seen.side) ms b.log.seen.records w))) models
            (subst (λ (n : ℕ). IsEqual s.equal (SameWorld (2 ^ n)
            (stored_in (2 ^ n) b.models b.log.seen.records v)
            (stored_in (2 ^ n) b.models b.log.seen.records w)))
            (sym side)
            (equal_told s.equal _ _ is.equal (λ same. same) (λ same. same)));
      }

  refuses : (e : SameRefused) (u : ℕ)
      → ((version : ℕ) → u ≡ version → NamesVersion v w (session_view b) version)
      → RefusesVersion u e b
      → SameSpec (of_world t number) v w (session_view a) (session_view b) (Err e)
  refuses (NoVersion at version) u named is =
      record {
        at_is = is.0;
        only = only_sees a b looks;
        named = named version (sym is.1);
        over = subst (λ (x : ℕ). at < x) (sym is.1) is.2;
      }
  refuses (Forgotten at mark) u named is =
      record {
        at_is = is.0;
        only = only_sees a b looks;
        named = named mark.version (sym is.1.is);
        listed = is.1.marked;
      }

  -- the length that a refusal tells is the one that is seen
  told_here : (e : SameRefused) (u : ℕ) → RefusesVersion u e b → length_told e ≡ number_seen b
  told_here (NoVersion at version) u is = is.0
  told_here (Forgotten at mark) u is = is.0

  refuses_same : (e : SameRefused) → RefusesSame v w e b
      → SameSpec (of_world t number) v w (session_view a) (session_view b) (Err e)
  refuses_same e (inl first) = refuses e v (λ version same. inl same) first
  refuses_same e (inr both) =
      refuses e w (λ version same. inr
      (same, finds b v (length_told e) (told_here e w both.1) both.0)) both.1

  pub same_told : (r : Result SameAt SameRefused) → IfOk r (λ s. AnswersSame v w s b)
      → IfErr r (λ e. RefusesSame v w e b)
      → SameSpec (of_world t number) v w (session_view a) (session_view b) r
  same_told (Ok s) ok err = tells_same s ok
  same_told (Err e) ok err = refuses_same e err
