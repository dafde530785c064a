-- What is told of the root of a version is told of its cells in the file.
use Rattle.std.proofs.Common.{◌≡◌, ℕ, zero, suc, ◌-◌, ◌^◌, ◌<◌, ◌≤◌, inl, inr, List, Option, Ok, Err, refl, sym, subst, ◌∙◌, arith}
use Rattle.node_words.specs.declared.shapes.names.Name.{Name}
use Rattle.node_words.specs.shapes.Shape.{has}
use Rattle.node_words.specs.shapes.Tree.{shape_of}
use Rattle.edit_walk.specs.cells.Worlds.{IsRoot, ShowsWorld}
use Rattle.history_model.specs.declared.questions.Question.{Question}
use Rattle.script.specs.declared.faults.ScriptKind.{ScriptKind}
use Rattle.script.specs.Placing.{question_placed}
use Rattle.transcript.specs.declared.answers.Answer.{Answer}
use Rattle.store_run.specs.AnswersByRoots.{AnswersByRoot}
use Rattle.dag_file.specs.declared.faults.DagFault.{DagFault}
use Rattle.dag_file.specs.declared.faults.DagFault.TheVariants as faults
use Rattle.dag_file.specs.Rules.{IsDagFile}
use Rattle.dag_file.specs.Places.{version_root_word, versions_in}
use Rattle.dag_file.specs.Reads.{SaysFault}
use Rattle.dag_file.specs.Trees.{Opened, opened_state, word_name, version_tree, roots_below, HasVersion, IsRootOfVersion}
use Rattle.dag_file.proofs.VersionLaws.{weighs_root, block_word}
use Rattle.dag_answers.specs.Looks.{version_has, version_tints, AnswersFileVersion, AnswersLook, LacksAsked, RefusesLook, of_dag}

pub fault_refuses : (bytes : List ℕ) (number : ℕ) (asked : Question) (fault : DagFault)
    → SaysFault bytes fault → RefusesLook bytes number asked (of_dag fault)
fault_refuses bytes number asked (faults.Bad place) says = says
fault_refuses bytes number asked faults.Memory says = tt

-- ---- the root of a version shows its cells

from_origin : (x : ℕ) → x ≡ x - 0
from_origin x = omega arith

is_root : (bytes : List ℕ) (side v word : ℕ) → v < versions_in bytes → 2 ≤ side
    → version_root_word bytes (side - 1) v ≡ word
    → IsRoot (roots_below bytes (side - 1) (versions_in bytes)) (side - 2)
    (version_tree bytes (side - 1) v) (word_name (side - 1 - 1) word)
is_root bytes side v zero lt low is =
    let block = block_word bytes side v zero lt low is in
    record { root = block.root; is_held = λ n e. cc; at = block.of_level }
is_root bytes side v (suc i) lt low is =
    let block = block_word bytes side v (suc i) lt low is in
    let there : version_root_word bytes (side - 1) v ≡ 0 → ⊥ =
    λ none. (let zero_is : suc i ≡ 0 = sym is ∙ none in omega (arith, zero_is)) in
    record {
      root = block.root;
      is_held = λ n e. record {
        weighs = λ f. weighs_root bytes (side - 1) (versions_in bytes) v f lt there;
      };
      at = block.of_level;
    }

shows : (bytes : List ℕ) (side v : ℕ) (root : Option Name) → v < versions_in bytes → 2 ≤ side
    → root ≡ word_name (side - 1 - 1) (version_root_word bytes (side - 1) v)
    → ShowsWorld (roots_below bytes (side - 1) (versions_in bytes)) (side - 2) root
    (version_has bytes side v)
shows bytes side v root lt low is = record {
  tree = version_tree bytes (side - 1) v;
  is_root = subst
      (λ (r : Option Name). IsRoot (roots_below bytes (side - 1) (versions_in bytes)) (side - 2)
      (version_tree bytes (side - 1) v) r) (sym is)
      (is_root bytes side v (version_root_word bytes (side - 1) v) lt low refl);
  shows = record {
    each = λ c there.
        λ t. has (side - 2) (shape_of (version_tree bytes (side - 1) v)) (sym (from_origin c.x) t)
        (sym (from_origin c.y) t) (sym (from_origin c.z) t);
  };
}

pub version_told : (o : Opened) (number : ℕ) (root : Option Name) (question : Question)
    (answer : Answer) → 2 ≤ o.side → HasVersion o.bytes (o.side - 1) number
    → IsRootOfVersion o.bytes (o.side - 1) number root
    → AnswersByRoot (opened_state o).held o.side root question answer
    → AnswersFileVersion o.bytes o.side number question answer
version_told o number root question answer low has is tells = record {
  v = has.0;
  is = has.1;
  tells = tells (version_has o.bytes o.side has.0) (version_tints o.bytes o.side has.0)
      (shows o.bytes o.side has.0 root has.1.below low (is has.0 has.1)) (λ c inside. refl);
}

-- ---- the whole look

pub looked : (bytes : List ℕ) (side number : ℕ) (asked question : Question) (answer : Answer)
    → 2 ≤ side → IsDagFile bytes (side - 1) → question_placed (2 ^ side) asked ≡ Ok question
    → AnswersFileVersion bytes side number question answer
    → AnswersLook bytes number asked answer
looked bytes side number asked question answer low file placed tells = record {
  side = side;
  low = low;
  file = file;
  question = question;
  placed = placed;
  tells = tells;
}

pub not_there : (bytes : List ℕ) (side number : ℕ) (asked : Question) → 2 ≤ side
    → IsDagFile bytes (side - 1) → (HasVersion bytes (side - 1) number → ⊥)
    → LacksAsked bytes number asked
not_there bytes side number asked low file none =
    record { side = side; low = low; file = file; lacks = inl none }

pub out_of_range : (bytes : List ℕ) (side number : ℕ) (asked : Question) (kind : ScriptKind)
    → 2 ≤ side → IsDagFile bytes (side - 1) → question_placed (2 ^ side) asked ≡ Err kind
    → LacksAsked bytes number asked
out_of_range bytes side number asked kind low file refused = record {
  side = side;
  low = low;
  file = file;
  lacks = inr (λ q ok. (let no : ⊥ = cc in no));
}
