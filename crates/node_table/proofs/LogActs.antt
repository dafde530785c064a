-- What the acts under the log's turn rest on.
use Rattle.std.proofs.Common.{◌≡◌, ◌⊎◌, ℕ, ◌^◌, ◌<◌, ◌≤◌, Option, Some, List, [], ◌∷◌, ◌++◌, sym, ap, ◌∙◌, subst, ⊎_elim, arith}
use Rattle.std.specs.Prelude.{slice_index}
use Rattle.std.specs.List.{Contains}
use Rattle.node_words.specs.declared.shapes.names.Name.{Name}
use Rattle.node_words.specs.shapes.Tree.{Tree, Gone, root_of}
use Rattle.node_words.proofs.OfShapes.TreeLaws.{gone_from_root}
use Rattle.node_words.specs.Held.{IsHeld}
use Rattle.node_words.specs.Plans.{Layout}
use Rattle.node_words.proofs.HeldLaws.{held_reached}
use Rattle.core_laws.specs.places.WordIds.{WordId}
use Rattle.core_laws.specs.places.Words.{word_of_child}
use Rattle.history_model.specs.declared.histories.Record.{Record}
use Rattle.core_laws.specs.LogEvents.{Appends, Forgets}
use Rattle.core_laws.specs.Events.{StoreStep, puts_root, takes_root}
use Rattle.history_model.specs.declared.histories.Mark.{Mark}
use Rattle.vox_read.specs.Contents.{Content}
use Rattle.table_rule.specs.LogWords.{record_of_words}
use Rattle.table_rule.specs.Rules.{MayWrite}
use Rattle.table_rule.specs.ViewFacts.{ViewFacts}
use Rattle.table_rule.specs.Views.{SeatView}
use Rattle.table_rule.proofs.Decoding.{record_back}
use Rattle.table_rule.proofs.OwnLaws.{first_or_more}
use Rattle.table_rule.specs.LogChanges.{HasNextWords, IsAppendable, Appended}
use Rattle.table_rule.proofs.Appending.{side_small}
use Rattle.node_table.specs.LogTurns.{AreNextWords, MayAppendWords, AreStored, ForAppended}
use Rattle.node_table.proofs.StoreSteps.{as_step}

-- a list of one number
pub one_number : (numbers : List ℕ) (number : ℕ) → numbers ≡ number ∷ [] → number < 64
    → (n : ℕ) → Contains numbers n → n < 64
one_number numbers number is low n c =
    first_or_more number [] n (subst (λ (l : List ℕ). Contains l n) is c)
    (λ e. omega arith) (λ more. absurd (let k = more.1 in omega arith))

pub same_number : (m n : ℕ) (numbers : List ℕ) → numbers ≡ m ∷ [] → numbers ≡ n ∷ [] → m ≡ n
same_number m n numbers a b = ap (λ (l : List ℕ). slice_index l 0) (sym a ∙ b)

-- words say one record
pub said_record : (p : Layout) (v : SeatView) (words : List ℕ) (r : Record) (root : Tree)
    → p.side ≤ 12 → ((n : ℕ) → Contains v.numbers n → n < 64) → AreNextWords v words r
    → IsAppendable p v r root → record_of_words (slice_index words) ≡ r
said_record p v words r root side few are may =
    ap (λ (l : List ℕ). record_of_words (slice_index l)) are.are
    ∙ record_back (2 ^ p.side) v.models (v.log.seen.records ++ r ∷ []) r (side_small p.side side)
    may.fits (let low = few r.session are.own in omega arith) may.is_record

-- held trees with one root are one, where there is none too
pub one_tree : (v : SeatView) (t u : Tree) → ViewFacts v → (t ≡ Gone) ⊎ IsHeld v.held t
    → (u ≡ Gone) ⊎ IsHeld v.held u → root_of t ≡ root_of u → t ≡ u
one_tree v t u tells a b same = ⊎_elim
    (λ (gone : t ≡ Gone). gone ∙ sym (gone_from_root u (sym same ∙ ap root_of gone)))
    (λ (h : IsHeld v.held t). ⊎_elim
    (λ (gone : u ≡ Gone). gone_from_root t (same ∙ ap root_of gone) ∙ sym gone)
    (λ (i : IsHeld v.held u). tells.trees.named t u (held_reached v.held t h)
    (held_reached v.held u i) same) b) a

module _ (p : Layout) (v : SeatView) (words : List ℕ) (root : Option Name) (side : p.side ≤ 12)
    (few : (n : ℕ) → Contains v.numbers n → n < 64) (tells : ViewFacts v)
    (m : MayAppendWords p v words root) where
  -- what was appended, for whatever record and tree may be
  pub appended_any : (w : SeatView) → Appended v m.change m.tree w
      → ForAppended p v words root (λ r t. Appended v r t w)
  appended_any w a r t are is may =
      let record_is : m.change ≡ r =
      sym (said_record p v words m.change m.tree side few m.words_are m.may)
      ∙ said_record p v words r t side few are may in
      let tree_is : m.tree ≡ t =
      one_tree v m.tree t tells m.may.is_held may.is_held (m.root_is ∙ sym is) in
      subst (λ (x : Record × Tree). Appended v x.0 x.1 w) (λ i. (record_is i, tree_is i)) a

  pub next_words : AreStored v words root → HasNextWords v m.change (root_of m.tree)
  next_words s = record {
    words = λ i low. s.each i low
        ∙ ap (λ (l : List ℕ). Some (slice_index l i)) m.words_are.are;
    root_word = s.root_word
        ∙ ap (λ (o : Option Name). Some (word_of_child o))
        (sym m.root_is);
  }

-- each step on the log is one of the store
module _ (p : Layout) (seat : ℕ) (v : SeatView) where
  pub append_step : (x : WordId) (f : ℕ → ℕ) (models : List Content) (r : Record)
      (root : Option Name) (tells : ℕ → SeatView → Type 0)
      → MayWrite p seat v x f (Appends p models seat r root) tells
      → MayWrite p seat v x f (StoreStep p seat) tells
  append_step x f models r root tells may =
      as_step p seat v x f (Appends p models seat r root) tells
      (λ a b e. puts_root _ root e.puts) may

  pub forget_step : (x : WordId) (f : ℕ → ℕ) (m : Mark) (tells : ℕ → SeatView → Type 0)
      → MayWrite p seat v x f (Forgets p seat m) tells
      → MayWrite p seat v x f (StoreStep p seat) tells
  forget_step x f m tells may =
      as_step p seat v x f (Forgets p seat m) tells (λ a b e. takes_root m.version e.takes) may
