-- Voxels, lines and scripts one after another.
use Rattle.std.proofs.Common.{◌≡◌, ℕ, zero, suc, ◌+◌, ◌*◌, List, [], ◌∷◌, ◌++◌, length, map, refl, sym, ap, ◌∙◌, arith, add-zero, add-suc, add-one, append-nil}
use Rattle.std.specs.Prelude.{All}
use Rattle.std.specs.List.{flat_map}
use Rattle.std.specs.declared.vec.Vec.{Vec}
use Rattle.std.proofs.lemmas.List.{flat_map_more, length_push}
use Rattle.std.proofs.lemmas.List.{map-append}
use Rattle.std.proofs.lemmas.List.Elements.{All-nil, All-push}
use Rattle.vw_cell.specs.declared.cells.Cell.{Cell}
use Rattle.vox_read.specs.declared.voxels.Voxel.{Voxel}
use Rattle.vox_read.specs.Contents.{IsInsideModel}
use Rattle.history_model.specs.declared.acts.Act.{Act}
use Rattle.gen_load.specs.Draws.{state_after}
use Rattle.gen_load.specs.Loads.{voxel_from, voxels_from, edit_from, edit_state, line_state, edits_from, edit_line, script_from, scripts_from}
use Rattle.gen_load.proofs.Steps.{state_add}

-- so many voxels were drawn from the state g on
pub record HasDrawn (size : Cell) (g k : ℕ) (voxels : List Voxel) (now : ℕ) : Type 0 where
  pub are : voxels ≡ voxels_from g k
  pub number : length voxels ≡ k
  pub inside : All (IsInsideModel size) voxels
  pub state : now ≡ state_after g (4 * k)

pub none_drawn : (size : Cell) (g : ℕ) → HasDrawn size g 0 [] g
unfolding state_after voxels_from
none_drawn size g =
    record { are = refl; number = refl; inside = All-nil (IsInsideModel size); state = refl }

one_more : (g k : ℕ)
    → voxels_from g (k + 1) ≡ voxels_from g k ++ voxel_from (state_after g (4 * k)) ∷ []
unfolding voxels_from
one_more g k = rw add-one refl

pub one_drawn : (size : Cell) (g k : ℕ) (voxels : List Voxel) (now : ℕ) (v : Voxel) (new : ℕ)
    → HasDrawn size g k voxels now → v ≡ voxel_from now → IsInsideModel size v
    → new ≡ state_after now 4
    → HasDrawn size g (k + 1) (voxels ++ v ∷ []) new
one_drawn size g k voxels now v new drawn is inside moved =
    let all : 4 * k + 4 ≡ 4 * (k + 1) = omega arith in
    let same : v ≡ voxel_from (state_after g (4 * k)) = is ∙ ap voxel_from drawn.state in
    record {
      are = rw (drawn.are, same) (sym (one_more g k));
      number = (let more = length_push voxels v in omega (arith, more, drawn.number));
      inside = All-push (IsInsideModel size) voxels v drawn.inside inside;
      state = moved ∙ ap (λ (s : ℕ). state_after s 4) drawn.state ∙ state_add g (4 * k) 4
          ∙ ap (state_after g) all;
    }

-- so many edits were put behind the text, from the state g on
pub record HasPut (g x k : ℕ) (old text : List ℕ) (now : ℕ) : Type 0 where
  pub are : text ≡ old ++ flat_map edit_line (edits_from g x k)
  pub state : now ≡ line_state g k

pub none_put : (g x : ℕ) (old : List ℕ) → HasPut g x 0 old old g
unfolding edits_from line_state
none_put g x old = record { are = sym (append-nil old); state = refl }

one_edit : (g x k : ℕ)
    → edits_from g x (k + 1) ≡ edits_from g x k ++ edit_from (line_state g k) x ∷ []
unfolding edits_from
one_edit g x k = rw add-one refl

one_line : (g k : ℕ) → line_state g (k + 1) ≡ edit_state (line_state g k)
unfolding line_state
one_line g k = rw add-one refl

pub one_put : (g x k : ℕ) (old text : List ℕ) (now : ℕ) (act : Act) (more : List ℕ) (new : ℕ)
    → HasPut g x k old text now → act ≡ edit_from now x → more ≡ text ++ edit_line act
    → new ≡ edit_state now
    → HasPut g x (k + 1) old more new
one_put g x k old text now act more new put is line moved =
    let same : act ≡ edit_from (line_state g k) x = is ∙ ap (λ (s : ℕ). edit_from s x) put.state in
    record {
      are = line ∙ ap (λ (bs : List ℕ). bs ++ edit_line act) put.are
          ∙ flat_map_more edit_line old (edits_from g x k) act
          ∙ ap (λ (a : Act). old ++ flat_map edit_line (edits_from g x k ++ a ∷ [])) same
          ∙ ap (λ (acts : List Act). old ++ flat_map edit_line acts) (sym (one_edit g x k));
      state = moved ∙ ap edit_state put.state ∙ sym (one_line g k);
    }

-- so many scripts were written, from the state g on
pub record HasWritten {Z : Type 0} (g i : ℕ) (scripts : List (Vec ℕ Z)) (now : ℕ) : Type 0 where
  pub are : map (λ s. s.items) scripts ≡ scripts_from g i
  pub state : now ≡ line_state g (200 * i)

pub none_written : {Z : Type 0} (g : ℕ) → HasWritten {Z = Z} g 0 [] g
unfolding scripts_from line_state
none_written g = record { are = refl; state = refl }

lines_add : (g a b : ℕ) → line_state (line_state g a) b ≡ line_state g (a + b)
unfolding line_state
lines_add g a zero = rw add-zero refl
lines_add g a (suc b) = rw add-suc (ap edit_state (lines_add g a b))

one_script : (g i : ℕ)
    → scripts_from g (i + 1) ≡ scripts_from g i ++ script_from (line_state g (200 * i))
    (64 * i) ∷ []
unfolding scripts_from
one_script g i = rw add-one refl

pub one_written : {Z : Type 0} (g i : ℕ) (scripts : List (Vec ℕ Z)) (now : ℕ) (script : Vec ℕ Z)
    (new : ℕ) → HasWritten g i scripts now → script.items ≡ script_from now (64 * i)
    → new ≡ line_state now 200
    → HasWritten g (i + 1) (scripts ++ script ∷ []) new
one_written {Z = Z} g i scripts now script new written is moved =
    let all : 200 * i + 200 ≡ 200 * (i + 1) = omega arith in
    let same : script.items ≡ script_from (line_state g (200 * i)) (64 * i) =
    is ∙ ap (λ (s : ℕ). script_from s (64 * i)) written.state in
    record {
      are = map-append (λ (s : Vec ℕ Z). s.items) scripts (script ∷ [])
          ∙ ap (λ (xs : List (List ℕ)). xs ++ script.items ∷ []) written.are
          ∙ ap (λ (text : List ℕ). scripts_from g i ++ text ∷ []) same ∙ sym (one_script g i);
      state = moved ∙ ap (λ (s : ℕ). line_state s 200) written.state ∙ lines_add g (200 * i) 200
          ∙ ap (line_state g) all;
    }
