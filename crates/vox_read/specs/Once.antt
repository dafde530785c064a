-- A file says one thing.
use Rattle.std.proofs.Common.{◌≡◌, ℕ, ◌<◌, ◌≤◌, List, Result, Ok, Err, sym, ap, subst, ◌∙◌, inl, inr, ◌⊎◌, arith}
use Rattle.std.proofs.lemmas.Bool.{cases_order}
use Rattle.vox_chunk.specs.declared.faults.VoxFault.{VoxFault}
use Rattle.vox_chunk.specs.Frames.{Bounds, header_of, place_of}
use Rattle.vox_read.specs.Contents.{Content}
use Rattle.vox_read.specs.Children.{models_before}
use Rattle.vox_read.specs.Files.{AreRead, Breaks, IsFirstFault, HasModels, ReadsModels}

-- no child is read behind the end
not_behind : (bytes : List ℕ) (main : Bounds) (i j : ℕ) → AreRead bytes main j
    → main.end ≤ place_of bytes main.first i → i < j → ⊥
not_behind bytes main i j read ends lt =
    let head = (read.frames i lt).head in omega (arith, head, ends)

-- a child that was read breaks no rule
not_broken : (bytes : List ℕ) (main : Bounds) (i j : ℕ) (fault : VoxFault) → AreRead bytes main j
    → Breaks bytes main i fault → i < j → ⊥
not_broken bytes main i j fault read (inl (not_fits, is)) lt = not_fits (read.frames i lt)
not_broken bytes main i j fault read (inr (fits, is)) lt = let none = read.fields i lt in cc

decide : (i j : ℕ) → (i < j → ⊥) → (j < i → ⊥) → (i ≡ j) ⊎ ((i < j) ⊎ (j < i)) → i ≡ j
decide i j no_less no_more (inl same) = same
decide i j no_less no_more (inr (inl less)) = absurd (no_less less)
decide i j no_less no_more (inr (inr more)) = absurd (no_more more)

-- neither of two numbers is below the other
neither : (i j : ℕ) → (i < j → ⊥) → (j < i → ⊥) → i ≡ j
neither i j no_less no_more = decide i j no_less no_more (cases_order i j)

one_main : (bytes : List ℕ) {a b : Bounds} → header_of bytes ≡ Ok a → header_of bytes ≡ Ok b → a ≡ b
one_main bytes of_a of_b = cc

one_list : (bytes : List ℕ) (a b : List Content) → HasModels bytes a → HasModels bytes b → a ≡ b
one_list bytes a b of_a of_b =
    let same : of_b.main ≡ of_a.main = one_main bytes of_b.header of_a.header in
    let read : AreRead bytes of_a.main of_b.children =
    subst (λ (m : Bounds). AreRead bytes m of_b.children) same of_b.read
    in
    let ends : of_a.main.end ≤ place_of bytes of_a.main.first of_b.children =
    subst (λ (m : Bounds). m.end ≤ place_of bytes m.first of_b.children) same of_b.ends
    in
    let number : of_a.children ≡ of_b.children =
    neither of_a.children of_b.children
    (not_behind bytes of_a.main of_a.children of_b.children read of_a.ends)
    (not_behind bytes of_a.main of_b.children of_a.children of_a.read ends)
    in
    of_a.are ∙ ap (models_before bytes of_a.main.first) number
    ∙ sym (subst (λ (m : Bounds). b ≡ models_before bytes m.first of_b.children) same of_b.are)

list_or_fault : (bytes : List ℕ) (a : List Content) (fault : VoxFault) → HasModels bytes a
    → IsFirstFault bytes fault → ⊥
list_or_fault bytes a fault has first =
    let same : first.main ≡ has.main = one_main bytes first.header has.header in
    let before : AreRead bytes has.main first.child =
    subst (λ (m : Bounds). AreRead bytes m first.child) same first.before
    in
    let begins : place_of bytes has.main.first first.child < has.main.end =
    subst (λ (m : Bounds). place_of bytes m.first first.child < m.end) same first.begins
    in
    let breaks : Breaks bytes has.main first.child fault =
    subst (λ (m : Bounds). Breaks bytes m first.child fault) same first.breaks
    in
    let number : has.children ≡ first.child =
    neither has.children first.child
    (not_behind bytes has.main has.children first.child before has.ends)
    (not_broken bytes has.main first.child has.children fault has.read breaks)
    in
    let ends : has.main.end ≤ place_of bytes has.main.first first.child =
    subst (λ (n : ℕ). has.main.end ≤ place_of bytes has.main.first n) number has.ends
    in
    omega (arith, ends, begins)

one_break : (bytes : List ℕ) (main : Bounds) (i : ℕ) (a b : VoxFault) → Breaks bytes main i a
    → Breaks bytes main i b → a ≡ b
one_break bytes main i a b (inl (not_a, is_a)) (inl (not_b, is_b)) = is_a ∙ sym is_b
one_break bytes main i a b (inl (not_a, is_a)) (inr (fits, is_b)) = absurd (not_a fits)
one_break bytes main i a b (inr (fits, is_a)) (inl (not_b, is_b)) = absurd (not_b fits)
one_break bytes main i a b (inr (fits, is_a)) (inr (fit, is_b)) = cc

one_fault : (bytes : List ℕ) (a b : VoxFault) → IsFirstFault bytes a → IsFirstFault bytes b → a ≡ b
one_fault bytes a b of_a of_b =
    let same : of_b.main ≡ of_a.main = one_main bytes of_b.header of_a.header in
    let before : AreRead bytes of_a.main of_b.child =
    subst (λ (m : Bounds). AreRead bytes m of_b.child) same of_b.before
    in
    let breaks : Breaks bytes of_a.main of_b.child b =
    subst (λ (m : Bounds). Breaks bytes m of_b.child b) same of_b.breaks
    in
    let number : of_b.child ≡ of_a.child =
    neither of_b.child of_a.child
    (not_broken bytes of_a.main of_b.child of_a.child b of_a.before breaks)
    (not_broken bytes of_a.main of_a.child of_b.child a before of_a.breaks)
    in
    one_break bytes of_a.main of_a.child a b of_a.breaks
    (subst (λ (n : ℕ). Breaks bytes of_a.main n b) number breaks)

pub one_reading : (bytes : List ℕ) (a b : Result (List Content) VoxFault) → ReadsModels bytes a
    → ReadsModels bytes b → a ≡ b
one_reading bytes (Ok a) (Ok b) of_a of_b = ap Ok (one_list bytes a b of_a of_b)
one_reading bytes (Ok a) (Err b) of_a (inl is) =
    let is_a = of_a.header in absurd (let no : ⊥ = cc in no)
one_reading bytes (Ok a) (Err b) of_a (inr first) = absurd (list_or_fault bytes a b of_a first)
one_reading bytes (Err a) (Ok b) (inl is) of_b =
    let is_b = of_b.header in absurd (let no : ⊥ = cc in no)
one_reading bytes (Err a) (Ok b) (inr first) of_b = absurd (list_or_fault bytes b a of_b first)
one_reading bytes (Err a) (Err b) (inl is_a) (inl is_b) = cc
one_reading bytes (Err a) (Err b) (inl is_a) (inr first) =
    let is_b = first.header in absurd (let no : ⊥ = cc in no)
one_reading bytes (Err a) (Err b) (inr first) (inl is_b) =
    let is_a = first.header in absurd (let no : ⊥ = cc in no)
one_reading bytes (Err a) (Err b) (inr of_a) (inr of_b) = ap Err (one_fault bytes a b of_a of_b)
