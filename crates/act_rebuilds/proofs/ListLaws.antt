-- Models that are drawn one after another.
use Rattle.std.proofs.Common.{◌≡◌, ℕ, ◌+◌, ◌<◌, true, false, Bool, List, [], ◌∷◌, ◌++◌, All, length, take, slice_index_or, sym, ◌∙◌, ap, subst}
use Rattle.std.proofs.lemmas.List.{append_assoc, take_more}
use Rattle.std.proofs.lemmas.List.Elements.{All-head, All-nil, All-push, All-rest}
use Rattle.vox_read.specs.Contents.{Content, IsModel}
use Rattle.colour.specs.Planes.{TintsPlaces}
use Rattle.act_rebuilds.specs.Drawn.{HaveTints}

-- where cells have tints, those that were drawn have some
pub none_tinted : (tint : Bool) → HaveTints tint []
none_tinted true = All-nil TintsPlaces
none_tinted false = tt

pub one_tinted : (tint drawn : Bool) (ms : List Content) (x : Content) → HaveTints tint ms
    → drawn ≡ tint → (drawn ≡ true → TintsPlaces x) → HaveTints tint (ms ++ x ∷ [])
one_tinted true drawn ms x have same here = All-push TintsPlaces ms x have (here same)
one_tinted false drawn ms x have same here = tt

-- one more of a list that is lent
module _ (models : List Content) (i : ℕ) (x : Content) (lt : i < length models)
    (read : x ≡ slice_index_or models i x) where
  pub taken_more : (drawn grown : List Content) → drawn ≡ take i models → grown ≡ drawn ++ x ∷ []
      → grown ≡ take (i + 1) models
  taken_more drawn grown before pushed =
      pushed ∙ ap (λ (l : List Content). l ++ x ∷ []) before
      ∙ ap (λ (m : Content). take i models ++ m ∷ []) read ∙ sym (take_more models i x lt)

  pub taken_tinted : (tint drawn : Bool) → HaveTints tint (take i models) → drawn ≡ tint
      → (drawn ≡ true → TintsPlaces x) → HaveTints tint (take (i + 1) models)
  taken_tinted tint drawn have same here =
      subst (λ (l : List Content). HaveTints tint l)
      (ap (λ (m : Content). take i models ++ m ∷ []) read ∙ sym (take_more models i x lt))
      (one_tinted tint drawn (take i models) x have same here)

-- one more of a list that is owned
pub first_model : (model : Content) (rest all : List Content) → all ≡ model ∷ rest → All IsModel all
    → IsModel model
first_model model rest all is each =
    All-head IsModel model rest (subst (λ (ms : List Content). All IsModel ms) is each)

pub other_models : (model : Content) (rest all : List Content) → all ≡ model ∷ rest
    → All IsModel all → All IsModel rest
other_models model rest all is each = All-rest IsModel model rest all is each

pub owned_more : (own more rest left all : List Content) (model : Content)
    → more ≡ own ++ model ∷ [] → left ≡ model ∷ rest → own ++ left ≡ all → more ++ rest ≡ all
owned_more own more rest left all model pushed is so_far =
    ap (λ (ms : List Content). ms ++ rest) pushed
    ∙ append_assoc own (model ∷ []) rest
    ∙ ap (λ (ms : List Content). own ++ ms) (sym is)
    ∙ so_far

pub owned_tinted : (tint drawn : Bool) (own more : List Content) (model : Content)
    → more ≡ own ++ model ∷ [] → HaveTints tint own → drawn ≡ tint
    → (drawn ≡ true → TintsPlaces model) → HaveTints tint more
owned_tinted tint drawn own more model pushed have same here =
    subst (λ (ms : List Content). HaveTints tint ms) (sym pushed)
    (one_tinted tint drawn own model have same here)
