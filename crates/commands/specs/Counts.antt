-- What the command `count` tells, or is refused for.
use Rattle.std.specs.Prelude.{◌≡◌, ℕ, [], ◌∷◌, false, List, Ok, Err, ⊤}
use Rattle.std.proofs.Common.{refl, sym, ◌∙◌}
use Rattle.vw_io.specs.Outputs.{Named}
use Rattle.vox_read.specs.Contents.{Content, cells_of_all}
use Rattle.vox_read.specs.Files.{ReadsModels}
use Rattle.commands.specs.declared.refusals.TextRefused.{TextRefused}
use Rattle.commands.specs.declared.refusals.TextRefused.TheVariants.{Vox, Memory}
use Rattle.commands.specs.Meanings.{Meaning, BeginsNothing, file_in}
use Rattle.commands.specs.Inputs.{vox_input}
use Rattle.commands.specs.Judging.{AgreesWith, FilesAreRead, IsJudged}
use Rattle.commands.specs.Judged.{models_once, models_computed, computed_is_some}
use Rattle.commands.specs.Verdicts.{Verdict, Fine, JudgesModels}

-- the file gives models, and the number is that of their cells. Nothing is written
pub record CellsCounted (texts : List (List ℕ)) (number : ℕ) (outputs : List Named) : Type 0 where
  pub models : List Content
  pub gives : ReadsModels (file_in texts) (Ok models)
  pub counted : number ≡ cells_of_all models
  pub none : outputs ≡ []

-- the bytes give these models, and the number is that of their cells
pub record CountsFile (bytes : List ℕ) (number : ℕ) : Type 0 where
  pub models : List Content
  pub gives : ReadsModels bytes (Ok models)
  pub counted : number ≡ cells_of_all models

-- a VOX file alone is refused; want of memory says nothing
abbrev pub RefusesVox : List ℕ → TextRefused → Type 0
RefusesVox bytes (Vox fault) = ReadsModels bytes (Err fault)
RefusesVox bytes Memory = ⊤
RefusesVox bytes _ = ⊥

abbrev pub count_means : List ℕ → Meaning ℕ
count_means file = record {
  inputs = vox_input file ∷ [];
  gives = CellsCounted;
  begins = BeginsNothing;
  refuses = λ texts r. RefusesVox (file_in texts) r;
  judges = λ texts v. JudgesModels (λ models w. w ≡ Fine) (file_in texts) v;
  journal = false;
}

-- ---- a law: what is judged

abbrev nothing_more : List Content → Verdict → Type 0
nothing_more models v = v ≡ Fine

refused_by : (bytes : List ℕ) (r : TextRefused) → RefusesVox bytes r
    → AgreesWith (JudgesModels nothing_more bytes) r
refused_by bytes (Vox fault) says = record { reading = Err fault; says = says; judged = refl }
refused_by bytes Memory says = tt
refused_by bytes _ says = absurd says

computed : (bytes : List ℕ) → FilesAreRead → (v : Verdict) × JudgesModels nothing_more bytes v
computed bytes readings =
    models_computed nothing_more bytes readings (λ models says. (Fine, refl))

pub count_judged : (file : List ℕ) → IsJudged (count_means file)
count_judged file = record {
  one = λ texts v w of_v of_w.
      models_once nothing_more (λ models a b of_a of_b. of_a ∙ sym of_b) (file_in texts) v w of_v
      of_w;
  given = λ texts number outputs g.
      record { reading = Ok g.models; says = g.gives; judged = refl };
  begun = λ texts outputs b. absurd b;
  refused = λ texts r says. refused_by (file_in texts) r says;
  some = λ readings texts none.
      computed_is_some (JudgesModels nothing_more (file_in texts))
      (computed (file_in texts) readings) none;
  computed = λ readings told texts. computed (file_in texts) readings;
}
