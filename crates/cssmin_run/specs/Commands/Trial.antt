-- What `trial` does: a made sheet merged, and what came of it on the output.
use Rattle.std.specs.Prelude.{◌≡◌, ℕ, false, List, [], Option, None}
use Rattle.merge_report.specs.Reports.{IsSummary}
use Rattle.overlap.specs.PairsParts.{PairsParts}
use Rattle.trial_gen.specs.Made.{made_sheet}
use Rattle.cssmin_run.specs.Change.{Change}
use Rattle.cssmin_run.specs.Commands.Min.{Merges}
use Rattle.cssmin_run.specs.Telling.{Tells}
use Rattle.cssmin_run.specs.Writing.{Writes}
use Rattle.cssmin_run.specs.declared.status.Status.{Status}
use Rattle.cssmin_run.specs.declared.status.Status.TheVariants.{Done, WriteFault, NoMemory}

-- The made sheet is merged as `min` merges it, and the text tells the numbers of that.
pub record Tries (rules : ℕ) (text : List ℕ) (held : Option PairsParts) : Type 0 where
  pub written : List ℕ
  pub merges : Merges None false (made_sheet rules) written [] held
  pub summary : IsSummary merges.pairs.answers (made_sheet rules) written text

-- What `trial` did, by its status (own). A made sheet is never refused.
abbrev pub TrialDoes : (rules : ℕ) → Status → (output err : Change) → (held : Option PairsParts) → Type 0
TrialDoes rules Done output err held = (text : List ℕ) × Tries rules text held × Writes text [] Done output err
TrialDoes rules WriteFault output err held = (text : List ℕ) × Tries rules text held × Writes text [] WriteFault output err
TrialDoes rules NoMemory output err held = (held ≡ None) × Tells NoMemory err
TrialDoes rules status output err held = ⊥
