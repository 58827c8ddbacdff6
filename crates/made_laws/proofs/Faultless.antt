-- A made sheet is the printed text of rules whose parts are those of the sample, and so it is read back.
use Rattle.std.proofs.Common.{◌≡◌, ℕ, ◌≤◌, cond, List, [], ◌∷◌, length, Ok, ap, ◌∙◌, subst, arith}
use Rattle.std.specs.Prelude.{IsOk, is_ok}
use Rattle.css_model.specs.declared.sheet.Item.{Item}
use Rattle.css_model.specs.declared.sheet.Item.TheVariants.{Rule}
use Rattle.css_model.specs.Sheets.ComesFrom.{ComesFrom}
use Rattle.css_model.specs.Sheets.Limits.{max_bytes}
use Rattle.css_model.specs.Sheets.Printed.{behind_mark, printed}
use Rattle.css_model.specs.Sheets.Sheet.{sheet_of}
use Rattle.css_model.specs.Sheets.Spelling.{AreSame}
use Rattle.css_model.specs.Text.Characters.{space}
use Rattle.trial_gen.specs.Made.{made_sheet}
use Rattle.print_laws.specs.Printing.{PrintedReadsBack}
use Rattle.sheet_laws.specs.Reading.{ReadIsSound}
use Rattle.made_laws.proofs.Rules.{AreRules, made_rules}
use Rattle.made_laws.proofs.Sample.{Samples, sample, samples}
use Rattle.made_laws.specs.Faultless.{MadeSheetsHaveNoFault}

made_is_read : PrintedReadsBack → (x : Samples) (k : ℕ) → k ≤ 2000 → AreRules x k (made_sheet k) → IsOk (sheet_of (made_sheet k))
made_is_read back x k few are = ap is_ok (subst (λ text. sheet_of text ≡ Ok read.0) is read.1)
  where
    is : printed sample are.rules ≡ made_sheet k
    is = ap (λ (text : List ℕ). behind_mark text) are.spell ∙ ap (λ b. cond b (space ∷ made_sheet k) (made_sheet k)) are.unmarked

    from : ComesFrom sample (Rule x.rule ∷ []) are.rules
    from = record { sound = are.sound; follows = are.follows; few_items = omega (arith, are.count); few_pairs = omega (arith, are.pairs) }

    short : length (printed sample are.rules) ≤ max_bytes
    short = omega (arith, ap length is, are.short)

    read : (again : List Item) × (sheet_of (printed sample are.rules) ≡ Ok again) × AreSame sample are.rules (printed sample are.rules) again × (printed (printed sample are.rules) again ≡ printed sample are.rules)
    read = back sample (Rule x.rule ∷ []) are.rules x.reads from short

pub made_faultless : ReadIsSound → PrintedReadsBack → MadeSheetsHaveNoFault
made_faultless sound back k few = let x : Samples = samples sound in made_is_read back x k few (made_rules x k)
