-- What `style` does: a document and a style sheet on the input, on the output a line for each declaration that wins.
use Rattle.std.specs.Prelude.{◌≡◌, ℕ, List, Option, None}
use Rattle.css_model.specs.Sheets.Limits.{max_bytes}
use Rattle.overlap.specs.PairsParts.{PairsParts}
use Rattle.style_text.specs.Styled.{IsDocRefused, IsSheetRefused, IsStyled}
use Rattle.cssmin_run.specs.Change.{Change}
use Rattle.cssmin_run.specs.Placed.{nowhere}
use Rattle.cssmin_run.specs.Tasks.{Does, Silent}
use Rattle.cssmin_run.specs.declared.status.Status.{Status}
use Rattle.cssmin_run.specs.declared.status.Status.TheVariants.{SheetRefused, DocRefused}

-- the text is that of the winners in the document; no answers are held
abbrev pub TellsWinners : (read text : List ℕ) (held : Option PairsParts) → Type 0
TellsWinners read text held = IsStyled read text × (held ≡ None)

-- a document or a sheet is refused for its fault
abbrev pub StyleRefuses : Status → List ℕ → Type 0
StyleRefuses (SheetRefused fault) read = IsSheetRefused read fault
StyleRefuses (DocRefused fault) read = IsDocRefused read fault
StyleRefuses status read = ⊥

abbrev pub StyleDoes : Status → (input output err : Change) → (held : Option PairsParts) → Type 0
StyleDoes status input output err held = Does max_bytes nowhere (Silent TellsWinners) StyleRefuses status input output err held
