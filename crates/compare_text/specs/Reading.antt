-- How a text of any length is read.
use Rattle.std.specs.Prelude.{◌≡◌, ℕ, Result, Ok, Err}
use Rattle.css_model.specs.Documents.SelectorParts.{SelectorParts}
use Rattle.sel_parse.specs.declared.error.SelError.{SelError}
use Rattle.sel_parse.specs.declared.error.SelError.TheVariants.{Outside, NoMemory}

-- the answer is that of the definition, unless memory ran out
abbrev pub Reads : Result SelectorParts SelError → Result SelectorParts ℕ → Type 0
Reads (Ok selector) read = read ≡ Ok selector
Reads (Err (Outside reason)) read = read ≡ Err reason
Reads (Err NoMemory) read = Unit {0}
