-- How the answer of the reader relates to what a sheet is read as.
use Rattle.std.specs.Prelude.{◌≡◌, true, List, [], ◌∷◌, ℕ, Option, Some, None, Result, Ok, Err}
use Rattle.css_model.specs.declared.fault.SheetFault.{SheetFault}
use Rattle.css_model.specs.declared.token.Token.{Token}
use Rattle.css_model.specs.declared.token.TokenFault.{TokenFault}
use Rattle.css_model.specs.Sheets.Sheet.{token_fault}
use Rattle.css_model.specs.Text.Tokens.{Stream, tokens}
use Rattle.css_tokens.specs.declared.reader.Tokens.{Tokens}
use Rattle.css_tokens.specs.Left.{left}
use Rattle.sheet_read.specs.declared.fault.SheetError.{SheetError}
use Rattle.sheet_read.specs.declared.fault.SheetError.TheVariants as errors
use Rattle.sheet_read.specs.Steps.{all_tokens, tokens_of}

-- a whole sheet is refused for its fault; memory may run out at any sheet
abbrev pub Refuses : {Y : Type 0} → SheetError → Result Y SheetFault → Type 0
Refuses (errors.Fault fault) read = read ≡ Err fault
Refuses errors.NoMemory read = Unit {0}

-- what a reader of a sheet gave, seen by view, is what the sheet is read as, unless memory ran out
abbrev pub Answers : {X Y : Type 0} → (X → Y) → Result X SheetError → Result Y SheetFault → Type 0
Answers view (Ok x) read = read ≡ Ok (view x)
Answers view (Err e) read = Refuses e read

-- a reader before the tokens of a source, or the source's fault
abbrev pub Opens : List ℕ → Result Tokens SheetFault → Type 0
Opens source (Ok reader) = (left reader ≡ tokens source true) × (tokens_of source ≡ all_tokens (tokens source true).fault (tokens source true).tokens)
Opens source (Err fault) = tokens_of source ≡ Err fault

-- the next token of a stream, none at its end, or its fault
abbrev pub GivesNext : Stream → Result (Option Token) SheetFault → Stream → Type 0
GivesNext old (Ok (Some t)) new = old ≡ record { tokens = t ∷ new.tokens; fault = new.fault }
GivesNext old (Ok None) new = (old ≡ record { tokens = []; fault = None }) × (new ≡ old)
GivesNext old (Err fault) new = (f : TokenFault) × (old ≡ record { tokens = []; fault = Some f }) × (fault ≡ token_fault f)
