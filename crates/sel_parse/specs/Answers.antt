-- How the parts of the reader answer.
use Rattle.std.specs.Prelude.{◌≡◌, ℕ, Result, Ok, Err}
use Rattle.css_model.specs.declared.reason.Reason.{Reason}
use Rattle.css_model.specs.Selectors.Compounds.{SoFar}
use Rattle.css_model.specs.Selectors.Reasons.{number_of}
use Rattle.sel_parse.specs.declared.error.Refusal.{Refusal}
use Rattle.sel_parse.specs.declared.error.Refusal.TheVariants.{Outside, NoMemory}
use Rattle.sel_parse.specs.declared.error.SelError.{SelError}
use Rattle.sel_parse.specs.declared.error.SelError.TheVariants as error

-- a refusal is that of the definition, unless memory ran out
abbrev pub Refuses : {A : Type 0} → Refusal → Result A Reason → Type 0
Refuses (Outside reason) read = read ≡ Err reason
Refuses NoMemory read = Unit {0}

-- the answer is that of the definition, unless memory ran out
abbrev pub Reads : {A : Type 0} → Result A Refusal → Result A Reason → Type 0
Reads (Ok x) read = read ≡ Ok x
Reads (Err e) read = Refuses e read

-- the same of a step that leaves this state: how many terms it takes
abbrev pub Steps : SoFar → Result ℕ Refusal → Result (SoFar × ℕ) Reason → Type 0
Steps new (Ok n) read = read ≡ Ok (new, n)
Steps new (Err e) read = Refuses e read

-- An error is that of the definition by its number, unless memory ran out.
abbrev pub IsError : {A : Type 0} → SelError → Result A Reason → Type 0
IsError (error.Outside number) read = (reason : Reason) × (read ≡ Err reason) × (number ≡ number_of reason)
IsError error.NoMemory read = Unit {0}

-- the public answer is that of the definition, unless memory ran out
abbrev pub Answers : {A : Type 0} → Result A SelError → Result A Reason → Type 0
Answers (Ok x) read = read ≡ Ok x
Answers (Err e) read = IsError e read
