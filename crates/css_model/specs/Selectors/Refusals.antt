-- What is read at the front of terms, and the reason against a term that no rule of the grammar allows (own).
use Rattle.std.specs.Prelude.{ℕ, if◌then◌else◌, List, [], ◌∷◌, Result}
use Rattle.css_model.specs.declared.reason.Reason.{Reason}
use Rattle.css_model.specs.declared.reason.Reason.TheVariants.{Namespace, NotAllowed}
use Rattle.css_model.specs.Text.Lexemes.{is_delim_of}
use Rattle.css_model.specs.Selectors.Terms.{Term}
use Rattle.css_model.specs.Selectors.Tokens.{bar}

-- what is read, and how many terms it takes; or the reason against them
abbrev pub Read : Type 0 → Type 0
Read A = Result (A × ℕ) Reason

-- against a term: a `|` would be that of a namespace (Selectors 3, section 6.1.1)
abbrev pub against : Term → Reason
against x = if is_delim_of bar x.kind then Namespace else NotAllowed

-- against the first of these terms, or against an end where one has to follow
abbrev pub against_first : List Term → Reason
against_first [] = NotAllowed
against_first (x ∷ xs) = against x
