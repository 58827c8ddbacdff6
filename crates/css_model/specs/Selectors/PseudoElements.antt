-- Pseudo-elements (Selectors 3, section 7).
use Rattle.std.specs.Prelude.{ℕ, ◌&&◌, ◌||◌, Bool, if◌then◌else◌, List, [], ◌∷◌, Option, Some, None, Ok, Err, codes, is_some}
use Rattle.css_model.specs.declared.reason.Reason.{Reason}
use Rattle.css_model.specs.declared.reason.Reason.TheVariants.{NotAllowed, PseudoElement}
use Rattle.css_model.specs.declared.selector.Pseudo.{Pseudo}
use Rattle.css_model.specs.declared.selector.Pseudo.TheVariants.{FirstLine, FirstLetter, Before, After}
use Rattle.css_model.specs.Text.Characters.{colon}
use Rattle.css_model.specs.Text.Lexemes.{is_ident}
use Rattle.css_model.specs.Text.Lexemes.{is_sign_of}
use Rattle.css_model.specs.Selectors.Refusals.{Read, against}
use Rattle.css_model.specs.Selectors.Terms.{Term, right_behind}
use Rattle.css_model.specs.Selectors.Tokens.{is_function, row_of}

abbrev pub pseudo_elements : List (List ℕ × Pseudo)
pseudo_elements =
    (codes "first-line", FirstLine) ∷ (codes "first-letter", FirstLetter) ∷ (codes "before", Before) ∷ (codes "after", After) ∷ []

-- behind a colon: a second one, or one of the four names, which may stand behind one colon too
abbrev pub is_pseudo_element : Term → Bool
is_pseudo_element x = is_sign_of colon x.kind || (is_ident x.kind && is_some (row_of x.name pseudo_elements))

abbrev pub element_or : Reason → Option Pseudo → ℕ → Read Pseudo
element_or reason None n = Err reason
element_or reason (Some element) n = Ok (element, n)

-- right behind two colons
abbrev pub behind_colons : List Term → Read Pseudo
behind_colons [] = Err NotAllowed
behind_colons (x ∷ xs) =
    if is_ident x.kind then element_or PseudoElement (row_of x.name pseudo_elements) 3
    else if is_function x.kind then Err PseudoElement
    else Err (against x)

-- right behind one colon
abbrev pub pseudo_element_at : List Term → Read Pseudo
pseudo_element_at [] = Err NotAllowed
pseudo_element_at (x ∷ xs) =
    if is_sign_of colon x.kind then behind_colons (right_behind x.gap xs)
    else if is_ident x.kind then element_or (against x) (row_of x.name pseudo_elements) 2
    else Err (against x)
