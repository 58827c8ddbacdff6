-- The positions that a selector tests, in the order in which they are written.
use Rattle.std.specs.Prelude.{◌≡◌, ◌&&◌, ◌||◌, Bool, false, if◌then◌else◌, reverse, List, [], ◌∷◌, ◌++◌, map, Result, Ok, codes}
use Rattle.std.specs.List.{flat_map}
use Rattle.css_model.specs.declared.position.AnB.{AnB}
use Rattle.css_model.specs.declared.reason.Reason.{Reason}
use Rattle.css_model.specs.declared.selector.Simple.{Simple}
use Rattle.css_model.specs.declared.selector.Test.{Test}
use Rattle.css_model.specs.declared.selector.Test.TheVariants.{Nth, NthLast}
use Rattle.css_model.specs.Documents.SelectorParts.{SelectorParts}
use Rattle.css_model.specs.Selectors.PseudoClasses.{first_position}
use Rattle.css_model.specs.Selectors.Reading.{selector_of_terms}
use Rattle.css_model.specs.Selectors.Terms.{Term}
use Rattle.css_model.specs.Selectors.Tokens.{is_function, is_word}
use Rattle.css_model.specs.Text.Characters.{colon}
use Rattle.css_model.specs.Text.Lexemes.{is_ident, is_sign_of}

abbrev pub position_of : Test → List AnB
position_of (Nth x) = x ∷ []
position_of (NthLast x) = x ∷ []
position_of _ = []

abbrev pub positions_in : List Simple → List AnB
positions_in simples = flat_map (λ simple. position_of simple.test) simples

-- a selector's compounds stand from right to left
abbrev pub positions_of : List (List Simple) → List AnB
positions_of chain = flat_map positions_in (reverse chain)

-- `nth-child()` or `nth-last-child()`
abbrev pub is_position_term : Term → Bool
is_position_term t = is_function t.kind && (is_word (codes "nth-child") t.name || is_word (codes "nth-last-child") t.name)

-- `first-child` or `last-child`
abbrev pub is_end_term : Term → Bool
is_end_term t = is_ident t.kind && (is_word (codes "first-child") t.name || is_word (codes "last-child") t.name)

-- what a term says of a position: its argument, or, with a colon before it, that it is the first or the last
abbrev pub position_at : Bool → Term → List (Result AnB Reason)
position_at behind t = if is_position_term t then t.argument ∷ [] else if behind && is_end_term t then Ok first_position ∷ [] else []

-- the positions that are written in terms, with a colon before them or without one
abbrev pub positions_written : Bool → List Term → List (Result AnB Reason)
positions_written behind [] = []
positions_written behind (t ∷ ts) = position_at behind t ++ positions_written (is_sign_of colon t.kind) ts

-- those of a selector that is read are the positions that it tests
abbrev pub WrittenAreTested : Type 0
WrittenAreTested = (terms : List Term) (selector : SelectorParts) → selector_of_terms terms ≡ Ok selector → positions_written false terms ≡ map Ok (positions_of selector.chain)
