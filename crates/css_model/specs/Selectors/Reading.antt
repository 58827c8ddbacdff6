-- Selectors from their texts (Selectors 3, section 10.1): the selector, or the reason that comes first from left
-- to right (own).
use Rattle.std.specs.Prelude.{ℕ, zero, suc, List, [], ◌∷◌, ◌++◌, map, reverse, Option, Some, None, Result, Ok, Err, false}
use Rattle.css_model.specs.declared.reason.Reason.{Reason}
use Rattle.css_model.specs.declared.reason.Reason.TheVariants.{NotAllowed}
use Rattle.css_model.specs.declared.selector.Simple.{Simple}
use Rattle.css_model.specs.declared.token.Gap.{Gap}
use Rattle.css_model.specs.declared.token.Gap.TheVariants as gap
use Rattle.css_model.specs.declared.token.Lexeme.{Lexeme}
use Rattle.css_model.specs.declared.token.TokenFault.{TokenFault}
use Rattle.css_model.specs.Text.Kept.{solid}
use Rattle.css_model.specs.Text.Lexemes.{lexemes}
use Rattle.css_model.specs.Documents.SelectorParts.{SelectorParts}
use Rattle.css_model.specs.Text.Tokens.{tokens}
use Rattle.css_model.specs.Lists.{less_one}
use Rattle.css_model.specs.Selectors.Compounds.{SoFar, nothing_yet, step}
use Rattle.css_model.specs.Selectors.Refusals.{Read}
use Rattle.css_model.specs.Selectors.Terms.{Term, terms}

-- At the end a compound is there. A selector's parts stand from right to left.
abbrev pub finish : SoFar → List Simple → Result SelectorParts Reason
finish s [] = Err NotAllowed
finish s (c ∷ cs) = Ok (record { chain = reverse (s.chain ++ (c ∷ cs) ∷ []); links = reverse s.links; pseudo = s.pseudo })

abbrev pub state_after : SoFar → Read SoFar → SoFar
state_after s (Err reason) = s
state_after s (Ok read) = read.0

abbrev pub left_after : Read SoFar → ℕ
left_after (Err reason) = 0
left_after (Ok read) = less_one read.1

abbrev pub unless_refused : {A : Type 0} → Read SoFar → Result A Reason → Result A Reason
unless_refused (Err reason) later = Err reason
unless_refused (Ok read) later = later

-- the selector of terms behind this gap, of which the next `left` belong to what was read
abbrev pub read_from : SoFar → Gap → ℕ → List Term → Result SelectorParts Reason
read_from s g left [] = finish s s.compound
read_from s g (suc left) (x ∷ xs) = read_from s x.gap left xs
read_from s g zero (x ∷ xs) =
    let read = step s s.pseudo g x xs in
    unless_refused read (read_from (state_after s read) x.gap (left_after read) xs)

abbrev pub selector_of_terms : List Term → Result SelectorParts Reason
selector_of_terms xs = read_from nothing_yet gap.Nothing 0 xs

-- the selector of a part of a prelude
abbrev pub selector_of_lexemes : List ℕ → List Lexeme → Result SelectorParts Reason
selector_of_lexemes source xs = selector_of_terms (terms (map (solid source) xs))

-- The selector of a text. Where its tokens end in a fault, that is a token that is not allowed.
abbrev pub unless_fault : Option TokenFault → Result SelectorParts Reason → Result SelectorParts Reason
unless_fault None read = read
unless_fault (Some fault) (Ok selector) = Err NotAllowed
unless_fault (Some fault) (Err reason) = Err reason

abbrev pub selector_of : List ℕ → Result SelectorParts Reason
selector_of text = let stream = tokens text false in unless_fault stream.fault (selector_of_lexemes text (lexemes stream.tokens))
