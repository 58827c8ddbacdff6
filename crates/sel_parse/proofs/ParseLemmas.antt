-- The selector of a text, by its tokens that are no white space.
use Rattle.std.proofs.Common.{◌≡◌, ℕ, Bool, true, false, List, [], Option, Some, None, Result, Ok, Err, refl, sym, ap, ap₂, ◌∙◌}
use Rattle.std.specs.Prelude.{is_some}
use Rattle.css_model.specs.declared.reason.Reason.{Reason}
use Rattle.css_model.specs.declared.reason.Reason.TheVariants.{NotAllowed}
use Rattle.css_model.specs.declared.token.TokenFault.{TokenFault}
use Rattle.css_model.specs.Documents.SelectorParts.{SelectorParts}
use Rattle.css_model.specs.Selectors.Reading.{selector_of, selector_of_terms, unless_fault}
use Rattle.css_model.specs.Selectors.Terms.{terms_from}
use Rattle.css_model.specs.Selectors.Tokens.{SelectorToken}
use Rattle.css_model.specs.Text.Tokens.{tokens}
use Rattle.sel_parse.specs.Tokens.{tokens_of}
use Rattle.sel_parse.proofs.TokenLemmas.{tokens_of_lexemes}

-- what was read, where a fault follows or none does
abbrev before_fault : Bool → Result SelectorParts Reason → Result SelectorParts Reason
before_fault true (Ok selector) = Err NotAllowed
before_fault true (Err reason) = Err reason
before_fault false read = read

by_fault : (fault : Option TokenFault) (read : Result SelectorParts Reason) → unless_fault fault read ≡ before_fault (is_some fault) read
by_fault None read = refl
by_fault (Some f) (Ok selector) = refl
by_fault (Some f) (Err reason) = refl

selector_of_tokens : (text : List ℕ) (xs : List SelectorToken) (fault : Bool) → xs ≡ tokens_of text (tokens text false).tokens → fault ≡ is_some (tokens text false).fault
    → selector_of text ≡ before_fault fault (selector_of_terms (terms_from 0 0 xs))
selector_of_tokens text xs fault all ends =
    by_fault (tokens text false).fault _
    ∙ ap₂ (λ (f : Bool) (ys : List SelectorToken). before_fault f (selector_of_terms (terms_from 0 0 ys))) (sym ends)
    (tokens_of_lexemes text [] (tokens text false).tokens ∙ sym all)

-- whole
pub is_whole : (text : List ℕ) (xs : List SelectorToken) (selector : SelectorParts) → xs ≡ tokens_of text (tokens text false).tokens
    → false ≡ is_some (tokens text false).fault → selector_of_terms (terms_from 0 0 xs) ≡ Ok selector → selector_of text ≡ Ok selector
is_whole text xs selector all ends read = selector_of_tokens text xs false all ends ∙ read

-- read up to a fault
pub is_cut_off : (text : List ℕ) (xs : List SelectorToken) (selector : SelectorParts) → xs ≡ tokens_of text (tokens text false).tokens
    → true ≡ is_some (tokens text false).fault → selector_of_terms (terms_from 0 0 xs) ≡ Ok selector → selector_of text ≡ Err NotAllowed
is_cut_off text xs selector all ends read = selector_of_tokens text xs true all ends ∙ ap (before_fault true) read

-- refused before
pub is_refused : (text : List ℕ) (xs : List SelectorToken) (fault : Bool) (reason : Reason) → xs ≡ tokens_of text (tokens text false).tokens
    → fault ≡ is_some (tokens text false).fault → selector_of_terms (terms_from 0 0 xs) ≡ Err reason → selector_of text ≡ Err reason
is_refused text xs fault reason all ends read = selector_of_tokens text xs fault all ends ∙ ap (before_fault fault) read ∙ kept fault
  where
    kept : (f : Bool) → before_fault f (Err reason) ≡ Err reason
    kept true = refl
    kept false = refl
