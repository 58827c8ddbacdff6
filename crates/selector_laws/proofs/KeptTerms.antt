-- The argument of each term of a text is in range, so each selector that is read keeps to the limits.
use Rattle.std.proofs.Common.{◌≡◌, ℕ, zero, suc, true, Option, Some, None, Ok, List, [], ◌∷◌, map, subst, arith}
use Rattle.std.specs.List.{AllByRecursion, before_first, list_any}
use Rattle.std.proofs.lemmas.Bool.Decides.{nat_tests}
use Rattle.css_model.specs.declared.position.AnB.{AnB}
use Rattle.css_model.specs.declared.reason.Reason.{Reason}
use Rattle.css_model.specs.declared.token.Gap.{Gap}
use Rattle.css_model.specs.declared.token.Gap.TheVariants as gap
use Rattle.css_model.specs.declared.token.Lexeme.{Lexeme}
use Rattle.css_model.specs.Documents.SelectorParts.{SelectorParts}
use Rattle.css_model.specs.Positions.Range.{IsInRange, is_in_range}
use Rattle.css_model.specs.Selectors.Arguments.{against_argument, argument_of, argument_text, closes_round, in_range_or, is_position_function, notation_of}
use Rattle.css_model.specs.Selectors.Compounds.{nothing_yet}
use Rattle.css_model.specs.Selectors.Reading.{selector_of_lexemes}
use Rattle.css_model.specs.Selectors.Terms.{argument_of_term, depth_behind_term, more_of_term, terms, terms_from}
use Rattle.css_model.specs.Selectors.Tokens.{SelectorToken, selector_token}
use Rattle.css_model.specs.Text.Kept.{solid}
use Rattle.selector_laws.specs.Limits.{KeepsLimits}
use Rattle.selector_laws.proofs.Answered.{Holds, either}
use Rattle.selector_laws.proofs.KeptStates.{keeps_nothing, reading_keeps}
use Rattle.selector_laws.proofs.KeptTests.{HasRange}

in_range : (x : AnB) → is_in_range x ≡ true → IsInRange x
in_range x h = (grind (arith, nat_tests), grind (arith, nat_tests))

range_holds : (reason : Reason) (o : Option AnB) → Holds IsInRange (in_range_or reason o)
range_holds reason None = tt
range_holds reason (Some x) = either IsInRange (is_in_range x) _ _ (in_range x) (λ h. tt)

argument_holds : (g : Gap) (xs : List SelectorToken) → Holds IsInRange (argument_of g xs)
argument_holds g xs =
    let inside = before_first closes_round xs in
    either IsInRange (list_any closes_round xs) _ _ (λ h. range_holds (against_argument g inside) (notation_of (argument_text g inside))) (λ h. tt)

term_holds : (x : SelectorToken) (xs : List SelectorToken) → Holds IsInRange (argument_of_term x xs)
term_holds x xs = either IsInRange (is_position_function x) _ _ (λ h. argument_holds x.gap xs) (λ h. tt)

pub terms_in_range : (depth left : ℕ) (xs : List SelectorToken) → AllByRecursion HasRange (terms_from depth left xs)
terms_in_range depth left [] = tt
terms_in_range depth (suc left) (x ∷ xs) = terms_in_range depth left xs
terms_in_range depth zero (x ∷ xs) = (term_holds x xs, terms_in_range (depth_behind_term depth x) (more_of_term x xs) xs)

pub read_keeps : (source : List ℕ) (part : List Lexeme) (selector : SelectorParts) → selector_of_lexemes source part ≡ Ok selector → KeepsLimits selector
read_keeps source part selector read =
    subst (Holds KeepsLimits) read (reading_keeps nothing_yet gap.Nothing 0 (terms (map (solid source) part)) keeps_nothing (terms_in_range 0 0 (map selector_token (map (solid source) part))))
