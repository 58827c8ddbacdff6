-- The arguments of the terms of a text are refused for three reasons alone, so what a reason names stands there.
use Rattle.std.proofs.Common.{◌≡◌, ℕ, zero, suc, Bool, true, false, cond, Option, Some, None, Err, List, [], ◌∷◌, ◌++◌, map, subst, ◌⊎◌, inl, inr}
use Rattle.std.specs.List.{AllByRecursion, before_first, list_any}
use Rattle.css_model.specs.declared.position.AnB.{AnB}
use Rattle.css_model.specs.declared.reason.Reason.{Reason}
use Rattle.css_model.specs.declared.reason.Reason.TheVariants as reason
use Rattle.css_model.specs.declared.token.Gap.{Gap}
use Rattle.css_model.specs.declared.token.Lexeme.{Lexeme}
use Rattle.css_model.specs.Positions.Range.{is_in_range}
use Rattle.css_model.specs.Selectors.Arguments.{against_argument, argument_of, argument_text, closes_round, in_range_or, is_position_function, notation_of}
use Rattle.css_model.specs.Selectors.Reading.{selector_of_lexemes}
use Rattle.css_model.specs.Selectors.Terms.{Term, argument_of_term, depth_behind_term, more_of_term, terms, terms_from}
use Rattle.css_model.specs.Selectors.Tokens.{SelectorToken, selector_token}
use Rattle.css_model.specs.Text.Kept.{solid}
use Rattle.selector_laws.specs.Reason.Refusals.{IsArgumentRefused, Stands, StandsAt}
use Rattle.selector_laws.specs.Reason.Refusals.IsArgumentRefused.{argument}
use Rattle.selector_laws.proofs.Reason.Places.{Finds}
use Rattle.selector_laws.proofs.Reason.Told.{Tells, either}
use Rattle.selector_laws.proofs.ForCallers.{terms_in_range}
use Rattle.selector_laws.proofs.Reason.ToldStates.{terms_tell}
use Rattle.selector_laws.proofs.Reason.ToldTests.{In}

-- a reason against an argument
abbrev OfArgument : Reason → Type 0
OfArgument reason.Namespace = Unit {0}
OfArgument reason.PositionOutOfRange = Unit {0}
OfArgument reason.NotAllowed = Unit {0}
OfArgument _ = ⊥

abbrev HasReason : Term → Type 0
HasReason x = Tells OfArgument x.argument

cond_holds : (b : Bool) → OfArgument (cond b reason.Namespace reason.NotAllowed)
cond_holds true = tt
cond_holds false = tt

against_holds : (g : Gap) (xs : List SelectorToken) → OfArgument (against_argument g xs)
against_holds g xs = cond_holds _

range_holds : (r : Reason) (o : Option AnB) → OfArgument r → Tells OfArgument (in_range_or r o)
range_holds r None holds = holds
range_holds r (Some x) holds = either OfArgument (is_in_range x) _ _ (λ h. tt) (λ h. tt)

argument_holds : (g : Gap) (xs : List SelectorToken) → Tells OfArgument (argument_of g xs)
argument_holds g xs =
    let inside = before_first closes_round xs in
    either OfArgument (list_any closes_round xs) _ _ (λ h. range_holds (against_argument g inside) (notation_of (argument_text g inside)) (against_holds g inside)) (λ h. against_holds g inside)

term_holds : (x : SelectorToken) (xs : List SelectorToken) → Tells OfArgument (argument_of_term x xs)
term_holds x xs = either OfArgument (is_position_function x) _ _ (λ h. argument_holds x.gap xs) (λ h. tt)

terms_hold : (depth left : ℕ) (xs : List SelectorToken) → AllByRecursion HasReason (terms_from depth left xs)
terms_hold depth left [] = tt
terms_hold depth (suc left) (x ∷ xs) = terms_hold depth left xs
terms_hold depth zero (x ∷ xs) = (term_holds x xs, terms_hold (depth_behind_term depth x) (more_of_term x xs) xs)

from : (before after : List Term) → AllByRecursion HasReason (before ++ after) → AllByRecursion HasReason after
from [] after all = all
from (x ∷ xs) after all = from xs after all.1

stands_there : (r : Reason) (before after : List Term) → OfArgument r → IsArgumentRefused r after → StandsAt r before after
stands_there reason.PseudoClass before after holds refused = absurd holds
stands_there reason.PseudoElement before after holds refused = absurd holds
stands_there reason.Namespace before after holds refused = inr refused
stands_there reason.CaseFlag before after holds refused = absurd holds
stands_there reason.IdTest before after holds refused = absurd holds
stands_there reason.TooManyCompounds before after holds refused = absurd holds
stands_there reason.TooManySimples before after holds refused = absurd holds
stands_there reason.PositionOutOfRange before after holds refused = refused
stands_there reason.TooManyStepped before after holds refused = absurd holds
stands_there reason.NotAllowed before after holds refused = tt

of_argument : (r : Reason) (after : List Term) → AllByRecursion HasReason after → IsArgumentRefused r after → OfArgument r
of_argument r after all (argument sign name rest make colons near named row is) = subst (Tells OfArgument) is all.1.0

told_apart : (r : Reason) (before after : List Term) → AllByRecursion HasReason after → StandsAt r before after ⊎ IsArgumentRefused r after → StandsAt r before after
told_apart r before after all (inl stands) = stands
told_apart r before after all (inr refused) = stands_there r before after (of_argument r after all refused) refused

found : (r : Reason) (xs : List Term) → AllByRecursion HasReason xs → Finds [] r xs → Stands r xs
found r xs all f =
    record {
      before = f.before;
      after = f.after;
      parts = f.parts;
      at = told_apart r f.before f.after (from f.before f.after (subst (AllByRecursion HasReason) f.parts all)) f.at;
    }

pub refusals_stand : (source : List ℕ) (part : List Lexeme) (r : Reason) → selector_of_lexemes source part ≡ Err r → Stands r (terms (map (solid source) part))
refusals_stand source part r refused =
    let tokens = map selector_token (map (solid source) part) in
    let xs = terms (map (solid source) part) in
    found r xs (terms_hold 0 0 tokens) (subst (Tells (In [] xs)) refused (terms_tell xs (terms_in_range 0 0 tokens)))
