-- The negation (Selectors 3, section 6.6.7): `:not()` with one simple selector that is no negation itself.
use Rattle.std.specs.Prelude.{ℕ, ◌+◌, not, ◌&&◌, Bool, true, false, if◌then◌else◌, List, [], ◌∷◌, drop, Result, Ok, Err, codes}
use Rattle.css_model.specs.declared.reason.Reason.{Reason}
use Rattle.css_model.specs.declared.reason.Reason.TheVariants.{NotAllowed}
use Rattle.css_model.specs.declared.selector.Simple.{Simple}
use Rattle.css_model.specs.declared.selector.Test.{Test}
use Rattle.css_model.specs.Text.Characters.{close_round, colon}
use Rattle.css_model.specs.Text.Lexemes.{is_sign_of}
use Rattle.css_model.specs.Selectors.Refusals.{Read, against, against_first}
use Rattle.css_model.specs.Selectors.Simples.{begins_simple, test_at}
use Rattle.css_model.specs.Selectors.Terms.{Term, right_behind}
use Rattle.css_model.specs.Selectors.Tokens.{is_function, is_word}
use Rattle.css_model.specs.Selectors.Types.{begins_type, type_at}

abbrev pub not_follows : List Term → Bool
not_follows [] = false
not_follows (x ∷ xs) = is_function x.kind && is_word (codes "not") x.name

-- behind what is negated, of so many terms: `)`
abbrev pub end_at : Test → ℕ → List Term → Read Simple
end_at test n [] = Err NotAllowed
end_at test n (x ∷ xs) = if is_sign_of close_round x.kind then Ok (record { negated = true; test = test }, 3 + n) else Err (against x)

abbrev pub ended : Read Test → List Term → Read Simple
ended (Err reason) xs = Err reason
ended (Ok read) xs = end_at read.0 read.1 (drop read.1 xs)

abbrev pub of_one_term : Result Test Reason → Read Test
of_one_term (Err reason) = Err reason
of_one_term (Ok test) = Ok (test, 1)

-- behind `:not(`
abbrev pub negated_at : ℕ → List Term → Read Simple
negated_at stepped [] = Err NotAllowed
negated_at stepped (x ∷ xs) =
    if begins_type x then ended (of_one_term (type_at x)) (x ∷ xs)
    else if begins_simple x xs && not (is_sign_of colon x.kind && not_follows xs) then ended (test_at stepped x xs) (x ∷ xs)
    else if is_sign_of colon x.kind then Err (against_first (right_behind x.gap xs))
    else Err (against x)

abbrev pub not_negated : Read Test → Read Simple
not_negated (Err reason) = Err reason
not_negated (Ok read) = Ok (record { negated = false; test = read.0 }, read.1)

-- a simple selector other than a type where one begins
abbrev pub simple_at : ℕ → Term → List Term → Read Simple
simple_at stepped x xs =
    if is_sign_of colon x.kind && not_follows xs then negated_at stepped (drop 1 xs) else not_negated (test_at stepped x xs)
