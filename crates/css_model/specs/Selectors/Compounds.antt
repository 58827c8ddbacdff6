-- Sequences of simple selectors and the combinators between them (Selectors 3, sections 4 and 8), from left to
-- right.
use Rattle.std.specs.Prelude.{ℕ, ◌+◌, not, ◌||◌, Bool, false, if◌then◌else◌, nat_le, List, [], ◌∷◌, ◌++◌, length, Option, Some, None, Result, Ok, Err}
use Rattle.css_model.specs.declared.reason.Reason.{Reason}
use Rattle.css_model.specs.declared.reason.Reason.TheVariants.{TooManyCompounds, TooManySimples}
use Rattle.css_model.specs.declared.selector.Combinator.{Combinator}
use Rattle.css_model.specs.declared.selector.Combinator.TheVariants.{Inside}
use Rattle.css_model.specs.declared.selector.Pseudo.{Pseudo}
use Rattle.css_model.specs.declared.selector.Simple.{Simple}
use Rattle.css_model.specs.declared.selector.Test.{Test}
use Rattle.css_model.specs.declared.selector.Test.TheVariants.{Any, Nth, NthLast}
use Rattle.css_model.specs.Sheets.Limits.{max_compounds, max_simples}
use Rattle.css_model.specs.declared.token.Gap.{Gap}
use Rattle.css_model.specs.declared.token.Gap.TheVariants as gap
use Rattle.css_model.specs.Text.Characters.{colon, dot, open_square}
use Rattle.css_model.specs.Text.Lexemes.{is_delim_of}
use Rattle.css_model.specs.Text.Lexemes.{is_sign_of}
use Rattle.css_model.specs.Selectors.Negations.{simple_at}
use Rattle.css_model.specs.Selectors.PseudoElements.{pseudo_element_at}
use Rattle.css_model.specs.Selectors.Refusals.{Read, against, against_first}
use Rattle.css_model.specs.Selectors.Simples.{begins_simple}
use Rattle.css_model.specs.Selectors.Terms.{Term, combinator_of, right_behind}
use Rattle.css_model.specs.Selectors.Tokens.{is_id_hash}
use Rattle.css_model.specs.Selectors.Types.{begins_type, type_at}
use Rattle.css_model.specs.Positions.Range.{is_stepped}

-- What is read so far: the whole compounds and the combinators behind them; the compound that is being read,
-- empty where one has to begin; the pseudo-element, behind which nothing may follow; and how many positions
-- whose step has a size of 2 or more there are.
pub record SoFar : Type 0 where
  pub chain : List (List Simple)
  pub links : List Combinator
  pub compound : List Simple
  pub pseudo : Option Pseudo
  pub stepped : ℕ

abbrev pub nothing_yet : SoFar
nothing_yet = record { chain = []; links = []; compound = []; pseudo = None; stepped = 0 }

abbrev pub is_stepped_test : Test → Bool
is_stepped_test (Nth x) = is_stepped x
is_stepped_test (NthLast x) = is_stepped x
is_stepped_test _ = false

-- one more simple selector
abbrev pub with_simple : SoFar → Simple → SoFar
with_simple s simple =
    record {
      chain = s.chain;
      links = s.links;
      compound = s.compound ++ simple ∷ [];
      pseudo = s.pseudo;
      stepped = s.stepped + (if is_stepped_test simple.test then 1 else 0);
    }

abbrev pub or_universal : List Simple → List Simple
or_universal [] = record { negated = false; test = Any } ∷ []
or_universal (x ∷ xs) = x ∷ xs

-- the pseudo-element: before it alone `*` is not written
abbrev pub with_element : SoFar → Pseudo → SoFar
with_element s element = record { chain = s.chain; links = s.links; compound = or_universal s.compound; pseudo = Some element; stepped = s.stepped }

-- a combinator, which ends the compound
abbrev pub with_link : SoFar → Combinator → SoFar
with_link s link = record { chain = s.chain ++ s.compound ∷ []; links = s.links ++ link ∷ []; compound = []; pseudo = s.pseudo; stepped = s.stepped }

abbrev pub and_simple : SoFar → Read Simple → Read SoFar
and_simple s (Err reason) = Err reason
and_simple s (Ok read) = Ok (with_simple s read.0, read.1)

abbrev pub and_type : SoFar → Result Test Reason → Read SoFar
and_type s (Err reason) = Err reason
and_type s (Ok test) = Ok (with_simple s (record { negated = false; test = test }), 1)

abbrev pub and_element : SoFar → Read Pseudo → Read SoFar
and_element s (Err reason) = Err reason
and_element s (Ok read) = Ok (with_element s read.0, read.1)

-- One more simple selector, of which a compound has at most so many (own), or the pseudo-element.
abbrev pub go_on : SoFar → Term → List Term → Read SoFar
go_on s x xs =
    if begins_simple x xs then (if nat_le max_simples (length s.compound) then Err TooManySimples else and_simple s (simple_at s.stepped x xs))
    else if is_sign_of colon x.kind then and_element s (pseudo_element_at (right_behind x.gap xs))
    else Err (against x)

abbrev pub begins_compound : Term → Bool
begins_compound x = begins_type x || is_id_hash x.kind || is_delim_of dot x.kind || is_sign_of open_square x.kind || is_sign_of colon x.kind

-- where a compound has to begin, of which a selector has at most so many (own)
abbrev pub begin : SoFar → Term → List Term → Read SoFar
begin s x xs =
    if not (begins_compound x) then Err (against x)
    else if nat_le max_compounds (length s.chain) then Err TooManyCompounds
    else if begins_type x then and_type s (type_at x)
    else go_on s x xs

-- behind a simple selector with this gap: a combinator, which is a sign or white space alone, or more of the
-- compound
abbrev pub in_compound : SoFar → Option Combinator → Gap → Term → List Term → Read SoFar
in_compound s (Some link) g x xs = Ok (with_link s link, 1)
in_compound s None gap.White x xs = begin (with_link s Inside) x xs
in_compound s None g x xs = go_on s x xs

abbrev pub by_compound : SoFar → List Simple → Gap → Term → List Term → Read SoFar
by_compound s [] g x xs = begin s x xs
by_compound s (c ∷ cs) g x xs = in_compound s (combinator_of x.kind) g x xs

-- what the terms at the front add, with this gap before them; behind a pseudo-element none is allowed
abbrev pub step : SoFar → Option Pseudo → Gap → Term → List Term → Read SoFar
step s (Some p) g x xs = Err (against_first (right_behind g (x ∷ xs)))
step s None g x xs = by_compound s s.compound g x xs
