-- The terms of a selector text: its tokens, of which a function of a position is one with its whole argument,
-- and what counts of the white space and the comments between them (Selectors 3, sections 4 and 10).
use Rattle.std.specs.Prelude.{ℕ, zero, suc, ◌==◌, not, ◌&&◌, ◌||◌, Bool, if◌then◌else◌, nat_lt, List, [], ◌∷◌, map, drop, Option, Some, None, Result, Err, is_some}
use Rattle.std.specs.List.{position_or_len}
use Rattle.css_model.specs.declared.position.AnB.{AnB}
use Rattle.css_model.specs.declared.reason.Reason.{Reason}
use Rattle.css_model.specs.declared.reason.Reason.TheVariants.{NotAllowed}
use Rattle.css_model.specs.declared.selector.Combinator.{Combinator}
use Rattle.css_model.specs.declared.selector.Combinator.TheVariants.{Child, Next, Later}
use Rattle.css_model.specs.declared.selector.Op.{Op}
use Rattle.css_model.specs.declared.selector.Op.TheVariants.{Word, Dash, Prefix, Suffix, Part}
use Rattle.css_model.specs.declared.token.Gap.{Gap}
use Rattle.css_model.specs.declared.token.Gap.TheVariants as gap
use Rattle.css_model.specs.declared.token.TokenKind.{TokenKind}
use Rattle.css_model.specs.declared.token.TokenKind.TheVariants as kind
use Rattle.css_model.specs.Text.Characters.{close_round, close_square, colon, dot, greater_than, open_square, plus, star}
use Rattle.css_model.specs.Text.Lexemes.{is_delim_of}
use Rattle.css_model.specs.Text.Kept.{Solid}
use Rattle.css_model.specs.Text.Lexemes.{is_sign_of}
use Rattle.css_model.specs.Lists.{less_one}
use Rattle.css_model.specs.Selectors.Arguments.{argument_of, closes_round, is_position_function}
use Rattle.css_model.specs.Selectors.Tokens.{SelectorToken, selector_token, bar, caret, dollar, is_function, tilde}

-- the combinator of a sign (Selectors 3, section 8)
abbrev pub combinator_of : TokenKind → Option Combinator
combinator_of (kind.Delim c) = if c == greater_than then Some Child else if c == plus then Some Next else if c == tilde then Some Later else None
combinator_of _ = None

-- the test of an attribute whose operator is this code point and `=` (Selectors 3, section 6.3)
abbrev pub op_of_code : ℕ → Option Op
op_of_code c =
    if c == tilde then Some Word else if c == bar then Some Dash else if c == caret then Some Prefix
    else if c == dollar then Some Suffix else if c == star then Some Part else None

abbrev pub op_of : TokenKind → Option Op
op_of (kind.Delim c) = op_of_code c
op_of _ = None

-- how many brackets are open behind a token
abbrev pub depth_behind : ℕ → SelectorToken → ℕ
depth_behind depth x =
    if is_function x.kind || is_sign_of open_square x.kind then suc depth
    else if is_sign_of close_square x.kind || closes_round x then less_one depth
    else depth

abbrev pub white_alone : Gap → Gap
white_alone gap.White = gap.White
white_alone _ = gap.Nothing

-- What counts of the gap between a token and the next one, with so many brackets open: white space behind `.`
-- and `:`; inside brackets whatever stands behind the first sign of an operator, which `*` before `)` is not, and
-- nothing else; outside of them white space, but not beside a combinator. At the end nothing counts.
abbrev pub counted_gap : ℕ → TokenKind → Gap → Option TokenKind → Gap
counted_gap depth k g None = gap.Nothing
counted_gap depth k g (Some next) =
    if is_delim_of dot k || is_sign_of colon k then white_alone g
    else if nat_lt 0 depth then (if is_some (op_of k) && not (is_sign_of close_round next) then g else gap.Nothing)
    else if is_some (combinator_of k) || is_some (combinator_of next) then gap.Nothing
    else white_alone g

abbrev pub first_kind : List SelectorToken → Option TokenKind
first_kind [] = None
first_kind (x ∷ xs) = Some x.kind

abbrev pub first_gap : List SelectorToken → Gap
first_gap [] = gap.Nothing
first_gap (x ∷ xs) = x.gap

-- from the first `)` on
abbrev pub from_close : List SelectorToken → List SelectorToken
from_close xs = drop (position_or_len closes_round xs) xs

-- how many tokens behind its first a term has, and how many brackets are open behind it
abbrev pub more_of_term : SelectorToken → List SelectorToken → ℕ
more_of_term x xs = if is_position_function x then suc (position_or_len closes_round xs) else 0

abbrev pub depth_behind_term : ℕ → SelectorToken → ℕ
depth_behind_term depth x = if is_position_function x then depth else depth_behind depth x

-- the gap behind a term, and the argument of a function of a position
abbrev pub gap_of_term : SelectorToken → List SelectorToken → Gap
gap_of_term x xs = if is_position_function x then first_gap (from_close xs) else x.gap

abbrev pub argument_of_term : SelectorToken → List SelectorToken → Result AnB Reason
argument_of_term x xs = if is_position_function x then argument_of x.gap xs else Err NotAllowed

-- A term: what a token is and says, what counts of the gap behind it, and the argument of a function of a
-- position, or the reason against it.
pub record Term : Type 0 where
  pub kind : TokenKind
  pub name : List ℕ
  pub dashed : Bool
  pub only_dashes : Bool
  pub gap : Gap
  pub argument : Result AnB Reason

-- the term at the front of tokens
abbrev pub first_term : ℕ → SelectorToken → List SelectorToken → Term
first_term depth x xs =
    record {
      kind = x.kind;
      name = x.name;
      dashed = x.dashed;
      only_dashes = x.only_dashes;
      gap = counted_gap (depth_behind_term depth x) x.kind (gap_of_term x xs) (first_kind (drop (more_of_term x xs) xs));
      argument = argument_of_term x xs;
    }

-- what stands right behind a gap: behind white space nothing does
abbrev pub right_behind : Gap → List Term → List Term
right_behind gap.White xs = []
right_behind g xs = xs

-- the terms of tokens, of which the next `left` belong to one that was read
abbrev pub terms_from : ℕ → ℕ → List SelectorToken → List Term
terms_from depth left [] = []
terms_from depth (suc left) (x ∷ xs) = terms_from depth left xs
terms_from depth zero (x ∷ xs) = first_term depth x xs ∷ terms_from (depth_behind_term depth x) (more_of_term x xs) xs

abbrev pub terms : List Solid → List Term
terms ss = terms_from 0 0 (map selector_token ss)
