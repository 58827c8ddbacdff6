-- The arguments of `:nth-child()` and `:nth-last-child()` (Selectors 3, section 6.6.5), by their tokens.
use Rattle.std.specs.Prelude.{ℕ, ◌&&◌, ◌||◌, Bool, false, if◌then◌else◌, List, [], ◌∷◌, ◌++◌, Option, Some, None, Result, Ok, Err, codes, is_some}
use Rattle.std.specs.List.{before_first, flat_map, list_any}
use Rattle.css_model.specs.declared.position.AnB.{AnB}
use Rattle.css_model.specs.declared.reason.Reason.{Reason}
use Rattle.css_model.specs.declared.reason.Reason.TheVariants.{Namespace, PositionOutOfRange, NotAllowed}
use Rattle.css_model.specs.declared.token.Gap.{Gap}
use Rattle.css_model.specs.declared.token.Gap.TheVariants as gap
use Rattle.css_model.specs.Text.Characters.{close_round, plus, space}
use Rattle.css_model.specs.Text.Lexemes.{is_delim_of}
use Rattle.css_model.specs.Text.Lexemes.{is_sign_of}
use Rattle.css_model.specs.Selectors.Tokens.{SelectorToken, bar, is_function, is_gapless, is_word}
use Rattle.css_model.specs.Positions.Range.{is_in_range}
use Rattle.css_model.specs.Positions.Reading.{past_blanks, body_of}

-- one of the two functions
abbrev pub is_position_function : SelectorToken → Bool
is_position_function x = is_function x.kind && (is_word (codes "nth-child") x.name || is_word (codes "nth-last-child") x.name)

-- Comments and white space say the same in an argument: one space stands for each run of them.
abbrev pub blank : Gap → List ℕ
blank gap.Nothing = []
blank _ = space ∷ []

-- the text of an argument behind such a gap
abbrev pub argument_text : Gap → List SelectorToken → List ℕ
argument_text g xs = blank g ++ flat_map (λ x. x.bytes ++ blank x.gap) xs

-- what a text stands for in the An+B notation
abbrev pub notation_of : List ℕ → Option AnB
notation_of text = body_of (past_blanks text)

abbrev pub is_notation : List ℕ → Bool
is_notation text = is_some (notation_of text)

-- `+` alone, before something that stands right behind it
abbrev pub is_lone_plus : List SelectorToken → Bool
is_lone_plus (x ∷ []) = is_delim_of plus x.kind && is_gapless x.gap
is_lone_plus _ = false

-- Some argument begins with these tokens: they are one, or the digits of an offset are missing, or `n` behind `+`.
abbrev pub may_go_on : Gap → List SelectorToken → Bool
may_go_on g xs = is_notation (argument_text g xs) || is_notation (argument_text g xs ++ codes " 5") || is_lone_plus xs

abbrev pub is_bar : SelectorToken → Bool
is_bar x = is_delim_of bar x.kind

-- The reason against tokens that are no argument, or not a closed one: a `|` is that of a namespace where it is
-- the first token that no argument has there (own).
abbrev pub against_argument : Gap → List SelectorToken → Reason
against_argument g xs = if list_any is_bar xs && may_go_on g (before_first is_bar xs) then Namespace else NotAllowed

abbrev pub in_range_or : Reason → Option AnB → Result AnB Reason
in_range_or reason None = Err reason
in_range_or reason (Some x) = if is_in_range x then Ok x else Err PositionOutOfRange

abbrev pub closes_round : SelectorToken → Bool
closes_round x = is_sign_of close_round x.kind

-- the argument of a function before this gap and these tokens, up to the first `)`
abbrev pub argument_of : Gap → List SelectorToken → Result AnB Reason
argument_of g xs =
    let inside = before_first closes_round xs in
    if list_any closes_round xs then in_range_or (against_argument g inside) (notation_of (argument_text g inside))
    else Err (against_argument g inside)
