-- The tokens that the printed text of a selector is read back as.
use Rattle.std.specs.Prelude.{ℕ, zero, suc, ◌≡◌, ◌≤◌, if◌then◌else◌, map, List, [], ◌∷◌, ◌++◌, true, Bool, false, Option, Some, None, Result, Ok, Err}
use Rattle.std.specs.List.{AllByRecursion, position_or_len}
use Rattle.css_model.specs.declared.position.AnB.{AnB}
use Rattle.css_model.specs.declared.reason.Reason.{Reason}
use Rattle.css_model.specs.declared.token.Gap.{Gap}
use Rattle.css_model.specs.declared.token.Gap.TheVariants as gap
use Rattle.css_model.specs.declared.token.TokenKind.{TokenKind}
use Rattle.css_model.specs.declared.token.TokenKind.TheVariants as kind
use Rattle.css_model.specs.Documents.SelectorParts.{SelectorParts}
use Rattle.css_model.specs.Positions.Printed.{anb_text}
use Rattle.css_model.specs.Selectors.Arguments.{argument_of, closes_round, is_position_function}
use Rattle.css_model.specs.Selectors.Reading.{selector_of_terms}
use Rattle.css_model.specs.Selectors.Terms.{counted_gap, depth_behind, terms}
use Rattle.css_model.specs.Selectors.Tokens.{name_in, selector_token}
use Rattle.css_model.specs.Sheets.PrintedSelector.{selector_text}
use Rattle.css_model.specs.Text.Characters.{close_round, close_square, colon, open_square, space}
use Rattle.css_model.specs.Text.Kept.{Solid, is_open}
use Rattle.css_model.specs.Text.Names.{unescaped}
use Rattle.css_model.specs.Text.Tokens.{parts}
use Rattle.token_laws.specs.Solids.{closed, solids}
use Rattle.selector_text_laws.specs.Together.{is_one_of}

abbrev pub with_gap : Solid → Gap → Solid
with_gap s g = record { kind = s.kind; bytes = s.bytes; gap = g }

abbrev pub if_read : Result AnB Reason → Option AnB
if_read (Ok x) = Some x
if_read (Err reason) = None

-- the argument of a function of a position, if it is read
abbrev pub argument : Solid → List Solid → Option AnB
argument s ss = if is_position_function (selector_token s) then if_read (argument_of s.gap (map selector_token ss)) else None

-- `)`
abbrev pub is_closing : Solid → Bool
is_closing s = closes_round (selector_token s)

-- how many tokens the argument has
abbrev pub skipped : Option AnB → List Solid → ℕ
skipped (Some x) ss = position_or_len is_closing ss
skipped None ss = 0

-- the tokens of a text by itself
abbrev pub own_tokens : List ℕ → List Solid
own_tokens text = solids (parts text).parts

-- a token before others, with what counts of its gap, and the last one
abbrev pub back_of : ℕ → Solid → List Solid → Solid
back_of depth s [] = with_gap s gap.Nothing
back_of depth s (t ∷ ts) = closed (with_gap s (counted_gap depth s.kind s.gap (Some t.kind)))

-- the same by what its argument is: a function of a position has the tokens of its argument's printed form behind it
abbrev pub back_with : Option AnB → ℕ → Solid → List Solid → List Solid → List Solid
back_with (Some x) depth s ss more = with_gap s gap.Nothing ∷ (own_tokens (anb_text x) ++ more)
back_with None depth s ss more = back_of depth s ss ∷ more

-- of tokens without the next `left` of them, behind so many open brackets
abbrev pub back_from : ℕ → ℕ → List Solid → List Solid
back_from depth left [] = []
back_from depth (suc left) (s ∷ ss) = back_from depth left ss
back_from depth zero (s ∷ ss) =
    let d = depth_behind depth (selector_token s) in
    let x = argument s ss in
    back_with x d s ss (back_from d (skipped x ss) ss)

abbrev pub back : List Solid → List Solid
back ss = back_from 0 0 ss

-- a kind of token of which the printed text of a selector is made
abbrev pub is_selector_kind : TokenKind → Bool
is_selector_kind kind.Ident = true
is_selector_kind kind.Str = true
is_selector_kind kind.IdHash = true
is_selector_kind kind.Function = true
is_selector_kind kind.Number = true
is_selector_kind kind.Dimension = true
is_selector_kind (kind.Delim c) = true
is_selector_kind (kind.Sign c) = is_one_of (colon ∷ open_square ∷ close_square ∷ close_round ∷ []) c
is_selector_kind k = false

-- tokens behind so many open brackets, no more than two of which are open at once
abbrev pub AreShallow : ℕ → List Solid → Type 0
AreShallow depth [] = Unit {0}
AreShallow depth (s ∷ ss) = (depth ≤ 2) × AreShallow (depth_behind depth (selector_token s)) ss

-- They are read as the selector, and printed again they have the same text.
pub record IsReadBack (ss : List Solid) (s : SelectorParts) : Type 0 where
  pub reads : selector_of_terms (terms (back ss)) ≡ Ok s
  pub prints : selector_text (back ss) ≡ selector_text ss
  pub kinds : AllByRecursion (λ x. is_selector_kind x.kind ≡ true) (back ss)
  pub depths : AreShallow 0 (back ss)

-- a white space behind an open token is no part of the name, and closes it
pub record IsClosableSolid (s : Solid) : Type 0 where
  pub shut : is_open s.bytes ≡ true → is_open (s.bytes ++ space ∷ []) ≡ false
  pub name : is_open s.bytes ≡ true → unescaped (name_in s.kind (s.bytes ++ space ∷ [])) ≡ unescaped (name_in s.kind s.bytes)

-- The tokens of a selector's printed text are read as that selector.
abbrev pub SelectorsReadBack : Type 0
SelectorsReadBack = (ss : List Solid) (s : SelectorParts) → selector_of_terms (terms ss) ≡ Ok s → AllByRecursion IsClosableSolid ss → IsReadBack ss s
