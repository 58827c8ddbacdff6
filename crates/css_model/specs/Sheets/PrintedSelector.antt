-- The printed text of a selector: the bytes of its tokens, and between them white space only where it is a combinator
-- (Selectors 3, section 8). CSS Syntax 3, section 10, asks of a serialisation that it reads back; the rest is own.
use Rattle.std.specs.Prelude.{ℕ, zero, suc, List, [], ◌∷◌, ◌++◌, map, Result, Ok, Err}
use Rattle.css_model.specs.declared.position.AnB.{AnB}
use Rattle.css_model.specs.declared.reason.Reason.{Reason}
use Rattle.css_model.specs.Positions.Printed.{anb_text}
use Rattle.css_model.specs.Selectors.Terms.{Term, depth_behind_term, first_term, more_of_term}
use Rattle.css_model.specs.Selectors.Tokens.{selector_token}
use Rattle.css_model.specs.Text.Characters.{close_round}
use Rattle.css_model.specs.Text.Kept.{Solid, gap_text}

-- behind the name of a function of a position, the shortest notation of its argument and `)`; behind any other token nothing
abbrev pub printed_argument : Result AnB Reason → List ℕ
printed_argument (Ok argument) = anb_text argument ++ close_round ∷ []
printed_argument (Err reason) = []

-- the bytes of a term: those of its token, and its argument if it has one
abbrev pub term_bytes : Solid → Term → List ℕ
term_bytes s t = s.bytes ++ printed_argument t.argument

-- A term, and one space where white space counts behind it, or two where one would belong to the term itself. In a
-- selector that is read, white space counts as a combinator alone.
abbrev pub printed_term : Solid → Term → List ℕ
printed_term s t = term_bytes s t ++ gap_text (term_bytes s t) t.gap

-- the texts of the terms of tokens, of which the next `left` belong to a term before, with so many brackets open
abbrev pub printed_from : ℕ → ℕ → List Solid → List ℕ
printed_from depth left [] = []
printed_from depth (suc left) (s ∷ ss) = printed_from depth left ss
printed_from depth zero (s ∷ ss) =
    let x = selector_token s in
    let xs = map selector_token ss in
    printed_term s (first_term depth x xs) ++ printed_from (depth_behind_term depth x) (more_of_term x xs) ss

-- the text of a selector of these tokens
abbrev pub selector_text : List Solid → List ℕ
selector_text ss = printed_from 0 0 ss
