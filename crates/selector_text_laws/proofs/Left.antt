-- What is left of the tokens of any text where the gaps that do not count are left out, if the tokens do not run together then: of
-- a selector that is read, its printed text.
use Rattle.std.specs.Prelude.{ℕ, zero, suc, ◌≡◌, ◌≤◌, false, if◌then◌else◌, List, [], ◌∷◌, ◌++◌, length, Option, Some, None}
use Rattle.css_model.specs.declared.position.AnB.{AnB}
use Rattle.css_model.specs.declared.token.Gap.{Gap}
use Rattle.css_model.specs.declared.token.Gap.TheVariants as gap
use Rattle.css_model.specs.Positions.Printed.{anb_text}
use Rattle.css_model.specs.Selectors.Terms.{counted_gap, depth_behind}
use Rattle.css_model.specs.Selectors.Tokens.{selector_token}
use Rattle.css_model.specs.Text.Kept.{Solid, between, behind_last, kept}
use Rattle.css_model.specs.Text.Tokens.{Part, text_of}
use Rattle.css_tokens.specs.Lexed.{IsLexed}
use Rattle.token_laws.specs.Solids.{IsBehind, closed, ends_called, gap_before, last_kept, solids_of}
use Rattle.selector_text_laws.specs.Back.{argument, own_tokens, skipped, with_gap}
use Rattle.selector_text_laws.specs.Text.{IsSelectorText}
use Rattle.selector_text_laws.specs.Together.{together}

-- What is left of the gap between two tokens with so many brackets open: what counts of it, and all of it where the
-- tokens would run together, which they do in no selector that is read.
abbrev pub left_gap : ℕ → Solid → Solid → Gap
left_gap depth s t = if together s.kind s.bytes t.kind t.bytes then counted_gap depth s.kind s.gap (Some t.kind) else s.gap

-- what is printed behind a token before others, and behind the last one
abbrev pub behind_text : ℕ → Solid → List Solid → List ℕ
behind_text depth s [] = behind_last s
behind_text depth s (t ∷ ts) = between (with_gap s (left_gap depth s t))

-- behind a token: the printed form of its argument, or what stands before the next token
abbrev pub argument_or_gap : Option AnB → ℕ → Solid → List Solid → List ℕ
argument_or_gap (Some x) depth s ss = anb_text x
argument_or_gap None depth s ss = behind_text depth s ss

-- the text of tokens, without the next `left` of them, behind so many open brackets
abbrev pub spelled_from : ℕ → ℕ → List Solid → List ℕ
spelled_from depth left [] = []
spelled_from depth (suc left) (s ∷ ss) = spelled_from depth left ss
spelled_from depth zero (s ∷ ss) =
    let d = depth_behind depth (selector_token s) in
    let x = argument s ss in
    s.bytes ++ argument_or_gap x d s ss ++ spelled_from d (skipped x ss) ss

-- a token as it is read back before others, and as the last one
abbrev pub left_of : ℕ → Solid → List Solid → Solid
left_of depth s [] = last_kept s
left_of depth s (t ∷ ts) = closed (with_gap s (left_gap depth s t))

-- the same by what its argument is
abbrev pub left_with : Option AnB → ℕ → Solid → List Solid → List Solid → List Solid
left_with (Some x) depth s ss more = with_gap s gap.Nothing ∷ (own_tokens (anb_text x) ++ more)
left_with None depth s ss more = left_of depth s ss ∷ more

-- what the text of tokens is read back as
abbrev pub left_from : ℕ → ℕ → List Solid → List Solid
left_from depth left [] = []
left_from depth (suc left) (s ∷ ss) = left_from depth left ss
left_from depth zero (s ∷ ss) =
    let d = depth_behind depth (selector_token s) in
    let x = argument s ss in
    left_with x d s ss (left_from d (skipped x ss) ss)

-- Whatever the tokens of a text are, the text that is left of n of them, behind the first m, is such a text before what
-- may stand behind.
abbrev pub SelectorsAreLexed : Type 0
SelectorsAreLexed = (ps rest : List Part) (m n : ℕ) (s : Solid) (ss : List Solid) → IsLexed ps → solids_of ps m n ≡ s ∷ ss
    → IsLexed rest → IsBehind (text_of rest) → gap_before false rest ≡ gap.Nothing → ends_called (s ∷ ss) ≡ false
    → IsSelectorText (spelled_from 0 0 (s ∷ ss)) (left_from 0 0 (s ∷ ss)) rest

-- It is no longer than the kept text of the tokens, and so than what they were read from.
abbrev pub SelectorsAreShort : Type 0
SelectorsAreShort = (ss : List Solid) → length (spelled_from 0 0 ss) ≤ length (kept ss)
