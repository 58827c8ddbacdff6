-- The printed text of a selector among other text.
use Rattle.std.specs.Prelude.{ℕ, ◌≡◌, ◌≤◌, List, [], ◌∷◌, ◌++◌, false, if◌then◌else◌, length, Some, None, Ok, codes}
use Rattle.css_model.specs.declared.token.Gap.{Gap}
use Rattle.css_model.specs.declared.token.Gap.TheVariants as gap
use Rattle.css_model.specs.declared.token.TokenKind.{TokenKind}
use Rattle.css_model.specs.declared.token.TokenKind.TheVariants as kind
use Rattle.css_model.specs.Documents.SelectorParts.{SelectorParts}
use Rattle.css_model.specs.Selectors.Reading.{selector_of_terms}
use Rattle.css_model.specs.Selectors.Terms.{terms}
use Rattle.css_model.specs.Sheets.PrintedSelector.{selector_text}
use Rattle.css_model.specs.Text.Characters.{line_feed, space}
use Rattle.css_model.specs.Text.Kept.{Solid, is_lone, kept}
use Rattle.css_model.specs.Text.Tokens.{Part, text_of}
use Rattle.css_tokens.specs.Lexed.{IsLexed}
use Rattle.token_laws.specs.Solids.{IsBehind, gap_before, solids, solids_of}
use Rattle.selector_text_laws.specs.Back.{back}

-- the parts that stand behind a token of this kind, whose newline stands behind a lone backslash
abbrev pub parts_behind : TokenKind → Gap → List Part
parts_behind k gap.Nothing = []
parts_behind k gap.Comments = record { kind = None; bytes = codes "/**/" } ∷ []
parts_behind k gap.White = record { kind = Some kind.White; bytes = if is_lone k then line_feed ∷ [] else space ∷ [] } ∷ []

-- the parts that spell tokens
abbrev pub parts_for : List Solid → List Part
parts_for [] = []
parts_for (s ∷ ss) = record { kind = Some s.kind; bytes = s.bytes } ∷ (parts_behind s.kind s.gap ++ parts_for ss)

-- There are parts that spell the text before other parts, are read where they stand, and have these tokens, which they
-- spell.
pub record IsSelectorText (text : List ℕ) (back : List Solid) (rest : List Part) : Type 0 where
  pub parts : List Part
  pub are : parts ≡ parts_for back ++ rest
  pub spells : text_of parts ≡ text ++ text_of rest
  pub lexed : IsLexed parts
  pub reads : solids parts ≡ back ++ solids rest

-- n tokens of parts that are read where they stand, behind the first m, which are read as a selector
pub record IsSelectorIn (ps : List Part) (m n : ℕ) (ss : List Solid) (s : SelectorParts) : Type 0 where
  pub lexed : IsLexed ps
  pub are : solids_of ps m n ≡ ss
  pub reads : selector_of_terms (terms ss) ≡ Ok s

-- The printed text of a selector is read where it stands, before each sign but `(` as before nothing: its tokens are
-- those that it is read back as.
abbrev pub SelectorTextsAreLexed : Type 0
SelectorTextsAreLexed = (ps : List Part) (m n : ℕ) (ss : List Solid) (s : SelectorParts) → IsSelectorIn ps m n ss s
    → (rest : List Part) → IsLexed rest → IsBehind (text_of rest) → gap_before false rest ≡ gap.Nothing → IsSelectorText (selector_text ss) (back ss) rest

-- It is no longer than the kept text of the tokens.
abbrev pub SelectorTextsAreShort : Type 0
SelectorTextsAreShort = (ps : List Part) (m n : ℕ) (ss : List Solid) (s : SelectorParts) → IsSelectorIn ps m n ss s → length (selector_text ss) ≤ length (kept ss)
