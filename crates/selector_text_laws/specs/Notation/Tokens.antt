-- The tokens of a text that may stand before a sign, as the argument of a function does before its `)`.
use Rattle.std.specs.Prelude.{ℕ, ◌≡◌, ◌==◌, Bool, true, false, List, ◌∷◌, ◌++◌, Option, Some}
use Rattle.std.specs.List.{AllByRecursion, list_any}
use Rattle.css_model.specs.declared.position.AnB.{AnB}
use Rattle.css_model.specs.declared.token.TokenKind.{TokenKind}
use Rattle.css_model.specs.declared.token.TokenKind.TheVariants as kind
use Rattle.css_model.specs.Text.Characters.{backslash, open_round, is_sign}
use Rattle.css_model.specs.Text.Tokens.{Part, text_of}
use Rattle.css_model.specs.Text.Kept.{is_open}
use Rattle.css_tokens.specs.Lexed.{IsLexed}
use Rattle.css_model.specs.Positions.Printed.{anb_text}
use Rattle.selector_text_laws.specs.Notation.Printed.{IsSized}

-- an ident, a number or a dimension
abbrev pub is_word_kind : Option TokenKind → Bool
is_word_kind (Some kind.Ident) = true
is_word_kind (Some kind.Number) = true
is_word_kind (Some kind.Dimension) = true
is_word_kind k = false

-- one of these, without an escape
pub record IsWord (p : Part) : Type 0 where
  pub kinds : is_word_kind p.kind ≡ true
  pub plain : list_any (λ c. c == backslash) p.bytes ≡ false
  pub shut : is_open p.bytes ≡ false

-- There are such tokens that spell this text, and that are read where they stand, alone and before each sign
-- but `(`.
pub record StandsBeforeSigns (text : List ℕ) : Type 0 where
  pub parts : List Part
  pub spells : text_of parts ≡ text
  pub words : AllByRecursion IsWord parts
  pub alone : IsLexed parts
  pub before : (rest : List Part) (c : ℕ) (cs : List ℕ) → IsLexed rest → text_of rest ≡ c ∷ cs → is_sign c ≡ true → (c == open_round) ≡ false → IsLexed (parts ++ rest)

-- the printed form of a step and an offset is such a text
abbrev pub TextStands : Type 0
TextStands = (x : AnB) → IsSized x → StandsBeforeSigns (anb_text x)
