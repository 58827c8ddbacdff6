-- The tokens of a text as the grammar of selectors takes them.
use Rattle.std.specs.Prelude.{ℕ, if◌then◌else◌, List, [], ◌∷◌, Option, Some, None}
use Rattle.css_model.specs.declared.token.Gap.{Gap}
use Rattle.css_model.specs.declared.token.Token.{Token}
use Rattle.css_model.specs.Text.Lexemes.{is_white_kind, gap_of}
use Rattle.css_model.specs.Text.Source.{text_at}
use Rattle.css_model.specs.Selectors.Tokens.{SelectorToken, selector_token}

-- a token of a text, before such a gap
abbrev pub token_before : List ℕ → Token → Gap → SelectorToken
token_before text t g = selector_token (record { kind = t.kind; bytes = text_at text t.span; gap = g })

-- those that are no white space
abbrev pub tokens_of : List ℕ → List Token → List SelectorToken
tokens_of text [] = []
tokens_of text (t ∷ ts) = if is_white_kind t.kind then tokens_of text ts else token_before text t (gap_of ts) ∷ tokens_of text ts

-- a token, if there is one, before such a gap
abbrev pub last_before : List ℕ → Option Token → Gap → List SelectorToken
last_before text None g = []
last_before text (Some t) g = token_before text t g ∷ []

abbrev pub unless_white : Token → Option Token
unless_white t = if is_white_kind t.kind then None else Some t
