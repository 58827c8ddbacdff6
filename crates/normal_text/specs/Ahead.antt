-- Tokens that were read ahead.
use Rattle.std.specs.Prelude.{List, [], ◌∷◌, Option, Some, None}
use Rattle.css_model.specs.declared.token.Token.{Token}

-- a token that was read ahead before others, or none where it is the end (own)
abbrev pub front : Option Token → List Token → List Token
front None ts = []
front (Some t) ts = t ∷ ts
