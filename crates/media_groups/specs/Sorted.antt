-- Tokens by their places.
use Rattle.std.specs.Prelude.{ℕ, ◌≤◌, ◌<◌, ⊤, List, [], ◌∷◌}
use Rattle.css_model.specs.declared.token.Lexeme.{Lexeme}

-- tokens from this place on, each of some bytes and behind the one before it
abbrev pub AreAscending : ℕ → List Lexeme → Type 0
AreAscending at [] = ⊤
AreAscending at (x ∷ xs) = (at ≤ x.span.start) × (x.span.start < x.span.«end») × AreAscending x.span.«end» xs
