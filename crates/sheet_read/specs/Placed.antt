-- The tokens of a source, by their places.
use Rattle.std.specs.Prelude.{◌<◌, ◌≤◌, List, ℕ, length}
use Rattle.std.specs.List.{AllByRecursion}
use Rattle.css_model.specs.declared.token.Lexeme.{Lexeme}

-- a token has a byte, and lies in a source
pub record IsPlaced (source : List ℕ) (x : Lexeme) : Type 0 where
  pub some : x.span.start < x.span.«end»
  pub inside : x.span.«end» ≤ length source

abbrev pub ArePlaced : List ℕ → List Lexeme → Type 0
ArePlaced source xs = AllByRecursion (IsPlaced source) xs
