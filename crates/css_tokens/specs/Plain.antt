-- The bytes that stand for themselves inside a string.
use Rattle.std.specs.Prelude.{ℕ, ◌≡◌, ◌==◌, false}
use Rattle.css_model.specs.Text.Characters.{backslash, is_newline}

-- neither the quote nor a backslash nor a newline
pub record IsPlain (quote c : ℕ) : Type 0 where
  pub no_quote : (c == quote) ≡ false
  pub no_backslash : (c == backslash) ≡ false
  pub no_newline : is_newline c ≡ false
