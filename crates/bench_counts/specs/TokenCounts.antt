-- How many tokens a source has.
use Rattle.std.specs.Prelude.{◌≡◌, ℕ, List, length, true, Some, None}
use Rattle.std.specs.Str.{IsUtf8}
use Rattle.std.specs.Str.Lossy.{utf8_valid_len}
use Rattle.css_model.specs.Text.Tokens.{tokens}
use Rattle.bench_counts.specs.declared.tokens.Refused.{Refused}
use Rattle.bench_counts.specs.declared.tokens.Refused.TheVariants.{NotUtf8, Token}

-- nothing is wrong with the source, and its tokens are so many
abbrev pub IsCount : List ℕ → ℕ → Type 0
IsCount source n = IsUtf8 source × ((tokens source true).fault ≡ None) × (n ≡ length (tokens source true).tokens)

-- what is wrong with the source: it is not UTF-8, or a token cannot be read
abbrev pub IsRefused : List ℕ → Refused → Type 0
IsRefused source (NotUtf8 fault) = (¬ IsUtf8 source) × (fault.at ≡ utf8_valid_len source)
IsRefused source (Token fault) = IsUtf8 source × ((tokens source true).fault ≡ Some fault)
