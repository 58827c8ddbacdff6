-- The tokens of a source that is UTF-8, and the fault of one that is not.
use Rattle.std.proofs.Common.{ℕ, ◌≡◌, ◌<◌, true, List, length, Err, refl, arith, lt-ltb, le-ltb}
use Rattle.std.specs.Str.Lossy.{utf8_valid_len}
use Rattle.css_model.specs.declared.fault.FaultKind.TheVariants.{NotUtf8}
use Rattle.css_model.specs.Text.Tokens.{tokens}
use Rattle.sheet_read.specs.Steps.{all_tokens, tokens_of}

pub not_utf8 : (source : List ℕ) → utf8_valid_len source < length source → tokens_of source ≡ Err (record { kind = NotUtf8; at = utf8_valid_len source })
not_utf8 source lt = rw (lt-ltb (utf8_valid_len source) (length source) lt) refl

pub utf8 : (source : List ℕ) → utf8_valid_len source ≡ length source → tokens_of source ≡ all_tokens (tokens source true).fault (tokens source true).tokens
utf8 source e = rw (le-ltb (utf8_valid_len source) (length source) (omega (arith, e))) refl
