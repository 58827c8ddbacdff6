-- What is read of a token before white space: an escape of hex digits takes at most one white space behind
-- it, and is open where it has none (CSS Syntax 3, section 4.3.7).
use Rattle.std.specs.Prelude.{ℕ, suc, ◌≡◌, true, false, List, [], ◌∷◌, ◌++◌, length, Some, Ok, ◌==◌}
use Rattle.std.specs.Char.{is_ascii_hexdigit}
use Rattle.css_model.specs.declared.token.TokenKind.{TokenKind}
use Rattle.css_model.specs.Text.Characters.{backslash, space, first_passes}
use Rattle.css_model.specs.Text.Kept.{is_lone, is_open}
use Rattle.css_model.specs.Text.Lexemes.{is_white_kind}
use Rattle.css_model.specs.Text.TokenAt.{part_at, is_quote, after_white}
use Rattle.token_laws.specs.Alike.{ends_itself}

-- these bytes are read before `old` as a token of this kind, which is no white space and no lone backslash
pub record IsRead (v old : List ℕ) (k : TokenKind) : Type 0 where
  pub no_white : is_white_kind k ≡ false
  pub no_lone : is_lone k ≡ false
  pub read : part_at (v ++ old) ≡ Ok (Some k, length v)

-- Where white space and a string follow, they still do: `url(` before anything else is no function
-- (section 4.3.4).
abbrev pub KeepsQuote : List ℕ → List ℕ → Type 0
KeepsQuote old new = first_passes is_quote (after_white old) ≡ true → first_passes is_quote (after_white new) ≡ true

-- a white space behind a token that is not open is no part of it
abbrev pub SpaceEnds : Type 0
SpaceEnds = (v old rest : List ℕ) (k : TokenKind) → IsRead v old k → is_open v ≡ false → KeepsQuote old rest
    → part_at (v ++ space ∷ rest) ≡ Ok (Some k, length v)

-- an open token takes one white space, and is open no more
abbrev pub SpaceCloses : Type 0
SpaceCloses = (v old rest : List ℕ) (k : TokenKind) → IsRead v old k → is_open v ≡ true
    → (part_at (v ++ space ∷ space ∷ rest) ≡ Ok (Some k, suc (length v))) × (is_open (v ++ space ∷ []) ≡ false)

-- a token whose last byte is neither a hex digit nor a backslash is not open
abbrev pub LastCloses : Type 0
LastCloses = (w : List ℕ) (x : ℕ) (old : List ℕ) (k : TokenKind) → IsRead (w ++ x ∷ []) old k → is_ascii_hexdigit x ≡ false → (x == backslash) ≡ false
    → is_open (w ++ x ∷ []) ≡ false

-- a token that ends itself, as a string, a function or a sign, is not open
abbrev pub SelfEndedAreShut : Type 0
SelfEndedAreShut = (v old : List ℕ) (k : TokenKind) → IsRead v old k → ends_itself (Some k) ≡ true → is_open v ≡ false
