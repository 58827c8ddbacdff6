-- What the tokens of a text are, which are open, and how their text is read back. Each holds by computation.
use Rattle.std.proofs.Common.{ℕ, ◌≡◌, true, false, List, [], ◌∷◌, ◌++◌, refl}
use Rattle.std.specs.Prelude.{codes}
use Rattle.css_model.specs.declared.token.Gap.TheVariants as gap
use Rattle.css_model.specs.declared.token.TokenKind.TheVariants as kind
use Rattle.css_model.specs.Text.Characters.{backslash, line_feed}
use Rattle.css_model.specs.Text.Kept.{is_open, kept, value_text}
use Rattle.css_model.specs.Text.Tokens.{parts}
use Rattle.token_laws.specs.Solids.{solids, last_kept, last_of_value, read_back}

-- `\31` and `#a\b` are open; `\31 `, `\\31`, `\abcdef0` and a string are not
open_escape : is_open (backslash ∷ codes "31") ≡ true
open_escape = refl

open_hash : is_open (codes "#a" ++ backslash ∷ codes "b") ≡ true
open_hash = refl

with_space : is_open (backslash ∷ codes "31 ") ≡ false
with_space = refl

escaped_backslash : is_open (backslash ∷ backslash ∷ codes "31") ≡ false
escaped_backslash = refl

seven_digits : is_open (backslash ∷ codes "abcdef0") ≡ false
seven_digits = refl

in_a_string : is_open (codes "'" ++ backslash ∷ codes "31'") ≡ false
in_a_string = refl

-- white space wins over comments; comments at the end are nothing
gaps : solids (parts (codes "a/**/b/**/ c/**/")).parts
    ≡ record { kind = kind.Ident; bytes = codes "a"; gap = gap.Comments } ∷ record { kind = kind.Ident; bytes = codes "b"; gap = gap.White }
    ∷ record { kind = kind.Ident; bytes = codes "c"; gap = gap.Nothing } ∷ []
gaps = refl

-- `\1/**/ b` is kept as `\1  b`, whose first token has one space
abbrev opened : List ℕ
opened = backslash ∷ codes "1/**/ b"

opened_kept : kept (solids (parts opened).parts) ≡ backslash ∷ codes "1  b"
opened_kept = refl

opened_back : solids (parts (backslash ∷ codes "1  b")).parts ≡ read_back last_kept (solids (parts opened).parts)
opened_back = refl

-- as a value, `\1/**/ ` keeps one space
value_kept : value_text (solids (parts (backslash ∷ codes "1/**/ ")).parts) ≡ backslash ∷ codes "1 "
value_kept = refl

value_back : solids (parts (backslash ∷ codes "1 ")).parts ≡ read_back last_of_value (solids (parts (backslash ∷ codes "1/**/ ")).parts)
value_back = refl

-- a lone backslash keeps its newline
lone_kept : kept (solids (parts (codes "a " ++ backslash ∷ 13 ∷ 10 ∷ codes "  ")).parts) ≡ codes "a " ++ backslash ∷ line_feed ∷ []
lone_kept = refl
