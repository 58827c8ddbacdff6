-- What small texts are read as, by computation.
use Rattle.std.proofs.Common.{◌≡◌, refl, List, [], ◌∷◌, ◌++◌, ℕ, Option, Some, None, true, false, length, map}
use Rattle.std.specs.Prelude.{codes}
use Rattle.std.specs.Char.{encode_utf8}
use Rattle.css_model.specs.declared.token.TokenKind.TheVariants as kind
use Rattle.css_model.specs.declared.token.TokenFlaw.{TokenFlaw}
use Rattle.css_model.specs.declared.token.TokenFlaw.TheVariants as flaw
use Rattle.css_model.specs.declared.token.TokenFault.TheVariants as fault
use Rattle.css_model.specs.Text.Characters.{backslash, quote, carriage_return, line_feed}
use Rattle.css_model.specs.Text.TokenAt.{Shape}
use Rattle.css_model.specs.Text.Tokens.{parts, tokens, byte_order_mark}
use Rattle.css_model.specs.Text.Names.{unescaped, is_url}

-- the kinds and the lengths of the parts of a text, and what is wrong behind them
abbrev shapes : List ℕ → List Shape
shapes text = map (λ p. (p.kind, length p.bytes)) (parts text).parts

abbrev flaw_of : List ℕ → Option TokenFlaw
flaw_of text = (parts text).flaw

declaration : shapes (codes "a:-1.5em!important/**/ ;")
    ≡ (Some kind.Ident, 1) ∷ (Some (kind.Sign 58), 1) ∷ (Some kind.Dimension, 6) ∷ (Some (kind.Delim 33), 1) ∷ (Some kind.Ident, 9)
    ∷ (None, 4) ∷ (Some kind.White, 1) ∷ (Some (kind.Sign 59), 1) ∷ []
declaration = refl

-- an operator is two delims, `<!--` and `-->` are tokens, and `--` begins a name
signs : shapes (codes "~=<!---->--a-") ≡ (Some (kind.Delim 126), 1) ∷ (Some (kind.Delim 61), 1) ∷ (Some kind.CommentOpen, 4)
    ∷ (Some kind.CommentClose, 3) ∷ (Some kind.Ident, 4) ∷ []
signs = refl

numbers : shapes (codes "+.5e-3 1e3 1.%1e") ≡ (Some kind.Number, 6) ∷ (Some kind.White, 1) ∷ (Some kind.Number, 3) ∷ (Some kind.White, 1)
    ∷ (Some kind.Number, 1) ∷ (Some (kind.Delim 46), 1) ∷ (Some (kind.Delim 37), 1) ∷ (Some kind.Dimension, 2) ∷ []
numbers = refl

hashes : shapes (codes "#a#1#-#--#@media@1")
    ≡ (Some kind.IdHash, 2) ∷ (Some kind.Hash, 2) ∷ (Some kind.Hash, 2) ∷ (Some kind.IdHash, 3) ∷ (Some (kind.Delim 35), 1)
    ∷ (Some kind.AtKeyword, 6) ∷ (Some (kind.Delim 64), 1) ∷ (Some kind.Number, 1) ∷ []
hashes = refl

urls : shapes (codes "URL( a )url('a')u(") ≡ (Some kind.Url, 8) ∷ (Some kind.Function, 4) ∷ (Some kind.Str, 3) ∷ (Some (kind.Sign 41), 1)
    ∷ (Some kind.Function, 2) ∷ []
urls = refl

-- CR LF is one newline, behind a backslash in a string and behind the digits of an escape
newlines : shapes (quote ∷ backslash ∷ carriage_return ∷ line_feed ∷ quote ∷ backslash ∷ 49 ∷ carriage_return ∷ line_feed ∷ 97 ∷ [])
    ≡ (Some kind.Str, 5) ∷ (Some kind.Ident, 5) ∷ []
newlines = refl

-- an escape has six digits at most, and takes one white space
six_digits : shapes (backslash ∷ codes "0000311  ") ≡ (Some kind.Ident, 8) ∷ (Some kind.White, 2) ∷ []
six_digits = refl

one_space : shapes (backslash ∷ codes "000031  ") ≡ (Some kind.Ident, 8) ∷ (Some kind.White, 1) ∷ []
one_space = refl

bad_string : flaw_of (quote ∷ 97 ∷ line_feed ∷ quote ∷ []) ≡ Some flaw.BadString
bad_string = refl

bad_url : flaw_of (codes "url(a b)") ≡ Some flaw.BadUrl
bad_url = refl

-- white space that the end does not follow comes first
bad_url_first : flaw_of (codes "url(a " ++ backslash ∷ []) ≡ Some flaw.BadUrl
bad_url_first = refl

open_url : flaw_of (codes "url(a ") ≡ Some flaw.EndInside
open_url = refl

open_comment : flaw_of (codes "/*/") ≡ Some flaw.EndInside
open_comment = refl

-- a backslash at the end belongs to what stands before it, where a name may go on there
at_the_end : tokens (codes "+1" ++ backslash ∷ []) false ≡ record { tokens = []; fault = Some (fault.EndInside 0) }
at_the_end = refl

alone : tokens (codes "+" ++ backslash ∷ []) false
    ≡ record { tokens = record { kind = kind.Delim 43; span = record { start = 0; «end» = 1 }; comment_before = false } ∷ []; fault = Some (fault.EndInside 1) }
alone = refl

-- a byte order mark is skipped in a sheet, and is a name elsewhere; a comment ends where `a` begins
marked : tokens (byte_order_mark ++ codes "/**/a") true
    ≡ record { tokens = record { kind = kind.Ident; span = record { start = 7; «end» = 8 }; comment_before = true } ∷ []; fault = None }
marked = refl

named : tokens (byte_order_mark ++ codes "a") false
    ≡ record { tokens = record { kind = kind.Ident; span = record { start = 0; «end» = 4 }; comment_before = false } ∷ []; fault = None }
named = refl

-- escapes, on both sides of each limit
one_b : unescaped (backslash ∷ codes "31 b") ≡ codes "1b"
unfolding encode_utf8
one_b = refl

last_code : unescaped (backslash ∷ codes "10ffff") ≡ 0xF4 ∷ 0x8F ∷ 0xBF ∷ 0xBF ∷ []
unfolding encode_utf8
last_code = refl

above_last : unescaped (backslash ∷ codes "110000") ≡ 0xEF ∷ 0xBF ∷ 0xBD ∷ []
unfolding encode_utf8
above_last = refl

before_surrogates : unescaped (backslash ∷ codes "d7ff") ≡ 0xED ∷ 0x9F ∷ 0xBF ∷ []
unfolding encode_utf8
before_surrogates = refl

surrogate : unescaped (backslash ∷ codes "d800") ≡ 0xEF ∷ 0xBF ∷ 0xBD ∷ []
unfolding encode_utf8
surrogate = refl

after_surrogates : unescaped (backslash ∷ codes "e000") ≡ 0xEE ∷ 0x80 ∷ 0x80 ∷ []
unfolding encode_utf8
after_surrogates = refl

null : unescaped (0 ∷ backslash ∷ codes "0") ≡ 0xEF ∷ 0xBF ∷ 0xBD ∷ 0xEF ∷ 0xBF ∷ 0xBD ∷ []
unfolding encode_utf8
null = refl

joined_line : unescaped (97 ∷ backslash ∷ carriage_return ∷ line_feed ∷ 98 ∷ []) ≡ codes "ab"
joined_line = refl

escaped_url : is_url (backslash ∷ codes "75 R" ++ backslash ∷ codes "l") ≡ true
unfolding encode_utf8
escaped_url = refl
