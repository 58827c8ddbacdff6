-- What stands at the front of a text: the token rules of CSS Syntax 3, section 4.3.1, in the order in which
-- they are tried. Each gives a kind, which is none for a comment, and a length in bytes, or what is wrong.
use Rattle.std.specs.Prelude.{ℕ, ◌+◌, ◌==◌, nat_lt, ◌&&◌, ◌||◌, Bool, if◌then◌else◌, List, [], ◌∷◌, drop, take, length, Option, Some, None, Result, Ok, Err}
use Rattle.css_model.specs.declared.token.TokenKind.{TokenKind}
use Rattle.css_model.specs.declared.token.TokenKind.TheVariants as kind
use Rattle.css_model.specs.declared.token.TokenFlaw.{TokenFlaw}
use Rattle.css_model.specs.declared.token.TokenFlaw.TheVariants as flaw
use Rattle.css_model.specs.Text.Characters.{quote, apostrophe, hash, percent, star, slash, dash, less_than, greater_than, at_sign, open_round, close_round, is_newline, is_white, is_sign, begins, first_passes}
use Rattle.css_model.specs.Text.Runs.{run}
use Rattle.css_model.specs.Text.Units.{white_unit, name_unit, name_start, name_len, string_unit, comment_unit, url_unit, signed_decimal, number_len}
use Rattle.css_model.specs.Text.Names.{is_url}

-- a kind, or none for a comment, and a length
abbrev pub Shape : Type 0
Shape = Option TokenKind × ℕ

abbrev pub done : TokenKind → ℕ → Result Shape TokenFlaw
done k n = Ok (Some k, n)

-- after `/*`: all up to and with the next `*/` (section 4.3.2)
abbrev pub comment_shape : List ℕ → Result Shape TokenFlaw
comment_shape cs = if begins star (drop (run comment_unit cs) cs) then Ok (None, 4 + run comment_unit cs) else Err flaw.EndInside

-- after `/`
abbrev pub slash_shape : List ℕ → Result Shape TokenFlaw
slash_shape cs = if begins star cs then comment_shape (drop 1 cs) else done (kind.Delim slash) 1

-- after a quote: all up to and with the same quote (section 4.3.5)
abbrev pub string_shape : ℕ → List ℕ → Result Shape TokenFlaw
string_shape q cs =
    if begins q (drop (run (string_unit q) cs) cs) then done kind.Str (2 + run (string_unit q) cs)
    else if first_passes is_newline (drop (run (string_unit q) cs) cs) then Err flaw.BadString
    else Err flaw.EndInside

-- after `#`: a name, which may begin as no ident sequence does
abbrev pub hash_shape : List ℕ → Result Shape TokenFlaw
hash_shape cs =
    if nat_lt 0 (name_unit cs) then done (if nat_lt 0 (name_start cs) then kind.IdHash else kind.Hash) (1 + name_len cs)
    else done (kind.Delim hash) 1

-- what follows a number of n bytes (section 4.3.3)
abbrev pub number_shape : ℕ → List ℕ → Result Shape TokenFlaw
number_shape n rest =
    if nat_lt 0 (name_start rest) then done kind.Dimension (n + name_len rest)
    else if begins percent rest then done kind.Percentage (n + 1)
    else done kind.Number n

-- after `<`: `!--`
abbrev pub less_shape : List ℕ → Result Shape TokenFlaw
less_shape cs =
    if begins 33 cs && (begins dash (drop 1 cs) && begins dash (drop 2 cs)) then done kind.CommentOpen 4
    else done (kind.Delim less_than) 1

-- after `@`: an ident sequence
abbrev pub at_shape : List ℕ → Result Shape TokenFlaw
at_shape cs = if nat_lt 0 (name_start cs) then done kind.AtKeyword (1 + name_len cs) else done (kind.Delim at_sign) 1

-- the text without the white space at its start
abbrev pub after_white : List ℕ → List ℕ
after_white text = drop (run white_unit text) text

-- the end of a url, after n bytes of it
abbrev pub url_end : ℕ → List ℕ → Result Shape TokenFlaw
url_end n rest =
    if begins close_round rest then done kind.Url (n + 1)
    else if length rest == 0 then Err flaw.EndInside
    else Err flaw.BadUrl

-- a url (section 4.3.6), after n bytes of it with the white space that may follow `(`
abbrev pub url_shape : ℕ → List ℕ → Result Shape TokenFlaw
url_shape n text =
    let rest = drop (run url_unit text) text in
    url_end (n + run url_unit text + run white_unit rest) (after_white rest)

abbrev pub is_quote : ℕ → Bool
is_quote c = c == quote || c == apostrophe

-- after a name and `(`, which take n bytes: a url, where the name is `url` and no string follows
-- (section 4.3.4)
abbrev pub opened_shape : List ℕ → ℕ → List ℕ → Result Shape TokenFlaw
opened_shape name n rest =
    if is_url name then (if first_passes is_quote (after_white rest) then done kind.Function n
    else url_shape (n + run white_unit rest) (after_white rest))
    else done kind.Function n

-- a text that begins with an ident sequence (section 4.3.4)
abbrev pub named_shape : List ℕ → Result Shape TokenFlaw
named_shape text =
    let n = name_len text in
    if begins open_round (drop n text) then opened_shape (take n text) (n + 1) (drop (n + 1) text) else done kind.Ident n

-- a text that begins with none of the others: `-->`, an ident sequence, a sign, or any other code point
abbrev pub word_at : List ℕ → Result Shape TokenFlaw
word_at [] = Err flaw.EndInside
word_at (c ∷ cs) =
    if c == dash && (begins dash cs && begins greater_than (drop 1 cs)) then done kind.CommentClose 3
    else if nat_lt 0 (name_start (c ∷ cs)) then named_shape (c ∷ cs)
    else done (if is_sign c then kind.Sign c else kind.Delim c) 1

-- a text that begins with a number, `<` or `@`, or with none of these
abbrev pub symbol_at : List ℕ → Result Shape TokenFlaw
symbol_at [] = Err flaw.EndInside
symbol_at (c ∷ cs) =
    if nat_lt 0 (signed_decimal (c ∷ cs)) then number_shape (number_len (c ∷ cs)) (drop (number_len (c ∷ cs)) (c ∷ cs))
    else if c == less_than then less_shape cs
    else if c == at_sign then at_shape cs
    else word_at (c ∷ cs)

-- the first rule that fits
abbrev pub rule_at : List ℕ → Result Shape TokenFlaw
rule_at [] = Err flaw.EndInside
rule_at (c ∷ cs) =
    if c == slash then slash_shape cs
    else if is_white c then done kind.White (run white_unit (c ∷ cs))
    else if is_quote c then string_shape c cs
    else if c == hash then hash_shape cs
    else symbol_at (c ∷ cs)

-- what is longer than the text lacks its end
abbrev pub within : List ℕ → Result Shape TokenFlaw → Result Shape TokenFlaw
within text (Ok s) = if nat_lt (length text) s.1 then Err flaw.EndInside else Ok s
within text (Err f) = Err f

-- the token or the comment at the front of a text
abbrev pub part_at : List ℕ → Result Shape TokenFlaw
part_at text = within text (rule_at text)
