-- The tokens of a text (CSS Syntax 3, section 4), with their places.
use Rattle.std.specs.Prelude.{ℕ, zero, suc, ◌+◌, ◌≡◌, Bool, true, false, ◌&&◌, if◌then◌else◌, List, [], ◌∷◌, drop, take, length, nat_eq, Option, Some, None, Result, Ok, Err}
use Rattle.std.specs.List.{flat_map, starts_with}
use Rattle.css_model.specs.declared.token.Token.{Token}
use Rattle.css_model.specs.declared.token.TokenKind.{TokenKind}
use Rattle.css_model.specs.declared.token.TokenFlaw.{TokenFlaw}
use Rattle.css_model.specs.declared.token.TokenFlaw.TheVariants as flaw
use Rattle.css_model.specs.declared.token.TokenFault.{TokenFault}
use Rattle.css_model.specs.declared.token.TokenFault.TheVariants as fault
use Rattle.css_model.specs.Text.TokenAt.{Shape, part_at}
use Rattle.css_model.specs.Lists.{less_one}

-- a token or, where it has no kind, a comment, with its bytes
pub record Part : Type 0 where
  pub kind : Option TokenKind
  pub bytes : List ℕ

-- the parts of a text, up to its end or to what is wrong
pub record Parts : Type 0 where
  pub parts : List Part
  pub flaw : Option TokenFlaw

-- the part at the front of a text, and those of the rest
abbrev pub part_then : Result Shape TokenFlaw → List ℕ → Parts → Parts
part_then (Err f) text more = record { parts = []; flaw = Some f }
part_then (Ok s) text more = record { parts = record { kind = s.0; bytes = take s.1 text } ∷ more.parts; flaw = more.flaw }

-- how many bytes of a part follow its first
abbrev pub after_first : Result Shape TokenFlaw → ℕ
after_first (Err f) = 0
after_first (Ok s) = less_one s.1

-- `parts`, where the next `left` bytes belong to a part that was read
abbrev pub parts_from : ℕ → List ℕ → Parts
parts_from left [] = record { parts = []; flaw = None }
parts_from (suc left) (c ∷ cs) = parts_from left cs
parts_from zero (c ∷ cs) = part_then (part_at (c ∷ cs)) (c ∷ cs) (parts_from (after_first (part_at (c ∷ cs))) cs)

abbrev pub parts : List ℕ → Parts
parts text = parts_from 0 text

-- the text that parts spell
abbrev pub text_of : List Part → List ℕ
text_of ps = flat_map (λ p. p.bytes) ps

-- a part of this kind and length at this place, before the tokens behind it
abbrev pub token_then : Option TokenKind → ℕ → ℕ → Bool → List Token → List Token
token_then None at n comment more = more
token_then (Some k) at n comment more =
    record { kind = k; span = record { start = at; «end» = at + n }; comment_before = comment } ∷ more

-- whether a part is a comment
abbrev pub is_comment : Option TokenKind → Bool
is_comment None = true
is_comment (Some k) = false

-- the tokens of parts that begin at this place, where `comment` says that a comment ends there
abbrev pub tokens_at : ℕ → Bool → List Part → List Token
tokens_at at comment [] = []
tokens_at at comment (p ∷ ps) =
    token_then p.kind at (length p.bytes) comment (tokens_at (at + length p.bytes) (is_comment p.kind) ps)

abbrev pub fault_at : ℕ → TokenFlaw → TokenFault
fault_at at flaw.BadString = fault.BadString at
fault_at at flaw.BadUrl = fault.BadUrl at
fault_at at flaw.EndInside = fault.EndInside at

abbrev pub fault_behind : ℕ → Option TokenFlaw → Option TokenFault
fault_behind at None = None
fault_behind at (Some f) = Some (fault_at at f)

-- the tokens up to the end or to the first fault, and that fault
pub record Stream : Type 0 where
  pub tokens : List Token
  pub fault : Option TokenFault

abbrev pub stream_of : ℕ → Bool → Parts → Stream
stream_of at comment p = record { tokens = tokens_at at comment p.parts; fault = fault_behind (at + length (text_of p.parts)) p.flaw }

-- the tokens of a text that stands at this place
abbrev pub stream : ℕ → List ℕ → Stream
stream at text = stream_of at false (parts text)

-- U+FEFF at the start of a text, in UTF-8
abbrev pub byte_order_mark : List ℕ
byte_order_mark = 0xEF ∷ 0xBB ∷ 0xBF ∷ []

-- the tokens of a source: that of a whole sheet may begin with a byte order mark, which is skipped
-- (section 3.2); anywhere else it is an ident code point
abbrev pub tokens : List ℕ → Bool → Stream
tokens source sheet = if sheet && starts_with nat_eq source byte_order_mark then stream 3 (drop 3 source) else stream 0 source

-- what a call of `next` answers, and the stream that is left
abbrev pub Gives : Stream → Result (Option Token) TokenFault → Stream → Type 0
Gives old (Ok (Some t)) new = old ≡ record { tokens = t ∷ new.tokens; fault = new.fault }
Gives old (Ok None) new = (old ≡ record { tokens = []; fault = None }) × (new ≡ old)
Gives old (Err f) new = (old ≡ record { tokens = []; fault = Some f }) × (new ≡ old)
