use Rattle.std.proofs.Common.{◌≡◌, length}
use Rattle.css_tokens.specs.Left as reader
use Rattle.css_print.specs.Words.{cut, front, past_white}
use Rattle.css_print.proofs.walk.read_solid.Given as goal

-- white space was passed, and nothing else; the token ahead ends before the place or there
abbrev pub invariant-white : goal.invariant-white
invariant-white l = (past_white l.«end» (front l.ahead (reader.left l.tokens).tokens) ≡ past_white l.fn.«end» (front l.fn.first (reader.left l.fn.tokens).tokens)) × (cut l.«end» l.ahead ≡ l.ahead)

abbrev pub decreases-white : goal.decreases-white
decreases-white l = length (front l.ahead (reader.left l.tokens).tokens)
