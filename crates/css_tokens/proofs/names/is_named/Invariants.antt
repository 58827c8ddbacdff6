use Rattle.std.proofs.Common.{◌≡◌, ◌≤◌, ◌+◌, ◌-◌, length, drop}
use Rattle.std.specs.Str.{IsAscii, str_eq_ignore_ascii_case}
use Rattle.css_model.specs.Text.Names as escapes
use Rattle.css_tokens.proofs.names.is_named.Given as goal

-- the rest of the name spells what is left of the word exactly where the whole name spells it
abbrev pub invariant-names : goal.invariant-names
invariant-names l =
    (str_eq_ignore_ascii_case (escapes.unescaped (drop l.i l.name)) l.left ≡ escapes.is_named l.word l.name) × IsAscii l.left × (l.i ≤ length l.name + 9)

abbrev pub decreases-names : goal.decreases-names
decreases-names l = length l.name + 9 - l.i
