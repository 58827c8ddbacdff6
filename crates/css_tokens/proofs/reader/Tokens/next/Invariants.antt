use Rattle.std.proofs.Common.{◌≡◌, ◌≤◌, ◌-◌, length, drop}
use Rattle.css_model.specs.Text.Tokens.{stream_of, parts}
use Rattle.css_tokens.specs.Left.{left}
use Rattle.css_tokens.proofs.reader.Tokens.next.Given as goal

-- what is left behind the comments that were passed; the reader itself stays where it was
abbrev pub invariant-comments : goal.invariant-comments
invariant-comments l =
    (stream_of l.at l.comment_before (parts (drop l.at l.source)) ≡ left l.fn.self) × (l.at ≤ length l.source) × (left l.self ≡ left l.fn.self)
    × (l.self.source.now ≡ l.source)

abbrev pub decreases-comments : goal.decreases-comments
decreases-comments l = length l.source - l.at
