use Rattle.std.proofs.Common.{◌≡◌, ◌++◌, length, map}
use Rattle.css_model.specs.Text.Kept.{kept, solid}
use Rattle.sheet_read.specs.Placed.{ArePlaced}
use Rattle.media_groups.proofs.printing.put_tokens.Given as goal

-- what was written, and the text of the tokens that are left, are the whole text
abbrev pub invariant-tokens : goal.invariant-tokens
invariant-tokens l = record {
  text : l.out.items ++ kept (map (solid l.source) l.rest) ≡ l.fn.out.items ++ kept (map (solid l.source) l.tokens);
  placed : ArePlaced l.source l.rest;
}

abbrev pub decreases-tokens : goal.decreases-tokens
decreases-tokens l = length l.rest
