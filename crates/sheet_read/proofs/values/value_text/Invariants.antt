use Rattle.std.proofs.Common.{◌≡◌, ◌++◌, length, map}
use Rattle.css_model.specs.Text.Kept.{solid, value_text}
use Rattle.sheet_read.specs.Placed.{ArePlaced}
use Rattle.sheet_read.proofs.values.value_text.Given as goal

-- the text so far, and that of the rest, is that of the value
abbrev pub invariant-loop-rest : goal.invariant-loop-rest
invariant-loop-rest l = record {
  placed : ArePlaced l.source l.rest;
  same : l.bytes.items ++ value_text (map (solid l.source) l.rest) ≡ value_text (map (solid l.source) l.fn.value);
}

abbrev pub decreases-loop-rest : goal.decreases-loop-rest
decreases-loop-rest l = length l.rest
