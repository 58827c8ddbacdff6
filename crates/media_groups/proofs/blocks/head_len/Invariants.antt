use Rattle.std.proofs.Common.{◌≡◌, ◌+◌, length}
use Rattle.std.specs.List.{position_or_len}
use Rattle.css_model.specs.Sheets.Items as spec
use Rattle.media_groups.proofs.blocks.head_len.Given as goal

abbrev pub invariant-lexemes : goal.invariant-lexemes
invariant-lexemes l = record {
  place : l.n + position_or_len spec.opens_block l.rest ≡ position_or_len spec.opens_block l.item;
  passed : l.n + length l.rest ≡ length l.item;
}

abbrev pub decreases-lexemes : goal.decreases-lexemes
decreases-lexemes l = length l.rest
