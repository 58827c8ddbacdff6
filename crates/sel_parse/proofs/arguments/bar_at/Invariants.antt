use Rattle.std.proofs.Common.{◌≡◌, ◌+◌, length}
use Rattle.std.specs.List.{list_any, position_or_len}
use Rattle.css_model.specs.Selectors.Arguments.{is_bar}
use Rattle.sel_parse.proofs.arguments.bar_at.Given as goal

-- none passes so far
abbrev pub invariant-tokens : goal.invariant-tokens
invariant-tokens l = record {
  at : l.at + position_or_len is_bar l.rest ≡ position_or_len is_bar l.tokens;
  any : list_any is_bar l.rest ≡ list_any is_bar l.tokens;
  len : l.at + length l.rest ≡ length l.tokens;
}

abbrev pub decreases-tokens : goal.decreases-tokens
decreases-tokens l = length l.rest
