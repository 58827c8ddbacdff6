use Rattle.std.proofs.Common.{◌≡◌, ◌+◌, length}
use Rattle.std.specs.List.{list_any, position_or_len}
use Rattle.css_model.specs.Selectors.Arguments.{closes_round}
use Rattle.sel_parse.proofs.arguments.close_at.Given as goal

-- none passes so far
abbrev pub invariant-tokens : goal.invariant-tokens
invariant-tokens l = record {
  at : l.at + position_or_len closes_round l.rest ≡ position_or_len closes_round l.tokens;
  any : list_any closes_round l.rest ≡ list_any closes_round l.tokens;
  len : l.at + length l.rest ≡ length l.tokens;
}

abbrev pub decreases-tokens : goal.decreases-tokens
decreases-tokens l = length l.rest
