use Rattle.std.proofs.Common.{◌≡◌, ◌++◌, length, map}
use Rattle.std.specs.List.{AllByRecursion}
use Rattle.css_model.specs.Selectors.Tokens.{selector_token}
use Rattle.css_model.specs.Text.Kept.{solid}
use Rattle.css_model.specs.Text.Source.{IsWithin}
use Rattle.sel_parse.proofs.parse.tokens_of_part.Given as goal

-- the tokens so far and those that are left
abbrev pub invariant-tokens : goal.invariant-tokens
invariant-tokens l = record {
  parts : l.tokens.items ++ map selector_token (map (solid l.source) l.rest) ≡ map selector_token (map (solid l.source) l.part);
  within : AllByRecursion (λ x. IsWithin l.source x.span) l.rest;
}

abbrev pub decreases-tokens : goal.decreases-tokens
decreases-tokens l = length l.rest
