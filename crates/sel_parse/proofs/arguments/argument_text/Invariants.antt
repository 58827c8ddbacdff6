use Rattle.std.proofs.Common.{◌≡◌, ◌++◌, drop}
use Rattle.std.specs.List.{flat_map}
use Rattle.css_model.specs.Selectors.Arguments.{argument_text, blank}
use Rattle.sel_parse.proofs.arguments.argument_text.Given as goal

-- the text so far, and that of the tokens that are left
abbrev pub invariant-tokens : goal.invariant-tokens
invariant-tokens l = l.text.items ++ flat_map (λ x. x.bytes ++ blank x.gap) (drop l.token-index l.tokens) ≡ argument_text l.fn.gap l.tokens
