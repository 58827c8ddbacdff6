use Rattle.std.proofs.Common.{◌≡◌, ◌++◌, length, false}
use Rattle.std.specs.Prelude.{IfSome}
use Rattle.std.specs.List.{AllByRecursion}
use Rattle.css_model.specs.Text.Lexemes.{gap_of}
use Rattle.css_model.specs.Text.Tokens.{tokens}
use Rattle.css_tokens.specs.Laws.{StandsIn}
use Rattle.css_tokens.specs.Left.{left}
use Rattle.sel_parse.specs.Tokens.{last_before, tokens_of}
use Rattle.sel_parse.proofs.parse.tokens_of.Given as goal

-- the tokens so far, the last one that waits for what stands behind it, and those that are left
abbrev pub invariant-tokens : goal.invariant-tokens
invariant-tokens l = record {
  parts : l.tokens.items ++ (last_before l.text l.last (gap_of (left l.reader).tokens) ++ tokens_of l.text (left l.reader).tokens) ≡ tokens_of l.text (tokens l.text false).tokens;
  fault : (left l.reader).fault ≡ (tokens l.text false).fault;
  stand : AllByRecursion (StandsIn l.text) (left l.reader).tokens;
  last : IfSome l.last (StandsIn l.text);
}

abbrev pub decreases-tokens : goal.decreases-tokens
decreases-tokens l = length (left l.reader).tokens
