use Rattle.std.proofs.Common.{◌≡◌, ◌≤◌, ◌++◌, length, reverse, [], None}
use Rattle.std.specs.List.{cons_option}
use Rattle.css_model.specs.declared.limits.TheConstants.{MAX_DEPTH}
use Rattle.css_model.specs.Sheets.Sheet.{too_deep}
use Rattle.css_model.specs.Text.Lexemes.{after_all, lexemes_in, lexemes}
use Rattle.css_tokens.specs.Left.{left}
use Rattle.sheet_read.proofs.lexing.sorted.Given as goal

-- the lexemes so far, and what is still to come inside the open brackets
abbrev pub invariant-tokens : goal.invariant-tokens
invariant-tokens l = record {
  parts : l.lexemes.items ++ lexemes_in (reverse l.brackets.items) (cons_option l.ahead (left l.reader).tokens) ≡ lexemes (left l.fn.reader).tokens;
  deep : too_deep (lexemes_in (reverse l.brackets.items) (cons_option l.ahead (left l.reader).tokens)) ≡ too_deep (lexemes (left l.fn.reader).tokens);
  nested : after_all (reverse l.brackets.items) (cons_option l.ahead (left l.reader).tokens) ≡ after_all [] (left l.fn.reader).tokens;
  levels : length l.brackets.items ≤ MAX_DEPTH;
  fault : (left l.reader).fault ≡ (left l.fn.reader).fault;
  ended : l.ahead ≡ None → left l.reader ≡ record { tokens = []; fault = None };
}

abbrev pub decreases-tokens : goal.decreases-tokens
decreases-tokens l = length (cons_option l.ahead (left l.reader).tokens)
