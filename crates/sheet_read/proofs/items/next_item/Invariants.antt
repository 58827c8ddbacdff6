use Rattle.std.proofs.Common.{◌≡◌, ◌++◌, List, length}
use Rattle.css_model.specs.declared.token.Lexeme.{Lexeme}
use Rattle.sheet_read.specs.Steps.{whole_items}
use Rattle.sheet_read.proofs.items.next_item.Given as goal

-- no item was whole so far
abbrev pub invariant-items : goal.invariant-items
invariant-items l = record {
  later : whole_items l.rest ≡ whole_items l.lexemes;
  split : (before : List Lexeme) × (l.lexemes ≡ before ++ l.rest);
}

abbrev pub decreases-items : goal.decreases-items
decreases-items l = length l.rest
