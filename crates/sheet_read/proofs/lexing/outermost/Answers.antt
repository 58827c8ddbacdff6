use Rattle.std.proofs.Common.{◌≡◌, ◌≤◌, List, [], ◌∷◌, length, get_or, reverse, Some, sym, ap, arith}
use Rattle.std.specs.Option.{option_map}
use Rattle.css_model.specs.declared.token.Bracket.{Bracket}
use Rattle.sheet_read.specs.Steps.{outermost}
use Rattle.sheet_read.proofs.Nesting.{last_reverse}
use Rattle.sheet_read.proofs.lexing.outermost.Goals as goal

first : (brackets : List Bracket) (d : Bracket) → 1 ≤ length brackets → outermost (reverse brackets) ≡ Some (get_or brackets 0 d).at
first [] d some = absurd (omega arith)
first (b ∷ brackets) d some = ap (option_map (λ b. b.at)) (last_reverse b brackets)

pub returns-in-len1-up : goal.returns-in-len1-up
returns-in-len1-up c = sym (first c.args.brackets.now _ c.in-len1-up.len_at_least)
