-- Open brackets, of which the last is the innermost, and the lexemes that are still to come inside them.
use Rattle.std.proofs.Common.{ℕ, suc, ◌≡◌, ◌≤◌, ◌&&◌, ◌++◌, Bool, true, false, cond, eqb, List, [], ◌∷◌, length, drop, reverse, Option, Some, None, refl, ap, ◌∙◌, arith}
use Rattle.std.specs.List.{last_or}
use Rattle.std.proofs.lemmas.List.{reverse-append}
use Rattle.css_model.specs.declared.limits.TheConstants.{MAX_DEPTH}
use Rattle.css_model.specs.declared.token.Bracket.{Bracket}
use Rattle.css_model.specs.declared.token.Lexeme.{Lexeme}
use Rattle.css_model.specs.declared.token.Token.{Token}
use Rattle.css_model.specs.Text.Lexemes.{closer_of, closes, opened, after, lexeme}
use Rattle.css_model.specs.Lists.{is_some}
use Rattle.css_model.specs.Sheets.Sheet.{too_deep}
use Rattle.sheet_read.specs.Steps.{is_too_deep}

-- the last of a list is the first of the reversed list
pub last_push : (o : Option Bracket) (xs : List Bracket) (b : Bracket) → last_or o (xs ++ b ∷ []) ≡ Some b
last_push o [] b = refl
last_push o (x ∷ xs) b = last_push (Some x) xs b

pub last_reverse : (b : Bracket) (brackets : List Bracket) → last_or None (reverse (b ∷ brackets)) ≡ Some b
last_reverse b brackets = ap (last_or None) (reverse-append (b ∷ []) brackets) ∙ last_push None (reverse brackets) b

-- a lexeme that is too deep, and one that is not, before others
pub deep_here : (x : Lexeme) (xs : List Lexeme) → is_too_deep x ≡ true → too_deep (x ∷ xs) ≡ Some x.span.start
deep_here x xs h = rw h refl

pub deep_later : (x : Lexeme) (xs : List Lexeme) → is_too_deep x ≡ false → too_deep (x ∷ xs) ≡ too_deep xs
deep_later x xs h = rw h refl

-- a token that is not too deep leaves no more brackets open than may be
short : (c : Bool) (o : Option ℕ) (at : ℕ) (brackets : List Bracket) → length brackets ≤ MAX_DEPTH → is_some o && eqb (length brackets) MAX_DEPTH ≡ false
    → length (cond c (drop 1 brackets) (opened at o brackets)) ≤ MAX_DEPTH
short true o at [] le h = omega arith
short true o at (b ∷ brackets) le h = omega arith
short false None at brackets le h = le
short false (Some closer) at brackets le h = below (length brackets) le h
  where
    below : (n : ℕ) → n ≤ MAX_DEPTH → eqb n MAX_DEPTH ≡ false → suc n ≤ MAX_DEPTH
    below n le h = grind arith

pub after_short : (brackets : List Bracket) (t : Token) (ts : List Token) → length brackets ≤ MAX_DEPTH → is_too_deep (lexeme (length brackets) t ts) ≡ false
    → length (after t brackets) ≤ MAX_DEPTH
after_short brackets t ts le h = short (closes t.kind brackets) (closer_of t.kind) t.span.start brackets le h
