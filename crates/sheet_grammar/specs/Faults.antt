-- Which fault a source has that is no sheet (own: CSS Syntax 3, section 2.2, knows none).
use Rattle.std.specs.Prelude.{ℕ, ◌+◌, ◌≡◌, ◌<◌, ◌≤◌, Bool, true, false, List, [], ◌∷◌, ◌++◌, length, Option, Some, None}
use Rattle.std.specs.List.{list_any, sum_by}
use Rattle.std.specs.Str.{IsUtf8}
use Rattle.std.specs.Str.Lossy.{utf8_valid_len}
use Rattle.css_model.specs.declared.fault.FaultKind.TheVariants as kind
use Rattle.css_model.specs.declared.fault.SheetFault.{SheetFault}
use Rattle.css_model.specs.declared.sheet.Item.{Item}
use Rattle.css_model.specs.declared.token.Lexeme.{Lexeme}
use Rattle.css_model.specs.declared.token.Token.{Token}
use Rattle.css_model.specs.declared.token.TokenFault.{TokenFault}
use Rattle.css_model.specs.Sheets.Limits.{max_bytes, max_items, max_pairs}
use Rattle.css_model.specs.Sheets.Sheet.{is_namespace, pairs_of, start_of, token_fault}
use Rattle.css_model.specs.Text.Lexemes.{piece_of}
use Rattle.token_grammar.specs.Longest.{AreTheTokensOf}
use Rattle.sheet_grammar.specs.Items.{AreItems}
use Rattle.sheet_grammar.specs.Sheet.{AreRead, is_deep}
use Rattle.sheet_grammar.specs.Values.{AreLexemes, AreOpened}

-- this is the first member that passes
pub data IsFirst {A : Type 0} (p : A → Bool) (xs : List A) (x : A) : Type 0 where
  first : (before after : List A) → xs ≡ before ++ x ∷ after → list_any p before ≡ false → p x ≡ true → IsFirst p xs x

-- What is wrong with tokens without a flaw, by tests in this order: the depth of brackets, whether they match,
-- `@namespace`, the number of items, and the number of pairs.
pub data IsFaultOfTokens (source : List ℕ) (xs : List Lexeme) (left : Option ℕ) : SheetFault → Type 0 where
  too_deep : (x : Lexeme) → IsFirst is_deep xs x → IsFaultOfTokens source xs left (record { kind = kind.TooDeep; at = x.span.start })
  end_inside : (at : ℕ) → list_any is_deep xs ≡ false → left ≡ Some at → IsFaultOfTokens source xs left (record { kind = kind.EndInside; at = at })
  namespace : (items : List (List Lexeme)) (item : List Lexeme) → list_any is_deep xs ≡ false → left ≡ None → AreItems xs items
      → IsFirst (is_namespace source) items item → IsFaultOfTokens source xs left (record { kind = kind.Namespace; at = (piece_of item).start })
  too_many_items : (items : List (List Lexeme)) (before after : List Item) (x : Item) → list_any is_deep xs ≡ false → left ≡ None → AreItems xs items
      → list_any (is_namespace source) items ≡ false → AreRead source items (before ++ x ∷ after) → length before ≡ max_items
      → IsFaultOfTokens source xs left (record { kind = kind.TooManyItems; at = start_of x })
  too_many_pairs : (items : List (List Lexeme)) (before after : List Item) (x : Item) → list_any is_deep xs ≡ false → left ≡ None → AreItems xs items
      → list_any (is_namespace source) items ≡ false → AreRead source items (before ++ x ∷ after) → length (before ++ x ∷ after) ≤ max_items
      → sum_by pairs_of before ≤ max_pairs → max_pairs < sum_by pairs_of before + pairs_of x
      → IsFaultOfTokens source xs left (record { kind = kind.TooManyPairs; at = start_of x })

-- what is wrong with a source, by tests in this order: its length, whether it is UTF-8, its tokens, and what these make
pub data IsFault (source : List ℕ) : SheetFault → Type 0 where
  too_long : max_bytes < length source → IsFault source (record { kind = kind.TooLong; at = max_bytes })
  not_utf8 : length source ≤ max_bytes → (IsUtf8 source → ⊥) → IsFault source (record { kind = kind.NotUtf8; at = utf8_valid_len source })
  in_token : (ts : List Token) (f : TokenFault) → length source ≤ max_bytes → IsUtf8 source → AreTheTokensOf source true ts (Some f) → IsFault source (token_fault f)
  of_tokens : (ts : List Token) (xs : List Lexeme) (left : Option ℕ) (f : SheetFault) → length source ≤ max_bytes → IsUtf8 source → AreTheTokensOf source true ts None
      → AreLexemes ts xs → AreOpened None 0 left xs → IsFaultOfTokens source xs left f → IsFault source f
