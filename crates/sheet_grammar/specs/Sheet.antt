-- What it is for items to be the sheet of a source (CSS Syntax 3, sections 5.3.3 and 5.4.1, and this tool's profile).
use Rattle.std.specs.Prelude.{ℕ, ◌≡◌, ◌≤◌, ◌==◌, ◌&&◌, Bool, true, false, List, [], ◌∷◌, ◌++◌, length, map, Option, Some, None, Err}
use Rattle.std.specs.List.{list_any, sum_by}
use Rattle.std.specs.Str.{IsUtf8}
use Rattle.css_model.specs.declared.sheet.DeclItem.{DeclItem}
use Rattle.css_model.specs.declared.sheet.Item.{Item}
use Rattle.css_model.specs.declared.sheet.Item.TheVariants.{KeptBlock, KeptRule, Rule}
use Rattle.css_model.specs.declared.sheet.SelItem.{SelItem}
use Rattle.css_model.specs.declared.reason.Reason.{Reason}
use Rattle.css_model.specs.declared.token.Lexeme.{Lexeme}
use Rattle.css_model.specs.declared.token.Token.{Token}
use Rattle.css_model.specs.Documents.SelectorParts.{SelectorParts}
use Rattle.css_model.specs.Lists.{all_of}
use Rattle.css_model.specs.Selectors.Reasons.{number_of}
use Rattle.css_model.specs.Selectors.Terms.{terms}
use Rattle.css_model.specs.Sheets.Items.{is_at_rule}
use Rattle.css_model.specs.Sheets.Limits.{max_bytes, max_depth, max_items, max_pairs}
use Rattle.css_model.specs.Sheets.Selectors.{selector_item}
use Rattle.css_model.specs.Sheets.Sheet.{is_import, is_namespace, pairs_of}
use Rattle.css_model.specs.Text.Characters.{comma, semicolon}
use Rattle.css_model.specs.Text.Kept.{solid}
use Rattle.css_model.specs.Text.Lexemes.{opens, piece_of}
use Rattle.selector_laws.specs.Grammar.{IsSelector}
use Rattle.selector_laws.specs.Limits.{KeepsLimits}
use Rattle.token_grammar.specs.Longest.{AreTheTokensOf}
use Rattle.sheet_grammar.specs.Entries.{AreDeclarations, ArePartsBy, IsNested}
use Rattle.sheet_grammar.specs.Items.{AreItems, IsQualifiedRule}
use Rattle.sheet_grammar.specs.Values.{AreLexemes, AreValues}

-- the parts of a prelude are selectors of the profile: each is derived by the grammar of selectors and within its limits
pub data AreSelectors (source : List ℕ) : List (List Lexeme) → List SelItem → Type 0 where
  at_end : AreSelectors source [] []
  more : (part : List Lexeme) (selector : SelectorParts) (parts : List (List Lexeme)) (xs : List SelItem) → IsSelector (terms (map (solid source) part)) selector → KeepsLimits selector
      → AreSelectors source parts xs → AreSelectors source (part ∷ parts) (record { selector = selector; piece = piece_of part } ∷ xs)

-- a qualified rule, its prelude between commas, and its block between semicolons
pub data IsRuleOf (item : List Lexeme) (parts entries : List (List Lexeme)) : Type 0 where
  parted : (prelude inside : List Lexeme) → IsQualifiedRule item prelude inside → ArePartsBy comma 0 prelude parts → ArePartsBy semicolon 1 inside entries → IsRuleOf item parts entries

-- What is kept of an item, before others, if anything is. An at-rule, a rule with a nested entry, and any item before an
-- `@import` (CSS Cascading 3, section 2) are kept as they are. A rule whose parts are all selectors of the profile is a style
-- rule, and dropped if it declares nothing. With a reason against one of them it is kept, with its declarations (own).
pub data IsRead (source : List ℕ) (item : List Lexeme) (later : List (List Lexeme)) : Option Item → Type 0 where
  before_import : list_any (is_import source) later ≡ true → IsRead source item later (Some (KeptBlock (piece_of item)))
  at_rule : list_any (is_import source) later ≡ false → is_at_rule item ≡ true → IsRead source item later (Some (KeptBlock (piece_of item)))
  nested : (entry : List Lexeme) (parts before after : List (List Lexeme)) → list_any (is_import source) later ≡ false → IsRuleOf item parts (before ++ entry ∷ after)
      → IsNested source entry → IsRead source item later (Some (KeptBlock (piece_of item)))
  style_rule : (parts entries : List (List Lexeme)) (xs : List SelItem) (d : DeclItem) (ds : List DeclItem) → list_any (is_import source) later ≡ false → IsRuleOf item parts entries
      → AreSelectors source parts xs → AreDeclarations source entries (d ∷ ds) → IsRead source item later (Some (Rule (record { selectors = xs; decls = d ∷ ds })))
  empty_rule : (parts entries : List (List Lexeme)) (xs : List SelItem) → list_any (is_import source) later ≡ false → IsRuleOf item parts entries
      → AreSelectors source parts xs → AreDeclarations source entries [] → IsRead source item later None
  kept_rule : (parts entries : List (List Lexeme)) (reason : Reason) (ds : List DeclItem) → list_any (is_import source) later ≡ false → IsRuleOf item parts entries
      → all_of (selector_item source) parts ≡ Err reason → AreDeclarations source entries ds
      → IsRead source item later (Some (KeptRule (record { piece = piece_of item; decls = map (λ d. d.decl) ds; reason = number_of reason })))

-- what is kept of items
pub data AreRead (source : List ℕ) : List (List Lexeme) → List Item → Type 0 where
  at_end : AreRead source [] []
  kept : (item : List Lexeme) (later : List (List Lexeme)) (x : Item) (xs : List Item) → IsRead source item later (Some x) → AreRead source later xs
      → AreRead source (item ∷ later) (x ∷ xs)
  dropped : (item : List Lexeme) (later : List (List Lexeme)) (xs : List Item) → IsRead source item later None → AreRead source later xs → AreRead source (item ∷ later) xs

-- a bracket that opens where no more may
abbrev pub is_deep : Lexeme → Bool
is_deep x = opens x.kind && x.level == max_depth

-- the sheet of a source: its tokens are values, its items are theirs, and it is within the limits of this tool
pub record IsSheet (source : List ℕ) (sheet : List Item) : Type 0 where
  pub tokens : List Token
  pub lexemes : List Lexeme
  pub items : List (List Lexeme)
  pub short : length source ≤ max_bytes
  pub utf8 : IsUtf8 source
  pub are_tokens : AreTheTokensOf source true tokens None
  pub are_lexemes : AreLexemes tokens lexemes
  pub balanced : AreValues None 0 lexemes
  pub shallow : list_any is_deep lexemes ≡ false
  pub are_items : AreItems lexemes items
  pub no_namespace : list_any (is_namespace source) items ≡ false
  pub are_read : AreRead source items sheet
  pub few_items : length sheet ≤ max_items
  pub few_pairs : sum_by pairs_of sheet ≤ max_pairs
