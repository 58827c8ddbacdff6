-- What none of a source's tokens is, none of the tokens of a printed sheet is either.
use Rattle.std.proofs.Common.{◌≡◌, ℕ, ◌≤◌, Bool, true, false, List, [], ◌∷◌, ◌++◌, map, refl, ◌∙◌}
use Rattle.std.specs.Prelude.{if◌then◌else◌}
use Rattle.std.specs.List.{AllByRecursion, filter}
use Rattle.css_model.specs.declared.sheet.DeclItem.{DeclItem}
use Rattle.css_model.specs.declared.sheet.Item.{Item}
use Rattle.css_model.specs.declared.sheet.Item.TheVariants.{Rule, KeptRule, KeptBlock}
use Rattle.css_model.specs.declared.sheet.Piece.{Piece}
use Rattle.css_model.specs.declared.sheet.SelItem.{SelItem}
use Rattle.css_model.specs.declared.token.Lexeme.{Lexeme}
use Rattle.css_model.specs.declared.token.TokenKind.{TokenKind}
use Rattle.css_model.specs.declared.token.TokenKind.TheVariants as kind
use Rattle.css_model.specs.Selectors.Terms.{depth_behind}
use Rattle.css_model.specs.Selectors.Tokens.{selector_token}
use Rattle.css_model.specs.Sheets.Spelling.{lexemes_of, stands_in, tokens_in}
use Rattle.css_model.specs.Text.Characters.{close_curly, colon, comma, exclamation_mark, open_curly, semicolon}
use Rattle.css_model.specs.Text.Kept.{Solid, solid}
use Rattle.list_facts.proofs.Cuts.{None_of, none_append}
use Rattle.selector_text_laws.specs.Back.{AreShallow, back, is_selector_kind}
use Rattle.sheet_laws.proofs.ForCallers.{IsFrom, IsOfSelector, Shown, all_shown, declaration_shown, importance_shown, inner, item_shown, joined, kept_shown, last_of_item, last_of_value, selector_shown, sheet_shown, sign_shown, value_shown, with_levels}

-- a test of kinds and levels that no token passes which is printed for a rule, but for those of values
pub record IsSpared (p : TokenKind → ℕ → Bool) : Type 0 where
  pub selector : (k : TokenKind) (level : ℕ) → is_selector_kind k ≡ true → level ≤ 2 → p k level ≡ false
  pub comma : p (kind.Sign comma) 0 ≡ false
  pub opens : p (kind.Sign open_curly) 0 ≡ false
  pub name : p kind.Ident 1 ≡ false
  pub colon : p (kind.Sign colon) 1 ≡ false
  pub bang : p (kind.Delim exclamation_mark) 1 ≡ false
  pub semicolon : p (kind.Sign semicolon) 1 ≡ false
  pub closes : p (kind.Sign close_curly) 1 ≡ false

pub none_shown : (p : TokenKind → ℕ → Bool) (others last : Lexeme → Shown) → ((x : Lexeme) → p (others x).kind (others x).level ≡ p x.kind x.level) → ((x : Lexeme) → p (last x).kind (last x).level ≡ p x.kind x.level)
    → (xs : List Lexeme) → None_of (λ x. p x.kind x.level) xs → None_of (λ s. p s.kind s.level) (all_shown others last xs)
none_shown p others last o l [] none = tt
none_shown p others last o l (x ∷ []) none = (l x ∙ none.0, tt)
none_shown p others last o l (x ∷ next ∷ xs) none = (o x ∙ none.0, none_shown p others last o l (next ∷ xs) none.1)

pub none_kept : (p : TokenKind → ℕ → Bool) (source : List ℕ) (xs : List Lexeme) → None_of (λ x. p x.kind x.level) xs → None_of (λ s. p s.kind s.level) (kept_shown source xs)
none_kept p source = none_shown p (inner source) (last_of_item source) (λ x. refl) (λ x. refl)

none_filtered : (p q : Lexeme → Bool) (xs : List Lexeme) → None_of p xs → None_of p (filter q xs)
none_filtered p q [] none = tt
none_filtered p q (x ∷ xs) none = which (q x) (none_filtered p q xs none.1)
  where
    which : (b : Bool) → None_of p (filter q xs) → None_of p (if b then x ∷ filter q xs else filter q xs)
    which true rest = (none.0, rest)
    which false rest = rest

-- a test, the source, and that none of its tokens passes
module _ (p : TokenKind → ℕ → Bool) (spared : IsSpared p) (source : List ℕ) (none : None_of (λ x. p x.kind x.level) (lexemes_of source)) where
  abbrev passes : Shown → Bool
  passes s = p s.kind s.level

  none_levels : (depth : ℕ) (ss : List Solid) → AllByRecursion (λ s. is_selector_kind s.kind ≡ true) ss → AreShallow depth ss → None_of passes (with_levels depth ss)
  none_levels depth [] kinds few = tt
  none_levels depth (s ∷ ss) kinds few = (spared.selector s.kind depth kinds.0 few.0, none_levels (depth_behind depth (selector_token s)) ss kinds.1 few.1)

  none_selectors : (ss : List SelItem) → AllByRecursion (IsOfSelector source) ss → AllByRecursion (None_of passes) (map (selector_shown source) ss)
  none_selectors [] each = tt
  none_selectors (s ∷ ss) each = (none_levels 0 (back (map (solid source) (tokens_in source s.piece))) each.0.again.kinds each.0.again.depths, none_selectors ss each.1)

  none_importance : (important : Bool) → None_of passes (importance_shown important)
  none_importance false = tt
  none_importance true = (spared.bang, (spared.name, tt))

  none_declarations : (ds : List DeclItem) → AllByRecursion (None_of passes) (map (declaration_shown source) ds)
  none_declarations [] = tt
  none_declarations (d ∷ ds) = (
    (
      spared.name,
      (
        spared.colon,
        none_append passes (value_shown source (tokens_in source d.value)) (importance_shown d.decl.important)
            (none_shown p (inner source) (last_of_value source) (λ x. refl) (λ x. refl) (tokens_in source d.value) (none_filtered (λ x. p x.kind x.level) (stands_in d.value) (lexemes_of source) none))
            (none_importance d.decl.important),
      ),
    ),
    none_declarations ds,
  )

  none_joined : (sign : Shown) (parts : List (List Shown)) → passes sign ≡ false → AllByRecursion (None_of passes) parts → None_of passes (joined sign parts)
  none_joined sign [] other each = tt
  none_joined sign (part ∷ []) other each = each.0
  none_joined sign (part ∷ next ∷ parts) other each = none_append passes part (sign ∷ joined sign (next ∷ parts)) each.0 (other, none_joined sign (next ∷ parts) other each.1)

  none_piece : (piece : Piece) → None_of passes (kept_shown source (tokens_in source piece))
  none_piece piece = none_kept p source (tokens_in source piece) (none_filtered (λ x. p x.kind x.level) (stands_in piece) (lexemes_of source) none)

  none_item : (item : Item) → IsFrom source item → None_of passes (item_shown source item)
  none_item (KeptRule k) from = none_piece k.piece
  none_item (KeptBlock piece) from = none_piece piece
  none_item (Rule r) from =
      let prelude = joined (sign_shown comma 0) (map (selector_shown source) r.selectors) in
      let inside = joined (sign_shown semicolon 1) (map (declaration_shown source) r.decls) in
      none_append passes (prelude ++ sign_shown open_curly 0 ∷ inside) (sign_shown close_curly 1 ∷ [])
      (none_append passes prelude (sign_shown open_curly 0 ∷ inside)
      (none_joined (sign_shown comma 0) (map (selector_shown source) r.selectors) spared.comma (none_selectors r.selectors from.selectors))
      (spared.opens, none_joined (sign_shown semicolon 1) (map (declaration_shown source) r.decls) spared.semicolon (none_declarations r.decls)))
      (spared.closes, tt)

  pub none_sheet : (its : List Item) → AllByRecursion (IsFrom source) its → None_of passes (sheet_shown source its)
  none_sheet [] from = tt
  none_sheet (item ∷ its) from = none_append passes (item_shown source item) (sheet_shown source its) (none_item item from.0) (none_sheet its from.1)
