-- The tokens of the printed text of a sheet, apart from where they stand.
use Rattle.std.proofs.Common.{◌≡◌, ℕ, Bool, true, false, not, List, [], ◌∷◌, ◌++◌, map, sym}
use Rattle.std.specs.Prelude.{◌&&◌, if◌then◌else◌, codes}
use Rattle.std.specs.List.{flat_map}
use Rattle.css_model.specs.declared.sheet.DeclItem.{DeclItem}
use Rattle.css_model.specs.declared.sheet.Item.{Item}
use Rattle.css_model.specs.declared.sheet.Item.TheVariants.{Rule, KeptRule, KeptBlock}
use Rattle.css_model.specs.declared.sheet.SelItem.{SelItem}
use Rattle.css_model.specs.declared.token.Gap.{Gap}
use Rattle.css_model.specs.declared.token.Gap.TheVariants as gap
use Rattle.css_model.specs.declared.token.Lexeme.{Lexeme}
use Rattle.css_model.specs.declared.token.TokenKind.{TokenKind}
use Rattle.css_model.specs.declared.token.TokenKind.TheVariants as kind
use Rattle.css_model.specs.Text.Characters.{comma, colon, semicolon, open_curly, close_curly, exclamation_mark, space}
use Rattle.css_model.specs.Selectors.Terms.{depth_behind}
use Rattle.css_model.specs.Selectors.Tokens.{selector_token}
use Rattle.css_model.specs.Text.Kept.{Solid, solid, is_open, is_lone, is_white_gap}
use Rattle.css_model.specs.Sheets.RuleParts.{RuleParts}
use Rattle.css_model.specs.Text.Source.{text_at}
use Rattle.css_model.specs.Sheets.Spelling.{tokens_in}
use Rattle.list_facts.proofs.Zips.{AllLast, cons_head, cons_tail, cons_not_empty}
use Rattle.sheet_laws.specs.Sourced.{SourcedItem, all_of_source}
use Rattle.selector_text_laws.specs.Back.{back}

-- a token apart from where it stands
pub record Shown : Type 0 where
  pub kind : TokenKind
  pub bytes : List ℕ
  pub gap : Gap
  pub level : ℕ

abbrev pub shown : List ℕ → Lexeme → Shown
shown source x = record { kind = x.kind; bytes = text_at source x.span; gap = x.gap; level = x.level }

-- the bytes of a token before white space: an open escape takes the first of it
abbrev pub closed : List ℕ → List ℕ
closed bytes = if is_open bytes then bytes ++ space ∷ [] else bytes

-- white space stands behind the token, and a newline of a lone backslash is none of it
abbrev pub is_before_white : Lexeme → Bool
is_before_white x = is_white_gap x.gap && not (is_lone x.kind)

abbrev pub printed_bytes : List ℕ → Lexeme → List ℕ
printed_bytes source x = if is_before_white x then closed (text_at source x.span) else text_at source x.span

-- what stands in the print behind a token that ends something: the newline of a lone backslash alone
abbrev pub last_gap : Lexeme → Gap
last_gap x = if is_lone x.kind then gap.White else gap.Nothing

-- a token of kept text or of a value that others follow
abbrev pub inner : List ℕ → Lexeme → Shown
inner source x = record { kind = x.kind; bytes = printed_bytes source x; gap = x.gap; level = x.level }

-- the last token of a value
abbrev pub last_of_value : List ℕ → Lexeme → Shown
last_of_value source x = record { kind = x.kind; bytes = printed_bytes source x; gap = last_gap x; level = x.level }

-- the last token of a kept item
abbrev pub last_of_item : List ℕ → Lexeme → Shown
last_of_item source x = record { kind = x.kind; bytes = text_at source x.span; gap = last_gap x; level = x.level }

-- tokens, where the last one is shown in another way
abbrev pub all_shown : (Lexeme → Shown) → (Lexeme → Shown) → List Lexeme → List Shown
all_shown others last [] = []
all_shown others last (x ∷ []) = last x ∷ []
all_shown others last (x ∷ y ∷ xs) = others x ∷ all_shown others last (y ∷ xs)

abbrev pub kept_shown : List ℕ → List Lexeme → List Shown
kept_shown source xs = all_shown (inner source) (last_of_item source) xs

abbrev pub value_shown : List ℕ → List Lexeme → List Shown
value_shown source xs = all_shown (inner source) (last_of_value source) xs

-- the parts with this token between them
abbrev pub joined : Shown → List (List Shown) → List Shown
joined s [] = []
joined s (part ∷ []) = part
joined s (part ∷ next ∷ parts) = part ++ s ∷ joined s (next ∷ parts)

abbrev pub sign_shown : ℕ → ℕ → Shown
sign_shown b level = record { kind = kind.Sign b; bytes = b ∷ []; gap = gap.Nothing; level = level }

-- tokens with so many brackets open before the first
abbrev pub with_levels : ℕ → List Solid → List Shown
with_levels level [] = []
with_levels level (s ∷ ss) =
    record { kind = s.kind; bytes = s.bytes; gap = s.gap; level = level } ∷ with_levels (depth_behind level (selector_token s)) ss

-- what the printed text of a selector is read back as
abbrev pub selector_shown : List ℕ → SelItem → List Shown
selector_shown source s = with_levels 0 (back (map (solid source) (tokens_in source s.piece)))

-- what stands behind the colon of a declaration: white space where that alone is its value
abbrev pub colon_gap : List ℕ → List Lexeme → Gap
colon_gap [] xs = gap.Nothing
colon_gap (c ∷ cs) [] = gap.White
colon_gap (c ∷ cs) (x ∷ xs) = gap.Nothing

abbrev pub importance_shown : Bool → List Shown
importance_shown false = []
importance_shown true =
    record { kind = kind.Delim exclamation_mark; bytes = codes "!"; gap = gap.Nothing; level = 1 }
    ∷ record { kind = kind.Ident; bytes = codes "important"; gap = gap.Nothing; level = 1 }
    ∷ []

abbrev pub declaration_shown : List ℕ → DeclItem → List Shown
declaration_shown source d =
    record { kind = kind.Ident; bytes = text_at source d.name; gap = gap.Nothing; level = 1 }
    ∷ record { kind = kind.Sign colon; bytes = colon ∷ []; gap = colon_gap d.decl.value (tokens_in source d.value); level = 1 }
    ∷ value_shown source (tokens_in source d.value) ++ importance_shown d.decl.important

abbrev pub rule_shown : List ℕ → RuleParts → List Shown
rule_shown source r =
    joined (sign_shown comma 0) (map (selector_shown source) r.selectors)
    ++ sign_shown open_curly 0 ∷ joined (sign_shown semicolon 1) (map (declaration_shown source) r.decls) ++ sign_shown close_curly 1 ∷ []

-- the tokens of an item's print
abbrev pub item_shown : List ℕ → Item → List Shown
item_shown source (Rule r) = rule_shown source r
item_shown source (KeptRule k) = kept_shown source (tokens_in source k.piece)
item_shown source (KeptBlock piece) = kept_shown source (tokens_in source piece)

-- of the print of items each of its own source
abbrev pub sourced_shown : List SourcedItem → List Shown
sourced_shown xs = flat_map (λ x. item_shown x.source x.item) xs

-- of the print of a sheet
abbrev pub sheet_shown : List ℕ → List Item → List Shown
sheet_shown source items = sourced_shown (all_of_source source items)

pub last_from_shown : (f others last : Lexeme → Shown) (ys xs : List Lexeme) → map f ys ≡ all_shown others last xs
    → AllLast (λ y x. f y ≡ others x) (λ y x. f y ≡ last x) ys xs
last_from_shown f others last [] [] e = tt
last_from_shown f others last [] (x ∷ []) e = absurd (cons_not_empty (last x) [] (sym e))
last_from_shown f others last [] (x ∷ next ∷ xs) e = absurd (cons_not_empty (others x) (all_shown others last (next ∷ xs)) (sym e))
last_from_shown f others last (y ∷ ys) [] e = absurd (cons_not_empty (f y) (map f ys) e)
last_from_shown f others last (y ∷ []) (x ∷ []) e = cons_head (f y) (last x) [] [] e
last_from_shown f others last (y ∷ []) (x ∷ next ∷ []) e =
    absurd (cons_not_empty (last next) [] (sym (cons_tail (f y) (others x) [] (last next ∷ []) e)))
last_from_shown f others last (y ∷ []) (x ∷ next ∷ later ∷ xs) e =
    absurd (cons_not_empty (others next) (all_shown others last (later ∷ xs)) (sym (cons_tail (f y) (others x) [] (others next ∷ all_shown others last (later ∷ xs)) e)))
last_from_shown f others last (y ∷ after ∷ ys) (x ∷ []) e =
    absurd (cons_not_empty (f after) (map f ys) (cons_tail (f y) (last x) (f after ∷ map f ys) [] e))
last_from_shown f others last (y ∷ after ∷ ys) (x ∷ next ∷ xs) e = (
  cons_head (f y) (others x) (f after ∷ map f ys) (all_shown others last (next ∷ xs)) e,
  last_from_shown f others last (after ∷ ys) (next ∷ xs) (cons_tail (f y) (others x) (f after ∷ map f ys) (all_shown others last (next ∷ xs)) e),
)
