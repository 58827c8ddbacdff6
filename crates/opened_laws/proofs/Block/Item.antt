-- Tokens that are one at-rule with a block.
use Rattle.std.proofs.Common.{◌≡◌, Bool, true, not, List, [], ◌∷◌, ◌++◌, refl, sym, ◌∙◌, ap}
use Rattle.std.specs.Prelude.{◌&&◌, ◌||◌, if◌then◌else◌}
use Rattle.std.specs.List.{filter, list_any}
use Rattle.std.proofs.lemmas.Bool.{cond-true, false≢true, or_parts}
use Rattle.std.proofs.lemmas.List.{append-nil}
use Rattle.std.proofs.lemmas.List.Folds.{list_any-append}
use Rattle.css_model.specs.declared.token.Lexeme.{Lexeme}
use Rattle.css_model.specs.declared.token.TokenKind.{TokenKind}
use Rattle.css_model.specs.declared.token.TokenKind.TheVariants as kind
use Rattle.css_model.specs.Sheets.Items.{closes_block, ends_prelude, is_at_keyword, is_at_rule, is_between_items, is_whole, item_len, items, opens_block}
use Rattle.css_model.specs.Text.Characters.{semicolon}
use Rattle.css_model.specs.Text.Lexemes.{is_sign_at}
use Rattle.list_facts.proofs.Cuts.{None_of}
use Rattle.sheet_laws.proofs.ForCallers.{ended_item_len, ends_in, ends_with_block, is_ended, is_nil, items_again, or_true}

-- an at-rule by its tokens: before its block stands none that would end it, and in its block none that would close it
pub record IsAtBlock (front : List Lexeme) (open_ : Lexeme) (inner : List Lexeme) (close : Lexeme) : Type 0 where
  pub at_rule : is_at_rule front ≡ true
  pub no_end : None_of (ends_prelude true) front
  pub opens : opens_block open_ ≡ true
  pub stays : None_of closes_block inner
  pub closes : closes_block close ≡ true

abbrev pub block_tokens : List Lexeme → Lexeme → List Lexeme → Lexeme → List Lexeme
block_tokens front open_ inner close = front ++ open_ ∷ (inner ++ close ∷ [])

inner_ends : (inner : List Lexeme) (close : Lexeme) → None_of closes_block inner → closes_block close ≡ true → ends_with_block (inner ++ close ∷ []) ≡ true
inner_ends [] close stays closes = cond-true _ _ _ closes
inner_ends (x ∷ inner) close (here, stays) closes =
    ap (λ (b : Bool). if b then is_nil (inner ++ close ∷ []) else ends_with_block (inner ++ close ∷ [])) here ∙ inner_ends inner close stays closes

front_ends : (front : List Lexeme) (open_ : Lexeme) (rest : List Lexeme) → None_of (ends_prelude true) front → opens_block open_ ≡ true → ends_with_block rest ≡ true → ends_in true (front ++ open_ ∷ rest) ≡ true
front_ends [] open_ rest none opens ends = cond-true _ _ _ opens ∙ ends
front_ends (x ∷ front) open_ rest (here, none) opens ends =
    let both = or_parts (opens_block x) (true && is_sign_at semicolon 0 x) here in
    ap (λ (b : Bool). if b then ends_with_block (front ++ open_ ∷ rest) else if true && is_sign_at semicolon 0 x then is_nil (front ++ open_ ∷ rest) else ends_in true (front ++ open_ ∷ rest)) both.0
    ∙ ap (λ (b : Bool). if b then is_nil (front ++ open_ ∷ rest) else ends_in true (front ++ open_ ∷ rest)) both.1
    ∙ front_ends front open_ rest none opens ends

keyword_begins : (k : TokenKind) → is_at_keyword k ≡ true → not (is_between_items k) ≡ true
keyword_begins kind.AtKeyword is = refl
keyword_begins _ is = absurd (false≢true is)

pub is_at_rule_block : (front : List Lexeme) (open_ : Lexeme) (inner : List Lexeme) (close : Lexeme) → is_at_rule front ≡ true → is_at_rule (block_tokens front open_ inner close) ≡ true
is_at_rule_block [] open_ inner close is = absurd (false≢true is)
is_at_rule_block (x ∷ front) open_ inner close is = is

-- They are one item, which is not dropped.
pub block_items : (front : List Lexeme) (open_ : Lexeme) (inner : List Lexeme) (close : Lexeme) → IsAtBlock front open_ inner close
    → filter is_whole (items (block_tokens front open_ inner close)) ≡ block_tokens front open_ inner close ∷ []
block_items [] open_ inner close b = absurd (false≢true b.at_rule)
block_items (x ∷ front) open_ inner close b =
    let ys = block_tokens (x ∷ front) open_ inner close in
    let ended : is_ended ys ≡ true =
    ap (λ (a : Bool). ends_in a ys) b.at_rule ∙ front_ends (x ∷ front) open_ (inner ++ close ∷ []) b.no_end b.opens (inner_ends inner close b.stays b.closes) in
    let one : items ys ≡ ys ∷ [] = ap items (sym (append-nil ys)) ∙ items_again (ys ∷ []) (keyword_begins x.kind b.at_rule, ap item_len (sym (append-nil ys)) ∙ ended_item_len ys [] ended) in
    ap (filter is_whole) one ∙ ap (λ (w : Bool). if w || list_any opens_block ys then ys ∷ [] else []) b.at_rule

pub block_opens : (front : List Lexeme) (open_ : Lexeme) (inner : List Lexeme) (close : Lexeme) → opens_block open_ ≡ true → list_any opens_block (block_tokens front open_ inner close) ≡ true
block_opens front open_ inner close opens =
    list_any-append opens_block front (open_ ∷ (inner ++ close ∷ [])) ∙ ap (λ (b : Bool). list_any opens_block front || (b || list_any opens_block (inner ++ close ∷ []))) opens ∙ or_true (list_any opens_block front)
