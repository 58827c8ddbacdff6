-- A sheet that is read from what was printed for another says what that one says, and is printed alike.
use Rattle.std.proofs.Common.{◌≡◌, ℕ, ◌*◌, List, [], ◌∷◌, ◌++◌, length, map, None, refl, sym, ◌∙◌, ap, ap₂, subst}
use Rattle.std.specs.Prelude.{⊤}
use Rattle.std.specs.List.{AllZip, flat_map, join_with_byte, filter, find}
use Rattle.css_model.specs.declared.sheet.DeclItem.{DeclItem}
use Rattle.css_model.specs.declared.sheet.Item.{Item}
use Rattle.css_model.specs.declared.sheet.Item.TheVariants.{Rule, KeptRule, KeptBlock}
use Rattle.css_model.specs.declared.sheet.Piece.{Piece}
use Rattle.css_model.specs.declared.sheet.SelItem.{SelItem}
use Rattle.css_model.specs.declared.token.Lexeme.{Lexeme}
use Rattle.css_model.specs.Text.Characters.{comma, colon, semicolon, open_curly, close_curly}
use Rattle.css_model.specs.Sheets.Items.{items, is_whole}
use Rattle.css_model.specs.Text.Kept.{solid, kept}
use Rattle.css_model.specs.Sheets.Printed.{printed_selector, importance, printed_declaration, printed_item, behind_mark, printed}
use Rattle.css_model.specs.Sheets.PrintedSelector.{selector_text}
use Rattle.css_model.specs.Sheets.Sheet.{is_namespace, read_items, pairs_of}
use Rattle.css_model.specs.Text.Lexemes.{piece_of}
use Rattle.css_model.specs.Text.Source.{text_at}
use Rattle.css_model.specs.Sheets.Spelling.{Content, Style, Kept, Block, content, all_content, lexemes_of, tokens_in, kept_text}
use Rattle.css_model.specs.Sheets.StyleRule.{selectors_of}
use Rattle.sheet_laws.specs.Sourced.{AreTwinsOfSourced, SourcedItem, items_of, printed_sourced, sourced_text}
use Rattle.sheet_laws.specs.Twins.{selector_with_text, decl_with_text, AreTwinItems}
use Rattle.sheet_laws.proofs.Printed.Blocks.{IsDeclarationAgain}
use Rattle.list_facts.proofs.Zips.{zip_length}
use Rattle.sheet_laws.proofs.Source.Pieces.{AreAscending, stand_alone}
use Rattle.sheet_laws.proofs.Printed.Preludes.{IsSelectorAgain}
use Rattle.sheet_laws.proofs.Printed.Joins.{StandsIn}
use Rattle.sheet_laws.proofs.Printed.Sheet.{AreFromSources, AreSourcedInOrder, IsKeptAgain, IsAgain, IsSourcedAgain, sheet_again}
use Rattle.sheet_laws.proofs.Shown.Tokens.{kept_shown, shown, sourced_shown}

-- the tokens of a source stand in order
abbrev pub InOrder : List ℕ → Type 0
InOrder source = AreAscending 0 (lexemes_of source)

selector_prints : (new old : List ℕ) → InOrder new → (s' s : SelItem) → IsSelectorAgain new old (lexemes_of new) s' s → printed_selector new s' ≡ printed_selector old s
selector_prints new old order s' s again =
    ap (λ p. selector_text (map (solid new) (tokens_in new p))) again.stands
    ∙ ap (λ xs. selector_text (map (solid new) xs)) (stand_alone 0 (lexemes_of new) again.tokens order again.inside)
    ∙ again.text

selectors_print : (new old : List ℕ) → InOrder new → (ss' ss : List SelItem) → AllZip (IsSelectorAgain new old (lexemes_of new)) ss' ss
    → (map (λ s. s.selector) ss' ≡ map (λ s. s.selector) ss) × (map (printed_selector new) ss' ≡ map (printed_selector old) ss)
selectors_print new old order [] [] z = (refl, refl)
selectors_print new old order [] (s ∷ ss) z = absurd z
selectors_print new old order (s' ∷ ss') [] z = absurd z
selectors_print new old order (s' ∷ ss') (s ∷ ss) z =
    let rest = selectors_print new old order ss' ss z.1 in (
      ap (λ t. t ∷ map (λ s. s.selector) ss') z.0.same ∙ ap (λ ts. s.selector ∷ ts) rest.0,
      ap (λ t. t ∷ map (printed_selector new) ss') (selector_prints new old order s' s z.0) ∙ ap (λ ts. printed_selector old s ∷ ts) rest.1,
    )

declaration_prints : (new old : List ℕ) (d' d : DeclItem) → IsDeclarationAgain new old d' d → printed_declaration new d' ≡ printed_declaration old d
declaration_prints new old d' d again =
    ap (λ t. t ++ colon ∷ d'.decl.value ++ importance d'.decl.important) again.name
    ∙ ap (λ x. text_at old d.name ++ colon ∷ x.value ++ importance x.important) again.same

declarations_print : (new old : List ℕ) (ds' ds : List DeclItem) → AllZip (IsDeclarationAgain new old) ds' ds
    → (map (λ d. d.decl) ds' ≡ map (λ d. d.decl) ds) × (map (printed_declaration new) ds' ≡ map (printed_declaration old) ds)
declarations_print new old [] [] z = (refl, refl)
declarations_print new old [] (d ∷ ds) z = absurd z
declarations_print new old (d' ∷ ds') [] z = absurd z
declarations_print new old (d' ∷ ds') (d ∷ ds) z =
    let rest = declarations_print new old ds' ds z.1 in (
      ap (λ t. t ∷ map (λ d. d.decl) ds') z.0.same ∙ ap (λ ts. d.decl ∷ ts) rest.0,
      ap (λ t. t ∷ map (printed_declaration new) ds') (declaration_prints new old d' d z.0) ∙ ap (λ ts. printed_declaration old d ∷ ts) rest.1,
    )

kept_says : (new old : List ℕ) → InOrder new → (p' p : Piece) → IsKeptAgain new old (lexemes_of new) p' p → kept_text new p' ≡ kept_text old p
kept_says new old order p' p again =
    ap (kept_text new) again.stands
    ∙ ap (λ xs. kept (map (solid new) xs)) (stand_alone 0 (lexemes_of new) again.tokens order again.inside)
    ∙ again.text

-- what an item says, and what is printed for it
record SaysAlike (new old : List ℕ) (item' item : Item) : Type 0 where
  says : content new item' ≡ content old item
  prints : printed_item new item' ≡ printed_item old item
  pairs : pairs_of item' ≡ pairs_of item

item_says : (new old : List ℕ) → InOrder new → (item' item : Item) → IsAgain new old (lexemes_of new) item' item → SaysAlike new old item' item
item_says new old order (Rule r') (Rule r) again =
    let selectors = selectors_print new old order r'.selectors r.selectors again.selectors in
    let decls = declarations_print new old r'.decls r.decls again.decls in
    record {
      says =
          ap (λ ts. Style (record { selectors = ts; decls = map (λ d. d.decl) r'.decls })) selectors.0
          ∙ ap (λ ts. Style (record { selectors = selectors_of r; decls = ts })) decls.0;
      prints =
          ap (λ ts. join_with_byte comma ts ++ open_curly ∷ join_with_byte semicolon (map (printed_declaration new) r'.decls) ++ close_curly ∷ []) selectors.1
          ∙ ap (λ ts. join_with_byte comma (map (printed_selector old) r.selectors) ++ open_curly ∷ join_with_byte semicolon ts ++ close_curly ∷ []) decls.1;
      pairs =
          ap (λ (n : ℕ). n * length r'.decls) (zip_length (IsSelectorAgain new old (lexemes_of new)) r'.selectors r.selectors again.selectors)
          ∙ ap (λ (n : ℕ). length r.selectors * n) (zip_length (IsDeclarationAgain new old) r'.decls r.decls again.decls);
    }
item_says new old order (Rule r') (KeptRule k) again = absurd again
item_says new old order (Rule r') (KeptBlock p) again = absurd again
item_says new old order (KeptRule k') (Rule r) again = absurd again
item_says new old order (KeptRule k') (KeptRule k) again =
    let text = kept_says new old order k'.piece k.piece again.0 in
    record {
      says = ap (λ t. Kept t k'.decls k'.reason) text ∙ ap (λ ds. Kept (kept_text old k.piece) ds k'.reason) again.1 ∙ ap (λ n. Kept (kept_text old k.piece) k.decls n) again.2;
      prints = text;
      pairs = refl;
    }
item_says new old order (KeptRule k') (KeptBlock p) again = absurd again
item_says new old order (KeptBlock p') (Rule r) again = absurd again
item_says new old order (KeptBlock p') (KeptRule k) again = absurd again
item_says new old order (KeptBlock p') (KeptBlock p) again =
    let text = kept_says new old order p' p again in
    record { says = ap Block text; prints = text; pairs = refl }

-- what such an item says
abbrev pub sourced_content : SourcedItem → Content
sourced_content x = content x.source x.item

-- the same of all items of a sheet
record SayAlike (new : List ℕ) (its : List Item) (xs : List SourcedItem) : Type 0 where
  says : all_content new its ≡ map sourced_content xs
  prints : flat_map (printed_item new) its ≡ flat_map sourced_text xs
  pairs : map pairs_of its ≡ map pairs_of (items_of xs)

items_say : (new : List ℕ) → InOrder new → (its : List Item) (xs : List SourcedItem) → AllZip (IsSourcedAgain new (lexemes_of new)) its xs → SayAlike new its xs
items_say new order [] [] z = record { says = refl; prints = refl; pairs = refl }
items_say new order [] (x ∷ xs) z = absurd z
items_say new order (item ∷ its) [] z = absurd z
items_say new order (item ∷ its) (x ∷ xs) z =
    let here = item_says new x.source order item x.item z.0 in
    let rest = items_say new order its xs z.1 in
    record {
      says = ap (λ t. t ∷ all_content new its) here.says ∙ ap (λ ts. sourced_content x ∷ ts) rest.says;
      prints = ap (λ t. t ++ flat_map (printed_item new) its) here.prints ∙ ap (λ t. sourced_text x ++ t) rest.prints;
      pairs = ap (λ (n : ℕ). n ∷ map pairs_of its) here.pairs ∙ ap (λ (ns : List ℕ). pairs_of x.item ∷ ns) rest.pairs;
    }

-- ---- Item by item, with the texts of the parts

selectors_with_texts : (new old : List ℕ) → InOrder new → (ss' ss : List SelItem) → AllZip (IsSelectorAgain new old (lexemes_of new)) ss' ss
    → map (selector_with_text old) ss ≡ map (selector_with_text new) ss'
selectors_with_texts new old order [] [] z = refl
selectors_with_texts new old order [] (s ∷ ss) z = absurd z
selectors_with_texts new old order (s' ∷ ss') [] z = absurd z
selectors_with_texts new old order (s' ∷ ss') (s ∷ ss) z =
    ap₂ (λ t ts. t ∷ ts) (ap₂ (λ value text. (value, text)) (sym z.0.same) (sym (selector_prints new old order s' s z.0))) (selectors_with_texts new old order ss' ss z.1)

decls_with_texts : (new old : List ℕ) (ds' ds : List DeclItem) → AllZip (IsDeclarationAgain new old) ds' ds
    → map (decl_with_text old) ds ≡ map (decl_with_text new) ds'
decls_with_texts new old [] [] z = refl
decls_with_texts new old [] (d ∷ ds) z = absurd z
decls_with_texts new old (d' ∷ ds') [] z = absurd z
decls_with_texts new old (d' ∷ ds') (d ∷ ds) z =
    ap₂ (λ t ts. t ∷ ts) (ap₂ (λ value text. (value, text)) (sym z.0.same) (sym (declaration_prints new old d' d z.0))) (decls_with_texts new old ds' ds z.1)

twin_items : (new old : List ℕ) → InOrder new → (item' item : Item) → IsAgain new old (lexemes_of new) item' item → AreTwinItems old new item item'
twin_items new old order (Rule r') (Rule r) again =
    record { selectors = selectors_with_texts new old order r'.selectors r.selectors again.selectors; decls = decls_with_texts new old r'.decls r.decls again.decls }
twin_items new old order (Rule r') (KeptRule k) again = absurd again
twin_items new old order (Rule r') (KeptBlock p) again = absurd again
twin_items new old order (KeptRule k') (Rule r) again = absurd again
twin_items new old order (KeptRule k') (KeptRule k) again = (sym again.1, sym (kept_says new old order k'.piece k.piece again.0), sym again.2)
twin_items new old order (KeptRule k') (KeptBlock p) again = absurd again
twin_items new old order (KeptBlock p') (Rule r) again = absurd again
twin_items new old order (KeptBlock p') (KeptRule k) again = absurd again
twin_items new old order (KeptBlock p') (KeptBlock p) again = sym (kept_says new old order p' p again)

twins : (new : List ℕ) → InOrder new → (its : List Item) (xs : List SourcedItem) → AllZip (IsSourcedAgain new (lexemes_of new)) its xs → AreTwinsOfSourced new xs its
twins new order [] [] z = tt
twins new order [] (x ∷ xs) z = absurd z
twins new order (item ∷ its) [] z = absurd z
twins new order (item ∷ its) (x ∷ xs) z = (twin_items new x.source order item x.item z.0, twins new order its xs z.1)

-- ---- The tokens of kept items

-- in a text the tokens of a kept item stand between others, and they are those that are shown for a kept item of another text
pub record IsShownAs (new old : List ℕ) (piece' piece : Piece) : Type 0 where
  pub stands : StandsIn (lexemes_of new) (tokens_in new piece')
  pub is_piece : piece_of (tokens_in new piece') ≡ piece'
  pub shown_as : map (shown new) (tokens_in new piece') ≡ kept_shown old (tokens_in old piece)

-- the same of an item of another text and one of this text, where they are kept
abbrev pub AreShownAgain : List ℕ → List ℕ → Item → Item → Type 0
AreShownAgain new old (KeptRule k) (KeptRule k') = IsShownAs new old k'.piece k.piece
AreShownAgain new old (KeptBlock p) (KeptBlock p') = IsShownAs new old p' p
AreShownAgain new old _ _ = ⊤

abbrev pub IsShownAgain : List ℕ → SourcedItem → Item → Type 0
IsShownAgain new x item = AreShownAgain new x.source x.item item

kept_shown_as : (new old : List ℕ) → InOrder new → (p' p : Piece) → IsKeptAgain new old (lexemes_of new) p' p → IsShownAs new old p' p
kept_shown_as new old order p' p again =
    let are : tokens_in new p' ≡ again.tokens = ap (tokens_in new) again.stands ∙ stand_alone 0 (lexemes_of new) again.tokens order again.inside in
    record {
      stands = subst (StandsIn (lexemes_of new)) (sym are) again.inside;
      is_piece = ap piece_of are ∙ sym again.stands;
      shown_as = ap (map (shown new)) are ∙ again.shown_as;
    }

shown_again : (new old : List ℕ) → InOrder new → (item' item : Item) → IsAgain new old (lexemes_of new) item' item → AreShownAgain new old item item'
shown_again new old order (Rule r') (Rule r) again = tt
shown_again new old order (Rule r') (KeptRule k) again = absurd again
shown_again new old order (Rule r') (KeptBlock p) again = absurd again
shown_again new old order (KeptRule k') (Rule r) again = absurd again
shown_again new old order (KeptRule k') (KeptRule k) again = kept_shown_as new old order k'.piece k.piece again.0
shown_again new old order (KeptRule k') (KeptBlock p) again = absurd again
shown_again new old order (KeptBlock p') (Rule r) again = absurd again
shown_again new old order (KeptBlock p') (KeptRule k) again = absurd again
shown_again new old order (KeptBlock p') (KeptBlock p) again = kept_shown_as new old order p' p again

all_shown_again : (new : List ℕ) → InOrder new → (its : List Item) (xs : List SourcedItem) → AllZip (IsSourcedAgain new (lexemes_of new)) its xs → AllZip (IsShownAgain new) xs its
all_shown_again new order [] [] z = tt
all_shown_again new order [] (x ∷ xs) z = absurd z
all_shown_again new order (item ∷ its) [] z = absurd z
all_shown_again new order (item ∷ its) (x ∷ xs) z = (shown_again new x.source order item x.item z.0, all_shown_again new order its xs z.1)

-- items that are read from a text that was printed for others, each with its source
pub record IsReadBack (new : List ℕ) (xs : List SourcedItem) : Type 0 where
  pub raw : List (List Lexeme)
  pub is_raw : filter is_whole (items (lexemes_of new)) ≡ raw
  pub no_namespace : find (is_namespace new) raw ≡ None
  pub read : List Item
  pub reads : read_items new raw ≡ read
  pub says : all_content new read ≡ map sourced_content xs
  pub prints : printed new read ≡ printed_sourced xs
  pub pairs : map pairs_of read ≡ map pairs_of (items_of xs)
  pub twins : AreTwinsOfSourced new xs read
  pub shown_as : AllZip (IsShownAgain new) xs read

pub items_read_back : (new : List ℕ) (xs : List SourcedItem) → AreFromSources xs → AreSourcedInOrder xs → InOrder new
    → map (shown new) (lexemes_of new) ≡ sourced_shown xs → IsReadBack new xs
items_read_back new xs sound order ascending e =
    let again = sheet_again new (lexemes_of new) xs sound order e in
    let alike = items_say new ascending again.read xs again.each in
    record {
      raw = again.raw;
      is_raw = again.is_raw;
      no_namespace = again.no_namespace;
      read = again.read;
      reads = again.reads;
      says = alike.says;
      prints = ap behind_mark alike.prints;
      pairs = alike.pairs;
      twins = twins new ascending again.read xs again.each;
      shown_as = all_shown_again new ascending again.read xs again.each;
    }
