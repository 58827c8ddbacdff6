-- Where the pieces of sound items begin, and that they lie in the source.
use Rattle.std.proofs.Common.{ℕ, zero, suc, ◌+◌, ◌≡◌, Bool, true, false, ◌&&◌, cond, List, [], ◌∷◌, Option, Some, None, Result, Ok, Err, take, sym, ap, ◌∙◌, subst}
use Rattle.std.specs.List.{AllByRecursion, Contains, before_first, after_first, position_or_len}
use Rattle.css_model.specs.declared.reason.Reason.{Reason}
use Rattle.css_model.specs.declared.sheet.DeclItem.{DeclItem}
use Rattle.css_model.specs.declared.sheet.Item.TheVariants.{KeptRule, KeptBlock}
use Rattle.css_model.specs.declared.sheet.Piece.{Piece}
use Rattle.css_model.specs.declared.sheet.SelItem.{SelItem}
use Rattle.css_model.specs.declared.token.Lexeme.{Lexeme}
use Rattle.css_model.specs.Text.Characters.{comma, semicolon}
use Rattle.css_model.specs.Text.Lexemes.{is_ident}
use Rattle.css_model.specs.Sheets.Declarations.{decl_item, declaration, declarations}
use Rattle.css_model.specs.Text.Characters.{colon}
use Rattle.css_model.specs.Sheets.Items.{is_between_items, item_len, items, items_from, is_whole, is_at_rule, opens_block, closes_block, selector_parts, block, entries}
use Rattle.css_model.specs.Sheets.KeptRuleParts.{KeptRuleParts}
use Rattle.css_model.specs.Text.Lexemes.{is_sign_of, is_sign_at, piece_of}
use Rattle.css_model.specs.Sheets.Selectors.{selector_item, selectors, with_piece}
use Rattle.css_model.specs.Documents.SelectorParts.{SelectorParts}
use Rattle.css_model.specs.Lists.{less_one}
use Rattle.css_model.specs.Selectors.Reading.{selector_of_lexemes}
use Rattle.css_model.specs.Sheets.Sheet.{rule_or_block}
use Rattle.css_model.specs.Sheets.Sound.{raw_items, IsSoundSelector, IsSoundDeclaration, IsSoundKeptRule, IsSoundBlock}
use Rattle.css_model.specs.Text.Source.{IsWithin}
use Rattle.css_model.specs.Sheets.Spelling.{lexemes_of, tokens_in}
use Rattle.css_tokens.specs.Laws.{TokensRestart}
use Rattle.css_print.specs.Places.{BeginsAt}
use Rattle.css_print.proofs.Members.{all_items}
use Rattle.list_facts.proofs.Elements.{member, all_if, all_in, all_take, all_drop, all_filter, all_split}
use Rattle.css_print.proofs.PieceWords.{lexeme_within, sheet_ascends}
use Rattle.sheet_laws.proofs.ForCallers.{IsPart, StandsIn, split_stands, stand_alone, stands_dropped, stands_inside, stands_taken, stands_whole}

abbrev Among : List ℕ → Lexeme → Type 0
Among source = Contains (lexemes_of source)

-- the tokens of an item are those of the source, and it ends as an item has to
item_among : (source : List ℕ) (item : List Lexeme) → Contains (raw_items source) item → AllByRecursion (Among source) item × (is_whole item ≡ true)
item_among source item item_in =
    let all = all_filter (AllByRecursion (Among source)) is_whole (items (lexemes_of source)) (all_items (Among source) 0 (lexemes_of source) (all_in (lexemes_of source))) in
    member (λ (item : List Lexeme). AllByRecursion (Among source) item × (is_whole item ≡ true)) (raw_items source) item all item_in

part_among : (source : List ℕ) (item part : List Lexeme) → Contains (raw_items source) item → Contains (selector_parts item) part → AllByRecursion (Among source) part
part_among source item part item_in part_in =
    let A : Lexeme → Type 0 = Among source in
    let prelude = before_first opens_block item in
    member (AllByRecursion A) (selector_parts item) part
    (all_split A (is_sign_at comma 0) prelude (all_take A (position_or_len opens_block item) item (item_among source item item_in).0)) part_in

entry_among : (source : List ℕ) (item entry : List Lexeme) → Contains (raw_items source) item → Contains (entries item) entry → AllByRecursion (Among source) entry
entry_among source item entry item_in entry_in =
    let A : Lexeme → Type 0 = Among source in
    let opened = after_first opens_block item in
    let all = all_drop A (position_or_len opens_block item + 1) item (item_among source item item_in).0 in
    member (AllByRecursion A) (entries item) entry
    (all_split A (is_sign_at semicolon 1) (block item) (all_take A (position_or_len closes_block opened) opened all)) entry_in

-- where tokens of the source begin, of which there are some
begins : (source : List ℕ) (x : Lexeme) (xs : List Lexeme) (at : ℕ) → AllByRecursion (Among source) (x ∷ xs) → (piece_of (x ∷ xs)).start ≡ at → BeginsAt source at
begins source x xs at all is = record { token = x; among = all.0; begins = is }

-- a selector with its place
placed : (piece : Piece) (read : Result SelectorParts Reason) (s : SelItem) → with_piece piece read ≡ Ok s → (piece ≡ s.piece) × (read ≡ Ok s.selector)
placed piece (Ok selector) s is = (let same : record { selector = selector; piece = piece } ≡ s = cc in (ap (λ (s : SelItem). s.piece) same, ap (λ (s : SelItem). Ok s.selector) same))
placed piece (Err reason) s is = absurd (let none : ⊥ = cc in none)

pub selector_begins : (source : List ℕ) (s : SelItem) → IsSoundSelector source s → BeginsAt source s.piece.start
selector_begins source s h = which h.part (part_among source h.item h.part h.item_in h.part_in) h.reads
  where
    which : (part : List Lexeme) → AllByRecursion (Among source) part → selector_item source part ≡ Ok s → BeginsAt source s.piece.start
    which [] all is = absurd (cc)
    which (x ∷ xs) all is = begins source x xs s.piece.start all (ap (λ (piece : Piece). piece.start) (placed (piece_of (x ∷ xs)) (selector_of_lexemes source (x ∷ xs)) s is).0)

declared_name : (b : Bool) (d e : DeclItem) → cond b (Some d) None ≡ Some e → d.name ≡ e.name
declared_name true d e is = cc
declared_name false d e is = absurd (cc)

pub name_within : TokensRestart → (source : List ℕ) (d : DeclItem) → IsSoundDeclaration source d → IsWithin source d.name
name_within law source d h = which h.entry (entry_among source h.item h.entry h.item_in h.entry_in) h.reads
  where
    which : (entry : List Lexeme) → AllByRecursion (Among source) entry → declaration source entry ≡ Some d → IsWithin source d.name
    which [] all is = absurd (cc)
    which (name ∷ []) all is = absurd (cc)
    which (name ∷ sign ∷ value) all is =
        subst (IsWithin source) (declared_name (is_ident name.kind && is_sign_of colon sign.kind) (decl_item source name sign value) d is) (lexeme_within law source name all.0)

-- an item has a token
item_begins : (source : List ℕ) (item : List Lexeme) (piece : Piece) → Contains (raw_items source) item → piece_of item ≡ piece → BeginsAt source piece.start
item_begins source item piece item_in is = which item (item_among source item item_in) is
  where
    which : (item : List Lexeme) → AllByRecursion (Among source) item × (is_whole item ≡ true) → piece_of item ≡ piece → BeginsAt source piece.start
    which [] (all, whole) is = absurd (cc)
    which (x ∷ xs) (all, whole) is = begins source x xs piece.start all (ap (λ (piece : Piece). piece.start) is)

pub block_begins : (source : List ℕ) (piece : Piece) → IsSoundBlock source piece → BeginsAt source piece.start
block_begins source piece h = item_begins source h.item piece h.item_in h.stands

kept_piece : (piece : Piece) (read : Result (List SelItem) Reason) (decls : Option (List DeclItem)) (k : KeptRuleParts) → rule_or_block piece read decls ≡ Some (KeptRule k) → piece ≡ k.piece
kept_piece piece read None k is = absurd (cc)
kept_piece piece (Err reason) (Some decls) k is = cc
kept_piece piece (Ok read) (Some []) k is = absurd (cc)
kept_piece piece (Ok read) (Some (d ∷ decls)) k is = absurd (cc)

kept_item : (b : Bool) (piece : Piece) (read : Result (List SelItem) Reason) (decls : Option (List DeclItem)) (k : KeptRuleParts)
    → cond b (Some (KeptBlock piece)) (rule_or_block piece read decls) ≡ Some (KeptRule k) → piece ≡ k.piece
kept_item true piece read decls k is = absurd (cc)
kept_item false piece read decls k is = kept_piece piece read decls k is

pub kept_begins : (source : List ℕ) (k : KeptRuleParts) → IsSoundKeptRule source k → BeginsAt source k.piece.start
kept_begins source k h =
    item_begins source h.item k.piece h.item_in (kept_item (is_at_rule h.item) (piece_of h.item) (selectors source h.item) (declarations source h.item) k h.reads)

-- ---- a selector's tokens are those in its piece

-- each item stands among the tokens
items_stand : (whole : List Lexeme) (left : ℕ) (xs : List Lexeme) → StandsIn whole xs → AllByRecursion (StandsIn whole) (items_from left xs)
items_stand whole left [] inside = tt
items_stand whole (suc left) (x ∷ xs) inside = items_stand whole left xs (stands_inside whole (x ∷ xs) xs inside (stands_dropped 1 (x ∷ xs)))
items_stand whole zero (x ∷ xs) inside =
    let n = item_len (x ∷ xs) in
    let rest : StandsIn whole xs = stands_inside whole (x ∷ xs) xs inside (stands_dropped 1 (x ∷ xs)) in
    all_if (StandsIn whole) (is_between_items x.kind) (items_from 0 xs) (take n (x ∷ xs) ∷ items_from (less_one n) xs) (items_stand whole 0 xs rest)
    (stands_inside whole (x ∷ xs) (take n (x ∷ xs)) inside (stands_taken n (x ∷ xs)), items_stand whole (less_one n) xs rest)

item_stands : (source : List ℕ) (item : List Lexeme) → Contains (raw_items source) item → StandsIn (lexemes_of source) item
item_stands source item item_in =
    let S : List Lexeme → Type 0 = StandsIn (lexemes_of source) in
    (member (λ (item : List Lexeme). S item × (is_whole item ≡ true)) (raw_items source) item
    (all_filter S is_whole (items (lexemes_of source)) (items_stand (lexemes_of source) 0 (lexemes_of source) (stands_whole (lexemes_of source)))) item_in).0

part_stands : (source : List ℕ) (item part : List Lexeme) → Contains (raw_items source) item → Contains (selector_parts item) part → StandsIn (lexemes_of source) part
part_stands source item part item_in part_in =
    let prelude = before_first opens_block item in
    let here : StandsIn prelude part = (member (IsPart (is_sign_at comma 0) prelude) (selector_parts item) part (split_stands (is_sign_at comma 0) prelude) part_in).stands in
    stands_inside (lexemes_of source) item part (item_stands source item item_in) (stands_inside item prelude part (stands_taken (position_or_len opens_block item) item) here)

-- a sound selector is what the tokens in its piece are read as
pub sound_reads : TokensRestart → (source : List ℕ) (s : SelItem) → IsSoundSelector source s → selector_of_lexemes source (tokens_in source s.piece) ≡ Ok s.selector
sound_reads law source s h =
    let p = placed (piece_of h.part) (selector_of_lexemes source h.part) s h.reads in
    let alone : tokens_in source (piece_of h.part) ≡ h.part = stand_alone 0 (lexemes_of source) h.part (sheet_ascends law source) (part_stands source h.item h.part h.item_in h.part_in) in
    ap (λ (piece : Piece). selector_of_lexemes source (tokens_in source piece)) (sym p.0) ∙ ap (selector_of_lexemes source) alone ∙ p.1
