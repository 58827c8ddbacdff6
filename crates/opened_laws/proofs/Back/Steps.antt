-- The opened blocks of items, item by item.
use Rattle.std.proofs.Common.{◌≡◌, ◌⊎◌, inl, inr, ◌≤◌, ℕ, suc, ◌==◌, Bool, true, false, List, [], ◌∷◌, ◌++◌, drop, Option, Some, None, refl, sym, ◌∙◌, ap, arith}
use Rattle.std.specs.Prelude.{⊤, if◌then◌else◌}
use Rattle.std.specs.List.{AllByRecursion, cons_option, list_any}
use Rattle.std.proofs.lemmas.Bool.{cond-false, cond-true, eq-eqb, ne_eqb}
use Rattle.css_model.specs.declared.sheet.Item.{Item}
use Rattle.css_model.specs.declared.sheet.Item.TheVariants.{Rule, KeptRule, KeptBlock}
use Rattle.css_model.specs.declared.sheet.Piece.{Piece}
use Rattle.css_model.specs.Sheets.Printed.{printed_item}
use Rattle.css_model.specs.Sheets.SheetParts.{SheetParts}
use Rattle.css_model.specs.Sheets.Sound.{IsSoundItem}
use Rattle.css_model.specs.Sheets.Spelling.{tokens_in}
use Rattle.media_groups.specs.declared.media.Media.{Media}
use Rattle.media_groups.specs.Opened.{is_import_item, opened_from, opened_item, opened_rule}
use Rattle.media_groups.specs.Printed.{begins_at, block_text, blocks_at, next_text, texts_with}
use Rattle.opened_laws.specs.Media.Scenes.{block_at}
use Rattle.print_laws.specs.Replaced.{whole_piece}
use Rattle.print_laws.proofs.ForCallers.{Ground}
use Rattle.sheet_laws.specs.Sourced.{SourcedItem, of_source}
use Rattle.opened_laws.proofs.Back.Blocks.{head_start, piece_item, rule_opened}
use Rattle.opened_laws.proofs.Back.Starts.{BlocksAscend}

-- ---- where opened blocks begin

-- the first of these blocks does not begin where an item does
abbrev pub NoneBegins : List Media → Item → Type 0
NoneBegins [] item = ⊤
NoneBegins (m ∷ media) item = begins_at m.head.start item ≡ false

abbrev StartFrom : ℕ → List Media → Type 0
StartFrom at media = AllByRecursion (λ m. at ≤ m.head.start) media

start_sooner : (low at : ℕ) (media : List Media) → low ≤ at → StartFrom at media → StartFrom low media
start_sooner low at [] le start = tt
start_sooner low at (m ∷ media) le start = (omega (arith, le, start.0), start_sooner low at media le start.1)

-- an opened block begins where its item does
pub opened_start : (source : List ℕ) → Ground source → (n : ℕ) (piece : Piece) → IsSoundItem source (KeptBlock piece) → (m : Media) → opened_rule source n (tokens_in source piece) ≡ Some m → m.head.start ≡ piece.start
opened_start source g n piece sound m e =
    let rule = rule_opened source n (tokens_in source piece) m e in
    ap (λ (p : Piece). p.start) rule.head ∙ head_start source (tokens_in source piece) rule.media ∙ ap (λ (p : Piece). p.start) (piece_item source g piece sound).stands

media_start : (source : List ℕ) → Ground source → (n at : ℕ) (items : List Item) → AllByRecursion (IsSoundItem source) items → BlocksAscend at items → StartFrom at (opened_from source n items)
media_start source g n at [] sound ascend = tt
media_start source g n at (Rule r ∷ items) sound ascend = which (list_any (is_import_item source) items) (media_start source g (suc n) at items sound.1 ascend)
  where
    which : (b : Bool) → StartFrom at (opened_from source (suc n) items) → StartFrom at (cons_option (if b then None else None) (opened_from source (suc n) items))
    which true later = later
    which false later = later
media_start source g n at (KeptRule k ∷ items) sound ascend = which (list_any (is_import_item source) items) (media_start source g (suc n) at items sound.1 ascend)
  where
    which : (b : Bool) → StartFrom at (opened_from source (suc n) items) → StartFrom at (cons_option (if b then None else None) (opened_from source (suc n) items))
    which true later = later
    which false later = later
media_start source g n at (KeptBlock piece ∷ items) sound ascend =
    which (list_any (is_import_item source) items) (opened_rule source n (tokens_in source piece)) refl
    (start_sooner at (suc piece.start) (opened_from source (suc n) items) (let le = ascend.0 in omega (arith, le)) (media_start source g (suc n) (suc piece.start) items sound.1 ascend.1))
  where
    which : (b : Bool) (o : Option Media) → opened_rule source n (tokens_in source piece) ≡ o → StartFrom at (opened_from source (suc n) items) →
        StartFrom at (cons_option (if b then None else o) (opened_from source (suc n) items))
    which true o is later = later
    which false None is later = later
    which false (Some m) is later = ((let start = opened_start source g n piece sound.0 m is in let le = ascend.0 in omega (arith, start, le)), later)

none_begins : (media : List Media) (piece : Piece) → StartFrom (suc piece.start) media → NoneBegins media (KeptBlock piece)
none_begins [] piece start = tt
none_begins (m ∷ media) piece start = ne_eqb piece.start m.head.start (λ same. absurd (let le = start.0 in omega (arith, same, le)))

-- ---- an item and those behind it

-- an item that is not opened
pub record IsPlainStep (source : List ℕ) (n : ℕ) (item : Item) (items : List Item) : Type 0 where
  pub media : opened_from source n (item ∷ items) ≡ opened_from source (suc n) items
  pub none : NoneBegins (opened_from source (suc n) items) item
  pub unopened : (list_any (is_import_item source) items ≡ true) ⊎ (opened_item source n item ≡ None)

-- one that is opened
pub record IsOpenedStep (source : List ℕ) (n : ℕ) (item : Item) (items : List Item) : Type 0 where
  pub block : Media
  pub piece : Piece
  pub is_block : item ≡ KeptBlock piece
  pub media : opened_from source n (item ∷ items) ≡ block ∷ opened_from source (suc n) items
  pub no_import : list_any (is_import_item source) items ≡ false
  pub opened : opened_rule source n (tokens_in source piece) ≡ Some block
  pub start : block.head.start ≡ piece.start

none_at_rule : (media : List Media) (item : Item) → ((place : ℕ) → begins_at place item ≡ false) → NoneBegins media item
none_at_rule [] item never = tt
none_at_rule (m ∷ media) item never = never m.head.start

pub step_at : (source : List ℕ) → Ground source → (n at : ℕ) (item : Item) (items : List Item) → AllByRecursion (IsSoundItem source) (item ∷ items) → BlocksAscend at (item ∷ items) →
    IsPlainStep source n item items ⊎ IsOpenedStep source n item items
step_at source g n at (Rule r) items sound ascend = inl (record { media = which (list_any (is_import_item source) items); none = none_at_rule (opened_from source (suc n) items) (Rule r) (λ place. refl); unopened = inr refl })
  where
    which : (b : Bool) → cons_option (if b then None else None) (opened_from source (suc n) items) ≡ opened_from source (suc n) items
    which true = refl
    which false = refl
step_at source g n at (KeptRule k) items sound ascend = inl (record { media = which (list_any (is_import_item source) items); none = none_at_rule (opened_from source (suc n) items) (KeptRule k) (λ place. refl); unopened = inr refl })
  where
    which : (b : Bool) → cons_option (if b then None else None) (opened_from source (suc n) items) ≡ opened_from source (suc n) items
    which true = refl
    which false = refl
step_at source g n at (KeptBlock piece) items sound ascend = which (list_any (is_import_item source) items) refl (opened_rule source n (tokens_in source piece)) refl
  where
    none : NoneBegins (opened_from source (suc n) items) (KeptBlock piece)
    none = none_begins (opened_from source (suc n) items) piece (media_start source g (suc n) (suc piece.start) items sound.1 ascend.1)

    which : (b : Bool) → list_any (is_import_item source) items ≡ b → (o : Option Media) → opened_rule source n (tokens_in source piece) ≡ o →
        IsPlainStep source n (KeptBlock piece) items ⊎ IsOpenedStep source n (KeptBlock piece) items
    which true import o is = inl (record { media = ap (λ b. cons_option (if b then None else opened_rule source n (tokens_in source piece)) (opened_from source (suc n) items)) import; none = none; unopened = inl import })
    which false import None is = inl (record {
      media = ap (λ b. cons_option (if b then None else opened_rule source n (tokens_in source piece)) (opened_from source (suc n) items)) import ∙ ap (λ o. cons_option o (opened_from source (suc n) items)) is;
      none = none;
      unopened = inr is;
    })
    which false import (Some m) is = inr (record {
      block = m;
      piece = piece;
      is_block = refl;
      media = ap (λ b. cons_option (if b then None else opened_rule source n (tokens_in source piece)) (opened_from source (suc n) items)) import ∙ ap (λ o. cons_option o (opened_from source (suc n) items)) is;
      no_import = import;
      opened = is;
      start = opened_start source g n piece sound.0 m is;
    })

-- the kept blocks behind an item
pub ascend_behind : (at : ℕ) (item : Item) (items : List Item) → BlocksAscend at (item ∷ items) → (behind : ℕ) × BlocksAscend behind items
ascend_behind at (Rule r) items ascend = (at, ascend)
ascend_behind at (KeptRule k) items ascend = (at, ascend)
ascend_behind at (KeptBlock piece) items ascend = (suc piece.start, ascend.1)

-- ---- their texts

-- a text as the one block that it is
abbrev pub whole_item : List ℕ → SourcedItem
whole_item text = of_source text (KeptBlock (whole_piece text))

-- the items that are printed: where a block is opened, the whole text of the block with its body
abbrev pub next_item : List ℕ → List Media → List SheetParts → Item → SourcedItem
next_item source [] bodies item = of_source source item
next_item source (m ∷ media) [] item = of_source source item
next_item source (m ∷ media) (body ∷ bodies) item = if begins_at m.head.start item then whole_item (block_text source m body) else of_source source item

abbrev pub replaced : List ℕ → List Media → List SheetParts → List Item → List SourcedItem
replaced source media bodies [] = []
replaced source media bodies (item ∷ items) =
    next_item source media bodies item ∷ replaced source (drop (blocks_at media item) media) (drop (blocks_at media item) bodies) items

pub plain_count : (media : List Media) (item : Item) → NoneBegins media item → blocks_at media item ≡ 0
plain_count [] item none = refl
plain_count (m ∷ media) item none = cond-false _ 1 0 none

plain_item : (source : List ℕ) (media : List Media) (bodies : List SheetParts) (item : Item) → NoneBegins media item → next_item source media bodies item ≡ of_source source item
plain_item source [] bodies item none = refl
plain_item source (m ∷ media) [] item none = refl
plain_item source (m ∷ media) (body ∷ bodies) item none = cond-false _ (whole_item (block_text source m body)) (of_source source item) none

plain_text : (source : List ℕ) (media : List Media) (bodies : List SheetParts) (item : Item) → NoneBegins media item → next_text source media bodies item ≡ printed_item source item
plain_text source [] bodies item none = refl
plain_text source (m ∷ media) [] item none = refl
plain_text source (m ∷ media) (body ∷ bodies) item none = cond-false _ (block_text source m body) (printed_item source item) none

pub plain_block : (media : List Media) (piece : Piece) → NoneBegins media (KeptBlock piece) → block_at media piece ≡ None
plain_block [] piece none = refl
plain_block (m ∷ media) piece none = cond-false _ (Some m) None none

pub plain_replaced : (source : List ℕ) (media : List Media) (bodies : List SheetParts) (item : Item) (items : List Item) → NoneBegins media item →
    replaced source media bodies (item ∷ items) ≡ of_source source item ∷ replaced source media bodies items
plain_replaced source media bodies item items none =
    ap (λ x. x ∷ replaced source (drop (blocks_at media item) media) (drop (blocks_at media item) bodies) items) (plain_item source media bodies item none)
    ∙ ap (λ (n : ℕ). of_source source item ∷ replaced source (drop n media) (drop n bodies) items) (plain_count media item none)

pub plain_texts : (source : List ℕ) (media : List Media) (bodies : List SheetParts) (item : Item) (items : List Item) → NoneBegins media item →
    texts_with source media bodies (item ∷ items) ≡ printed_item source item ++ texts_with source media bodies items
plain_texts source media bodies item items none =
    ap (λ (t : List ℕ). t ++ texts_with source (drop (blocks_at media item) media) (drop (blocks_at media item) bodies) items) (plain_text source media bodies item none)
    ∙ ap (λ (n : ℕ). printed_item source item ++ texts_with source (drop n media) (drop n bodies) items) (plain_count media item none)

-- where the first block begins with the item
pub begins_here : (m : Media) (piece : Piece) → m.head.start ≡ piece.start → (piece.start == m.head.start) ≡ true
begins_here m piece start = eq-eqb piece.start m.head.start (sym start)

pub opened_count : (m : Media) (media : List Media) (piece : Piece) → m.head.start ≡ piece.start → blocks_at (m ∷ media) (KeptBlock piece) ≡ 1
opened_count m media piece start = cond-true _ 1 0 (begins_here m piece start)

pub opened_block : (m : Media) (media : List Media) (piece : Piece) → m.head.start ≡ piece.start → block_at (m ∷ media) piece ≡ Some m
opened_block m media piece start = cond-true _ (Some m) None (begins_here m piece start)

pub opened_replaced : (source : List ℕ) (m : Media) (media : List Media) (body : SheetParts) (bodies : List SheetParts) (piece : Piece) (items : List Item) → m.head.start ≡ piece.start →
    replaced source (m ∷ media) (body ∷ bodies) (KeptBlock piece ∷ items) ≡ whole_item (block_text source m body) ∷ replaced source media bodies items
opened_replaced source m media body bodies piece items start =
    let n = blocks_at (m ∷ media) (KeptBlock piece) in
    ap (λ x. x ∷ replaced source (drop n (m ∷ media)) (drop n (body ∷ bodies)) items)
    (cond-true _ (whole_item (block_text source m body)) (of_source source (KeptBlock piece)) (begins_here m piece start))
    ∙ ap (λ (n : ℕ). whole_item (block_text source m body) ∷ replaced source (drop n (m ∷ media)) (drop n (body ∷ bodies)) items) (opened_count m media piece start)

pub opened_texts : (source : List ℕ) (m : Media) (media : List Media) (body : SheetParts) (bodies : List SheetParts) (piece : Piece) (items : List Item) → m.head.start ≡ piece.start →
    texts_with source (m ∷ media) (body ∷ bodies) (KeptBlock piece ∷ items) ≡ block_text source m body ++ texts_with source media bodies items
opened_texts source m media body bodies piece items start =
    let n = blocks_at (m ∷ media) (KeptBlock piece) in
    ap (λ (t : List ℕ). t ++ texts_with source (drop n (m ∷ media)) (drop n (body ∷ bodies)) items)
    (cond-true _ (block_text source m body) (printed_item source (KeptBlock piece)) (begins_here m piece start))
    ∙ ap (λ (n : ℕ). block_text source m body ++ texts_with source (drop n (m ∷ media)) (drop n (body ∷ bodies)) items) (opened_count m media piece start)
