-- Opened blocks are sheets, and stay where the kept items do.
use Rattle.std.proofs.Common.{◌≡◌, inl, inr, ℕ, zero, suc, nat_eq, Bool, true, false, List, [], ◌∷◌, ◌++◌, map, drop, Option, Some, None, Result, Ok, Err, refl, sym, ap, ap₂, ◌∙◌}
use Rattle.std.specs.Prelude.{◌||◌, if◌then◌else◌}
use Rattle.std.specs.Option.{IfSome, option_map}
use Rattle.std.specs.List.{AllByRecursion, AllZip, cons_option, list_any, starts_with}
use Rattle.css_model.specs.declared.fault.SheetFault.{SheetFault}
use Rattle.css_model.specs.declared.sheet.Item.{Item}
use Rattle.css_model.specs.declared.sheet.Item.TheVariants.{Rule, KeptRule, KeptBlock}
use Rattle.css_model.specs.declared.sheet.Piece.{Piece}
use Rattle.css_model.specs.Sheets.ComesFrom.{Follows}
use Rattle.css_model.specs.Sheets.KeptItems.{kept_items}
use Rattle.css_model.specs.Sheets.Printed.{behind_mark}
use Rattle.css_model.specs.Sheets.Sheet.{sheet_of}
use Rattle.css_model.specs.Sheets.SheetParts.{SheetParts}
use Rattle.css_model.specs.Sheets.Spelling.{lexemes_of, stands_in, tokens_in}
use Rattle.css_model.specs.Text.Source.{IsWithin, text_at}
use Rattle.css_model.specs.Text.Tokens.{byte_order_mark}
use Rattle.css_tokens.specs.Laws.{TokensRestart}
use Rattle.sheet_laws.specs.Reading.{ReadIsSound}
use Rattle.media_groups.specs.declared.media.Media.{Media}
use Rattle.media_groups.specs.Laws.{BlocksStay, IsBlockOf, OpenedBlocksAreSheets, OpenedBodiesAreSound, PrintedByOldBlocks, unnumbered}
use Rattle.media_groups.specs.Opened.{body_of, is_comment_sign, is_import_item, is_media, is_top_item, media_of, opened_from, opened_item, opened_of, opened_rule, plain_items, sheet_of_body, unless_marked}
use Rattle.media_groups.specs.Printed.{IsSoundBody, blocks_at, next_text, texts_with}
use Rattle.media_groups.proofs.Places.{ascending_filter, body_within, placed_filter, sheet_ascends, sheet_placed}

-- ---- a body that is opened is a sheet

plain_is : (body : List ℕ) (read : Result (List Item) SheetFault) (items : List Item) → plain_items body read ≡ Some items → read ≡ Ok items
plain_is body (Err fault) items is = absurd (cc)
plain_is body (Ok its) items is = which (list_any (is_top_item body) its) is
  where
    which : (b : Bool) → ◌≡◌ {A = Option (List Item)} (if b then None else Some its) (Some items) → ◌≡◌ {A = Result (List Item) SheetFault} (Ok its) (Ok items)
    which true e = absurd (cc)
    which false e = (let same : its ≡ items = cc in ap Ok same)

unless_is : (body : List ℕ) (items : List Item) (b : Bool) → ◌≡◌ {A = Option (List Item)} (if b then None else plain_items body (sheet_of body)) (Some items) → sheet_of body ≡ Ok items
unless_is body items true is = absurd (cc)
unless_is body items false is = plain_is body (sheet_of body) items is

body_is : (body : List ℕ) (items : List Item) → sheet_of_body body ≡ Some items → (sheet_of body ≡ Ok items) × (starts_with nat_eq body byte_order_mark ≡ false)
body_is body items is = which (starts_with nat_eq body byte_order_mark) refl is
  where
    which : (b : Bool) → starts_with nat_eq body byte_order_mark ≡ b → ◌≡◌ {A = Option (List Item)} (if b then None else unless_marked body) (Some items) →
        (sheet_of body ≡ Ok items) × (starts_with nat_eq body byte_order_mark ≡ false)
    which true at e = absurd (cc)
    which false at e = (unless_is body items (list_any is_comment_sign (lexemes_of body)) e, at)

rule_is : TokensRestart → (source : List ℕ) (number : ℕ) (piece : Piece) → IfSome (opened_rule source number (tokens_in source piece)) (IsBlockOf source)
rule_is law source number piece = which (is_media source (tokens_in source piece))
  where
    within : IsWithin source (body_of (tokens_in source piece))
    within = body_within source 0 (tokens_in source piece)
        (ascending_filter (stands_in piece) 0 (lexemes_of source) (sheet_ascends law source)) (placed_filter source (stands_in piece) (lexemes_of source) (sheet_placed law source))

    some : (o : Option (List Item)) → sheet_of_body (text_at source (body_of (tokens_in source piece))) ≡ o → IfSome (option_map (media_of number (tokens_in source piece)) o) (IsBlockOf source)
    some None is = tt
    some (Some items) is =
        let b = body_is (text_at source (body_of (tokens_in source piece))) items is in
        record { within = within; reads = b.0; unmarked = b.1 }

    which : (b : Bool) → IfSome (if b then option_map (media_of number (tokens_in source piece)) (sheet_of_body (text_at source (body_of (tokens_in source piece)))) else None) (IsBlockOf source)
    which true = some (sheet_of_body (text_at source (body_of (tokens_in source piece)))) refl
    which false = tt

item_is : TokensRestart → (source : List ℕ) (number : ℕ) (item : Item) → IfSome (opened_item source number item) (IsBlockOf source)
item_is law source number (Rule r) = tt
item_is law source number (KeptRule k) = tt
item_is law source number (KeptBlock piece) = rule_is law source number piece

from_are : TokensRestart → (source : List ℕ) (number : ℕ) (items : List Item) → AllByRecursion (IsBlockOf source) (opened_from source number items)
from_are law source number [] = tt
from_are law source number (item ∷ items) = which (list_any (is_import_item source) items) (from_are law source (suc number) items)
  where
    one : (o : Option Media) → IfSome o (IsBlockOf source) → AllByRecursion (IsBlockOf source) (opened_from source (suc number) items) → AllByRecursion (IsBlockOf source) (cons_option o (opened_from source (suc number) items))
    one None is later = later
    one (Some m) is later = (is, later)

    which : (b : Bool) → AllByRecursion (IsBlockOf source) (opened_from source (suc number) items) → AllByRecursion (IsBlockOf source) (cons_option (if b then None else opened_item source number item) (opened_from source (suc number) items))
    which true later = later
    which false later = one (opened_item source number item) (item_is law source number item) later

pub blocks_are_sheets : TokensRestart → OpenedBlocksAreSheets
blocks_are_sheets law source items = from_are law source 0 items

bodies_sound : ReadIsSound → (source : List ℕ) (media : List Media) → AllByRecursion (IsBlockOf source) media → AllZip (IsSoundBody source) media (map (λ m. m.sheet) media)
bodies_sound sound source [] all = tt
bodies_sound sound source (m ∷ media) all =
    (record { within = all.0.within; sound = sound (text_at source m.body) m.sheet.items all.0.reads }, bodies_sound sound source media all.1)

pub bodies_are_sound : TokensRestart → ReadIsSound → OpenedBodiesAreSound
bodies_are_sound law sound source items = bodies_sound sound source (opened_of items source) (blocks_are_sheets law source items)

-- ---- the same blocks are opened of the kept items alone

kept_imports : (source : List ℕ) (items : List Item) → list_any (is_import_item source) items ≡ list_any (is_import_item source) (kept_items items)
kept_imports source [] = refl
kept_imports source (Rule r ∷ items) = kept_imports source items
kept_imports source (KeptRule k ∷ items) = kept_imports source items
kept_imports source (KeptBlock piece ∷ items) = ap (λ (b : Bool). is_import_item source (KeptBlock piece) || b) (kept_imports source items)

unnumbered_item : (source : List ℕ) (n m : ℕ) (item : Item) (b : Bool) (xs ys : List Media) → map unnumbered xs ≡ map unnumbered ys →
    map unnumbered (cons_option (if b then None else opened_item source n item) xs) ≡ map unnumbered (cons_option (if b then None else opened_item source m item) ys)
unnumbered_item source n m item true xs ys same = same
unnumbered_item source n m (Rule r) false xs ys same = same
unnumbered_item source n m (KeptRule k) false xs ys same = same
unnumbered_item source n m (KeptBlock piece) false xs ys same = which (is_media source (tokens_in source piece)) (sheet_of_body (text_at source (body_of (tokens_in source piece))))
  where
    which : (b : Bool) (o : Option (List Item)) →
        map unnumbered (cons_option (if b then option_map (media_of n (tokens_in source piece)) o else None) xs) ≡ map unnumbered (cons_option (if b then option_map (media_of m (tokens_in source piece)) o else None) ys)
    which true None = same
    which true (Some its) = ap (λ (zs : List Media). unnumbered (media_of n (tokens_in source piece) its) ∷ zs) same
    which false o = same

-- the opened blocks of items are those of the kept ones, apart from their numbers
of_kept : (source : List ℕ) (n m : ℕ) (items : List Item) → map unnumbered (opened_from source n items) ≡ map unnumbered (opened_from source m (kept_items items))
of_kept source n m [] = refl
of_kept source n m (Rule r ∷ items) = which (list_any (is_import_item source) items) (of_kept source (suc n) m items)
  where
    which : (b : Bool) → map unnumbered (opened_from source (suc n) items) ≡ map unnumbered (opened_from source m (kept_items items)) →
        map unnumbered (cons_option (if b then None else None) (opened_from source (suc n) items)) ≡ map unnumbered (opened_from source m (kept_items items))
    which true later = later
    which false later = later
of_kept source n m (KeptRule k ∷ items) =
    ap (λ (b : Bool). map unnumbered (cons_option (if b then None else opened_item source n (KeptRule k)) (opened_from source (suc n) items))) (kept_imports source items)
    ∙ unnumbered_item source n m (KeptRule k) (list_any (is_import_item source) (kept_items items)) (opened_from source (suc n) items) (opened_from source (suc m) (kept_items items)) (of_kept source (suc n) (suc m) items)
of_kept source n m (KeptBlock piece ∷ items) =
    ap (λ (b : Bool). map unnumbered (cons_option (if b then None else opened_item source n (KeptBlock piece)) (opened_from source (suc n) items))) (kept_imports source items)
    ∙ unnumbered_item source n m (KeptBlock piece) (list_any (is_import_item source) (kept_items items)) (opened_from source (suc n) items) (opened_from source (suc m) (kept_items items)) (of_kept source (suc n) (suc m) items)

-- ---- what follows keeps the kept items

pub follow_kept : (new old : List Item) → Follows new old → kept_items new ≡ kept_items old
follow_kept [] [] h = refl
follow_kept [] (Rule r ∷ old) h = follow_kept [] old h
follow_kept [] (KeptRule k ∷ old) h = absurd h
follow_kept [] (KeptBlock p ∷ old) h = absurd h
follow_kept (item ∷ new) [] h = absurd h
follow_kept (Rule q ∷ new) (Rule r ∷ old) (inl h) = follow_kept new (Rule r ∷ old) h
follow_kept (Rule q ∷ new) (Rule r ∷ old) (inr h) = follow_kept (Rule q ∷ new) old h
follow_kept (KeptRule j ∷ new) (Rule r ∷ old) h = follow_kept (KeptRule j ∷ new) old h
follow_kept (KeptBlock o ∷ new) (Rule r ∷ old) h = follow_kept (KeptBlock o ∷ new) old h
follow_kept (Rule q ∷ new) (KeptRule k ∷ old) h = absurd h
follow_kept (KeptRule j ∷ new) (KeptRule k ∷ old) h = ap₂ (λ x xs. KeptRule x ∷ xs) h.0 (follow_kept new old h.1)
follow_kept (KeptBlock o ∷ new) (KeptRule k ∷ old) h = absurd h
follow_kept (Rule q ∷ new) (KeptBlock p ∷ old) h = absurd h
follow_kept (KeptRule j ∷ new) (KeptBlock p ∷ old) h = absurd h
follow_kept (KeptBlock o ∷ new) (KeptBlock p ∷ old) h = ap₂ (λ x xs. KeptBlock x ∷ xs) h.0 (follow_kept new old h.1)

pub stay : BlocksStay
stay source old new follows =
    of_kept source 0 0 new ∙ ap (λ (items : List Item). map unnumbered (opened_from source 0 items)) (follow_kept new old follows) ∙ sym (of_kept source 0 0 old)

-- ---- numbers do not count where a sheet is printed

map_drop : (n : ℕ) (ms : List Media) → map unnumbered (drop n ms) ≡ drop n (map unnumbered ms)
map_drop zero ms = refl
map_drop (suc n) [] = refl
map_drop (suc n) (m ∷ ms) = map_drop n ms

plain_next : (source : List ℕ) (ms : List Media) (bs : List SheetParts) (item : Item) → next_text source ms bs item ≡ next_text source (map unnumbered ms) bs item
plain_next source [] bs item = refl
plain_next source (m ∷ ms) [] item = refl
plain_next source (m ∷ ms) (b ∷ bs) item = refl

plain_count : (ms : List Media) (item : Item) → blocks_at ms item ≡ blocks_at (map unnumbered ms) item
plain_count [] item = refl
plain_count (m ∷ ms) item = refl

plain_texts : (source : List ℕ) (items : List Item) (ms : List Media) (bodies : List SheetParts) → texts_with source ms bodies items ≡ texts_with source (map unnumbered ms) bodies items
plain_texts source [] ms bodies = refl
plain_texts source (item ∷ items) ms bodies =
    let n = blocks_at ms item in
    ap₂ (λ (t u : List ℕ). t ++ u) (plain_next source ms bodies item)
    (plain_texts source items (drop n ms) (drop n bodies)
    ∙ ap (λ (zs : List Media). texts_with source zs (drop n bodies) items) (map_drop n ms)
    ∙ ap (λ (k : ℕ). texts_with source (drop k (map unnumbered ms)) (drop k bodies) items) (plain_count ms item))

same_texts : (source : List ℕ) (items : List Item) (media media' : List Media) (bodies : List SheetParts) → map unnumbered media ≡ map unnumbered media' →
    texts_with source media bodies items ≡ texts_with source media' bodies items
same_texts source items media media' bodies same =
    plain_texts source items media bodies ∙ ap (λ (ms : List Media). texts_with source ms bodies items) same ∙ sym (plain_texts source items media' bodies)

pub by_old_blocks : PrintedByOldBlocks
by_old_blocks source old new bodies follows = ap behind_mark (same_texts source new (opened_of old source) (opened_of new source) bodies (sym (stay source old new follows)))
