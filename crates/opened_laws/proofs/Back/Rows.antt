-- The printed items with opened blocks as items each of its own source.
use Rattle.std.proofs.Common.{◌≡◌, ◌⊎◌, inl, inr, ◌≤◌, ℕ, suc, List, [], ◌∷◌, ◌++◌, length, refl, sym, ◌∙◌, ap, ap₂, subst, arith}
use Rattle.std.specs.List.{AllByRecursion, AllZip, flat_map}
use Rattle.std.proofs.lemmas.List.{length-append}
use Rattle.css_model.specs.declared.sheet.Item.{Item}
use Rattle.css_model.specs.declared.sheet.Item.TheVariants.{KeptBlock}
use Rattle.css_model.specs.declared.sheet.Piece.{Piece}
use Rattle.css_model.specs.Sheets.Limits.{max_bytes}
use Rattle.css_model.specs.Sheets.Printed.{printed_item}
use Rattle.css_model.specs.Sheets.SheetParts.{SheetParts}
use Rattle.css_model.specs.Sheets.Sound.{IsSoundItem}
use Rattle.css_model.specs.Sheets.Spelling.{tokens_in}
use Rattle.opened_laws.specs.Block.Blocks.{ReadsBackAsBlock}
use Rattle.media_groups.specs.declared.media.Media.{Media}
use Rattle.media_groups.specs.Opened.{opened_from}
use Rattle.media_groups.specs.Printed.{block_text, texts_with}
use Rattle.print_laws.specs.Replaced.{IsReplacedBy, IsReplacement}
use Rattle.print_laws.proofs.ForCallers.{Ground}
use Rattle.sheet_laws.specs.Sourced.{sourced_text}
use Rattle.opened_laws.specs.Again.{IsBodyFrom}
use Rattle.opened_laws.proofs.Back.Blocks.{IsPrintedBlock, media_no_import, rule_opened}
use Rattle.opened_laws.proofs.Back.Starts.{BlocksAscend}
use Rattle.opened_laws.proofs.Back.Steps.{IsOpenedStep, IsPlainStep, NoneBegins, ascend_behind, opened_replaced, opened_texts, plain_replaced, plain_texts, replaced, step_at, whole_item}

-- items, with whole blocks in the places of the opened ones, and their text
pub record IsRow (source : List ℕ) (media : List Media) (bodies : List SheetParts) (items : List Item) : Type 0 where
  pub replace : AllZip (IsReplacedBy source) items (replaced source media bodies items)
  pub texts : flat_map sourced_text (replaced source media bodies items) ≡ texts_with source media bodies items

plain_row : (source : List ℕ) (n : ℕ) (item : Item) (items : List Item) (bodies : List SheetParts) → IsPlainStep source n item items → IsRow source (opened_from source (suc n) items) bodies items →
    IsRow source (opened_from source (suc n) items) bodies (item ∷ items)
plain_row source n item items bodies s row =
    let media = opened_from source (suc n) items in
    let are = plain_replaced source media bodies item items s.none in
    record {
      replace = subst (AllZip (IsReplacedBy source) (item ∷ items)) (sym are) (inl refl, row.replace);
      texts = ap (flat_map sourced_text) are ∙ ap (λ (t : List ℕ). printed_item source item ++ t) row.texts ∙ sym (plain_texts source media bodies item items s.none);
    }

opened_row : (source : List ℕ) (n : ℕ) (item : Item) (items : List Item) (body : SheetParts) (bodies : List SheetParts) → (s : IsOpenedStep source n item items) →
    IsPrintedBlock source s.block body (block_text source s.block body) → IsRow source (opened_from source (suc n) items) bodies items →
    IsRow source (s.block ∷ opened_from source (suc n) items) (body ∷ bodies) (item ∷ items)
opened_row source n item items body bodies s printed row =
    let media = opened_from source (suc n) items in
    let block = block_text source s.block body in
    let are = opened_replaced source s.block media body bodies s.piece items s.start in
    let rule = rule_opened source n (tokens_in source s.piece) s.block s.opened in
    let r : IsReplacement source (KeptBlock s.piece) (whole_item block) = record {
      piece = s.piece;
      is_block = refl;
      no_import = media_no_import source (tokens_in source s.piece) rule.media;
      is_whole = refl;
      block = printed.whole;
    } in
    let here : IsRow source (s.block ∷ media) (body ∷ bodies) (KeptBlock s.piece ∷ items) = record {
      replace = subst (AllZip (IsReplacedBy source) (KeptBlock s.piece ∷ items)) (sym are) (inr r, row.replace);
      texts = ap (flat_map sourced_text) are ∙ ap₂ (λ (t u : List ℕ). t ++ u) printed.whole.kept row.texts ∙ sym (opened_texts source s.block media body bodies s.piece items s.start);
    } in
    subst (λ i. IsRow source (s.block ∷ media) (body ∷ bodies) (i ∷ items)) (sym s.is_block) here

-- the texts of an item and of those behind it are no longer than theirs together
pub plain_short : (source : List ℕ) (media : List Media) (bodies : List SheetParts) (item : Item) (items : List Item) → NoneBegins media item →
    length (texts_with source media bodies (item ∷ items)) ≤ max_bytes → length (texts_with source media bodies items) ≤ max_bytes
plain_short source media bodies item items none short =
    let n : length (texts_with source media bodies (item ∷ items)) ≡ length (printed_item source item ++ texts_with source media bodies items) = ap length (plain_texts source media bodies item items none) in
    omega (arith, n, short, length-append (printed_item source item) (texts_with source media bodies items))

pub opened_short : (source : List ℕ) (m : Media) (media : List Media) (body : SheetParts) (bodies : List SheetParts) (piece : Piece) (items : List Item) → m.head.start ≡ piece.start →
    length (texts_with source (m ∷ media) (body ∷ bodies) (KeptBlock piece ∷ items)) ≤ max_bytes →
    (length (block_text source m body) ≤ max_bytes) × (length (texts_with source media bodies items) ≤ max_bytes)
opened_short source m media body bodies piece items start short =
    let n : length (texts_with source (m ∷ media) (body ∷ bodies) (KeptBlock piece ∷ items)) ≡ length (block_text source m body ++ texts_with source media bodies items) =
    ap length (opened_texts source m media body bodies piece items start) in
    let parts = length-append (block_text source m body) (texts_with source media bodies items) in
    (omega (arith, n, short, parts), omega (arith, n, short, parts))

pub row_of_items : (source : List ℕ) → Ground source → (n at : ℕ) (items : List Item) (bodies : List SheetParts) → AllByRecursion (IsSoundItem source) items → BlocksAscend at items →
    AllZip (IsBodyFrom source) (opened_from source n items) bodies → AllByRecursion (ReadsBackAsBlock source) (opened_from source n items) →
    length (texts_with source (opened_from source n items) bodies items) ≤ max_bytes → IsRow source (opened_from source n items) bodies items
row_of_items source g n at [] bodies sound ascend = λ from printable short. record { replace = tt; texts = refl }
row_of_items source g n at (item ∷ items) bodies sound ascend =
    let behind = ascend_behind at item items ascend in
    which (step_at source g n at item items sound ascend) (λ bodies. row_of_items source g (suc n) behind.0 items bodies sound.1 behind.1) bodies
  where
    which : IsPlainStep source n item items ⊎ IsOpenedStep source n item items →
        ((bodies : List SheetParts) → AllZip (IsBodyFrom source) (opened_from source (suc n) items) bodies → AllByRecursion (ReadsBackAsBlock source) (opened_from source (suc n) items) →
        length (texts_with source (opened_from source (suc n) items) bodies items) ≤ max_bytes → IsRow source (opened_from source (suc n) items) bodies items) →
        (bodies : List SheetParts) → AllZip (IsBodyFrom source) (opened_from source n (item ∷ items)) bodies → AllByRecursion (ReadsBackAsBlock source) (opened_from source n (item ∷ items)) →
        length (texts_with source (opened_from source n (item ∷ items)) bodies (item ∷ items)) ≤ max_bytes → IsRow source (opened_from source n (item ∷ items)) bodies (item ∷ items)
    which (inl s) later bodies =
        subst
        (λ media. AllZip (IsBodyFrom source) media bodies → AllByRecursion (ReadsBackAsBlock source) media → length (texts_with source media bodies (item ∷ items)) ≤ max_bytes → IsRow source media bodies (item ∷ items))
        (sym s.media)
        (λ from printable short. plain_row source n item items bodies s (later bodies from printable (plain_short source (opened_from source (suc n) items) bodies item items s.none short)))
    which (inr s) later bodies =
        subst
        (λ media. AllZip (IsBodyFrom source) media bodies → AllByRecursion (ReadsBackAsBlock source) media → length (texts_with source media bodies (item ∷ items)) ≤ max_bytes → IsRow source media bodies (item ∷ items))
        (sym s.media) (opened bodies)
      where
        opened : (bodies : List SheetParts) → AllZip (IsBodyFrom source) (s.block ∷ opened_from source (suc n) items) bodies → AllByRecursion (ReadsBackAsBlock source) (s.block ∷ opened_from source (suc n) items) →
            length (texts_with source (s.block ∷ opened_from source (suc n) items) bodies (item ∷ items)) ≤ max_bytes → IsRow source (s.block ∷ opened_from source (suc n) items) bodies (item ∷ items)
        opened [] from printable short = absurd from
        opened (body ∷ bodies) from printable short =
            let rest = opened_from source (suc n) items in
            let sizes = opened_short source s.block rest body bodies s.piece items s.start
            (subst (λ i. length (texts_with source (s.block ∷ rest) (body ∷ bodies) (i ∷ items)) ≤ max_bytes) s.is_block short) in
            opened_row source n item items body bodies s (printable.0 body from.0 sizes.0) (later bodies from.1 printable.1 sizes.1)
