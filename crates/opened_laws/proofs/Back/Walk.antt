-- The items of a printed text with opened blocks are read back with the same blocks opened.
use Rattle.std.proofs.Common.{◌≡◌, ◌⊎◌, inl, inr, ◌≤◌, ℕ, suc, Bool, true, List, [], ◌∷◌, ◌++◌, length, map, Option, Some, None, refl, sym, ◌∙◌, ap, ap₂, subst, arith}
use Rattle.std.specs.Prelude.{◌||◌, if◌then◌else◌, codes}
use Rattle.std.specs.List.{AllByRecursion, AllZip, cons_option, flat_map, list_any}
use Rattle.std.proofs.lemmas.Bool.{true≢false}
use Rattle.std.proofs.lemmas.List.{length-append}
use Rattle.css_model.specs.declared.limits.TheConstants.{MAX_BYTES}
use Rattle.css_model.specs.declared.sheet.Item.{Item}
use Rattle.css_model.specs.declared.sheet.Item.TheVariants.{Rule, KeptRule, KeptBlock}
use Rattle.css_model.specs.declared.sheet.Piece.{Piece}
use Rattle.css_model.specs.Sheets.Limits.{max_bytes}
use Rattle.css_model.specs.Sheets.Printed.{printed, printed_item}
use Rattle.css_model.specs.Sheets.SheetParts.{SheetParts}
use Rattle.css_model.specs.Sheets.Sound.{IsSoundItem}
use Rattle.css_model.specs.Sheets.Spelling.{kept_text, tokens_in}
use Rattle.css_model.specs.Text.Characters.{close_curly, open_curly}
use Rattle.css_model.specs.Text.Source.{text_at}
use Rattle.list_facts.proofs.Zips.{some_not_none}
use Rattle.opened_laws.specs.Block.Blocks.{ReadsBackAsBlock}
use Rattle.media_groups.specs.declared.media.Media.{Media}
use Rattle.media_groups.specs.Opened.{is_import_item, opened_from, opened_item, opened_rule}
use Rattle.media_groups.specs.Printed.{block_text, texts_with}
use Rattle.opened_laws.specs.Media.Scenes.{block_at}
use Rattle.print_laws.specs.Replaced.{whole_piece}
use Rattle.print_laws.proofs.ForCallers.{AreKeptBack, Ground, IsKeptBack, IsSourcedKeptBack}
use Rattle.sheet_laws.specs.Sourced.{IsTwinOfSourced}
use Rattle.sheet_laws.specs.Twins.{AreTwinItems}
use Rattle.opened_laws.specs.Again.{AreOpenedAgain, IsBlockAgain, IsBodyFrom, IsPieceAgain}
use Rattle.opened_laws.proofs.Back.Blocks.{IsPrintedBlock, media_no_import, not_opened, opened_again, piece_item, rule_opened}
use Rattle.opened_laws.proofs.Back.Bodies.{body_back}
use Rattle.opened_laws.proofs.Back.Kept.{kept_named}
use Rattle.opened_laws.proofs.Back.Rows.{opened_short, plain_short}
use Rattle.opened_laws.proofs.Back.Starts.{BlocksAscend}
use Rattle.opened_laws.proofs.Back.Steps.{IsOpenedStep, IsPlainStep, NoneBegins, ascend_behind, opened_block, opened_count, opened_replaced, opened_start, opened_texts, plain_block, plain_count, plain_replaced, plain_texts, replaced, step_at, whole_item}

-- the sheets of opened blocks
abbrev sheets_of : List Media → List SheetParts
sheets_of media = map (λ m. m.sheet) media

-- What items are read back as: the same blocks are opened, their texts are the same, and as many of them are `@import` rules.
pub record IsWalked (source : List ℕ) (media : List Media) (bodies : List SheetParts) (items : List Item) (text : List ℕ) (media' : List Media) (again : List Item) : Type 0 where
  pub opened : AreOpenedAgain source media bodies items text media' again
  pub texts : texts_with text media' (map (λ m. m.sheet) media') again ≡ flat_map (printed_item text) again
  pub imports : list_any (is_import_item text) again ≡ list_any (is_import_item source) items

-- ---- an item that is not opened

import_same : (source text : List ℕ) → Ground source → (item item' : Item) → AreTwinItems source text item item' → AreKeptBack source text item item' → is_import_item text item' ≡ is_import_item source item
import_same source text g (Rule r) (Rule r') twin back = refl
import_same source text g (Rule r) (KeptRule k') twin back = absurd twin
import_same source text g (Rule r) (KeptBlock p') twin back = absurd twin
import_same source text g (KeptRule k) (Rule r') twin back = absurd twin
import_same source text g (KeptRule k) (KeptRule k') twin back = refl
import_same source text g (KeptRule k) (KeptBlock p') twin back = absurd twin
import_same source text g (KeptBlock p) (Rule r') twin back = absurd twin
import_same source text g (KeptBlock p) (KeptRule k') twin back = absurd twin
import_same source text g (KeptBlock p) (KeptBlock p') twin back = kept_named (codes "import") source text g p p' back

piece_again : (source : List ℕ) (bodies : List SheetParts) (piece : Piece) (o : Option Media) (text : List ℕ) (piece' : Piece) (o' : Option Media) → o ≡ None → o' ≡ None →
    kept_text source piece ≡ kept_text text piece' → IsPieceAgain source bodies piece o text piece' o'
piece_again source bodies piece o text piece' o' none none' same = rw (none, none') same

plain_again : (source : List ℕ) (media : List Media) (bodies : List SheetParts) (item : Item) (items : List Item) (text : List ℕ) (media' : List Media) (item' : Item) (again : List Item) →
    NoneBegins media item → NoneBegins media' item' → AreTwinItems source text item item' → AreOpenedAgain source media bodies items text media' again →
    AreOpenedAgain source media bodies (item ∷ items) text media' (item' ∷ again)
plain_again source media bodies (Rule r) items text media' (Rule r') again none none' twin later = (twin, later)
plain_again source media bodies (Rule r) items text media' (KeptRule k') again none none' twin later = absurd twin
plain_again source media bodies (Rule r) items text media' (KeptBlock p') again none none' twin later = absurd twin
plain_again source media bodies (KeptRule k) items text media' (Rule r') again none none' twin later = absurd twin
plain_again source media bodies (KeptRule k) items text media' (KeptRule k') again none none' twin later = (twin, later)
plain_again source media bodies (KeptRule k) items text media' (KeptBlock p') again none none' twin later = absurd twin
plain_again source media bodies (KeptBlock p) items text media' (Rule r') again none none' twin later = absurd twin
plain_again source media bodies (KeptBlock p) items text media' (KeptRule k') again none none' twin later = absurd twin
plain_again source media bodies (KeptBlock p) items text media' (KeptBlock p') again none none' twin later = (
  piece_again source bodies p (block_at media p) text p' (block_at media' p') (plain_block media p none) (plain_block media' p' none') twin,
  rw (plain_count media (KeptBlock p) none, plain_count media' (KeptBlock p') none') later,
)

plain_walked : (source text : List ℕ) → Ground source → (media : List Media) (bodies : List SheetParts) (item : Item) (items : List Item) (media' : List Media) (item' : Item) (again : List Item) →
    NoneBegins media item → NoneBegins media' item' → AreTwinItems source text item item' → AreKeptBack source text item item' → IsWalked source media bodies items text media' again →
    IsWalked source media bodies (item ∷ items) text media' (item' ∷ again)
plain_walked source text g media bodies item items media' item' again none none' twin back later = record {
  opened = plain_again source media bodies item items text media' item' again none none' twin later.opened;
  texts = plain_texts text media' (sheets_of media') item' again none' ∙ ap (λ (t : List ℕ). printed_item text item' ++ t) later.texts;
  imports = ap₂ (λ (b c : Bool). b || c) (import_same source text g item item' twin back) later.imports;
}

-- ---- an item that is opened

opened_walked : (source text : List ℕ) (m : Media) (media : List Media) (body : SheetParts) (bodies : List SheetParts) (piece : Piece) (items : List Item) (m' : Media) (media' : List Media) (piece' : Piece) (again : List Item) →
    m.head.start ≡ piece.start → m'.head.start ≡ piece'.start → IsBlockAgain source m body text m' → block_text text m' m'.sheet ≡ kept_text text piece' →
    is_import_item text (KeptBlock piece') ≡ is_import_item source (KeptBlock piece) → IsWalked source media bodies items text media' again →
    IsWalked source (m ∷ media) (body ∷ bodies) (KeptBlock piece ∷ items) text (m' ∷ media') (KeptBlock piece' ∷ again)
opened_walked source text m media body bodies piece items m' media' piece' again start start' block same import later = record {
  opened = (
    rw (opened_block m media piece start, opened_block m' media' piece' start') block,
    rw (opened_count m media piece start, opened_count m' media' piece' start') later.opened,
  );
  texts = opened_texts text m' media' m'.sheet (sheets_of media') piece' again start' ∙ ap₂ (λ (t u : List ℕ). t ++ u) same later.texts;
  imports = ap₂ (λ (b c : Bool). b || c) import later.imports;
}

-- ---- the same steps in the source and in the text

-- what is not opened in the source is not in the text
not_opened_item : (source text : List ℕ) → Ground source → Ground text → length source ≤ MAX_BYTES → (n n' : ℕ) (item : Item) (piece' : Piece) (m' : Media) → IsSoundItem source item → IsSoundItem text (KeptBlock piece') →
    AreTwinItems source text item (KeptBlock piece') → AreKeptBack source text item (KeptBlock piece') → opened_item source n item ≡ None → opened_rule text n' (tokens_in text piece') ≡ Some m' → ⊥
not_opened_item source text g g' short n n' (Rule r) piece' m' sound sound' twin back none opened = absurd twin
not_opened_item source text g g' short n n' (KeptRule k) piece' m' sound sound' twin back none opened = absurd twin
not_opened_item source text g g' short n n' (KeptBlock piece) piece' m' sound sound' twin back none opened =
    some_not_none m' (sym opened ∙ not_opened source text g g' short piece piece' (piece_item source g piece sound) (piece_item text g' piece' sound') back n n' none)

not_both : (source text : List ℕ) → Ground source → Ground text → length source ≤ MAX_BYTES → (n n' : ℕ) (item item' : Item) (items again : List Item) → IsSoundItem source item → IsSoundItem text item' →
    AreTwinItems source text item item' → AreKeptBack source text item item' → list_any (is_import_item text) again ≡ list_any (is_import_item source) items →
    IsPlainStep source n item items → IsOpenedStep text n' item' again → ⊥
not_both source text g g' short n n' item item' items again sound sound' twin back imports s s' = which s.unopened
  where
    which : (list_any (is_import_item source) items ≡ true) ⊎ (opened_item source n item ≡ None) → ⊥
    which (inl import) = true≢false (sym import ∙ sym imports ∙ s'.no_import)
    which (inr none) =
        not_opened_item source text g g' short n n' item s'.piece s'.block sound (subst (IsSoundItem text) s'.is_block sound')
        (subst (AreTwinItems source text item) s'.is_block twin) (subst (AreKeptBack source text item) s'.is_block back) none s'.opened

plain_step : (source text : List ℕ) → Ground source → Ground text → length source ≤ MAX_BYTES → (n n' : ℕ) (bodies : List SheetParts) (item item' : Item) (items again : List Item) →
    IsSoundItem source item → IsSoundItem text item' → AreTwinItems source text item item' → AreKeptBack source text item item' →
    IsPlainStep source n item items → IsPlainStep text n' item' again ⊎ IsOpenedStep text n' item' again →
    IsWalked source (opened_from source (suc n) items) bodies items text (opened_from text (suc n') again) again →
    IsWalked source (opened_from source (suc n) items) bodies (item ∷ items) text (opened_from text n' (item' ∷ again)) (item' ∷ again)
plain_step source text g g' short n n' bodies item item' items again sound sound' twin back s (inl s') later =
    subst (λ media'. IsWalked source (opened_from source (suc n) items) bodies (item ∷ items) text media' (item' ∷ again)) (sym s'.media)
    (plain_walked source text g (opened_from source (suc n) items) bodies item items (opened_from text (suc n') again) item' again s.none s'.none twin back later)
plain_step source text g g' short n n' bodies item item' items again sound sound' twin back s (inr s') later =
    absurd (not_both source text g g' short n n' item item' items again sound sound' twin back later.imports s s')

inside_short : (head inside : List ℕ) → length inside ≤ length (head ++ open_curly ∷ inside ++ close_curly ∷ [])
inside_short head inside = omega (arith, length-append (head ++ open_curly ∷ inside) (close_curly ∷ []), length-append head (open_curly ∷ inside))

-- the printed text of a body is no longer than that of its block
body_short : (source : List ℕ) (m : Media) (body : SheetParts) → length (block_text source m body) ≤ max_bytes → length (printed (text_at source m.body) body.items) ≤ max_bytes
body_short source m body short =
    let le : length (printed (text_at source m.body) body.items) ≤ length (block_text source m body) = inside_short (kept_text source m.head) (printed (text_at source m.body) body.items) in
    omega (arith, short, le)

block_step : (source text : List ℕ) → Ground text → (n n' : ℕ) (body : SheetParts) (bodies : List SheetParts) (item : Item) (items again : List Item) (piece' : Piece) → (s : IsOpenedStep source n item items) →
    IsSoundItem text (KeptBlock piece') → IsBodyFrom source s.block body → length (block_text source s.block body) ≤ max_bytes → IsPrintedBlock source s.block body (block_text source s.block body) →
    kept_text (block_text source s.block body) (whole_piece (block_text source s.block body)) ≡ kept_text text piece' →
    IsKeptBack (block_text source s.block body) (whole_piece (block_text source s.block body)) text piece' →
    IsWalked source (opened_from source (suc n) items) bodies items text (opened_from text (suc n') again) again →
    IsWalked source (s.block ∷ opened_from source (suc n) items) (body ∷ bodies) (KeptBlock s.piece ∷ items) text (opened_from text n' (KeptBlock piece' ∷ again)) (KeptBlock piece' ∷ again)
block_step source text g' n n' body bodies item items again piece' s sound' from short print twin back later =
    let block = block_text source s.block body in
    let rule = rule_opened source n (tokens_in source s.piece) s.block s.opened in
    let bb = body_back (text_at source s.block.body) s.block.sheet.items body.items rule.is_sheet from (body_short source s.block body short) in
    let item' = piece_item text g' piece' sound' in
    let o = opened_again source s.block body block print bb text g' piece' item' back n' in
    let rule' = rule_opened text n' (tokens_in text piece') o.again o.opened in
    let rest' = opened_from text (suc n') again in
    let media' : opened_from text n' (KeptBlock piece' ∷ again) ≡ o.again ∷ rest' =
    ap (λ b. cons_option (if b then None else opened_rule text n' (tokens_in text piece')) rest') (later.imports ∙ s.no_import) ∙ ap (λ m. cons_option m rest') o.opened in
    subst (λ media'. IsWalked source (s.block ∷ opened_from source (suc n) items) (body ∷ bodies) (KeptBlock s.piece ∷ items) text media' (KeptBlock piece' ∷ again)) (sym media')
    (opened_walked source text s.block (opened_from source (suc n) items) body bodies s.piece items o.again rest' piece' again s.start (opened_start text g' n' piece' sound' o.again o.opened) o.is_block
    (o.text_again ∙ sym print.whole.kept ∙ twin)
    (media_no_import text (tokens_in text piece') rule'.media ∙ sym (media_no_import source (tokens_in source s.piece) rule.media)) later)

opened_step : (source text : List ℕ) → Ground text → (n n' : ℕ) (body : SheetParts) (bodies : List SheetParts) (item : Item) (items again : List Item) (item' : Item) → (s : IsOpenedStep source n item items) →
    IsSoundItem text item' → IsBodyFrom source s.block body → length (block_text source s.block body) ≤ max_bytes → IsPrintedBlock source s.block body (block_text source s.block body) →
    IsTwinOfSourced text (whole_item (block_text source s.block body)) item' → IsSourcedKeptBack text (whole_item (block_text source s.block body)) item' →
    IsWalked source (opened_from source (suc n) items) bodies items text (opened_from text (suc n') again) again →
    IsWalked source (s.block ∷ opened_from source (suc n) items) (body ∷ bodies) (KeptBlock s.piece ∷ items) text (opened_from text n' (item' ∷ again)) (item' ∷ again)
opened_step source text g' n n' body bodies item items again (Rule r') s sound' from short print twin back later = absurd twin
opened_step source text g' n n' body bodies item items again (KeptRule k') s sound' from short print twin back later = absurd twin
opened_step source text g' n n' body bodies item items again (KeptBlock piece') s sound' from short print twin back later =
    block_step source text g' n n' body bodies item items again piece' s sound' from short print twin back later

-- ---- all of the items

-- what is needed of items, their opened blocks and bodies, and of what they are read back as
pub record IsReady (source : List ℕ) (media : List Media) (bodies : List SheetParts) (items : List Item) (text : List ℕ) (again : List Item) : Type 0 where
  pub from : AllZip (IsBodyFrom source) media bodies
  pub printable : AllByRecursion (ReadsBackAsBlock source) media
  pub short : length (texts_with source media bodies items) ≤ max_bytes
  pub twins : AllZip (IsTwinOfSourced text) (replaced source media bodies items) again
  pub kept : AllZip (IsSourcedKeptBack text) (replaced source media bodies items) again

pub walk : (source text : List ℕ) → Ground source → Ground text → length source ≤ MAX_BYTES → (n at n' at' : ℕ) (items again : List Item) (bodies : List SheetParts) →
    AllByRecursion (IsSoundItem source) items → AllByRecursion (IsSoundItem text) again → BlocksAscend at items → BlocksAscend at' again →
    IsReady source (opened_from source n items) bodies items text again → IsWalked source (opened_from source n items) bodies items text (opened_from text n' again) again
walk source text g g' short n at n' at' [] [] bodies sound sound' ascend ascend' r = record { opened = (refl, refl); texts = refl; imports = refl }
walk source text g g' short n at n' at' [] (item' ∷ again) bodies sound sound' ascend ascend' r = absurd r.twins
walk source text g g' short n at n' at' (item ∷ items) [] bodies sound sound' ascend ascend' r = absurd r.twins
walk source text g g' short n at n' at' (item ∷ items) (item' ∷ again) bodies sound sound' ascend ascend' r =
    let behind = ascend_behind at item items ascend in
    let behind' = ascend_behind at' item' again ascend' in
    which (step_at source g n at item items sound ascend) (step_at text g' n' at' item' again sound' ascend')
    (λ bodies r. walk source text g g' short (suc n) behind.0 (suc n') behind'.0 items again bodies sound.1 sound'.1 behind.1 behind'.1 r)
  where
    which : IsPlainStep source n item items ⊎ IsOpenedStep source n item items → IsPlainStep text n' item' again ⊎ IsOpenedStep text n' item' again →
        ((bodies : List SheetParts) → IsReady source (opened_from source (suc n) items) bodies items text again → IsWalked source (opened_from source (suc n) items) bodies items text (opened_from text (suc n') again) again) →
        IsWalked source (opened_from source n (item ∷ items)) bodies (item ∷ items) text (opened_from text n' (item' ∷ again)) (item' ∷ again)
    which (inl s) s' later =
        let media = opened_from source (suc n) items in
        let ready = subst (λ media. IsReady source media bodies (item ∷ items) text (item' ∷ again)) s.media r in
        let are = plain_replaced source media bodies item items s.none in
        let twins = subst (λ xs. AllZip (IsTwinOfSourced text) xs (item' ∷ again)) are ready.twins in
        let kept = subst (λ xs. AllZip (IsSourcedKeptBack text) xs (item' ∷ again)) are ready.kept in
        subst (λ media. IsWalked source media bodies (item ∷ items) text (opened_from text n' (item' ∷ again)) (item' ∷ again)) (sym s.media)
        (plain_step source text g g' short n n' bodies item item' items again sound.0 sound'.0 twins.0 kept.0 s s'
        (later bodies (record { from = ready.from; printable = ready.printable; short = plain_short source media bodies item items s.none ready.short; twins = twins.1; kept = kept.1 })))
    which (inr s) s' later =
        let ready = subst (λ media. IsReady source media bodies (item ∷ items) text (item' ∷ again)) s.media r in
        let ready' = subst (λ i. IsReady source (s.block ∷ opened_from source (suc n) items) bodies (i ∷ items) text (item' ∷ again)) s.is_block ready in
        subst (λ media. IsWalked source media bodies (item ∷ items) text (opened_from text n' (item' ∷ again)) (item' ∷ again)) (sym s.media)
        (subst (λ i. IsWalked source (s.block ∷ opened_from source (suc n) items) bodies (i ∷ items) text (opened_from text n' (item' ∷ again)) (item' ∷ again)) (sym s.is_block) (opened bodies ready'))
      where
        opened : (bodies : List SheetParts) → IsReady source (s.block ∷ opened_from source (suc n) items) bodies (KeptBlock s.piece ∷ items) text (item' ∷ again) →
            IsWalked source (s.block ∷ opened_from source (suc n) items) bodies (KeptBlock s.piece ∷ items) text (opened_from text n' (item' ∷ again)) (item' ∷ again)
        opened [] ready = absurd ready.from
        opened (body ∷ bodies) ready =
            let media = opened_from source (suc n) items in
            let are = opened_replaced source s.block media body bodies s.piece items s.start in
            let twins = subst (λ xs. AllZip (IsTwinOfSourced text) xs (item' ∷ again)) are ready.twins in
            let kept = subst (λ xs. AllZip (IsSourcedKeptBack text) xs (item' ∷ again)) are ready.kept in
            let sizes = opened_short source s.block media body bodies s.piece items s.start ready.short in
            opened_step source text g' n n' body bodies item items again item' s sound'.0 ready.from.0 sizes.0 (ready.printable.0 body ready.from.0 sizes.0) twins.0 kept.0
            (later bodies (record { from = ready.from.1; printable = ready.printable.1; short = sizes.1; twins = twins.1; kept = kept.1 }))
