-- The text of items with opened blocks, by the rules and by the kept items.
use Rattle.std.proofs.Common.{◌≡◌, ◌≤◌, ℕ, suc, ◌+◌, Bool, true, false, List, [], ◌∷◌, ◌++◌, length, map, drop, refl, ap, ◌∙◌, arith}
use Rattle.std.specs.Prelude.{if◌then◌else◌}
use Rattle.std.specs.List.{AllZip, flat_map}
use Rattle.std.proofs.lemmas.List.{length-append}
use Rattle.css_model.specs.declared.sheet.Item.{Item}
use Rattle.css_model.specs.declared.sheet.Item.TheVariants.{Rule, KeptRule, KeptBlock}
use Rattle.css_model.specs.Sheets.KeptItems.{kept_items}
use Rattle.css_model.specs.Sheets.Printed.{printed, printed_item}
use Rattle.css_model.specs.Sheets.SheetParts.{SheetParts}
use Rattle.css_model.specs.Sheets.Spelling.{kept_text}
use Rattle.css_model.specs.Text.Source.{text_at}
use Rattle.media_groups.specs.declared.media.Media.{Media}
use Rattle.media_groups.specs.Laws.{IsNoLongerBody, MergedIsNoLonger}
use Rattle.media_groups.specs.Opened.{opened_of}
use Rattle.media_groups.specs.Printed.{begins_at, block_text, blocks_at, next_text, texts_with}
use Rattle.media_groups.proofs.Staying.{follow_kept}

-- the texts of the rules alone
rules_size : List ℕ → List Item → ℕ
rules_size source [] = 0
rules_size source (Rule r ∷ items) = length (printed_item source (Rule r)) + rules_size source items
rules_size source (KeptRule k ∷ items) = rules_size source items
rules_size source (KeptBlock piece ∷ items) = rules_size source items

-- a rule is none of the blocks
rule_next : (source : List ℕ) (media : List Media) (bodies : List SheetParts) (item : Item) → ((m : Media) → begins_at m.head.start item ≡ false) →
    (next_text source media bodies item ≡ printed_item source item) × (blocks_at media item ≡ 0)
rule_next source [] bodies item other = (refl, refl)
rule_next source (m ∷ media) [] item other = (refl, ap (λ (b : Bool). if b then 1 else 0) (other m))
rule_next source (m ∷ media) (body ∷ bodies) item other = (ap (λ (b : Bool). if b then block_text source m body else printed_item source item) (other m), ap (λ (b : Bool). if b then 1 else 0) (other m))

step_size : (source : List ℕ) (media : List Media) (bodies : List SheetParts) (item : Item) (items : List Item) →
    length (texts_with source media bodies (item ∷ items)) ≡ length (next_text source media bodies item) + length (texts_with source (drop (blocks_at media item) media) (drop (blocks_at media item) bodies) items)
step_size source media bodies item items = length-append (next_text source media bodies item) (texts_with source (drop (blocks_at media item) media) (drop (blocks_at media item) bodies) items)

-- the text with opened blocks is that of the rules and that of the kept items
texts_size : (source : List ℕ) (media : List Media) (bodies : List SheetParts) (items : List Item) →
    length (texts_with source media bodies items) ≡ rules_size source items + length (texts_with source media bodies (kept_items items))
unfolding rules_size
texts_size source media bodies [] = omega arith
texts_size source media bodies (Rule r ∷ items) =
    let no = rule_next source media bodies (Rule r) (λ m. refl) in
    let rest : length (texts_with source (drop (blocks_at media (Rule r)) media) (drop (blocks_at media (Rule r)) bodies) items) ≡ length (texts_with source media bodies items) =
    ap (λ (n : ℕ). length (texts_with source (drop n media) (drop n bodies) items)) no.1 in
    let text : length (next_text source media bodies (Rule r)) ≡ length (printed_item source (Rule r)) = ap length no.0 in
    omega (arith, step_size source media bodies (Rule r) items, rest, text, texts_size source media bodies items)
texts_size source media bodies (KeptRule k ∷ items) =
    let n = blocks_at media (KeptRule k) in
    omega (arith, step_size source media bodies (KeptRule k) items, step_size source media bodies (KeptRule k) (kept_items items), texts_size source (drop n media) (drop n bodies) items)
texts_size source media bodies (KeptBlock piece ∷ items) =
    let n = blocks_at media (KeptBlock piece) in
    omega (arith, step_size source media bodies (KeptBlock piece) items, step_size source media bodies (KeptBlock piece) (kept_items items), texts_size source (drop n media) (drop n bodies) items)

flat_size : (source : List ℕ) (items : List Item) → length (flat_map (printed_item source) items) ≡ rules_size source items + length (flat_map (printed_item source) (kept_items items))
unfolding rules_size
flat_size source [] = omega arith
flat_size source (Rule r ∷ items) =
    omega (arith, length-append (printed_item source (Rule r)) (flat_map (printed_item source) items), flat_size source items)
flat_size source (KeptRule k ∷ items) =
    omega (arith, length-append (printed_item source (KeptRule k)) (flat_map (printed_item source) items), length-append (printed_item source (KeptRule k)) (flat_map (printed_item source) (kept_items items)), flat_size source items)
flat_size source (KeptBlock p ∷ items) =
    omega (arith, length-append (printed_item source (KeptBlock p)) (flat_map (printed_item source) items), length-append (printed_item source (KeptBlock p)) (flat_map (printed_item source) (kept_items items)), flat_size source items)

-- ---- shorter bodies

block_size : (source : List ℕ) (m : Media) (body : SheetParts) → length (block_text source m body) ≡ length (kept_text source m.head) + suc (length (printed (text_at source m.body) body.items)) + 1
block_size source m body =
    let head = kept_text source m.head in
    let inside = printed (text_at source m.body) body.items in
    length-append (head ++ 123 ∷ inside) (125 ∷ []) ∙ ap (λ (n : ℕ). n + 1) (length-append head (123 ∷ inside))

next_shorter : (source : List ℕ) (media : List Media) (bodies : List SheetParts) (item : Item) → AllZip (IsNoLongerBody source) media bodies →
    length (next_text source media bodies item) ≤ length (next_text source media (map (λ m. m.sheet) media) item)
next_shorter source [] bodies item all = omega arith
next_shorter source (m ∷ media) [] item all = absurd all
next_shorter source (m ∷ media) (body ∷ bodies) item all = which (begins_at m.head.start item)
  where
    which : (b : Bool) → length (if b then block_text source m body else printed_item source item) ≤ length (if b then block_text source m m.sheet else printed_item source item)
    which true = omega (arith, block_size source m body, block_size source m m.sheet, all.0)
    which false = omega arith

blocks_left : (source : List ℕ) (media : List Media) (bodies : List SheetParts) (item : Item) → AllZip (IsNoLongerBody source) media bodies →
    AllZip (IsNoLongerBody source) (drop (blocks_at media item) media) (drop (blocks_at media item) bodies) × (drop (blocks_at media item) (map (λ m. m.sheet) media) ≡ map (λ m. m.sheet) (drop (blocks_at media item) media))
blocks_left source [] [] item all = (tt, refl)
blocks_left source [] (body ∷ bodies) item all = absurd all
blocks_left source (m ∷ media) [] item all = absurd all
blocks_left source (m ∷ media) (body ∷ bodies) item all = which (begins_at m.head.start item)
  where
    which : (b : Bool) → AllZip (IsNoLongerBody source) (drop (if b then 1 else 0) (m ∷ media)) (drop (if b then 1 else 0) (body ∷ bodies)) × (drop (if b then 1 else 0) (map (λ m. m.sheet) (m ∷ media)) ≡ map (λ m. m.sheet) (drop (if b then 1 else 0) (m ∷ media)))
    which true = (all.1, refl)
    which false = (all, refl)

texts_shorter : (source : List ℕ) (media : List Media) (bodies : List SheetParts) (items : List Item) → AllZip (IsNoLongerBody source) media bodies →
    length (texts_with source media bodies items) ≤ length (texts_with source media (map (λ m. m.sheet) media) items)
texts_shorter source media bodies [] all = omega arith
texts_shorter source media bodies (item ∷ items) all =
    let n = blocks_at media item in
    let left = blocks_left source media bodies item all in
    let own : length (texts_with source (drop n media) (drop n (map (λ m. m.sheet) media)) items) ≡ length (texts_with source (drop n media) (map (λ m. m.sheet) (drop n media)) items) =
    ap (λ (bs : List SheetParts). length (texts_with source (drop n media) bs items)) left.1 in
    omega (
      arith,
      step_size source media bodies item items,
      step_size source media (map (λ m. m.sheet) media) item items,
      next_shorter source media bodies item all,
      texts_shorter source (drop n media) (drop n bodies) items left.0,
      own,
    )

pub no_longer : MergedIsNoLonger
no_longer source old new bodies n follows shorter all =
    let media = opened_of old source in
    let own = map (λ m. m.sheet) media in
    let kept : kept_items new ≡ kept_items old = follow_kept new old follows in
    let same : length (flat_map (printed_item source) (kept_items new)) ≡ length (flat_map (printed_item source) (kept_items old)) = ap (λ (items : List Item). length (flat_map (printed_item source) items)) kept in
    let texts : length (texts_with source media bodies (kept_items new)) ≡ length (texts_with source media bodies (kept_items old)) = ap (λ (items : List Item). length (texts_with source media bodies items)) kept in
    omega (arith, shorter, flat_size source new, flat_size source old, same, texts_size source media bodies new, texts_size source media own old, texts, texts_shorter source media bodies (kept_items old) all)
