-- What a sheet that is read, and its opened bodies, keep to.
use Rattle.std.proofs.Common.{◌≡◌, ◌≤◌, ◌+◌, inl, inr, ℕ, suc, Bool, true, false, cond, List, [], ◌∷◌, length, Option, Some, None, Ok, Err, nat_lt, slice_get, refl, sym, ◌∙◌, subst, arith}
use Rattle.std.specs.List.{AllByRecursion, cons_option, count_by, list_any}
use Rattle.std.specs.Str.Lossy.{utf8_valid_len}
use Rattle.std.proofs.lemmas.List.Sums.{sum_by-cons}
use Rattle.std.proofs.lemmas.Option.{slice_get_cases}
use Rattle.css_model.specs.declared.fault.FaultKind.TheVariants.{TooLong, NotUtf8}
use Rattle.css_model.specs.declared.limits.TheConstants.{MAX_BYTES, MAX_ITEMS}
use Rattle.css_model.specs.declared.sheet.Item.{Item}
use Rattle.css_model.specs.declared.sheet.Item.TheVariants.{Rule, KeptRule, KeptBlock}
use Rattle.css_model.specs.declared.token.TokenFault.{TokenFault}
use Rattle.css_model.specs.Sheets.KeptItems.{is_kept}
use Rattle.css_model.specs.Sheets.Limits.{max_bytes, max_items}
use Rattle.css_model.specs.Sheets.Sheet.{namespace_at, read_items, sheet_of, sheet_of_stream, sheet_of_tokens, start_of, too_deep, too_many_items, too_many_pairs, unclosed}
use Rattle.css_model.specs.Sheets.Sound.{raw_items}
use Rattle.css_model.specs.Sheets.Spelling.{lexemes_of}
use Rattle.css_model.specs.Text.Source.{text_at}
use Rattle.css_model.specs.Text.Tokens.{tokens}
use Rattle.media_groups.specs.declared.media.Media.{Media}
use Rattle.media_groups.specs.Laws.{IsBlockOf, OpenedBlocksAreSheets}
use Rattle.media_groups.specs.Opened.{is_import_item, opened_from, opened_item, opened_of}
use Rattle.sheet_laws.proofs.ForCallers.{no_map, tested}

-- ---- A sheet that is read

few_items : (items : List Item) → too_many_items items ≡ None → length items ≤ MAX_ITEMS
few_items items is = elim (slice_get_cases items MAX_ITEMS).1 [
  | inl within ↦ absurd (let some : Some within.0 ≡ None = sym within.2 ∙ no_map start_of (slice_get items MAX_ITEMS) is in cc)
  | inr past ↦ past.0
]

tested_items : (source : List ℕ) (items : List Item) → sheet_of_tokens source (tokens source true).tokens ≡ Ok items → length items ≤ MAX_ITEMS
tested_items source items is =
    let none = tested (too_deep (lexemes_of source)) (unclosed (tokens source true).tokens) (namespace_at source (raw_items source))
    (too_many_items (read_items source (raw_items source))) (too_many_pairs 0 (read_items source (raw_items source))) (read_items source (raw_items source)) items is in
    subst (λ (xs : List Item). length xs ≤ MAX_ITEMS) none.same (few_items (read_items source (raw_items source)) none.no_many)

stream_items : (source : List ℕ) (items : List Item) (fault : Option TokenFault) → sheet_of_stream source fault (tokens source true).tokens ≡ Ok items → length items ≤ MAX_ITEMS
stream_items source items (Some f) is = absurd (cc)
stream_items source items None is = tested_items source items is

not_longer : (limit n : ℕ) → nat_lt limit n ≡ false → n ≤ limit
not_longer limit n test = grind (arith, test)

read_limits : (source : List ℕ) (items : List Item) → sheet_of source ≡ Ok items → (length source ≤ MAX_BYTES) × (length items ≤ MAX_ITEMS)
read_limits source items is = which (nat_lt MAX_BYTES (length source)) refl (nat_lt (utf8_valid_len source) (length source)) is
  where
    which : (long : Bool) → nat_lt MAX_BYTES (length source) ≡ long → (wrong : Bool)
        → cond long (Err (record { kind = TooLong; at = MAX_BYTES })) (cond wrong (Err (record { kind = NotUtf8; at = utf8_valid_len source })) (sheet_of_stream source (tokens source true).fault (tokens source true).tokens)) ≡ Ok items
        → (length source ≤ MAX_BYTES) × (length items ≤ MAX_ITEMS)
    which true test wrong e = absurd (cc)
    which false test true e = absurd (cc)
    which false test false e = (not_longer MAX_BYTES (length source) test, stream_items source items (tokens source true).fault e)

pub read_is_short : (source : List ℕ) (items : List Item) → sheet_of source ≡ Ok items → length source ≤ max_bytes
read_is_short source items is = (read_limits source items is).0

pub few_read : (source : List ℕ) (items : List Item) → sheet_of source ≡ Ok items → length items ≤ max_items
few_read source items is = (read_limits source items is).1

-- ---- Its opened blocks

few_in : (source : List ℕ) (media : List Media) → AllByRecursion (IsBlockOf source) media → AllByRecursion (λ m. length m.sheet.items ≤ max_items) media
few_in source [] all = tt
few_in source (m ∷ media) all = (few_read (text_at source m.body) m.sheet.items (all.0).reads, few_in source media all.1)

pub few_in_bodies : OpenedBlocksAreSheets → (source : List ℕ) (items : List Item) → AllByRecursion (λ m. length m.sheet.items ≤ max_items) (opened_of items source)
few_in_bodies law source items = few_in source (opened_of items source) (law source items)

-- as many as kept items at most
fewer_blocks : (source : List ℕ) (n : ℕ) (items : List Item) → length (opened_from source n items) ≤ count_by is_kept items
fewer_blocks source n [] = omega arith
fewer_blocks source n (item ∷ items) =
    let later = fewer_blocks source (suc n) items in
    let more : count_by is_kept (item ∷ items) ≡ cond (is_kept item) 1 0 + count_by is_kept items = sum_by-cons (λ x. cond (is_kept x) 1 0) item items in
    let first = which item (list_any (is_import_item source) items) in
    let size = long (cond (list_any (is_import_item source) items) None (opened_item source n item)) (opened_from source (suc n) items) in
    omega (arith, later, more, first, size)
  where
    some : Option Media → ℕ
    some None = 0
    some (Some m) = 1

    long : (o : Option Media) (media : List Media) → length (cons_option o media) ≡ some o + length media
    long None media = omega arith
    long (Some m) media = omega arith

    one : (o : Option Media) → some o ≤ 1
    one None = omega arith
    one (Some m) = omega arith

    which : (x : Item) (b : Bool) → some (cond b None (opened_item source n x)) ≤ cond (is_kept x) 1 0
    which (Rule r) true = omega arith
    which (Rule r) false = omega arith
    which (KeptRule k) true = omega arith
    which (KeptRule k) false = omega arith
    which (KeptBlock piece) true = omega arith
    which (KeptBlock piece) false = one (opened_item source n (KeptBlock piece))

pub no_more_blocks : (source : List ℕ) (items : List Item) → length (opened_of items source) ≤ count_by is_kept items
no_more_blocks source items = fewer_blocks source 0 items

no_more_kept : (items : List Item) → count_by is_kept items ≤ length items
no_more_kept [] = omega arith
no_more_kept (item ∷ items) =
    let later = no_more_kept items in
    let more : count_by is_kept (item ∷ items) ≡ cond (is_kept item) 1 0 + count_by is_kept items = sum_by-cons (λ x. cond (is_kept x) 1 0) item items in
    let first = which (is_kept item) in
    omega (arith, later, more, first)
  where
    which : (b : Bool) → cond b 1 0 ≤ 1
    which true = omega arith
    which false = omega arith

pub few_blocks : (source : List ℕ) (items : List Item) → sheet_of source ≡ Ok items → length (opened_of items source) ≤ max_items
few_blocks source items read =
    let blocks = no_more_blocks source items in
    let kept = no_more_kept items in
    let few = few_read source items read in
    omega (arith, blocks, kept, few)

pub few_kept : (items : List Item) → length items ≤ max_items → count_by is_kept items ≤ max_items
few_kept items few = let kept = no_more_kept items in omega (arith, kept, few)
