-- The kept items of a sheet that is read, each with the opened block that it is, if it is one.
use Rattle.std.proofs.Common.{◌≡◌, ◌⊎◌, inl, inr, ◌==◌, ℕ, suc, Bool, true, false, cond, List, [], ◌∷◌, drop, Option, Some, None, Ok, refl, sym, ap, ap₂, subst, ◌∙◌}
use Rattle.std.specs.List.{AllByRecursion, cons_option, list_any}
use Rattle.std.proofs.lemmas.Bool.{cond-false, cond-true}
use Rattle.css_model.specs.declared.sheet.Item.{Item}
use Rattle.css_model.specs.declared.sheet.Item.TheVariants.{Rule, KeptRule, KeptBlock}
use Rattle.css_model.specs.declared.sheet.Piece.{Piece}
use Rattle.css_model.specs.Sheets.Sheet.{sheet_of}
use Rattle.css_model.specs.Sheets.Sound.{IsSoundItem}
use Rattle.css_model.specs.Sheets.Spelling.{tokens_in}
use Rattle.media_groups.specs.declared.media.Media.{Media}
use Rattle.media_groups.specs.Opened.{is_import_item, opened_from, opened_item, opened_of, opened_rule}
use Rattle.media_groups.specs.Printed.{blocks_at}
use Rattle.opened_laws.specs.Media.Scenes.{block_at, kept_blocks}
use Rattle.opened_laws.proofs.ForCallers.{BlocksAscend, IsOpenedStep, IsPlainStep, NoneBegins, begins_here, opened_count, plain_count, sheet_ascends, step_at}
use Rattle.print_laws.proofs.ForCallers.{Ground, ground-of}
use Rattle.sheet_laws.proofs.ForCallers.{sheet-sound}
use Rattle.inspect_laws.proofs.Walking.{own, owns}

module _ (source : List ℕ) where
  -- an item that is not opened leaves the blocks of those after it
  plain_own : (n : ℕ) (item : Item) (items : List Item) → (list_any (is_import_item source) items ≡ true) ⊎ (opened_item source n item ≡ None) → own source n item items ≡ None
  plain_own n item items (inl import) = cond-true (list_any (is_import_item source) items) None (opened_item source n item) import
  plain_own n item items (inr none) = which (list_any (is_import_item source) items)
    where
      which : (b : Bool) → cond b None (opened_item source n item) ≡ None
      which true = refl
      which false = none

  plain_block : (media : List Media) (piece : Piece) → NoneBegins media (KeptBlock piece) → block_at media piece ≡ None
  plain_block [] piece none = refl
  plain_block (m ∷ media) piece none = cond-false (piece.start == m.head.start) (Some m) None none

  -- a kept block, by the blocks from it on
  abbrev from_block : ℕ → Piece → List Item → List Media → List (Option Media)
  from_block n piece items media = block_at media piece ∷ kept_blocks (drop (blocks_at media (KeptBlock piece)) media) items

  plain_from : (n : ℕ) (piece : Piece) (items : List Item) → IsPlainStep source n (KeptBlock piece) items → kept_blocks (opened_from source (suc n) items) items ≡ owns source (suc n) items →
      from_block n piece items (opened_from source n (KeptBlock piece ∷ items)) ≡ owns source n (KeptBlock piece ∷ items)
  plain_from n piece items s rest =
      ap (from_block n piece items) s.media
      ∙ ap₂ (λ (o : Option Media) (k : ℕ). o ∷ kept_blocks (drop k (opened_from source (suc n) items)) items)
      (plain_block (opened_from source (suc n) items) piece s.none ∙ sym (plain_own n (KeptBlock piece) items s.unopened)) (plain_count (opened_from source (suc n) items) (KeptBlock piece) s.none)
      ∙ ap (λ (os : List (Option Media)). own source n (KeptBlock piece) items ∷ os) rest

  opened_from_here : (n : ℕ) (piece : Piece) (items : List Item) (m : Media) → opened_from source n (KeptBlock piece ∷ items) ≡ m ∷ opened_from source (suc n) items →
      list_any (is_import_item source) items ≡ false → opened_rule source n (tokens_in source piece) ≡ Some m → m.head.start ≡ piece.start → kept_blocks (opened_from source (suc n) items) items ≡ owns source (suc n) items →
      from_block n piece items (opened_from source n (KeptBlock piece ∷ items)) ≡ owns source n (KeptBlock piece ∷ items)
  opened_from_here n piece items m media no_import opened start rest =
      ap (from_block n piece items) media
      ∙ ap₂ (λ (o : Option Media) (k : ℕ). o ∷ kept_blocks (drop k (m ∷ opened_from source (suc n) items)) items)
      (cond-true (piece.start == m.head.start) (Some m) None (begins_here m piece start)
      ∙ sym (cond-false (list_any (is_import_item source) items) None (opened_rule source n (tokens_in source piece)) no_import ∙ opened))
      (opened_count m (opened_from source (suc n) items) piece start)
      ∙ ap (λ (os : List (Option Media)). own source n (KeptBlock piece) items ∷ os) rest

  -- an item that is no block
  past_item : (n : ℕ) (item : Item) (items : List Item) → opened_item source n item ≡ None → opened_from source n (item ∷ items) ≡ opened_from source (suc n) items
  past_item n item items none = ap (λ (o : Option Media). cons_option o (opened_from source (suc n) items)) (plain_own n item items (inr none))

  walk : Ground source → (n at : ℕ) (items : List Item) → AllByRecursion (IsSoundItem source) items → BlocksAscend at items → kept_blocks (opened_from source n items) items ≡ owns source n items
  walk g n at [] sound up = refl
  walk g n at (Rule r ∷ items) sound up = ap (λ (media : List Media). kept_blocks media items) (past_item n (Rule r) items refl) ∙ walk g (suc n) at items sound.1 up
  walk g n at (KeptRule k ∷ items) sound up =
      ap (λ (os : List (Option Media)). None ∷ os) (ap (λ (media : List Media). kept_blocks media items) (past_item n (KeptRule k) items refl) ∙ walk g (suc n) at items sound.1 up)
  walk g n at (KeptBlock piece ∷ items) sound up = which (step_at source g n at (KeptBlock piece) items sound up) (walk g (suc n) (suc piece.start) items sound.1 up.1)
    where
      which : IsPlainStep source n (KeptBlock piece) items ⊎ IsOpenedStep source n (KeptBlock piece) items → kept_blocks (opened_from source (suc n) items) items ≡ owns source (suc n) items →
          from_block n piece items (opened_from source n (KeptBlock piece ∷ items)) ≡ owns source n (KeptBlock piece ∷ items)
      which (inl s) rest = plain_from n piece items s rest
      which (inr s) rest =
          let is : KeptBlock piece ≡ KeptBlock s.piece = s.is_block in
          let same : piece ≡ s.piece = cc in
          opened_from_here n piece items s.block s.media s.no_import
          (ap (λ (p : Piece). opened_rule source n (tokens_in source p)) same ∙ s.opened) (s.start ∙ ap (λ (p : Piece). p.start) (sym same)) rest

pub blocks_are : (source : List ℕ) (items : List Item) → sheet_of source ≡ Ok items → kept_blocks (opened_of items source) items ≡ owns source 0 items
blocks_are source items read =
    let g = ground-of source items read in
    walk source g 0 0 items (sheet-sound source items read) (sheet_ascends source items g read)
