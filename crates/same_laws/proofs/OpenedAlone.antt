-- In two sheets that are read, of which no place differs, none of two items in one place is opened alone.
use Rattle.std.proofs.Common.{◌≡◌, ◌⊎◌, inl, inr, ℕ, suc, Bool, true, false, List, [], ◌∷◌, drop, map, Option, Some, None, Ok, refl, sym, ◌∙◌, ap, ap₂, subst}
use Rattle.std.proofs.lemmas.Bool.{cond-false, cond-true, false≢true, true≢false}
use Rattle.std.specs.Prelude.{◌||◌, if◌then◌else◌, is_some}
use Rattle.std.specs.List.{AllByRecursion, cons_option, list_any}
use Rattle.css_model.specs.declared.sheet.Item.{Item}
use Rattle.css_model.specs.declared.sheet.Item.TheVariants.{Rule, KeptRule, KeptBlock}
use Rattle.css_model.specs.declared.sheet.Piece.{Piece}
use Rattle.css_model.specs.Sheets.KeptItems.{kept_items}
use Rattle.css_model.specs.Sheets.RuleParts.{RuleParts}
use Rattle.css_model.specs.Sheets.Sheet.{sheet_of}
use Rattle.css_model.specs.Sheets.Sound.{IsSoundItem}
use Rattle.css_model.specs.Sheets.Spelling.{tokens_in}
use Rattle.media_groups.specs.declared.media.Media.{Media}
use Rattle.media_groups.specs.Opened.{is_import_item, opened_from, opened_item, opened_of, opened_rule}
use Rattle.opened_laws.specs.Texts.{SameTextsAreOpenedAlike}
use Rattle.opened_laws.proofs.ForCallers.{BlocksAscend, IsOpenedStep, IsPlainStep, NoneBegins, begins_here, media_no_import, opened_count, plain_count, rule_opened, sheet_ascends, step_at}
use Rattle.print_laws.proofs.ForCallers.{Ground, ground-of}
use Rattle.sheet_laws.proofs.ForCallers.{sheet-sound}
use Rattle.sheet_same.specs.Kept.{block_of, blocks_behind, same_item, same_kept}
use Rattle.same_laws.specs.Opened.{NoneIsOpenedAlone}
use Rattle.same_laws.proofs.Alike.{opened_alike}
use Rattle.same_laws.proofs.KeptAlike.{ArePlacesAlike, SayTheSame, say_the_same, text_is}
use Rattle.same_laws.proofs.Scenes.{blocks_in}

-- ---- One sheet, item by item

-- the opened block that an item before others is, if it is one
abbrev own : List ℕ → ℕ → Item → List Item → Option Media
own source n item items = if list_any (is_import_item source) items then None else opened_item source n item

-- the first of the opened blocks, where an item is it, and those behind the item
record IsWalkStep (source : List ℕ) (n : ℕ) (item : Item) (items : List Item) : Type 0 where
  block : block_of (opened_from source n (item ∷ items)) item ≡ own source n item items
  behind : blocks_behind (opened_from source n (item ∷ items)) item ≡ opened_from source (suc n) items

no_block : (media : List Media) (item : Item) → NoneBegins media item → block_of media item ≡ None
no_block [] item none = refl
no_block (m ∷ media) item none = cond-false _ (Some m) None none

unopened : (source : List ℕ) (n : ℕ) (item : Item) (items : List Item) → (list_any (is_import_item source) items ≡ true) ⊎ (opened_item source n item ≡ None) → own source n item items ≡ None
unopened source n item items (inl import) = cond-true _ None (opened_item source n item) import
unopened source n item items (inr none) = which (list_any (is_import_item source) items)
  where
    which : (b : Bool) → ◌≡◌ {A = Option Media} (if b then None else opened_item source n item) None
    which true = refl
    which false = none

plain_step : (source : List ℕ) (n : ℕ) (item : Item) (items : List Item) → IsPlainStep source n item items → IsWalkStep source n item items
plain_step source n item items s = record {
  block = ap (λ media. block_of media item) s.media ∙ no_block (opened_from source (suc n) items) item s.none ∙ sym (unopened source n item items s.unopened);
  behind = ap (λ media. blocks_behind media item) s.media ∙ ap (λ (k : ℕ). drop k (opened_from source (suc n) items)) (plain_count (opened_from source (suc n) items) item s.none);
}

opened_step : (source : List ℕ) (n : ℕ) (piece : Piece) (items : List Item) (m : Media) → opened_from source n (KeptBlock piece ∷ items) ≡ m ∷ opened_from source (suc n) items →
    list_any (is_import_item source) items ≡ false → opened_rule source n (tokens_in source piece) ≡ Some m → m.head.start ≡ piece.start → IsWalkStep source n (KeptBlock piece) items
opened_step source n piece items m media none opened start = record {
  block = ap (λ ms. block_of ms (KeptBlock piece)) media ∙ cond-true _ (Some m) None (begins_here m piece start)
      ∙ sym (cond-false _ None (opened_rule source n (tokens_in source piece)) none ∙ opened);
  behind = ap (λ ms. blocks_behind ms (KeptBlock piece)) media ∙ ap (λ (k : ℕ). drop k (m ∷ opened_from source (suc n) items)) (opened_count m (opened_from source (suc n) items) piece start);
}

step : (source : List ℕ) → Ground source → (n at : ℕ) (item : Item) (items : List Item) → AllByRecursion (IsSoundItem source) (item ∷ items) → BlocksAscend at (item ∷ items) → IsWalkStep source n item items
step source g n at item items sound ascend = which (step_at source g n at item items sound ascend)
  where
    which : IsPlainStep source n item items ⊎ IsOpenedStep source n item items → IsWalkStep source n item items
    which (inl s) = plain_step source n item items s
    which (inr s) =
        let media : opened_from source n (KeptBlock s.piece ∷ items) ≡ s.block ∷ opened_from source (suc n) items =
        subst (λ (x : Item). opened_from source n (x ∷ items) ≡ s.block ∷ opened_from source (suc n) items) s.is_block s.media in
        subst (λ (x : Item). IsWalkStep source n x items) (sym s.is_block) (opened_step source n s.piece items s.block media s.no_import s.opened s.start)

-- a rule is no opened block
no_rule : (source : List ℕ) (n : ℕ) (r : RuleParts) (items : List Item) → opened_from source n (Rule r ∷ items) ≡ opened_from source (suc n) items
no_rule source n r items = which (list_any (is_import_item source) items)
  where
    which : (b : Bool) → cons_option (if b then None else None) (opened_from source (suc n) items) ≡ opened_from source (suc n) items
    which true = refl
    which false = refl

-- an opened block is no `@import`
no_import : (source : List ℕ) (n : ℕ) (item : Item) (items : List Item) (m : Media) → own source n item items ≡ Some m → is_import_item source item ≡ false
no_import source n (Rule r) items m e = refl
no_import source n (KeptRule k) items m e = refl
no_import source n (KeptBlock piece) items m e = which (list_any (is_import_item source) items) e
  where
    which : (b : Bool) → ◌≡◌ {A = Option Media} (if b then None else opened_rule source n (tokens_in source piece)) (Some m) → is_import_item source (KeptBlock piece) ≡ false
    which true e = absurd (cc)
    which false e = media_no_import source (tokens_in source piece) (rule_opened source n (tokens_in source piece) m e).media

-- ---- Two sheets, place by place

-- Where two lists of kept items say the same, place by place, the same of them are opened; and both have an `@import` or none has.
record IsWalked (source : List ℕ) (media : List Media) (xs : List Item) (b : Bool) (other : List ℕ) (media' : List Media) (ys : List Item) (b' : Bool) : Type 0 where
  places : SayTheSame source media xs other media' ys → ArePlacesAlike source media xs other media' ys
  imports : SayTheSame source media xs other media' ys → b ≡ b'

module _ (alike : SameTextsAreOpenedAlike) (source : List ℕ) (all : List Item) (reads : sheet_of source ≡ Ok all) (other : List ℕ) (others : List Item) (reads' : sheet_of other ≡ Ok others) where
  abbrev Walks : List Media → List Item → Bool → List Media → List Item → Bool → Type 0
  Walks media xs b media' ys b' = IsWalked source media xs b other media' ys b'

  abbrev Walked : ℕ → List Item → ℕ → List Item → Type 0
  Walked n s n' t = Walks (opened_from source n s) (kept_items s) (list_any (is_import_item source) s) (opened_from other n' t) (kept_items t) (list_any (is_import_item other) t)

  kept_imports : (x y : Item) → IsSoundItem source x → IsSoundItem other y → same_kept source x other y ≡ true → is_import_item source x ≡ is_import_item other y
  kept_imports (Rule r) y sound sound' h = absurd (false≢true h)
  kept_imports (KeptRule k) (Rule r') sound sound' h = absurd (false≢true h)
  kept_imports (KeptRule k) (KeptRule k') sound sound' h = refl
  kept_imports (KeptRule k) (KeptBlock piece') sound sound' h = absurd (false≢true h)
  kept_imports (KeptBlock piece) (Rule r') sound sound' h = absurd (false≢true h)
  kept_imports (KeptBlock piece) (KeptRule k') sound sound' h = absurd (false≢true h)
  kept_imports (KeptBlock piece) (KeptBlock piece') sound sound' h = (alike source all other others reads reads' piece piece' sound sound' (text_is source piece other piece' h)).imports

  kept_opened : (n n' : ℕ) (x y : Item) → IsSoundItem source x → IsSoundItem other y → same_kept source x other y ≡ true → is_some (opened_item source n x) ≡ is_some (opened_item other n' y)
  kept_opened n n' (Rule r) y sound sound' h = absurd (false≢true h)
  kept_opened n n' (KeptRule k) (Rule r') sound sound' h = absurd (false≢true h)
  kept_opened n n' (KeptRule k) (KeptRule k') sound sound' h = refl
  kept_opened n n' (KeptRule k) (KeptBlock piece') sound sound' h = absurd (false≢true h)
  kept_opened n n' (KeptBlock piece) (Rule r') sound sound' h = absurd (false≢true h)
  kept_opened n n' (KeptBlock piece) (KeptRule k') sound sound' h = absurd (false≢true h)
  kept_opened n n' (KeptBlock piece) (KeptBlock piece') sound sound' h = (alike source all other others reads reads' piece piece' sound sound' (text_is source piece other piece' h)).opened n n'

  -- where both have an `@import` behind them or none has
  own_alike : (n n' : ℕ) (x y : Item) (b b' : Bool) → IsSoundItem source x → IsSoundItem other y → same_kept source x other y ≡ true → b ≡ b' →
      is_some {T = Media} (if b then None else opened_item source n x) ≡ is_some {T = Media} (if b' then None else opened_item other n' y)
  own_alike n n' x y true true sound sound' h e = refl
  own_alike n n' x y true false sound sound' h e = absurd (true≢false e)
  own_alike n n' x y false true sound sound' h e = absurd (false≢true e)
  own_alike n n' x y false false sound sound' h e = kept_opened n n' x y sound sound' h

  -- two items in one place
  module _ (n n' : ℕ) (x y : Item) (s t : List Item) (sound : IsSoundItem source x) (sound' : IsSoundItem other y) where
    both_opened : (o o' : Option Media) → o ≡ own source n x s → o' ≡ own other n' y t → same_item source o x other o' y ≡ true →
        list_any (is_import_item source) s ≡ list_any (is_import_item other) t → is_some o ≡ is_some o'
    both_opened (Some m) (Some m') e e' h imports = refl
    both_opened (Some m) None e e' h imports = ap (λ (o : Option Media). is_some o) e ∙ own_alike n n' x y (list_any (is_import_item source) s) (list_any (is_import_item other) t) sound sound' h imports ∙ sym (ap (λ (o : Option Media). is_some o) e')
    both_opened None o' e e' h imports = ap (λ (o : Option Media). is_some o) e ∙ own_alike n n' x y (list_any (is_import_item source) s) (list_any (is_import_item other) t) sound sound' h imports ∙ sym (ap (λ (o : Option Media). is_some o) e')

    both_import : (o o' : Option Media) → o ≡ own source n x s → o' ≡ own other n' y t → same_item source o x other o' y ≡ true → is_import_item source x ≡ is_import_item other y
    both_import (Some m) (Some m') e e' h = no_import source n x s m (sym e) ∙ sym (no_import other n' y t m' (sym e'))
    both_import (Some m) None e e' h = kept_imports x y sound sound' h
    both_import None o' e e' h = kept_imports x y sound sound' h

    both : IsWalkStep source n x s → IsWalkStep other n' y t → Walked (suc n) s (suc n') t →
        Walks (opened_from source n (x ∷ s)) (x ∷ kept_items s) (is_import_item source x || list_any (is_import_item source) s)
        (opened_from other n' (y ∷ t)) (y ∷ kept_items t) (is_import_item other y || list_any (is_import_item other) t)
    both here there walked = record {
      places = λ h. (h.0, both_opened o o' here.block there.block h.0 (later.imports h.1), later.places h.1);
      imports = λ h. ap₂ (λ (b c : Bool). b || c) (both_import o o' here.block there.block h.0) (later.imports h.1);
    }
      where
        o : Option Media
        o = block_of (opened_from source n (x ∷ s)) x

        o' : Option Media
        o' = block_of (opened_from other n' (y ∷ t)) y

        media : List Media
        media = blocks_behind (opened_from source n (x ∷ s)) x

        media' : List Media
        media' = blocks_behind (opened_from other n' (y ∷ t)) y

        later : Walks media (kept_items s) (list_any (is_import_item source) s) media' (kept_items t) (list_any (is_import_item other) t)
        later =
            subst (λ (ms : List Media). Walks ms (kept_items s) (list_any (is_import_item source) s) media' (kept_items t) (list_any (is_import_item other) t)) (sym here.behind)
            (subst (λ (ms : List Media). Walks (opened_from source (suc n) s) (kept_items s) (list_any (is_import_item source) s) ms (kept_items t) (list_any (is_import_item other) t)) (sym there.behind) walked)

  -- no item before some
  none_left : (t : List Item) (n' : ℕ) → Walks [] [] false (opened_from other n' t) (kept_items t) (list_any (is_import_item other) t)
  none_left [] n' = record { places = λ h. tt; imports = λ h. refl }
  none_left (Rule r ∷ t) n' =
      subst (λ (ms : List Media). Walks [] [] false ms (kept_items t) (list_any (is_import_item other) t)) (sym (no_rule other n' r t)) (none_left t (suc n'))
  none_left (KeptRule k ∷ t) n' = record { places = λ h. absurd h; imports = λ h. absurd h }
  none_left (KeptBlock piece ∷ t) n' = record { places = λ h. absurd h; imports = λ h. absurd h }

  -- a kept item before some
  kept_left : Ground other → (x : Item) (s : List Item) (n : ℕ) → IsSoundItem source x → IsWalkStep source n x s →
      ((t : List Item) (n' at' : ℕ) → AllByRecursion (IsSoundItem other) t → BlocksAscend at' t → Walked (suc n) s n' t) →
      (t : List Item) (n' at' : ℕ) → AllByRecursion (IsSoundItem other) t → BlocksAscend at' t →
      Walks (opened_from source n (x ∷ s)) (x ∷ kept_items s) (is_import_item source x || list_any (is_import_item source) s) (opened_from other n' t) (kept_items t) (list_any (is_import_item other) t)
  kept_left g' x s n sound here later [] n' at' sounds ascend = record { places = λ h. absurd h; imports = λ h. absurd h }
  kept_left g' x s n sound here later (Rule r ∷ t) n' at' sounds ascend =
      subst (λ (ms : List Media). Walks (opened_from source n (x ∷ s)) (x ∷ kept_items s) (is_import_item source x || list_any (is_import_item source) s) ms (kept_items t) (list_any (is_import_item other) t))
      (sym (no_rule other n' r t)) (kept_left g' x s n sound here later t (suc n') at' sounds.1 ascend)
  kept_left g' x s n sound here later (KeptRule k ∷ t) n' at' sounds ascend =
      both n n' x (KeptRule k) s t sound sounds.0 here (step other g' n' at' (KeptRule k) t sounds ascend) (later t (suc n') at' sounds.1 ascend)
  kept_left g' x s n sound here later (KeptBlock piece ∷ t) n' at' sounds ascend =
      both n n' x (KeptBlock piece) s t sound sounds.0 here (step other g' n' at' (KeptBlock piece) t sounds ascend) (later t (suc n') (suc piece.start) sounds.1 ascend.1)

  walk : Ground source → Ground other → (s : List Item) (n at : ℕ) → AllByRecursion (IsSoundItem source) s → BlocksAscend at s →
      (t : List Item) (n' at' : ℕ) → AllByRecursion (IsSoundItem other) t → BlocksAscend at' t → Walked n s n' t
  walk g g' [] n at sound ascend t n' at' sounds ascend' = none_left t n'
  walk g g' (Rule r ∷ s) n at sound ascend t n' at' sounds ascend' =
      subst (λ (ms : List Media). Walks ms (kept_items s) (list_any (is_import_item source) s) (opened_from other n' t) (kept_items t) (list_any (is_import_item other) t))
      (sym (no_rule source n r s)) (walk g g' s (suc n) at sound.1 ascend t n' at' sounds ascend')
  walk g g' (KeptRule k ∷ s) n at sound ascend t n' at' sounds ascend' =
      kept_left g' (KeptRule k) s n sound.0 (step source g n at (KeptRule k) s sound ascend) (walk g g' s (suc n) at sound.1 ascend) t n' at' sounds ascend'
  walk g g' (KeptBlock piece ∷ s) n at sound ascend t n' at' sounds ascend' =
      kept_left g' (KeptBlock piece) s n sound.0 (step source g n at (KeptBlock piece) s sound ascend) (walk g g' s (suc n) (suc piece.start) sound.1 ascend.1) t n' at' sounds ascend'

-- in one place both items are opened blocks or neither is
pub places_opened : SameTextsAreOpenedAlike → (source : List ℕ) (s : List Item) (other : List ℕ) (t : List Item) → sheet_of source ≡ Ok s → sheet_of other ≡ Ok t →
    SayTheSame source (opened_of s source) (kept_items s) other (opened_of t other) (kept_items t) → ArePlacesAlike source (opened_of s source) (kept_items s) other (opened_of t other) (kept_items t)
places_opened alike source s other t reads reads' same =
    let g = ground-of source s reads in
    let g' = ground-of other t reads' in
    let walked = walk alike source s reads other t reads' g g' s 0 0 (sheet-sound source s reads) (sheet_ascends source s g reads) t 0 0 (sheet-sound other t reads') (sheet_ascends other t g' reads') in
    walked.places same

pub none_alone : SameTextsAreOpenedAlike → NoneIsOpenedAlone
none_alone alike source s other t reads reads' none =
    let media = opened_of s source in
    let media' = opened_of t other in
    let places = places_opened alike source s other t reads reads' (say_the_same 0 source media (kept_items s) other media' (kept_items t) none) in
    sym (ap (λ (os : List (Option Media)). map is_some os) (blocks_in media s))
    ∙ opened_alike source other media (kept_items s) media' (kept_items t) places
    ∙ ap (λ (os : List (Option Media)). map is_some os) (blocks_in media' t)
