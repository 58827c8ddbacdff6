-- The opened blocks of a number, and what is told of their bodies.
use Rattle.std.proofs.Common.{◌≡◌, ◌<◌, ℕ, zero, suc, List, [], ◌∷◌, length, get_or, Option, Some, None, refl, sym, ap, ◌∙◌, subst, arith}
use Rattle.std.specs.Prelude.{slice_get}
use Rattle.std.specs.List.{AllByRecursion}
use Rattle.std.proofs.lemmas.Option.{slice_get_read, slice_get_within}
use Rattle.cascade_laws.proofs.ForCallers.{some-same}
use Rattle.css_model.specs.declared.sheet.Item.{Item}
use Rattle.css_model.specs.Text.Source.{text_at}
use Rattle.media_groups.specs.declared.media.Media.{Media}
use Rattle.media_groups.specs.Laws.{IsBlockOf}
use Rattle.media_groups.specs.Opened.{opened_of}
use Rattle.same_text.specs.SameTexts.{AreBlocks, IsBodyAt, IsTold, TellsPlaces}
use Rattle.same_text.specs.Telling.{HasPlaces, IsComparedText}
use Rattle.sheet_same.specs.declared.compared.Compared.{Compared}

-- ---- The block of a number

-- the element of this number that code reads
pub block_at : (media : List Media) (i : ℕ) (m : Media) → i < length media → m ≡ get_or media i m → slice_get media i ≡ Some m
block_at media i m below read = slice_get_read media (length media) i m refl below read

all_at : (P : Media → Type 0) (media : List Media) (i : ℕ) (m : Media) → AllByRecursion P media → slice_get media i ≡ Some m → P m
all_at P [] i m all at = absurd (let bad : None ≡ Some m = at in cc)
all_at P (x ∷ media) zero m all at = subst P (some-same at) all.0
all_at P (x ∷ media) (suc i) m all at = all_at P media i m all.1 at

-- is a block of the source, as all of them are
pub is_block : (source : List ℕ) (media : List Media) (i : ℕ) (m : Media) → AllByRecursion (IsBlockOf source) media → i < length media → m ≡ get_or media i m → IsBlockOf source m
is_block source media i m all below read = all_at (IsBlockOf source) media i m all (block_at media i m below read)

-- ---- In two bodies

-- what is told of the blocks of this number of two sheets
module _ (source : List ℕ) (s : List Item) (other : List ℕ) (t : List Item) (compared : Compared) (body : Option ℕ) (number : ℕ) (is : body ≡ Some number) (places : TellsPlaces source s other t compared body) where
  told : TellsPlaces source s other t compared (Some number)
  told = subst (λ (o : Option ℕ). TellsPlaces source s other t compared o) is places

  module _ (media twins : List Media) (same : media ≡ opened_of s source) (same' : twins ≡ opened_of t other) where
    first_at : slice_get media number ≡ Some told.0
    first_at = ap (λ (xs : List Media). slice_get xs number) same ∙ told.2.first

    second_at : slice_get twins number ≡ Some told.1
    second_at = ap (λ (xs : List Media). slice_get xs number) same' ∙ told.2.second

    pub first_below : number < length media
    first_below = slice_get_within media number told.0 first_at

    pub second_below : number < length twins
    second_below = slice_get_within twins number told.1 second_at

    module _ (text text' : List ℕ) (items items' : List Item) (at : IsBodyAt source media number text items) (at' : IsBodyAt other twins number text' items') where
      -- its pairs are pairs of the bodies
      pub places_there : HasPlaces items items' compared
      places_there =
          let one : told.0 ≡ at.block = some-same (sym first_at ∙ at.at) in
          let two : told.1 ≡ at'.block = some-same (sym second_at ∙ at'.at) in
          subst (λ (xs : List Item). HasPlaces xs items' compared) (ap (λ (m : Media). m.sheet.items) one ∙ sym at.items_is)
          (subst (λ (xs : List Item). HasPlaces told.0.sheet.items xs compared) (ap (λ (m : Media). m.sheet.items) two ∙ sym at'.items_is) told.3)

      -- and the lines of the bodies are those of the sheets
      pub told_there : (lines : List ℕ) → IsComparedText text items text' items' compared lines → IsTold source s other t compared body lines
      told_there lines h =
          let blocks : AreBlocks source s other t number at.block at'.block = record {
            first = sym (ap (λ (xs : List Media). slice_get xs number) same) ∙ at.at;
            second = sym (ap (λ (xs : List Media). slice_get xs number) same') ∙ at'.at;
          } in
          let lines_of : IsComparedText (text_at source at.block.body) at.block.sheet.items (text_at other at'.block.body) at'.block.sheet.items compared lines =
          subst (λ (x : List ℕ). IsComparedText x at.block.sheet.items (text_at other at'.block.body) at'.block.sheet.items compared lines) at.text_is
          (subst (λ (xs : List Item). IsComparedText text xs (text_at other at'.block.body) at'.block.sheet.items compared lines) at.items_is
          (subst (λ (x : List ℕ). IsComparedText text items x at'.block.sheet.items compared lines) at'.text_is
          (subst (λ (xs : List Item). IsComparedText text items text' xs compared lines) at'.items_is h))) in
          subst (λ (o : Option ℕ). IsTold source s other t compared o lines) (sym is) (at.block, at'.block, blocks, lines_of)

-- ---- In the sheets themselves

pub places_around : (source : List ℕ) (s : List Item) (other : List ℕ) (t : List Item) (compared : Compared) (body : Option ℕ) → body ≡ None → TellsPlaces source s other t compared body → HasPlaces s t compared
places_around source s other t compared body is places = subst (λ (o : Option ℕ). TellsPlaces source s other t compared o) is places

pub told_around : (source : List ℕ) (s : List Item) (other : List ℕ) (t : List Item) (compared : Compared) (body : Option ℕ) → body ≡ None → (lines : List ℕ) → IsComparedText source s other t compared lines → IsTold source s other t compared body lines
told_around source s other t compared body is lines h = subst (λ (o : Option ℕ). IsTold source s other t compared o lines) (sym is) h
