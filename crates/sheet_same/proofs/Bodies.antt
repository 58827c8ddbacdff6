-- What bodies tell, one after the other.
use Rattle.std.proofs.Common.{◌≡◌, ℕ, suc, ◌+◌, ◌≤◌, ◌<◌, List, [], ◌∷◌, length, Option, Some, None, refl, sym, ap, subst, arith}
use Rattle.std.specs.Prelude.{Ok, ◌^◌, if◌then◌else◌}
use Rattle.std.specs.List.{cons_option, list_any}
use Rattle.css_model.specs.declared.sheet.Item.{Item}
use Rattle.css_model.specs.Sheets.Sheet.{sheet_of}
use Rattle.css_model.specs.Text.Source.{text_at}
use Rattle.media_groups.specs.declared.media.Media.{Media}
use Rattle.media_groups.specs.Opened.{is_import_item, opened_item, opened_from, opened_of}
use Rattle.merge_laws.specs.Reading.{ReadIsPlannable}
use Rattle.overlap.specs.PairsParts.{Answered, PairsParts}
use Rattle.sheet_order.specs.Allowing.{Stays}
use Rattle.sheet_same.specs.declared.compared.Compared.{Compared}
use Rattle.sheet_same.specs.declared.compared.Difference.{Difference}
use Rattle.sheet_same.specs.Compared.{found_in_parts, FoundBehind, IsFound, BodiesTell, IsDifference, nothing}
use Rattle.sheet_same.specs.Turned.{turned}
use Rattle.sheet_same.proofs.Askable.{few_items}
use Rattle.sheet_same.proofs.Judged.{apart_stays}

-- where nothing is found, nothing is found by more answers
pub nothing_stays : (p q : PairsParts) → Stays p q → (source : List ℕ) (media : List Media) (s : List Item) (other : List ℕ) (media' : List Media) (t : List Item) → IsFound p.answers source media s other media' t None →
    IsFound q.answers source media s other media' t None
nothing_stays p q stays source media s other media' t h = which (found_in_parts source media s other media' t) h
  where
    which : (o : Option Compared) → FoundBehind p.answers s t o None → FoundBehind q.answers s t o None
    which (Some found) g = g
    which None g = apart_stays p q stays s (turned s t) g

abbrev BodyFound : PairsParts → List ℕ → Media → List ℕ → Media → Option Compared → Type 0
BodyFound p source m other m' found = IsFound p.answers (text_at source m.body) [] m.sheet.items (text_at other m'.body) [] m'.sheet.items found

-- nothing is found in the first ones, so the others tell
pub next_tells : (p q : PairsParts) → Stays p q → (n : ℕ) (source : List ℕ) (m : Media) (media : List Media) (other : List ℕ) (m' : Media) (media' : List Media) (d : Difference) → BodyFound p source m other m' None →
    BodiesTell q.answers (suc n) source media other media' d → BodiesTell q.answers n source (m ∷ media) other (m' ∷ media') d
next_tells p q stays n source m media other m' media' d found h = (None, nothing_stays p q stays (text_at source m.body) [] m.sheet.items (text_at other m'.body) [] m'.sheet.items found, h)

-- what is found in the first ones tells
pub this_tells : (q : PairsParts) (n : ℕ) (source : List ℕ) (m : Media) (media : List Media) (other : List ℕ) (m' : Media) (media' : List Media) (c : Compared) → BodyFound q source m other m' (Some c) →
    BodiesTell q.answers n source (m ∷ media) other (m' ∷ media') (record { compared = c; body = Some n })
this_tells q n source m media other m' media' c found = (Some c, found, refl)

module _ (n : ℕ) (source : List ℕ) (blocks : List Media) (m : Media) (media : List Media) (other : List ℕ) (others : List Media) (m' : Media) (media' : List Media) (first : blocks ≡ m ∷ media) (second : others ≡ m' ∷ media') where
  both : (held : List Answered) (d : Difference) → BodiesTell held n source (m ∷ media) other (m' ∷ media') d → BodiesTell held n source blocks other others d
  both held d h =
      subst (λ (xs : List Media). BodiesTell held n source xs other others d) (sym first) (subst (λ (xs : List Media). BodiesTell held n source (m ∷ media) other xs d) (sym second) h)

  pub next_rest : (p q : PairsParts) → Stays p q → (d : Difference) → BodyFound p source m other m' None → BodiesTell q.answers (n + 1) source media other media' d → BodiesTell q.answers n source blocks other others d
  next_rest p q stays d found h =
      let next : n + 1 ≡ suc n = omega arith in
      both q.answers d (next_tells p q stays n source m media other m' media' d found (subst (λ (k : ℕ). BodiesTell q.answers k source media other media' d) next h))

  pub this_rest : (q : PairsParts) (c : Compared) → BodyFound q source m other m' (Some c) → BodiesTell q.answers n source blocks other others (record { compared = c; body = Some n })
  this_rest q c found = both q.answers (record { compared = c; body = Some n }) (this_tells q n source m media other m' media' c found)

pub none_first : (held : List Answered) (n : ℕ) (source : List ℕ) (blocks : List Media) (other : List ℕ) (others : List Media) → blocks ≡ [] → BodiesTell held n source blocks other others nothing
none_first held n source blocks other others e = subst (λ (xs : List Media). BodiesTell held n source xs other others nothing) (sym e) refl

pub none_second : (held : List Answered) (n : ℕ) (source : List ℕ) (blocks : List Media) (other : List ℕ) (others : List Media) → others ≡ [] → BodiesTell held n source blocks other others nothing
none_second held n source blocks other others e = subst (λ (xs : List Media). BodiesTell held n source blocks other xs nothing) (sym e) (which blocks)
  where
    which : (xs : List Media) → BodiesTell held n source xs other [] nothing
    which [] = refl
    which (m ∷ xs) = refl

-- what bodies tell where nothing is found in the sheets
pub difference_of : (p q : PairsParts) → Stays p q → (source : List ℕ) (s : List Item) (other : List ℕ) (t : List Item) (ms ms' ns ns' : List Media) → ms ≡ opened_of s source → ms' ≡ opened_of t other → ns ≡ opened_of s source → ns' ≡ opened_of t other →
    IsFound p.answers source ms s other ms' t None → (d : Difference) → BodiesTell q.answers 0 source ns other ns' d → IsDifference q.answers source s other t d
difference_of p q stays source s other t ms ms' ns ns' e e' f f' found d h = (
  None,
  nothing_stays p q stays source (opened_of s source) s other (opened_of t other) t
      (subst (λ (xs : List Media). IsFound p.answers source xs s other (opened_of t other) t None) e (subst (λ (xs : List Media). IsFound p.answers source ms s other xs t None) e' found)),
  subst (λ (xs : List Media). BodiesTell q.answers 0 source xs other (opened_of t other) d) f (subst (λ (xs : List Media). BodiesTell q.answers 0 source ns other xs d) f' h),
)

-- ---- How many blocks there are

no_more : (source : List ℕ) (n : ℕ) (items : List Item) → length (opened_from source n items) ≤ length items
no_more source n [] = omega arith
no_more source n (item ∷ items) = which (if list_any (is_import_item source) items then None else opened_item source n item) (no_more source (suc n) items)
  where
    which : (o : Option Media) → length (opened_from source (suc n) items) ≤ length items → length (cons_option o (opened_from source (suc n) items)) ≤ suc (length items)
    which None h = omega (arith, h)
    which (Some m) h = omega (arith, h)

pub few_blocks : ReadIsPlannable → (source : List ℕ) (items : List Item) (media : List Media) → sheet_of source ≡ Ok items → media ≡ opened_of items source → length media < 2 ^ 32
few_blocks plannable source items media read is =
    let few : length items < 2 ^ 32 = few_items plannable source items read in
    let no : length (opened_of items source) ≤ length items = no_more source 0 items in
    let same : length media ≡ length (opened_of items source) = ap length is in
    omega (arith, few, no, same)
