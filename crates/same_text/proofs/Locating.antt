-- Where something is found: in two sheets, or in the bodies of their opened blocks.
use Rattle.std.proofs.Common.{◌≡◌, ◌⊎◌, ℕ, zero, suc, ◌+◌, List, [], ◌∷◌, Option, Some, None, refl, sym, ap, ◌∙◌, subst, inl, inr, arith}
use Rattle.std.specs.Prelude.{slice_get}
use Rattle.css_model.specs.declared.sheet.Item.{Item}
use Rattle.css_model.specs.Text.Source.{text_at}
use Rattle.media_groups.specs.declared.media.Media.{Media}
use Rattle.media_groups.specs.Opened.{opened_of}
use Rattle.order_laws.specs.Places.{ListedStandsLast}
use Rattle.overlap.specs.PairsParts.{Answered}
use Rattle.same_text.specs.SameTexts.{AreBlocks, TellsPlaces}
use Rattle.sheet_same.specs.declared.compared.Compared.{Compared}
use Rattle.sheet_same.specs.declared.compared.Compared.TheVariants.{Same}
use Rattle.sheet_same.specs.declared.compared.Difference.{Difference}
use Rattle.sheet_same.specs.Compared.{IsFound, Told, BodiesTell, IsDifference, nothing}
use Rattle.same_text.proofs.Found.{found_places}

-- it is found there
abbrev pub IsFoundThere : List Answered → (source : List ℕ) → List Item → (other : List ℕ) → List Item → Option ℕ → Compared → Type 0
IsFoundThere held source s other t None c = IsFound held source (opened_of s source) s other (opened_of t other) t (Some c)
IsFoundThere held source s other t (Some number) c =
    (m m' : Media) × AreBlocks source s other t number m m' × IsFound held (text_at source m.body) [] m.sheet.items (text_at other m'.body) [] m'.sheet.items (Some c)

abbrev IsLocated : List Answered → (source : List ℕ) → List Item → (other : List ℕ) → List Item → Difference → Type 0
IsLocated held source s other t d = (d ≡ nothing) ⊎ IsFoundThere held source s other t d.body d.compared

module _ (held : List Answered) (source : List ℕ) (s : List Item) (other : List ℕ) (t : List Item) where
  -- these blocks are the last ones, from this number on
  abbrev AreLast : List Media → ℕ → List Media → Type 0
  AreLast whole n media = (i : ℕ) → slice_get whole (n + i) ≡ slice_get media i

  first_last : (whole : List Media) (n : ℕ) (m : Media) (media : List Media) → AreLast whole n (m ∷ media) → slice_get whole n ≡ Some m
  first_last whole n m media last = let e : n ≡ n + 0 = omega arith in ap (slice_get whole) e ∙ last 0

  other_last : (whole : List Media) (n : ℕ) (m : Media) (media : List Media) → AreLast whole n (m ∷ media) → AreLast whole (suc n) media
  other_last whole n m media last i = let e : suc n + i ≡ n + suc i = omega arith in ap (slice_get whole) e ∙ last (suc i)

  bodies_located : (n : ℕ) (media media' : List Media) (d : Difference) → AreLast (opened_of s source) n media → AreLast (opened_of t other) n media' → BodiesTell held n source media other media' d → IsLocated held source s other t d
  bodies_located n [] media' d last last' h = inl h
  bodies_located n (m ∷ media) [] d last last' h = inl h
  bodies_located n (m ∷ media) (m' ∷ media') d last last' (found, is, told) =
      which found is told (λ g. bodies_located (suc n) media media' d (other_last (opened_of s source) n m media last) (other_last (opened_of t other) n m' media' last') g)
    where
      Rest : Difference → Type 0
      Rest = BodiesTell held (suc n) source media other media'

      which : (o : Option Compared) → IsFound held (text_at source m.body) [] m.sheet.items (text_at other m'.body) [] m'.sheet.items o → Told (Some n) o Rest d → (Rest d → IsLocated held source s other t d) → IsLocated held source s other t d
      which (Some c) g same rest =
          subst (λ (z : Difference). IsLocated held source s other t z) (sym same)
          (inr (m, m', record { first = first_last (opened_of s source) n m media last; second = first_last (opened_of t other) n m' media' last' }, g))
      which None g more rest = rest more

  pub located : (d : Difference) → IsDifference held source s other t d → IsLocated held source s other t d
  located d (found, is, told) = which found is told
    where
      all : (whole : List Media) → AreLast whole 0 whole
      all whole i = let e : 0 + i ≡ i = omega arith in ap (slice_get whole) e

      which : (o : Option Compared) → IsFound held source (opened_of s source) s other (opened_of t other) t o → Told None o (BodiesTell held 0 source (opened_of s source) other (opened_of t other)) d → IsLocated held source s other t d
      which (Some c) g same = subst (λ (z : Difference). IsLocated held source s other t z) (sym same) (inr g)
      which None g more = bodies_located 0 (opened_of s source) (opened_of t other) d (all (opened_of s source)) (all (opened_of t other)) more

  pub told_places : ListedStandsLast → (d : Difference) → IsDifference held source s other t d → TellsPlaces source s other t d.compared d.body
  told_places listed d is = which (located d is)
    where
      there : (body : Option ℕ) (c : Compared) → IsFoundThere held source s other t body c → TellsPlaces source s other t c body
      there None c h = found_places listed held source (opened_of s source) s other (opened_of t other) t c h
      there (Some number) c (m, m', blocks, h) = (m, m', blocks, found_places listed held (text_at source m.body) [] m.sheet.items (text_at other m'.body) [] m'.sheet.items c h)

      which : IsLocated held source s other t d → TellsPlaces source s other t d.compared d.body
      which (inl e) = subst (λ (z : Difference). TellsPlaces source s other t z.compared z.body) (sym e) tt
      which (inr h) = there d.body d.compared h
