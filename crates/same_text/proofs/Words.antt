-- What it means what is told.
use Rattle.std.proofs.Common.{◌≡◌, ◌⊎◌, ℕ, ◌==◌, Bool, true, false, List, [], ◌∷◌, ◌++◌, Option, Some, None, refl, sym, ap, ap₂, ◌∙◌, subst, inl, inr}
use Rattle.std.specs.Prelude.{codes, if◌then◌else◌, slice_get}
use Rattle.std.proofs.lemmas.Bool.{eq-eqb, true≢false}
use Rattle.std.proofs.Math.Logic.{∥∥₁_map}
use Rattle.cascade_laws.proofs.ForCallers.{some-same}
use Rattle.cascade_laws.specs.Matching.{MatchingIsDecided}
use Rattle.cascade_laws.specs.Winning.{UnderstandingIsDecided}
use Rattle.css_model.specs.declared.example.Example.{Example}
use Rattle.css_model.specs.declared.sheet.Decl.{Decl}
use Rattle.css_model.specs.declared.sheet.DeclItem.{DeclItem}
use Rattle.css_model.specs.declared.sheet.Item.{Item}
use Rattle.css_model.specs.declared.sheet.SelItem.{SelItem}
use Rattle.css_model.specs.Cascade.Order.{Pair, Weigh}
use Rattle.css_model.specs.Documents.SelectorParts.{SelectorParts}
use Rattle.css_model.specs.Text.Source.{text_at}
use Rattle.doc_text.specs.DocText.{doc_text}
use Rattle.shape_laws.specs.Document.Laws.{ShowsMeeting}
use Rattle.media_groups.specs.declared.media.Media.{Media}
use Rattle.media_groups.specs.Opened.{opened_of}
use Rattle.order_laws.specs.Comparing.{WeighingIsDecided}
use Rattle.order_laws.specs.Places.{PlacedPair, StandsLast, last_pairs, ListedStandsLast}
use Rattle.overlap.specs.PairsParts.{PairsParts}
use Rattle.overlap.specs.Remembered.{IsTrueList}
use Rattle.same_laws.proofs.ForCallers.{never_found}
use Rattle.same_laws.specs.Same.{AreSame}
use Rattle.same_text.specs.Laws.{SameTextsWinAlike, AreItemsOf, ReversedPairsShowOrder}
use Rattle.same_text.specs.SameTexts.{AreBlocks, AreCompared, IsTold}
use Rattle.same_text.specs.Telling.{IsComparedText, number_line, unsure_line}
use Rattle.sheet_order.specs.declared.places.PairPlace.{PairPlace}
use Rattle.sheet_order.specs.Places.{place_of}
use Rattle.sheet_same.specs.declared.compared.Compared.{Compared}
use Rattle.sheet_same.specs.declared.compared.Compared.TheVariants.{Same, Missing, Extra, KeptItem, Reversed, Unsure}
use Rattle.sheet_same.specs.declared.compared.Difference.{Difference}
use Rattle.sheet_same.specs.Compared.{IsFound, IsDifference, nothing}
use Rattle.same_text.proofs.Found.{AreReversed, found_reversed}
use Rattle.same_text.proofs.Locating.{IsFoundThere, located}
use Rattle.why_text.proofs.ForCallers.{pair_of, meeting_shown, order_shown, selector_is, decl_is}
use Rattle.why_text.specs.Laws.{ShowsOrder}
use Rattle.why_text.specs.PairTexts.{StandAt}

-- ---- The word `same`

-- a text that begins with another sign than this one
begins_else : (c d : ℕ) (cs ds : List ℕ) → (c == d) ≡ false → c ∷ cs ≡ d ∷ ds → ⊥
begins_else c d cs ds apart h = let same : c ≡ d = cc in true≢false (sym (eq-eqb c d same) ∙ apart)

is_same : (source : List ℕ) (s : List Item) (other : List ℕ) (t : List Item) (c : Compared) (text : List ℕ) → text ≡ codes "same\n" → IsComparedText source s other t c text → c ≡ Same
is_same source s other t Same text word h = refl
is_same source s other t (Missing place) text word h = absurd (begins_else 109 115 _ _ refl (sym h.text_is ∙ word))
is_same source s other t (Extra place) text word h = absurd (begins_else 101 115 _ _ refl (sym h.text_is ∙ word))
is_same source s other t (KeptItem number) text word h = absurd (begins_else 107 115 _ _ refl (sym h ∙ word))
is_same source s other t (Reversed p q example) text word h =
    let first : h.second ≡ (codes "reversed\n" ++ h.first_is.pair ++ codes "\n") ++ h.second_is.pair ++ codes "\n" =
    h.second_is.text_is ∙ ap (λ (xs : List ℕ). xs ++ h.second_is.pair ++ codes "\n") h.first_is.text_is in
    let whole : text ≡ ((codes "reversed\n" ++ h.first_is.pair ++ codes "\n") ++ h.second_is.pair ++ codes "\n") ++ doc_text example = h.text_is ∙ ap (λ (xs : List ℕ). xs ++ doc_text example) first in
    absurd (begins_else 114 115 _ _ refl (sym whole ∙ word))
is_same source s other t (Unsure reason) text word h = which (reason == 0) (sym h ∙ word)
  where
    which : (b : Bool) → (if b then codes "unsure spent\n" else codes "unsure " ++ number_line reason) ≡ codes "same\n" → Unsure reason ≡ Same
    which true g = absurd (begins_else 117 115 _ _ refl g)
    which false g = absurd (begins_else 117 115 _ _ refl g)

told_same : (source : List ℕ) (s : List Item) (other : List ℕ) (t : List Item) (c : Compared) (body : Option ℕ) (text : List ℕ) → text ≡ codes "same\n" → IsTold source s other t c body text → c ≡ Same
told_same source s other t c None text word h = is_same source s other t c text word h
told_same source s other t c (Some number) text word (m, m', blocks, h) = is_same (text_at source m.body) m.sheet.items (text_at other m'.body) m'.sheet.items c text word h

-- where the word is told, nothing is found
pub difference_is_nothing : (source other : List ℕ) (pairs : PairsParts) (text : List ℕ) (compared : AreCompared source other pairs text) → text ≡ codes "same\n" → compared.difference ≡ nothing
difference_is_nothing source other pairs text compared word = which (located pairs.answers source compared.first other compared.second compared.difference compared.is_difference)
  where
    same : compared.difference.compared ≡ Same
    same = told_same source compared.first other compared.second compared.difference.compared compared.difference.body text word compared.told

    never : (body : Option ℕ) → IsFoundThere pairs.answers source compared.first other compared.second body Same → ⊥
    never None h = never_found pairs.answers source (opened_of compared.first source) compared.first other (opened_of compared.second other) compared.second h
    never (Some number) (m, m', blocks, h) = never_found pairs.answers (text_at source m.body) [] m.sheet.items (text_at other m'.body) [] m'.sheet.items h

    which : (compared.difference ≡ nothing) ⊎ IsFoundThere pairs.answers source compared.first other compared.second compared.difference.body compared.difference.compared → compared.difference ≡ nothing
    which (inl e) = e
    which (inr h) = absurd (never compared.difference.body (subst (λ (c : Compared). IsFoundThere pairs.answers source compared.first other compared.second compared.difference.body c) same h))

pub texts_win_alike : SameTextsWinAlike
texts_win_alike source other pairs text compared word = record {
  first_read = compared.first_read;
  second_read = compared.second_read;
  pairs = pairs;
  true_list = compared.all_true;
  compared = subst (λ (d : Difference). IsDifference pairs.answers source compared.first other compared.second d) (difference_is_nothing source other pairs text compared word) compared.is_difference;
}

-- ---- Two pairs in another order

module _ (listed : ListedStandsLast) (weighing : WeighingIsDecided) (matching : MatchingIsDecided) (understanding : UnderstandingIsDecided) where
  shown : (pairs : PairsParts) (items : List Item) (p q : PairPlace) (example : Example) → ∥ IsTrueList pairs ∥₁ → AreReversed pairs.answers items p q example →
      (x : SelItem) (d : DeclItem) (y : SelItem) (f : DeclItem) → StandAt items p x d → StandAt items q y f → ∥ ShowsOrder x d y f example ∥₁
  shown pairs items p q example all_true are x d y f stand stand' =
      let first : StandsLast (λ n. true) items are.first = (listed (λ n. true) items are.first).0 are.first_in in
      let second : StandsLast (λ n. true) items are.second = (listed (λ n. true) items are.second).0 are.second_in in
      let at : StandAt items (place_of are.first.place) x d = subst (λ (z : PairPlace). StandAt items z x d) (sym are.first_at) stand in
      let at' : StandAt items (place_of are.second.place) y f = subst (λ (z : PairPlace). StandAt items z y f) (sym are.second_at) stand' in
      let sx : are.first.pair.selector ≡ x.selector = sym (selector_is (λ n. true) items are.first x d first at) in
      let dx : are.first.pair.decl ≡ d.decl = sym (decl_is (λ n. true) items are.first x d first at) in
      let sy : are.second.pair.selector ≡ y.selector = sym (selector_is (λ n. true) items are.second y f second at') in
      let dy : are.second.pair.decl ≡ f.decl = sym (decl_is (λ n. true) items are.second y f second at') in
      let px : are.first.pair ≡ pair_of x d = ap₂ (λ (a : SelectorParts) (c : Decl). record { selector = a; decl = c }) sx dx in
      let py : are.second.pair ≡ pair_of y f = ap₂ (λ (a : SelectorParts) (c : Decl). record { selector = a; decl = c }) sy dy in
      let weigh : Weigh (pair_of x d) (pair_of y f) = subst (λ (z : Pair). Weigh z (pair_of y f)) px (subst (λ (z : Pair). Weigh are.first.pair z) py are.weighs) in
      let meet : ∥ ShowsMeeting are.first.pair.selector are.second.pair.selector example ∥₁ = meeting_shown pairs are.first.pair.selector are.second.pair.selector example all_true are.answered in
      ∥∥₁_map meet (λ h. order_shown matching understanding x d y f example weigh
      (subst (λ (z : SelectorParts). ShowsMeeting z y.selector example) sx (subst (λ (z : SelectorParts). ShowsMeeting are.first.pair.selector z example) sy h)))

  pub pairs_show_order : ReversedPairsShowOrder
  pairs_show_order source s other t pairs p q example body all_true is items of x d y f stand stand' =
      which (located pairs.answers source s other t (record { compared = Reversed p q example; body = body }) is)
    where
      there : (b : Option ℕ) → AreItemsOf source s b items → IsFoundThere pairs.answers source s other t b (Reversed p q example) → AreReversed pairs.answers items p q example
      there None e h =
          subst (λ (xs : List Item). AreReversed pairs.answers xs p q example) (sym e) (found_reversed weighing pairs.answers source (opened_of s source) s other (opened_of t other) t p q example h)
      there (Some number) (m, at, e) (n, n', blocks, h) =
          let one : n ≡ m = some-same (sym blocks.first ∙ at) in
          subst (λ (xs : List Item). AreReversed pairs.answers xs p q example) (ap (λ (z : Media). z.sheet.items) one ∙ sym e)
          (found_reversed weighing pairs.answers (text_at source n.body) [] n.sheet.items (text_at other n'.body) [] n'.sheet.items p q example h)

      which : (record { compared = Reversed p q example; body = body } ≡ nothing) ⊎ IsFoundThere pairs.answers source s other t body (Reversed p q example) → ∥ ShowsOrder x d y f example ∥₁
      which (inl e) = absurd (let bad : Reversed p q example ≡ Same = ap (λ (z : Difference). z.compared) e in cc)
      which (inr h) = shown pairs items p q example all_true (there body of h) x d y f stand stand'
