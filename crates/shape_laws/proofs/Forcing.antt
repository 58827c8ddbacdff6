-- Compounds that have to hold of one element: the elements that a matching visits over `+`, and over siblings to a parent.
use Rattle.std.proofs.Common.{◌≡◌, ℕ, zero, suc, ◌+◌, List, [], ◌∷◌, ◌++◌, length, drop, get_or, Option, Some, None, inl, inr, refl, sym, ap, subst, ◌∙◌, arith}
use Rattle.std.proofs.lemmas.List.{same_from_push}
use Rattle.std.proofs.lemmas.List.Elements.{All-append, All-contains}
use Rattle.std.specs.List.{All}
use Rattle.std.specs.Prelude.{IsSomeAnd, slice_get}
use Rattle.css_model.specs.Cascade.Order.{Meet}
use Rattle.css_model.specs.declared.selector.Combinator.{Combinator}
use Rattle.css_model.specs.declared.selector.Combinator.TheVariants.{Child, Later, Next}
use Rattle.css_model.specs.declared.selector.Simple.{Simple}
use Rattle.css_model.specs.Documents.Document.{Document, ElementAt, IsLegal, IsLegalElement, element_at, elements_of}
use Rattle.css_model.specs.Documents.Features.{CanSuit}
use Rattle.css_model.specs.Documents.Matching.{Allows, CompoundHolds, MatchesFrom, SimpleHolds}
use Rattle.css_model.specs.Documents.SelectorParts.{SelectorParts}
use Rattle.shape_laws.proofs.Elements.Features.{member_at, suits_here}
use Rattle.shape_laws.specs.Forced.{AreOfOne, ForcedCompoundsSuit, GoTogether, IsLinked, ReachesParent, parents, siblings}

-- the compounds from one on match at the path
abbrev MatchesAt : Document → List (List Simple) → List Combinator → ℕ → List ℕ → Type 0
MatchesAt doc chain links i path = MatchesFrom doc (drop i chain) (drop i links) path

some_same : {X : Type 0} {a b : X} → Some a ≡ Some b → a ≡ b
some_same e = cc

-- ---- The compounds of one selector

-- one combinator further
step : (doc : Document) (i : ℕ) (chain : List (List Simple)) (links : List Combinator) (link : Combinator) (path : List ℕ) → length links + 1 ≡ length chain → slice_get links i ≡ Some link → MatchesAt doc chain links i path →
    (other : List ℕ) × Allows link path other × MatchesAt doc chain links (suc i) other
step doc i [] links link path linked at m = absurd (omega (arith, linked))
step doc i (c ∷ chain) [] link path linked at m = absurd (let n : None ≡ Some link = at in cc)
step doc zero (c ∷ []) (l ∷ links) link path linked at m = absurd (omega (arith, linked))
step doc zero (c ∷ d ∷ chain) (l ∷ links) link path linked at (here, (other, allows, rest)) = (other, subst (λ (k : Combinator). Allows k path other) (some_same at) allows, rest)
step doc (suc i) (c ∷ chain) (l ∷ links) link path linked at m = step doc i chain links link path (omega (arith, linked)) at m

none_holds : (doc : Document) (i : ℕ) (links : List Combinator) (path : List ℕ) → MatchesFrom doc (drop i []) links path → ⊥
none_holds doc zero links path m = m
none_holds doc (suc i) links path m = m

-- the compound holds
holds : (doc : Document) (i : ℕ) (chain : List (List Simple)) (links : List Combinator) (path : List ℕ) → length links + 1 ≡ length chain → MatchesAt doc chain links i path → CompoundHolds doc path (get_or chain i [])
holds doc i [] links path linked m = absurd (omega (arith, linked))
holds doc zero (c ∷ []) links path linked m = m
holds doc zero (c ∷ d ∷ chain) [] path linked m = absurd m
holds doc zero (c ∷ d ∷ chain) (l ∷ links) path linked m = m.0
holds doc (suc i) (c ∷ []) [] path linked m = absurd (none_holds doc i [] path m)
holds doc (suc i) (c ∷ d ∷ chain) [] path linked m = absurd (omega (arith, linked))
holds doc (suc i) (c ∷ chain) (l ∷ links) path linked m = holds doc i chain links path (omega (arith, linked)) m

-- over siblings to the parent
record HasParent (doc : Document) (chain : List (List Simple)) (links : List Combinator) (k : ℕ) (path : List ℕ) : Type 0 where
  parent : List ℕ
  number : ℕ
  path_is : path ≡ parent ++ number ∷ []
  matches : MatchesAt doc chain links k parent

-- a sibling has the same parent
sibling_has : (doc : Document) (chain : List (List Simple)) (links : List Combinator) (k : ℕ) (path other parent : List ℕ) (here n : ℕ) → path ≡ parent ++ here ∷ [] → other ≡ parent ++ n ∷ [] → HasParent doc chain links k other → HasParent doc chain links k path
sibling_has doc chain links k path other parent here n is was h =
    let same = same_from_push parent h.parent n h.number (sym was ∙ h.path_is) in
    record { parent = h.parent; number = here; path_is = is ∙ ap (λ (p : List ℕ). p ++ here ∷ []) same.0; matches = h.matches }

reach : (doc : Document) (chain : List (List Simple)) (links : List Combinator) → length links + 1 ≡ length chain → (i n : ℕ) → ReachesParent links i n → (path : List ℕ) → MatchesAt doc chain links i path → HasParent doc chain links (i + suc n) path
reach doc chain links linked i zero at path m = subst (λ (k : ℕ). HasParent doc chain links k path) (let e : suc i ≡ i + 1 = omega arith in e) (by (step doc i chain links Child path linked at m))
  where
    by : ((other : List ℕ) × Allows Child path other × MatchesAt doc chain links (suc i) other) → HasParent doc chain links (suc i) path
    by (other, (n, is), rest) = record { parent = other; number = n; path_is = is; matches = rest }
reach doc chain links linked i (suc n) (inl at, up) path m = subst (λ (k : ℕ). HasParent doc chain links k path) (let e : suc i + suc n ≡ i + suc (suc n) = omega arith in e) (by (step doc i chain links Next path linked at m) (reach doc chain links linked (suc i) n up))
  where
    by : ((other : List ℕ) × Allows Next path other × MatchesAt doc chain links (suc i) other) → ((other : List ℕ) → MatchesAt doc chain links (suc i) other → HasParent doc chain links (suc i + suc n) other) → HasParent doc chain links (suc i + suc n) path
    by (other, (parent, k, is, was), rest) on = sibling_has doc chain links (suc i + suc n) path other parent (suc k) k is was (on other rest)
reach doc chain links linked i (suc n) (inr at, up) path m = subst (λ (k : ℕ). HasParent doc chain links k path) (let e : suc i + suc n ≡ i + suc (suc n) = omega arith in e) (by (step doc i chain links Later path linked at m) (reach doc chain links linked (suc i) n up))
  where
    by : ((other : List ℕ) × Allows Later path other × MatchesAt doc chain links (suc i) other) → ((other : List ℕ) → MatchesAt doc chain links (suc i) other → HasParent doc chain links (suc i + suc n) other) → HasParent doc chain links (suc i + suc n) path
    by (other, (parent, here, k, is, was, less), rest) on = sibling_has doc chain links (suc i + suc n) path other parent here k is was (on other rest)

-- ---- Those of both

-- both match at one element
record Both (doc : Document) (x y : SelectorParts) (i j : ℕ) : Type 0 where
  path : List ℕ
  left : MatchesAt doc x.chain x.links i path
  right : MatchesAt doc y.chain y.links j path

module _ (doc : Document) (x y : SelectorParts) (x_linked : IsLinked x) (y_linked : IsLinked y) where
  beside : (i j : ℕ) → Both doc x y i j → slice_get x.links i ≡ Some Next → slice_get y.links j ≡ Some Next → Both doc x y (suc i) (suc j)
  beside i j b at at' = by (step doc i x.chain x.links Next b.path x_linked at b.left) (step doc j y.chain y.links Next b.path y_linked at' b.right)
    where
      by : ((other : List ℕ) × Allows Next b.path other × MatchesAt doc x.chain x.links (suc i) other) → ((other : List ℕ) × Allows Next b.path other × MatchesAt doc y.chain y.links (suc j) other) → Both doc x y (suc i) (suc j)
      by (other, (parent, n, is, was), rest) (other', (parent', n', is', was'), rest') =
          let same = same_from_push parent' parent (suc n') (suc n) (sym is' ∙ is) in
          let number : n' ≡ n = (let s = same.1 in omega (arith, s)) in
          let one : other' ≡ other = was' ∙ ap (λ (p : List ℕ). p ++ n' ∷ []) same.0 ∙ ap (λ (k : ℕ). parent ++ k ∷ []) number ∙ sym was in
          record { path = other; left = rest; right = subst (λ (p : List ℕ). MatchesAt doc y.chain y.links (suc j) p) one rest' }

  above : (i j m n : ℕ) → Both doc x y i j → ReachesParent x.links i m → ReachesParent y.links j n → Both doc x y (i + suc m) (j + suc n)
  above i j m n b up up' =
      let h = reach doc x.chain x.links x_linked i m up b.path b.left in
      let h' = reach doc y.chain y.links y_linked j n up' b.path b.right in
      let same = same_from_push h'.parent h.parent h'.number h.number (sym h'.path_is ∙ h.path_is) in
      record { path = h.parent; left = h.matches; right = subst (λ (p : List ℕ). MatchesAt doc y.chain y.links (j + suc n) p) same.0 h'.matches }

  at_same : (i j k l : ℕ) → k ≡ i → l ≡ j → Both doc x y i j → Both doc x y k l
  at_same i j k l e f b = subst (λ (n : ℕ). Both doc x y k n) (sym f) (subst (λ (n : ℕ). Both doc x y n j) (sym e) b)

  further : (i j k l : ℕ) → Both doc x y i j → GoTogether x.links y.links i j k l → Both doc x y k l
  further i j k l b (siblings at at' e f) = at_same (suc i) (suc j) k l e f (beside i j b at at')
  further i j k l b (parents m n up up' e f) = at_same (i + suc m) (j + suc n) k l e f (above i j m n b up up')

  both : (path : List ℕ) → MatchesFrom doc x.chain x.links path → MatchesFrom doc y.chain y.links path → (moves i j : ℕ) → AreOfOne x.links y.links moves i j → Both doc x y i j
  both path m m' zero i j (e, f) = at_same 0 0 i j e f (record { path = path; left = m; right = m' })
  both path m m' (suc moves) k l (i, j, o, go) = further i j k l (both path m m' moves i j o) go

-- ---- The law

-- an element of which both compounds hold shows that they can hold of one
one_suits : (doc : Document) (path : List ℕ) (c d : List Simple) → IsLegal doc → CompoundHolds doc path c → CompoundHolds doc path d → CanSuit (c ++ d)
one_suits doc path c d legal first second = by (element_at doc path) refl first second
  where
    by : (o : Option ElementAt) → element_at doc path ≡ o → IsSomeAnd o (λ here. All (λ s. SimpleHolds doc path here s) c) → IsSomeAnd o (λ here. All (λ s. SimpleHolds doc path here s) d) → CanSuit (c ++ d)
    by None is h k = absurd h
    by (Some here) is h k =
        suits_here doc path here (c ++ d) (All-contains IsLegalElement (elements_of doc) here.element legal.elements (member_at doc path here is)) (All-append (λ s. SimpleHolds doc path here s) c d h k)

pub forced_compounds_suit : ForcedCompoundsSuit
forced_compounds_suit x y x_linked y_linked meet moves i j forced =
    let b = both meet.doc x y x_linked y_linked meet.target.path meet.first.element meet.second.element moves i j forced in
    one_suits meet.doc b.path (get_or x.chain i []) (get_or y.chain j []) meet.legal (holds meet.doc i x.chain x.links b.path x_linked b.left) (holds meet.doc j y.chain y.links b.path y_linked b.right)
